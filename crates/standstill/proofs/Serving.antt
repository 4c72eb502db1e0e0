-- Nothing is wrong if and only if the step is for this channel: of any facts that are in order. One walk through the rules. Assumes nothing.
use mathlib.Core.Path.{◌≡◌, refl, sym, ap, ◌∙◌}
use mathlib.Core.Bool.{Bool, true, false, not, cond, ◌&&◌, true≢false}
use mathlib.Core.Logic.{◌⊎◌, inl, inr}
use Rattle.std.specs.Prelude.{None, Option, Some, is_none}
use Rattle.refusal.specs.declared.Refusal.{Refusal}
use Rattle.facts.specs.First.{first_or, first_some}
use Rattle.facts.proofs.Flags.{neither}
use Rattle.port.specs.declared.Which.{Which}
use Rattle.port.specs.declared.Which.TheVariants.{One, Two}
use Rattle.port.specs.Ports.{is_other, other}
use Rattle.channel_request.specs.Candidate.{candidate_of}
use Rattle.channel_request.proofs.Candidate.{Ready, candidate_exactly}
use Rattle.channel.specs.declared.Channel.{Channel}
use Rattle.word_reload.specs.declared.Stage.{Stage}
use Rattle.word_reload.specs.declared.Stage.TheVariants.{Reload}
use Rattle.step_rules.specs.declared.Choice.{Choice}
use Rattle.step_rules.specs.declared.Choice.TheVariants as chosen
use Rattle.step_rules.specs.Rules.{Facts, Faults, beginning, intent_of, refusals, refused_or, choice_of}
use Rattle.step_rules.proofs.View.{Calm, Keeps, Turns, Intends, intends}
use Rattle.step_rules.proofs.View.Intends.{disabled, goes_on_by_rule, noted, keeps, holds, releases, begins_chain, begins_unit, idle}
use Rattle.standstill.specs.declared.Cause.{Cause}
use Rattle.standstill.specs.declared.Cause.TheVariants.{NothingWrong, TurnOfTheOther}
use Rattle.standstill.specs.Causes.{chain_on_the_other, bus_kept_by_the_other, turn_of_the_other, own_by, requests_unmasked, turn_causes, refusal_causes, own_causes, causes_by}
use Rattle.standstill.proofs.Parts.{shared_first, request_first, is_nothing, AllNamed, cause_or, refused_first, refused_nothing}

-- ---- this channel and the other

data Is (w : Which) : Which → Type 0 where
  mine : Is w w
  theirs : Is w (other w)

whose : (w v : Which) → Is w v
whose One One = mine
whose One Two = theirs
whose Two One = theirs
whose Two Two = mine

itself : (w : Which) → is_other w w ≡ false
itself One = refl
itself Two = refl

another : (w : Which) → is_other w (other w) ≡ true
another One = refl
another Two = refl

-- the step fetches a word or does a unit for this channel
abbrev pub serves : Which → Choice → Bool
serves w chosen.Disabled = false
serves w (chosen.Refused r) = false
serves w (chosen.Fetch v stage) = not (is_other w v)
serves w chosen.GiveBack = false
serves w (chosen.Unit v) = not (is_other w v)
serves w (chosen.Hold v) = false
serves w chosen.Release = false
serves w chosen.Idle = false

-- ---- the reasons of a channel by itself

and_false : (b : Bool) → (b && false) ≡ false
and_false true = refl
and_false false = refl

serves_or : (w : Which) (n : Option Refusal) (i : Choice) → serves w (refused_or n i) ≡ (is_none n && serves w i)
serves_or w None i = refl
serves_or w (Some r) i = refl

-- past the tests from CA to no request comes only who asks for a unit
bars : (ca sip nac active unmasked : Bool) (more : Cause) → (candidate_of false active nac sip ca ≡ true → is_nothing more ≡ false)
    → is_nothing (request_first ca sip nac active unmasked more) ≡ false
bars true sip nac active unmasked more h = refl
bars false true nac active unmasked more h = refl
bars false false true active unmasked more h = refl
bars false false false false true more h = refl
bars false false false false false more h = refl
bars false false false true unmasked more h = h refl

-- ---- in order

abbrev candidate : Which → Channel → Facts → Bool
candidate w c f = candidate_of (f.pending w) (f.active w) c.status.nac c.interrupt.sip c.status.ca

pub record Unbarred (w : Which) (c : Channel) (f : Facts) : Type 0 where
  pub no_pending : f.pending w ≡ false
  pub no_nac : c.status.nac ≡ false
  pub no_sip : c.interrupt.sip ≡ false
  pub no_ca : c.status.ca ≡ false

-- whose turn it is, that one is a candidate, and nobody's only if neither is; a chain under way leaves no note and the bus free; who keeps the bus is clear
pub record Orderly (w : Which) (c : Channel) (f : Facts) : Type 0 where
  pub turns : Turns (Some w) f → candidate w c f ≡ true
  pub nobodys : Turns None f → candidate w c f ≡ false
  pub chains : (s : Stage) → f.chain ≡ Some (w, s) → (f.note ≡ false) × (f.bus ≡ None)
  pub keeps_clear : f.bus ≡ Some w → Unbarred w c f

module _ (w : Which) (c : Channel) (f : Facts) (g : Faults) (named : (i : Choice) → AllNamed (refusals i g)) (o : Orderly w c f) where
  abbrev why : Cause
  why = first_or NothingWrong (causes_by w c f g)

  abbrev own : Choice → Cause
  own i = first_or NothingWrong (own_causes i w c f g)

  abbrev rest : Cause
  rest = own (own_by f.chain (f.pending w) w)

  abbrev turn : Cause
  turn = first_or NothingWrong (turn_causes w f)

  abbrev others : Bool
  others = turn_of_the_other w f.chain f.bus f.turn

  abbrev refusal : Choice → Option Refusal
  refusal i = first_some (refusals i g)

  abbrev Verdict : Choice → Type 0
  Verdict i = is_nothing why ≡ serves w (refused_or (refusal i) i)

  -- nothing of the controller's own is in the way
  past : {i : Choice} → f.enabled ≡ true → chain_on_the_other w f.chain ≡ false → f.note ≡ false → bus_kept_by_the_other w f.bus ≡ false
      → own_by f.chain (f.pending w) w ≡ i → why ≡ own i
  past e x n b q = λ j. shared_first (not (e j)) (x j) (n j) (b j) (own (q j))

  -- .. and nobody has the bus
  calm : {i : Choice} → Calm f → bus_kept_by_the_other w f.bus ≡ false → beginning (f.pending w) w ≡ i → why ≡ own i
  calm k b q = past k.enabled (ap (chain_on_the_other w) k.chain) k.note b (ap (λ (x : Option (Which × Stage)). own_by x (f.pending w) w) k.chain ∙ q)

  fetches : (v : Which) (s : Stage) → own (chosen.Fetch v s) ≡ cause_or (refusal (chosen.Fetch v s)) turn
  fetches v s = refused_first (refusals (chosen.Fetch v s) g) (turn_causes w f) (named (chosen.Fetch v s))

  ready : Ready (f.active w) c.status.nac c.interrupt.sip c.status.ca → own (chosen.Unit w) ≡ cause_or (refusal (chosen.Unit w)) turn
  ready r =
      (λ j. request_first (r.no_ca j) (r.no_sip j) (r.no_nac j) (r.active_request j) (requests_unmasked c) (first_or NothingWrong (refusal_causes (chosen.Unit w) w f g)))
      ∙ refused_first (refusals (chosen.Unit w) g) (turn_causes w f) (named (chosen.Unit w))

  -- ---- it is this channel's step

  served : (i : Choice) → serves w i ≡ true → others ≡ false → why ≡ cause_or (refusal i) turn → Verdict i
  served i s t e =
      ap is_nothing (e ∙ ap (cause_or (refusal i)) (λ j. cond (t j) TurnOfTheOther NothingWrong))
      ∙ refused_nothing (refusals i g) NothingWrong (named i)
      ∙ sym (serves_or w (refusal i) i ∙ ap (λ (b : Bool). is_none (refusal i) && b) s)

  fetched : (s : Stage) → others ≡ false → why ≡ own (chosen.Fetch w s) → Verdict (chosen.Fetch w s)
  fetched s t e = served (chosen.Fetch w s) (ap not (itself w)) t (e ∙ fetches w s)

  moved : others ≡ false → why ≡ own (chosen.Unit w) → Ready (f.active w) c.status.nac c.interrupt.sip c.status.ca → Verdict (chosen.Unit w)
  moved t e r = served (chosen.Unit w) (ap not (itself w)) t (e ∙ ready r)

  -- ---- it is not

  stands : (i : Choice) → serves w i ≡ false → is_nothing why ≡ false → Verdict i
  stands i s e = e ∙ sym (serves_or w (refusal i) i ∙ ap (λ (b : Bool). is_none (refusal i) && b) s ∙ and_false (is_none (refusal i)))

  -- the bus is the other's
  kept : (i : Choice) → Calm f → f.bus ≡ Some (other w) → serves w i ≡ false → Verdict i
  kept i k b s =
      stands i s
      (ap is_nothing (λ j. shared_first (not (k.enabled j)) (chain_on_the_other w (k.chain j)) (k.note j) ((ap (bus_kept_by_the_other w) b ∙ another w) j) rest))

  -- the turn is the other's
  turned : (i : Choice) → Turns (Some (other w)) f → serves w i ≡ false → Verdict i
  turned i t s = stands i s (ap is_nothing (calm t.calm (ap (bus_kept_by_the_other w) t.bus) refl) ∙ wrong (f.pending w))
    where
      late : (i : Choice) → is_nothing (first_or NothingWrong (refusal_causes i w f g)) ≡ false
      late x =
          ap is_nothing
          (refused_first (refusals x g) (turn_causes w f) (named x)
          ∙ ap (cause_or (refusal x)) (λ j. cond (((λ i. turn_of_the_other w (t.calm.chain i) (t.bus i) (t.turn i)) ∙ another w) j) TurnOfTheOther NothingWrong))
          ∙ refused_nothing (refusals x g) TurnOfTheOther (named x)
          ∙ and_false (is_none (refusal x))

      wrong : (p : Bool) → is_nothing (own (beginning p w)) ≡ false
      wrong true = late (chosen.Fetch w Reload)
      wrong false = bars c.status.ca c.interrupt.sip c.status.nac (f.active w) (requests_unmasked c) _ (λ t. late (chosen.Unit w))

  -- it does not ask
  unasked : (i : Choice) → serves w i ≡ false → why ≡ own (chosen.Unit w) → candidate_of false (f.active w) c.status.nac c.interrupt.sip c.status.ca ≡ false → Verdict i
  unasked i s e n = stands i s (ap is_nothing e ∙ bars c.status.ca c.interrupt.sip c.status.nac (f.active w) (requests_unmasked c) _ (λ t. absurd (true≢false (sym t ∙ n))))

  -- ---- rule by rule

  keeper : Calm f → f.bus ≡ Some w → why ≡ own (chosen.Unit w)
  keeper k b = calm k (ap (bus_kept_by_the_other w) b ∙ itself w) (ap (λ (p : Bool). beginning p w) (o.keeps_clear b).no_pending)

  my_turn : Turns (Some w) f → others ≡ false
  my_turn t = (λ j. turn_of_the_other w (t.calm.chain j) (t.bus j) (t.turn j)) ∙ itself w

  waits : (v : Which) (i : Choice) → Keeps false v f → serves w i ≡ false → Is w v → Verdict i
  waits _ i k s mine =
      unasked i s (keeper k.calm k.bus) (λ j. candidate_of false (k.asks j) c.status.nac c.interrupt.sip c.status.ca)
  waits _ i k s theirs = kept i k.calm k.bus s

  by_rule : (i : Choice) → Intends f i → Verdict i
  by_rule _ (disabled e) = stands chosen.Disabled refl (ap is_nothing (λ j. shared_first (not (e j)) (chain_on_the_other w f.chain) f.note (bus_kept_by_the_other w f.bus) rest))
  by_rule _ (goes_on_by_rule v s e x) = go v s e x (whose w v)
    where
      go : (v : Which) (s : Stage) → f.enabled ≡ true → f.chain ≡ Some (v, s) → Is w v → Verdict (chosen.Fetch v s)
      go _ s e x mine = fetched s (ap (λ (y : Option (Which × Stage)). turn_of_the_other w y f.bus f.turn) x) (past e (ap (chain_on_the_other w) x ∙ itself w) (o.chains s x).0 (ap (bus_kept_by_the_other w) (o.chains s x).1) (ap (λ (y : Option (Which × Stage)). own_by y (f.pending w) w) x ∙ ap (λ (b : Bool). cond b (beginning (f.pending w) w) (chosen.Fetch w s)) (itself w)))
      go _ s e x theirs =
          stands (chosen.Fetch (other w) s) (ap not (another w))
          (ap is_nothing (λ j. shared_first (not (e j)) ((ap (chain_on_the_other w) x ∙ another w) j) f.note (bus_kept_by_the_other w f.bus) rest))
  by_rule _ (noted e x n) = stands chosen.GiveBack refl (ap is_nothing (λ j. shared_first (not (e j)) (chain_on_the_other w (x j)) (n j) (bus_kept_by_the_other w f.bus) rest))
  by_rule _ (keeps v k) = go v k (whose w v)
    where
      go : (v : Which) → Keeps true v f → Is w v → Verdict (chosen.Unit v)
      go _ k mine =
          let q = o.keeps_clear k.bus in
          moved (λ j. turn_of_the_other w (k.calm.chain j) (k.bus j) f.turn) (keeper k.calm k.bus)
          (record { active_request = k.asks; no_nac = q.no_nac; no_sip = q.no_sip; no_ca = q.no_ca })
      go _ k theirs = kept (chosen.Unit (other w)) k.calm k.bus (ap not (another w))
  by_rule _ (holds v k h) = waits v (chosen.Hold v) k refl (whose w v)
  by_rule _ (releases v k h) = waits v chosen.Release k refl (whose w v)
  by_rule _ (begins_chain v t p) = go v t p (whose w v)
    where
      go : (v : Which) → Turns (Some v) f → f.pending v ≡ true → Is w v → Verdict (chosen.Fetch v Reload)
      go _ t p mine = fetched Reload (my_turn t) (calm t.calm (ap (bus_kept_by_the_other w) t.bus) (ap (λ (b : Bool). beginning b w) p))
      go _ t p theirs = turned (chosen.Fetch (other w) Reload) t (ap not (another w))
  by_rule _ (begins_unit v t p) = go v t p (whose w v)
    where
      go : (v : Which) → Turns (Some v) f → f.pending v ≡ false → Is w v → Verdict (chosen.Unit v)
      go _ t p mine = by_request ((candidate_exactly (f.pending w) (f.active w) c.status.nac c.interrupt.sip c.status.ca).0 (o.turns t))
        where
          by_request : (f.pending w ≡ true) ⊎ Ready (f.active w) c.status.nac c.interrupt.sip c.status.ca → Verdict (chosen.Unit w)
          by_request (inl q) = absurd (true≢false (sym q ∙ p))
          by_request (inr r) = moved (my_turn t) (calm t.calm (ap (bus_kept_by_the_other w) t.bus) (ap (λ (b : Bool). beginning b w) p)) r
      go _ t p theirs = turned (chosen.Unit (other w)) t (ap not (another w))
  by_rule _ (idle t) =
      let n = neither (f.pending w) _ (o.nobodys t) in
      unasked chosen.Idle refl (calm t.calm (ap (bus_kept_by_the_other w) t.bus) (ap (λ (b : Bool). beginning b w) n.0)) n.1

  pub nothing_wrong : is_nothing why ≡ serves w (choice_of f g)
  unfolding choice_of
  nothing_wrong = by_rule (intent_of f) (intends f)
