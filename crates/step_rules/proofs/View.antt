-- One view of the choice: for each outcome of the rules the facts that hold where they choose it, and that they choose it where these
-- hold. Every proof about a step goes through it. Assumes nothing.
use mathlib.Core.Path.{◌≡◌, refl, ap, ◌∙◌}
use mathlib.Core.Bool.{Bool, true, false, cond}
use Rattle.std.specs.Prelude.{None, Option, Some}
use Rattle.facts.specs.First.{first_some}
use Rattle.refusal.specs.declared.Refusal.{Refusal}
use Rattle.port.specs.declared.Which.{Which}
use Rattle.word_mode.specs.declared.RequestMode.{RequestMode}
use Rattle.word_mode.specs.declared.RequestMode.TheVariants.{Single, DemandHold, DemandRelease, DemandInterleave}
use Rattle.word_reload.specs.declared.Stage.{Stage}
use Rattle.word_reload.specs.declared.Stage.TheVariants.{Reload}
use Rattle.step_rules.specs.declared.Choice.{Choice}
use Rattle.step_rules.specs.declared.Choice.TheVariants.{Disabled, Refused, Fetch, GiveBack, Unit, Hold, Release, Idle}
use Rattle.step_rules.specs.Rules.{Facts, keeping, beginning, turned, intent_by, intent_of, Faults, refusals, refused_or, choice_of}

-- past rules 1 to 3
pub record Calm (f : Facts) : Type 0 where
  pub enabled : f.enabled ≡ true
  pub chain : f.chain ≡ None
  pub note : f.note ≡ false

-- rule 4: w keeps the bus, and its request is active or not
pub record Keeps (a : Bool) (w : Which) (f : Facts) : Type 0 where
  pub calm : Calm f
  pub bus : f.bus ≡ Some w
  pub asks : f.active w ≡ a

-- rules 5 and 6: nobody keeps the bus, and it is this one's turn
pub record Turns (t : Option Which) (f : Facts) : Type 0 where
  pub calm : Calm f
  pub bus : f.bus ≡ None
  pub turn : f.turn ≡ t

abbrev pub is_hold : RequestMode → Bool
is_hold Single = false
is_hold DemandHold = true
is_hold DemandRelease = false
is_hold DemandInterleave = false

-- what the rules intend, by the rule
pub data Intends (f : Facts) : Choice → Type 0 where
  disabled : f.enabled ≡ false → Intends f Disabled
  goes_on_by_rule : (w : Which) (s : Stage) → f.enabled ≡ true → f.chain ≡ Some (w, s) → Intends f (Fetch w s)
  noted : f.enabled ≡ true → f.chain ≡ None → f.note ≡ true → Intends f GiveBack
  keeps : (w : Which) → Keeps true w f → Intends f (Unit w)
  holds : (w : Which) → Keeps false w f → is_hold (f.mode w) ≡ true → Intends f (Hold w)
  releases : (w : Which) → Keeps false w f → is_hold (f.mode w) ≡ false → Intends f Release
  begins_chain : (w : Which) → Turns (Some w) f → f.pending w ≡ true → Intends f (Fetch w Reload)
  begins_unit : (w : Which) → Turns (Some w) f → f.pending w ≡ false → Intends f (Unit w)
  idle : Turns None f → Intends f Idle

-- what comes next: the intent, to which no refusal applies, or its first refusal
pub data Because (f : Facts) (g : Faults) : Choice → Type 0 where
  as_intended : {c : Choice} → Intends f c → first_some (refusals c g) ≡ None → Because f g c
  refused : {c : Choice} {r : Refusal} → Intends f c → first_some (refusals c g) ≡ Some r → Because f g (Refused r)

-- ---- every choice has its reason

module _ (f : Facts) where
  by_keeper : (w : Which) (a : Bool) (r : RequestMode) → Keeps a w f → f.mode w ≡ r → Intends f (keeping a r w)
  by_keeper w true r k e = keeps w k
  by_keeper w false Single k e = releases w k (ap is_hold e)
  by_keeper w false DemandHold k e = holds w k (ap is_hold e)
  by_keeper w false DemandRelease k e = releases w k (ap is_hold e)
  by_keeper w false DemandInterleave k e = releases w k (ap is_hold e)

  by_begin : (w : Which) (p : Bool) → Turns (Some w) f → f.pending w ≡ p → Intends f (beginning p w)
  by_begin w true t e = begins_chain w t e
  by_begin w false t e = begins_unit w t e

  by_turn : (t : Option Which) → Turns t f → Intends f (turned t f)
  by_turn None t = idle t
  by_turn (Some w) t = by_begin w (f.pending w) t refl

  by_rules : (on : Bool) (chain : Option (Which × Stage)) (note : Bool) (bus : Option Which) → f.enabled ≡ on → f.chain ≡ chain → f.note ≡ note → f.bus ≡ bus → Intends f (intent_by on chain note bus f)
  by_rules false chain note bus e c n b = disabled e
  by_rules true (Some (w, s)) note bus e c n b = goes_on_by_rule w s e c
  by_rules true None true bus e c n b = noted e c n
  by_rules true None false (Some w) e c n b =
      by_keeper w (f.active w) (f.mode w) (record { calm = record { enabled = e; chain = c; note = n }; bus = b; asks = refl }) refl
  by_rules true None false None e c n b = by_turn f.turn (record { calm = record { enabled = e; chain = c; note = n }; bus = b; turn = refl })

  pub intends : Intends f (intent_of f)
  unfolding intent_of
  intends = by_rules f.enabled f.chain f.note f.bus refl refl refl refl

module _ (f : Facts) (g : Faults) where
  decided : (c : Choice) (n : Option Refusal) → Intends f c → first_some (refusals c g) ≡ n → Because f g (refused_or n c)
  decided c None i e = as_intended i e
  decided c (Some r) i e = refused i e

  pub because : Because f g (choice_of f g)
  unfolding choice_of
  because = decided (intent_of f) (first_some (refusals (intent_of f) g)) (intends f) refl

-- ---- and where the reason holds, that is the choice

keeping_by : (b : Bool) (r : RequestMode) (w : Which) → is_hold r ≡ b → keeping false r w ≡ cond b (Hold w) Release
keeping_by b Single w e = ap (λ (x : Bool). cond x (Hold w) Release) e
keeping_by b DemandHold w e = ap (λ (x : Bool). cond x (Hold w) Release) e
keeping_by b DemandRelease w e = ap (λ (x : Bool). cond x (Hold w) Release) e
keeping_by b DemandInterleave w e = ap (λ (x : Bool). cond x (Hold w) Release) e

module _ (f : Facts) where
  by : {on : Bool} {chain : (Option (Which × Stage))} {note : Bool} {bus : (Option Which)} → f.enabled ≡ on → f.chain ≡ chain → f.note ≡ note → f.bus ≡ bus → intent_of f ≡ intent_by on chain note bus f
  unfolding intent_of
  by e c n b = λ i. intent_by (e i) (c i) (n i) (b i) f

  kept : (a : Bool) (w : Which) → Keeps a w f → intent_of f ≡ keeping a (f.mode w) w
  kept a w k = by k.calm.enabled k.calm.chain k.calm.note k.bus ∙ ap (λ (a : Bool). keeping a (f.mode w) w) k.asks

  turns : (t : Option Which) → Turns t f → intent_of f ≡ turned t f
  turns t k = by k.calm.enabled k.calm.chain k.calm.note k.bus ∙ ap (λ (t : Option Which). turned t f) k.turn

  pub intended : {c : Choice} → Intends f c → intent_of f ≡ c
  intended (disabled e) = by e refl refl refl
  intended (goes_on_by_rule w s e c) = by e c refl refl
  intended (noted e c n) = by e c n refl
  intended (keeps w k) = kept true w k
  intended (holds w k h) = kept false w k ∙ keeping_by true (f.mode w) w h
  intended (releases w k h) = kept false w k ∙ keeping_by false (f.mode w) w h
  intended (begins_chain w t p) = turns (Some w) t ∙ ap (λ (b : Bool). beginning b w) p
  intended (begins_unit w t p) = turns (Some w) t ∙ ap (λ (b : Bool). beginning b w) p
  intended (idle t) = turns None t

  pub chosen_by : (g : Faults) (c : Choice) (n : Option Refusal) → Intends f c → first_some (refusals c g) ≡ n → choice_of f g ≡ refused_or n c
  unfolding choice_of
  chosen_by g c n i e = ap (λ (x : Choice). refused_or (first_some (refusals x g)) x) (intended i) ∙ ap (λ (x : Option Refusal). refused_or x c) e

  pub only : (g : Faults) {c : Choice} → Because f g c → choice_of f g ≡ c
  only g {c} (as_intended i e) = chosen_by g c None i e
  only g (refused {c} {r} i e) = chosen_by g c (Some r) i e
