-- Demand 3: two channels in Demand Interleave take turns, and where they keep apart the result is that of one after the other.
-- Assumes nothing.
use mathlib.Core.Path.{◌≡◌, refl, sym, ap, ◌∙◌, subst}
use mathlib.Core.Logic.{inl, inr}
use mathlib.Core.Bool.{Bool, true, false, not, cond, ◌&&◌, ◌||◌}
use mathlib.Core.List.{List, ◌∷◌}
use Prim.Native.Nat.{ℕ, zero, suc, ◌≤◌}
use native.Mathlib.Omega.{arith}
use Rattle.refusal.specs.declared.Refusal.{Refusal}
use Rattle.refusal.proofs.Laws.{numbers}
use Rattle.std.specs.Prelude.{None, Option, Some}
use Rattle.space.specs.Space.{Spaces}
use Rattle.space.proofs.Laws.{size_refl}
use Rattle.unit_laws.proofs.Inter.{move}
use Rattle.unit_laws.specs.Fair.{serve, Picks}
use Rattle.unit_laws.proofs.Machine.{Lawful, every_of, counts, as_if_alone}
use Rattle.unit_laws.specs.Local.{Mover}
use Rattle.unit_laws.proofs.Local.{mover}
use Rattle.unit_laws.specs.Inter.{State, Moving, first, second, back, firsts, seconds, units₁, units₂}
use Rattle.unit_laws.specs.Fair.{LatestMover, nobody, channel1, channel2}
use Rattle.unit_laws.specs.Machine.{iter, Every, View, turns as schedule, count₁, count₂, AllApart}
use Rattle.port.specs.declared.Which.{Which}
use Rattle.port.specs.declared.Which.TheVariants.{One, Two}
use Rattle.word_mode.specs.declared.RequestMode.{RequestMode}
use Rattle.word_mode.specs.declared.RequestMode.TheVariants.{DemandInterleave}
use Rattle.word_mode.specs.declared.Reasons.{Reasons}
use Rattle.word_mode.specs.Mode.{request_mode_of, is_interleave}
use Rattle.word_mode.specs.Reasons.{some}
use Rattle.unit.specs.declared.Moved.{Moved}
use Rattle.unit.specs.Unit.{worked}
use Rattle.channel.specs.declared.Channel.{Channel}
use Rattle.channel.specs.Candidate.{is_candidate, interleaves}
use Rattle.channel.specs.Ending.{moved_by, reasons_of, unended, unended_by, after_by, after_unit}
use Rattle.step.specs.declared.Controller.{Controller}
use Rattle.step_rules.specs.declared.Choice.{Choice}
use Rattle.step_rules.specs.declared.Choice.TheVariants as chosen
use Rattle.step_bus.specs.declared.Control.{Control}
use Rattle.step.specs.Answers.{none}
use Rattle.step.specs.Controller.{at, with}
use Rattle.step_rules.proofs.Turns.{next_up, takes_turns}
use Rattle.facts.specs.First.{first_some}
use Rattle.space_board.specs.declared.Board.{Board}
use Rattle.space_board.specs.Board.{board_of}
use Rattle.step_rules.specs.Rules.{refusals, refused_or, is_interleaved, turn_by}
use Rattle.step_rules.proofs.View.{chosen_by}
use Rattle.step_rules.proofs.View.Intends.{noted, begins_unit}
use Rattle.step_rules.proofs.View.Because.{as_intended}
use Rattle.step.specs.Choice.{turn, facts_of, faults_of, choice}
use Rattle.step.proofs.Laws.{chooses}
use Rattle.step.specs.Step.{Outcome, work_of, unit_of, perform_of, step_of}
use Rattle.step_bus.specs.After.{unended_control, control_by}
use Rattle.promises.specs.Machine.{Machine, left, step, answer, next_choice, unit}
use Rattle.promises.specs.Own.{same, owns}
use Rattle.promises.proofs.Stretch.{owns_unit}
use Rattle.promises.proofs.Machine.{unit_channel, unit_spaces}
use Rattle.promises.specs.Demand3.{Interleaving, Start, Fine, state, unit_alone, units, KeepApart, Turned, Demand3}

-- ---- how the machine is seen

abbrev turn_of : Choice → Moving
turn_of chosen.Disabled = back
turn_of (chosen.Refused r) = back
turn_of (chosen.Fetch w s) = back
turn_of chosen.GiveBack = back
turn_of (chosen.Unit One) = first
turn_of (chosen.Unit Two) = second
turn_of (chosen.Hold w) = back
turn_of chosen.Release = back
turn_of chosen.Idle = back

abbrev latest : Option Which → LatestMover
latest None = nobody
latest (Some One) = channel1
latest (Some Two) = channel2

abbrev view : View Machine Channel Channel
view = record { step = step; turn = λ m. turn_of (next_choice m); served = λ m. latest m.controller.control.served; state = state }

abbrev alone : (z : Spaces) → Which → Mover z Channel
alone z w = mover z (unit w)

-- ---- whose turn it is

candidate_ready : (c : Channel) → Interleaving c → is_candidate c ≡ true
unfolding is_candidate
candidate_ready c h = λ i. h.pending i || (h.active i && ((not (h.nac i) && not (h.sip i)) && not (h.ca i)))

interleaves_ready : (c : Channel) → Interleaving c → interleaves c ≡ true
unfolding interleaves
interleaves_ready c h = λ i. not (h.pending i) && is_interleave (h.mode i)

abbrev expected : Bool → Option Which → Board → Controller → Choice
expected true s b u = chosen.GiveBack
expected false s b u = let c = chosen.Unit (next_up s) in refused_or (first_some (refusals c (faults_of b u))) c

module _ (m : Machine) (h : Start m) where
  abbrev u : Controller
  u = m.controller

  turns : turn u ≡ Some (next_up u.control.served)
  unfolding turn
  turns =
      (λ i. turn_by (candidate_ready u.one h.one i) (candidate_ready u.two h.two i)
      (interleaves_ready u.one h.one i && interleaves_ready u.two h.two i) u.control.served)
      ∙ takes_turns u.control.served

  unpending : (w : Which) → (at w u).pending ≡ false
  unfolding at
  unpending One = h.one.pending
  unpending Two = h.two.pending

  by_note : (n : Bool) → u.control.note ≡ n → next_choice m ≡ expected n u.control.served (board_of m.spaces) u
  unfolding choice
  by_note true e = chooses (board_of m.spaces) u (as_intended (noted h.on h.chain e) refl)
  by_note false e =
      let w = next_up u.control.served in
      chosen_by (facts_of u) (faults_of (board_of m.spaces) u) (chosen.Unit w) _ (begins_unit w (record { calm = record { enabled = h.on; chain = h.chain; note = e }; bus = h.bus; turn = turns }) (unpending w)) refl

  choice_of_lem : next_choice m ≡ expected m.controller.control.note m.controller.control.served (board_of m.spaces) m.controller
  choice_of_lem = by_note u.control.note refl

picks_next : (s : Option Which) → Picks (turn_of (chosen.Unit (next_up s))) (latest s)
picks_next None = tt
picks_next (Some One) = tt
picks_next (Some Two) = tt

-- ---- what a step does

-- the machine after a step by a choice
abbrev by : Choice → Machine → Outcome
by c m = perform_of c false m.controller m.spaces

-- a machine after a step: as the laws ask, and ready for the next
record Kept (z : Spaces) (c : Choice) (m : Machine) (n : Machine) : Type 0 where
  serves : latest n.controller.control.served ≡ serve (turn_of c) (latest m.controller.control.served)
  moves : state n ≡ move (alone z One) (alone z Two) (turn_of c) (state m)
  start : Start n
  same : (n.controller.pointer ≡ m.controller.pointer) × (n.controller.master ≡ m.controller.master)

given : (z : Spaces) (m : Machine) → Start m → Kept z chosen.GiveBack m (left (by chosen.GiveBack m))
unfolding perform_of
given z m h = record { serves = refl; moves = refl; start = record { on = h.on; chain = h.chain; bus = h.bus; one = h.one; two = h.two }; same = (refl, refl) }

module _ (w : Which) (c : Channel) (x : Moved) (h : Interleaving c) (fine : some (reasons_of x false) ≡ false) where
  -- an unended unit leaves a ready channel ready
  after_moved : (after_unit w false x c).channel ≡ moved_by x c
  unfolding after_unit unended moved_by
  after_moved =
      ap (λ (b : Bool). (after_by b w (reasons_of x false) (moved_by x c)).channel) fine
      ∙ ap (λ (r : RequestMode). unended_by r (moved_by x c)) h.mode

  ready_moved : Interleaving (moved_by x c)
  unfolding moved_by
  ready_moved = record { mode = h.mode; active = h.active; nac = h.nac; sip = h.sip; ca = h.ca; pending = h.pending }

  ready_after : Interleaving (after_unit w false x c).channel
  ready_after = subst Interleaving (sym after_moved) ready_moved

module _ (z : Spaces) (m : Machine) (h : Start m) where
  -- what a unit of channel w makes of its registers
  abbrev made : Which → Moved
  made w = (worked (work_of (at w m.controller)) m.spaces).moved

  abbrev reasons : Which → Reasons
  reasons w = reasons_of (made w) false

  settled : (w : Which) → Interleaving (at w m.controller) → reasons w ≡ none
      → control_by (some (reasons w)) (request_mode_of (at w m.controller).mode) (is_interleaved m.controller.master)
      (after_unit w false (made w) (at w m.controller)).chains w m.controller.control
      ≡ unended_control DemandInterleave (is_interleaved m.controller.master) w m.controller.control
  unfolding some
  settled w r f = λ i.
      control_by (some (f i)) (r.mode i) (is_interleaved m.controller.master) (after_unit w false (made w) (at w m.controller)).chains w m.controller.control

  unit_kept : (w : Which) → reasons w ≡ none → Kept z (chosen.Unit w) m (left (by (chosen.Unit w) m))
  unfolding perform_of unit_of at with some
  unit_kept One f = record {
    serves = ap (λ (k : Control). latest k.served) (settled One h.one f);
    moves = λ i. record {
      one = sym (unit_channel One m.controller.one m.spaces) i;
      two = m.controller.two;
      spaces = sym (unit_spaces One m.controller.one m.spaces) i;
    };
    start = record {
      on = h.on;
      chain = ap (λ (k : Control). k.chain) (settled One h.one f) ∙ h.chain;
      bus = ap (λ (k : Control). k.bus) (settled One h.one f);
      one = ready_after One m.controller.one (made One) h.one (ap some f);
      two = h.two;
    };
    same = (refl, refl);
  }
  unit_kept Two f = record {
    serves = ap (λ (k : Control). latest k.served) (settled Two h.two f);
    moves = λ i. record {
      one = m.controller.one;
      two = sym (unit_channel Two m.controller.two m.spaces) i;
      spaces = sym (unit_spaces Two m.controller.two m.spaces) i;
    };
    start = record {
      on = h.on;
      chain = ap (λ (k : Control). k.chain) (settled Two h.two f) ∙ h.chain;
      bus = ap (λ (k : Control). k.bus) (settled Two h.two f);
      one = h.one;
      two = ready_after Two m.controller.two (made Two) h.two (ap some f);
    };
    same = (refl, refl);
  }

record Does (z : Spaces) (c : Choice) (m : Machine) : Type 0 where
  kept : Kept z c m (left (by c m))
  picks : Picks (turn_of c) (latest m.controller.control.served)
  kind : Turned (by c m).stepped.answer

module _ (z : Spaces) (m : Machine) (h : Start m) where
  unit_or_refused : (s : Option Which) → m.controller.control.served ≡ s → (k : Option Refusal)
      → Fine (by (refused_or k (chosen.Unit (next_up s))) m).stepped.answer → Does z (refused_or k (chosen.Unit (next_up s))) m
  unfolding perform_of unit_of
  unit_or_refused s e None f = record {
    kept = unit_kept z m h (next_up s) f.1;
    picks = subst (λ (x : Option Which). Picks (turn_of (chosen.Unit (next_up s))) (latest x)) (sym e) (picks_next s);
    kind = inr (refl, f.1);
  }
  unit_or_refused s e (Some r) f = let x = f.0 in let n = (numbers r).0 in absurd (omega arith)

  as_expected : (n : Bool) → Fine (by (expected n m.controller.control.served (board_of m.spaces) m.controller) m).stepped.answer
      → Does z (expected n m.controller.control.served (board_of m.spaces) m.controller) m
  unfolding perform_of
  as_expected true f = record { kept = given z m h; picks = tt; kind = inl refl }
  as_expected false f = let s = m.controller.control.served in unit_or_refused s refl (first_some (refusals (chosen.Unit (next_up s)) (faults_of (board_of m.spaces) m.controller))) f

-- a step of the stretch, and what is kept from its first machine on
record Law (z : Spaces) (m : Machine) : Type 0 where
  lawful : Lawful (alone z One) (alone z Two) view m
  kind : Turned (answer m)

record Since (m n : Machine) : Type 0 where
  start : Start n
  pointer : n.controller.pointer ≡ m.controller.pointer
  master : n.controller.master ≡ m.controller.master

each : (z : Spaces) (m₀ m : Machine) → Since m₀ m → Fine (answer m) → Law z m × Since m₀ (step m)
unfolding step_of
each z m₀ m h f = (
  record { lawful = record { picks = d.picks; serves = d.kept.serves; moves = d.kept.moves }; kind = d.kind },
  record { start = d.kept.start; pointer = d.kept.same.0 ∙ h.pointer; master = d.kept.same.1 ∙ h.master },
)
  where
    e : next_choice m ≡ expected m.controller.control.note m.controller.control.served (board_of m.spaces) m.controller
    e = choice_of_lem m h.start

    d : Does z (next_choice m) m
    d = subst (λ (c : Choice). Does z c m) (sym e)
        (as_expected z m h.start m.controller.control.note (subst (λ (c : Choice). Fine (by c m).stepped.answer) e f))

-- ---- the laws' counts and units alone are the statement's

-- whether a turn is the channel's
abbrev mine : Which → Moving → Bool
mine w first = same w One
mine w second = same w Two
mine w back = false

own_mine : (w : Which) (c : Choice) → mine w (turn_of c) ≡ owns w c
own_mine w chosen.Disabled = refl
own_mine w (chosen.Refused r) = refl
own_mine w (chosen.Fetch v s) = refl
own_mine w chosen.GiveBack = refl
own_mine w (chosen.Unit One) = refl
own_mine w (chosen.Unit Two) = refl
own_mine w (chosen.Hold v) = refl
own_mine w chosen.Release = refl
own_mine w chosen.Idle = refl

-- a turn of a channel is its unit
unit_of_lem : (w : Which) (c : Choice) {t : Moving} → turn_of c ≡ t → mine w t ≡ true → c ≡ chosen.Unit w
unit_of_lem w c e h = owns_unit w c (sym (own_mine w c) ∙ ap (mine w) e ∙ h)

-- the two counts of a schedule, by the channel
abbrev of : Which → List Moving → ℕ
of One cs = firsts cs
of Two cs = seconds cs

one_more : (w : Which) (t : Moving) (cs : List Moving) → of w (t ∷ cs) ≡ cond (mine w t) (suc (of w cs)) (of w cs)
one_more One first cs = refl
one_more One second cs = refl
one_more One back cs = refl
one_more Two first cs = refl
one_more Two second cs = refl
one_more Two back cs = refl

counted : (w : Which) (n : ℕ) (m : Machine) → of w (schedule view n m) ≡ units w n m
counted One zero m = refl
counted Two zero m = refl
counted w (suc n) m =
    one_more w (turn_of (next_choice m)) (schedule view n (step m)) ∙ (λ i. cond (own_mine w (next_choice m) i) (suc (counted w n (step m) i)) (counted w n (step m) i))

alone₁ : (z : Spaces) (n : ℕ) (x : State Channel Channel) → units₁ (alone z One) (alone z Two) n x ≡ iter (unit_alone One) n x
alone₁ z zero x = refl
alone₁ z (suc n) x = alone₁ z n (unit_alone One x)

alone₂ : (z : Spaces) (n : ℕ) (x : State Channel Channel) → units₂ (alone z One) (alone z Two) n x ≡ iter (unit_alone Two) n x
alone₂ z zero x = refl
alone₂ z (suc n) x = alone₂ z n (unit_alone Two x)

all_apart : (n : ℕ) (m : Machine) → KeepApart n m → AllApart (alone m.spaces One) (alone m.spaces Two) view n m
all_apart n m h i j a b e f =
    let k = h i j a b (unit_of_lem One (next_choice (iter step i m)) e refl) (unit_of_lem Two (next_choice (iter step j m)) f refl) in
    record {
      w1w2 = λ l x y. k.writes l x.1 x.0 y.0;
      w1r2 = λ l x y. k.read_by_two l x.1 x.0 y.0;
      r1w2 = λ l x y. k.read_by_one l x.1 x.0 y.0;
    }

-- ---- the demand

pub demand3 : (n : ℕ) (m : Machine) → Start m → Every step (λ x. Fine (answer x)) n m → Demand3 n m
demand3 n m h q = record {
  answers = (every_of step (Since m) (λ x. Fine (answer x)) (λ x. Turned (answer x)) (λ x a b. ((each z m x a b).0.kind, (each z m x a b).1)) n m since q).0;
  turns = subst (λ (k : ℕ). (k ≤ suc (units Two n m)) × (units Two n m ≤ suc k)) (counted One n m)
      (subst (λ (k : ℕ). (count₁ view n m ≤ suc k) × (k ≤ suc (count₁ view n m))) (counted Two n m) (counts (alone z One) (alone z Two) view n m lawful));
  apart = λ a. as_if_alone (alone z One) (alone z Two) view n m (size_refl z) lawful (all_apart n m a)
      ∙ alone₂ z (count₂ view n m) (units₁ (alone z One) (alone z Two) (count₁ view n m) (state m))
      ∙ ap (iter (unit_alone Two) (count₂ view n m)) (alone₁ z (count₁ view n m) (state m))
      ∙ (λ i. iter (unit_alone Two) (counted Two n m i) (iter (unit_alone One) (counted One n m i) (state m)));
  rest = record { pointer = last.pointer; master = last.master; chain = last.start.chain; bus = last.start.bus };
}
  where
    z : Spaces
    z = m.spaces

    since : Since m m
    since = record { start = h; pointer = refl; master = refl }

    kept : Every step (Lawful (alone z One) (alone z Two) view) n m × Since m (iter step n m)
    kept = every_of step (Since m) (λ x. Fine (answer x)) (Lawful (alone z One) (alone z Two) view) (λ x a b. ((each z m x a b).0.lawful, (each z m x a b).1)) n m since q

    lawful : Every step (Lawful (alone z One) (alone z Two) view) n m
    lawful = kept.0

    last : Since m (iter step n m)
    last = kept.1
