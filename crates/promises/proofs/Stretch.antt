-- What the next call of a stretch does to a channel and to the spaces, by whether it is a unit of that channel. For either channel.
-- Assumes nothing.
use mathlib.Core.Path.{◌≡◌, refl, sym, ap, ◌∙◌, subst}
use mathlib.Core.Bool.{Bool, true, false, ◌&&◌, true≢false}
use mathlib.Core.List.{List, [], ◌∷◌}
use Prim.Native.Nat.{ℕ}
use Rattle.refusal.specs.declared.Refusal.{Refusal}
use Rattle.std.specs.Prelude.{Result, Ok, Err}
use Rattle.space.specs.declared.Place.{Place}
use Rattle.space.specs.Space.{Spaces, get, SameSize}
use Rattle.space.specs.Bytes.{gets}
use Rattle.space.proofs.Laws.{size_refl}
use Rattle.space_board.specs.Board.{board_of}
use Rattle.unit_laws.specs.Local.{Agree}
use Rattle.unit_laws.proofs.Local.{size_puts}
use Rattle.port.specs.declared.Which.{Which}
use Rattle.port.specs.declared.Which.TheVariants.{One, Two}
use Rattle.channel.specs.Set.{◌⟨line≔◌⟩}
use Rattle.step_bus.specs.declared.Control.{Control}
use Rattle.step_rules.specs.declared.Choice.{Choice}
use Rattle.step_rules.specs.declared.Choice.TheVariants as chosen
use Rattle.step.specs.declared.Controller.{Controller}
use Rattle.step.specs.Controller.{at, with}
use Rattle.step.specs.Step.{perform_of, step_of}
use Rattle.call_pointer.specs.Pointer.{pointed}
use Rattle.call_line.specs.Lines.{lined, lined_by, lined_at}
use Rattle.promises.specs.Machine.{Machine, step, next_choice, channel, unit_reads, unit_writes}
use Rattle.promises.specs.Calls.{StretchCall, steps, lines, points, reads_pointer, reads, line, call, Moment, next}
use Rattle.port.specs.Ports.{other, channel_at}
use Rattle.promises.specs.Own.{owns, spares, chain_of_machine, step_next, unit_next, Away}
use Rattle.promises.proofs.Machine.{unit_spaces}
use Rattle.promises.proofs.Own.{unfetched, LeftAlone, by, rest_of, others_keep}

-- ---- a step is what was chosen

step_by : (m : Machine) → step m ≡ by (next_choice m) m
unfolding step_of
step_by m = refl

pub owns_unit : (w : Which) (c : Choice) → owns w c ≡ true → c ≡ chosen.Unit w
owns_unit w chosen.Disabled e = absurd (true≢false (sym e))
owns_unit w (chosen.Refused r) e = absurd (true≢false (sym e))
owns_unit w (chosen.Fetch v s) e = absurd (true≢false (sym e))
owns_unit w chosen.GiveBack e = absurd (true≢false (sym e))
owns_unit One (chosen.Unit One) e = refl
owns_unit One (chosen.Unit Two) e = absurd (true≢false (sym e))
owns_unit Two (chosen.Unit One) e = absurd (true≢false (sym e))
owns_unit Two (chosen.Unit Two) e = refl
owns_unit w (chosen.Hold v) e = absurd (true≢false (sym e))
owns_unit w chosen.Release e = absurd (true≢false (sym e))
owns_unit w chosen.Idle e = absurd (true≢false (sym e))

-- no step changes the sizes of the spaces
sizes_of : (c : Choice) (m : Machine) → SameSize (by c m).spaces m.spaces
unfolding perform_of
sizes_of chosen.Disabled m = size_refl m.spaces
sizes_of (chosen.Refused r) m = size_refl m.spaces
sizes_of (chosen.Fetch v s) m = size_refl m.spaces
sizes_of chosen.GiveBack m = size_refl m.spaces
sizes_of (chosen.Unit v) m =
    subst (λ (z : Spaces). SameSize z m.spaces) (unit_spaces v (channel v m) m.spaces)
    (size_puts (unit_writes (channel v m)) (gets m.spaces (unit_reads (channel v m))) m.spaces)
sizes_of (chosen.Hold v) m = size_refl m.spaces
sizes_of chosen.Release m = size_refl m.spaces
sizes_of chosen.Idle m = size_refl m.spaces

-- ---- another call leaves the spaces, the controller's own state and, but for the line, the channels

record Quiet (m n : Machine) : Type 0 where
  spaces : n.spaces ≡ m.spaces
  control : n.controller.control ≡ m.controller.control
  alone : (w : Which) → channel w n ≡ channel w m ⟨line≔ (channel w n).line ⟩

as_it_was : (m : Machine) → Quiet m m
as_it_was m = record { spaces = refl; control = refl; alone = λ w. refl }

pointed_alone : (p : ℕ) (u : Controller) (w : Which) → at w (pointed p u) ≡ at w u ⟨line≔ (at w (pointed p u)).line ⟩
unfolding at
pointed_alone p u One = refl
pointed_alone p u Two = refl

lined_alone : (v : Which) (active : Bool) (u : Controller) (w : Which)
    → at w (with v (lined active (at v u)) u) ≡ at w u ⟨line≔ (at w (with v (lined active (at v u)) u)).line ⟩
unfolding at with lined
lined_alone One active u One = refl
lined_alone One active u Two = refl
lined_alone Two active u One = refl
lined_alone Two active u Two = refl

lined_control : (v : Which) (active : Bool) (u : Controller) → (with v (lined active (at v u)) u).control ≡ u.control
unfolding with
lined_control One active u = refl
lined_control Two active u = refl

-- a line's level, or a refused one
line_quiet : (n : ℕ) (active : Bool) (m : Machine) → Quiet m (call (line n active) m).after
unfolding call lined_at
line_quiet n active m = go (channel_at n)
  where
    taken : (v : Which) → Quiet m (record { controller = with v (lined active (at v m.controller)) m.controller; spaces = m.spaces })
    taken v = record { spaces = refl; control = lined_control v active m.controller; alone = lined_alone v active m.controller }

    go : (r : Result Which Refusal) → Quiet m (record { controller = (lined_by r active m.controller).state; spaces = m.spaces })
    go (Ok v) = taken v
    go (Err r) = as_it_was m

-- ---- the next call is a step or such a call

data NextCall (x : Moment) : Type 0 where
  a_step : step_next x.calls ≡ true → (next x).machine ≡ by (next_choice x.machine) x.machine → NextCall x
  no_step : step_next x.calls ≡ false → Quiet x.machine (next x).machine → NextCall x

next_call : (x : Moment) → NextCall x
unfolding call
next_call x = go x.calls x.machine
  where
    go : (cs : List StretchCall) (m : Machine) → NextCall (record { calls = cs; machine = m })
    go [] m = no_step refl (as_it_was m)
    go (steps ∷ cs) m = a_step refl (step_by m)
    go (lines n active ∷ cs) m = no_step refl (line_quiet n active m)
    go (points p ∷ cs) m = no_step refl (record { spaces = refl; control = refl; alone = pointed_alone p m.controller })
    go (reads_pointer ∷ cs) m = no_step refl (as_it_was m)
    go (reads ∷ cs) m = no_step refl (as_it_was m)

module _ (w : Which) (x : Moment) where
  abbrev m : Machine
  m = x.machine

  -- whose unit the step is, where the next call is one
  owned_as : (v : Which) {a b : Bool} → step_next x.calls ≡ a → unit_next v x ≡ b → (a && owns v (next_choice m)) ≡ b
  owned_as v q e = sym (ap (λ (c : Bool). c && owns v (next_choice m)) q) ∙ e

  -- no unit of the channel: it is left alone
  pub rest_next : (channel w m).pending ≡ false → spares w (chain_of_machine m) ≡ true → unit_next w x ≡ false → LeftAlone w m (next x).machine
  rest_next p s e = go (next_call x)
    where
      go : NextCall x → LeftAlone w m (next x).machine
      go (a_step q r) = subst (LeftAlone w m) (sym r) (rest_of w (next_choice m) m (owned_as w q e) (unfetched w (board_of m.spaces) m.controller p s) s)
      go (no_step q r) = record { alone = r.alone w; spared = ap (λ (c : Control). spares w c.chain) r.control ∙ s }

  -- .. and so are the places that the other channel keeps away from
  pub keeps_next : (P : Place → Type 0) → Away w P x → unit_next w x ≡ false → Agree P (next x).machine.spaces m.spaces
  keeps_next P u e l y = go (next_call x)
    where
      go : NextCall x → get (next x).machine.spaces l ≡ get m.spaces l
      go (a_step q r) =
          ap (λ (z : Machine). get z.spaces l) r
          ∙ others_keep w P (next_choice m) m (λ o. u (ap (λ (c : Bool). c && owns (other w) (next_choice m)) q ∙ o)) (owned_as w q e) l y
      go (no_step q r) = ap (λ (z : Spaces). get z l) r.spaces

  pub sizes_next : SameSize (next x).machine.spaces m.spaces
  sizes_next = go (next_call x)
    where
      go : NextCall x → SameSize (next x).machine.spaces m.spaces
      go (a_step q r) = subst (λ (z : Machine). SameSize z.spaces m.spaces) (sym r) (sizes_of (next_choice m) m)
      go (no_step q r) = subst (λ (z : Spaces). SameSize z m.spaces) (sym r.spaces) (size_refl m.spaces)

  -- a unit of the channel: the next call is that step
  pub owned : unit_next w x ≡ true → owns w (next_choice m) ≡ true
  owned e = go (step_next x.calls) (owns w (next_choice m)) e
    where
      go : (a b : Bool) → (a && b) ≡ true → b ≡ true
      go true b q = q
      go false b q = absurd (true≢false (sym q))

  pub unit_is : unit_next w x ≡ true → (next x).machine ≡ by (chosen.Unit w) m
  unit_is e = go (next_call x)
    where
      go : NextCall x → (next x).machine ≡ by (chosen.Unit w) m
      go (a_step q r) = r ∙ ap (λ (c : Choice). by c m) (owns_unit w (next_choice m) (owned e))
      go (no_step q r) = absurd (true≢false (sym (owned_as w q e)))
