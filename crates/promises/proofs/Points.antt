-- Document 01, "Points on both sides": the points that are proved, as a single table under one claim, of the rules themselves.
-- Assumes nothing.
use mathlib.Core.Path.{◌≡◌, refl, ap, subst, ◌∙◌}
use mathlib.Core.Bool.{false}
use Prim.Native.Nat.{ℕ, ◌+◌, ◌-◌}
use Rattle.facts.specs.Look.{look, find}
use Rattle.unit_comparison.specs.Comparison.{comparison}
use Rattle.word_tag.specs.Tag.{direction_of}
use Rattle.word_address.specs.Address.{stepped_on}
use Rattle.word_mode.specs.Mode.{operation_of}
use Rattle.word_reload.specs.declared.Stage.TheVariants.{Reload}
use Rattle.word_reload.specs.Reload.{words_of}
use Rattle.unit_accesses.specs.Accesses.{stepped_set, upper_changes}
use Rattle.unit.specs.Unit.{compared, moved_of}
use Rattle.word_command.specs.Command.{command_of}
use Rattle.port.specs.declared.Which.TheVariants.{One}
use Rattle.port_write.specs.Writable.{write_port}
use Rattle.chain_stride.specs.Fetches.{fetches_of}
use Rattle.chain_stride.specs.Length.{WholeChain}
use Rattle.chain_stride.proofs.Length.{chain_length}
use Rattle.step.specs.declared.Controller.{Controller}
use Rattle.step.specs.Controller.{at, with}
use Rattle.call_command.specs.Commands.{takes, is_busy, commanded_by, commanded}
use Rattle.call_write.specs.Writing.{write_by, write_of}
use Rattle.promises.specs.Points.{TakesWords, interrupting, Points}

words_taken : (r n : ℕ) → words_of r ≡ n → TakesWords r n
words_taken r n e m c k q = subst (λ (x : ℕ). WholeChain x (fetches_of m (x - 1 + k) 0 Reload c)) (ap words_of q ∙ e) (chain_length m c k)

at_2_e : (w : ℕ) (u : Controller) → u.pointer ≡ 0x2E → write_of w u ≡ commanded (command_of w) One u
unfolding write_of write_port look find
at_2_e w u e = ap (λ (p : ℕ). write_by (write_port p) w u) e

same_one : (u : Controller) → with One (at One u) u ≡ u
unfolding with at
same_one u = refl

obeyed : (w : ℕ) (u : Controller) → is_busy u ≡ false → commanded_by false (is_busy u) (command_of w) One u ≡ commanded_by false false (command_of w) One u
obeyed w u e = λ i. commanded_by false (e i) (command_of w) One u

set_both : (u : Controller) → is_busy u ≡ false → commanded (command_of 0x36) One u ≡ takes (interrupting u)
unfolding commanded command_of look find
set_both u e = obeyed 0x36 u e

set_none : (u : Controller) → is_busy u ≡ false → commanded (command_of 0x20) One u ≡ takes u
unfolding commanded command_of look find
set_none u e = obeyed 0x20 u e ∙ ap takes (same_one u)

pub points : Points
unfolding words_of stepped_on direction_of moved_of stepped_set upper_changes compared comparison operation_of look find
points = record {
  p1 = words_taken 0x0282 6 refl;
  p2 = words_taken 0x03FF 18 refl;
  p3 = words_taken 0xFC00 1 refl;
  p4 = refl;
  p5 = refl;
  p6 = refl;
  e5 = (refl, refl, refl, refl, refl);
  e5_units = (refl, refl, refl);
  p7 = λ w datum. (refl, refl);
  p8 = λ w datum. (refl, refl);
  p9 = refl;
  p10 = refl;
  p11 = (refl, refl, refl, refl);
  e2 = refl;
  p12 = λ u e b. (at_2_e 0x36 u e ∙ set_both u b, at_2_e 0x20 u e ∙ set_none u b);
}
