-- Document 01, "Moving a unit" and refusals 7 and 8: what a unit makes of its channel's registers and of the spaces. Assumes nothing.
use Rattle.std.specs.Prelude.{ℕ, Bool, false, not, cond, ◌||◌, List, [], ◌∷◌, Option}
use Rattle.facts.specs.First.{first_some}
use Rattle.refusal.specs.declared.Refusal.{Refusal}
use Rattle.refusal.specs.declared.Refusal.TheVariants.{NotCarried, OddWord}
use Rattle.space.specs.declared.Width.{Width}
use Rattle.space.specs.declared.Width.TheVariants.{Byte, Word}
use Rattle.space.specs.Space.{Spaces}
use Rattle.space_board.specs.declared.Board.{Board}
use Rattle.unit_comparison.specs.declared.Compared.{Compared}
use Rattle.unit_count.specs.Count.{fewer, terminal}
use Rattle.unit_comparison.specs.Comparison.{comparison}
use Rattle.word_address.specs.declared.Address.{Address}
use Rattle.word_address.specs.declared.Set.{Set}
use Rattle.word_address.specs.Address.{is_odd}
use Rattle.word_mode.specs.declared.Mode.{Mode}
use Rattle.word_operation.specs.declared.Moves.{Moves}
use Rattle.word_operation.specs.declared.Operation.{Operation}
use Rattle.word_operation.specs.Operation.{carried, datum_width}
use Rattle.word_mode.specs.Mode.{operation_of, is_flipped, match_control}
use Rattle.unit_accesses.specs.Accesses.{Access, reads_of, writes_of, datum_at, stored_at, stepped_set, upper_changes}
use Rattle.unit.specs.declared.Moved.{Moved}
use Rattle.unit.specs.declared.Work.{Work}

-- ---- refusals 7 and 8

abbrev pub odd_at : Width → Address → Bool
odd_at Byte a = false
odd_at Word a = is_odd a

abbrev pub some_odd : List Access → Bool
some_odd [] = false
some_odd (x ∷ xs) = odd_at x.width x.address || some_odd xs

-- A word side at an odd address that the unit uses.
unfoldable pub odd_word : Moves → Bool → Set → Bool
odd_word m flip s = some_odd (reads_of m flip s) || some_odd (writes_of m flip s)

-- 7: operation 2, 3, 6, 7, A or B. 8: a word side at an odd address that it uses. No rule of document 01 looks at the board.
abbrev pub unit_refusals : Board → Mode → Set → List (Bool × Refusal)
unit_refusals b m s = (not (carried (operation_of m)), NotCarried) ∷ (odd_word (operation_of m).moves (is_flipped m) s, OddWord) ∷ []

unfoldable pub unit_refusal : Board → Mode → Set → Option Refusal
unit_refusal b m s = first_some (unit_refusals b m s)

-- ---- the registers

-- Only operations 4, 5 and C to F compare; the others leave MCH and MCL alone.
unfoldable pub compared : Operation → ℕ → ℕ → ℕ → ℕ → Compared → Compared
compared o datum pattern mask control kept = cond o.compares (comparison (datum_width o.moves) datum pattern mask control) kept

unfoldable pub moved_of : Work → ℕ → Moved
moved_of w datum = record {
  set = stepped_set (operation_of w.mode).moves (is_flipped w.mode) w.set;
  compared = compared (operation_of w.mode) datum w.pattern w.mask (match_control w.mode) w.kept;
  tc = terminal (fewer w.set.count);
  upper = upper_changes (operation_of w.mode).moves (is_flipped w.mode) w.set;
}

-- ---- the unit's work: what it leaves of the registers, and the spaces

pub record Worked : Type 0 where
  pub moved : Moved
  pub spaces : Spaces

abbrev pub whole : Moved → Spaces → Worked
whole m z = record { moved = m; spaces = z }

unfoldable pub worked : Work → Spaces → Worked
worked w z =
    let m = (operation_of w.mode).moves in
    let flip = is_flipped w.mode in
    let datum = datum_at m flip w.set z in
    whole (moved_of w datum) (stored_at m flip w.set datum z)
