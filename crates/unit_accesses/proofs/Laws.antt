-- A unit writes its accesses and nothing else. Assumes nothing.
use mathlib.Core.Path.{◌≡◌}
use mathlib.Core.Bool.{Bool}
use mathlib.Core.List.{List}
use Prim.Native.Nat.{ℕ}
use Rattle.space.specs.Space.{Spaces}
use Rattle.unit_laws.specs.Local.{puts}
use Rattle.unit_laws.proofs.Local.{puts_writing}
use Rattle.word_operation.specs.declared.Moves.{Moves}
use Rattle.word_address.specs.declared.Set.{Set}
use Rattle.unit_accesses.specs.Accesses.{bytes, writes_of, datum_of, written_of, stored_at, writes_by}

pub writes_exactly : (m : Moves) (flip : Bool) (s : Set) (d : List ℕ) (z : Spaces) → puts (writes_by m flip s) d z ≡ stored_at m flip s (datum_of m flip s d) z
unfolding stored_at
writes_exactly m flip s d z = puts_writing 0 (bytes (writes_of m flip s)) (λ x. written_of m flip s (datum_of m flip s x)) d z
