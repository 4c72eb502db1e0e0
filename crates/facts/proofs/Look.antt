-- What stands at a number in a list of numbers and values: the meaning of a `match` on a number with many arms. Assumes nothing.
use mathlib.Core.Path.{◌≡◌, refl}
use mathlib.Core.List.{List, [], ◌∷◌}
use Prim.Native.Nat.{ℕ}
use borrow.Author.Tests.{ne_eqb}
use Rattle.std.specs.Prelude.{None}
use Rattle.facts.specs.Look.{look, find}

module _ {A : Type 0} where
  -- p is at no entry, told after B: in this form, with the arms in the entries' order, it is what the arm `_` is told
  abbrev pub Missing : Type 0 → ℕ → List (ℕ × A) → Type 0
  Missing B p [] = B
  Missing B p (e ∷ es) = Missing (B × (p ≡ e.0 → ⊥)) p es

  told : (B : Type 0) (p : ℕ) (es : List (ℕ × A)) → Missing B p es → B
  told B p [] h = h
  told B p (e ∷ es) h = (told (B × (p ≡ e.0 → ⊥)) p es h).0

  pub look_none : (B : Type 0) (d : A) (p : ℕ) (es : List (ℕ × A)) → Missing B p es → d ≡ look d p es
  unfolding look
  look_none B d p [] h = refl
  look_none B d p (e ∷ es) h =
      rw (ne_eqb p e.0 (told (B × (p ≡ e.0 → ⊥)) p es h).1) (look_none (B × (p ≡ e.0 → ⊥)) d p es h)

  pub find_none : (B : Type 0) (p : ℕ) (es : List (ℕ × A)) → Missing B p es → None ≡ find p es
  unfolding find
  find_none B p [] h = refl
  find_none B p (e ∷ es) h =
      rw (ne_eqb p e.0 (told (B × (p ≡ e.0 → ⊥)) p es h).1) (find_none (B × (p ≡ e.0 → ⊥)) p es h)
