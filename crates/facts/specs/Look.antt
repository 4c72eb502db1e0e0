-- What stands at a number in a list of numbers and values: the meaning of a `match` on a number with many arms. Assumes nothing.
use Rattle.std.specs.Prelude.{cond, List, [], ◌∷◌, ℕ, eqb, Option, None, Some}

module _ {A : Type 0} where
  -- the value of the first entry at p, or d where there is none
  unfoldable pub look : A → ℕ → List (ℕ × A) → A
  look d p [] = d
  look d p (e ∷ es) = cond (eqb p e.0) e.1 (look d p es)

  -- the value of the first entry at p, where there is one
  unfoldable pub find : ℕ → List (ℕ × A) → Option A
  find p [] = None
  find p (e ∷ es) = cond (eqb p e.0) (Some e.1) (find p es)
