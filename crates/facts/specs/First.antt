-- A table of conditions and what each gives, such as refusals with their numbers: the first that holds gives the answer. Assumes nothing.
use Rattle.std.specs.Prelude.{◌≡◌, Bool, true, false, cond, ◌⊎◌, ◌≢◌, ◌↔◌, List, [], ◌∷◌, ℕ, Option, None, Some}

module _ {A : Type 0} where
  -- What the first condition that holds gives, or d.
  abbrev pub first_or : A → List (Bool × A) → A
  first_or d [] = d
  first_or d (e ∷ es) = cond e.0 e.1 (first_or d es)

  -- What the first condition that holds gives, where one does.
  abbrev pub first_some : List (Bool × A) → Option A
  first_some [] = None
  first_some (e ∷ es) = cond e.0 (Some e.1) (first_some es)

  -- n is given: its condition holds, and no earlier one does.
  abbrev pub Given : List (Bool × A) → A → Type 0
  Given [] n = ⊥
  Given (e ∷ es) n = ((e.0 ≡ true) × (n ≡ e.1)) ⊎ ((e.0 ≡ false) × Given es n)

  -- An answer is one of its table's or d, and each is given exactly when its condition holds and no earlier one does.
  pub record Exactly (d answer : A) (t : List (Bool × A)) : Type 0 where
    pub is : answer ≡ first_or d t
    pub when : (n : A) → n ≢ d → answer ≡ n ↔ Given t n

-- The number of the first condition that holds, or 0.
abbrev pub first_of : List (Bool × ℕ) → ℕ
first_of t = first_or 0 t
