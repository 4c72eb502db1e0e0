-- What is done again and again while it goes on: how a loop that counts its turns finds it. Assumes nothing.
use Rattle.std.specs.Prelude.{ℕ, zero, suc, Bool, cond}

-- the last result, and how many there were
pub record Row (R : Type 0) : Type 0 where
  pub last : R
  pub count : ℕ

-- what gives a result, whether another follows, and from where
pub record Repeats (S R : Type 0) : Type 0 where
  pub result : S → R
  pub follows : S → R → Bool
  pub next : S → R → S

-- With `done` results there, one, and of up to `more` each that follows.
unfoldable pub in_a_row : {S R : Type 0} → Repeats S R → ℕ → ℕ → S → Row R
in_a_row t zero done s = record { last = t.result s; count = suc done }
in_a_row t (suc more) done s =
    let r = t.result s in
    cond (t.follows s r) (in_a_row t more (suc done) (t.next s r)) (record { last = r; count = suc done })
