-- A table of conditions and what each gives: the first that holds gives the answer. Assumes nothing.
use mathlib.Core.Path.{◌≡◌, refl, sym, ap, ◌∙◌}
use mathlib.Core.Bool.{Bool, true, false, cond}
use mathlib.Core.Logic.{inl, inr, ◌≢◌}
use mathlib.Core.List.{List, [], ◌∷◌}
use Rattle.facts.specs.First.{first_or, Given, Exactly}

module _ {A : Type 0} (d : A) where
  given_first : (t : List (Bool × A)) (n : A) → Given t n → first_or d t ≡ n
  given_first [] n h = elim h [ ]
  given_first (e ∷ es) n (inl h) = ap (λ (b : Bool). cond b e.1 (first_or d es)) h.0 ∙ sym h.1
  given_first (e ∷ es) n (inr h) = ap (λ (b : Bool). cond b e.1 (first_or d es)) h.0 ∙ given_first es n h.1

  first_given : (t : List (Bool × A)) (n : A) → n ≢ d → first_or d t ≡ n → Given t n
  first_given [] n z e = absurd (z (sym e))
  first_given (x ∷ es) n z e = go x.0 refl (first_given es n z)
    where
      go : (b : Bool) → x.0 ≡ b → (first_or d es ≡ n → Given es n) → Given (x ∷ es) n
      go true q more = inl (q, sym e ∙ ap (λ (b : Bool). cond b x.1 (first_or d es)) q)
      go false q more = inr (q, more (sym (ap (λ (b : Bool). cond b x.1 (first_or d es)) q) ∙ e))

  pub exactly : (answer : A) (t : List (Bool × A)) → answer ≡ first_or d t → Exactly d answer t
  exactly answer t e = record { is = e; when = λ n z. ((λ q. first_given t n z (sym e ∙ q)), (λ g. e ∙ given_first t n g)) }
