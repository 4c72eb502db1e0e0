-- Words funnelled to bytes, and those bytes to words again.
-- Assumes nothing.
-- ---- the accesses of a funnelled unit: a word's two places, its high half first; and two bytes, in the order they are moved
use mathlib.Core.Path.{◌≡◌, ap, ◌∙◌}
use mathlib.Core.Bool.{Bool}
use Prim.Native.Nat.{ℕ, ◌+◌, ◌*◌, ◌/◌, ◌%◌, ◌<◌}
use native.Mathlib.Omega.{arith}
use mathlib.Core.List.{List, [], ◌∷◌}
use lib.ListN.{get_or}
use Rattle.space.specs.declared.Place.{Place}
use Rattle.space.specs.Space.{Spaces, get, Bytes}
use Rattle.space.specs.Bytes.{gets}
use Rattle.unit_funnel.specs.Funnel.{joined, first_half, second_half}
use Rattle.unit_funnel.proofs.Laws.{halves_joined}
use Rattle.unit_laws.proofs.Local.{gets_agree}
use Rattle.unit_laws.proofs.Block.{values, Arrived}
use Rattle.unit_laws.specs.Block.{To}
use Rattle.unit_laws.specs.Funnel.{to_bytes, to_word}

high_of : (x y : ℕ) → y < 256 → (x * 256 + y) / 256 ≡ x
high_of x y h = omega arith

low_of : (x y : ℕ) → y < 256 → (x * 256 + y) % 256 ≡ y
low_of x y h = omega arith

-- a word to bytes and those bytes to a word: the data come back
pub there_and_back : (high : Bool) (a b h l : Place) (x y : ℕ) → x < 256 → y < 256
    → values (to_word high h l) (values (to_bytes high a b) (x ∷ y ∷ [])) ≡ x ∷ y ∷ []
there_and_back high a b h l x y p q = λ i. top i ∷ bottom i ∷ []
  where
    w : ℕ
    w = x * 256 + y

    whole : joined high (first_half high w % 256) (second_half high w % 256) ≡ w
    whole = halves_joined high w (omega arith)

    top : joined high (first_half high w % 256) (second_half high w % 256) / 256 ≡ x
    top = ap (λ (z : ℕ). z / 256) whole ∙ high_of x y q

    bottom : joined high (first_half high w % 256) (second_half high w % 256) % 256 ≡ y
    bottom = ap (λ (z : ℕ). z % 256) whole ∙ low_of x y q

module _ (n : ℕ) (high : Bool) (wordH wordL byte1 byte2 homeH homeL : ℕ → Place) where
  pub round_trip : (s t s' t' : Spaces) → Bytes s
      → Arrived n (λ k. wordH k ∷ wordL k ∷ []) (λ k. to_bytes high (byte1 k) (byte2 k)) s n t
      → ((l : Place) → To n (λ k. to_bytes high (byte1 k) (byte2 k)) l → get s' l ≡ get t l)
      → Arrived n (λ k. byte1 k ∷ byte2 k ∷ []) (λ k. to_word high (homeH k) (homeL k)) s' n t'
      → (k : ℕ) → k < n → (get t' (homeH k) ≡ get s (wordH k)) × (get t' (homeL k) ≡ get s (wordL k))
  round_trip s t s' t' c x e y k b = (ap (λ (d : List ℕ). get_or d 0 255) whole, ap (λ (d : List ℕ). get_or d 1 255) whole)
    where
      bytes : gets s' (byte1 k ∷ byte2 k ∷ []) ≡ values (to_bytes high (byte1 k) (byte2 k)) (gets s (wordH k ∷ wordL k ∷ []))
      bytes = gets_agree (byte1 k ∷ byte2 k ∷ []) s' t (λ l i. e l (k, b, i)) ∙ x.there k b

      whole : gets t' (homeH k ∷ homeL k ∷ []) ≡ gets s (wordH k ∷ wordL k ∷ [])
      whole =
          y.there k b ∙ ap (values (to_word high (homeH k) (homeL k))) bytes
          ∙ there_and_back high (byte1 k) (byte2 k) (homeH k) (homeL k) (get s (wordH k)) (get s (wordL k)) (c (wordH k)) (c (wordL k))
