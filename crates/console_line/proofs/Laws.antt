-- Laws of the loop that reads the bytes of a poke. Assumes nothing.
use Prim.Native.Nat.{ℕ, zero, suc, ◌+◌, ◌-◌, ◌<◌}
use mathlib.Core.Path.{◌≡◌, ap, sym, ◌∙◌}
use mathlib.Core.List.{List, [], ◌∷◌, ◌++◌}
use borrow.Author.Tests.{eq-eqb, ne_eqb}
use native.Mathlib.Omega.{arith}
use lib.ListN.{length, drop, set, replicate}
use Rattle.std.proofs.lemmas.List.{drop-set-lt, drop-replicate}
use Rattle.std.proofs.Common.{drop-drop}
use Rattle.std.specs.Prelude.{Ok, Err}
use Rattle.console_line.specs.declared.LineError.{LineError}
use Rattle.console_line.specs.declared.LineError.TheVariants.{NotUnderstood}
use Rattle.text_scan.specs.Words.{rest_of}
use Rattle.console_line.specs.Reading.{byte_at, bytes_from}

-- no word is left, no room is left, a byte cannot be read, and a byte is read
module _ (s held : List ℕ) where
  pub bytes_none : (k : ℕ) → length s ≡ 0 → bytes_from k s held ≡ Ok (record { items = held })
  unfolding bytes_from
  bytes_none zero e = rw (eq-eqb (length s) 0 e)
  bytes_none (suc k) e = rw (eq-eqb (length s) 0 e)

  pub bytes_full : (length s ≡ 0 → ⊥) → bytes_from 0 s held ≡ Err NotUnderstood
  unfolding bytes_from
  bytes_full more = rw (ne_eqb (length s) 0 more)

  pub bytes_bad : {e : LineError} (k : ℕ) → 0 < k → (length s ≡ 0 → ⊥) → byte_at s ≡ Err e → bytes_from k s held ≡ Err e
  unfolding bytes_from
  bytes_bad zero h more e = absurd (omega arith)
  bytes_bad (suc k) h more e = rw (ne_eqb (length s) 0 more, e)

  pub bytes_on : {b : ℕ} (k : ℕ) → (length s ≡ 0 → ⊥) → byte_at s ≡ Ok b → bytes_from (suc k) s held ≡ bytes_from k (rest_of s) (held ++ b ∷ [])
  unfolding bytes_from
  bytes_on k more e = rw (ne_eqb (length s) 0 more, e)

-- behind the byte that is put in the first free place the others stay 0
pub still_0 : (n : ℕ) (xs : List ℕ) (b : ℕ) → n < 64 → drop n xs ≡ replicate (64 - n) 0 → drop (n + 1) (set xs n b) ≡ replicate (64 - (n + 1)) 0
still_0 n xs b h e =
    drop-set-lt (n + 1) xs n b (omega arith)
    ∙ sym (drop-drop 1 n xs)
    ∙ ap (λ ys. drop 1 ys) e
    ∙ drop-replicate 1 (64 - n) 0
    ∙ ap (λ k. replicate k 0) (omega arith)
