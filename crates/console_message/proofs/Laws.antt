-- A law of a row's bytes. Assumes nothing.
use Prim.Native.Nat.{ℕ, zero, suc, ◌<◌}
use mathlib.Core.Path.{◌≡◌, sym}
use mathlib.Core.List.{List, [], ◌∷◌, ◌++◌, append_assoc, append-nil}
use lib.ListN.{length, take, get_or}
use native.Mathlib.Nat.{le_of_suc-le-suc, not-suc-le-zero}
use Rattle.text_scan.specs.Words.{bytes}
use Rattle.text_print.specs.Text.{hex2_of}
use Rattle.console_message.specs.Phrases.{bytes_of}

-- one byte more of a row
pub one_more : (bs : List ℕ) (i : ℕ) → i < length bs → bytes_of (take (suc i) bs) ≡ bytes_of (take i bs) ++ (bytes " " ++ hex2_of (get_or bs i 0))
unfolding bytes_of
one_more [] i h = absurd (not-suc-le-zero h)
one_more (b ∷ bs) zero h = append-nil (bytes " " ++ hex2_of b)
one_more (b ∷ bs) (suc i) h =
    rw (one_more bs i (le_of_suc-le-suc h)) (sym (append_assoc (bytes " " ++ hex2_of b) (bytes_of (take i bs)) (bytes " " ++ hex2_of (get_or bs i 0))))
