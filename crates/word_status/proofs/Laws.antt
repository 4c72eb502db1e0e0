-- The flags' places in the two words: bit k of the word is the flag that stands at k. Assumes nothing.
use mathlib.Core.Path.{◌≡◌, ap, ◌∙◌}
use mathlib.Core.Bool.{Bool, true, false}
use mathlib.Core.List.{List, [], ◌∷◌}
use Prim.Native.Nat.{ℕ, ◌+◌, ◌*◌, ◌/◌, ◌%◌, ◌^◌, ◌<◌}
use native.Mathlib.Omega.{arith}
use Rattle.facts.specs.Bits.{bit_if}
use Rattle.facts.proofs.Bits.{word_of, flag_at, word_bit}
use Rattle.word_status.specs.declared.Flags.{Flags}
use Rattle.word_status.specs.Status.{status_word, save_word}

worth : (b : Bool) (v : ℕ) → bit_if b v ≡ v * bit_if b 1
worth true v = omega arith
worth false v = omega arith

-- the status word's flags from bit 0 up
abbrev pub status_flags : Flags → List Bool
status_flags s =
    s.tc ∷ s.eop ∷ s.mc ∷ s.mcl ∷ s.mch ∷ s.line ∷ s.masked ∷ false ∷ false ∷ s.sip ∷ s.wfb ∷ s.nac ∷ s.ca ∷ s.ip ∷ false ∷ s.cie ∷ []

-- the save word's flags above the vector
abbrev pub save_flags : Bool → Flags → List Bool
save_flags second s = s.tc ∷ s.eop ∷ s.mc ∷ s.ca ∷ s.mcl ∷ s.mch ∷ s.line ∷ second ∷ []

status_word_lem : (s : Flags) → status_word s ≡ word_of (status_flags s)
status_word_lem s =
    omega (
      arith,
      worth s.cie 0x8000,
      worth s.ip 0x2000,
      worth s.ca 0x1000,
      worth s.nac 0x800,
      worth s.wfb 0x400,
      worth s.sip 0x200,
      worth s.masked 0x40,
      worth s.line 0x20,
      worth s.mch 0x10,
      worth s.mcl 8,
      worth s.mc 4,
      worth s.eop 2,
    )

save_word_lem : (second : Bool) (vector : ℕ) (s : Flags) → save_word second vector s ≡ 256 * word_of (save_flags second s) + vector
save_word_lem second vector s =
    omega (
      arith,
      worth second 0x8000,
      worth s.line 0x4000,
      worth s.mch 0x2000,
      worth s.mcl 0x1000,
      worth s.ca 0x800,
      worth s.mc 0x400,
      worth s.eop 0x200,
      worth s.tc 0x100,
    )

pub status_bit : (s : Flags) (k : ℕ) → status_word s / 2 ^ k % 2 ≡ bit_if (flag_at (status_flags s) k) 1
status_bit s k = ap (λ (w : ℕ). w / 2 ^ k % 2) (status_word_lem s) ∙ word_bit (status_flags s) k

pub save_bit : (second : Bool) (vector : ℕ) (s : Flags) (k : ℕ) → vector < 256
    → save_word second vector s / 256 / 2 ^ k % 2 ≡ bit_if (flag_at (save_flags second s) k) 1
save_bit second vector s k h =
    let e : save_word second vector s / 256 ≡ word_of (save_flags second s) = omega (arith, save_word_lem second vector s) in
    ap (λ (w : ℕ). w / 2 ^ k % 2) e ∙ word_bit (save_flags second s) k

pub save_vector : (second : Bool) (vector : ℕ) (s : Flags) → vector < 256 → save_word second vector s % 256 ≡ vector
save_vector second vector s h = omega (arith, save_word_lem second vector s)
