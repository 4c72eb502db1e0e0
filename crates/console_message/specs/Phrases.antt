-- The console's language: what the lines print that hold no answer of the controller. Assumes nothing.
use Rattle.std.specs.Prelude.{ℕ, List, [], ◌∷◌, ◌++◌, min, get_or}
use Rattle.console_line.specs.declared.LentSpace.{LentSpace}
use Rattle.console_line.specs.declared.LentSpace.TheVariants.{Memory, Io}
use Rattle.text_scan.specs.Words.{bytes}
use Rattle.text_print.specs.Text.{◌⧺◌, hex2_of, hex4_of, hex6_of, decimal_of}

unfoldable pub pointer_of : ℕ → List ℕ
pointer_of w = bytes "pointer " ⧺ hex4_of w

unfoldable pub lent_of : LentSpace → ℕ → List ℕ
lent_of Memory n = bytes "memory " ⧺ decimal_of n
lent_of Io n = bytes "io " ⧺ decimal_of n

unfoldable pub poked_of : ℕ → List ℕ
poked_of n = bytes "poked " ⧺ decimal_of n

-- a row of a peek: the address, and each byte behind a blank
unfoldable pub bytes_of : List ℕ → List ℕ
bytes_of [] = []
bytes_of (b ∷ bs) = (bytes " " ⧺ hex2_of b) ⧺ bytes_of bs

unfoldable pub row_of : ℕ → List ℕ → List ℕ
row_of at bs = hex6_of at ⧺ bytes_of bs

-- the line of the input by its number
unfoldable pub not_understood_of : ℕ → List ℕ
not_understood_of n = bytes "error " ⧺ decimal_of n ⧺ bytes " not understood"

unfoldable pub too_large_of : ℕ → List ℕ
too_large_of n = bytes "error " ⧺ decimal_of n ⧺ bytes " too large"

-- the help: a line for each call, then for each word of the bench
abbrev pub calls : List (List ℕ)
calls =
    bytes "reset                        pull the reset line"
    ∷ bytes "pointer HHHH                 write the pointer, and show what it keeps"
    ∷ bytes "pointer                      read the pointer"
    ∷ bytes "write HHHH                   write the register at the pointer"
    ∷ bytes "read                         read the register at the pointer"
    ∷ bytes "set HHHH HHHH                write the pointer, then its register"
    ∷ bytes "get HHHH                     write the pointer, then read its register"
    ∷ bytes "line C active|inactive       set the level of channel C's request line"
    ∷ bytes "acknowledge                  acknowledge an interrupt"
    ∷ bytes "step [eop]                   make one step, with EOP given or not"
    ∷ bytes "run N                        make up to N steps, at most 65536"
    ∷ bytes "why C                        say why channel C stands still"
    ∷ []

abbrev pub bench : List (List ℕ)
bench =
    bytes "memory N, io N               lend N bytes of 00 anew"
    ∷ bytes "poke memory|io AAAAAA HH ..  store 1 to 64 bytes from an address on"
    ∷ bytes "peek memory|io AAAAAA N      show N bytes from an address on"
    ∷ bytes "state                        show all that the controller holds"
    ∷ bytes "help                         show this list"
    ∷ []

-- past the end, the last line
unfoldable pub help_of : ℕ → List ℕ
help_of n = get_or (calls ++ bench) (min n 16) []
