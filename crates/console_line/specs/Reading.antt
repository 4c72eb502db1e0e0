-- The console's language: what each line asks for. Assumes nothing.
use Rattle.std.specs.Prelude.{ℕ, zero, suc, ◌%◌, Bool, true, false, cond, List, [], ◌∷◌, ◌++◌, eqb, ltb, length, Option, None, Some, Result, Ok, Err}
use Rattle.std.specs.Option.{ok_or}
use Rattle.arrayvec.specs.ArrayVec.{ArrayVec}
use Rattle.console_line.specs.declared.LentSpace.{LentSpace}
use Rattle.console_line.specs.declared.LentSpace.TheVariants as space
use Rattle.console_line.specs.declared.RegisterCall.TheVariants as call
use Rattle.console_line.specs.declared.Advance.TheVariants as advance
use Rattle.console_line.specs.declared.Request.{Request}
use Rattle.console_line.specs.declared.Request.TheVariants as request
use Rattle.console_line.specs.declared.LineError.{LineError}
use Rattle.console_line.specs.declared.LineError.TheVariants.{NotUnderstood, TooLarge}
use Rattle.console_line.specs.declared.Name.{Name}
use Rattle.console_line.specs.declared.Name.TheVariants as name
use Rattle.text_scan.specs.Words.{bytes, code_of, first_of, rest_of, same_of}
use Rattle.text_scan.specs.Numbers.{number_of, hex_of, up_to_255}
use Rattle.console_line.specs.Names.{named, names}

-- what is read, or why not
abbrev pub Reading : Type 0 → Type 0
Reading A = Result A LineError

-- where a part cannot be read, the whole cannot
abbrev pub and_then : {A B : Type 0} → Reading A → (A → Reading B) → Reading B
and_then (Ok x) f = f x
and_then (Err e) f = Err e

abbrev pub understood : {A : Type 0} → Option A → Reading A
understood o = ok_or o NotUnderstood

-- a line is read whole: nothing follows its last word
unfoldable pub last_of : List ℕ → Request → Reading Request
last_of more r = cond (eqb (length more) 0) (Ok r) (Err NotUnderstood)

-- the first word of a text, as a number
unfoldable pub word_at : List ℕ → Reading ℕ
word_at s = and_then (understood (hex_of 4 (first_of s))) (λ w. Ok (w % 65536))

unfoldable pub byte_at : List ℕ → Reading ℕ
byte_at s = and_then (understood (hex_of 2 (first_of s))) (λ b. Ok (b % 256))

unfoldable pub address_at : List ℕ → Reading ℕ
address_at s = understood (hex_of 6 (first_of s))

unfoldable pub decimal_at : List ℕ → Reading ℕ
decimal_at s = understood (number_of 10 (first_of s))

unfoldable pub channel_at : List ℕ → Reading ℕ
channel_at s = understood (up_to_255 (number_of 10 (first_of s)))

unfoldable pub space_of : List ℕ → Option LentSpace
space_of s = cond (same_of s (bytes "memory")) (Some space.Memory) (cond (same_of s (bytes "io")) (Some space.Io) None)

unfoldable pub space_at : List ℕ → Reading LentSpace
space_at s = understood (space_of (first_of s))

unfoldable pub pointer_of : List ℕ → Reading Request
pointer_of s =
    cond (eqb (length s) 0) (Ok (request.Make call.ReadPointer))
    (and_then (word_at s) (λ w. last_of (rest_of s) (request.Make (call.WritePointer w))))

abbrev pub write_of : List ℕ → Reading Request
write_of s = and_then (word_at s) (λ w. last_of (rest_of s) (request.Make (call.Write w)))

unfoldable pub set_of : List ℕ → Reading Request
set_of s =
    and_then (word_at s)
    (λ p. and_then (word_at (rest_of s)) (λ w. last_of (rest_of (rest_of s)) (request.Make (call.Set p w))))

abbrev pub get_of : List ℕ → Reading Request
get_of s = and_then (word_at s) (λ p. last_of (rest_of s) (request.Make (call.Get p)))

unfoldable pub level_at : List ℕ → Reading Bool
level_at s =
    cond (same_of (first_of s) (bytes "active")) (Ok true)
    (cond (same_of (first_of s) (bytes "inactive")) (Ok false) (Err NotUnderstood))

unfoldable pub level_of : ℕ → List ℕ → Reading Request
level_of c s = and_then (level_at s) (λ active. last_of (rest_of s) (request.Make (call.Line c active)))

unfoldable pub line_of : List ℕ → Reading Request
line_of s = and_then (channel_at s) (λ c. level_of c (rest_of s))

unfoldable pub step_of : List ℕ → Reading Request
step_of s =
    cond (eqb (length s) 0) (Ok (request.Advance (advance.Step false)))
    (cond (same_of (first_of s) (bytes "eop")) (last_of (rest_of s) (request.Advance (advance.Step true))) (Err NotUnderstood))

abbrev pub run_of : List ℕ → Reading Request
run_of s = and_then (decimal_at s) (λ n. last_of (rest_of s) (request.Advance (advance.Run n)))

abbrev pub why_of : List ℕ → Reading Request
why_of s = and_then (channel_at s) (λ c. last_of (rest_of s) (request.Why c))

-- the most bytes that are lent
unfoldable pub limit_of : LentSpace → ℕ
limit_of space.Memory = 1048576
limit_of space.Io = 65536

-- a line is read whole before its count is compared
unfoldable pub within_of : ℕ → ℕ → Reading Request → Reading Request
within_of limit n r = and_then r (λ asked. cond (ltb limit n) (Err TooLarge) (Ok asked))

unfoldable pub lend_of : LentSpace → List ℕ → Reading Request
lend_of z s = and_then (decimal_at s) (λ n. within_of (limit_of z) n (last_of (rest_of s) (request.Lend z n)))

-- at most 65,536 bytes are looked at
unfoldable pub peek_of : List ℕ → Reading Request
peek_of s =
    and_then (space_at s)
    (λ z. and_then (address_at (rest_of s))
    (λ at. and_then (decimal_at (rest_of (rest_of s)))
    (λ n. within_of 65536 n (last_of (rest_of (rest_of (rest_of s))) (request.Peek z at n)))))

-- the bytes that words are, behind those that were read; k more have room
unfoldable pub bytes_from : ℕ → List ℕ → List ℕ → Reading (ArrayVec ℕ)
bytes_from zero s held = cond (eqb (length s) 0) (Ok (record { items = held })) (Err NotUnderstood)
bytes_from (suc k) s held =
    cond (eqb (length s) 0) (Ok (record { items = held }))
    (and_then (byte_at s) (λ b. bytes_from k (rest_of s) (held ++ b ∷ [])))

-- a poke of no byte is not understood
unfoldable pub poke_of : List ℕ → Reading Request
poke_of s =
    and_then (space_at s)
    (λ z. and_then (address_at (rest_of s))
    (λ at. and_then (bytes_from 64 (rest_of (rest_of s)) [])
    (λ bs. cond (eqb (length bs.items) 0) (Err NotUnderstood) (Ok (request.Poke z at bs)))))

-- what a line of a name asks, with the words that follow
unfoldable pub ask_of : Name → List ℕ → Reading Request
ask_of name.Reset s = last_of s (request.Make call.Reset)
ask_of name.Pointer s = pointer_of s
ask_of name.Write s = write_of s
ask_of name.Read s = last_of s (request.Make call.Read)
ask_of name.Set s = set_of s
ask_of name.Get s = get_of s
ask_of name.Line s = line_of s
ask_of name.Acknowledge s = last_of s (request.Make call.Acknowledge)
ask_of name.Step s = step_of s
ask_of name.Run s = run_of s
ask_of name.Why s = why_of s
ask_of name.Poke s = poke_of s
ask_of name.Peek s = peek_of s
ask_of name.State s = last_of s request.State
ask_of name.Help s = last_of s request.Help

-- a line whose first word is a space lends it
unfoldable pub word_of : List ℕ → Option LentSpace → List ℕ → Reading Request
word_of w (Some z) s = lend_of z s
word_of w None s = and_then (understood (named w names)) (λ name. ask_of name s)

-- a line: its comment does not count, and an empty one does nothing
unfoldable pub read_of : List ℕ → Reading (Option Request)
read_of line =
    let s = code_of line in
    cond (eqb (length s) 0) (Ok None) (and_then (word_of (first_of s) (space_of (first_of s)) (rest_of s)) (λ r. Ok (Some r)))
