-- A table of the 256 command bytes whose entries follow the opcode bits. Assumes nothing.
use mathlib.Core.Path.{◌≡◌}
use mathlib.Core.List.{List, map}
use Prim.Native.Nat.{ℕ, ◌+◌, ◌/◌, ◌%◌, ◌^◌}
use native.Mathlib.Omega.{arith}
use lib.ListN.{length, get_or}
use lib.Pow.{field, mod-mod-pow}
use Rattle.facts.proofs.Table.{ruled, each}
use Rattle.word_command.specs.Command.{command_of}
use Rattle.word_command.specs.Figure18.{command_at}

-- the test over the whole table: by each entry Figure 18 has the command that its byte's opcode bits give
abbrev pub FollowsTheOpcodeBits : List ℕ → Type 0
FollowsTheOpcodeBits table = map command_at table ≡ ruled command_of 0 table

-- a field of w's lower bits
within : (w above size below : ℕ) → w % 2 ^ (above + size + below) / 2 ^ below % 2 ^ size ≡ w / 2 ^ below % 2 ^ size
within w above size below = rw (field w (above + size) below, mod-mod-pow (w / 2 ^ below) above size)

-- the upper byte is disregarded
lower_byte : (w : ℕ) → command_of (w % 256) ≡ command_of w
unfolding command_of
lower_byte w = simp (within w 0 3 5, within w 7 1 0, within w 6 1 1, within w 3 1 4, within w 5 1 2)

-- the rule at each byte
pub at_each_byte : (table : List ℕ) → FollowsTheOpcodeBits table → length table ≡ 256 → (w : ℕ) → command_at (get_or table (w % 256) 0) ≡ command_of w
at_each_byte table follows n w = rw (← lower_byte w) (each command_at command_of table follows (w % 256) (omega arith))
