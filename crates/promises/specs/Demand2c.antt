-- Demand 2, the funnel: words funnelled to bytes and back arrive unchanged. Either channel does either half, in any stretch of steps without
-- EOP with request-line calls, pointer writes and reads and register reads between them, in which the other channel writes none of the areas;
-- both orders of the halves, memory or I/O on each side, up and down. Assumes nothing.
use Rattle.std.specs.Prelude.{◌≡◌, ◌⊎◌, Bool, true, false, ℕ, suc, ◌*◌, ◌<◌}
use Rattle.space.specs.declared.Width.TheVariants.{Byte, Word}
use Rattle.space.specs.declared.Place.{Place}
use Rattle.space.specs.Space.{Spaces, get, SameSize, Bytes}
use Rattle.unit_laws.specs.Machine.{iter, Every}
use Rattle.unit_laws.specs.Op.{Area}
use Rattle.unit_laws.specs.Area.{byte, high, low, AreasInside, word_reads, byte_reads}
use Rattle.unit_funnel.specs.Funnel.{high_first}
use Rattle.word_address.specs.declared.Address.{Address}
use Rattle.word_address.specs.Address.{SixteenBits}
use Rattle.word_operation.specs.declared.Moves.TheVariants as moves
use Rattle.word_operation.specs.Operation.{moving}
use Rattle.word_mode.specs.Mode.{is_flipped}
use Rattle.port.specs.declared.Which.{Which}
use Rattle.promises.specs.Machine.{Machine, channel}
use Rattle.promises.specs.Calls.{Moment, next}
use Rattle.promises.specs.Own.{unit_next, Away, units_before, units_of, Armed}
use Rattle.promises.specs.Paced.{line}

-- a channel's funnelled transfer of N words (`units`): to the bytes by flip 1, from the bytes by flip 0
pub record Funnel : Type 0 where
  pub channel : Which
  pub flip : Bool
  pub words : Address
  pub bytes : Address
  pub units : ℕ

-- as the registers have it: A is the byte side and B the word side
abbrev pub funnel_of : Which → Machine → Funnel
funnel_of w m = record { channel = w; flip = is_flipped (channel w m).mode; words = (channel w m).current.b; bytes = (channel w m).current.a; units = units_of w m }

-- a location of the words or of the bytes
abbrev pub InAreas : Funnel → Place → Type 0
InAreas f l = Area f.units (word_reads (line Word f.words)) l ⊎ Area f.units (byte_reads (line Byte f.bytes)) l

-- In x's machine the transfer is before the channel, and after i calls the next is its last unit; up to and with it the other channel writes
-- neither area.
pub record Funnelled (f : Funnel) (i : ℕ) (x : Moment) : Type 0 where
  pub ready : Armed f.channel (moving moves.Funnel) x.machine
  pub registers : funnel_of f.channel x.machine ≡ f
  pub mine : unit_next f.channel (iter next i x) ≡ true
  pub last : suc (units_before f.channel i x) ≡ f.units
  pub untouched : Every next (Away f.channel (InAreas f)) (suc i) x

-- the starts of N words, of 2 N bytes and of a second N words
pub record Areas : Type 0 where
  pub units : ℕ
  pub words : Address
  pub bytes : Address
  pub home : Address

-- one of the two transfers: its channel, the machine and calls that it is done by, and the number of the call that is its last unit
pub record Half : Type 0 where
  pub channel : Which
  pub by : Moment
  pub last : ℕ

abbrev pub before : Half → Spaces
before h = h.by.machine.spaces

abbrev pub after : Half → Spaces
after h = (next (iter next h.last h.by)).machine.spaces

-- What is taken: the starts are register words; the areas are apart and inside, and none holds; the halves of a word go in one order there and
-- back; the spaces hold bytes. The first area is funnelled to the bytes; from a machine whose byte area holds those, the bytes to the second.
pub record ThereAndBack (a : Areas) (there back : Half) : Type 0 where
  pub registers : SixteenBits a.words × SixteenBits a.bytes × SixteenBits a.home
  pub apart : AreasInside a.units (line Word a.words) (line Byte a.bytes) (line Word a.home) (before there)
  pub order : high_first a.home.upper ≡ high_first a.words.upper
  pub octets : Bytes (before there)
  pub goes : Funnelled (record { channel = there.channel; flip = true; words = a.words; bytes = a.bytes; units = a.units }) there.last there.by
  pub sizes : SameSize (before there) (before back)
  pub held : (j : ℕ) → j < a.units * 2 → get (before back) (byte (line Byte a.bytes) j) ≡ get (after there) (byte (line Byte a.bytes) j)
  pub comes : Funnelled (record { channel = back.channel; flip = false; words = a.home; bytes = a.bytes; units = a.units }) back.last back.by

-- word k of the second area is word k of the first as it was at the start
pub record WordBack (a : Areas) (there back : Half) (k : ℕ) : Type 0 where
  pub high_half : get (after back) (high (line Word a.home) k) ≡ get (before there) (high (line Word a.words) k)
  pub low_half : get (after back) (low (line Word a.home) k) ≡ get (before there) (low (line Word a.words) k)

abbrev pub Demand2c : Type 0
Demand2c = (a : Areas) (there back : Half) → ThereAndBack a there back → (k : ℕ) → k < a.units → WordBack a there back k
