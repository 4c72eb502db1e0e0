-- The funnel's promise is not empty: three words to six bytes by channel 1, and back by channel 2. Assumes nothing.
use mathlib.Core.Path.{◌≡◌, refl}
use mathlib.Core.Bool.{Bool, true, false}
use mathlib.Core.List.{List, [], ◌∷◌}
use Prim.Native.Nat.{ℕ, ◌+◌, ◌*◌, ◌/◌, ◌%◌, ◌<◌}
use native.Mathlib.Omega.{arith}
use lib.Dec.{ltb, ltb→lt}
use lib.ListN.{length, get_or}
use Rattle.port.specs.Ports.{channel_at}
use Rattle.facts.proofs.Below.{below}
use Rattle.facts.specs.Look.{look}
use Rattle.space.specs.declared.Width.TheVariants.{Byte, Word}
use Rattle.space.specs.Space.{Space, in_memory, in_io, list_of, SameSize, Bytes}
use Rattle.space.proofs.Laws.{bytes_of_lists, place_inj}
use Rattle.unit_laws.specs.Area.{AreasInside}
use Rattle.unit_laws.specs.Area as area
use Rattle.word_address.specs.declared.Address.{Address}
use Rattle.word_tag.specs.Tag.{direction_of}
use Rattle.word_address.specs.Address.{place_of, stepped_on, SixteenBits}
use Rattle.word_mode.specs.Mode.{operation_of, request_mode_of}
use Rattle.word_mode.specs.Reasons.{some}
use Rattle.unit_comparison.specs.Comparison.{comparison}
use Rattle.unit_accesses.specs.Accesses.{datum_at, stored_at, stepped_set}
use Rattle.unit.specs.Unit.{odd_word, unit_refusal, compared, moved_of, worked}
use Rattle.channel.specs.declared.Channel.{Channel}
use Rattle.channel.specs.Candidate.{is_candidate, interleaves}
use Rattle.channel_request.specs.Request.{requests}
use Rattle.channel.specs.Ending.{moved_by, unended, after_unit}
use Rattle.step.specs.Controller.{at, with}
use Rattle.step.specs.Choice.{turn, choice}
use Rattle.step_rules.specs.Rules.{intent_of, choice_of}
use Rattle.step.specs.Step.{unit_of, perform_of, step_of}
use Rattle.port.specs.declared.Which.TheVariants.{One, Two}
use Rattle.call_line.specs.Lines.{lined, lined_at}
use Rattle.call_reset.specs.Reset.{no_channel}
use Rattle.promises.specs.Calls.{steps, lines, call}
use Rattle.promises.specs.Paced.{line}
use Rattle.promises.specs.Demand2c.{Areas, Half, before, after, ThereAndBack, WordBack}
use Rattle.promises.proofs.Demand2c.{demand2c}
use Rattle.promises.proofs.SearchWitness.{controller, no_unit}
use Rattle.promises.proofs.InterleaveWitness.{working}

-- words at 0, bytes at 8, words at 14, all in memory and up
abbrev pub register : ℕ → Address
register n = record { upper = 0x40; lower = n }

-- a channel with a funnelled transfer of three units before it: A at the bytes, B at the words
abbrev pub funnelling : ℕ → ℕ → ℕ → Channel
funnelling words high low = working (record { a = register 8; b = register words; count = 3 }) high low

abbrev pub bench : List ℕ
bench = 18 ∷ 52 ∷ 86 ∷ 120 ∷ 154 ∷ 188 ∷ 0 ∷ 0 ∷ 0 ∷ 0 ∷ 0 ∷ 0 ∷ 0 ∷ 0 ∷ 0 ∷ 0 ∷ 0 ∷ 0 ∷ 0 ∷ 0 ∷ []

-- channel 1 in single: each unit spends the stored change of its line
abbrev pub there : Half
there = record {
  channel = One;
  by = record {
    calls = lines 1 true ∷ steps ∷ lines 1 false ∷ lines 1 true ∷ steps ∷ lines 1 false ∷ lines 1 true ∷ steps ∷ [];
    machine = record { controller = controller (funnelling 0 0 0x18) no_channel; spaces = record { memory = bench; io = [] } };
  };
  last = 7;
}

-- channel 2 in demand hold, by the software request; it begins with the spaces as channel 1 left them
abbrev pub back : Half
back = record {
  channel = Two;
  by = record {
    calls = steps ∷ steps ∷ steps ∷ [];
    machine = record { controller = controller no_channel (funnelling 14 0x10 0x28); spaces = after there };
  };
  last = 2;
}

words_of : (n : ℕ) → n < 65536 → SixteenBits (register n)
words_of n h = record { upper = omega arith; lower = h }

-- the areas are apart and inside
areas : AreasInside 3 (line Word (register 0)) (line Byte (register 8)) (line Word (register 14)) (before there)
unfolding direction_of
areas = record {
  small = omega arith;
  byte_moves = area.MovesBy.up1;
  word_moves = area.MovesBy2.up2;
  even = refl;
  words_bytes = λ i j x y e. let q = place_inj true ((0 + i / 2 * 2) % 16777216 + i % 2) ((8 + j * 1) % 16777216) e in omega arith;
  bytes_home = λ i j x y e. let q = place_inj true ((8 + i * 1) % 16777216) ((14 + j / 2 * 2) % 16777216 + j % 2) e in omega arith;
  bytes_inside = λ i x. omega arith;
  home_inside = λ i x. omega arith;
}

small : ℕ → Bool
small a = ltb (get_or bench a 255) 256

bytes : Bytes (before there)
unfolding small
bytes = bytes_of_lists (before there) by_space
  where
    by_space : (k : Space) (a : ℕ) → a < length (list_of k (before there)) → get_or (list_of k (before there)) a 255 < 256
    by_space in_memory a h = ltb→lt (get_or bench a 255) 256 (below small 20 tt a h)
    by_space in_io a h = let x : a < 0 = h in absurd (omega arith)

abbrev pub three : Areas
three = record { units = 3; words = register 0; bytes = register 8; home = register 14 }

same_size : SameSize (before there) (before back)
unfolding working call lined_at channel_at lined step_of perform_of choice choice_of intent_of turn is_candidate requests interleaves unit_refusal odd_word worked datum_at stored_at moved_of compared comparison stepped_set place_of stepped_on direction_of operation_of request_mode_of look unit_of at with after_unit moved_by some unended
same_size = record { at = by_space }
  where
    by_space : (k : Space) → length (list_of k (before there)) ≡ length (list_of k (before back))
    by_space in_memory = refl
    by_space in_io = refl

there_and_back : ThereAndBack three there back
unfolding working call lined_at channel_at lined step_of perform_of choice choice_of intent_of turn is_candidate requests interleaves unit_refusal odd_word worked datum_at stored_at moved_of compared comparison stepped_set place_of stepped_on direction_of operation_of request_mode_of look unit_of at with after_unit moved_by some unended
there_and_back = record {
  registers = (words_of 0 (omega arith), words_of 8 (omega arith), words_of 14 (omega arith));
  apart = areas;
  order = refl;
  octets = bytes;
  goes = record {
    ready = record { operation = refl; sixteen_bits = omega arith; pending = refl; spared = refl };
    registers = refl;
    mine = refl;
    last = refl;
    untouched = (no_unit, (no_unit, (no_unit, (no_unit, (no_unit, (no_unit, (no_unit, (no_unit, tt))))))));
  };
  sizes = same_size;
  held = λ j x. refl;
  comes = record {
    ready = record { operation = refl; sixteen_bits = omega arith; pending = refl; spared = refl };
    registers = refl;
    mine = refl;
    last = refl;
    untouched = (no_unit, (no_unit, (no_unit, tt)));
  };
}

pub funnel_witness : (k : ℕ) → k < 3 → WordBack three there back k
funnel_witness = demand2c three there back there_and_back

-- and the words there are these
abbrev pub WordsThere : Type 0
WordsThere =
    (after back).memory
    ≡ 18 ∷ 52 ∷ 86 ∷ 120 ∷ 154 ∷ 188 ∷ 0 ∷ 0 ∷ 18 ∷ 52 ∷ 86 ∷ 120 ∷ 154 ∷ 188 ∷ 18 ∷ 52 ∷ 86 ∷ 120 ∷ 154 ∷ 188 ∷ []
