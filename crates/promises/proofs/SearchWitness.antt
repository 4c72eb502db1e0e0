-- The search's promise is not empty: five bytes for 77, of which the third is the first that matches, three times (in single in LineWitness); and five words, of which
-- the third is the first with 77 in a half. Assumes nothing.
use mathlib.Core.Path.{◌≡◌, refl, sym, ◌∙◌}
use mathlib.Core.Logic.{inl, inr}
use mathlib.Core.Bool.{Bool, true, false, true≢false}
use mathlib.Core.List.{[], ◌∷◌}
use Prim.Native.Nat.{ℕ, zero, suc, ◌+◌, ◌*◌, ◌%◌, ◌≤◌, ◌<◌}
use native.Mathlib.Nat.{not-suc-le-zero, le_of_suc-le-suc}
use native.Mathlib.Omega.{arith}
use Rattle.std.specs.Prelude.{None}
use Rattle.facts.specs.Look.{look}
use Rattle.space.specs.declared.Width.{Width}
use Rattle.space.specs.declared.Width.TheVariants.{Byte, Word}
use Rattle.space.specs.declared.Place.{Place}
use Rattle.space.specs.Space.{place_at}
use Rattle.space.proofs.Laws.{place_inj}
use Rattle.unit_laws.specs.Local.{In}
use Rattle.unit_laws.specs.Machine.{iter}
use Rattle.unit_laws.specs.Op.{Area}
use Rattle.unit_laws.specs.Search.{First}
use Rattle.unit_comparison.specs.Comparison.{comparison}
use Rattle.word_tag.specs.Tag.{direction_of}
use Rattle.word_address.specs.Address.{place_of, stepped_on}
use Rattle.word_mode.specs.Mode.{operation_of, request_mode_of}
use Rattle.word_mode.specs.Reasons.{some, enabled_for}
use Rattle.unit_accesses.specs.Accesses.{datum_at, stored_at, stepped_set}
use Rattle.unit.specs.Unit.{odd_word, unit_refusal, compared, moved_of, worked}
use Rattle.channel.specs.declared.Channel.{Channel}
use Rattle.channel.specs.Candidate.{is_candidate, interleaves}
use Rattle.channel_request.specs.Request.{requests}
use Rattle.channel.specs.Ending.{moved_by, unended, after_unit}
use Rattle.step.specs.declared.Controller.{Controller}
use Rattle.port.specs.Ports.{channel_number}
use Rattle.step.specs.Answers.{unit, paper}
use Rattle.step.specs.Controller.{at, with}
use Rattle.step.specs.Choice.{turn, choice}
use Rattle.step_rules.specs.Rules.{intent_of, choice_of}
use Rattle.step.specs.Step.{unit_of, perform_of, step_of}
use Rattle.port.specs.declared.Which.{Which}
use Rattle.port.specs.declared.Which.TheVariants.{One, Two}
use Rattle.call_reset.specs.Reset.{no_register, no_channel}
use Rattle.promises.specs.Machine.{answer, channel}
use Rattle.promises.specs.Calls.{steps, lines, points, reads_pointer, reads, call, Moment, next}
use Rattle.promises.specs.Own.{units_before}
use Rattle.promises.specs.Demand2b.{Search, place, hit, SearchStretch}
use Rattle.promises.proofs.Demand2b.{demand2b}
use Rattle.promises.proofs.Paced.{place_is}
use Rattle.promises.proofs.InterleaveWitness.{working}

-- the width, the match control, the channel of the search, and the upper word of the address 0 that it begins at
abbrev pub seeking_77 : Width → ℕ → Which → ℕ → Search
seeking_77 d control w upper = record { channel = w; width = d; start = record { upper = upper; lower = 0 }; units = 5; pattern = 0x4D4D; mask = 0; control = control }

abbrev pub for_77 : Which → ℕ → Search
for_77 w upper = seeking_77 Byte 2 w upper

-- a channel with such a search before it
abbrev pub searching : ℕ → ℕ → ℕ → Channel
searching upper high low = working (record { a = record { upper = upper; lower = 0 }; b = no_register; count = 5 }) high low

abbrev pub controller : Channel → Channel → Controller
controller one two = record { pointer = 0; master = 1; control = record { chain = None; bus = None; note = false; served = None }; one = one; two = two }

-- all that the promise asks holds; the third unit, which is call i, ends the search by MC alone and leaves a count of 2
abbrev pub EndsThird : Search → ℕ → Moment → Type 0
EndsThird s i x =
    SearchStretch s 2 i x × (units_before s.channel i x ≡ 2)
    × (paper (answer (iter next i x).machine) ≡ record { number = 0; name = unit; channel = channel_number s.channel; why = record { tc = false; mc = true; eop = false }; upper = 0 })
    × ((channel s.channel (next (iter next i x)).machine).current.count ≡ 2)

-- a call that does no unit of the other channel
pub no_unit : {A : Type 0} → false ≡ true → A
no_unit e = absurd (true≢false (sym e))

pub third : (value : ℕ → Bool) → value 0 ≡ false → value 1 ≡ false → value 2 ≡ true → First value 5 2
third value p q r = record { below = omega arith; before = before; here = inl r }
  where
    before : (j : ℕ) → j < 2 → value j ≡ false
    before zero b = p
    before (suc zero) b = q
    before (suc (suc j)) b = absurd (not-suc-le-zero (le_of_suc-le-suc (le_of_suc-le-suc b)))

-- ---- demand hold, by the software request

unfoldable pub holding : Moment
holding = record {
  calls = steps ∷ steps ∷ steps ∷ [];
  machine = record { controller = controller (searching 0x40 0x12 0x2F) no_channel; spaces = record { memory = 10 ∷ 20 ∷ 77 ∷ 40 ∷ 77 ∷ []; io = [] } };
}

pub search_witness : EndsThird (for_77 One 0x40) 2 holding
unfolding holding enabled_for working call step_of perform_of choice choice_of intent_of turn is_candidate requests interleaves unit_refusal odd_word worked datum_at stored_at moved_of compared comparison stepped_set place_of stepped_on direction_of operation_of request_mode_of look unit_of at with after_unit moved_by some unended
search_witness = let d = demand2b (for_77 One 0x40) 2 2 holding stretch in (stretch, refl, d.reasons refl, d.left refl refl)
  where
    stretch : SearchStretch (for_77 One 0x40) 2 2 holding
    stretch = record {
      ready = record { operation = refl; sixteen_bits = omega arith; pending = refl; spared = refl };
      registers = refl;
      first = third (hit (for_77 One 0x40) holding.machine.spaces) refl refl refl;
      mine = refl;
      untouched = (no_unit, (no_unit, (no_unit, tt)));
    }

-- ---- words under match control 3: the low half of the third is 77, and its high half is not

abbrev pub in_a_half : Search
in_a_half = seeking_77 Word 3 One 0x40

unfoldable pub halves : Moment
halves = record {
  calls = steps ∷ steps ∷ steps ∷ [];
  machine = record {
    controller = controller (searching 0x40 0x13 0x2E) no_channel;
    spaces = record { memory = 10 ∷ 11 ∷ 20 ∷ 21 ∷ 30 ∷ 77 ∷ 77 ∷ 77 ∷ 77 ∷ 50 ∷ []; io = [] };
  };
}

pub half_witness : EndsThird in_a_half 2 halves
unfolding halves enabled_for working call step_of perform_of choice choice_of intent_of turn is_candidate requests interleaves unit_refusal odd_word worked datum_at stored_at moved_of compared comparison stepped_set place_of stepped_on direction_of operation_of request_mode_of look unit_of at with after_unit moved_by some unended
half_witness = let d = demand2b in_a_half 2 2 halves stretch in (stretch, refl, d.reasons refl, d.left refl refl)
  where
    stretch : SearchStretch in_a_half 2 2 halves
    stretch = record {
      ready = record { operation = refl; sixteen_bits = omega arith; pending = refl; spared = refl };
      registers = refl;
      first = third (hit in_a_half halves.machine.spaces) refl refl refl;
      mine = refl;
      untouched = (no_unit, (no_unit, (no_unit, tt)));
    }

-- ---- single: each unit spends the stored change of the line; a line call for channel 3 is refused

unfoldable pub by_line : Moment
by_line = record {
  calls = lines 1 true ∷ steps ∷ lines 1 false ∷ lines 1 true ∷ steps ∷ points 0x32 ∷ reads_pointer ∷ reads ∷ lines 3 true ∷ lines 1 false ∷ lines 1 true ∷ steps ∷ [];
  machine = record { controller = controller (searching 0x40 0x02 0x0F) no_channel; spaces = record { memory = 10 ∷ 20 ∷ 77 ∷ 40 ∷ 77 ∷ []; io = [] } };
}

-- ---- channel 2 searches I/O in demand interleave, while channel 1 moves bytes of memory to I/O, past the data

unfoldable pub beside : Moment
beside = record {
  calls = steps ∷ steps ∷ steps ∷ steps ∷ steps ∷ steps ∷ [];
  machine = record {
    controller = controller (working (record { a = record { upper = 0x40; lower = 0 }; b = record { upper = 0; lower = 10 }; count = 9 }) 0x10 0x61) (searching 0 0x12 0x6F);
    spaces = record { memory = 77 ∷ 77 ∷ 77 ∷ []; io = 10 ∷ 0 ∷ 20 ∷ 0 ∷ 77 ∷ 0 ∷ 40 ∷ 0 ∷ 77 ∷ 0 ∷ 0 ∷ 0 ∷ 0 ∷ 0 ∷ 0 ∷ [] };
  };
}

past : (j : ℕ) → 10 ≤ j → (l : Place) → Area 5 (place (for_77 Two 0)) l → ¬ (In l (place_at false j ∷ []))
unfolding direction_of
past j b l x y = go x.2 y
  where
    c : x.0 < 5
    c = x.1

    go : In l (place (for_77 Two 0) x.0) → In l (place_at false j ∷ []) → ⊥
    go (inl e) (inl f) =
        let q = place_inj false ((0 + x.0 * 2) % 16777216) j (sym (place_is Byte (for_77 Two 0).start (record { upper = omega arith; lower = omega arith }) x.0) ∙ sym e ∙ f) in
        omega arith
    go (inl e) (inr f) = elim f [ ]
    go (inr e) f = elim e [ ]

pub beside_witness : EndsThird (for_77 Two 0) 5 beside
unfolding beside enabled_for working call step_of perform_of choice choice_of intent_of turn is_candidate requests interleaves unit_refusal odd_word worked datum_at stored_at moved_of compared comparison stepped_set place_of stepped_on direction_of operation_of request_mode_of look unit_of at with after_unit moved_by some unended
beside_witness = let d = demand2b (for_77 Two 0) 2 5 beside stretch in (stretch, refl, d.reasons refl, d.left refl refl)
  where
    stretch : SearchStretch (for_77 Two 0) 2 5 beside
    stretch = record {
      ready = record { operation = refl; sixteen_bits = omega arith; pending = refl; spared = refl };
      registers = refl;
      first = third (hit (for_77 Two 0) beside.machine.spaces) refl refl refl;
      mine = refl;
      untouched = ((λ e. past 10 (omega arith)), (no_unit, ((λ e. past 12 (omega arith)), (no_unit, ((λ e. past 14 (omega arith)), (no_unit, tt))))));
    }

-- channel 1 has done three units, and its bytes have moved
pub beside_moved : (units_before One 5 beside ≡ 3) × ((iter next 5 beside).machine.spaces.io ≡ 10 ∷ 0 ∷ 20 ∷ 0 ∷ 77 ∷ 0 ∷ 40 ∷ 0 ∷ 77 ∷ 0 ∷ 77 ∷ 0 ∷ 77 ∷ 0 ∷ 77 ∷ [])
unfolding beside working call step_of perform_of choice choice_of intent_of turn is_candidate requests interleaves unit_refusal odd_word worked datum_at stored_at moved_of compared comparison stepped_set place_of stepped_on direction_of operation_of request_mode_of look unit_of at with after_unit moved_by some unended
beside_moved = (refl, refl)
