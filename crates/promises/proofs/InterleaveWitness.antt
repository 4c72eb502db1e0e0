-- The promise of demand 3 is not empty: a machine and a stretch for which all its premises hold. Assumes nothing.
use mathlib.Core.Path.{◌≡◌, refl, sym, subst}
use mathlib.Core.Logic.{inl, inr}
use mathlib.Core.Bool.{false}
use mathlib.Core.List.{List, [], ◌∷◌}
use Prim.Native.Nat.{ℕ, zero, suc, ◌+◌, ◌<◌}
use native.Mathlib.Omega.{arith}
use Rattle.std.specs.Prelude.{None}
use Rattle.facts.specs.Look.{look}
use Rattle.space.specs.declared.Place.{Place}
use Rattle.space.specs.declared.Place.TheVariants.{Memory, Io}
use Rattle.unit_laws.specs.Local.{In, places}
use Rattle.unit_laws.specs.Machine.{iter, Every}
use Rattle.unit_comparison.specs.Comparison.{comparison}
use Rattle.word_address.specs.declared.Set.{Set}
use Rattle.word_tag.specs.Tag.{direction_of}
use Rattle.word_address.specs.Address.{place_of, stepped_on}
use Rattle.word_mode.specs.Mode.{operation_of, request_mode_of}
use Rattle.word_mode.specs.Reasons.{some}
use Rattle.unit_accesses.specs.Accesses.{datum_at, stored_at, stepped_set}
use Rattle.unit.specs.Unit.{odd_word, unit_refusal, compared, moved_of, worked}
use Rattle.channel.specs.declared.Channel.{Channel}
use Rattle.channel.specs.Candidate.{is_candidate, interleaves}
use Rattle.channel_request.specs.Request.{requests}
use Rattle.channel.specs.Ending.{moved_by, unended, after_unit}
use Rattle.step.specs.Controller.{at, with}
use Rattle.step.specs.Choice.{turn, choice}
use Rattle.step_rules.specs.Rules.{intent_of, choice_of}
use Rattle.step.specs.Step.{unit_of, perform_of, step_of}
use Rattle.port.specs.declared.Which.TheVariants.{One, Two}
use Rattle.call_reset.specs.Reset.{no_register, no_set}
use Rattle.promises.specs.Machine.{Machine, step, answer, unit_reads, unit_writes}
use Rattle.promises.specs.Demand3.{Start, Fine, state, unit_alone, units, KeepApart, Demand3}
use Rattle.promises.proofs.Demand3.{demand3}

-- a channel with these current registers and this mode, ready to work
unfoldable pub working : Set → ℕ → ℕ → Channel
working s high low = record {
  current = s;
  base = no_set;
  pattern = 0x4D4D;
  mask = 0;
  mode = record { high = high; low = low };
  chain = no_register;
  interrupt = record { cie = false; ip = false; sip = false; vector = 0; save = 0 };
  status = record { ca = false; nac = false; mch = false; mcl = false; why = record { tc = false; mc = false; eop = false } };
  line = record { active = false; change = false };
  pending = false;
}

unfoldable pub pair : Machine
pair = record {
  controller = record {
    pointer = 0;
    master = 3;
    control = record { chain = None; bus = None; note = false; served = None };
    one = working (record { a = record { upper = 0x40; lower = 0 }; b = record { upper = 0x40; lower = 2 }; count = 9 }) 0x10 0x61;
    two = working (record { a = record { upper = 0; lower = 0 }; b = record { upper = 0; lower = 4 }; count = 9 }) 0x10 0x61;
  };
  spaces = record { memory = 10 ∷ 20 ∷ 0 ∷ 0 ∷ []; io = 30 ∷ 0 ∷ 40 ∷ 0 ∷ 0 ∷ 0 ∷ 0 ∷ 0 ∷ [] };
}

ready : Start pair
unfolding pair working requests request_mode_of look
ready = record {
  on = refl;
  chain = refl;
  bus = refl;
  one = record { mode = refl; active = refl; nac = refl; sip = refl; ca = refl; pending = refl };
  two = record { mode = refl; active = refl; nac = refl; sip = refl; ca = refl; pending = refl };
}

-- unit, given back, unit, given back, unit, given back, unit
quiet : Every step (λ x. Fine (answer x)) 7 pair
unfolding pair working step_of perform_of choice choice_of intent_of turn is_candidate requests interleaves unit_refusal odd_word worked datum_at stored_at moved_of compared comparison stepped_set place_of stepped_on direction_of operation_of request_mode_of look unit_of at with after_unit moved_by some unended
quiet =
    ((refl, refl), ((refl, refl), ((refl, refl), ((refl, refl), ((refl, refl), ((refl, refl), ((refl, refl), tt)))))))

pub turns_witness : (units One 7 pair ≡ 2) × (units Two 7 pair ≡ 2)
unfolding pair working step_of perform_of choice choice_of intent_of turn is_candidate requests interleaves unit_refusal odd_word worked datum_at stored_at moved_of compared comparison stepped_set place_of stepped_on direction_of operation_of request_mode_of look unit_of at with after_unit moved_by some unended
turns_witness = (refl, refl)

-- channel 1 keeps to memory and channel 2 to I/O
abbrev InMemory : List Place → Type 0
InMemory [] = Unit {0}
InMemory (Memory a ∷ ps) = InMemory ps
InMemory (Io a ∷ ps) = ⊥

abbrev InIo : List Place → Type 0
InIo [] = Unit {0}
InIo (Memory a ∷ ps) = ⊥
InIo (Io a ∷ ps) = InIo ps

abbrev IsMemory : Place → Type 0
IsMemory (Memory a) = Unit {0}
IsMemory (Io a) = ⊥

abbrev IsIo : Place → Type 0
IsIo (Memory a) = ⊥
IsIo (Io a) = Unit {0}

memory_of : (l : Place) (ps : List Place) → InMemory ps → In l ps → IsMemory l
memory_of l (Memory a ∷ ps) h (inl e) = subst IsMemory (sym e) tt
memory_of l (Memory a ∷ ps) h (inr x) = memory_of l ps h x
memory_of l (Io a ∷ ps) h x = absurd h
memory_of l [] h x = elim x [ ]

io_of : (l : Place) (ps : List Place) → InIo ps → In l ps → IsIo l
io_of l (Memory a ∷ ps) h x = absurd h
io_of l (Io a ∷ ps) h (inl e) = subst IsIo (sym e) tt
io_of l (Io a ∷ ps) h (inr x) = io_of l ps h x
io_of l [] h x = elim x [ ]

clash : (l : Place) → IsMemory l → IsIo l → ⊥
clash (Memory a) x y = y
clash (Io a) x y = x

one_there : (i : ℕ) → i < 7 → InMemory (unit_reads (state (iter step i pair)).one) × InMemory (places (unit_writes (state (iter step i pair)).one))
unfolding pair working step_of perform_of choice choice_of intent_of turn is_candidate requests interleaves unit_refusal odd_word worked datum_at stored_at moved_of compared comparison stepped_set place_of stepped_on direction_of operation_of request_mode_of look unit_of at with after_unit moved_by some unended
one_there zero b = (tt, tt)
one_there (suc zero) b = (tt, tt)
one_there (suc (suc zero)) b = (tt, tt)
one_there (suc (suc (suc zero))) b = (tt, tt)
one_there (suc (suc (suc (suc zero)))) b = (tt, tt)
one_there (suc (suc (suc (suc (suc zero))))) b = (tt, tt)
one_there (suc (suc (suc (suc (suc (suc zero)))))) b = (tt, tt)
one_there (suc (suc (suc (suc (suc (suc (suc i))))))) b = absurd (let x : 7 + i < 7 = (let h : suc (suc (suc (suc (suc (suc (suc i)))))) < 7 = b in omega arith) in omega arith)

two_there : (i : ℕ) → i < 7 → InIo (unit_reads (state (iter step i pair)).two) × InIo (places (unit_writes (state (iter step i pair)).two))
unfolding pair working step_of perform_of choice choice_of intent_of turn is_candidate requests interleaves unit_refusal odd_word worked datum_at stored_at moved_of compared comparison stepped_set place_of stepped_on direction_of operation_of request_mode_of look unit_of at with after_unit moved_by some unended
two_there zero b = (tt, tt)
two_there (suc zero) b = (tt, tt)
two_there (suc (suc zero)) b = (tt, tt)
two_there (suc (suc (suc zero))) b = (tt, tt)
two_there (suc (suc (suc (suc zero)))) b = (tt, tt)
two_there (suc (suc (suc (suc (suc zero))))) b = (tt, tt)
two_there (suc (suc (suc (suc (suc (suc zero)))))) b = (tt, tt)
two_there (suc (suc (suc (suc (suc (suc (suc i))))))) b = absurd (let x : 7 + i < 7 = (let h : suc (suc (suc (suc (suc (suc (suc i)))))) < 7 = b in omega arith) in omega arith)

apart : KeepApart 7 pair
apart i j a b e f = record {
  writes = λ l k x y. clash l (memory_of l (places (unit_writes c)) (one_there i a).1 x) (io_of l (places (unit_writes d)) (two_there j b).1 y);
  read_by_two = λ l k x y. clash l (memory_of l (places (unit_writes c)) (one_there i a).1 x) (io_of l (unit_reads d) (two_there j b).0 y);
  read_by_one = λ l k x y. clash l (memory_of l (unit_reads c) (one_there i a).0 x) (io_of l (places (unit_writes d)) (two_there j b).1 y);
}
  where
    c : Channel
    c = (state (iter step i pair)).one

    d : Channel
    d = (state (iter step j pair)).two

pub interleave_witness : Demand3 7 pair
interleave_witness = demand3 7 pair ready quiet

-- two units of each channel: the bytes of both have moved
pub interleaved : ((iter step 7 pair).spaces.memory ≡ 10 ∷ 20 ∷ 10 ∷ 20 ∷ []) × ((iter step 7 pair).spaces.io ≡ 30 ∷ 0 ∷ 40 ∷ 0 ∷ 30 ∷ 0 ∷ 40 ∷ 0 ∷ [])
unfolding pair working step_of perform_of choice choice_of intent_of turn is_candidate requests interleaves unit_refusal odd_word worked datum_at stored_at moved_of compared comparison stepped_set place_of stepped_on direction_of operation_of request_mode_of look unit_of at with after_unit moved_by some unended
interleaved = (refl, refl)

pub as_one_after_the_other : state (iter step 7 pair) ≡ iter (unit_alone Two) (units Two 7 pair) (iter (unit_alone One) (units One 7 pair) (state pair))
as_one_after_the_other = interleave_witness.apart apart

-- the pointer and the master mode are as they were, though both channels have worked
pub the_rest_stays : (iter step 7 pair).controller.master ≡ 3
unfolding pair
the_rest_stays = interleave_witness.rest.master
