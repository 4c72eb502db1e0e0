-- The search's promise is not empty in single either; apart from `by_line`, which an edit turns. Assumes nothing.
use mathlib.Core.Path.{refl}
use native.Mathlib.Omega.{arith}
use Rattle.port.specs.Ports.{channel_at}
use Rattle.facts.specs.Look.{look}
use Rattle.unit_comparison.specs.Comparison.{comparison}
use Rattle.word_tag.specs.Tag.{direction_of}
use Rattle.word_address.specs.Address.{place_of, stepped_on}
use Rattle.word_mode.specs.Mode.{operation_of, request_mode_of}
use Rattle.word_mode.specs.Reasons.{some, enabled_for}
use Rattle.unit_accesses.specs.Accesses.{datum_at, stored_at, stepped_set}
use Rattle.unit.specs.Unit.{odd_word, unit_refusal, compared, moved_of, worked}
use Rattle.channel.specs.Candidate.{is_candidate, interleaves}
use Rattle.channel_request.specs.Request.{requests}
use Rattle.channel.specs.Ending.{moved_by, unended, after_unit}
use Rattle.step.specs.Controller.{at, with}
use Rattle.step.specs.Choice.{turn, choice}
use Rattle.step_rules.specs.Rules.{intent_of, choice_of}
use Rattle.step.specs.Step.{unit_of, perform_of, step_of}
use Rattle.port.specs.declared.Which.TheVariants.{One}
use Rattle.call_line.specs.Lines.{lined, lined_at}
use Rattle.promises.specs.Calls.{call}
use Rattle.promises.specs.Demand2b.{hit, SearchStretch}
use Rattle.promises.proofs.Demand2b.{demand2b}
use Rattle.promises.proofs.InterleaveWitness.{working}
use Rattle.promises.proofs.SearchWitness.{for_77, EndsThird, no_unit, third, by_line}

pub line_witness : EndsThird (for_77 One 0x40) 11 by_line
unfolding by_line enabled_for lined_at channel_at lined working call step_of perform_of choice choice_of intent_of turn is_candidate requests interleaves unit_refusal odd_word worked datum_at stored_at moved_of compared comparison stepped_set place_of stepped_on direction_of operation_of request_mode_of look unit_of at with after_unit moved_by some unended
line_witness = let d = demand2b (for_77 One 0x40) 2 11 by_line stretch in (stretch, refl, d.reasons refl, d.left refl refl)
  where
    stretch : SearchStretch (for_77 One 0x40) 2 11 by_line
    stretch = record {
      ready = record { operation = refl; sixteen_bits = omega arith; pending = refl; spared = refl };
      registers = refl;
      first = third (hit (for_77 One 0x40) by_line.machine.spaces) refl refl refl;
      mine = refl;
      untouched = (no_unit, (no_unit, (no_unit, (no_unit, (no_unit, (no_unit, (no_unit, (no_unit, (no_unit, (no_unit, (no_unit, (no_unit, tt))))))))))));
    }
