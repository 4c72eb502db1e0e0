-- What the funnel's two halves leave; apart from its statement, which an edit turns. Assumes nothing.
use mathlib.Core.Path.{refl}
use Rattle.port.specs.Ports.{channel_at}
use Rattle.facts.specs.Look.{look}
use Rattle.word_tag.specs.Tag.{direction_of}
use Rattle.word_address.specs.Address.{place_of, stepped_on}
use Rattle.word_mode.specs.Mode.{operation_of, request_mode_of}
use Rattle.word_mode.specs.Reasons.{some}
use Rattle.unit_comparison.specs.Comparison.{comparison}
use Rattle.unit_accesses.specs.Accesses.{datum_at, stored_at, stepped_set}
use Rattle.unit.specs.Unit.{odd_word, unit_refusal, compared, moved_of, worked}
use Rattle.channel.specs.Candidate.{is_candidate, interleaves}
use Rattle.channel_request.specs.Request.{requests}
use Rattle.channel.specs.Ending.{moved_by, unended, after_unit}
use Rattle.step.specs.Controller.{at, with}
use Rattle.step.specs.Choice.{turn, choice}
use Rattle.step_rules.specs.Rules.{intent_of, choice_of}
use Rattle.step.specs.Step.{unit_of, perform_of, step_of}
use Rattle.call_line.specs.Lines.{lined, lined_at}
use Rattle.promises.specs.Calls.{call}
use Rattle.promises.proofs.InterleaveWitness.{working}
use Rattle.promises.proofs.FunnelWitness.{WordsThere}

pub funnelled : WordsThere
unfolding working call lined_at channel_at lined step_of perform_of choice choice_of intent_of turn is_candidate requests interleaves unit_refusal odd_word worked datum_at stored_at moved_of compared comparison stepped_set place_of stepped_on direction_of operation_of request_mode_of look unit_of at with after_unit moved_by some unended
funnelled = refl
