-- A unit or a word that follows another is the step that comes next, and leaves what it leaves by itself. Assumes nothing.
use mathlib.Core.Path.{◌≡◌, refl, sym, ap, ◌∙◌}
use mathlib.Core.Bool.{Bool, true, false, ◌&&◌, ◌||◌, true≢false}
use Rattle.std.specs.Prelude.{None, Option, Some}
use Rattle.port.specs.declared.Which.{Which}
use Rattle.port.specs.declared.Which.TheVariants.{One, Two}
use Rattle.space.specs.Space.{Spaces}
use Rattle.unit.specs.Unit.{worked}
use Rattle.facts.specs.Rows.{in_a_row}
use Rattle.unit_stride.specs.Units.{onwards}
use Rattle.port.specs.Ports.{other}
use Rattle.channel.specs.declared.Channel.{Channel}
use Rattle.channel.specs.Candidate.{is_candidate}
use Rattle.channel_request.specs.Request.{requests}
use Rattle.channel.specs.Ending.{moved_by}
use Rattle.word_reload.specs.declared.Stage.{Stage}
use Rattle.word_reload.specs.declared.Stage.TheVariants.{Entries}
use Rattle.word_reload.specs.declared.Progress.{Progress}
use Rattle.chain.specs.declared.Loaded.{Loaded}
use Rattle.step_bus.specs.declared.Control.{Control}
use Rattle.step_rules.specs.declared.Choice.TheVariants.{Fetch, Unit}
use Rattle.step_rules.specs.Rules.{is_enabled, is_interleaved}
use Rattle.step_bus.specs.Set.{◌⟨chain≔◌⟩}
use Rattle.step_bus.specs.After.{control_fetched}
use Rattle.step.specs.declared.Controller.{Controller}
use Rattle.step.specs.declared.Answer.TheVariants as answer
use Rattle.step.specs.Set.{◌⟨control≔◌⟩}
use Rattle.step.specs.Controller.{at, with}
use Rattle.space_board.specs.declared.Board.{Board}
use Rattle.space_board.specs.Board.{board_of}
use Rattle.step_rules.proofs.View.{Calm}
use Rattle.step_rules.proofs.View.Intends.{goes_on_by_rule, keeps, begins_chain, begins_unit}
use Rattle.step_rules.proofs.View.Because.{as_intended}
use Rattle.step.specs.Choice.{facts_of, choice}
use Rattle.step.proofs.Laws.{at_of, control_of, master_of, with_again, Chosen, chosen_at, chooses, is_candidate_lem}
use Rattle.step.specs.Fetching.{after_word, fetched_by}
use Rattle.step.specs.Step.{outcome, work_of, unit_of, perform_of}
use Rattle.step_stride.specs.Stride.{pair_of, rested, units_by, single}

-- ---- what is true where a unit comes next

asks : (p r x : Bool) → p ≡ false → (p || (r && x)) ≡ true → r ≡ true
asks true r x n e = absurd (true≢false n)
asks false true x n e = refl
asks false false x n e = absurd (true≢false (sym e))

-- past rules 1 to 3, with an active request
pub record Asks (w : Which) (u : Controller) : Type 0 where
  pub calm : Calm (facts_of u)
  pub asks : requests (at w u).mode (at w u).line ≡ true

told : (b : Board) (w : Which) (u : Controller) → Chosen b u (Unit w) → Asks w u
unfolding is_candidate
told b w u (as_intended (keeps v k) r) = record { calm = k.calm; asks = k.asks }
told b w u (as_intended (begins_unit v t p) r) = record {
  calm = t.calm;
  asks = asks (at w u).pending (requests (at w u).mode (at w u).line) _ p (is_candidate_lem w u t);
}

pub unit_asks : (b : Board) (u : Controller) (w : Which) → choice b u ≡ Unit w → Asks w u
unit_asks b u w e = told b w u (chosen_at b u e)

-- ---- what a word that is fetched leaves, if another follows

enabled_for_lem : (b : Board) (u : Controller) (w : Which) (s : Stage) → Chosen b u (Fetch w s) → is_enabled u.master ≡ true
enabled_for_lem b u w s (as_intended (goes_on_by_rule v g e c) r) = e
enabled_for_lem b u w s (as_intended (begins_chain v t p) r) = t.calm.enabled

module _ (w : Which) (u : Controller) (c : Channel) (p : Progress) where
  abbrev pub fetched_on : Controller
  fetched_on = after_word w c (Some p) u

  pub at_fetched : at w fetched_on ≡ c
  at_fetched = at_of w c _

  -- the next word comes next
  pub fetch_again : (b : Board) (s : Stage) → choice b u ≡ Fetch w s → choice b fetched_on ≡ Fetch w (Entries p)
  fetch_again b s e =
      let v = u ⟨control≔ u.control ⟨chain≔ Some (w, Entries p) ⟩ ⟩ in
      let on = ap is_enabled (master_of w c v) ∙ enabled_for_lem b u w s (chosen_at b u e) in
      chooses b fetched_on (as_intended (goes_on_by_rule w (Entries p) on (ap (λ (k : Control). k.chain) (control_of w c v))) refl)

  -- a further word leaves the same as if this one had not been
  pub fetch_joins : (n : Loaded) → fetched_by w n fetched_on ≡ fetched_by w n u
  fetch_joins n =
      let k = control_of w c (u ⟨control≔ u.control ⟨chain≔ Some (w, Entries p) ⟩ ⟩) in
      let m = master_of w c (u ⟨control≔ u.control ⟨chain≔ Some (w, Entries p) ⟩ ⟩) in
      let act = requests n.channel.mode n.channel.line in
      (λ i. record { state = with w n.channel (fetched_on ⟨control≔ control_fetched n.next (is_interleaved (m i)) act w (k i) ⟩); answer = answer.Fetched w (record { upper = n.upper }) })
      ∙ (λ i. record { state = with w n.channel (fetched_on ⟨control≔ same_fetch n.next (is_interleaved u.master) act i ⟩); answer = answer.Fetched w (record { upper = n.upper }) })
      ∙ (λ i. record { state = with_again w c n.channel u (u.control ⟨chain≔ Some (w, Entries p) ⟩) (control_fetched n.next (is_interleaved u.master) act w u.control) i; answer = answer.Fetched w (record { upper = n.upper }) })
    where
      same_fetch : (x : Option Progress) (cpu act : Bool) → control_fetched x cpu act w (u.control ⟨chain≔ Some (w, Entries p) ⟩) ≡ control_fetched x cpu act w u.control
      same_fetch (Some q) cpu act = refl
      same_fetch None true act = refl
      same_fetch None false true = refl
      same_fetch None false false = refl

-- ---- one step

-- a channel that has done no unit rests as it is
pub unrested : (w : Which) (u : Controller) → rested w (work_of (at w u)) u ≡ u
unfolding at with moved_by
unrested One u = refl
unrested Two u = refl

pub one_unit : (both eop : Bool) (w : Which) (u : Controller) (z : Spaces) → units_by eop u (onwards (board_of z) both 0 0 (pair_of w u) z) ≡ single (perform_of (Unit w) eop u z)
unfolding in_a_row perform_of
one_unit both eop w u z =
    let k = worked (work_of (at w u)) z in
    ap (λ (v : Controller). single (outcome (unit_of w eop v k.moved) k.spaces)) (unrested (other w) u)
