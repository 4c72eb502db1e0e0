-- Document 02, E4: nothing is wrong if and only if the next step is for this channel. Assumes nothing.
use mathlib.Core.Path.{◌≡◌, refl, sym, ap, ◌∙◌}
use mathlib.Core.Bool.{Bool, true, false, true≢false}
use mathlib.Core.Logic.{◌≢◌}
use Rattle.facts.proofs.First.{exactly}
use Rattle.port.specs.declared.Which.{Which}
use Rattle.space.specs.Space.{Spaces}
use Rattle.space_board.specs.Board.{board_of}
use Rattle.channel.specs.Candidate.{is_candidate}
use Rattle.step_rules.specs.declared.Choice.{Choice}
use Rattle.step_rules.specs.declared.Choice.TheVariants as chosen
use Rattle.step.specs.declared.Controller.{Controller}
use Rattle.step.specs.Controller.{at}
use Rattle.step.specs.Choice.{facts_of, faults_of, choice}
use Rattle.step.specs.Step.{hold_of, perform_of, step_of, unit_of}
use Rattle.step.specs.Fetching.{fetch_of}
use Rattle.step.proofs.Laws.{is_candidate_lem, no_candidate}
use Rattle.standstill.specs.declared.Cause.{Cause}
use Rattle.standstill.specs.declared.Cause.TheVariants.{NothingWrong, Disabled, ChainOnTheOther, GiveBackNote, BusKeptByTheOther, Ca, Sip, Nac, Masked, NoRequest, OddChain, NotCarried, OddWord, TurnOfTheOther}
use Rattle.standstill.specs.Causes.{causes, why_of}
use Rattle.standstill.proofs.Parts.{is_nothing, steps_named}
use Rattle.standstill.proofs.Serving.{serves, Orderly, nothing_wrong}
use Rattle.promises.specs.Machine.{Machine, answer}
use Rattle.promises_requests.specs.Standstill.{served, why, FirstReason, Standstill, StandsStill}
use Rattle.promises.specs.WellFormed.{WellFormed}
use Rattle.promises.proofs.Reached.{chain_owner, bus_keeper, reached_well}

-- ---- the step that was chosen is the step that is made

performs : (w : Which) (c : Choice) (u : Controller) (z : Spaces) → serves w c ≡ served w (perform_of c false u z).stepped.answer
unfolding perform_of fetch_of unit_of hold_of
performs w chosen.Disabled u z = refl
performs w (chosen.Refused r) u z = refl
performs w (chosen.Fetch v s) u z = refl
performs w chosen.GiveBack u z = refl
performs w (chosen.Unit v) u z = refl
performs w (chosen.Hold v) u z = refl
performs w chosen.Release u z = refl
performs w chosen.Idle u z = refl

-- ---- what calls reach is in order

orderly : (w : Which) (u : Controller) → WellFormed u → Orderly w (at w u) (facts_of u)
unfolding is_candidate
orderly w u h = record {
  turns = is_candidate_lem w u;
  nobodys = no_candidate w u;
  chains = λ s e. let o = chain_owner u w s h e in (o.1.no_note, o.0);
  keeps_clear = λ e. let k = (bus_keeper u w h e).1.owner.clear in record { no_pending = k.no_pending; no_nac = k.no_nac; no_sip = k.no_sip; no_ca = k.no_ca };
}

told : (w : Which) (m : Machine) → WellFormed m.controller → is_nothing (why w m) ≡ served w (answer m)
unfolding why_of choice step_of
told w m h =
    let u = m.controller in let b = board_of m.spaces in
    nothing_wrong w (at w u) (facts_of u) (faults_of b u) (steps_named b u) (orderly w u h) ∙ performs w (choice b u) u m.spaces

-- ---- nothing wrong, as it is said

is_nothing_lem : (r : Cause) → is_nothing r ≡ true → r ≡ NothingWrong
is_nothing_lem NothingWrong e = refl
is_nothing_lem Disabled e = absurd (true≢false (sym e))
is_nothing_lem ChainOnTheOther e = absurd (true≢false (sym e))
is_nothing_lem GiveBackNote e = absurd (true≢false (sym e))
is_nothing_lem BusKeptByTheOther e = absurd (true≢false (sym e))
is_nothing_lem Ca e = absurd (true≢false (sym e))
is_nothing_lem Sip e = absurd (true≢false (sym e))
is_nothing_lem Nac e = absurd (true≢false (sym e))
is_nothing_lem Masked e = absurd (true≢false (sym e))
is_nothing_lem NoRequest e = absurd (true≢false (sym e))
is_nothing_lem OddChain e = absurd (true≢false (sym e))
is_nothing_lem NotCarried e = absurd (true≢false (sym e))
is_nothing_lem OddWord e = absurd (true≢false (sym e))
is_nothing_lem TurnOfTheOther e = absurd (true≢false (sym e))

-- of any state
pub first : (w : Which) (m : Machine) → FirstReason w m
unfolding why_of
first w m = exactly NothingWrong (why w m) (causes (board_of m.spaces) w m.controller) refl

standstill : (w : Which) (m : Machine) → WellFormed m.controller → Standstill w m
standstill w m h = record {
  reason = first w m;
  moves = ((λ e. sym (told w m h) ∙ ap is_nothing e), (λ s. is_nothing_lem (why w m) (told w m h ∙ s)));
  stands = λ q. neither (served w (answer m)) refl q;
}
  where
    neither : (b : Bool) → served w (answer m) ≡ b → why w m ≢ NothingWrong → b ≡ false
    neither true e q = absurd (q (is_nothing_lem (why w m) (told w m h ∙ e)))
    neither false e q = refl

pub stands_still : StandsStill
stands_still w cs z = standstill w _ (reached_well cs)
