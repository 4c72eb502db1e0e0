-- What the callees answered gives the definition's stride.
use mathlib.Core.Path.{◌≡◌, refl, sym, ap, ◌∙◌}
use mathlib.Core.Bool.{Bool, true, false, cond}
use Prim.Native.Nat.{ℕ, ◌-◌}
use mathlib.Core.List.{List}
use Rattle.space.specs.Space.{Spaces}
use Rattle.space_board.specs.declared.Board.{Board}
use Rattle.space_board.specs.Board.{board_of}
use Rattle.port.specs.declared.Which.{Which}
use Rattle.port.specs.Ports.{other}
use Rattle.word_mode.specs.declared.RequestMode.{RequestMode}
use Rattle.word_mode.specs.Mode.{request_mode_of}
use Rattle.unit_stride.specs.declared.Pair.{Pair}
use Rattle.unit_stride.specs.declared.Carried.{Carried}
use Rattle.unit_stride.specs.Units.{limit_of, carried_as, onwards}
use Rattle.unit_stride.proofs.Laws.{of_one}
use Rattle.channel.specs.declared.Channel.{Channel}
use Rattle.word_reload.specs.declared.Stage.{Stage}
use Rattle.chain_stride.specs.declared.Fetched.{Fetched}
use Rattle.chain_stride.specs.Fetches.{fetched_as, fetches_of}
use Rattle.step_rules.specs.declared.Choice.TheVariants.{Unit}
use Rattle.step.specs.declared.Controller.{Controller}
use Rattle.step.specs.declared.Done.{Done}
use Rattle.step.specs.declared.Answer.{Answer}
use Rattle.step.specs.declared.Answer.TheVariants as answer
use Rattle.step.specs.Controller.{at}
use Rattle.step.specs.Fetching.{fetched_by}
use Rattle.step.specs.Step.{outcome, work_of, unit_of}
use Rattle.step_stride.specs.Stride.{take_turns, pair_of, rested, units_by, fetches_by, stride_by}
use Rattle.step_stride.proofs.StrideLaws.{unrested}

pub fetches : (eop : Bool) (w : Which) (stage : Stage) (left : ℕ) (u : Controller) (m : List ℕ) (c : Channel) (x : Fetched) (s : Controller) → eop ≡ false
    → c ≡ at w u → fetched_as x ≡ fetches_of m (left - 1) 0 stage c → s ≡ (fetched_by w (fetched_as x).last u).state
    → record { state = s; answer = answer.Fetched w (record { upper = x.upper }); steps = x.words } ≡ fetches_by eop w stage left u m
fetches eop w stage left u m c x s e ec ex es =
    let row : fetched_as x ≡ fetches_of m (left - 1) 0 stage (at w u) = ex ∙ ap (fetches_of m (left - 1) 0 stage) ec in
    (λ i. record { state = es i; answer = answer.Fetched w (record { upper = x.upper }); steps = x.words })
    ∙ (λ i. let f = fetched_by w (row i).last u in record { state = f.state; answer = f.answer; steps = (row i).count })
    ∙ sym (λ i. fetches_by (e i) w stage left u m)

-- alone, the other channel rests as it is
rests_alone : (both : Bool) (n : ℕ) (w : Which) (u : Controller) (x : Carried) (z z' : Spaces) → carried_as x z' ≡ onwards (board_of z) both n 0 (pair_of w u) z
    → cond both (rested (other x.which) x.rests u) u ≡ rested (other x.which) x.rests u
rests_alone true n w u x z z' e = refl
rests_alone false n w u x z z' e =
    let d = e ∙ of_one (board_of z) w (work_of (at (other w) u)) n 0 (work_of (at w u)) z in
    sym ((λ i. rested (other (d i).last.which) (d i).last.rests u) ∙ unrested (other w) u)

pub does_units : (w : Which) (left : ℕ) (eop : Bool) (u : Controller) (both : Bool) (r : RequestMode) (limit : ℕ) (p : Pair) (board : Board) (x : Carried) (z z' : Spaces) (y : Controller) (s : Done Answer)
    → both ≡ take_turns u → r ≡ request_mode_of (at w u).mode → limit ≡ limit_of both r left eop → p ≡ pair_of w u → board ≡ board_of z → carried_as x z' ≡ onwards board both (limit - 1) 0 p z
    → y ≡ cond both (rested (other x.which) x.rests u) u → s ≡ unit_of x.which eop y x.moved
    → record { last = outcome s z'; steps = x.units } ≡ stride_by (Unit w) left eop u z
unfolding stride_by
does_units w left eop u both r limit p board x z z' y s eb er el ep ez e ey es =
    let most : limit ≡ limit_of (take_turns u) (request_mode_of (at w u).mode) left eop = el ∙ (λ i. limit_of (eb i) (er i) left eop) in
    let row : carried_as x z' ≡ onwards (board_of z) both (limit - 1) 0 (pair_of w u) z = e ∙ (λ i. onwards (ez i) both (limit - 1) 0 (ep i) z) in
    let rest : y ≡ rested (other x.which) x.rests u = ey ∙ rests_alone both (limit - 1) w u x z z' row in
    (λ i. record { last = outcome ((es ∙ (λ j. unit_of x.which eop (rest j) x.moved)) i) z'; steps = x.units })
    ∙ (λ i. units_by eop u ((row ∙ (λ j. onwards (board_of z) (eb j) (most j - 1) 0 (pair_of w u) z)) i))
