-- After an unended unit the next is the step that comes next, of the same channel or of the other in turn, and it leaves what it would
-- leave if the first had not been. Assumes nothing.
use mathlib.Core.Path.{◌≡◌, refl, sym, ap, ◌∙◌}
use mathlib.Core.Bool.{Bool, true, false, not, ◌&&◌, ◌||◌, true≢false}
use Rattle.std.specs.Prelude.{None, Option, Some, is_none}
use Rattle.refusal.specs.declared.Refusal.{Refusal}
use Rattle.port.specs.declared.Which.{Which}
use Rattle.port.specs.declared.Which.TheVariants.{One, Two}
use Rattle.word_mode.specs.declared.RequestMode.{RequestMode}
use Rattle.word_mode.specs.declared.RequestMode.TheVariants.{Single, DemandHold, DemandRelease, DemandInterleave}
use Rattle.word_mode.specs.Mode.{request_mode_of, is_interleave}
use Rattle.word_mode.specs.Reasons.{some}
use Rattle.unit.specs.declared.Work.{Work}
use Rattle.unit.specs.declared.Moved.{Moved}
use Rattle.unit.specs.Unit.{unit_refusal}
use Rattle.unit_stride.specs.Units.{is_dedicated, onward, after, follows}
use Rattle.port.specs.Ports.{other}
use Rattle.channel.specs.declared.Channel.{Channel}
use Rattle.channel.specs.Candidate.{is_candidate, interleaves}
use Rattle.channel_request.specs.Request.{requests}
use Rattle.channel.specs.Ending.{reasons_of, moved_by, unended_by, unended, after_by, after_unit}
use Rattle.step_bus.specs.declared.Control.{Control}
use Rattle.step_rules.specs.declared.Choice.TheVariants.{Unit}
use Rattle.step_rules.specs.Rules.{is_enabled, is_interleaved, turn_by}
use Rattle.step_bus.specs.After.{unended_control, control_by}
use Rattle.step.specs.declared.Controller.{Controller}
use Rattle.step.specs.declared.Done.{Done}
use Rattle.step.specs.declared.Answer.{Answer}
use Rattle.step.specs.declared.Answer.TheVariants as answer
use Rattle.step.specs.Set.{◌⟨control≔◌⟩}
use Rattle.step.specs.Controller.{at, with}
use Rattle.space_board.specs.declared.Board.{Board}
use Rattle.step_rules.proofs.View.{Calm}
use Rattle.step_rules.proofs.View.Intends.{keeps, begins_unit}
use Rattle.step_rules.proofs.View.Because.{as_intended}
use Rattle.step.specs.Choice.{turn, facts_of, choice}
use Rattle.step.proofs.Laws.{at_of, control_of, master_of, chooses}
use Rattle.step.specs.Step.{says, work_of, unit_answer, unit_of}
use Rattle.step_stride.specs.Stride.{take_turns, pair_of, rested}
use Rattle.step_stride.proofs.StrideLaws.{Asks, unit_asks}

-- ---- what is true where units follow each other

-- of one channel in a dedicated mode, or of both in turn
abbrev pub flows : Bool → Which → Controller → Bool
flows true w u = take_turns u
flows false w u = is_dedicated (request_mode_of (at w u).mode)

both_true : (a b : Bool) → (a && b) ≡ true → (a ≡ true) × (b ≡ true)
both_true true b e = (refl, e)
both_true false b e = absurd (true≢false (sym e))

not-true : (a : Bool) → not a ≡ true → a ≡ false
not-true true e = absurd (true≢false (sym e))
not-true false e = refl

unpending : (c : Channel) → interleaves c ≡ true → c.pending ≡ false
unfolding interleaves
unpending c e = not-true _ (both_true (not c.pending) _ e).0

each : (u : Controller) (f : Channel → Bool) → f u.one ≡ true → f u.two ≡ true → (x : Which) → f (at x u) ≡ true
unfolding at
each u f a b One = a
each u f a b Two = b

record InTurn (u : Controller) : Type 0 where
  clear : is_interleaved u.master ≡ false
  interleaved : (x : Which) → interleaves (at x u) ≡ true
  ready : (x : Which) → is_candidate (at x u) ≡ true

in_turn : (u : Controller) → take_turns u ≡ true → InTurn u
unfolding take_turns
in_turn u e =
    let k = both_true (not (is_interleaved u.master)) _ e in
    let c = both_true (interleaves u.one && is_candidate u.one) _ k.1 in
    let one = both_true (interleaves u.one) _ c.0 in
    let two = both_true (interleaves u.two) _ c.1 in
    record { clear = not-true _ k.0; interleaved = each u interleaves one.0 two.0; ready = each u is_candidate one.1 two.1 }

none_of : (r : Option Refusal) → is_none r ≡ true → r ≡ None
none_of None e = refl
none_of (Some r) e = absurd (true≢false (sym e))

never : (b : Bool) → (b ≡ true → ⊥) → b ≡ false
never true f = absurd (f refl)
never false f = refl

-- a channel in another mode takes no turns
pub out_of_turn : (w : Which) (u : Controller) (r : RequestMode) (b : Bool) → r ≡ request_mode_of (at w u).mode → b ≡ is_interleave r → b ≡ false → take_turns u ≡ false
unfolding interleaves
out_of_turn w u r b er eb e =
    never (take_turns u) (λ t. true≢false (sym (both_true (not (at w u).pending) _ ((in_turn u t).interleaved w)).1 ∙ sym (ap is_interleave er) ∙ sym eb ∙ e))

-- the mode that it takes, and CPU interleave clear for two
abbrev fits : Bool → RequestMode → Bool → Bool
fits true r cpu = is_interleave r && not cpu
fits false r cpu = is_dedicated r

fit : (both : Bool) (w : Which) (u : Controller) → flows both w u ≡ true → fits both (request_mode_of (at w u).mode) (is_interleaved u.master) ≡ true
unfolding interleaves
fit true w u e =
    let t = in_turn u e in
    λ i. (both_true (not (at w u).pending) _ (t.interleaved w)).1 i && not (t.clear i)
fit false w u e = e

pub goes : (b : Board) (m : Moved) (next : Work) → follows b m next ≡ true → ((m.tc || m.compared.met) ≡ false) × (is_none (unit_refusal b next.mode next.set) ≡ true)
goes b m next e = let k = both_true (not (m.tc || m.compared.met)) _ e in (not-true _ k.0, k.1)

met_not : (m : Moved) → (m.tc || m.compared.met) ≡ false → m.compared.met ≡ false
met_not m e = go m.tc m.compared.met e
  where
    go : (a b : Bool) → (a || b) ≡ false → b ≡ false
    go true b q = absurd (true≢false q)
    go false b q = q

-- ---- what an unended unit leaves

abbrev left_by : Option Which → Which → Control → Control
left_by b w k = record { chain = k.chain; bus = b; note = k.note; served = Some w }

-- Two that take turns leave the bus free.
abbrev bus_after : Bool → Which → Option Which
bus_after true w = None
bus_after false w = Some w

abbrev left : Bool → Which → Controller → Controller
left both w u = u ⟨control≔ left_by (bus_after both w) w u.control ⟩

abbrev pub gone_by : Bool → Which → Controller → Moved → Controller
gone_by both w u m = with w (moved_by m (at w u)) (left both w u)

at_other : (w : Which) (c : Channel) (u : Controller) (k : Control) → at (other w) (with w c (u ⟨control≔ k ⟩)) ≡ at (other w) u
unfolding at with
at_other One c u k = refl
at_other Two c u k = refl

turns_kept : (w : Which) (u : Controller) (m : Moved) → take_turns (gone_by true w u m) ≡ take_turns u
unfolding take_turns interleaves is_candidate moved_by at with
turns_kept One u m = refl
turns_kept Two u m = refl

turn_on : (w : Which) → turn_by true true true (Some w) ≡ Some (other w)
turn_on One = refl
turn_on Two = refl

other_twice : (w : Which) → other (other w) ≡ w
other_twice One = refl
other_twice Two = refl

-- the bus and who was served are written anew by each unit
same_control : (ends : Bool) (r : RequestMode) (cpu chains : Bool) (w : Which) (k : Control) (b : Option Which) (s : Which)
    → control_by ends r cpu chains w (left_by b s k) ≡ control_by ends r cpu chains w k
same_control true r cpu chains w k b s = refl
same_control false Single cpu chains w k b s = refl
same_control false DemandHold cpu chains w k b s = refl
same_control false DemandRelease cpu chains w k b s = refl
same_control false DemandInterleave cpu chains w k b s = refl

-- what a unit leaves, if it leaves k of what belongs to no channel
abbrev landed : Which → Controller → Moved → Control → Done Answer
landed x u n k = says (with x (after_unit x false n (at x u)).channel (u ⟨control≔ k ⟩)) (answer.Unit x (unit_answer n false))

lands : (x : Which) (u : Controller) (n : Moved) (b : Option Which) (s : Which)
    → landed x u n (control_by (some (reasons_of n false)) (request_mode_of (at x u).mode) (is_interleaved u.master) (after_unit x false n (at x u)).chains x (left_by b s u.control))
    ≡ landed x u n (control_by (some (reasons_of n false)) (request_mode_of (at x u).mode) (is_interleaved u.master) (after_unit x false n (at x u)).chains x u.control)
lands x u n b s = ap (landed x u n) (same_control (some (reasons_of n false)) (request_mode_of (at x u).mode) (is_interleaved u.master) (after_unit x false n (at x u)).chains x u.control b s)

-- a later unit leaves the same as if this one had not been
pub joins : (both : Bool) (w : Which) (u : Controller) (m : Moved) (x : Which) (k : Work) (n : Moved)
    → unit_of x false (rested (other x) k (gone_by both w u m)) n ≡ unit_of x false (rested (other x) k u) n
unfolding unit_of after_unit moved_by at with
joins both One u m One k n = lands One (rested Two k u) n (bus_after both One) One
joins both One u m Two k n = lands Two (rested One k u) n (bus_after both One) One
joins both Two u m One k n = lands One (rested Two k u) n (bus_after both Two) Two
joins both Two u m Two k n = lands Two (rested One k u) n (bus_after both Two) Two

module _ (w : Which) (u : Controller) (m : Moved) where
  by_mode : (both : Bool) (r : RequestMode) (cpu : Bool) → fits both r cpu ≡ true
      → with w (unended_by r (moved_by m (at w u))) (u ⟨control≔ unended_control r cpu w u.control ⟩) ≡ gone_by both w u m
  by_mode true Single cpu e = absurd (true≢false (sym e))
  by_mode true DemandHold cpu e = absurd (true≢false (sym e))
  by_mode true DemandRelease cpu e = absurd (true≢false (sym e))
  by_mode true DemandInterleave true e = absurd (true≢false (sym e))
  by_mode true DemandInterleave false e = refl
  by_mode false Single cpu e = absurd (true≢false (sym e))
  by_mode false DemandHold cpu e = refl
  by_mode false DemandRelease cpu e = refl
  by_mode false DemandInterleave cpu e = absurd (true≢false (sym e))

  pub leaves : (both : Bool) → flows both w u ≡ true → (m.tc || m.compared.met) ≡ false → unit_of w false u m ≡ says (gone_by both w u m) (answer.Unit w (unit_answer m false))
  unfolding unit_of after_unit unended moved_by some
  leaves both e g =
      (λ i. says (let k = after_by (g i || false) w (reasons_of m false) (moved_by m (at w u)) in with w k.channel (u ⟨control≔ control_by (g i || false) (request_mode_of (at w u).mode) (is_interleaved u.master) k.chains w u.control ⟩)) (answer.Unit w (unit_answer m false)))
      ∙ ap (λ (x : Controller). says x (answer.Unit w (unit_answer m false))) (by_mode both (request_mode_of (at w u).mode) (is_interleaved u.master) (fit both w u e))

  onward_of : (both : Bool) → (m.tc || m.compared.met) ≡ false → work_of (at w (gone_by both w u m)) ≡ onward (work_of (at w u)) m
  unfolding moved_by
  onward_of both g =
      ap work_of (at_of w (moved_by m (at w u)) (left both w u))
      ∙ sym (λ i. record { set = m.set; mode = (at w u).mode; pattern = (at w u).pattern; mask = (at w u).mask; kept = record { mch = m.compared.mch; mcl = m.compared.mcl; met = met_not m g i } })

  rests : (both : Bool) → at (other w) (gone_by both w u m) ≡ at (other w) u
  rests both = at_other w (moved_by m (at w u)) u (left_by (bus_after both w) w u.control)

  -- the channels before the next unit
  pub passes : (both : Bool) → (m.tc || m.compared.met) ≡ false → pair_of (after both (pair_of w u) m).which (gone_by both w u m) ≡ after both (pair_of w u) m
  passes true g =
      let on = ap (λ (x : Which). work_of (at x (gone_by true w u m))) (other_twice w) ∙ onward_of true g in
      λ i. record { which = other w; work = work_of (rests true i); other = on i }
  passes false g = λ i. record { which = w; work = onward_of false g i; other = work_of (rests false i) }

  pub flows_on : (both : Bool) → flows both w u ≡ true → flows both (after both (pair_of w u) m).which (gone_by both w u m) ≡ true
  unfolding moved_by
  flows_on true e = turns_kept w u m ∙ e
  flows_on false e = ap (λ (c : Channel). is_dedicated (request_mode_of c.mode)) (at_of w (moved_by m (at w u)) (left false w u)) ∙ e

  -- the next unit comes next
  pub comes : (board : Board) (both : Bool) → flows both w u ≡ true → is_none (unit_refusal board (after both (pair_of w u) m).work.mode (after both (pair_of w u) m).work.set) ≡ true
      → choice board u ≡ Unit w → choice board (gone_by both w u m) ≡ Unit (after both (pair_of w u) m).which
  unfolding turn at moved_by unit_refusal
  comes board both e n q = by_both both e (none_of _ n)
    where
      c : Asks w u
      c = unit_asks board u w q

      calm : (b : Bool) → Calm (facts_of (gone_by b w u m))
      calm b =
          let k = control_of w (moved_by m (at w u)) (left b w u) in
          record {
            enabled = ap is_enabled (master_of w (moved_by m (at w u)) (left b w u)) ∙ c.calm.enabled;
            chain = ap (λ (x : Control). x.chain) k ∙ c.calm.chain;
            note = ap (λ (x : Control). x.note) k ∙ c.calm.note;
          }

      bus : (b : Bool) → (gone_by b w u m).control.bus ≡ bus_after b w
      bus b = ap (λ (x : Control). x.bus) (control_of w (moved_by m (at w u)) (left b w u))

      by_both : (b : Bool) → flows b w u ≡ true → unit_refusal board (after b (pair_of w u) m).work.mode (after b (pair_of w u) m).work.set ≡ None
          → choice board (gone_by b w u m) ≡ Unit (after b (pair_of w u) m).which
      by_both true f r =
          let v = gone_by true w u m in
          let t = in_turn v (flows_on true f) in
          let turned = (λ i. turn_by (t.ready One i) (t.ready Two i) (t.interleaved One i && t.interleaved Two i) (control_of w (moved_by m (at w u)) (left true w u) i).served) ∙ turn_on w in
          chooses board v (as_intended (begins_unit (other w) (record { calm = calm true; bus = bus true; turn = turned }) (unpending (at (other w) v) (t.interleaved (other w))))
          (ap (λ (x : Channel). unit_refusal board x.mode x.current) (rests true) ∙ r))
      by_both false f r =
          let v = gone_by false w u m in
          let o = at_of w (moved_by m (at w u)) (left false w u) in
          chooses board v (as_intended (keeps w (record { calm = calm false; bus = bus false; asks = ap (λ (x : Channel). requests x.mode x.line) o ∙ c.asks }))
          (ap (λ (x : Channel). unit_refusal board x.mode x.current) o ∙ r))
