-- Steps taken at once are those steps one by one. Assumes nothing.
use Prim.Native.Nat.{ℕ, zero, suc, ◌+◌, ◌-◌, ◌<◌, ◌≤◌}
use native.Mathlib.Omega.{arith}
use native.Mathlib.Numerals.{add-one}
use mathlib.Core.Path.{◌≡◌, refl, sym, ap, subst, ◌∙◌}
use mathlib.Core.Bool.{Bool, true, false, not, cond, ◌&&◌, ◌||◌, true≢false}
use Rattle.std.specs.Prelude.{None, Option, Some}
use Rattle.facts.specs.Rows.{Row, Repeats, in_a_row}
use Rattle.facts.proofs.Rows.{counted}
use Rattle.port.specs.declared.Which.{Which}
use Rattle.space.specs.Space.{Spaces}
use Rattle.word_mode.specs.Mode.{request_mode_of}
use Rattle.unit.specs.declared.Work.{Work}
use Rattle.unit.specs.declared.Moved.{Moved}
use Rattle.unit.specs.Unit.{worked}
use Rattle.unit_stride.specs.declared.Pair.{Pair}
use Rattle.unit_stride.specs.Units.{is_dedicated, after, follows, UnitAt, UnitDone, unit_turns, onwards}
use Rattle.port.specs.Ports.{other}
use Rattle.channel.specs.declared.Channel.{Channel}
use Rattle.word_reload.specs.declared.Stage.{Stage}
use Rattle.chain.specs.declared.Loaded.{Loaded}
use Rattle.chain_stride.specs.Fetches.{goes_on, stage_after, FetchAt, fetch_turns}
use Rattle.step_rules.specs.declared.Choice.{Choice}
use Rattle.step_rules.specs.declared.Choice.TheVariants.{Disabled, Refused, Fetch, GiveBack, Unit, Hold, Release, Idle}
use Rattle.step.specs.declared.Controller.{Controller}
use Rattle.step.specs.declared.Done.{Done}
use Rattle.step.specs.declared.Answer.{Answer}
use Rattle.step.specs.Controller.{at}
use Rattle.space_board.specs.declared.Board.{Board}
use Rattle.space_board.specs.Board.{board_of}
use Rattle.space_board.proofs.Laws.{same_board}
use Rattle.unit.proofs.Laws.{worked_size}
use Rattle.step.specs.Choice.{choice}
use Rattle.step.specs.Fetching.{after_word, fetched_by, fetch_of}
use Rattle.step.specs.Step.{Outcome, outcome, RunOutcome, ran_as, says, work_of, unit_of, perform_of, step_of}
use Rattle.step_stride.specs.Stride.{take_turns, pair_of, rested, unit_done, units_by, fetches_by, single, stride_by, stride_of}
use Rattle.step_stride.proofs.StrideLaws.{fetched_on, at_fetched, fetch_again, fetch_joins, unrested, one_unit}
use Rattle.step_stride.proofs.PairLaws.{flows, goes, gone_by, leaves, passes, flows_on, comes, joins}
use Rattle.call_run.specs.Run.{stops, next_by, advanced}
use Rattle.word_reload.specs.declared.Progress.{Progress}

-- ---- one step, at the numbers that a loop has

pub stopped : (eop : Bool) (n k : ℕ) (o p : Outcome) → k < n → p ≡ next_by eop o → stops p.stepped.answer ≡ true → record { last = p; steps = k } ≡ advanced eop (n - k) k o
unfolding advanced
stopped eop n k o p h e s =
    let d : n - k ≡ suc (n - (k + 1)) = omega arith in
    rw (d, ← e, s)

pub turned : (eop : Bool) (n k : ℕ) (o p : Outcome) → k < n → p ≡ next_by eop o → stops p.stepped.answer ≡ false → advanced eop (n - (k + 1)) (k + 1) p ≡ advanced eop (n - k) k o
unfolding advanced
turned eop n k o p h e s =
    let d : n - k ≡ suc (n - (k + 1)) = omega arith in
    rw (d, ← e, s, add-one)

-- ---- what is done in a row is one step after another

-- `out` gives the outcome of each result, and P says what has to be true of where the controller stands
module _ {S R : Type 0} (t : Repeats S R) (eop : Bool) (out : R → Outcome) (P : S → Outcome → Type 0)
    (steps : (s : S) (o : Outcome) → P s o → out (t.result s) ≡ next_by eop o)
    (unstopped : (r : R) → stops (out r).stepped.answer ≡ false)
    (on : (s : S) (o : Outcome) → P s o → t.follows s (t.result s) ≡ true → P (t.next s (t.result s)) (out (t.result s))) where
  abbrev Runs : ℕ → ℕ → Row R → RunOutcome → Type 0
  Runs N d x all = advanced eop (N - (d + x.count)) (d + x.count) (out x.last) ≡ all

  one : (N d j : ℕ) (s : S) (o : Outcome) → P s o → d + j < N → Runs N d (record { last = t.result s; count = suc j }) (advanced eop (N - (d + j)) (d + j) o)
  one N d j s o p h =
      let n : d + suc j ≡ d + j + 1 = omega arith in
      ap (λ (x : ℕ). advanced eop (N - x) x (out (t.result s))) n ∙ turned eop N (d + j) o (out (t.result s)) h (steps s o p) (unstopped (t.result s))

  by_follows : (N d j n : ℕ) (s : S) (o : Outcome) → P s o → d + j < N
      → (t.follows s (t.result s) ≡ true → Runs N d (in_a_row t n (suc j) (t.next s (t.result s))) (advanced eop (N - (d + suc j)) (d + suc j) (out (t.result s))))
      → (b : Bool) → t.follows s (t.result s) ≡ b
      → Runs N d (cond b (in_a_row t n (suc j) (t.next s (t.result s))) (record { last = t.result s; count = suc j })) (advanced eop (N - (d + j)) (d + j) o)
  by_follows N d j n s o p h r true f = r f ∙ one N d j s o p h
  by_follows N d j n s o p h r false f = one N d j s o p h

  pub in_a_row_lem : (N d n j : ℕ) (s : S) (o : Outcome) → P s o → d + j + n < N → Runs N d (in_a_row t n j s) (advanced eop (N - (d + j)) (d + j) o)
  unfolding in_a_row
  in_a_row_lem N d zero j s o p h = one N d j s o p (omega arith)
  in_a_row_lem N d (suc n) j s o p h =
      by_follows N d j n s o p (omega arith)
      (λ f. in_a_row_lem N d n (suc j) (t.next s (t.result s)) (out (t.result s)) (on s o p f) (omega arith))
      (t.follows s (t.result s))
      refl

-- ---- units that follow each other, of one channel or of two in turn

unit_step : (w : Which) (eop : Bool) (u : Controller) (z : Spaces) → choice (board_of z) u ≡ Unit w
    → outcome (unit_of w eop u (worked (work_of (at w u)) z).moved) (worked (work_of (at w u)) z).spaces ≡ step_of eop u z
unfolding step_of perform_of
unit_step w eop u z e = sym (ap (λ (c : Choice). perform_of c eop u z) e)

-- the controller stands before the pair's unit, and what a unit leaves is what it would leave of u with the pair's registers
record Units (b : Board) (both : Bool) (u : Controller) (s : UnitAt) (o : Outcome) : Type 0 where
  board : board_of o.spaces ≡ b
  chosen : choice (board_of o.spaces) o.stepped.state ≡ Unit s.pair.which
  flows : flows both s.pair.which o.stepped.state ≡ true
  pair : pair_of s.pair.which o.stepped.state ≡ s.pair
  spaces : o.spaces ≡ s.spaces
  same : (x : Which) (k : Work) (m : Moved) → unit_of x false (rested (other x) k o.stepped.state) m ≡ unit_of x false (rested (other x) k u) m

module _ (b : Board) (both : Bool) (u : Controller) where
  unit_on : (k : UnitDone) → stops (unit_done false u k).stepped.answer ≡ false
  unfolding unit_of
  unit_on k = refl

  -- a unit by itself leaves what it leaves of u
  as_one : (s : UnitAt) (o : Outcome) → Units b both u s o → (m : Moved) → unit_of s.pair.which false o.stepped.state m ≡ unit_of s.pair.which false (rested (other s.pair.which) s.pair.other u) m
  as_one s o p m =
      let w = s.pair.which in
      let v = o.stepped.state in
      sym (ap (λ (x : Controller). unit_of w false x m) (unrested (other w) v))
      ∙ p.same w (work_of (at (other w) v)) m
      ∙ ap (λ (q : Pair). unit_of w false (rested (other w) q.other u) m) p.pair

  unit_steps : (s : UnitAt) (o : Outcome) → Units b both u s o → unit_done false u ((unit_turns b both).result s) ≡ next_by false o
  unit_steps s o p =
      let w = s.pair.which in
      let v = o.stepped.state in
      let k = worked (work_of (at w v)) o.spaces in
      sym (λ i. outcome (unit_of w false (rested (other w) s.pair.other u) (worked (p.pair i).work (p.spaces i)).moved) (worked (p.pair i).work (p.spaces i)).spaces)
      ∙ sym (ap (λ (y : Done Answer). outcome y k.spaces) (as_one s o p k.moved))
      ∙ unit_step w false v o.spaces p.chosen

  unit_next : (s : UnitAt) (o : Outcome) → Units b both u s o → (unit_turns b both).follows s ((unit_turns b both).result s) ≡ true
      → Units b both u ((unit_turns b both).next s ((unit_turns b both).result s)) (unit_done false u ((unit_turns b both).result s))
  unit_next s o p f =
      let w = s.pair.which in
      let v = o.stepped.state in
      let m = (worked s.pair.work s.spaces).moved in
      let g = goes b m (after both (pair_of w v) m).work (ap (λ (q : Pair). follows b m (after both q m).work) p.pair ∙ f) in
      let there : (unit_of w false (rested (other w) s.pair.other u) m).state ≡ gone_by both w v m = ap (λ (y : Done Answer). y.state) (sym (as_one s o p m) ∙ leaves w v m both p.flows g.0) in
      let kept = same_board (worked_size s.pair.work s.spaces) ∙ sym (ap board_of p.spaces) ∙ p.board in
      let next : after both s.pair m ≡ after both (pair_of w v) m = sym (ap (λ (q : Pair). after both q m) p.pair) in
      record {
        board = kept;
        chosen = (λ i. choice (kept i) (there i)) ∙ comes w v m b both p.flows g.1 (sym (ap (λ (x : Board). choice x v) p.board) ∙ p.chosen) ∙ sym (ap (λ (q : Pair). Unit q.which) next);
        flows = (λ i. flows both (next i).which (there i)) ∙ flows_on w v m both p.flows;
        pair = (λ i. pair_of (next i).which (there i)) ∙ passes w v m both g.0 ∙ sym next;
        spaces = refl;
        same = λ x k n. ap (λ (y : Controller). unit_of x false (rested (other x) k y) n) there ∙ joins both w v m x k n ∙ p.same x k n;
      }

-- ---- words of a chain that follow each other

record Fetches (w : Which) (u : Controller) (z : Spaces) (s : FetchAt) (o : Outcome) : Type 0 where
  chosen : choice (board_of o.spaces) o.stepped.state ≡ Fetch w s.stage
  channel : at w o.stepped.state ≡ s.channel
  spaces : o.spaces ≡ z
  same : (l : Loaded) → fetched_by w l o.stepped.state ≡ fetched_by w l u

module _ (w : Which) (u : Controller) (z : Spaces) where
  abbrev fetch_out : Loaded → Outcome
  fetch_out l = outcome (fetched_by w l u) z

  fetch_step : (v : Controller) (s : Stage) → choice (board_of z) v ≡ Fetch w s → outcome (fetch_of w s false v z.memory) z ≡ step_of false v z
  unfolding step_of perform_of
  fetch_step v s e = sym (ap (λ (c : Choice). perform_of c false v z) e)

  fetch_steps : (s : FetchAt) (o : Outcome) → Fetches w u z s o → fetch_out ((fetch_turns z.memory).result s) ≡ next_by false o
  unfolding fetch_of
  fetch_steps s o p =
      let v = o.stepped.state in
      let k : (fetch_turns z.memory).result s ≡ (fetch_turns z.memory).result (record { stage = s.stage; channel = at w v }) = sym (λ i. (fetch_turns z.memory).result (record { stage = s.stage; channel = p.channel i })) in
      ap fetch_out k
      ∙ sym (ap (λ (y : Done Answer). outcome y z) (p.same ((fetch_turns z.memory).result (record { stage = s.stage; channel = at w v }))))
      ∙ fetch_step v s.stage (sym (ap (λ (x : Spaces). choice (board_of x) v) p.spaces) ∙ p.chosen)
      ∙ sym (ap (step_of false v) p.spaces)

  fetch_next : (s : FetchAt) (o : Outcome) → Fetches w u z s o → (fetch_turns z.memory).follows s ((fetch_turns z.memory).result s) ≡ true
      → Fetches w u z ((fetch_turns z.memory).next s ((fetch_turns z.memory).result s)) (fetch_out ((fetch_turns z.memory).result s))
  fetch_next s o p f = let l = (fetch_turns z.memory).result s in by_next l.channel l.next l.upper f
    where
      by_next : (c : Channel) (n : Option Progress) (k : Bool) → goes_on n ≡ true
          → Fetches w u z (record { stage = stage_after n s.stage; channel = c }) (fetch_out (record { channel = c; next = n; upper = k }))
      by_next c (Some q) k g =
          let v = o.stepped.state in
          let there : after_word w c (Some q) u ≡ fetched_on w v c q = ap (λ (y : Done Answer). y.state) (sym (p.same (record { channel = c; next = Some q; upper = k }))) in
          record {
            chosen = ap (choice (board_of z)) there ∙ fetch_again w v c q (board_of z) s.stage (sym (ap (λ (x : Spaces). choice (board_of x) v) p.spaces) ∙ p.chosen);
            channel = ap (at w) there ∙ at_fetched w v c q;
            spaces = refl;
            same = λ l. ap (fetched_by w l) there ∙ fetch_joins w v c q l ∙ p.same l;
          }
      by_next c None k g = absurd (true≢false (sym g))

-- ---- a stride

-- what a loop makes of a stride, from the outcome o with k of N steps done
pub record Strides (eop : Bool) (N k : ℕ) (o : Outcome) (s : RunOutcome) : Type 0 where
  pub some : 0 < s.steps
  pub within : k + s.steps ≤ N
  pub on : stops s.last.stepped.answer ≡ false → advanced eop (N - (k + s.steps)) (k + s.steps) s.last ≡ advanced eop (N - k) k o
  pub stop : stops s.last.stepped.answer ≡ true → record { last = s.last; steps = k } ≡ advanced eop (N - k) k o

module _ (N k : ℕ) (u : Controller) (a : Answer) (z : Spaces) (h : k < N) where
  abbrev from : Outcome
  from = outcome (says u a) z

  alone : (eop : Bool) (c : Choice) → choice (board_of z) u ≡ c → Strides eop N k from (single (perform_of c eop u z))
  unfolding step_of
  alone eop c e =
      let p : perform_of c eop u z ≡ step_of eop u z = sym (ap (λ (x : Choice). perform_of x eop u z) e) in
      record {
        some = omega arith;
        within = omega arith;
        on = λ g. turned eop N k from (perform_of c eop u z) h p g;
        stop = λ g. stopped eop N k from (perform_of c eop u z) h p g;
      }

  -- up to what is left of the steps
  of_row : {S R : Type 0} (t : Repeats S R) (out : R → Outcome) (s : S) → ((r : R) → stops (out r).stepped.answer ≡ false)
      → advanced false (N - (k + (in_a_row t (N - k - 1) 0 s).count)) (k + (in_a_row t (N - k - 1) 0 s).count) (out (in_a_row t (N - k - 1) 0 s).last) ≡ advanced false (N - (k + 0)) (k + 0) from
      → Strides false N k from (record { last = out (in_a_row t (N - k - 1) 0 s).last; steps = (in_a_row t (N - k - 1) 0 s).count })
  of_row t out s unstopped r =
      let n = counted t (N - k - 1) 0 s in
      let none : k + 0 ≡ k = omega arith in
      record {
        some = n.0;
        within = omega (arith, n.1);
        on = λ q. r ∙ ap (λ (y : ℕ). advanced false (N - y) y from) none;
        stop = λ q. absurd (true≢false (sym q ∙ unstopped (in_a_row t (N - k - 1) 0 s).last));
      }

  of_units : (both : Bool) (w : Which) → choice (board_of z) u ≡ Unit w → flows both w u ≡ true → Strides false N k from (units_by false u (onwards (board_of z) both (N - k - 1) 0 (pair_of w u) z))
  of_units both w c f =
      let s : UnitAt = record { pair = pair_of w u; spaces = z } in
      of_row (unit_turns (board_of z) both) (unit_done false u) s (unit_on (board_of z) both u)
      (in_a_row_lem (unit_turns (board_of z) both) false (unit_done false u) (Units (board_of z) both u) (unit_steps (board_of z) both u) (unit_on (board_of z) both u) (unit_next (board_of z) both u) N k (N - k - 1) 0 s from
      (record { board = refl; chosen = c; flows = f; pair = refl; spaces = refl; same = λ x y m. refl })
      (omega arith))

  one_of : (eop both : Bool) (w : Which) → choice (board_of z) u ≡ Unit w → Strides eop N k from (units_by eop u (onwards (board_of z) both 0 0 (pair_of w u) z))
  one_of eop both w c = subst (Strides eop N k from) (sym (one_unit both eop w u z)) (alone eop (Unit w) c)

  by_limit : (eop : Bool) (w : Which) → choice (board_of z) u ≡ Unit w → (both : Bool) → take_turns u ≡ both → (r : Bool) → is_dedicated (request_mode_of (at w u).mode) ≡ r
      → Strides eop N k from (units_by eop u (onwards (board_of z) both (cond (not eop && (both || r)) (N - k) 1 - 1) 0 (pair_of w u) z))
  by_limit false w c true t r d = of_units true w c t
  by_limit false w c false t true d = of_units false w c d
  by_limit false w c false t false d = one_of false false w c
  by_limit true w c both t r d = one_of true both w c

  by_eop : (eop : Bool) (w : Which) (stage : Stage) → choice (board_of z) u ≡ Fetch w stage → Strides eop N k from (ran_as (fetches_by eop w stage (N - k) u z.memory) z)
  unfolding perform_of fetch_of
  by_eop true w stage c = alone true (Fetch w stage) c
  by_eop false w stage c =
      let s : FetchAt = record { stage = stage; channel = at w u } in
      of_row (fetch_turns z.memory) (fetch_out w u z) s (λ l. refl)
      (in_a_row_lem (fetch_turns z.memory) false (fetch_out w u z) (Fetches w u z) (fetch_steps w u z) (λ l. refl) (fetch_next w u z) N k (N - k - 1) 0 s from
      (record { chosen = c; channel = refl; spaces = refl; same = λ l. refl })
      (omega arith))

  by_choice : (eop : Bool) (c : Choice) → choice (board_of z) u ≡ c → Strides eop N k from (stride_by c (N - k) eop u z)
  unfolding stride_by
  by_choice eop Disabled e = alone eop Disabled e
  by_choice eop (Refused r) e = alone eop (Refused r) e
  by_choice eop (Fetch w stage) e = by_eop eop w stage e
  by_choice eop GiveBack e = alone eop GiveBack e
  by_choice eop (Unit w) e = by_limit eop w e (take_turns u) refl (is_dedicated (request_mode_of (at w u).mode)) refl
  by_choice eop (Hold w) e = alone eop (Hold w) e
  by_choice eop Release e = alone eop Release e
  by_choice eop Idle e = alone eop Idle e

  pub strides : (eop : Bool) → Strides eop N k from (stride_of (N - k) eop u z)
  unfolding stride_of
  strides eop = by_choice eop (choice (board_of z) u) refl
