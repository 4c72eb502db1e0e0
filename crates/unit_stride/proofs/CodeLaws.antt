-- What a turn of each loop keeps, at the numbers that the loop has.
use Prim.Native.Nat.{ℕ, ◌+◌, ◌-◌, ◌*◌, ◌<◌, ◌≤◌}
use native.Mathlib.Omega.{arith}
use mathlib.Core.Path.{◌≡◌, refl, sym, ap, subst, ◌∙◌}
use mathlib.Core.Bool.{Bool, true, false, cond, ◌&&◌, true≢false}
use mathlib.Core.List.{List}
use lib.Dec.{ltb, leb}
use lib.ListN.{length}
use Rattle.facts.specs.Rows.{Row, in_a_row}
use Rattle.facts.proofs.Rows.{LoopAt, counted, on_yet, turn, fewer_left}
use Rattle.space_board.specs.declared.Board.{Board}
use Rattle.space.specs.Space.{Spaces, spaces}
use Rattle.facts.specs.Bits.{bit_if}
use Rattle.space.specs.declared.Width.{Width}
use Rattle.space.specs.declared.Width.TheVariants.{Byte}
use Rattle.word_address.specs.declared.Address.{Address}
use Rattle.word_address.specs.declared.Set.{Set}
use Rattle.word_address.specs.Address.{source_of, SixteenBitsEach}
use Rattle.word_operation.specs.declared.Operation.{Operation}
use Rattle.word_operation.specs.declared.Moves.{Moves}
use Rattle.word_operation.specs.declared.Moves.TheVariants.{Transfer, Search, Funnel}
use Rattle.word_mode.specs.declared.Mode.{Mode}
use Rattle.word_mode.specs.Mode.{operation_of, is_flipped}
use Rattle.unit.specs.declared.Work.{Work}
use Rattle.unit.specs.declared.Moved.{Moved}
use Rattle.unit.specs.Unit.{Worked, whole, moved_of, worked}
use Rattle.unit_stride.specs.declared.Pair.{Pair}
use Rattle.unit_stride.specs.Units.{follows, move_turns, moved_on, pass, UnitDone, unit_turns, onwards}
use Rattle.stepping.specs.Stepping.{Down, Hold}
use Rattle.unit_stride.specs.Behind.{over, came_over, size_at, changes_behind, Tells}
use Rattle.unit_stride.proofs.Laws.{resting, of_one}
use Rattle.unit_stride.proofs.Behind.{stepped_set_lem, behind}

pub down_or_hold : (down : Bool) (by lower : ℕ) → (down && leb 65536 (lower + by)) ≡ over (cond down Down Hold) by lower
down_or_hold true by lower = refl
down_or_hold false by lower = refl

-- the changes of each form, made of their calls' answers
module _ (o : Operation) (mode : Mode) (s : Set) (eo : o ≡ operation_of mode) (x y : Bool) (k : ℕ) (ek : k ≡ bit_if x 1 + bit_if y 1 + bit_if false 1) where
  abbrev told_so : ℕ
  told_so = changes_behind (operation_of mode).moves (is_flipped mode) s

  of_form : (m : Moves) → o.moves ≡ m → bit_if x 1 + bit_if y 1 ≡ changes_behind m (is_flipped mode) s → k ≡ told_so
  of_form m em e =
      let sum : bit_if x 1 + bit_if y 1 + bit_if false 1 ≡ bit_if x 1 + bit_if y 1 = omega arith in
      ek ∙ sum ∙ e ∙ sym (λ i. changes_behind ((ap (λ (p : Operation). p.moves) (sym eo) ∙ em) i) (is_flipped mode) s)

  pub transfer_behind : (w : Width) (p q : ℕ) → o.moves ≡ Transfer w → p ≡ size_at w s.a → x ≡ came_over p s.a → q ≡ size_at w s.b → y ≡ came_over q s.b → k ≡ told_so
  transfer_behind w p q em ep ex eq ey =
      of_form (Transfer w) em (λ i. bit_if ((ex ∙ ap (λ (n : ℕ). came_over n s.a) ep) i) 1 + bit_if ((ey ∙ ap (λ (n : ℕ). came_over n s.b) eq) i) 1)

  pub search_behind : (w : Width) (flip : Bool) (from : Address) (p : ℕ) → o.moves ≡ Search w → flip ≡ is_flipped mode → from ≡ source_of flip s → p ≡ size_at w from
      → x ≡ came_over p from → y ≡ false → k ≡ told_so
  search_behind w flip from p em ef es ep ex ey =
      let at : from ≡ source_of (is_flipped mode) s = es ∙ ap (λ (b : Bool). source_of b s) ef in
      let one : bit_if x 1 + 0 ≡ bit_if x 1 = omega arith in
      of_form (Search w) em
      ((λ i. bit_if x 1 + bit_if (ey i) 1) ∙ one ∙ ap (λ (b : Bool). bit_if b 1) (ex ∙ ap (λ (n : ℕ). came_over n from) ep ∙ ap (λ (a : Address). came_over (size_at w a) a) at))

  pub funnel_behind : (p : ℕ) → o.moves ≡ Funnel → p ≡ size_at Byte s.a → x ≡ came_over (2 * p) s.a → y ≡ came_over 2 s.b → k ≡ told_so
  funnel_behind p em ep ex ey = of_form Funnel em (λ i. bit_if ((ex ∙ ap (λ (n : ℕ). came_over (2 * n) s.a) ep) i) 1 + bit_if (ey i) 1)

pub tells : (w : Work) (z z' : Spaces) (x : Moved) → SixteenBitsEach w.set → whole x z' ≡ worked w z → Tells w.mode x
unfolding worked moved_of
tells w z z' x h e =
    ap (λ (k : Worked). changes_behind (operation_of w.mode).moves (is_flipped w.mode) k.moved.set) e
    ∙ behind (operation_of w.mode).moves (is_flipped w.mode) w.set h
    ∙ sym (ap (λ (k : Worked). k.moved.upper) e)

pub words_left_lem : (w : Work) (z z' : Spaces) (x : Moved) → SixteenBitsEach w.set → whole x z' ≡ worked w z → SixteenBitsEach x.set
unfolding worked moved_of
words_left_lem w z z' x h e = subst (λ (k : Worked). SixteenBitsEach k.moved.set) (sym e) (stepped_set_lem (operation_of w.mode).moves (is_flipped w.mode) w.set h)

pub record UnitLoop (b : Board) (limit : ℕ) (m₀ i₀ : List ℕ) (w₀ : Work) (m i : List ℕ) (w : Work) (x : Moved) (k : ℕ) (on : Bool) : Type 0 where
  pub memory_long : length m ≡ length m₀
  pub io_long : length i ≡ length i₀
  pub mode : w.mode ≡ w₀.mode
  pub words : SixteenBitsEach w.set
  pub told : on ≡ false → Tells w₀.mode x
  pub reached : LoopAt (move_turns b) (limit - 1) (moved_on b (limit - 1) 0 w₀ (spaces m₀ i₀)) on k (record { work = w; spaces = spaces m i }) (whole x (spaces m i))

-- the last unit was the pair p's, and q is the pair before the next
pub record Turning (b : Board) (both : Bool) (limit : ℕ) (m₀ i₀ : List ℕ) (p₀ : Pair) (m i : List ℕ) (x : Moved) (p q : Pair) (k : ℕ) (on : Bool) : Type 0 where
  pub memory_long : length m ≡ length m₀
  pub io_long : length i ≡ length i₀
  pub first : both ≡ false → on ≡ true → k ≡ 0
  pub told : on ≡ false → Tells p.work.mode x
  pub reached : LoopAt (unit_turns b both) (limit - 1) (onwards b both (limit - 1) 0 p₀ (spaces m₀ i₀)) on k
      (record { pair = q; spaces = spaces m i })
      (record { which = p.which; rests = p.other; unit = whole x (spaces m i) })

-- a turn: n units of the pair q, from z, which leave x and z'
pub record PairLoop (b : Board) (both : Bool) (limit most : ℕ) (all : Row UnitDone) (q : Pair) (z z' : Spaces) (r : UnitDone) (x : Moved) (k n : ℕ) (on : Bool) : Type 0 where
  pub limited : most ≡ cond both 1 limit
  pub going : on ≡ true
  pub first : both ≡ false → on ≡ true → k ≡ 0
  pub reached : LoopAt (unit_turns b both) (limit - 1) all on k (record { pair = q; spaces = z }) r
  pub moved : record { last = whole x z'; count = n } ≡ moved_on b (most - 1) 0 q.work z

-- a turn of the loop: what its invariant says, and what its call answers
pub a_turn : {b : Board} {limit most : ℕ} {m₀ i₀ m i : List ℕ} {p₀ p q : Pair} {x₀ x : Moved} {z' : Spaces} {k n : ℕ} {on : Bool} (both : Bool)
    → Turning b both limit m₀ i₀ p₀ m i x₀ p q k on → most ≡ cond both 1 limit → on ≡ true
    → record { last = whole x z'; count = n } ≡ moved_on b (most - 1) 0 q.work (spaces m i)
    → PairLoop b both limit most (onwards b both (limit - 1) 0 p₀ (spaces m₀ i₀)) q (spaces m i) z' (record { which = p.which; rests = p.other; unit = whole x₀ (spaces m i) }) x k n on
a_turn both t l g e = record { limited = l; going = g; first = t.first; reached = t.reached; moved = e }

module _ {b : Board} {limit most : ℕ} {all : Row UnitDone} {q : Pair} {z z' : Spaces} {r : UnitDone} {x : Moved} {k n : ℕ} {on : Bool} where
  there : (both : Bool) → PairLoop b both limit most all q z z' r x k n on → LoopAt (unit_turns b both) (limit - 1) all true k (record { pair = q; spaces = z }) r
  there both t = on_yet (unit_turns b both) (limit - 1) all k (record { pair = q; spaces = z }) r on t.going t.reached

  row : (both : Bool) → PairLoop b both limit most all q z z' r x k n on → record { last = whole x z'; count = n } ≡ moved_on b (cond both 1 limit - 1) 0 q.work z
  row both t = t.moved ∙ ap (λ (l : ℕ). moved_on b (l - 1) 0 q.work z) t.limited

  -- a turn of two is one unit
  one : PairLoop b true limit most all q z z' r x k n on → n ≡ 1
  unfolding in_a_row
  one t = ap (λ (y : Row Worked). y.count) (row true t)

  none : PairLoop b false limit most all q z z' r x k n on → k ≡ 0
  none t = t.first refl t.going

  pub counts : (both : Bool) → PairLoop b both limit most all q z z' r x k n on → k + n ≤ limit - 1 + 1
  counts true t = omega (arith, one t, (there true t).0)
  counts false t =
      let c = counted (move_turns b) (limit - 1) 0 (record { work = q.work; spaces = z }) in
      omega (arith, c.1, none t, ap (λ (y : Row Worked). y.count) (row false t))

  -- of two, the other's unit may come next
  pub less_two : (both f : Bool) → both ≡ true → PairLoop b both limit most all q z z' r x k n on → cond (ltb (k + n) limit && f) (limit + 1 - (k + n)) 0 < cond on (limit + 1 - k) 0
  less_two true f e t =
      subst (λ (j : ℕ). cond (ltb (k + j) limit && f) (limit + 1 - (k + j)) 0 < cond on (limit + 1 - k) 0) (sym (one t))
      (fewer_left on (ltb (k + 1) limit && f) limit k t.going (there true t).0)
  less_two false f e t = absurd (true≢false (sym e))

  pub turned_two : (both f : Bool) (v : Pair) → both ≡ true → v ≡ pass q x → f ≡ follows b x v.work → PairLoop b both limit most all q z z' r x k n on
      → LoopAt (unit_turns b both) (limit - 1) all (ltb (k + n) limit && f) (k + n) (record { pair = v; spaces = z' }) (record { which = q.which; rests = q.other; unit = whole x z' })
  unfolding in_a_row
  turned_two true f v e ev ef t =
      let s : LoopAt (unit_turns b true) (limit - 1) all (ltb (k + 1) limit && f) (k + 1) (record { pair = v; spaces = z' }) (record { which = q.which; rests = q.other; unit = whole x z' }) =
      turn (unit_turns b true) limit k all (record { pair = q; spaces = z }) _ (there true t).0 (there true t).1
      (λ j. record { which = q.which; rests = q.other; unit = (row true t j).last })
      f (record { pair = v; spaces = z' })
      (ef ∙ ap (λ (p : Pair). follows b x p.work) ev)
      (λ j. record { pair = ev j; spaces = z' }) in
      subst (λ (j : ℕ). LoopAt (unit_turns b true) (limit - 1) all (ltb (k + j) limit && f) (k + j) (record { pair = v; spaces = z' }) (record { which = q.which; rests = q.other; unit = whole x z' })) (sym (one t)) s
  turned_two false f v e ev ef t = absurd (true≢false (sym e))

  -- of one, all are done
  pub less_one : (both : Bool) → both ≡ false → PairLoop b both limit most all q z z' r x k n on → 0 < cond on (limit + 1 - k) 0
  less_one true e t = absurd (true≢false e)
  less_one false e t = subst (λ (o : Bool). 0 < cond o (limit + 1 - k) 0) (sym t.going) (omega (arith, none t))

  pub done_one : (both : Bool) → both ≡ false → PairLoop b both limit most all q z z' r x k n on → record { last = record { which = q.which; rests = q.other; unit = whole x z' }; count = k + n } ≡ all
  done_one true e t = absurd (true≢false e)
  done_one false e t =
      let c : k + n ≡ n = omega (arith, none t) in
      let d : limit - 1 ≡ limit - 1 - k = omega (arith, none t) in
      (λ j. resting q.which q.other (record { last = whole x z'; count = c j }))
      ∙ ap (resting q.which q.other) (row false t)
      ∙ sym (of_one b q.which q.other (limit - 1) 0 q.work z)
      ∙ (λ j. in_a_row (unit_turns b false) (d j) (sym (none t) j) (record { pair = q; spaces = z }))
      ∙ (there false t).1
