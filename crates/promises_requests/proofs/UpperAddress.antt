-- Document 02, E5: the number that a step's answer carries is the sum over the steps that it makes, and at most 2. Assumes nothing.
use mathlib.Core.Path.{◌≡◌, refl, sym, ap, subst, ◌∙◌}
use mathlib.Core.Bool.{Bool, true, false, not, cond}
use mathlib.Core.List.{List, [], ◌∷◌, ◌++◌}
use Prim.Native.Nat.{ℕ, ◌+◌, ◌-◌, ◌*◌, ◌/◌, ◌%◌, ◌≤◌, ◌<◌}
use native.Mathlib.Omega.{arith}
use lib.Dec.{eqb}
use borrow.Author.Tests.{eq-eqb, ne_eqb}
use Rattle.facts.specs.Bits.{bit_if}
use Rattle.facts.proofs.Bits.{bit_le}
use Rattle.port.specs.declared.Which.{Which}
use Rattle.space.specs.declared.Width.TheVariants.{Byte, Word}
use Rattle.stepping.specs.Stepping.{step_size, Up}
use Rattle.stepping.proofs.Laws.{moved_lt}
use Rattle.word_tag.specs.Tag.{is_memory, direction_of}
use Rattle.word_address.specs.declared.Address.{Address}
use Rattle.word_address.specs.declared.Set.{Set}
use Rattle.word_address.specs.Address.{number, with_number, stepped_on, fetched_on, step_to, source_of, SixteenBits, SixteenBitsEach}
use Rattle.word_address.proofs.Laws.{number_lt}
use Rattle.word_operation.specs.declared.Moves.{Moves}
use Rattle.word_operation.specs.declared.Moves.TheVariants.{Transfer, Search, Funnel}
use Rattle.word_mode.specs.Mode.{operation_of, is_flipped}
use Rattle.word_reload.specs.declared.Stage.{Stage}
use Rattle.word_reload.specs.declared.Stage.TheVariants.{Reload, Entries}
use Rattle.unit_accesses.specs.Accesses.{Access, reads_of, writes_of, changes, upper_changes, stepped_set}
use Rattle.unit.specs.Unit.{moved_of, worked}
use Rattle.unit_stride.specs.Behind.{came_over, size_at, changes_behind}
use Rattle.unit_stride.proofs.Behind.{stepped_words, behind}
use Rattle.chain.specs.Chaining.{fetched_of}
use Rattle.chain.proofs.Upper.{reload_tells, entries_tell}
use Rattle.step_rules.specs.declared.Choice.{Choice}
use Rattle.step_rules.specs.declared.Choice.TheVariants as chosen
use Rattle.step.specs.declared.Controller.{Controller}
use Rattle.step.specs.Controller.{at}
use Rattle.step.specs.Answers.{paper}
use Rattle.step.specs.Fetching.{fetch_of, drop_of}
use Rattle.step.specs.Step.{hold_of, perform_of, step_of, unit_of}
use Rattle.promises.specs.Machine.{Machine, next_choice, channel}
use Rattle.promises_requests.specs.UpperAddress.{differs, differs_after, sum_over, accesses_of, replaces, fetch_differs, number_of, carried, Registers, UpperAddress}

-- ---- a step, by its numbers

flag_differs : (b : Bool) → bit_if (not b) 1 ≡ cond b 0 1
flag_differs true = refl
flag_differs false = refl

-- the upper bytes of the registers are those of the addresses
bytes_of : (a : Address) (n : ℕ) → SixteenBits a → n < 16777216 → bit_if (step_to a (with_number a n)).upper 1 ≡ cond (eqb (number a / 65536) (n / 65536)) 0 1
bytes_of a n h l =
    let u = h.upper in let k = h.lower in
    let before : a.upper / 256 ≡ number a / 65536 = omega arith in
    let after : (with_number a n).upper / 256 ≡ n / 65536 = omega arith in
    (λ i. bit_if (not (eqb (before i) (after i))) 1) ∙ flag_differs (eqb (number a / 65536) (n / 65536))

access_differs : (x : Access) → SixteenBits x.address → bit_if (step_to x.address (stepped_on x.width x.address)).upper 1 ≡ differs_after x
unfolding stepped_on
access_differs x h =
    let a = x.address in
    bytes_of a _ h (moved_lt 16777216 (direction_of a.upper) (step_size (is_memory a.upper) x.width) (number a) (number_lt a h))

-- ---- the steps of a unit

-- each access is at a register of 16-bit words
abbrev Each : List Access → Type 0
Each [] = Unit {0}
Each (x ∷ xs) = SixteenBits x.address × Each xs

sums : (xs : List Access) → Each xs → changes xs ≡ sum_over xs
sums [] h = refl
sums (x ∷ xs) h = λ i. access_differs x h.0 i + sums xs h.1 i

sums_both : (xs ys : List Access) → Each xs → Each ys → changes xs + changes ys ≡ sum_over (xs ++ ys)
sums_both [] ys h g = omega (arith, sums ys g)
sums_both (x ∷ xs) ys h g = omega (arith, access_differs x h.0, sums_both xs ys h.1 g)

module _ (s : Set) (h : SixteenBitsEach s) where
  reads_each : (m : Moves) (flip : Bool) → Each (reads_of m flip s)
  reads_each (Transfer w) true = (h.b, tt)
  reads_each (Transfer w) false = (h.a, tt)
  reads_each (Search w) true = (h.b, tt)
  reads_each (Search w) false = (h.a, tt)
  reads_each Funnel true = (h.b, tt)
  reads_each Funnel false = (h.a, (stepped_words _ s.a, tt))

  writes_each : (m : Moves) (flip : Bool) → Each (writes_of m flip s)
  writes_each (Transfer w) true = (h.a, tt)
  writes_each (Transfer w) false = (h.b, tt)
  writes_each (Search w) flip = tt
  writes_each Funnel true = (h.a, (stepped_words _ s.a, tt))
  writes_each Funnel false = (h.b, tt)

two_at_most : (m : Moves) (flip : Bool) (s : Set) → changes_behind m flip s ≤ 2
two_at_most (Transfer w) flip s = omega (arith, bit_le (came_over (size_at w s.a) s.a) 1, bit_le (came_over (size_at w s.b) s.b) 1)
two_at_most (Search w) flip s = omega (arith, bit_le (came_over (size_at w (source_of flip s)) (source_of flip s)) 1)
two_at_most Funnel flip s = omega (arith, bit_le (came_over (2 * size_at Byte s.a) s.a) 1, bit_le (came_over (size_at Word s.b) s.b) 1)

-- ---- what an answer carries

module _ (m : Machine) (h : (w : Which) → Registers (channel w m)) where
  abbrev u : Controller
  u = m.controller

  unit_sum : (w : Which) → upper_changes (operation_of (at w u).mode).moves (is_flipped (at w u).mode) (at w u).current ≡ sum_over (accesses_of (channel w m))
  unfolding upper_changes
  unit_sum w =
      let c = at w u in let o = (operation_of c.mode).moves in let flip = is_flipped c.mode in
      sums_both (reads_of o flip c.current) (writes_of o flip c.current)
      (reads_each c.current (h w).current o flip) (writes_each c.current (h w).current o flip)

  unit_most : (w : Which) → upper_changes (operation_of (at w u).mode).moves (is_flipped (at w u).mode) (at w u).current ≤ 2
  unit_most w =
      let c = at w u in let o = (operation_of c.mode).moves in let flip = is_flipped c.mode in
      subst (λ (k : ℕ). k ≤ 2) (behind o flip c.current (h w).current) (two_at_most o flip (stepped_set o flip c.current))

  chain_differs : (a : Address) → SixteenBits a → bit_if (step_to a (fetched_on a)).upper 1 ≡ differs Up 2 (number a)
  unfolding fetched_on
  chain_differs a g = bytes_of a _ g (moved_lt 16777216 Up 2 (number a) (number_lt a g))

  fetch_sum : (w : Which) (stage : Stage) (word : ℕ) → bit_if (fetched_of stage word (at w u)).upper 1 ≡ fetch_differs stage (channel w m)
  fetch_sum w Reload word = ap (λ (b : Bool). bit_if b 1) (reload_tells word (at w u)) ∙ chain_differs (at w u).chain (h w).chain
  fetch_sum w (Entries p) word = ap (λ (b : Bool). bit_if b 1) (entries_tell word (at w u) p) ∙ by_place (replaces (Entries p))
    where
      by_place : (new : Bool) → bit_if (cond new false (step_to (at w u).chain (fetched_on (at w u).chain)).upper) 1 ≡ cond new 0 (differs Up 2 (number (at w u).chain))
      by_place true = refl
      by_place false = chain_differs (at w u).chain (h w).chain

  performed : (c : Choice) (eop : Bool) → (paper (perform_of c eop u m.spaces).stepped.answer).upper ≡ number_of c eop m
  unfolding perform_of fetch_of drop_of unit_of hold_of worked moved_of
  performed chosen.Disabled eop = refl
  performed (chosen.Refused r) eop = refl
  performed (chosen.Fetch w stage) true = refl
  performed (chosen.Fetch w stage) false = fetch_sum w stage _
  performed chosen.GiveBack eop = refl
  performed (chosen.Unit w) eop = unit_sum w
  performed (chosen.Hold w) true = refl
  performed (chosen.Hold w) false = refl
  performed chosen.Release eop = refl
  performed chosen.Idle eop = refl

  one_or_none : (same : Bool) → cond same 0 1 ≤ 2
  one_or_none true = omega arith
  one_or_none false = omega arith

  fetch_most : (new same : Bool) → cond new 0 (cond same 0 1) ≤ 2
  fetch_most true same = omega arith
  fetch_most false same = one_or_none same

  at_most : (c : Choice) (eop : Bool) → number_of c eop m ≤ 2
  at_most chosen.Disabled eop = omega arith
  at_most (chosen.Refused r) eop = omega arith
  at_most (chosen.Fetch w stage) true = omega arith
  at_most (chosen.Fetch w stage) false =
      let n = number (channel w m).chain in
      fetch_most (replaces stage) (eqb (n / 65536) ((n + 2) % 16777216 / 65536))
  at_most chosen.GiveBack eop = omega arith
  at_most (chosen.Unit w) eop = subst (λ (k : ℕ). k ≤ 2) (unit_sum w) (unit_most w)
  at_most (chosen.Hold w) eop = omega arith
  at_most chosen.Release eop = omega arith
  at_most chosen.Idle eop = omega arith

  is_number : (eop : Bool) → carried eop m ≡ number_of (next_choice m) eop m
  unfolding step_of
  is_number eop = performed (next_choice m) eop

-- ---- the promise

pub upper_address : UpperAddress
upper_address = record {
  number = λ eop m h. is_number m h eop;
  most = λ eop m h. subst (λ (k : ℕ). k ≤ 2) (sym (is_number m h eop)) (at_most m h (next_choice m) eop);
  past_the_top = λ by n s l g. ap (λ (b : Bool). cond b 0 1) (ne_eqb (n / 65536) ((n + by) % 16777216 / 65536) (λ q. omega arith));
  past_the_bottom = λ by n s l. ap (λ (b : Bool). cond b 0 1) (ne_eqb (n / 65536) ((n + 16777216 - by) % 16777216 / 65536) (λ q. omega arith));
  holding = λ by n. ap (λ (b : Bool). cond b 0 1) (eq-eqb (n / 65536) (n / 65536) refl);
}
