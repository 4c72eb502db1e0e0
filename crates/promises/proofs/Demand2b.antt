-- Demand 2, the search: it ends on the first datum that meets its condition, or at the count. For either channel, all request modes, both
-- widths, all step codes and both spaces, in any stretch. Assumes nothing.
use mathlib.Core.Path.{◌≡◌, refl, ap, ◌∙◌, subst}
use mathlib.Core.Bool.{Bool, true, false, ◌||◌, true≢false}
use mathlib.Core.List.{[]}
use Prim.Native.Nat.{ℕ, zero, suc, ◌-◌, ◌≤◌, ◌<◌}
use native.Mathlib.Omega.{arith}
use lib.Dec.{eqb}
use Rattle.facts.specs.Bits.{bit_if}
use Rattle.space.specs.declared.Width.{Width}
use Rattle.space.specs.Space.{Spaces, get}
use Rattle.space.specs.Bytes.{bytes_at, value_of, gets}
use Rattle.unit_laws.specs.Local.{Agree}
use Rattle.unit_laws.specs.Machine.{iter, Every}
use Rattle.unit_laws.proofs.Machine.{every_map, every_init}
use Rattle.unit_laws.specs.Op.{Ends, ended, Seen, bump, after, done, Area}
use Rattle.unit_laws.proofs.Op.{Unended, seen_data, Reads-at}
use Rattle.unit_laws.specs.Search.{First}
use Rattle.unit_laws.specs.Search.{outcome}
use Rattle.unit_laws.proofs.Search.{Looking, Found, search_ends}
use Rattle.unit_count.specs.Count.{fewer, terminal}
use Rattle.unit_count.proofs.Laws.{last_terminal}
use Rattle.word_address.specs.declared.Address.{Address}
use Rattle.word_address.specs.declared.Set.{Set}
use Rattle.word_address.specs.Address.{place_of, stepped_on, step_to, source_of}
use Rattle.word_operation.specs.declared.Operation.{Operation}
use Rattle.word_operation.specs.declared.Moves.TheVariants as moves
use Rattle.word_operation.specs.Operation.{comparing}
use Rattle.word_mode.specs.declared.Reasons.{Reasons}
use Rattle.word_mode.specs.Mode.{operation_of, is_flipped, match_control, reload_of}
use Rattle.word_mode.specs.Reasons.{some, enabled_for}
use Rattle.unit_accesses.specs.Accesses.{bytes, reads_of, datum_of, datum_at, stored_at, stepped_set, upper_changes}
use Rattle.unit.specs.Unit.{compared, moved_of, worked}
use Rattle.channel.specs.declared.Channel.{Channel}
use Rattle.channel.proofs.Laws.{ends_exactly}
use Rattle.channel.specs.Ending.{reasons_of}
use Rattle.step_rules.specs.declared.Choice.TheVariants as chosen
use Rattle.port.specs.Ports.{channel_number}
use Rattle.step.specs.Answers.{Paper, unit, paper}
use Rattle.step.specs.Step.{work_of, perform_of}
use Rattle.port.specs.declared.Which.{Which}
use Rattle.promises.specs.Machine.{Machine, answer, channel, unit_reads}
use Rattle.promises.specs.Calls.{Moment, next}
use Rattle.promises.specs.Own.{unit_next, Away, made}
use Rattle.promises.proofs.Seen.{ends_of, seen, done_counts}
use Rattle.promises.specs.Demand2b.{Search, place, condition, hit, SearchStretch, changed, unit_ended, reasons_of_search, UnitSearched, Demand2b}
use Rattle.promises.specs.Paced.{stepped}
use Rattle.promises.proofs.Own.{LeftAlone, by}
use Rattle.promises.proofs.Stretch.{keeps_next, owned, unit_is}
use Rattle.promises.proofs.Underway.{prog, unit_answer_lem, unit_goes, unit_current, ended_current, Underway, begins, units_fit, count_made, next_underway, rest_underway, steady, bump_grows, after_grows, steady_step}

-- ---- stretches

every_snoc : {M : Type 0} (step : M → M) (P : M → Type 0) (i : ℕ) (m : M) → Every step P i m → P (iter step i m) → Every step P (suc i) m
every_snoc step P zero m h p = (p, tt)
every_snoc step P (suc i) m h p = (h.0, every_snoc step P i (step m) h.1 p)

done_suc : {M R : Type 0} (v : Seen M R) (k i : ℕ) (m : M) → after v k (suc i) m ≡ bump (v.mine (iter v.step i m)) (after v k i m)
done_suc v k zero m = refl
done_suc v k (suc i) m = done_suc v (bump (v.mine m) k) i (v.step m)

-- ---- a unit of a search

search_steps : (d : Width) (flip : Bool) (s : Set) → source_of flip (stepped_set (moves.Search d) flip s) ≡ stepped_on d (source_of flip s)
unfolding stepped_set
search_steps d true s = refl
search_steps d false s = refl

search_changes : (d : Width) (flip : Bool) (s : Set) → upper_changes (moves.Search d) flip s ≡ bit_if (step_to (source_of flip s) (stepped_on d (source_of flip s))).upper 1
unfolding upper_changes
search_changes d flip s = omega arith

none_ended : (e : Ends) → ended e ≡ false → e ≡ record { mc = false; tc = false }
none_ended e h = go e.mc e.tc h
  where
    go : (mc tc : Bool) → (mc || tc) ≡ false → ◌≡◌ {A = Ends} (record { mc = mc; tc = tc }) (record { mc = false; tc = false })
    go true tc q = absurd (true≢false q)
    go false true q = absurd (true≢false q)
    go false false q = refl

abbrev why_of_end : Ends → Reasons
why_of_end e = record { tc = e.tc; mc = e.mc; eop = false }

abbrev operation : Search → Operation
operation s = comparing (moves.Search s.width)

-- k data are done
record SearchAt (s : Search) (k : ℕ) (m : Machine) : Type 0 where
  underway : Underway s.channel (operation s) s.units k m
  source : source_of (is_flipped (channel s.channel m).mode) (channel s.channel m).current ≡ stepped s.width k s.start
  pattern_is : (channel s.channel m).pattern ≡ s.pattern
  mask_is : (channel s.channel m).mask ≡ s.mask
  control_is : match_control (channel s.channel m).mode ≡ s.control

module _ (s : Search) (fits : s.units ≤ 65536) where
  abbrev w : Which
  w = s.channel

  abbrev n : ℕ
  n = s.units

  abbrev flip : Machine → Bool
  flip m = is_flipped (channel w m).mode

  reads_at : Reads-at (prog w) n (place s) (SearchAt s)
  reads_at k m b h =
      ap (λ (o : Operation). bytes (reads_of o.moves (flip m) (channel w m).current)) h.underway.operation
      ∙ ap (λ (x : Address). bytes_at s.width (place_of x) []) h.source

  -- the datum is the value of what is read
  datum_is : (k : ℕ) (m : Machine) → SearchAt s k m
      → datum_at (operation_of (channel w m).mode).moves (flip m) (channel w m).current m.spaces ≡ value_of s.width (gets m.spaces (unit_reads (channel w m)))
  unfolding datum_at
  datum_is k m h = ap (λ (o : Operation). datum_of o.moves (flip m) (channel w m).current (gets m.spaces (unit_reads (channel w m)))) h.underway.operation

  ends_at : (k : ℕ) (x : Moment) → k < n → SearchAt s k x.machine
      → ends_of (made w x.machine) ≡ record { mc = condition s (seen_data (seen w) (prog w) x); tc = eqb (suc k) n }
  unfolding worked moved_of compared
  ends_at k x b h = λ i. record {
    mc = (compared (h.underway.operation i) (datum_is k x.machine h i) (h.pattern_is i) (h.mask_is i) (h.control_is i) (work_of (channel w x.machine)).kept).met;
    tc = (ap (λ (c : ℕ). terminal (fewer c)) h.underway.count ∙ last_terminal n k fits b) i;
  }

  -- and its changes of bits 23-16 are those of the step after its datum
  changes_at : (k : ℕ) (m : Machine) → SearchAt s k m → (made w m).upper ≡ bit_if (changed s k) 1
  unfolding worked moved_of
  changes_at k m h =
      ap (λ (o : Operation). upper_changes o.moves (flip m) (channel w m).current) h.underway.operation
      ∙ search_changes s.width (flip m) (channel w m).current
      ∙ ap (λ (x : Address). bit_if (step_to x (stepped_on s.width x)).upper 1) h.source

  -- unended, it goes on to the next datum
  next_at : (k : ℕ) (m : Machine) → k < n → SearchAt s k m → some (reasons_of (made w m) false) ≡ false → SearchAt s (suc k) (by (chosen.Unit w) m)
  unfolding worked moved_of
  next_at k m b h e = record {
    underway = next_underway w (operation s) n k m fits b h.underway e;
    source = (λ i. source_of ((unit_goes w m e).flip i) (unit_current w m e i))
        ∙ ap (λ (o : Operation). source_of (flip m) (stepped_set o.moves (flip m) (channel w m).current)) h.underway.operation
        ∙ search_steps s.width (flip m) (channel w m).current ∙ ap (stepped_on s.width) h.source;
    pattern_is = (unit_goes w m e).pattern ∙ h.pattern_is;
    mask_is = (unit_goes w m e).mask ∙ h.mask_is;
    control_is = (unit_goes w m e).control ∙ h.control_is;
  }

  -- what is no unit of it leaves it where it stands
  rest_at : (k : ℕ) (m m' : Machine) → LeftAlone w m m' → SearchAt s k m → SearchAt s k m'
  rest_at k m m' l h = record {
    underway = rest_underway w (operation s) n k m m' l h.underway;
    source = ap (λ (x : Channel). source_of (is_flipped x.mode) x.current) l.alone ∙ h.source;
    pattern_is = ap (λ (x : Channel). x.pattern) l.alone ∙ h.pattern_is;
    mask_is = ap (λ (x : Channel). x.mask) l.alone ∙ h.mask_is;
    control_is = ap (λ (x : Channel). match_control x.mode) l.alone ∙ h.control_is;
  }

  -- the search writes nothing, and the other channel nothing of the data
  still : (k : ℕ) (m : Machine) → SearchAt s k m → (by (chosen.Unit w) m).spaces ≡ m.spaces
  unfolding perform_of worked stored_at
  still k m h =
      ap (λ (o : Operation). stored_at o.moves (flip m) (channel w m).current
      (datum_at (operation_of (channel w m).mode).moves (flip m) (channel w m).current m.spaces) m.spaces) h.underway.operation

  abbrev Untouched : Moment → Type 0
  Untouched = Away w (Area n (place s))

  kept_by : (k : ℕ) (x : Moment) → SearchAt s k x.machine → Untouched x → (b : Bool) → unit_next w x ≡ b → Agree (Area n (place s)) (next x).machine.spaces x.machine.spaces
  kept_by k x h u true e l y = ap (λ (z : Machine). get z.spaces l) (unit_is w x e) ∙ ap (λ (z : Spaces). get z l) (still k x.machine h)
  kept_by k x h u false e l y = keeps_next w x (Area n (place s)) u e l y

  abbrev LooksOn : Moment → Type 0
  LooksOn = Looking (seen w) (prog w) n (place s) (condition s) (SearchAt s)

  looking : (x : Moment) → Untouched x → LooksOn x
  looking x u k b h = record {
    steady = steady w (operation s) n (SearchAt s) (λ k m h. h.underway) next_at rest_at k x b h;
    kept = kept_by k x h u (unit_next w x) refl;
    answers = λ e. ends_at k x b h;
  }

  -- where the search stands after i calls in which it did not end
  stands : (i k : ℕ) (x : Moment) → SearchAt s k x.machine → Every next Untouched i x → Every next (Unended (seen w)) i x
      → after (seen w) k i x < n → SearchAt s (after (seen w) k i x) (iter next i x).machine
  stands zero k x h u q c = h
  stands (suc i) k x h u q c =
      let g = after_grows (seen w) i (bump (unit_next w x) k) (next x) in
      let b = bump_grows (unit_next w x) k in
      let l : bump (unit_next w x) k < n = omega arith in
      stands i (bump (unit_next w x) k) (next x) (steady_step (seen w) n (SearchAt s) k x (looking x u.0 k (omega arith) h).steady q.0 l) u.1 q.1 c

  module _ (stop : ℕ) (x : Moment) (f : First (hit s x.machine.spaces) n stop) (h : SearchAt s zero x.machine) where
    found : (i : ℕ) → Every next Untouched (suc i) x → Every next (Unended (seen w)) i x → unit_next w (iter next i x) ≡ true
        → Found (seen w) (hit s x.machine.spaces) n stop i x
    found i u q e =
        search_ends (seen w) (prog w) n (place s) (condition s) (SearchAt s) reads_at stop i x f h (every_map next Untouched LooksOn looking (suc i) x u) q e

    -- the units before number `stop` do not end the search
    goes_on_by_rule : (i : ℕ) → Every next Untouched (suc i) x → done (seen w) (suc i) x ≤ stop → Every next (Unended (seen w)) i x → Unended (seen w) (iter next i x)
    goes_on_by_rule i u b q e =
        (found i u q e).before
        (subst (λ (c : Bool). bump c (done (seen w) i x) ≤ stop) e (subst (λ (c : ℕ). c ≤ stop) (done_suc (seen w) zero i x) b))

    still_going : (i : ℕ) → Every next Untouched i x → done (seen w) i x ≤ stop → Every next (Unended (seen w)) i x
    still_going zero u b = tt
    still_going (suc i) u b =
        let e = done_suc (seen w) zero i x in
        let g = bump_grows (unit_next w (iter next i x)) (done (seen w) i x) in
        let q = still_going i (every_init next Untouched i x u) (omega arith) in
        every_snoc next (Unended (seen w)) i x q (goes_on_by_rule i u b q)

-- ---- the demand

by_number : (s : Search) (stop i : ℕ) (x : Moment) → SearchStretch s stop i x
    → UnitSearched s stop (done (seen s.channel) i x) x.machine.spaces (iter next i x).machine (next (iter next i x)).machine
by_number s stop i x h = record {
  going = λ b. said (omega arith) ∙ ap (λ (e : Ends). unit_ended s (done (seen w) i x) (why_of_end e)) (none_ended (ends_of (made w m)) ((upto (omega arith)).before b));
  reasons = λ q. said (omega arith) ∙ (λ j. unit_ended s (q j) (why q j));
  stops = λ q. ap (λ (p : Paper). some p.why) (said (omega arith)) ∙ ends q;
  count = counted;
  left = λ q r. ap (λ (y : Machine). (channel w y).current.count) (unit_is w (iter next i x) h.mine)
      ∙ ap (λ (c : Set). c.count) (ended_current w m (ends q) (ap (λ (e : Reasons). enabled_for (reload_of (channel w m).mode) e) (why q) ∙ r)) ∙ counted q;
}
  where
    w : Which
    w = s.channel

    m : Machine
    m = (iter next i x).machine

    fits : s.units ≤ 65536
    fits = units_fit w (operation s) s.units x.machine (ap (λ (t : Search). t.units) h.registers) h.ready

    at_start : SearchAt s zero x.machine
    at_start = record {
      underway = begins w (operation s) s.units x.machine (ap (λ (t : Search). t.units) h.registers) h.ready;
      source = ap (λ (t : Search). t.start) h.registers;
      pattern_is = ap (λ (t : Search). t.pattern) h.registers;
      mask_is = ap (λ (t : Search). t.mask) h.registers;
      control_is = ap (λ (t : Search). t.control) h.registers;
    }

    earlier : Every next (Away w (Area s.units (place s))) i x
    earlier = every_init next (Away w (Area s.units (place s))) i x h.untouched

    going_on : done (seen w) i x ≤ stop → Every next (Unended (seen w)) i x
    going_on b = still_going s fits stop x h.first at_start i earlier b

    upto : done (seen w) i x ≤ stop → Found (seen w) (hit s x.machine.spaces) s.units stop i x
    upto b = found s fits stop x h.first at_start i h.untouched (going_on b) h.mine

    now_at : done (seen w) i x ≤ stop → SearchAt s (done (seen w) i x) m
    now_at b = let below = h.first.below in stands s fits i zero x at_start earlier (going_on b) (omega arith)

    said : done (seen w) i x ≤ stop → paper (answer m) ≡ unit_ended s (done (seen w) i x) (reasons_of (made w m) false)
    said b =
        unit_answer_lem w m (owned w (iter next i x) h.mine)
        ∙ ap (λ (k : ℕ). record { number = 0; name = unit; channel = channel_number w; why = reasons_of (made w m) false; upper = k }) (changes_at s fits (done (seen w) i x) m (now_at b))

    why : done (seen w) i x ≡ stop → reasons_of (made w m) false ≡ reasons_of_search s x.machine.spaces stop
    why q = ap why_of_end ((upto (omega arith)).reasons ∙ ap (outcome (hit s x.machine.spaces) s.units) q)

    ends : done (seen w) i x ≡ stop → some (reasons_of (made w m) false) ≡ true
    ends q = ends_exactly (made w m) ∙ (upto (omega arith)).at q

    counted : done (seen w) i x ≡ stop → (made w m).set.count ≡ s.units - 1 - stop
    counted q =
        let below = h.first.below in
        let c = count_made w (operation s) s.units (done (seen w) i x) m fits (omega arith) (now_at (omega arith)).underway in
        omega (arith, fits)

pub demand2b : Demand2b
demand2b s stop i x h =
    subst (λ (k : ℕ). UnitSearched s stop k x.machine.spaces (iter next i x).machine (next (iter next i x)).machine) (done_counts s.channel i x)
    (by_number s stop i x h)
