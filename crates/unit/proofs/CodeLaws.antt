-- The tests and the unit, made of their calls' answers.
use mathlib.Core.Path.{◌≡◌, refl, sym, ap, ◌∙◌}
use mathlib.Core.Bool.{Bool, true, false, cond, ◌||◌}
use Prim.Native.Nat.{ℕ}
use Rattle.facts.proofs.Flags.{neither}
use Rattle.space.specs.declared.Width.{Width}
use Rattle.space.specs.declared.Width.TheVariants.{Byte, Word}
use Rattle.space.specs.Space.{Spaces}
use Rattle.unit_comparison.specs.declared.Compared.{Compared}
use Rattle.unit_comparison.specs.Comparison.{comparison}
use Rattle.unit_count.specs.Count.{terminal}
use Rattle.word_address.specs.declared.Address.{Address}
use Rattle.word_address.specs.declared.Set.{Set}
use Rattle.word_address.specs.Address.{is_odd, source_of}
use Rattle.word_operation.specs.declared.Moves.{Moves}
use Rattle.word_operation.specs.declared.Operation.{Operation}
use Rattle.word_operation.specs.declared.Moves.TheVariants.{Transfer, Search, Funnel}
use Rattle.word_operation.specs.Operation.{datum_width}
use Rattle.word_mode.specs.Mode.{operation_of, is_flipped, match_control}
use Rattle.unit_accesses.specs.declared.Accessed.{Accessed}
use Rattle.unit_accesses.specs.Accesses.{Effect, done_as, datum_at, stored_at, stepped_set, upper_changes, accessed}
use Rattle.unit.specs.declared.Work.{Work}
use Rattle.unit.specs.Unit.{odd_at, odd_word, compared, moved_of, worked, whole}

-- ---- an odd word among the accesses

either : (x y : Bool) → x || y ≡ (x || false) || (y || false)
either true y = refl
either false true = refl
either false false = refl

other_way : (x y : Bool) → x || y ≡ (y || false) || (x || false)
other_way true true = refl
other_way true false = refl
other_way false true = refl
other_way false false = refl

alone : (x : Bool) → x ≡ (x || false) || false
alone true = refl
alone false = refl

last : (x : Bool) → x ≡ (x || false)
last true = refl
last false = refl

pub transfer_odd : (w : Width) (flip : Bool) (s : Set) → odd_at w s.a || odd_at w s.b ≡ odd_word (Transfer w) flip s
unfolding odd_word
transfer_odd w true s = other_way (odd_at w s.a) (odd_at w s.b)
transfer_odd w false s = either (odd_at w s.a) (odd_at w s.b)

pub search_odd : (w : Width) (flip : Bool) (s : Set) → odd_at w (source_of flip s) ≡ odd_word (Search w) flip s
unfolding odd_word
search_odd w flip s = alone (odd_at w (source_of flip s))

pub funnel_odd : (flip : Bool) (s : Set) → odd_at Word s.b ≡ odd_word Funnel flip s
unfolding odd_word
funnel_odd true s = alone (odd_at Word s.b)
funnel_odd false s = last (odd_at Word s.b)

even_side : (w : Width) (a : Address) → is_odd a ≡ false → odd_at w a ≡ false
even_side Byte a e = refl
even_side Word a e = e

-- where both addresses are even no word side is odd
pub even_even : (m : Moves) (flip : Bool) (s : Set) → is_odd s.a || is_odd s.b ≡ false → false ≡ odd_word m flip s
even_even (Transfer w) flip s e =
    let n = neither (is_odd s.a) (is_odd s.b) e in
    sym (λ i. even_side w s.a n.0 i || even_side w s.b n.1 i) ∙ transfer_odd w flip s
even_even (Search w) true s e = sym (even_side w s.b (neither (is_odd s.a) (is_odd s.b) e).1) ∙ search_odd w true s
even_even (Search w) false s e = sym (even_side w s.a (neither (is_odd s.a) (is_odd s.b) e).0) ∙ search_odd w false s
even_even Funnel flip s e = sym (neither (is_odd s.a) (is_odd s.b) e).1 ∙ funnel_odd flip s

-- ---- the unit

pub carried : (w : Work) (z z' : Spaces) (o : Operation) (flip : Bool) (d : Accessed) (width : Width) (k : ℕ) (r : Compared) (t : Bool)
    → o ≡ operation_of w.mode → flip ≡ is_flipped w.mode → done_as d z' ≡ accessed o.moves flip w.set z
    → width ≡ datum_width o.moves → k ≡ match_control w.mode
    → r ≡ cond o.compares (comparison width d.datum w.pattern w.mask k) w.kept → t ≡ terminal d.set.count
    → whole (record { set = d.set; compared = r; tc = t; upper = d.upper }) z' ≡ worked w z
unfolding worked moved_of accessed stepped_set compared
carried w z z' o flip d width k r t eo ef e ew ek er et =
    let es : d.set ≡ stepped_set o.moves flip w.set = ap (λ (x : Effect). x.done.set) e in
    let ev : d.datum ≡ datum_at o.moves flip w.set z = ap (λ (x : Effect). x.done.datum) e in
    let eu : d.upper ≡ upper_changes o.moves flip w.set = ap (λ (x : Effect). x.done.upper) e in
    let ez : z' ≡ stored_at o.moves flip w.set (datum_at o.moves flip w.set z) z = ap (λ (x : Effect). x.spaces) e in
    rw (et, er, ek, ew, es, ev, eu, ez, ef, eo)
