-- Demand 2, the funnel: words funnelled to bytes and back arrive unchanged. Either channel does either half, in any stretch in which the
-- other channel writes none of the areas; both orders of the halves, memory or I/O on each side, up and down. Assumes nothing.
use mathlib.Core.Path.{◌≡◌, refl, sym, ap, ◌∙◌, subst}
use mathlib.Core.Logic.{◌⊎◌, inl, inr}
use mathlib.Core.Bool.{Bool, true, false}
use mathlib.Core.List.{List, [], ◌∷◌}
use Prim.Native.Nat.{ℕ, zero, suc, ◌+◌, ◌*◌, ◌≤◌, ◌<◌}
use native.Mathlib.Omega.{arith}
use lib.Dec.{eqb}
use borrow.Author.Tests.{ne_eqb}
use Rattle.space.specs.declared.Width.TheVariants.{Byte, Word}
use Rattle.space.specs.declared.Place.{Place}
use Rattle.space.specs.Space.{Spaces, get, place_at}
use Rattle.space.specs.Bytes.{after, gets}
use Rattle.unit_laws.specs.Local.{Write, puts, writing}
use Rattle.unit_laws.specs.Machine.{iter, Every}
use Rattle.unit_laws.proofs.Machine.{every_map}
use Rattle.unit_laws.specs.Op.{ended, bump}
use Rattle.unit_laws.specs.Op as op
use Rattle.unit_laws.proofs.Op.{Unended, Steady}
use Rattle.unit_laws.specs.Block.{Both}
use Rattle.unit_laws.specs.Block.{Laid}
use Rattle.unit_laws.proofs.Block.{Carrying, Arrived, block_arrives}
use Rattle.unit_laws.specs.Funnel.{to_bytes, to_word}
use Rattle.unit_laws.proofs.Funnel.{round_trip}
use Rattle.unit_laws.specs.Pace.{pace}
use Rattle.unit_laws.specs.Area.{Lane, byte, high, low, word_reads, byte_reads, byte_writes, word_writes}
use Rattle.unit_laws.proofs.Area.{laid_bytes, laid_words, apart_size, bytes_kept}
use Rattle.unit_count.specs.Count.{fewer, terminal}
use Rattle.unit_count.proofs.Laws.{last_terminal}
use Rattle.unit_funnel.specs.Funnel.{high_first}
use Rattle.word_address.specs.declared.Address.{Address}
use Rattle.word_address.specs.declared.Set.{Set}
use Rattle.word_address.specs.Address.{place_of, stepped_on, SixteenBits}
use Rattle.word_operation.specs.declared.Operation.{Operation}
use Rattle.word_operation.specs.declared.Moves.{Moves}
use Rattle.word_operation.specs.declared.Moves.TheVariants as moves
use Rattle.word_operation.specs.Operation.{moving}
use Rattle.word_mode.specs.Mode.{operation_of, is_flipped, match_control}
use Rattle.word_mode.specs.Reasons.{some}
use Rattle.unit_accesses.specs.Accesses.{bytes, reads_of, writes_of, datum_of, written_of, datum_at, stepped_set}
use Rattle.unit.specs.Unit.{compared, moved_of, worked}
use Rattle.channel.specs.declared.Channel.{Channel}
use Rattle.channel.specs.Ending.{reasons_of}
use Rattle.step_rules.specs.declared.Choice.TheVariants as chosen
use Rattle.step.specs.Step.{work_of, perform_of}
use Rattle.port.specs.declared.Which.{Which}
use Rattle.promises.specs.Machine.{Machine, channel, unit_reads, unit_writes}
use Rattle.promises.specs.Calls.{Moment, next}
use Rattle.promises.specs.Own.{unit_next, Away, made}
use Rattle.promises.proofs.Seen.{ends_of, seen, done_counts}
use Rattle.promises.specs.Paced.{stepped, line}
use Rattle.promises.specs.Demand2c.{Funnel, InAreas, Funnelled, before, Demand2c}
use Rattle.promises.specs.Demand2c as spec
use Rattle.promises.proofs.Machine.{unit_spaces}
use Rattle.promises.proofs.Own.{LeftAlone, by}
use Rattle.promises.proofs.Stretch.{keeps_next, sizes_next, unit_is}
use Rattle.promises.proofs.Underway.{prog, unit_goes, unit_current, Underway, begins, units_fit, next_underway, rest_underway, steady, after_grows, steady_step}
use Rattle.promises.proofs.Paced.{stands, place_is}

unit_moves : (w : Which) (m : Machine) → (by (chosen.Unit w) m).spaces ≡ puts (unit_writes (channel w m)) (gets m.spaces (unit_reads (channel w m))) m.spaces
unfolding perform_of
unit_moves w m = sym (unit_spaces w (channel w m) m.spaces)

-- the registers of a funnelled transfer, as far as its accesses go
abbrev funnel_reads : Moves → Bool → Set → List Place
funnel_reads m flip s = bytes (reads_of m flip s)

abbrev funnel_writes : Moves → Bool → Set → List Write
funnel_writes m flip s = writing 0 (bytes (writes_of m flip s)) (λ d. written_of m flip s (datum_of m flip s d))

abbrev sides : Address → Address → ℕ → Set
sides a b n = record { a = a; b = b; count = n }

-- both sides are used: the byte side steps twice, the word side once
byte_side : (flip : Bool) (s : Set) → (stepped_set moves.Funnel flip s).a ≡ stepped_on Byte (stepped_on Byte s.a)
unfolding stepped_set
byte_side true s = refl
byte_side false s = refl

word_side : (flip : Bool) (s : Set) → (stepped_set moves.Funnel flip s).b ≡ stepped_on Word s.b
unfolding stepped_set
word_side true s = refl
word_side false s = refl

twice : (k : ℕ) → suc k * 2 ≡ suc (suc (k * 2))
twice k = omega arith

-- k words are done
record FunnelAt (f : Funnel) (k : ℕ) (m : Machine) : Type 0 where
  underway : Underway f.channel (moving moves.Funnel) f.units k m
  flipped : is_flipped (channel f.channel m).mode ≡ f.flip
  a_is : (channel f.channel m).current.a ≡ stepped Byte (k * 2) f.bytes
  b_is : (channel f.channel m).current.b ≡ stepped Word k f.words

at_start : (f : Funnel) (i : ℕ) (x : Moment) → Funnelled f i x → FunnelAt f zero x.machine
at_start f i x h = record {
  underway = begins f.channel (moving moves.Funnel) f.units x.machine (ap (λ (t : Funnel). t.units) h.registers) h.ready;
  flipped = ap (λ (t : Funnel). t.flip) h.registers;
  a_is = ap (λ (t : Funnel). t.bytes) h.registers;
  b_is = ap (λ (t : Funnel). t.words) h.registers;
}

fits_of : (f : Funnel) (i : ℕ) (x : Moment) → Funnelled f i x → f.units ≤ 65536
fits_of f i x h = units_fit f.channel (moving moves.Funnel) f.units x.machine (ap (λ (t : Funnel). t.units) h.registers) h.ready

module _ (f : Funnel) (fits : f.units ≤ 65536) where
  abbrev w : Which
  w = f.channel

  abbrev n : ℕ
  n = f.units

  -- the registers before unit k, with some count
  abbrev sides_at : ℕ → ℕ → Set
  sides_at k c = sides (stepped Byte (k * 2) f.bytes) (stepped Word k f.words) c

  reads_by : (k : ℕ) (m : Machine) → FunnelAt f k m → unit_reads (channel w m) ≡ funnel_reads moves.Funnel f.flip (sides_at k (channel w m).current.count)
  reads_by k m h = λ i. funnel_reads (h.underway.operation i).moves (h.flipped i) (sides (h.a_is i) (h.b_is i) (channel w m).current.count)

  writes_by_lem : (k : ℕ) (m : Machine) → FunnelAt f k m → unit_writes (channel w m) ≡ funnel_writes moves.Funnel f.flip (sides_at k (channel w m).current.count)
  writes_by_lem k m h = λ i. funnel_writes (h.underway.operation i).moves (h.flipped i) (sides (h.a_is i) (h.b_is i) (channel w m).current.count)

  -- it ends by TC alone, at the last unit
  ends_at : (k : ℕ) (m : Machine) → k < n → FunnelAt f k m → ends_of (made w m) ≡ record { mc = false; tc = eqb (suc k) n }
  unfolding worked moved_of compared
  ends_at k m b h = λ i. record {
    mc = (compared (h.underway.operation i) (datum_at (operation_of (channel w m).mode).moves (is_flipped (channel w m).mode) (channel w m).current m.spaces) (channel w m).pattern
        (channel w m).mask (match_control (channel w m).mode) (work_of (channel w m)).kept).met;
    tc = (ap (λ (x : ℕ). terminal (fewer x)) h.underway.count ∙ last_terminal n k fits b) i;
  }

  unended_before : (k : ℕ) (m : Machine) → suc k < n → FunnelAt f k m → ended (ends_of (made w m)) ≡ false
  unended_before k m b h = ap ended (ends_at k m (omega arith) h) ∙ ne_eqb (suc k) n (λ e. omega arith)

  next_at : (k : ℕ) (m : Machine) → k < n → FunnelAt f k m → some (reasons_of (made w m) false) ≡ false → FunnelAt f (suc k) (by (chosen.Unit w) m)
  unfolding worked moved_of
  next_at k m b h e = record {
    underway = next_underway w (moving moves.Funnel) n k m fits b h.underway e;
    flipped = (unit_goes w m e).flip ∙ h.flipped;
    a_is = ap (λ (s : Set). s.a) (unit_current w m e) ∙ ap (λ (s : Set). s.a) moved ∙ byte_side flip (channel w m).current
        ∙ ap (λ (x : Address). stepped_on Byte (stepped_on Byte x)) h.a_is ∙ ap (λ (j : ℕ). stepped Byte j f.bytes) (sym (twice k));
    b_is = ap (λ (s : Set). s.b) (unit_current w m e) ∙ ap (λ (s : Set). s.b) moved ∙ word_side flip (channel w m).current ∙ ap (stepped_on Word) h.b_is;
  }
    where
      flip : Bool
      flip = is_flipped (channel w m).mode

      moved : (made w m).set ≡ stepped_set moves.Funnel flip (channel w m).current
      moved = ap (λ (o : Operation). stepped_set o.moves flip (channel w m).current) h.underway.operation

  rest_at : (k : ℕ) (m m' : Machine) → LeftAlone w m m' → FunnelAt f k m → FunnelAt f k m'
  rest_at k m m' l h = record {
    underway = rest_underway w (moving moves.Funnel) n k m m' l h.underway;
    flipped = ap (λ (x : Channel). is_flipped x.mode) l.alone ∙ h.flipped;
    a_is = ap (λ (x : Channel). x.current.a) l.alone ∙ h.a_is;
    b_is = ap (λ (x : Channel). x.current.b) l.alone ∙ h.b_is;
  }

  steady_at : (k : ℕ) (x : Moment) → k < n → FunnelAt f k x.machine → Steady (seen w) n (FunnelAt f) k x
  steady_at = steady w (moving moves.Funnel) n (FunnelAt f) (λ k m h. h.underway) next_at rest_at

  -- the units before the last do not end it
  going : (i k : ℕ) (x : Moment) → FunnelAt f k x.machine → op.after (seen w) k i x < n → Every next (Unended (seen w)) i x
  going zero k x h c = tt
  going (suc i) k x h c = (now, going i (bump (unit_next w x) k) (next x) (steady_step (seen w) n (FunnelAt f) k x (steady_at k x (below (unit_next w x) small) h) now small) c)
    where
      small : bump (unit_next w x) k < n
      small = let g = after_grows (seen w) i (bump (unit_next w x) k) (next x) in let s : op.after (seen w) (bump (unit_next w x) k) i (next x) < n = c in omega arith

      below : (b : Bool) → bump b k < n → k < n
      below true l = omega arith
      below false l = l

      now : Unended (seen w) x
      now e = unended_before k x.machine (subst (λ (b : Bool). bump b k < n) e small) h

  module _ (src : ℕ → List Place) (dst : ℕ → List Write)
      (reads : (k c : ℕ) → funnel_reads moves.Funnel f.flip (sides_at k c) ≡ src k)
      (writes : (k c : ℕ) → funnel_writes moves.Funnel f.flip (sides_at k c) ≡ dst k)
      (both : (l : Place) → Both n src dst l → InAreas f l) where
    carrying : (x : Moment) → Away w (InAreas f) x → Carrying (seen w) (prog w) n src dst (FunnelAt f) x
    carrying x u k b h = record {
      steady = steady_at k x b h;
      sizes = sizes_next w x;
      moved = λ e l y. ap (λ (m : Machine). get m.spaces l) (unit_is w x e) ∙ ap (λ (z : Spaces). get z l) (unit_moves w x.machine);
      kept = λ e l y. keeps_next w x (InAreas f) u e l (both l y);
    }

    arrives : (i : ℕ) (x : Moment) → Laid n src dst x.machine.spaces → Funnelled f i x
        → Arrived n src dst x.machine.spaces n (next (iter next i x)).machine.spaces
    arrives i x y h =
        let last = ap suc (done_counts f.channel i x) ∙ h.last in
        block_arrives (seen w) (prog w) n src dst (FunnelAt f) (λ k m b q. reads_by k m q ∙ reads k (channel w m).current.count)
        (λ k m b q. writes_by_lem k m q ∙ writes k (channel w m).current.count) i x y (at_start f i x h)
        (every_map next (Away w (InAreas f)) (Carrying (seen w) (prog w) n src dst (FunnelAt f)) carrying (suc i) x h.untouched)
        (going i zero x (at_start f i x h) (omega arith)) h.mine last

-- ---- the accesses, as lines of places

after_at : (t : Bool) (n : ℕ) → after (place_at t n) ≡ place_at t (n + 1)
after_at true n = refl
after_at false n = refl

module _ (b x : Address) (hb : SixteenBits b) (hx : SixteenBits x) where
  low_is : (k : ℕ) → after (place_of (stepped Word k x)) ≡ low (line Word x) k
  low_is k = ap after (place_is Word x hx k) ∙ after_at (line Word x).tag (pace (line Word x).start (line Word x).by k)

  word_reads_is : (k c : ℕ) → funnel_reads moves.Funnel true (sides (stepped Byte (k * 2) b) (stepped Word k x) c) ≡ word_reads (line Word x) k
  word_reads_is k c = λ i. place_is Word x hx k i ∷ low_is k i ∷ []

  byte_reads_is : (k c : ℕ) → funnel_reads moves.Funnel false (sides (stepped Byte (k * 2) b) (stepped Word k x) c) ≡ byte_reads (line Byte b) k
  byte_reads_is k c = λ i. place_is Byte b hb (k * 2) i ∷ place_is Byte b hb (suc (k * 2)) i ∷ []

  byte_writes_is : (k c : ℕ) → funnel_writes moves.Funnel true (sides (stepped Byte (k * 2) b) (stepped Word k x) c) ≡ byte_writes (high_first x.upper) (line Byte b) k
  byte_writes_is k c = λ i. to_bytes ((stands Word x hx k).order i) (place_is Byte b hb (k * 2) i) (place_is Byte b hb (suc (k * 2)) i)

  word_writes_is : (k c : ℕ) → funnel_writes moves.Funnel false (sides (stepped Byte (k * 2) b) (stepped Word k x) c) ≡ word_writes (high_first x.upper) (line Word x) k
  word_writes_is k c = λ i. to_word ((stands Word x hx k).order i) (place_is Word x hx k i) (low_is k i)

-- ---- the demand

swapped : {A B : Type 0} → A ⊎ B → B ⊎ A
swapped (inl x) = inr x
swapped (inr y) = inl y

pub demand2c : Demand2c
demand2c a there back h k b = record { high_half = whole.0; low_half = whole.1 }
  where
    words : Lane
    words = line Word a.words

    bytes_lane : Lane
    bytes_lane = line Byte a.bytes

    home : Lane
    home = line Word a.home

    up : Bool
    up = high_first a.words.upper

    gone : Arrived a.units (word_reads words) (byte_writes up bytes_lane) (before there) a.units (spec.after there)
    gone = arrives _ (fits_of _ there.last there.by h.goes) (word_reads words) (byte_writes up bytes_lane) (word_reads_is a.bytes a.words h.registers.1 h.registers.0)
        (byte_writes_is a.bytes a.words h.registers.1 h.registers.0) (λ l y. y) there.last there.by
        (laid_bytes a.units up words bytes_lane home (before there) h.apart) h.goes

    came : Arrived a.units (byte_reads bytes_lane) (word_writes (high_first a.home.upper) home) (before back) a.units (spec.after back)
    came = arrives _ (fits_of _ back.last back.by h.comes) (byte_reads bytes_lane) (word_writes (high_first a.home.upper) home) (byte_reads_is a.bytes a.home h.registers.1 h.registers.2)
        (word_writes_is a.bytes a.home h.registers.1 h.registers.2) (λ l y. swapped y) back.last back.by
        (laid_words a.units (high_first a.home.upper) words bytes_lane home (before back) (apart_size a.units words bytes_lane home (before there) (before back) h.sizes h.apart))
        h.comes

    whole : (get (spec.after back) (high home k) ≡ get (before there) (high words k)) × (get (spec.after back) (low home k) ≡ get (before there) (low words k))
    whole = round_trip a.units up (high words) (low words) (λ j. byte bytes_lane (j * 2)) (λ j. byte bytes_lane (suc (j * 2))) (high home) (low home)
        (before there) (spec.after there) (before back) (spec.after back) h.octets gone
        (bytes_kept bytes_lane up a.units (before back) (spec.after there) h.held)
        (subst (λ (o : Bool). Arrived a.units (byte_reads bytes_lane) (word_writes o home) (before back) a.units (spec.after back)) h.order came) k b
