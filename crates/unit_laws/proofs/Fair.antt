-- A schedule that serves the channel not served last.
-- Assumes nothing.
use Prim.Native.Nat.{ℕ, zero, suc, ◌≤◌}
use mathlib.Core.List.{List, [], ◌∷◌}
use native.Mathlib.Omega.{arith}
use Rattle.unit_laws.specs.Inter.{Moving, first, second, back, firsts, seconds}
use Rattle.unit_laws.specs.Fair.{LatestMover, channel1, channel2, nobody, serve, Picks}

abbrev pub Fair : LatestMover → List Moving → Type 0
Fair x [] = Unit {0}
Fair x (c ∷ cs) = Picks c x × Fair (serve c x) cs

-- a units of channel 1, b of channel 2: the one that goes first may be one ahead
abbrev pub Ahead : LatestMover → ℕ → ℕ → Type 0
Ahead nobody a b = (b ≤ a) × (a ≤ suc b)
Ahead channel1 a b = (a ≤ b) × (b ≤ suc a)
Ahead channel2 a b = (b ≤ a) × (a ≤ suc b)

none_yet : (x : LatestMover) → Ahead x zero zero
none_yet nobody = omega arith
none_yet channel1 = omega arith
none_yet channel2 = omega arith

then_first : (x : LatestMover) (a b : ℕ) → Picks first x → Ahead channel1 a b → Ahead x (suc a) b
then_first nobody a b p h = omega arith
then_first channel1 a b p h = absurd p
then_first channel2 a b p h = omega arith

then_second : (x : LatestMover) (a b : ℕ) → Picks second x → Ahead channel2 a b → Ahead x a (suc b)
then_second nobody a b p h = absurd p
then_second channel1 a b p h = omega arith
then_second channel2 a b p h = absurd p

pub ahead : (x : LatestMover) (cs : List Moving) → Fair x cs → Ahead x (firsts cs) (seconds cs)
ahead x [] h = none_yet x
ahead x (first ∷ cs) h = then_first x (firsts cs) (seconds cs) h.0 (ahead channel1 cs h.1)
ahead x (second ∷ cs) h = then_second x (firsts cs) (seconds cs) h.0 (ahead channel2 cs h.1)
ahead x (back ∷ cs) h = ahead x cs h.1

within_one : (x : LatestMover) (a b : ℕ) → Ahead x a b → (a ≤ suc b) × (b ≤ suc a)
within_one nobody a b h = omega arith
within_one channel1 a b h = omega arith
within_one channel2 a b h = omega arith

pub balanced : (x : LatestMover) (cs : List Moving) → Fair x cs → (firsts cs ≤ suc (seconds cs)) × (seconds cs ≤ suc (firsts cs))
balanced x cs h = within_one x (firsts cs) (seconds cs) (ahead x cs h)
