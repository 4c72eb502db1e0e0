-- Each refusal has a number of one byte, and none has 0. Assumes nothing.
use mathlib.Core.Path.{◌≡◌, refl}
use mathlib.Core.Bool.{Bool, true, false, cond}
use mathlib.Core.List.{List, [], ◌∷◌}
use Prim.Native.Nat.{◌<◌}
use native.Mathlib.Omega.{arith}
use Rattle.std.specs.Prelude.{Some}
use Rattle.facts.specs.First.{first_of, first_some}
use Rattle.refusal.specs.declared.Refusal.{Refusal}
use Rattle.refusal.specs.declared.Refusal.TheVariants.{NoRegister, Busy, NoCommand, OtherChannelsIp, CannotChain, OddChain, NotCarried, OddWord, NothingToAcknowledge, NoChannel, LongRun}
use Rattle.refusal.specs.Refusals.{number, number_or_0, numbered}

pub numbers : (r : Refusal) → (0 < number r) × (number r < 256)
numbers NoRegister = (omega arith, omega arith)
numbers Busy = (omega arith, omega arith)
numbers NoCommand = (omega arith, omega arith)
numbers OtherChannelsIp = (omega arith, omega arith)
numbers CannotChain = (omega arith, omega arith)
numbers OddChain = (omega arith, omega arith)
numbers NotCarried = (omega arith, omega arith)
numbers OddWord = (omega arith, omega arith)
numbers NothingToAcknowledge = (omega arith, omega arith)
numbers NoChannel = (omega arith, omega arith)
numbers LongRun = (omega arith, omega arith)

-- the first of the numbers is the number of the first
pub first_numbered : (t : List (Bool × Refusal)) → first_of (numbered t) ≡ number_or_0 (first_some t)
first_numbered [] = refl
first_numbered (e ∷ es) = go e.0 (first_numbered es)
  where
    go : (b : Bool) → first_of (numbered es) ≡ number_or_0 (first_some es)
        → cond b (number e.1) (first_of (numbered es)) ≡ number_or_0 (cond b (Some e.1) (first_some es))
    go true i = refl
    go false i = i
