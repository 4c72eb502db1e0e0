-- A bit that is set anew reads so, and the other fields read as they did. Assumes nothing.
use mathlib.Core.Path.{◌≡◌, ap}
use mathlib.Core.Bool.{Bool, true, false}
use Prim.Native.Nat.{ℕ, ◌/◌, ◌%◌}
use native.Mathlib.Omega.{arith}
use Rattle.facts.specs.Look.{look}
use Rattle.word_operation.specs.Operation.{operation_at}
use Rattle.word_mode.specs.declared.Mode.{Mode}
use Rattle.word_mode.specs.declared.RequestMode.TheVariants.{DemandInterleave}
use Rattle.word_mode.specs.Mode.{operation_of, request_modes, request_mode_of, is_flipped, match_control, with_flip, with_request}

-- the match control outlasts the software request
pub control_request : (set : Bool) (m : Mode) → match_control (with_request set m) ≡ match_control m
control_request true m = omega arith
control_request false m = omega arith

-- for request E11: the flip is set, and the operation and the request mode outlast it
pub flipped_with : (set : Bool) (m : Mode) → is_flipped (with_flip set m) ≡ set
flipped_with true m = let e : (with_flip true m).low / 16 % 2 ≡ 1 = omega arith in rw e
flipped_with false m = let e : (with_flip false m).low / 16 % 2 ≡ 0 = omega arith in rw e

pub operation_flip : (set : Bool) (m : Mode) → operation_of (with_flip set m) ≡ operation_of m
unfolding operation_of
operation_flip true m = let e : (with_flip true m).low % 16 ≡ m.low % 16 = omega arith in ap operation_at e
operation_flip false m = let e : (with_flip false m).low % 16 ≡ m.low % 16 = omega arith in ap operation_at e

pub request_mode_flip : (set : Bool) (m : Mode) → request_mode_of (with_flip set m) ≡ request_mode_of m
unfolding request_mode_of
request_mode_flip true m = let e : (with_flip true m).low / 32 % 4 ≡ m.low / 32 % 4 = omega arith in ap (λ (n : ℕ). look DemandInterleave n request_modes) e
request_mode_flip false m = let e : (with_flip false m).low / 32 % 4 ≡ m.low / 32 % 4 = omega arith in ap (λ (n : ℕ). look DemandInterleave n request_modes) e
