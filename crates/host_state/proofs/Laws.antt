-- Values put in one after the other by a loop: what is left gives what the whole gives. Assumes nothing.
use mathlib.Core.Path.{◌≡◌, sym, ap, ◌∙◌}
use mathlib.Core.List.{List}
use Prim.Native.Nat.{ℕ, suc, ◌+◌, ◌≤◌, ◌<◌}
use native.Mathlib.Numerals.{add-one}
use native.Mathlib.Omega.{arith}
use lib.ListN.{length, get_or, set, drop}
use lib.Seq.{drop-cons}
use Rattle.facts.proofs.Lists.{drop_none}
use Rattle.host_state.specs.Store.{put_from}

pub put_begun : (at : ℕ) (vs w : List ℕ) → put_from (at + 0) vs w ≡ put_from at vs w
put_begun at vs w = ap (λ (n : ℕ). put_from n vs w) (omega arith)

pub put_on : (at k : ℕ) (vs w : List ℕ) → k < length vs → put_from (at + (k + 1)) (drop (k + 1) vs) (set w (at + k) (get_or vs k 0)) ≡ put_from (at + k) (drop k vs) w
unfolding put_from
put_on at k vs w h =
    let e : at + (k + 1) ≡ suc (at + k) = omega arith in
    (λ i. put_from (e i) (drop (add-one k i) vs) (set w (at + k) (get_or vs k 0))) ∙ sym (ap (λ (l : List ℕ). put_from (at + k) l w) (drop-cons vs k 0 h))

pub put_done : (at k : ℕ) (vs w : List ℕ) → length vs ≤ k → put_from (at + k) (drop k vs) w ≡ w
unfolding put_from
put_done at k vs w h = rw (drop_none k vs h)
