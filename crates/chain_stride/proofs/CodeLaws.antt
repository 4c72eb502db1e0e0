-- What a turn of the fetches keeps, at the numbers that the loop has.
use Prim.Native.Nat.{ℕ, ◌+◌, ◌-◌, ◌≤◌}
use mathlib.Core.Path.{◌≡◌, refl, sym, ap, subst, ◌∙◌}
use mathlib.Core.Bool.{Bool, true, false, ◌&&◌}
use mathlib.Core.List.{List}
use lib.Dec.{ltb}
use Rattle.std.specs.Prelude.{None, Option, Some}
use Rattle.facts.specs.Rows.{Row}
use Rattle.facts.proofs.Rows.{LoopAt, begun, on_yet, all_done, turn}
use Rattle.space.specs.declared.Width.TheVariants.{Word}
use Rattle.space.specs.Space.{value_in}
use Rattle.word_address.specs.Address.{number}
use Rattle.channel.specs.declared.Channel.{Channel}
use Rattle.word_reload.specs.declared.Progress.{Progress}
use Rattle.word_reload.specs.declared.Stage.{Stage}
use Rattle.word_reload.specs.declared.Stage.TheVariants.{Entries}
use Rattle.chain.specs.declared.Loaded.{Loaded}
use Rattle.chain.specs.Chaining.{fetched_of}
use Rattle.chain_stride.specs.Fetches.{goes_on, stage_after, fetch_turns, fetches_of}

pub record FetchLoop (limit : ℕ) (m : List ℕ) (c₀ : Channel) (s₀ : Stage) (c : Channel) (s : Stage) (n : Option Progress) (x : Bool) (k : ℕ) (on : Bool) : Type 0 where
  pub reached : LoopAt (fetch_turns m) (limit - 1) (fetches_of m (limit - 1) 0 s₀ c₀) on k (record { stage = s; channel = c }) (record { channel = c; next = n; upper = x })

and_true : (b : Bool) → (b && true) ≡ b
and_true true = refl
and_true false = refl

and_false : (b : Bool) → (b && false) ≡ false
and_false true = refl
and_false false = refl

pub starts : (limit : ℕ) (m : List ℕ) (c : Channel) (s : Stage) (n : Option Progress) (x : Bool) → FetchLoop limit m c s c s n x 0 true
starts limit m c s n x = record { reached = begun (fetch_turns m) (limit - 1) (record { stage = s; channel = c }) }

module _ (limit : ℕ) (m : List ℕ) (c₀ : Channel) (s₀ : Stage) (c : Channel) (s : Stage) (n : Option Progress) (x : Bool) (i : ℕ) (on : Bool) (g : FetchLoop limit m c₀ s₀ c s n x i on) where
  abbrev all : Row Loaded
  all = fetches_of m (limit - 1) 0 s₀ c₀

  pub room : on ≡ true → i ≤ limit - 1
  room e = (on_yet (fetch_turns m) (limit - 1) all i (record { stage = s; channel = c }) (record { channel = c; next = n; upper = x }) on e g.reached).0

  goes : (a w : ℕ) (l : Loaded) (f : Bool) (v : Stage) → on ≡ true → a ≡ number c.chain → w ≡ value_in Word m a → l ≡ fetched_of s w c
      → f ≡ goes_on l.next → v ≡ stage_after l.next s → FetchLoop limit m c₀ s₀ l.channel v l.next l.upper (i + 1) (ltb (i + 1) limit && f)
  goes a w l f v e ea ew el ef ev =
      let k = el ∙ ap (λ (y : ℕ). fetched_of s y c) (ew ∙ ap (value_in Word m) ea) in
      let r = on_yet (fetch_turns m) (limit - 1) all i (record { stage = s; channel = c }) (record { channel = c; next = n; upper = x }) on e g.reached in
      record { reached = turn (fetch_turns m) limit i all (record { stage = s; channel = c }) l r.0 r.1 k f (record { stage = v; channel = l.channel }) ef (λ j. record { stage = ev j; channel = l.channel }) }

  -- the table has more, and the chain is complete
  pub goes_more : (a w : ℕ) (l : Loaded) (p : Progress) → on ≡ true → a ≡ number c.chain → w ≡ value_in Word m a → l ≡ fetched_of s w c → l.next ≡ Some p
      → FetchLoop limit m c₀ s₀ l.channel (Entries p) (Some p) l.upper (i + 1) (ltb (i + 1) limit)
  goes_more a w l p e ea ew el en =
      subst (λ (y : Option Progress). FetchLoop limit m c₀ s₀ l.channel (Entries p) y l.upper (i + 1) (ltb (i + 1) limit)) en
      (subst (λ (y : Bool). FetchLoop limit m c₀ s₀ l.channel (Entries p) l.next l.upper (i + 1) y) (and_true (ltb (i + 1) limit))
      (goes a w l true (Entries p) e ea ew el (sym (ap goes_on en)) (sym (ap (λ (y : Option Progress). stage_after y s) en))))

  pub goes_complete : (a w : ℕ) (l : Loaded) → on ≡ true → a ≡ number c.chain → w ≡ value_in Word m a → l ≡ fetched_of s w c → l.next ≡ None
      → FetchLoop limit m c₀ s₀ l.channel s l.next l.upper (i + 1) false
  goes_complete a w l e ea ew el en =
      subst (λ (y : Bool). FetchLoop limit m c₀ s₀ l.channel s l.next l.upper (i + 1) y) (and_false (ltb (i + 1) limit))
      (goes a w l false s e ea ew el (sym (ap goes_on en)) (sym (ap (λ (y : Option Progress). stage_after y s) en)))

  pub ends : on ≡ false → record { last = record { channel = c; next = n; upper = x }; count = i } ≡ all
  ends e = all_done (fetch_turns m) (limit - 1) all i (record { stage = s; channel = c }) (record { channel = c; next = n; upper = x }) on e g.reached
