-- Document 01, "Chaining" and points P1 to P3: a chain makes exactly as many fetches as its table is long. Assumes nothing.
use mathlib.Core.Path.{◌≡◌, refl, sym, ap, subst, ◌∙◌}
use mathlib.Core.Bool.{cond}
use mathlib.Core.List.{List}
use Prim.Native.Nat.{ℕ, zero, suc, ◌+◌, ◌-◌, ◌≤◌, ◌<◌}
use native.Mathlib.Omega.{arith}
use Rattle.std.specs.Prelude.{None, Option, Some}
use Rattle.facts.specs.Rows.{Row, in_a_row}
use Rattle.word_reload.specs.declared.Progress.{Progress}
use Rattle.word_reload.specs.declared.Stage.{Stage}
use Rattle.word_reload.specs.declared.Stage.TheVariants.{Reload, Entries}
use Rattle.word_reload.specs.Reload.{words_of}
use Rattle.word_reload.specs.Length.{words_left, words_from, words_after, Proper, ProperStage, ProperNext}
use Rattle.word_reload.proofs.Length.{some_left}
use Rattle.channel.specs.declared.Channel.{Channel}
use Rattle.chain.specs.declared.Loaded.{Loaded}
use Rattle.chain.specs.Chaining.{fetched_of}
use Rattle.chain.proofs.Length.{Follows, fetch_follows}
use Rattle.chain_stride.specs.Fetches.{goes_on, stage_after, fetches_of}
use Rattle.chain_stride.specs.Length.{word_at, WholeChain}

-- of so many words, one and up to `more` that follow are fetched, and the others are left
record Counts (words more done : ℕ) (r : Row Loaded) : Type 0 where
  others : words_after r.last.next ≡ words - suc more
  each : r.count + (words - suc more) ≡ done + words
  proper : ProperNext r.last.next

-- the chain is complete, or the row goes on
row_by : (m : List ℕ) (more done words : ℕ) (s : Stage) (l : Loaded) (n : Option Progress) → l.next ≡ n → Follows words n
    → ((p : Progress) → Proper p → Counts (words_left p) more (suc done) (fetches_of m more (suc done) (Entries p) l.channel))
    → Counts words (suc more) done (cond (goes_on n) (fetches_of m more (suc done) (stage_after n s) l.channel) (record { last = l; count = suc done }))
row_by m more done words s l None e f rest = record {
  others = ap words_after e ∙ omega (arith, f.falls);
  each = omega (arith, f.falls);
  proper = subst ProperNext (sym e) tt;
}
row_by m more done words s l (Some p) e f rest =
    let r = rest p f.proper in record { others = r.others ∙ omega (arith, f.falls); each = omega (arith, f.falls, r.each); proper = r.proper }

row : (m : List ℕ) (more done : ℕ) (s : Stage) (c : Channel) → ProperStage s → Counts (words_from s (word_at m c)) more done (fetches_of m more done s c)
unfolding in_a_row
row m zero done s c h = let f = fetch_follows s h (word_at m c) c in record { others = omega (arith, f.falls); each = omega (arith, f.falls); proper = f.proper }
row m (suc more) done s c h =
    let l = fetched_of s (word_at m c) c in
    row_by m more done (words_from s (word_at m c)) s l l.next refl (fetch_follows s h (word_at m c) c) (λ p q. row m more (suc done) (Entries p) l.channel q)

-- ---- the whole chain, and a part of it

none_after : (n : Option Progress) → ProperNext n → words_after n ≡ 0 → n ≡ None
none_after (Some p) h e = absurd (omega (arith, some_left p h))
none_after None h e = refl

pub record PartOfChain (words : ℕ) (r : Row Loaded) : Type 0 where
  pub count : r.count ≡ words
  pub goes_on_by_rule : r.last.next ≡ None → ⊥

module _ (m : List ℕ) (c : Channel) (s : Stage) (h : ProperStage s) (more : ℕ) where
  -- where all of its words may be fetched, they are, and no more
  pub whole : words_from s (word_at m c) ≤ suc more → WholeChain (words_from s (word_at m c)) (fetches_of m more 0 s c)
  whole g =
      let r = row m more 0 s c h in
      record { count = omega (arith, r.each); complete = none_after (fetches_of m more 0 s c).last.next r.proper (r.others ∙ omega arith) }

  -- where fewer may be, these are, and the chain goes on
  pub part : suc more < words_from s (word_at m c) → PartOfChain (suc more) (fetches_of m more 0 s c)
  part g =
      let r = row m more 0 s c h in
      record { count = omega (arith, r.each); goes_on_by_rule = λ e. omega (arith, r.others, ap words_after e) }

-- A chain with the reload word r makes exactly `words_of r` fetches.
pub chain_length : (m : List ℕ) (c : Channel) (k : ℕ) → WholeChain (words_of (word_at m c)) (fetches_of m (words_of (word_at m c) - 1 + k) 0 Reload c)
chain_length m c k = whole m c Reload tt (words_of (word_at m c) - 1 + k) (omega arith)

pub chain_part : (m : List ℕ) (c : Channel) (more : ℕ) → suc more < words_of (word_at m c) → PartOfChain (suc more) (fetches_of m more 0 Reload c)
chain_part m c more g = part m c Reload tt more g
