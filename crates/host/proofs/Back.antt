-- The round trip: what was stored is loaded again, and words that some state has are stored as they were. Words that no state has
-- are loaded as `state_of` says. Assumes that a vector is a byte, as its type says.
use Prim.Native.Nat.{ℕ, ◌%◌}
use mathlib.Core.Path.{◌≡◌, refl, sym, ap, ◌∙◌}
use mathlib.Core.Bool.{Bool, true, false}
use mathlib.Core.List.{List, [], ◌∷◌}
use Rattle.std.specs.Prelude.{None, Option, Some}
use Rattle.facts.specs.Look.{look, find}
use Rattle.port.specs.declared.Which.TheVariants.{One, Two}
use Rattle.word_reload.specs.declared.Progress.{Progress}
use Rattle.word_reload.specs.declared.Stage.TheVariants.{Reload, Entries}
use Rattle.channel.specs.declared.Channel.{Channel}
use Rattle.step.specs.declared.Controller.{Controller}
use Rattle.host_state.specs.Store.{bit, chain_word, stage_word, progress_of, channel_word, channel_words, words_of}
use Rattle.host_state.specs.Load.{flag, stage_of, chain_of, channel_of, channel_at, progress_at, state_of}
use Rattle.port.specs.declared.Which.{Which}
use Rattle.word_reload.specs.declared.Stage.{Stage}

flag_back : (b : Bool) → flag (bit b) ≡ b
flag_back true = refl
flag_back false = refl

again : Progress → Progress
again p = progress_at 0 (p.left ∷ bit p.second ∷ p.upper ∷ [])

progress_back : (p : Progress) → again p ≡ p
unfolding again
progress_back p = λ j. record { left = p.left; second = flag_back p.second j; upper = p.upper }

chain_back : (c : Option (Which × Stage)) → chain_of (chain_word c) (stage_of (stage_word c) (again (progress_of c))) ≡ c
unfolding look find chain_of stage_of
chain_back None = refl
chain_back (Some (One, Reload)) = refl
chain_back (Some (Two, Reload)) = refl
chain_back (Some (One, Entries p)) = ap (λ q. Some (One, Entries q)) (progress_back p)
chain_back (Some (Two, Entries p)) = ap (λ q. Some (Two, Entries q)) (progress_back p)

which_back : (w : Option Which) → channel_of (channel_word w) ≡ w
unfolding find channel_of
which_back None = refl
which_back (Some One) = refl
which_back (Some Two) = refl

abbrev pub HasByte : Channel → Type 0
HasByte c = c.interrupt.vector % 256 ≡ c.interrupt.vector

channel_back : (c : Channel) → HasByte c → channel_at 0 (channel_words c) ≡ c
channel_back c h = λ j. record { current = c.current; base = c.base; pattern = c.pattern; mask = c.mask; mode = c.mode; chain = c.chain; interrupt = record { cie = flag_back c.interrupt.cie j; ip = flag_back c.interrupt.ip j; sip = flag_back c.interrupt.sip j; vector = h j; save = c.interrupt.save }; status = record { ca = flag_back c.status.ca j; nac = flag_back c.status.nac j; mch = flag_back c.status.mch j; mcl = flag_back c.status.mcl j; why = record { tc = flag_back c.status.why.tc j; mc = flag_back c.status.why.mc j; eop = flag_back c.status.why.eop j } }; line = record { active = flag_back c.line.active j; change = flag_back c.line.change j }; pending = flag_back c.pending j }

-- what was stored is loaded again
pub back : (u : Controller) → HasByte u.one → HasByte u.two → state_of (words_of u) ≡ u
unfolding state_of words_of again
back u h k = λ j. record { pointer = u.pointer; master = u.master; control = record { chain = chain_back u.control.chain j; bus = which_back u.control.bus j; note = flag_back u.control.note j; served = which_back u.control.served j }; one = channel_back u.one h j; two = channel_back u.two k j }

-- words that some state has are stored as they were
pub forth : (u : Controller) → HasByte u.one → HasByte u.two → (w : List ℕ) → w ≡ words_of u → words_of (state_of w) ≡ w
forth u h k w e = ap (λ v. words_of (state_of v)) e ∙ ap words_of (back u h k) ∙ sym e
