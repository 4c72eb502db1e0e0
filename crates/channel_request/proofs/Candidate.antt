-- Document 01, "Which step comes next": when a channel is a candidate. Assumes nothing.
use mathlib.Core.Path.{◌≡◌, refl, sym, ◌∙◌}
use mathlib.Core.Bool.{Bool, true, false, ◌||◌, true≢false}
use mathlib.Core.Logic.{◌⊎◌, inl, inr, ◌↔◌}
use Rattle.channel_request.specs.Candidate.{candidate_of}

pub record Ready (active nac sip ca : Bool) : Type 0 where
  pub active_request : active ≡ true
  pub no_nac : nac ≡ false
  pub no_sip : sip ≡ false
  pub no_ca : ca ≡ false

which : (pending active nac sip ca : Bool) → candidate_of pending active nac sip ca ≡ true → (pending ≡ true) ⊎ Ready active nac sip ca
which true active nac sip ca h = inl refl
which false true false false false h = inr (record { active_request = refl; no_nac = refl; no_sip = refl; no_ca = refl })
which false false nac sip ca h = absurd (true≢false (sym h))
which false true true sip ca h = absurd (true≢false (sym h))
which false true false true ca h = absurd (true≢false (sym h))
which false true false false true h = absurd (true≢false (sym h))

or_true : (b : Bool) → (b || true) ≡ true
or_true true = refl
or_true false = refl

module _ (pending active nac sip ca : Bool) where
  back : (pending ≡ true) ⊎ Ready active nac sip ca → candidate_of pending active nac sip ca ≡ true
  back (inl e) = λ i. candidate_of (e i) active nac sip ca
  back (inr r) = (λ i. candidate_of pending (r.active_request i) (r.no_nac i) (r.no_sip i) (r.no_ca i)) ∙ or_true pending

  pub candidate_exactly : candidate_of pending active nac sip ca ≡ true ↔ (pending ≡ true) ⊎ Ready active nac sip ca
  candidate_exactly = (which pending active nac sip ca, back)
