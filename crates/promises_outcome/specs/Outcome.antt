-- Demand 2: one outcome. Assumes nothing.
use Rattle.std.specs.Prelude.{◌≡◌}

-- Any two outcomes that a contract permits for the same arguments coincide in what the caller sees of them.
abbrev pub Decided : {K S : Type 0} {A R X : K → Type 0} → ((κs : K) → A κs → R κs → X κs → Type 0) → ((κs : K) → R κs → X κs → S) → Type 0
Decided {K} {S} {A} {R} {X} Post seen = (κs : K) (a : A κs) (r s : R κs) (x y : X κs) → Post κs a r x → Post κs a s y → seen κs r x ≡ seen κs s y
