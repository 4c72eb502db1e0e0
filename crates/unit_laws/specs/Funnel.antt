-- Words funnelled to bytes, and those bytes to words again.
-- Assumes nothing.
use Rattle.std.specs.Prelude.{Bool, ℕ, ◌+◌, ◌*◌, ◌/◌, ◌%◌, List, [], ◌∷◌, get_or}
use Rattle.space.specs.declared.Place.{Place}
use Rattle.unit_funnel.specs.Funnel.{joined, first_half, second_half}
use Rattle.unit_laws.specs.Local.{Write}

-- ---- the accesses of a funnelled unit: a word's two places, its high half first; and two bytes, in the order they are moved

-- the word of two bytes that were read, high half first
abbrev pub word_of : List ℕ → ℕ
word_of d = get_or d 0 255 * 256 + get_or d 1 255

abbrev pub to_bytes : Bool → Place → Place → List Write
to_bytes high a b =
    record { to = a; what = λ d. first_half high (word_of d) % 256 }
    ∷ record { to = b; what = λ d. second_half high (word_of d) % 256 }
    ∷ []

abbrev pub to_word : Bool → Place → Place → List Write
to_word high h l =
    record { to = h; what = λ d. joined high (get_or d 0 255) (get_or d 1 255) / 256 }
    ∷ record { to = l; what = λ d. joined high (get_or d 0 255) (get_or d 1 255) % 256 }
    ∷ []
