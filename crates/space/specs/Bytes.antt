-- The bytes of an access: its places, what they hold and what is put there. Assumes nothing.
use Rattle.std.specs.Prelude.{ℕ, suc, ◌+◌, ◌*◌, ◌/◌, ◌%◌, List, [], ◌∷◌, get_or}
use Rattle.space.specs.declared.Place.{Place}
use Rattle.space.specs.declared.Width.{Width}
use Rattle.space.specs.declared.Width.TheVariants.{Byte, Word}
use Rattle.space.specs.Space.{Spaces, space_of, address_of, place_in, get, put}

-- the next place of the same space
abbrev pub after : Place → Place
after p = place_in (space_of p) (address_of p + 1)

-- the places of an access, a word's high half first, before further ones
abbrev pub bytes_at : Width → Place → List Place → List Place
bytes_at Byte p more = p ∷ more
bytes_at Word p more = p ∷ after p ∷ more

-- the value of an access's bytes, and the bytes of a value
abbrev pub value_of : Width → List ℕ → ℕ
value_of Byte d = get_or d 0 255
value_of Word d = get_or d 0 255 * 256 + get_or d 1 255

abbrev pub bytes_of : Width → ℕ → List ℕ
bytes_of Byte v = v % 256 ∷ []
bytes_of Word v = v / 256 ∷ v % 256 ∷ []

-- what stands at a list of places
abbrev pub gets : Spaces → List Place → List ℕ
gets s [] = []
gets s (l ∷ ls) = get s l ∷ gets s ls

-- a list of values, from number i on, put to a list of places
abbrev pub stores : ℕ → List Place → List ℕ → Spaces → Spaces
stores i [] vs s = s
stores i (p ∷ ps) vs s = stores (suc i) ps vs (put s p (get_or vs i 255))
