-- What is read after a write, and where two pairs of spaces are the same: by cases on the space where a space and its list are told
-- from the others, and from there once over the space. Assumes nothing.
use mathlib.Core.Path.{◌≡◌, refl, sym, ap, ◌∙◌, subst}
use mathlib.Core.Logic.{◌≢◌, ◌⊎◌, inl, inr}
use mathlib.Core.Bool.{Bool, true, false}
use mathlib.Core.List.{List, [], ◌∷◌}
use Prim.Native.Nat.{ℕ, suc, ◌+◌, ◌/◌, ◌%◌, ◌≤◌, ◌<◌}
use native.Mathlib.Nat.{lt_of_not-le}
use native.Mathlib.Decide.{dec_le, dec_lt, ℕ_discrete}
use native.Mathlib.Omega.{arith}
use lib.ListN.{length, get_or, set, length-set, get_or-eq_default}
use lib.Seq.{get_or-set_same, get_or-set_other, set_comm, set_out, ext_get_or}
use Rattle.space.specs.declared.Place.{Place}
use Rattle.space.specs.declared.Place.TheVariants.{Memory, Io}
use Rattle.space.specs.declared.Width.{Width}
use Rattle.space.specs.declared.Width.TheVariants.{Byte, Word}
use Rattle.space.specs.Space.{Space, in_memory, in_io, Spaces, list_of, with_list, space_of, address_of, place_in, place_at, get, put, value_in, with_value, read_at, written, Inside, SameSize, Bytes}
use Rattle.space.specs.Bytes.{after, bytes_at, value_of, bytes_of, gets, stores}

-- ---- by cases on the space

abbrev Tells : Space → Type 0
Tells in_memory = Unit {0}
Tells in_io = ⊥

-- A memory address never stands for an I/O address.
memory_not_io : in_memory ≢ in_io
memory_not_io e = subst Tells e tt

pub space_discrete : Discrete Space
space_discrete in_memory in_memory = yes refl
space_discrete in_memory in_io = no memory_not_io
space_discrete in_io in_memory = no (λ e. memory_not_io (sym e))
space_discrete in_io in_io = yes refl

-- the list that was put in, another's, the same list again, one after another, and two of two spaces
list_with : (k : Space) (l : List ℕ) (s : Spaces) → list_of k (with_list k l s) ≡ l
list_with in_memory l s = refl
list_with in_io l s = refl

list_other : (j k : Space) (l : List ℕ) (s : Spaces) → j ≢ k → list_of j (with_list k l s) ≡ list_of j s
list_other in_memory in_memory l s h = absurd (h refl)
list_other in_memory in_io l s h = refl
list_other in_io in_memory l s h = refl
list_other in_io in_io l s h = absurd (h refl)

with_same : (k : Space) (s : Spaces) → with_list k (list_of k s) s ≡ s
with_same in_memory s = refl
with_same in_io s = refl

with_twice : (k : Space) (l m : List ℕ) (s : Spaces) → with_list k m (with_list k l s) ≡ with_list k m s
with_twice in_memory l m s = refl
with_twice in_io l m s = refl

with_comm : (j k : Space) (l m : List ℕ) (s : Spaces) → j ≢ k → with_list k m (with_list j l s) ≡ with_list j l (with_list k m s)
with_comm in_memory in_memory l m s h = absurd (h refl)
with_comm in_memory in_io l m s h = refl
with_comm in_io in_memory l m s h = refl
with_comm in_io in_io l m s h = absurd (h refl)

-- spaces are equal if their lists are
lists_ext : (s t : Spaces) → ((k : Space) → list_of k s ≡ list_of k t) → s ≡ t
lists_ext s t h = λ i. record { memory = h in_memory i; io = h in_io i }

-- a place has its space and its address, and is made of them
space_in : (k : Space) (a : ℕ) → space_of (place_in k a) ≡ k
space_in in_memory a = refl
space_in in_io a = refl

address_in : (k : Space) (a : ℕ) → address_of (place_in k a) ≡ a
address_in in_memory a = refl
address_in in_io a = refl

place_made : (p : Place) → place_in (space_of p) (address_of p) ≡ p
place_made (Memory a) = refl
place_made (Io a) = refl

-- ---- places

pub place_ext : (p q : Place) → space_of p ≡ space_of q → address_of p ≡ address_of q → p ≡ q
place_ext p q e f = sym (place_made p) ∙ (λ i. place_in (e i) (f i)) ∙ place_made q

pub place_discrete : Discrete Place
place_discrete p q = go (space_discrete (space_of p) (space_of q)) (ℕ_discrete (address_of p) (address_of q))
  where
    go : Dec (space_of p ≡ space_of q) → Dec (address_of p ≡ address_of q) → Dec (p ≡ q)
    go (yes e) (yes f) = yes (place_ext p q e f)
    go (yes e) (no n) = no (λ x. n (ap address_of x))
    go (no n) d = no (λ x. n (ap space_of x))

pub place_inj : (memory : Bool) (a b : ℕ) → place_at memory a ≡ place_at memory b → a ≡ b
place_inj true a b e = ap address_of e
place_inj false a b e = ap address_of e

abbrev pub Beyond : Spaces → Place → Type 0
Beyond s p = length (list_of (space_of p) s) ≤ address_of p

pub inside_or_beyond : (s : Spaces) (l : Place) → Inside s l ⊎ Beyond s l
inside_or_beyond s l = go (dec_le (length (list_of (space_of l) s)) (address_of l))
  where
    go : Dec (Beyond s l) → Inside s l ⊎ Beyond s l
    go (yes h) = inr h
    go (no h) = inl (lt_of_not-le h)

pub inside_dec : (s : Spaces) (l : Place) → Dec (Inside s l)
inside_dec s l = dec_lt (address_of l) (length (list_of (space_of l) s))

-- ---- a byte read after a byte written

-- the list of a space once a byte is put there, or elsewhere
list_put : (j : Space) (s : Spaces) (k : Place) (v : ℕ) → space_of k ≡ j → list_of j (put s k v) ≡ set (list_of j s) (address_of k) v
list_put j s k v e = subst (λ (x : Space). list_of x (put s k v) ≡ set (list_of x s) (address_of k) v) e (list_with (space_of k) (set (list_of (space_of k) s) (address_of k) v) s)

list_kept : (j : Space) (s : Spaces) (k : Place) (v : ℕ) → j ≢ space_of k → list_of j (put s k v) ≡ list_of j s
list_kept j s k v h = list_other j (space_of k) (set (list_of (space_of k) s) (address_of k) v) s h

pub get_put_same : (s : Spaces) (l : Place) (v : ℕ) → Inside s l → get (put s l v) l ≡ v
get_put_same s l v h =
    ap (λ (x : List ℕ). get_or x (address_of l) 255) (list_put (space_of l) s l v refl)
    ∙ get_or-set_same (list_of (space_of l) s) (address_of l) v 255 h

pub get_put_other : (s : Spaces) (l k : Place) (v : ℕ) → l ≢ k → get (put s k v) l ≡ get s l
get_put_other s l k v h = go (space_discrete (space_of l) (space_of k))
  where
    go : Dec (space_of l ≡ space_of k) → get (put s k v) l ≡ get s l
    go (yes e) =
        ap (λ (x : List ℕ). get_or x (address_of l) 255) (list_put (space_of l) s k v (sym e))
        ∙ get_or-set_other (list_of (space_of l) s) (address_of k) (address_of l) v 255 (λ f. h (place_ext l k e f))
    go (no n) = ap (λ (x : List ℕ). get_or x (address_of l) 255) (list_kept (space_of l) s k v n)

pub get_beyond : (s : Spaces) (l : Place) → Beyond s l → get s l ≡ 255
get_beyond s l h = get_or-eq_default (list_of (space_of l) s) 255 h

pub put_lost : (s : Spaces) (l : Place) (v : ℕ) → Beyond s l → put s l v ≡ s
put_lost s l v h =
    ap (λ (x : List ℕ). with_list (space_of l) x s) (set_out (list_of (space_of l) s) (address_of l) v h) ∙ with_same (space_of l) s

-- for request E12: bytes at two places, in either order
pub put_comm : (s : Spaces) (l k : Place) (v w : ℕ) → l ≢ k → put (put s l v) k w ≡ put (put s k w) l v
put_comm s l k v w h = lists_ext (put (put s l v) k w) (put (put s k w) l v) (λ j. go j (space_discrete j (space_of l)) (space_discrete j (space_of k)))
  where
    go : (j : Space) → Dec (j ≡ space_of l) → Dec (j ≡ space_of k) → list_of j (put (put s l v) k w) ≡ list_of j (put (put s k w) l v)
    go j (yes e) (yes f) =
        list_put j (put s l v) k w (sym f) ∙ ap (λ (x : List ℕ). set x (address_of k) w) (list_put j s l v (sym e))
        ∙ set_comm (list_of j s) (address_of l) (address_of k) v w (λ g. h (place_ext l k (sym e ∙ f) g))
        ∙ ap (λ (x : List ℕ). set x (address_of l) v) (sym (list_put j s k w (sym f))) ∙ sym (list_put j (put s k w) l v (sym e))
    go j (yes e) (no n) =
        list_kept j (put s l v) k w n ∙ list_put j s l v (sym e)
        ∙ ap (λ (x : List ℕ). set x (address_of l) v) (sym (list_kept j s k w n)) ∙ sym (list_put j (put s k w) l v (sym e))
    go j (no n) (yes f) =
        list_put j (put s l v) k w (sym f) ∙ ap (λ (x : List ℕ). set x (address_of k) w) (list_kept j s l v n)
        ∙ sym (list_put j s k w (sym f)) ∙ sym (list_kept j (put s k w) l v n)
    go j (no n) (no m) = list_kept j (put s l v) k w m ∙ list_kept j s l v n ∙ sym (list_kept j s k w m) ∙ sym (list_kept j (put s k w) l v n)

-- ---- a datum of either width

-- it is the value of its bytes, and is written as its bytes
get_after : (s : Spaces) (p : Place) → get s (after p) ≡ get_or (list_of (space_of p) s) (address_of p + 1) 255
get_after s p = λ i. get_or (list_of (space_in (space_of p) (address_of p + 1) i) s) (address_in (space_of p) (address_of p + 1) i) 255

pub value_read : (w : Width) (z : Spaces) (p : Place) → value_of w (gets z (bytes_at w p [])) ≡ read_at w z p
value_read Byte z p = refl
value_read Word z p = rw (get_after z p)

pub value_written : (w : Width) (z : Spaces) (p : Place) (v : ℕ) → stores 0 (bytes_at w p []) (bytes_of w v) z ≡ written w z p v
value_written Byte z p v = refl
value_written Word z p v =
    (λ i. with_list (space_in (space_of p) (address_of p + 1) i) (set (list_of (space_in (space_of p) (address_of p + 1) i) one) (address_in (space_of p) (address_of p + 1) i) (v % 256)) one)
    ∙ ap (λ (x : List ℕ). with_list (space_of p) (set x (address_of p + 1) (v % 256)) one) (list_put (space_of p) z p (v / 256) refl)
    ∙ with_twice (space_of p) (set (list_of (space_of p) z) (address_of p) (v / 256)) (with_value Word (list_of (space_of p) z) (address_of p) v) z
  where
    one : Spaces
    one = put z p (v / 256)

-- how many values a width has, and how far its last byte is from its first
abbrev pub values : Width → ℕ
values Byte = 256
values Word = 65536

abbrev pub reach : Width → ℕ
reach Byte = 0
reach Word = 1

value_back : (w : Width) (s : List ℕ) (a v : ℕ) → a + reach w < length s → v < values w → value_in w (with_value w s a v) a ≡ v
value_back Byte s a v h b = get_or-set_same s a (v % 256) 255 (omega arith) ∙ omega arith
value_back Word s a v h b =
    let inside : a + 1 < length (set s a (v / 256)) = simp length-set h in
    rw (get_or-set_same (set s a (v / 256)) (a + 1) (v % 256) 255 inside, get_or-set_other (set s a (v / 256)) (a + 1) a (v % 256) 255 (omega arith))
    (rw (get_or-set_same s a (v / 256) 255 (omega arith)) (omega arith))

-- every byte of the datum lies inside
abbrev pub Holds : Width → Spaces → Place → Type 0
Holds w s p = address_of p + reach w < length (list_of (space_of p) s)

-- for requests E12 and E13: what is written there is read
pub read_back : (w : Width) (s : Spaces) (p : Place) (v : ℕ) → Holds w s p → v < values w → read_at w (written w s p v) p ≡ v
read_back w s p v h b =
    ap (λ (x : List ℕ). value_in w x (address_of p)) (list_with (space_of p) (with_value w (list_of (space_of p) s) (address_of p) v) s)
    ∙ value_back w (list_of (space_of p) s) (address_of p) v h b

pub size_refl : (s : Spaces) → SameSize s s
size_refl s = record { at = λ k. refl }

pub size_sym : {s t : Spaces} → SameSize s t → SameSize t s
size_sym h = record { at = λ k. sym (h.at k) }

pub size_trans : {s t u : Spaces} → SameSize s t → SameSize t u → SameSize s u
size_trans h k = record { at = λ j. h.at j ∙ k.at j }

pub size_put : (s : Spaces) (l : Place) (v : ℕ) → SameSize (put s l v) s
size_put s l v = record { at = λ j. go j (space_discrete j (space_of l)) }
  where
    go : (j : Space) → Dec (j ≡ space_of l) → length (list_of j (put s l v)) ≡ length (list_of j s)
    go j (yes e) = ap length (list_put j s l v (sym e)) ∙ length-set (list_of j s) (address_of l) v
    go j (no n) = ap length (list_kept j s l v n)

pub size_stores : (i : ℕ) (ps : List Place) (vs : List ℕ) (s : Spaces) → SameSize (stores i ps vs s) s
size_stores i [] vs s = size_refl s
size_stores i (p ∷ ps) vs s = size_trans (size_stores (suc i) ps vs (put s p (get_or vs i 255))) (size_put s p (get_or vs i 255))

pub inside_size : {s t : Spaces} (l : Place) → SameSize s t → Inside s l → Inside t l
inside_size l e h = subst (λ (n : ℕ). address_of l < n) (e.at (space_of l)) h

pub beyond_size : {s t : Spaces} (l : Place) → SameSize s t → Beyond s l → Beyond t l
beyond_size l e h = subst (λ (n : ℕ). n ≤ address_of l) (e.at (space_of l)) h

-- spaces of one size agree beyond their end
pub get_out : (s t : Spaces) (l : Place) → SameSize s t → Beyond s l → get s l ≡ get t l
get_out s t l e h = get_beyond s l h ∙ sym (get_beyond t l (beyond_size l e h))

-- two pairs of spaces are equal when they are as long and agree at each place inside
pub ext : (s t : Spaces) → SameSize s t → ((l : Place) → Inside s l → get s l ≡ get t l) → s ≡ t
ext s t e h = lists_ext s t (λ k. ext_get_or 255 (list_of k s) (list_of k t) (e.at k) (λ a b. go k a b))
  where
    -- an address of a space is that of its place
    go : (k : Space) (a : ℕ) → a < length (list_of k s) → get_or (list_of k s) a 255 ≡ get_or (list_of k t) a 255
    go k a b =
        let q = space_in k a in let r = address_in k a in
        subst (λ (x : Space). get_or (list_of x s) a 255 ≡ get_or (list_of x t) a 255) q
        (subst (λ (n : ℕ). get_or (list_of (space_of (place_in k a)) s) n 255 ≡ get_or (list_of (space_of (place_in k a)) t) n 255) r
        (h (place_in k a) (subst (λ (n : ℕ). n < length (list_of (space_of (place_in k a)) s)) (sym r) (subst (λ (x : Space). a < length (list_of x s)) (sym q) b))))

pub bytes_of_lists : (s : Spaces) → ((k : Space) (a : ℕ) → a < length (list_of k s) → get_or (list_of k s) a 255 < 256) → Bytes s
bytes_of_lists s f l = go (inside_or_beyond s l)
  where
    go : Inside s l ⊎ Beyond s l → get s l < 256
    go (inl h) = f (space_of l) (address_of l) h
    go (inr h) = let e = get_beyond s l h in omega arith

-- for request E13: and stays a byte
pub bytes_put : (s : Spaces) (k : Place) (v : ℕ) → Bytes s → v < 256 → Bytes (put s k v)
bytes_put s k v h b l = go (place_discrete l k)
  where
    go : Dec (l ≡ k) → get (put s k v) l < 256
    go (no n) = let e = get_put_other s l k v n in let c = h l in omega arith
    go (yes e) = subst (λ (x : Place). get (put s x v) l < 256) e (at (inside_or_beyond s l))
      where
        at : Inside s l ⊎ Beyond s l → get (put s l v) l < 256
        at (inl i) = let q = get_put_same s l v i in omega arith
        at (inr i) = let q = ap (λ (x : Spaces). get x l) (put_lost s l v i) in let c = h l in omega arith
