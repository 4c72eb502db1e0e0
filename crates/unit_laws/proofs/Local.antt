-- A unit of one channel: what it reads, what it writes, and that nothing else matters to it.
-- Assumes nothing.
use mathlib.Core.Path.{◌≡◌, refl, sym, ap, ◌∙◌, subst}
use mathlib.Core.Logic.{◌≢◌, ◌⊎◌, inl, inr}
use Prim.Native.Nat.{ℕ, suc}
use lib.ListN.{get_or}
use mathlib.Core.List.{List, [], ◌∷◌}
use Rattle.space.specs.declared.Place.{Place}
use Rattle.space.specs.Space.{Spaces, get, put, Inside, SameSize}
use Rattle.space.specs.Bytes.{gets, stores}
use Rattle.space.proofs.Laws.{place_discrete, Beyond, size_refl, size_sym, size_trans, size_put, inside_size, beyond_size, inside_or_beyond, inside_dec, get_put_same, get_put_other, get_beyond, get_out, put_lost}
use Rattle.unit_laws.specs.Local.{Mover, Prog, exec, In, Agree, Write, puts, places, writing, Touches}

pub in_dec : (l : Place) (ks : List Place) → Dec (In l ks)
in_dec l [] = no (λ x. x)
in_dec l (k ∷ ks) = pick (place_discrete l k) (in_dec l ks)
  where
    pick : Dec (l ≡ k) → Dec (In l ks) → Dec ((l ≡ k) ⊎ In l ks)
    pick (yes e) d = yes (inl e)
    pick (no n) (yes h) = yes (inr h)
    pick (no n) (no m) = no (elim [ inl e ↦ n e | inr h ↦ m h ])

pub puts_writing : (i : ℕ) (ps : List Place) (f : List ℕ → List ℕ) (d : List ℕ) (s : Spaces) → puts (writing i ps f) d s ≡ stores i ps (f d) s
puts_writing i [] f d s = refl
puts_writing i (p ∷ ps) f d s = puts_writing (suc i) ps f d (put s p (get_or (f d) i 255))

pub gets_agree : (ls : List Place) (s t : Spaces) → Agree (λ l. In l ls) s t → gets s ls ≡ gets t ls
gets_agree [] s t h = refl
gets_agree (l ∷ ls) s t h = λ i. h l (inl refl) i ∷ gets_agree ls s t (λ k b. h k (inr b)) i

pub size_puts : (ws : List Write) (d : List ℕ) (s : Spaces) → SameSize (puts ws d s) s
size_puts [] d s = size_refl s
size_puts (w ∷ ws) d s = size_trans (size_puts ws d (put s w.to (w.what d))) (size_put s w.to (w.what d))

pub puts_keeps : (ws : List Write) (d : List ℕ) (s : Spaces) (l : Place) → ¬ (In l (places ws)) → get (puts ws d s) l ≡ get s l
puts_keeps [] d s l h = refl
puts_keeps (w ∷ ws) d s l h =
    puts_keeps ws d (put s w.to (w.what d)) l (λ b. h (inr b)) ∙ get_put_other s l w.to (w.what d) (λ e. h (inl e))

-- the same write on two pairs of spaces of one size: they agree at l after it, if they did, or if l is the place written
put_there : (s t : Spaces) (l : Place) (v : ℕ) → SameSize s t → get (put s l v) l ≡ get (put t l v) l
put_there s t l v e = go (inside_or_beyond s l)
  where
    go : Inside s l ⊎ Beyond s l → get (put s l v) l ≡ get (put t l v) l
    go (inl h) = get_put_same s l v h ∙ sym (get_put_same t l v (inside_size l e h))
    go (inr h) =
        ap (λ (x : Spaces). get x l) (put_lost s l v h) ∙ get_beyond s l h
        ∙ sym (ap (λ (x : Spaces). get x l) (put_lost t l v (beyond_size l e h)) ∙ get_beyond t l (beyond_size l e h))

put_agree : (s t : Spaces) (k l : Place) (v : ℕ) → SameSize s t → (l ≢ k → get s l ≡ get t l) → get (put s k v) l ≡ get (put t k v) l
put_agree s t k l v e h = go (place_discrete l k)
  where
    go : Dec (l ≡ k) → get (put s k v) l ≡ get (put t k v) l
    go (yes q) = subst (λ (m : Place). get (put s m v) l ≡ get (put t m v) l) q (put_there s t l v e)
    go (no n) = get_put_other s l k v n ∙ h n ∙ sym (get_put_other t l k v n)

pub puts_agree : (ws : List Write) (d : List ℕ) (s t : Spaces) (l : Place) → SameSize s t → (¬ (In l (places ws)) → get s l ≡ get t l)
    → get (puts ws d s) l ≡ get (puts ws d t) l
puts_agree [] d s t l e h = h (λ x. x)
puts_agree (w ∷ ws) d s t l e h =
    puts_agree ws d (put s w.to (w.what d)) (put t w.to (w.what d)) l
    (size_trans (size_put s w.to (w.what d)) (size_trans e (size_sym (size_put t w.to (w.what d)))))
    (λ n. put_agree s t w.to l (w.what d) e (λ m. h (elim [ inl q ↦ m q | inr b ↦ n b ])))

pub touches_dec : (z : Spaces) (ls : List Place) (l : Place) → Dec (Touches z ls l)
touches_dec z ls l = go (in_dec l ls) (inside_dec z l)
  where
    go : Dec (In l ls) → Dec (Inside z l) → Dec (Touches z ls l)
    go (yes a) (yes b) = yes (a, b)
    go (yes a) (no h) = no (λ x. h x.1)
    go (no h) d = no (λ x. h x.0)

pub gets_inside : (z : Spaces) (ls : List Place) (s t : Spaces) → SameSize s z → SameSize t z → Agree (Touches z ls) s t → gets s ls ≡ gets t ls
gets_inside z ls s t e f h = gets_agree ls s t (λ l i. go l i (inside_or_beyond z l))
  where
    go : (l : Place) → In l ls → Inside z l ⊎ Beyond z l → get s l ≡ get t l
    go l i (inl b) = h l (i, b)
    go l i (inr b) = get_out s t l (size_trans e (size_sym f)) (beyond_size l (size_sym e) b)

pub puts_inside : (z : Spaces) (ws : List Write) (d : List ℕ) (s : Spaces) (l : Place) → SameSize s z → ¬ (Touches z (places ws) l)
    → get (puts ws d s) l ≡ get s l
puts_inside z ws d s l e h = go (inside_or_beyond z l)
  where
    go : Inside z l ⊎ Beyond z l → get (puts ws d s) l ≡ get s l
    go (inl b) = puts_keeps ws d s l (λ i. h (i, b))
    go (inr b) = sym (get_out s (puts ws d s) l (size_sym (size_puts ws d s)) (beyond_size l (size_sym e) b))

abbrev pub mover : (z : Spaces) {R : Type 0} → Prog R → Mover z R
mover z {R} p = record {
  act = exec p;
  Reads = λ r. Touches z (p.reads r);
  Writes = λ r. Touches z (places (p.writes r));
  local = record {
    decides = λ r l. touches_dec z (places (p.writes r)) l;
    sizes = λ r s. size_puts (p.writes r) (gets s (p.reads r)) s;
    keeps = λ r s l e h. puts_inside z (p.writes r) (gets s (p.reads r)) s l e h;
    reg = λ r s t e f h. ap (p.next r) (gets_inside z (p.reads r) s t e f h);
    wrote = λ r s t e f h l b.
        puts_agree (p.writes r) (gets s (p.reads r)) s t l (size_trans e (size_sym f)) (λ n. absurd (n b.0))
        ∙ ap (λ (d : List ℕ). get (puts (p.writes r) d t) l) (gets_inside z (p.reads r) s t e f h);
  };
}
