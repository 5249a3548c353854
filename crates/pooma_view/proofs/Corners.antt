-- Two views that name the corners of their common cells at the same positions name all of them so.
use Rattle.std.proofs.Common.{refl, sym, ap, ◌∙◌, inl, inr, arith, ⊎_elim, append_assoc}
use mathlib.Core.Path.{ap₂}
use Rattle.std.proofs.lemmas.Bool.{cases_order}
use Rattle.std.proofs.lemmas.Int.{ints}
use Rattle.std.specs.Prelude.{◌≡◌, ◌⊎◌, ◌<◌, ℤ, pos, negsuc, ◌+ℤ◌, ◌*ℤ◌, ◌≤ℤ◌, Some, List, [], ◌∷◌, ◌++◌, length, slice_get}
use Rattle.pooma_domain.specs.Cells.{IsIn}
use Rattle.pooma_domain.specs.declared.strides.Strided.{Strided}
use Rattle.pooma_domain.proofs.CellOrder.{slice_get-append_left, slice_get-append_right}
use Rattle.pooma_view.specs.Common.{NamesNumber}
use Rattle.pooma_view.specs.Slots.{positions_of, coordinate, left_over, cell_named, Accepts}
use Rattle.pooma_view.specs.declared.slots.Slot.{Slot}
use Rattle.pooma_view.specs.declared.slots.Slot.TheVariants.{Fixed, Along}
use Rattle.pooma_view.proofs.SlotLists.{accepted, joined}
use Rattle.pooma_view.proofs.Lines.{same_place, places_agree, same_fronts}

-- what a slot puts in front of a position that names this number
abbrev pub head_of : (slot : Slot) (z : ℤ) → NamesNumber slot z → List ℤ
head_of (Fixed x) z n = []
head_of (Along s) z n = pos n.0 ∷ []

head_named : (slot : Slot) (z : ℤ) (n : NamesNumber slot z) (p : List ℤ) → Accepts slot (head_of slot z n ++ p) × (coordinate slot (head_of slot z n ++ p) ≡ z) × (left_over slot (head_of slot z n ++ p) ≡ p)
head_named (Fixed x) z n p = (tt, n, refl)
head_named (Along s) z n p =
    let below : n.0 < s.count = n.1 in
    ((omega (arith, ints), omega (arith, ints, below)), sym n.2, refl)

-- each position that names a number is of that form
pub taken_head : (slot : Slot) (z : ℤ) (p : List ℤ) → Accepts slot p → coordinate slot p ≡ z → (n : NamesNumber slot z) × (p ≡ head_of slot z n ++ left_over slot p)
taken_head (Fixed x) z p a e = (e, refl)
taken_head (Along s) z [] a e = absurd a
taken_head (Along s) z (pos k ∷ p) a e =
    let some : 0 < s.count = s.some in
    ((k, omega (arith, ints, a.0, a.1), sym e), refl)
taken_head (Along s) z (negsuc k ∷ p) a e = absurd (omega (arith, ints, a.0))

-- the place of a number is the only one
only_head : (slot : Slot) (z w : ℤ) (n : NamesNumber slot z) (m : NamesNumber slot w) → z ≡ w → head_of slot z n ≡ head_of slot w m
only_head (Fixed x) z w n m e = refl
only_head (Along s) z w n m e =
    let n_is : z ≡ s.first +ℤ s.stride *ℤ pos n.0 = n.2 in
    let m_is : w ≡ s.first +ℤ s.stride *ℤ pos m.0 = m.2 in
    let same : n.0 ≡ m.0 = same_place s.stride n.0 m.0 s.moves (omega (arith, ints, n_is, m_is, e)) in
    ap (λ k. pos k ∷ []) same

only_empty : (p q : List ℤ) → IsIn [] p → IsIn [] q → p ≡ q
only_empty [] [] h k = refl
only_empty [] (x ∷ q) h k = absurd k
only_empty (x ∷ p) q h k = absurd h

-- positions that name one cell are the same
pub apart : (slots : List Slot) (p q : List ℤ) → IsIn (positions_of slots) p → IsIn (positions_of slots) q → cell_named slots p ≡ cell_named slots q → p ≡ q
apart [] p q h k e = only_empty p q h k
apart (slot ∷ slots) p q h k e =
    let a : Accepts slot p × IsIn (positions_of slots) (left_over slot p) = accepted slot (positions_of slots) p h in
    let b : Accepts slot q × IsIn (positions_of slots) (left_over slot q) = accepted slot (positions_of slots) q k in
    let here : coordinate slot p ≡ coordinate slot q = cc in
    let there : cell_named slots (left_over slot p) ≡ cell_named slots (left_over slot q) = cc in
    let i = taken_head slot (coordinate slot p) p a.0 refl in
    let j = taken_head slot (coordinate slot q) q b.0 refl in
    i.1
    ∙ ap₂ (λ (u v : List ℤ). u ++ v) (only_head slot (coordinate slot p) (coordinate slot q) i.0 j.0 here)
    (apart slots (left_over slot p) (left_over slot q) a.1 b.1 there)
    ∙ sym j.1

-- the element after a front, and one within a longer front
after_front : (u p : List ℤ) (k : ℤ) → slice_get ((u ++ k ∷ []) ++ p) (length u) ≡ Some k
after_front u p k = rw append_assoc (slice_get-append_right u (k ∷ p) 0 (length u) (omega arith))

in_front : (u v p q : List ℤ) (k m : ℤ) → length u < length v → (u ++ k ∷ []) ++ p ≡ (v ++ m ∷ []) ++ q → slice_get v (length u) ≡ Some k
in_front u v p q k m below e =
    sym (slice_get-append_left v (m ∷ q) (length u) below)
    ∙ ap (λ (xs : List ℤ). slice_get xs (length u)) (sym (append_assoc v (m ∷ []) q) ∙ sym e)
    ∙ after_front u p k

-- where both go along, the places agree at a number between two at which they agree
both_along : (s t : Strided) (u v p q : List ℤ) (l h z : ℤ) (a : NamesNumber (Along s) l) (b : NamesNumber (Along t) l) (c : NamesNumber (Along s) h) (d : NamesNumber (Along t) h) (i : NamesNumber (Along s) z) (j : NamesNumber (Along t) z) → l ≤ℤ z → z ≤ℤ h → (u ++ pos a.0 ∷ []) ++ p ≡ (v ++ pos b.0 ∷ []) ++ q → (u ++ pos c.0 ∷ []) ++ p ≡ (v ++ pos d.0 ∷ []) ++ q → (u ++ pos i.0 ∷ []) ++ p ≡ (v ++ pos j.0 ∷ []) ++ q
both_along s t u v p q l h z a b c d i j low high el eh =
    ⊎_elim
    (λ same.
    let at_low : (u ≡ v) × (pos a.0 ∷ p ≡ pos b.0 ∷ q) =
    same_fronts u v (pos a.0 ∷ p) (pos b.0 ∷ q) same (sym (append_assoc u (pos a.0 ∷ []) p) ∙ el ∙ append_assoc v (pos b.0 ∷ []) q) in
    let at_high : (u ≡ v) × (pos c.0 ∷ p ≡ pos d.0 ∷ q) =
    same_fronts u v (pos c.0 ∷ p) (pos d.0 ∷ q) same (sym (append_assoc u (pos c.0 ∷ []) p) ∙ eh ∙ append_assoc v (pos d.0 ∷ []) q) in
    let low_cons : pos a.0 ∷ p ≡ pos b.0 ∷ q = at_low.1 in
    let high_cons : pos c.0 ∷ p ≡ pos d.0 ∷ q = at_high.1 in
    let a_is : a.0 ≡ b.0 = cc in
    let c_is : c.0 ≡ d.0 = cc in
    let tails : p ≡ q = cc in
    let fronts : u ≡ v = at_low.0 in
    let bl : l ≡ t.first +ℤ t.stride *ℤ pos a.0 = b.2 ∙ ap (λ n. t.first +ℤ t.stride *ℤ pos n) (sym a_is) in
    let dh : h ≡ t.first +ℤ t.stride *ℤ pos c.0 = d.2 ∙ ap (λ n. t.first +ℤ t.stride *ℤ pos n) (sym c_is) in
    let places : i.0 ≡ j.0 =
    places_agree s.first s.stride t.first t.stride l h z a.0 c.0 i.0 j.0 s.moves t.moves a.2 bl c.2 dh i.2 j.2 low high in
    rw (places, tails, fronts) refl)
    (λ apart.
    let ends : l ≡ h =
    ⊎_elim
    (λ below.
    let k : Some (pos a.0) ≡ Some (pos c.0) = sym (in_front u v p q (pos a.0) (pos b.0) below el) ∙ in_front u v p q (pos c.0) (pos d.0) below eh in
    let same : a.0 ≡ c.0 = cc in
    a.2 ∙ ap (λ n. s.first +ℤ s.stride *ℤ pos n) same ∙ sym c.2)
    (λ above.
    let k : Some (pos b.0) ≡ Some (pos d.0) = sym (in_front v u q p (pos b.0) (pos a.0) above (sym el)) ∙ in_front v u q p (pos d.0) (pos c.0) above (sym eh) in
    let same : b.0 ≡ d.0 = cc in
    b.2 ∙ ap (λ n. t.first +ℤ t.stride *ℤ pos n) same ∙ sym d.2)
    apart in
    let is : z ≡ l = omega (arith, ints, ends, low, high) in
    rw (only_head (Along s) z l i a is, only_head (Along t) z l j b is) el)
    (cases_order (length u) (length v))

heads_agree : (r t : Slot) (u v p q : List ℤ) (l h z : ℤ) (a : NamesNumber r l) (b : NamesNumber t l) (c : NamesNumber r h) (d : NamesNumber t h) (i : NamesNumber r z) (j : NamesNumber t z) → l ≤ℤ z → z ≤ℤ h → (u ++ head_of r l a) ++ p ≡ (v ++ head_of t l b) ++ q → (u ++ head_of r h c) ++ p ≡ (v ++ head_of t h d) ++ q → (u ++ head_of r z i) ++ p ≡ (v ++ head_of t z j) ++ q
heads_agree (Fixed x) (Fixed y) u v p q l h z a b c d i j low high el eh = el
heads_agree (Fixed x) (Along t) u v p q l h z a b c d i j low high el eh =
    let is : z ≡ l = sym i ∙ a in
    rw (only_head (Along t) z l j b is) el
heads_agree (Along s) (Fixed y) u v p q l h z a b c d i j low high el eh =
    let is : z ≡ l = sym j ∙ b in
    rw (only_head (Along s) z l i a is) el
heads_agree (Along s) (Along t) u v p q l h z a b c d i j low high el eh = both_along s t u v p q l h z a b c d i j low high el eh

-- the least and the greatest number that two slots both name
pub record AreEnds (r t : Slot) (l h : ℤ) : Type 0 where
  pub least_r : NamesNumber r l
  pub least_t : NamesNumber t l
  pub greatest_r : NamesNumber r h
  pub greatest_t : NamesNumber t h
  pub between : (z : ℤ) → NamesNumber r z → NamesNumber t z → (l ≤ℤ z) × (z ≤ℤ h)

abbrev pub AllEnds : List Slot → List Slot → List ℤ → List ℤ → Type 0
AllEnds [] [] [] [] = Unit {0}
AllEnds (r ∷ rs) (t ∷ ts) (l ∷ ls) (h ∷ hs) = AreEnds r t l h × AllEnds rs ts ls hs
AllEnds _ _ _ _ = ⊥

abbrev pub IsCorner : List ℤ → List ℤ → List ℤ → Type 0
IsCorner [] [] [] = Unit {0}
IsCorner (l ∷ ls) (h ∷ hs) (x ∷ e) = ((x ≡ l) ⊎ (x ≡ h)) × IsCorner ls hs e
IsCorner _ _ _ = ⊥

-- wherever both name the cell, the positions are the same after these fronts
abbrev pub Agree : List ℤ → List ℤ → List Slot → List Slot → List ℤ → Type 0
Agree u v rs ts c = (p q : List ℤ) → IsIn (positions_of rs) p → IsIn (positions_of ts) q → cell_named rs p ≡ c → cell_named ts q ≡ c → u ++ p ≡ v ++ q

-- a corner of the later axes behind one end of the first
agree_behind : (r t : Slot) (rs ts : List Slot) (u v : List ℤ) (l : ℤ) (a : NamesNumber r l) (b : NamesNumber t l) (e : List ℤ) → Agree u v (r ∷ rs) (t ∷ ts) (l ∷ e) → Agree (u ++ head_of r l a) (v ++ head_of t l b) rs ts e
agree_behind r t rs ts u v l a b e g p q hp hq ep eq =
    let x = head_named r l a p in
    let y = head_named t l b q in
    append_assoc u (head_of r l a) p
    ∙ g (head_of r l a ++ p) (head_of t l b ++ q)
    (joined r (positions_of rs) (head_of r l a ++ p) x.0 (rw x.2 hp))
    (joined t (positions_of ts) (head_of t l b ++ q) y.0 (rw y.2 hq))
    (rw (x.1, x.2, ep) refl) (rw (y.1, y.2, eq) refl)
    ∙ sym (append_assoc v (head_of t l b) q)

pub corners_tell : (rs ts : List Slot) (ls hs : List ℤ) (u v : List ℤ) → AllEnds rs ts ls hs → ((e : List ℤ) → IsCorner ls hs e → Agree u v rs ts e) → (c : List ℤ) → Agree u v rs ts c
corners_tell [] [] [] [] u v ends corners c p q hp hq ep eq = corners [] tt p q hp hq refl refl
corners_tell (r ∷ rs) (t ∷ ts) (l ∷ ls) (h ∷ hs) u v ends corners [] p q hp hq ep eq = cc
corners_tell (r ∷ rs) (t ∷ ts) (l ∷ ls) (h ∷ hs) u v ends corners (z ∷ c) p q hp hq ep eq =
    let first : AreEnds r t l h = ends.0 in
    let a : Accepts r p × IsIn (positions_of rs) (left_over r p) = accepted r (positions_of rs) p hp in
    let b : Accepts t q × IsIn (positions_of ts) (left_over t q) = accepted t (positions_of ts) q hq in
    let on_r : coordinate r p ≡ z = cc in
    let on_t : coordinate t q ≡ z = cc in
    let later_r : cell_named rs (left_over r p) ≡ c = cc in
    let later_t : cell_named ts (left_over t q) ≡ c = cc in
    let i = taken_head r z p a.0 on_r in
    let j = taken_head t z q b.0 on_t in
    let low : (u ++ head_of r l first.least_r) ++ left_over r p ≡ (v ++ head_of t l first.least_t) ++ left_over t q =
    corners_tell rs ts ls hs (u ++ head_of r l first.least_r) (v ++ head_of t l first.least_t) ends.1
    (λ e k. agree_behind r t rs ts u v l first.least_r first.least_t e (corners (l ∷ e) (inl refl, k)))
    c (left_over r p) (left_over t q) a.1 b.1 later_r later_t in
    let high : (u ++ head_of r h first.greatest_r) ++ left_over r p ≡ (v ++ head_of t h first.greatest_t) ++ left_over t q =
    corners_tell rs ts ls hs (u ++ head_of r h first.greatest_r) (v ++ head_of t h first.greatest_t) ends.1
    (λ e k. agree_behind r t rs ts u v h first.greatest_r first.greatest_t e (corners (h ∷ e) (inr refl, k)))
    c (left_over r p) (left_over t q) a.1 b.1 later_r later_t in
    let between : (l ≤ℤ z) × (z ≤ℤ h) = first.between z i.0 j.0 in
    ap (λ (xs : List ℤ). u ++ xs) i.1
    ∙ sym (append_assoc u (head_of r z i.0) (left_over r p))
    ∙ heads_agree r t u v (left_over r p) (left_over t q) l h z first.least_r first.least_t first.greatest_r first.greatest_t i.0 j.0 between.0 between.1 low high
    ∙ append_assoc v (head_of t z j.0) (left_over t q)
    ∙ sym (ap (λ (xs : List ℤ). v ++ xs) j.1)
corners_tell [] [] [] (h ∷ hs) u v ends corners c p q hp hq ep eq = absurd ends
corners_tell [] [] (l ∷ ls) hs u v ends corners c p q hp hq ep eq = absurd ends
corners_tell [] (t ∷ ts) ls hs u v ends corners c p q hp hq ep eq = absurd ends
corners_tell (r ∷ rs) [] ls hs u v ends corners c p q hp hq ep eq = absurd ends
corners_tell (r ∷ rs) (t ∷ ts) [] hs u v ends corners c p q hp hq ep eq = absurd ends
corners_tell (r ∷ rs) (t ∷ ts) (l ∷ ls) [] u v ends corners c p q hp hq ep eq = absurd ends
