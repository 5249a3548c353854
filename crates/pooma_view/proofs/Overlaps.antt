-- The corners of what two views of three slots share.
use Rattle.std.proofs.Common.{refl, sym, ap, ◌∙◌, subst, inl, inr, arith, lit≤, to_z, of_z, w32, FitsSigned}
use Rattle.std.proofs.lemmas.Int.{to_z-of_z}
use Rattle.std.proofs.lemmas.Bool.{false≢true}
use Rattle.std.specs.Prelude.{◌≡◌, ◌↔◌, ◌⊎◌, ℕ, zero, suc, ◌≤◌, ℤ, List, [], ◌∷◌, length, take, Bool, true, false, not, IsTrue}
use Rattle.pooma_domain.specs.Cells.{IsIn}
use Rattle.pooma_domain.specs.Padding.{length-padded}
use Rattle.pooma_view.specs.Common.{NamesNumber}
use Rattle.pooma_view.specs.Overlap.{NameApart, IsOverlap, AgreesAt, IsEnd}
use Rattle.pooma_view.specs.Slots.{positions_of, coordinate, left_over, cell_named, Accepts}
use Rattle.pooma_view.specs.Views.{Viewed, IsPaddedView}
use Rattle.pooma_view.specs.declared.slots.Slot.{Slot}
use Rattle.pooma_view.proofs.SlotLists.{cell-three, TakesApart, taken_apart}
use Rattle.pooma_view.proofs.Corners.{AreEnds, AllEnds, IsCorner, Agree, taken_head, corners_tell}

-- as many axes as slots
pub dims_are : (d : ℕ) (x y z : Slot) (slots : List Slot) → IsPaddedView d x y z → take d (x ∷ y ∷ z ∷ []) ≡ slots → d ≡ length slots
dims_are d x y z slots v e = sym (length-padded d x y z v.few) ∙ ap length e

-- what a slot names is named by it
names_of : (slot : Slot) (p : List ℤ) → Accepts slot p → NamesNumber slot (coordinate slot p)
names_of slot p a = (taken_head slot (coordinate slot p) p a refl).0

-- the three slots of both views name these numbers
pub record SharesThree (x y z x' y' z' : Slot) : Type 0 where
  pub x_at : ℤ
  pub y_at : ℤ
  pub z_at : ℤ
  pub by_x : NamesNumber x x_at
  pub by_y : NamesNumber y y_at
  pub by_z : NamesNumber z z_at
  pub by_x' : NamesNumber x' x_at
  pub by_y' : NamesNumber y' y_at
  pub by_z' : NamesNumber z' z_at

-- three coordinates are the same where the fronts and what stands for the missing ones are
same_three : (d : ℕ) (a b e a' b' e' : ℤ) → 1 ≤ d → d ≤ 3 → (d ≤ 1 → b ≡ b') → (d ≤ 2 → e ≡ e') → take d (a ∷ b ∷ e ∷ []) ≡ take d (a' ∷ b' ∷ e' ∷ []) → (a ≡ a') × (b ≡ b') × (e ≡ e')
same_three zero a b e a' b' e' some few nb ne h = absurd (omega arith)
same_three (suc zero) a b e a' b' e' some few nb ne h = (cc, nb (lit≤ tt), ne (lit≤ tt))
same_three (suc (suc zero)) a b e a' b' e' some few nb ne h = (cc, cc, ne (lit≤ tt))
same_three (suc (suc (suc zero))) a b e a' b' e' some few nb ne h = (cc, cc, cc)
same_three (suc (suc (suc (suc d)))) a b e a' b' e' some few nb ne h = absurd (omega arith)

shares_three : (d : ℕ) (x y z x' y' z' : Slot) (rs ts : List Slot) (p q : List ℤ) → IsPaddedView d x y z → IsPaddedView d x' y' z' → take d (x ∷ y ∷ z ∷ []) ≡ rs → take d (x' ∷ y' ∷ z' ∷ []) ≡ ts → IsIn (positions_of rs) p → IsIn (positions_of ts) q → cell_named rs p ≡ cell_named ts q → SharesThree x y z x' y' z'
shares_three d x y z x' y' z' rs ts p q v v' er et hp hq same =
    let a : TakesApart x y z p = taken_apart d x y z rs p v er hp in
    let b : TakesApart x' y' z' q = taken_apart d x' y' z' ts q v' et hq in
    let cells : take d (coordinate x p ∷ coordinate y (left_over x p) ∷ coordinate z (left_over y (left_over x p)) ∷ []) ≡ take d (coordinate x' q ∷ coordinate y' (left_over x' q) ∷ coordinate z' (left_over y' (left_over x' q)) ∷ []) =
    sym (cell-three d x y z p v) ∙ ap (λ (s : List Slot). cell_named s p) er ∙ same ∙ sym (ap (λ (s : List Slot). cell_named s q) et) ∙ cell-three d x' y' z' q v' in
    let all : (coordinate x p ≡ coordinate x' q) × (coordinate y (left_over x p) ≡ coordinate y' (left_over x' q)) × (coordinate z (left_over y (left_over x p)) ≡ coordinate z' (left_over y' (left_over x' q))) =
    same_three d (coordinate x p) (coordinate y (left_over x p)) (coordinate z (left_over y (left_over x p))) (coordinate x' q) (coordinate y' (left_over x' q)) (coordinate z' (left_over y' (left_over x' q))) v.some v.few
    (λ h. ap (λ (s : Slot). coordinate s (left_over x p)) (v.no_y h) ∙ sym (ap (λ (s : Slot). coordinate s (left_over x' q)) (v'.no_y h)))
    (λ h. ap (λ (s : Slot). coordinate s (left_over y (left_over x p))) (v.no_z h) ∙ sym (ap (λ (s : Slot). coordinate s (left_over y' (left_over x' q))) (v'.no_z h)))
    cells in
    record {
      x_at = coordinate x p;
      y_at = coordinate y (left_over x p);
      z_at = coordinate z (left_over y (left_over x p));
      by_x = names_of x p a.by_x;
      by_y = names_of y (left_over x p) a.by_y;
      by_z = names_of z (left_over y (left_over x p)) a.by_z;
      by_x' = subst (NamesNumber x') (sym all.0) (names_of x' q b.by_x);
      by_y' = subst (NamesNumber y') (sym all.1) (names_of y' (left_over x' q) b.by_y);
      by_z' = subst (NamesNumber z') (sym all.2) (names_of z' (left_over y' (left_over x' q)) b.by_z);
    }

-- the same for two views of one number of axes, of which one overlaps the other
pub shared : (a b d d' : ℕ) (x y z x' y' z' : Slot) (v w : Viewed) → d ≡ d' → IsPaddedView d x y z → IsPaddedView d' x' y' z' → record { array = a; slots = take d (x ∷ y ∷ z ∷ []) } ≡ v → record { array = b; slots = take d' (x' ∷ y' ∷ z' ∷ []) } ≡ w → IsOverlap v w → SharesThree x y z x' y' z'
shared a b d d' x y z x' y' z' v w dims h k ev ew o =
    shares_three d x y z x' y' z' v.slots w.slots o.1.0 o.1.1 h (subst (λ (n : ℕ). IsPaddedView n x' y' z') (sym dims) k) (ap (λ (u : Viewed). u.slots) ev)
    (ap (λ (n : ℕ). take n (x' ∷ y' ∷ z' ∷ [])) dims ∙ ap (λ (u : Viewed). u.slots) ew) o.1.2 o.1.3 o.1.5

all_ends : (d : ℕ) (x y z x' y' z' : Slot) (a b e f g h : ℤ) → d ≤ 3 → AreEnds x x' a f → AreEnds y y' b g → AreEnds z z' e h → AllEnds (take d (x ∷ y ∷ z ∷ [])) (take d (x' ∷ y' ∷ z' ∷ [])) (take d (a ∷ b ∷ e ∷ [])) (take d (f ∷ g ∷ h ∷ []))
all_ends zero x y z x' y' z' a b e f g h few ex ey ez = tt
all_ends (suc zero) x y z x' y' z' a b e f g h few ex ey ez = (ex, tt)
all_ends (suc (suc zero)) x y z x' y' z' a b e f g h few ex ey ez = (ex, (ey, tt))
all_ends (suc (suc (suc zero))) x y z x' y' z' a b e f g h few ex ey ez = (ex, (ey, (ez, tt)))
all_ends (suc (suc (suc (suc d)))) x y z x' y' z' a b e f g h few ex ey ez = absurd (omega arith)

-- a corner is a front of three ends
corner_three : (d : ℕ) (a b e f g h : ℤ) (c : List ℤ) → d ≤ 3 → IsCorner (take d (a ∷ b ∷ e ∷ [])) (take d (f ∷ g ∷ h ∷ [])) c → (i : ℤ) × (j : ℤ) × (k : ℤ) × IsEnd a f i × IsEnd b g j × IsEnd e h k × (c ≡ take d (i ∷ j ∷ k ∷ []))
corner_three zero a b e f g h [] few t = (a, b, e, inl refl, inl refl, inl refl, refl)
corner_three zero a b e f g h (x ∷ c) few t = absurd t
corner_three (suc zero) a b e f g h [] few t = absurd t
corner_three (suc zero) a b e f g h (x ∷ []) few t = (x, b, e, t.0, inl refl, inl refl, refl)
corner_three (suc zero) a b e f g h (x ∷ y ∷ c) few t = absurd t.1
corner_three (suc (suc zero)) a b e f g h [] few t = absurd t
corner_three (suc (suc zero)) a b e f g h (x ∷ []) few t = absurd t.1
corner_three (suc (suc zero)) a b e f g h (x ∷ y ∷ []) few t = (x, y, e, t.0, t.1.0, inl refl, refl)
corner_three (suc (suc zero)) a b e f g h (x ∷ y ∷ z ∷ c) few t = absurd t.1.1
corner_three (suc (suc (suc zero))) a b e f g h [] few t = absurd t
corner_three (suc (suc (suc zero))) a b e f g h (x ∷ []) few t = absurd t.1
corner_three (suc (suc (suc zero))) a b e f g h (x ∷ y ∷ []) few t = absurd t.1.1
corner_three (suc (suc (suc zero))) a b e f g h (x ∷ y ∷ z ∷ []) few t = (x, y, z, t.0, t.1.0, t.1.1.0, refl)
corner_three (suc (suc (suc zero))) a b e f g h (x ∷ y ∷ z ∷ w ∷ c) few t = absurd t.1.1.1
corner_three (suc (suc (suc (suc d)))) a b e f g h c few t = absurd (omega arith)

-- views that agree at all corners name no cell apart
corners_agree : (d : ℕ) (x y z x' y' z' : Slot) (rs ts : List Slot) (a b e f g h : ℤ) → d ≤ 3 → take d (x ∷ y ∷ z ∷ []) ≡ rs → take d (x' ∷ y' ∷ z' ∷ []) ≡ ts → AreEnds x x' a f → AreEnds y y' b g → AreEnds z z' e h → ((i j k : ℤ) → IsEnd a f i → IsEnd b g j → IsEnd e h k → AgreesAt rs ts (take d (i ∷ j ∷ k ∷ []))) → NameApart rs ts → ⊥
corners_agree d x y z x' y' z' rs ts a b e f g h few er et ex ey ez all apart =
    let Ends : List Slot → List Slot → Type 0 = λ s t. AllEnds s t (take d (a ∷ b ∷ e ∷ [])) (take d (f ∷ g ∷ h ∷ [])) in
    let ends : Ends (take d (x ∷ y ∷ z ∷ [])) (take d (x' ∷ y' ∷ z' ∷ [])) = all_ends d x y z x' y' z' a b e f g h few ex ey ez in
    let ends' : AllEnds rs ts (take d (a ∷ b ∷ e ∷ [])) (take d (f ∷ g ∷ h ∷ [])) =
    subst (λ (s : List Slot). Ends s ts) er (subst (λ (t : List Slot). Ends (take d (x ∷ y ∷ z ∷ [])) t) et ends) in
    apart.4
    (corners_tell rs ts (take d (a ∷ b ∷ e ∷ [])) (take d (f ∷ g ∷ h ∷ [])) [] [] ends'
    (λ c t.
    let corner = corner_three d a b e f g h c few t in
    subst (λ (w : List ℤ). Agree [] [] rs ts w) (sym corner.6) (all corner.0 corner.1 corner.2 corner.3 corner.4 corner.5))
    (cell_named ts apart.1) apart.0 apart.1 apart.2 apart.3 apart.5 refl)

-- the same for two views of one number of axes
pub no_overlap : (m n d d' : ℕ) (x y z x' y' z' : Slot) (v w : Viewed) (a b e f g h : ℤ) → d ≡ d' → IsPaddedView d x y z → record { array = m; slots = take d (x ∷ y ∷ z ∷ []) } ≡ v → record { array = n; slots = take d' (x' ∷ y' ∷ z' ∷ []) } ≡ w → AreEnds x x' a f → AreEnds y y' b g → AreEnds z z' e h → ((i j k : ℤ) → IsEnd a f i → IsEnd b g j → IsEnd e h k → AgreesAt v.slots w.slots (take (length v.slots) (i ∷ j ∷ k ∷ []))) → IsOverlap v w → ⊥
no_overlap m n d d' x y z x' y' z' v w a b e f g h dims padded ev ew ex ey ez all o =
    let is : take d (x ∷ y ∷ z ∷ []) ≡ v.slots = ap (λ (u : Viewed). u.slots) ev in
    corners_agree d x y z x' y' z' v.slots w.slots a b e f g h padded.few is (ap (λ (n : ℕ). take n (x' ∷ y' ∷ z' ∷ [])) dims ∙ ap (λ (u : Viewed). u.slots) ew) ex ey ez
    (λ i j k ei ej ek. subst (λ (n : ℕ). AgreesAt v.slots w.slots (take n (i ∷ j ∷ k ∷ []))) (sym (dims_are d x y z v.slots padded is)) (all i j k ei ej ek))
    o.1

-- a number that is one of two
pub at_either : (low high : ℤ) (P : ℤ → Type 0) → P low → P high → (x : ℤ) → IsEnd low high x → P x
at_either low high P l h x (inl e) = subst P (sym e) l
at_either low high P l h x (inr e) = subst P (sym e) h

-- a test that fails shows the other fact
pub by_test : {A B : Type 0} (r : Bool) → (IsTrue r ↔ A) → ((A → ⊥) → B) → IsTrue r ⊎ B
by_test true f g = inl refl
by_test false f g = inr (g (λ a. false≢true (f.1 a)))

-- three coordinates of a cell, as the code passes them on
pub passed_on : (d : ℕ) (x y z : Slot) (slots : List Slot) (cell : List ℤ) (a b e : ℤ) → FitsSigned w32 a → FitsSigned w32 b → FitsSigned w32 e → IsPaddedView d x y z → take d (x ∷ y ∷ z ∷ []) ≡ slots → cell ≡ take d (to_z w32 (of_z w32 a) ∷ to_z w32 (of_z w32 b) ∷ to_z w32 (of_z w32 e) ∷ []) → cell ≡ take (length slots) (a ∷ b ∷ e ∷ [])
passed_on d x y z slots cell a b e fa fb fe v is made =
    made ∙ rw (to_z-of_z w32 a fa, to_z-of_z w32 b fb, to_z-of_z w32 e fe, dims_are d x y z slots v is) refl

pub not_true : (r : Bool) → (IsTrue r → ⊥) → IsTrue (not r)
not_true true f = absurd (f refl)
not_true false f = refl

pub not_both : (r : Bool) → IsTrue r → IsTrue (not r) → ⊥
not_both true t n = false≢true n
not_both false t n = false≢true t

-- where the test fails, the other fact holds
pub apart_of : {A : Type 0} (r : Bool) → IsTrue r ⊎ A → IsTrue (not r) → A
apart_of r (inl t) n = absurd (not_both r t n)
apart_of r (inr a) n = a
