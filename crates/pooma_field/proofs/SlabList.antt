-- The list of a field's slabs: what stands in it, and in which order.
use Rattle.std.proofs.Common.{refl, sym, ap, ◌∙◌, subst, arith, cond}
use Rattle.std.proofs.lemmas.List.Elements.{All-nil, All-cons}
use Rattle.std.proofs.lemmas.List.Kept.{AllPairs-cons, AllPairs-filter}
use Rattle.std.proofs.lemmas.Option.{slice_get-get_or, slice_get_within, get_or_from_slice_get}
use Rattle.std.specs.Option.{option_map_or}
use Rattle.std.specs.Prelude.{◌≡◌, ℕ, zero, suc, ◌+◌, ◌≤◌, Bool, true, false, Option, Some, None, List, [], ◌∷◌, filter, slice_get, All, AllPairs, Contains, if◌then◌else◌}
use Rattle.pooma_field.specs.declared.faces.Ends.{Ends}
use Rattle.pooma_field.specs.declared.shapes.Slab.{Slab}
use Rattle.pooma_field.specs.Shapes.{Shaped, slab_of}
use Rattle.pooma_field.specs.Slabs.{is_deep, slab_at, slabs_beside, slabs_of}

-- ---- what a filter keeps

pub kept_by : {X : Type 0} (p : X → Bool) (xs : List X) (k : ℕ) (x : X) → slice_get (filter p xs) k ≡ Some x → (j : ℕ) × (slice_get xs j ≡ Some x) × (p x ≡ true)
kept_by p [] k x at = cc
kept_by p (y ∷ ys) k x at = by_test p y ys x (p y) refl k at (λ j. kept_by p ys j x)
  where
    by_test : {X : Type 0} (p : X → Bool) (y : X) (ys : List X) (x : X) (b : Bool) → p y ≡ b → (k : ℕ) → slice_get (cond b (y ∷ filter p ys) (filter p ys)) k ≡ Some x → ((k : ℕ) → slice_get (filter p ys) k ≡ Some x → (j : ℕ) × (slice_get ys j ≡ Some x) × (p x ≡ true)) → (j : ℕ) × (slice_get (y ∷ ys) j ≡ Some x) × (p x ≡ true)
    by_test {X} p y ys x true e zero at later =
        let same : y ≡ x = cc in
        (zero, ap Some same, subst (λ (z : X). p z ≡ true) same e)
    by_test p y ys x true e (suc k) at later = let found = later k at in (suc found.0, found.1, found.2)
    by_test p y ys x false e k at later = let found = later k at in (suc found.0, found.1, found.2)

pub keeps_by : {X : Type 0} (p : X → Bool) (xs : List X) (j : ℕ) (x : X) → slice_get xs j ≡ Some x → p x ≡ true → (k : ℕ) × (slice_get (filter p xs) k ≡ Some x)
keeps_by p [] j x at passes = cc
keeps_by {X} p (y ∷ ys) zero x at passes =
    let same : y ≡ x = cc in
    let here : p y ≡ true = subst (λ (z : X). p z ≡ true) (sym same) passes in
    (zero, rw here (ap Some same))
keeps_by p (y ∷ ys) (suc j) x at passes = by_test p y ys x (p y) refl (keeps_by p ys j x at passes)
  where
    by_test : {X : Type 0} (p : X → Bool) (y : X) (ys : List X) (x : X) (b : Bool) → p y ≡ b → (k : ℕ) × (slice_get (filter p ys) k ≡ Some x) → (k : ℕ) × (slice_get (cond b (y ∷ filter p ys) (filter p ys)) k ≡ Some x)
    by_test p y ys x true e later = (suc later.0, later.1)
    by_test p y ys x false e later = later

-- ---- the slab of a face

-- the slab is that of a face of these axes, the first of which has this number
pub record IsBeside (shape : Shaped) (n : ℕ) (faces : List Ends) (slab : Slab) : Type 0 where
  pub place : ℕ
  pub ends : Ends
  pub axis : slab.axis ≡ n + place
  pub face : slice_get faces place ≡ Some ends
  pub target : slab.target ≡ slab_of slab.high slab.axis shape
  pub updater : slab.updater ≡ (if slab.high then ends.high else ends.low)

pub beside_at : (shape : Shaped) (n : ℕ) (faces : List Ends) (j : ℕ) (slab : Slab) → slice_get (slabs_beside shape n faces) j ≡ Some slab → IsBeside shape n faces slab
beside_at shape n [] j slab at = cc
beside_at shape n (ends ∷ faces) zero slab at =
    let same : slab_at shape n false ends.low ≡ slab = cc in
    subst (IsBeside shape n (ends ∷ faces)) same
    (record { place = 0; ends = ends; axis = omega arith; face = refl; target = refl; updater = refl })
beside_at shape n (ends ∷ faces) (suc zero) slab at =
    let same : slab_at shape n true ends.high ≡ slab = cc in
    subst (IsBeside shape n (ends ∷ faces)) same
    (record { place = 0; ends = ends; axis = omega arith; face = refl; target = refl; updater = refl })
beside_at shape n (ends ∷ faces) (suc (suc j)) slab at =
    let later : IsBeside shape (suc n) faces slab = beside_at shape (suc n) faces j slab at in
    record {
      place = suc later.place;
      ends = later.ends;
      axis = omega (arith, later.axis);
      face = later.face;
      target = later.target;
      updater = later.updater;
    }

pub at_beside : (high : Bool) (shape : Shaped) (n m place : ℕ) (faces : List Ends) (ends : Ends) → m ≡ n + place → slice_get faces place ≡ Some ends → (j : ℕ) × (slice_get (slabs_beside shape n faces) j ≡ Some (slab_at shape m high (if high then ends.high else ends.low)))
at_beside high shape n m place [] ends is at = cc
at_beside false shape n m zero (e ∷ faces) ends is at =
    let same : e ≡ ends = cc in
    let here : m ≡ n = omega (arith, is) in
    (0, rw (same, here) refl)
at_beside true shape n m zero (e ∷ faces) ends is at =
    let same : e ≡ ends = cc in
    let here : m ≡ n = omega (arith, is) in
    (1, rw (same, here) refl)
at_beside high shape n m (suc place) (e ∷ faces) ends is at =
    let later = at_beside high shape (suc n) m place faces ends (omega (arith, is)) at in
    (suc (suc later.0), later.1)

-- ---- the slabs of a field

-- the slab is one of the field's
pub record IsSlabOf (shape : Shaped) (slab : Slab) : Type 0 where
  pub faces : List Ends
  pub faces_are : shape.faces ≡ Some faces
  pub beside : IsBeside shape 0 faces slab
  pub deep : is_deep slab ≡ true

pub at_place : {X : Type 0} (xs : List X) (x : X) → Contains xs x → (k : ℕ) × (slice_get xs k ≡ Some x)
at_place xs x there = (there.0, slice_get-get_or xs there.0 x there.1 ∙ ap Some there.2)

pub contained : {X : Type 0} (xs : List X) (k : ℕ) (x : X) → slice_get xs k ≡ Some x → Contains xs x
contained xs k x at = (k, slice_get_within xs k x at, get_or_from_slice_get xs k x x at)

pub slab_in : (shape : Shaped) (k : ℕ) (slab : Slab) → slice_get (slabs_of shape) k ≡ Some slab → IsSlabOf shape slab
slab_in shape k slab at = by shape.faces refl at
  where
    by : (o : Option (List Ends)) → shape.faces ≡ o → slice_get (filter is_deep (option_map_or (slabs_beside shape 0) o [])) k ≡ Some slab → IsSlabOf shape slab
    by None is here = cc
    by (Some faces) is here =
        let kept = kept_by is_deep (slabs_beside shape 0 faces) k slab here in
        record {
          faces = faces;
          faces_are = is;
          beside = beside_at shape 0 faces kept.0 slab kept.1;
          deep = kept.2;
        }

pub one_of : (shape : Shaped) (slab : Slab) → Contains (slabs_of shape) slab → IsSlabOf shape slab
one_of shape slab there = let at = at_place (slabs_of shape) slab there in slab_in shape at.0 slab at.1

with_faces : (shape : Shaped) (o : Option (List Ends)) (faces : List Ends) (k : ℕ) (slab : Slab) → o ≡ Some faces → slice_get (filter is_deep (slabs_beside shape 0 faces)) k ≡ Some slab → slice_get (filter is_deep (option_map_or (slabs_beside shape 0) o [])) k ≡ Some slab
with_faces shape o faces k slab is at = rw is at

pub slab_there : (high : Bool) (shape : Shaped) (n : ℕ) (faces : List Ends) (ends : Ends) → shape.faces ≡ Some faces → slice_get faces n ≡ Some ends → is_deep (slab_at shape n high (if high then ends.high else ends.low)) ≡ true → Contains (slabs_of shape) (slab_at shape n high (if high then ends.high else ends.low))
slab_there high shape n faces ends is at deep =
    let slab = slab_at shape n high (if high then ends.high else ends.low) in
    let beside = at_beside high shape 0 n n faces ends (omega arith) at in
    let kept = keeps_by is_deep (slabs_beside shape 0 faces) beside.0 slab beside.1 deep in
    contained (slabs_of shape) kept.0 slab (with_faces shape shape.faces faces kept.0 slab is kept.1)

-- ---- their order

from_axis : (shape : Shaped) (n m : ℕ) (faces : List Ends) → m ≤ n → All (λ (slab : Slab). m ≤ slab.axis) (slabs_beside shape n faces)
from_axis shape n m [] least = All-nil (λ (slab : Slab). m ≤ slab.axis)
from_axis shape n m (ends ∷ faces) least =
    All-cons (λ (slab : Slab). m ≤ slab.axis) (slab_at shape n false ends.low) (slab_at shape n true ends.high ∷ slabs_beside shape (suc n) faces) least
    (All-cons (λ (slab : Slab). m ≤ slab.axis) (slab_at shape n true ends.high) (slabs_beside shape (suc n) faces) least (from_axis shape (suc n) m faces (omega (arith, least))))

abbrev IsNotAfter : Slab → Slab → Type 0
IsNotAfter one later = one.axis ≤ later.axis

beside_in_order : (shape : Shaped) (n : ℕ) (faces : List Ends) → AllPairs IsNotAfter (slabs_beside shape n faces)
beside_in_order shape n [] = λ i j d before there. absurd (omega (arith, there))
beside_in_order shape n (ends ∷ faces) =
    let low = slab_at shape n false ends.low in
    let high = slab_at shape n true ends.high in
    let later = slabs_beside shape (suc n) faces in
    let of_later : All (λ (slab : Slab). n ≤ slab.axis) later = from_axis shape (suc n) n faces (omega arith) in
    AllPairs-cons IsNotAfter low (high ∷ later) (All-cons (IsNotAfter low) high later (omega arith) of_later)
    (AllPairs-cons IsNotAfter high later of_later (beside_in_order shape (suc n) faces))

pub slabs_ascend : (shape : Shaped) → AllPairs (λ (one : Slab) (later : Slab). one.axis ≤ later.axis) (slabs_of shape)
slabs_ascend shape = by shape.faces
  where
    by : (o : Option (List Ends)) → AllPairs IsNotAfter (filter is_deep (option_map_or (slabs_beside shape 0) o []))
    by None = λ i j d before there. absurd (omega (arith, there))
    by (Some faces) = AllPairs-filter IsNotAfter is_deep (slabs_beside shape 0 faces) (beside_in_order shape 0 faces)
