-- New arrays: every number is 0, and what the arrays before them have stays.
use Rattle.std.proofs.Common.{refl, sym, ap, ◌∙◌, ⊎_elim, subst, arith, length-append, append-nil}
use Rattle.std.proofs.lemmas.Bool.{cases_lt}
use Rattle.std.proofs.lemmas.Int.{ints}
use Rattle.std.proofs.lemmas.List.{length-map, length-replicate, map-append, get_or-replicate, get_or_past, get_or_append_left, get_or-map, take-append-le}
use Rattle.std.proofs.lemmas.List.Elements.{All-append, All-head, All-tail}
use Rattle.std.proofs.lemmas.Grind.{flat_map-append}
use Rattle.std.specs.Prelude.{◌≡◌, ℕ, zero, suc, ◌<◌, ℤ, pos, Option, Some, None, List, [], ◌∷◌, ◌++◌, length, map, replicate, slice_get, slice_index_or, take, All}
use Rattle.pooma_domain.specs.Cells.{Interval, cells_of, IsIn}
use Rattle.pooma_field.specs.declared.faces.Ends.{Ends}
use Rattle.pooma_field.specs.Numbered.{Numbered, place_in, number_at, IsFull}
use Rattle.pooma_field.specs.Shapes.{Shaped, own_area}
use Rattle.pooma_field.specs.Worlds.{opening_world, zeros, array_of}
use Rattle.pooma_layout.specs.Axes.{CutAxis, IsCutAxis}
use Rattle.pooma_layout.specs.Patches.{allocated_boxes, owner_of, physical_of, total_of}
use Rattle.pooma_store.specs.Gathered.{HasLaws}
use Rattle.pooma_store.specs.Numbering.{layout_at, object_count, object_of, object_at, AreObjects, zeros_over, new_patches, new_objects}
use Rattle.pooma_store.specs.Standing.{HasTotal, owner_object, HasNumber, OwnerHas, StandsFor, shape_at, IsGuarded}
use Rattle.pooma_store.specs.Stored.{AreArrays}
use Rattle.pooma_store.proofs.OwnerNumbers.{some_from, object_area, owner_has_cell}

-- new patches have the boxes that the layout allocates
pub boxes_stay : (boxes : List (List Interval)) → map (λ (object : Numbered). object.area) (map zeros_over boxes) ≡ boxes
boxes_stay [] = refl
boxes_stay (box ∷ boxes) = ap (λ (rest : List (List Interval)). box ∷ rest) (boxes_stay boxes)

pub full_zeros : (boxes : List (List Interval)) → All IsFull (map zeros_over boxes)
full_zeros [] = λ k d below. absurd (omega (arith, below))
full_zeros (box ∷ boxes) = All-append IsFull (zeros_over box ∷ []) (map zeros_over boxes) one (full_zeros boxes)
  where
    one : All IsFull (zeros_over box ∷ [])
    one zero d below = length-replicate (length (cells_of box)) (pos 0)
    one (suc k) d below = absurd (omega (arith, below))

pub new_are_objects : (layouts : List (List CutAxis)) → AreObjects layouts (new_objects layouts)
new_are_objects [] = record { areas = refl; full = λ k d below. absurd (omega (arith, below)) }
new_are_objects (layout ∷ layouts) = record {
  areas = map-append (λ (object : Numbered). object.area) (new_patches layout) (new_objects layouts)
      ∙ ap (λ (front : List (List Interval)). front ++ map (λ (object : Numbered). object.area) (new_objects layouts)) (boxes_stay (allocated_boxes layout))
      ∙ ap (λ (rest : List (List Interval)). allocated_boxes layout ++ rest) (new_are_objects layouts).areas;
  full = All-append IsFull (new_patches layout) (new_objects layouts) (full_zeros (allocated_boxes layout)) (new_are_objects layouts).full;
}

-- all numbers are 0
abbrev pub AreZeros : List Numbered → Type 0
AreZeros objects = All (λ object. (c : List ℤ) → number_at object c ≡ pos 0) objects

none_but_zeros : (n k : ℕ) → slice_index_or (replicate n (pos 0)) k (pos 0) ≡ pos 0
none_but_zeros n k =
    ⊎_elim (λ below. get_or-replicate n k (pos 0) (pos 0) below)
    (λ above. get_or_past (replicate n (pos 0)) k (pos 0) (omega (arith, length-replicate n (pos 0), above)))
    (cases_lt k n)

pub zeros_of_boxes : (boxes : List (List Interval)) → AreZeros (map zeros_over boxes)
zeros_of_boxes [] = λ k d below. absurd (omega (arith, below))
zeros_of_boxes (box ∷ boxes) = All-append (λ object. (c : List ℤ) → number_at object c ≡ pos 0) (zeros_over box ∷ []) (map zeros_over boxes) one (zeros_of_boxes boxes)
  where
    one : AreZeros (zeros_over box ∷ [])
    one zero d below = λ c. none_but_zeros (length (cells_of box)) (place_in box c)
    one (suc k) d below = absurd (omega (arith, below))

new_zeros : (layouts : List (List CutAxis)) → AreZeros (new_objects layouts)
new_zeros [] = λ k d below. absurd (omega (arith, below))
new_zeros (layout ∷ layouts) =
    All-append (λ object. (c : List ℤ) → number_at object c ≡ pos 0) (new_patches layout) (new_objects layouts) (zeros_of_boxes (allocated_boxes layout)) (new_zeros layouts)

-- a number that a new object has is 0
zero_of_new : (layouts : List (List CutAxis)) (k : ℕ) (c : List ℤ) (n : ℤ) → HasNumber (new_objects layouts) k c n → n ≡ pos 0
zero_of_new layouts k c n has = sym has.number ∙ new_zeros layouts k (record { area = []; numbers = [] }) has.known c

pub new_number : HasLaws → (layouts : List (List CutAxis)) (array : ℕ) (c : List ℤ) → All IsCutAxis (layout_at layouts array) → HasTotal layouts array c → OwnerHas layouts (new_objects layouts) array c (pos 0)
new_number laws layouts array c cut total =
    let has : OwnerHas layouts (new_objects layouts) array c (number_at (object_at (new_objects layouts) (owner_object layouts array c)) c) =
    owner_has_cell laws layouts (new_objects layouts) array c (new_are_objects layouts) cut total in
    subst (OwnerHas layouts (new_objects layouts) array c) (zero_of_new layouts (owner_object layouts array c) c _ has.number) has

-- a physical cell is a total one
physical_is_total : (layout : List CutAxis) (c : List ℤ) → All IsCutAxis layout → IsIn (physical_of layout) c → IsIn (total_of layout) c
physical_is_total [] c cut inside = inside
physical_is_total (axis ∷ axes) [] cut inside = absurd inside
physical_is_total (axis ∷ axes) (x ∷ xs) cut inside =
    let here : IsCutAxis axis = All-head IsCutAxis axis axes cut in (
      omega (arith, ints, inside.0, here.external_depth.low),
      omega (arith, ints, inside.1, here.external_depth.low),
      physical_is_total axes xs (All-tail IsCutAxis axis axes cut) inside.2,
    )

own_is_total : (shape : Shaped) (faces : Option (List Ends)) (layout : List CutAxis) (c : List ℤ) → shape.faces ≡ faces → All IsCutAxis layout → shape.physical ≡ physical_of layout → shape.total ≡ total_of layout → IsIn (own_area shape) c → IsIn (total_of layout) c
own_is_total shape None layout c is cut physical total inside =
    subst (λ (box : List Interval). IsIn box c) total (rw is at inside)
own_is_total shape (Some faces) layout c is cut physical total inside =
    physical_is_total layout c cut (subst (λ (box : List Interval). IsIn box c) physical (rw is at inside))

-- new arrays stand for the opening world
pub opening_stands : HasLaws → (shapes : List Shaped) (layouts : List (List CutAxis)) (scalars : ℕ) → AreArrays shapes layouts → StandsFor layouts (new_objects layouts) (opening_world shapes scalars)
opening_stands laws shapes layouts scalars arrays array c has =
    let known : array < length shapes = omega (arith, has.0, length-map shapes zeros) in
    let there : array < length layouts = omega (arith, known, arrays.both) in
    let content : array_of (opening_world shapes scalars) array ≡ zeros (shape_at shapes array) =
    get_or-map zeros shapes array (record { physical = []; total = []; faces = None }) (record { area = []; numbers = [] }) known in
    let inside : IsIn (own_area (shape_at shapes array)) c = subst (λ (a : Numbered). IsIn a.area c) content has.1 in
    let cut : All IsCutAxis (layout_at layouts array) = (arrays.cut array there).axes in
    let total : IsIn (total_of (layout_at layouts array)) c =
    own_is_total (shape_at shapes array) (shape_at shapes array).faces (layout_at layouts array) c refl cut (arrays.fitting array there).physical (arrays.fitting array there).total inside in
    subst (OwnerHas layouts (new_objects layouts) array c) (sym (laws.opening shapes scalars array c))
    (new_number laws layouts array c cut (record { known = there; inside = total }))

-- new arrays are guarded
pub new_guarded : (layouts : List (List CutAxis)) (array : ℕ) → IsGuarded layouts (new_objects layouts) array
new_guarded layouts array p c n allocates has =
    let box : (b : List Interval) × (slice_get (allocated_boxes (layout_at layouts array)) p ≡ Some b) × IsIn b c =
    some_from (λ b. IsIn b c) (slice_get (allocated_boxes (layout_at layouts array)) p) allocates in
    let there : (object_of layouts array p < length (new_objects layouts)) × ((object_at (new_objects layouts) (object_of layouts array p)).area ≡ box.0) =
    object_area layouts (new_objects layouts) array p box.0 (new_are_objects layouts) has.cell.known box.1 in
    record {
      known = there.0;
      inside = subst (λ (b : List Interval). IsIn b c) (sym there.1) box.2;
      number = new_zeros layouts (object_of layouts array p) (record { area = []; numbers = [] }) there.0 c
          ∙ sym (zero_of_new layouts (owner_object layouts array c) c n has.number);
    }

-- one array more
pub new_more : (layouts : List (List CutAxis)) (layout : List CutAxis) → new_objects (layouts ++ layout ∷ []) ≡ new_objects layouts ++ new_patches layout
new_more layouts layout =
    flat_map-append new_patches layouts (layout ∷ []) ∙ ap (λ (rest : List Numbered). new_objects layouts ++ rest) (append-nil (new_patches layout))

pub number_stays : (layouts : List (List CutAxis)) (objects : List Numbered) (layout : List CutAxis) (more : List Numbered) (array : ℕ) (c : List ℤ) (n : ℤ) → OwnerHas layouts objects array c n → OwnerHas (layouts ++ layout ∷ []) (objects ++ more) array c n
number_stays layouts objects layout more array c n has =
    let same : layout_at (layouts ++ layout ∷ []) array ≡ layout_at layouts array =
    get_or_append_left layouts (layout ∷ []) [] array has.cell.known in
    let front : take array (layouts ++ layout ∷ []) ≡ take array layouts =
    take-append-le array layouts (layout ∷ []) (omega (arith, has.cell.known)) in
    let object : owner_object (layouts ++ layout ∷ []) array c ≡ owner_object layouts array c =
    omega (arith, ap object_count front, ap (λ (l : List CutAxis). owner_of l c) same) in
    let content : object_at (objects ++ more) (owner_object layouts array c) ≡ object_at objects (owner_object layouts array c) =
    get_or_append_left objects more (record { area = []; numbers = [] }) (owner_object layouts array c) has.number.known in
    record {
      cell = record {
        known = omega (arith, has.cell.known, length-append layouts (layout ∷ []));
        inside = subst (λ (l : List CutAxis). IsIn (total_of l) c) (sym same) has.cell.inside;
      };
      number = subst (λ (k : ℕ). HasNumber (objects ++ more) k c n) (sym object)
          (record {
            known = omega (arith, has.number.known, length-append objects more);
            inside = subst (λ (a : Numbered). IsIn a.area c) (sym content) has.number.inside;
            number = ap (λ (a : Numbered). number_at a c) content ∙ has.number.number;
          });
    }
