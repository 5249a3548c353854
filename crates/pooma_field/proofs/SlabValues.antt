-- The cells of slabs and their sources, and that setting slabs in their order is looking up.
use Rattle.std.proofs.Common.{refl, sym, ap, ◌∙◌, subst, inl, inr, ⊎_elim, arith}
use Rattle.std.proofs.lemmas.Bool.{cases_lt, false≢true, lt-ltb, le-ltb}
use Rattle.std.proofs.lemmas.Int.{ints}
use Rattle.std.proofs.lemmas.List.Elements.{All-nil, All-cons, All-head, All-tail, All-map, All-weaker}
use Rattle.std.proofs.lemmas.Option.{get_or_from_slice_get, slice_get-get_or, slice_get_within}
use Rattle.std.proofs.lemmas.Simd.{map-map}
use Rattle.std.specs.Prelude.{◌≡◌, ◌⊎◌, ℕ, zero, suc, ◌<◌, ◌≤◌, nat_lt, ℤ, pos, ◌+ℤ◌, ◌-ℤ◌, ◌≤ℤ◌, Bool, true, false, Option, Some, None, IsSome, option_and_then, option_map, List, [], ◌∷◌, ◌++◌, length, map, slice_get, slice_index_or, slice_set, take, drop, All, AllPairs, Contains, if◌then◌else◌}
use Rattle.pooma_domain.specs.Cells.{Interval, axis_length, cells_of, IsIn}
use Rattle.pooma_field.specs.declared.faces.Ends.{Ends}
use Rattle.pooma_field.specs.declared.shapes.Slab.{Slab}
use Rattle.pooma_field.specs.declared.updaters.Updater.{Updater}
use Rattle.pooma_field.specs.declared.updaters.Updater.TheVariants.{Constant, Periodic, Reflect, Antireflect, Extrapolate}
use Rattle.pooma_field.specs.Faces.{facing}
use Rattle.pooma_field.specs.Look.{look}
use Rattle.pooma_field.specs.Numbered.{place_in}
use Rattle.pooma_field.specs.Padding.{no_ends}
use Rattle.pooma_field.specs.Shapes.{Shaped, IsAround, IsInSlabs, IsShape, beyond, inside_from, slab_axes}
use Rattle.pooma_field.specs.Slabs.{axis_at, cell_sources, cell_value, coordinate_at, has_cell, is_deep, made_of, slab_at, slabs_of, sources_along, with_slab, with_slabs}
use Rattle.pooma_field.specs.Sources.{source_cell, source_number, source_of, IsNear}
use Rattle.pooma_field.specs.Updaters.{face, inner, mirrored, updated, wrapped}
use Rattle.pooma_field.proofs.AlongAxes.{IsOn, less, not_less, length_between, length_is, near_some, wrapped_on, mirrored_on, face_on, inner_on}
use Rattle.pooma_field.proofs.CellPlaces.{HasOrder, found_there, stands}
use Rattle.pooma_field.proofs.Lookups.{look_inside, look_outside}
use Rattle.pooma_field.proofs.SlabBoxes.{own_axis}
use Rattle.pooma_field.proofs.SlabCells.{AreAround, GoesBy, later_around, beyond_near, slab_apart, slab_is_total, some_slab, inside_or_not}
use Rattle.pooma_field.proofs.SlabList.{IsSlabOf, contained, one_of, slab_there, slabs_ascend}
use Rattle.pooma_field.proofs.SourceCells.{HasParts, around_of, goes_by_near, goes_by_dims, inside_is_total, source_cell_is, source_inside}

-- ---- one cell of a slab

-- the coordinate on the slab's own axis lies beyond the face
pub own_coordinate : (high : Bool) (n : ℕ) (physical total : List Interval) (c : List ℤ) → n < length physical → length total ≡ length physical → IsIn (slab_axes high n physical total) c → IsOn (beyond high (axis_at physical n) (axis_at total n)) (coordinate_at c n)
own_coordinate high n [] total c there same h = absurd (omega (arith, there))
own_coordinate high n (p ∷ physical) [] c there same h = absurd (omega (arith, same))
own_coordinate high zero (p ∷ physical) (t ∷ total) [] there same h = absurd h
own_coordinate high (suc n) (p ∷ physical) (t ∷ total) [] there same h = absurd h
own_coordinate high zero (p ∷ physical) (t ∷ total) (x ∷ xs) there same h = record { low = h.0; high = h.1 }
own_coordinate high (suc n) (p ∷ physical) (t ∷ total) (x ∷ xs) there same h =
    own_coordinate high n physical total xs (omega (arith, there)) (omega (arith, same)) h.2

-- an axis that has a number has some
pub some_on : (axis : Interval) (x : ℤ) → IsOn axis x → nat_lt 0 (axis_length axis) ≡ true
some_on axis x on =
    let whole : pos (axis_length axis) ≡ (axis.last -ℤ axis.first) +ℤ pos 1 = length_between axis (omega (arith, ints, on.low, on.high)) in
    lt-ltb 0 (axis_length axis) (omega (arith, ints, whole, on.low, on.high))

-- the face beside which the number lies is that on the slab's side
side_of : (high : Bool) (p t : Interval) (ends : Ends) (x : ℤ) → IsAround p t → IsOn (beyond high p t) x → facing ends p x ≡ (if high then ends.high else ends.low)
side_of false p t ends x around on =
    let low : x ≤ℤ (p.first -ℤ pos 1) = on.high in
    rw (less x p.first (omega (arith, ints, low))) refl
side_of true p t ends x around on =
    let some : 0 < axis_length p = near_some p x (beyond_near true p t x around on.low on.high) in
    let whole : pos (axis_length p) ≡ (p.last -ℤ p.first) +ℤ pos 1 = length_is p some in
    let high : (p.last +ℤ pos 1) ≤ℤ x = on.low in
    rw (not_less x p.first (omega (arith, ints, high, whole, some))) refl

-- what is known of a cell of one of a field's slabs
pub record IsCellOf (shape : Shaped) (slab : Slab) (c : List ℤ) : Type 0 where
  pub faces : List Ends
  pub faces_are : shape.faces ≡ Some faces
  pub ends : Ends
  pub there : slab.axis < length shape.physical
  pub axis : slice_get shape.physical slab.axis ≡ Some (axis_at shape.physical slab.axis)
  pub face : slice_get faces slab.axis ≡ Some ends
  pub coordinate : slice_get c slab.axis ≡ Some (coordinate_at c slab.axis)
  pub updater : facing ends (axis_at shape.physical slab.axis) (coordinate_at c slab.axis) ≡ slab.updater
  pub inside : IsIn (slab_axes slab.high slab.axis shape.physical shape.total) c
  pub by : IsInSlabs shape slab.axis c

at_of : (box : List Interval) (n : ℕ) → n < length box → slice_get box n ≡ Some (axis_at box n)
at_of box n there = slice_get-get_or box n _ there

in_slabs : (high : Bool) (shape : Shaped) (n : ℕ) (c : List ℤ) → n < length shape.physical → IsIn (slab_axes high n shape.physical shape.total) c → IsInSlabs shape n c
in_slabs false shape n c there h = (there, inl h)
in_slabs true shape n c there h = (there, inr h)

pub cell_of : (shape : Shaped) (slab : Slab) (c : List ℤ) → IsShape shape → Contains (slabs_of shape) slab → IsIn slab.target c → IsCellOf shape slab c
cell_of shape slab c valid there h =
    let one : IsSlabOf shape slab = one_of shape slab there in
    let ends = one.beside.ends in
    let same : one.beside.place ≡ slab.axis = omega (arith, one.beside.axis) in
    let face : slice_get one.faces slab.axis ≡ Some ends = subst (λ (k : ℕ). slice_get one.faces k ≡ Some ends) same one.beside.face in
    let long : length one.faces ≡ length shape.physical = valid.faced one.faces one.faces_are in
    let within : slab.axis < length one.faces = slice_get_within one.faces slab.axis ends face in
    let axis_there : slab.axis < length shape.physical = omega (arith, long, within) in
    let inside : IsIn (slab_axes slab.high slab.axis shape.physical shape.total) c = subst (λ (box : List Interval). IsIn box c) one.beside.target h in
    let by : IsInSlabs shape slab.axis c = in_slabs slab.high shape slab.axis c axis_there inside in
    let on : IsOn (beyond slab.high (axis_at shape.physical slab.axis) (axis_at shape.total slab.axis)) (coordinate_at c slab.axis) = own_coordinate slab.high slab.axis shape.physical shape.total c axis_there valid.same_dims inside in
    let in_total : slab.axis < length shape.total = omega (arith, axis_there, valid.same_dims) in
    record {
      faces = one.faces;
      faces_are = one.faces_are;
      ends = ends;
      there = axis_there;
      axis = at_of shape.physical slab.axis axis_there;
      face = face;
      coordinate = slice_get-get_or c slab.axis _ (goes_by_dims shape slab.axis c valid by);
      updater = side_of slab.high (axis_at shape.physical slab.axis) (axis_at shape.total slab.axis) ends (coordinate_at c slab.axis)
          (valid.around slab.axis _ _ (at_of shape.physical slab.axis axis_there) (at_of shape.total slab.axis in_total)) on ∙ sym one.beside.updater;
      inside = inside;
      by = by;
    }

-- ---- its sources and its value

updated_is_made : (u : Updater) (axis : Interval) (value : ℤ → ℤ) (x : ℤ) → updated u axis value x ≡ made_of u axis x (map value (sources_along u axis x))
updated_is_made (Constant k) axis value x = refl
updated_is_made Periodic axis value x = refl
updated_is_made Reflect axis value x = refl
updated_is_made Antireflect axis value x = refl
updated_is_made Extrapolate axis value x = refl

pub value_is : (shape : Shaped) (numbers : List ℤ → ℤ) (slab : Slab) (c : List ℤ) → IsShape shape → IsCellOf shape slab c → look shape numbers c ≡ cell_value shape slab c (map (look shape numbers) (cell_sources shape slab c))
value_is shape numbers slab c valid cell =
    let axis = axis_at shape.physical slab.axis in
    let x = coordinate_at c slab.axis in
    look_outside shape.faces cell.faces slab.high slab.axis shape.physical shape.total numbers c axis cell.ends x (around_of shape valid) cell.inside cell.faces_are cell.axis cell.face cell.coordinate
    ∙ ap (λ (u : Updater). updated u axis (λ y. look shape numbers (slice_set c slab.axis y)) x) cell.updater
    ∙ updated_is_made slab.updater axis (λ y. look shape numbers (slice_set c slab.axis y)) x
    ∙ ap (made_of slab.updater axis x) (sym (map-map (look shape numbers) (λ y. slice_set c slab.axis y) (sources_along slab.updater axis x)))

sources_on : (u : Updater) (axis : Interval) (x : ℤ) → IsNear axis x → All (IsOn axis) (sources_along u axis x)
sources_on (Constant k) axis x near = All-nil (IsOn axis)
sources_on Periodic axis x near = All-cons (IsOn axis) (wrapped axis x) [] (wrapped_on axis x (near_some axis x near)) (All-nil (IsOn axis))
sources_on Reflect axis x near = All-cons (IsOn axis) (mirrored axis x) [] (mirrored_on axis x near) (All-nil (IsOn axis))
sources_on Antireflect axis x near = All-cons (IsOn axis) (mirrored axis x) [] (mirrored_on axis x near) (All-nil (IsOn axis))
sources_on Extrapolate axis x near =
    All-cons (IsOn axis) (face axis x) (inner axis x ∷ []) (face_on axis x near)
    (All-cons (IsOn axis) (inner axis x) [] (inner_on axis x near) (All-nil (IsOn axis)))

pub sources_inside : (shape : Shaped) (slab : Slab) (c : List ℤ) → IsShape shape → IsCellOf shape slab c → All (IsIn (inside_from slab.axis shape)) (cell_sources shape slab c)
sources_inside shape slab c valid cell =
    let axis = axis_at shape.physical slab.axis in
    let x = coordinate_at c slab.axis in
    let near : IsNear axis x = goes_by_near shape slab.axis c axis x valid cell.by cell.axis cell.coordinate in
    All-map (IsIn (inside_from slab.axis shape)) (λ y. slice_set c slab.axis y) (sources_along slab.updater axis x)
    (All-weaker (IsOn axis) (λ y. IsIn (inside_from slab.axis shape) (slice_set c slab.axis y))
    (λ y on. source_inside slab.high slab.axis shape.physical shape.total c axis y cell.axis on (around_of shape valid) cell.inside)
    (sources_along slab.updater axis x) (sources_on slab.updater axis x near))

pub sources_total : (shape : Shaped) (slab : Slab) (c : List ℤ) → IsShape shape → IsCellOf shape slab c → All (IsIn shape.total) (cell_sources shape slab c)
sources_total shape slab c valid cell =
    All-weaker (IsIn (inside_from slab.axis shape)) (IsIn shape.total)
    (λ s inside. inside_is_total slab.axis shape.physical shape.total s (around_of shape valid) inside)
    (cell_sources shape slab c) (sources_inside shape slab c valid cell)

source_first : (u : Updater) (axis : Interval) (x : ℤ) (f : ℤ → List ℤ) → option_map f (source_number u axis x) ≡ slice_get (map f (sources_along u axis x)) 0
source_first (Constant k) axis x f = refl
source_first Periodic axis x f = refl
source_first Reflect axis x f = refl
source_first Antireflect axis x f = refl
source_first Extrapolate axis x f = refl

source_by : (o : Option (List Ends)) (faces : List Ends) (physical : List Interval) (n : ℕ) (c : List ℤ) (axis : Interval) (ends : Ends) (x : ℤ) → o ≡ Some faces → HasParts physical faces n c axis ends x → option_and_then (λ faces. source_cell physical faces n c) o ≡ option_map (λ y. slice_set c n y) (source_number (facing ends axis x) axis x)
source_by o faces physical n c axis ends x is parts = rw is (source_cell_is physical faces n c axis ends x parts)

pub source_is_first : (shape : Shaped) (slab : Slab) (c : List ℤ) → IsCellOf shape slab c → source_of shape slab.axis c ≡ slice_get (cell_sources shape slab c) 0
source_is_first shape slab c cell =
    let axis = axis_at shape.physical slab.axis in
    let x = coordinate_at c slab.axis in
    source_by shape.faces cell.faces shape.physical slab.axis c axis cell.ends x cell.faces_are (record { axis_there = cell.axis; ends_there = cell.face; coordinate = cell.coordinate })
    ∙ ap (λ (u : Updater). option_map (λ y. slice_set c slab.axis y) (source_number u axis x)) cell.updater
    ∙ source_first slab.updater axis x (λ y. slice_set c slab.axis y)

-- the other source of `extrapolate`
pub second_source : (u : Updater) (axis : Interval) (x : ℤ) (f : ℤ → List ℤ) (place : ℕ) → 0 < place → place < length (map f (sources_along u axis x)) → slice_get (map f (sources_along u axis x)) place ≡ Some (f (inner axis x))
second_source (Constant k) axis x f place later there = absurd (omega (arith, there))
second_source Periodic axis x f place later there = absurd (omega (arith, later, there))
second_source Reflect axis x f place later there = absurd (omega (arith, later, there))
second_source Antireflect axis x f place later there = absurd (omega (arith, later, there))
second_source Extrapolate axis x f zero later there = absurd (omega (arith, later))
second_source Extrapolate axis x f (suc zero) later there = refl
second_source Extrapolate axis x f (suc (suc place)) later there = absurd (omega (arith, there))

pub coordinate_at_is : (c : List ℤ) (n : ℕ) (x : ℤ) → slice_get c n ≡ Some x → coordinate_at c n ≡ x
coordinate_at_is c n x at = get_or_from_slice_get c n x _ at

pub some_source : (sources : List (List ℤ)) (o : Option (List ℤ)) (place : ℕ) → place ≡ 0 → place < length sources → o ≡ slice_get sources 0 → IsSome o
some_source [] o place first there is = absurd (omega (arith, there))
some_source (s ∷ sources) o place first there is = rw is refl

-- ---- which cells lie in slabs

-- what is inside from an axis on lies in no slab of this axis or of a greater one
inside_apart : (high : Bool) (n m : ℕ) (physical total : List Interval) (c : List ℤ) → n ≤ m → m < length physical → AreAround physical total → IsIn (take n total ++ drop n physical) c → IsIn (slab_axes high m physical total) c → ⊥
inside_apart high zero m physical total c least there around inside h = slab_apart high m physical total c there around.same h inside
inside_apart high (suc n) zero physical total c least there around inside h = omega (arith, least)
inside_apart high (suc n) (suc m) [] total c least there around inside h = omega (arith, there)
inside_apart high (suc n) (suc m) (p ∷ physical) [] c least there around inside h = omega (arith, around.same)
inside_apart high (suc n) (suc m) (p ∷ physical) (t ∷ total) [] least there around inside h = h
inside_apart high (suc n) (suc m) (p ∷ physical) (t ∷ total) (x ∷ xs) least there around inside h =
    inside_apart high n m physical total xs (omega (arith, least)) (omega (arith, there)) (later_around p t physical total around) inside.2 h.2

pub earlier_axis : (shape : Shaped) (n : ℕ) (slab : Slab) (c : List ℤ) → IsShape shape → IsCellOf shape slab c → IsIn (inside_from n shape) c → slab.axis < n
earlier_axis shape n slab c valid cell inside =
    ⊎_elim (λ before. before)
    (λ least. absurd (inside_apart slab.high n slab.axis shape.physical shape.total c least cell.there (around_of shape valid) inside cell.inside))
    (cases_lt slab.axis n)

pub external_cell : (shape : Shaped) (slab : Slab) (c : List ℤ) → IsShape shape → IsCellOf shape slab c → IsIn shape.total c × (IsIn shape.physical c → ⊥)
external_cell shape slab c valid cell = (
  slab_is_total slab.high slab.axis shape.physical shape.total c (around_of shape valid) cell.inside,
  slab_apart slab.high slab.axis shape.physical shape.total c cell.there valid.same_dims cell.inside,
)

-- a slab of the field that has the cell
pub record LiesIn (shape : Shaped) (c : List ℤ) : Type 0 where
  pub slab : Slab
  pub there : Contains (slabs_of shape) slab
  pub inside : IsIn slab.target c

slab_found : (high : Bool) (shape : Shaped) (faces : List Ends) (c : List ℤ) (n : ℕ) → IsShape shape → shape.faces ≡ Some faces → n < length shape.physical → IsIn (slab_axes high n shape.physical shape.total) c → LiesIn shape c
slab_found high shape faces c n valid is there inside =
    let long : length faces ≡ length shape.physical = valid.faced faces is in
    let ends : Ends = slice_index_or faces n no_ends in
    let at : slice_get faces n ≡ Some ends = slice_get-get_or faces n no_ends (omega (arith, long, there)) in
    let slab = slab_at shape n high (if high then ends.high else ends.low) in
    let deep : is_deep slab ≡ true = ap (λ (axis : Interval). nat_lt 0 (axis_length axis)) (own_axis high n shape.physical shape.total there valid.same_dims)
    ∙ some_on (beyond high (axis_at shape.physical n) (axis_at shape.total n)) (coordinate_at c n) (own_coordinate high n shape.physical shape.total c there valid.same_dims inside) in
    record { slab = slab; there = slab_there high shape n faces ends is at deep; inside = inside }

pub some_slab_of : (shape : Shaped) (c : List ℤ) → IsShape shape → IsSome shape.faces → IsIn shape.total c → (IsIn shape.physical c → ⊥) → LiesIn shape c
some_slab_of shape c valid faced inside outside = by shape.faces refl faced
  where
    by : (o : Option (List Ends)) → shape.faces ≡ o → IsSome o → LiesIn shape c
    by None is some = absurd (false≢true some)
    by (Some faces) is some =
        let found : (n : ℕ) × GoesBy shape.physical shape.total c n = some_slab shape.physical shape.total c valid.same_dims inside outside in
        ⊎_elim (slab_found false shape faces c found.0 valid is found.1.there) (slab_found true shape faces c found.0 valid is found.1.there) found.1.by

-- ---- setting the slabs

-- a box has the cell, or it does not
pub has_cell_in : HasOrder → (box : List Interval) (c : List ℤ) → IsIn box c → has_cell box c ≡ true
has_cell_in order box c h =
    lt-ltb (place_in box c) (length (cells_of box)) (slice_get_within (cells_of box) (place_in box c) c (stands order box c h))

pub has_cell_out : HasOrder → (box : List Interval) (c : List ℤ) → (IsIn box c → ⊥) → has_cell box c ≡ false
has_cell_out order box c h =
    ⊎_elim (λ below. absurd (h ((order.members box c).0 (contained (cells_of box) (place_in box c) c (found_there box c below)))))
    (λ past. le-ltb (place_in box c) (length (cells_of box)) past)
    (cases_lt (place_in box c) (length (cells_of box)))

contained_cases : (slab : Slab) (slabs : List Slab) (x : Slab) → Contains (slab ∷ slabs) x → (slab ≡ x) ⊎ Contains slabs x
contained_cases slab slabs x (zero, there, is) = inl is
contained_cases slab slabs x (suc k, there, is) = inr (k, omega (arith, there), is)

later_contained : (slab : Slab) (slabs : List Slab) (x : Slab) → Contains slabs x → Contains (slab ∷ slabs) x
later_contained slab slabs x there = (suc there.0, omega (arith, there.1), there.2)

ap_le : (slab later : Slab) → slab ≡ later → slab.axis ≤ later.axis
ap_le slab later same = let axes : slab.axis ≡ later.axis = ap (λ (s : Slab). s.axis) same in omega (arith, axes)

both_all : {X : Type 0} {P Q R : X → Type 0} (xs : List X) → All P xs → All Q xs → ((x : X) → P x → Q x → R x) → All R xs
both_all xs p q f = λ k d there. f (slice_index_or xs k d) (p k d there) (q k d there)

map_agree : {X Y : Type 0} (f g : X → Y) (xs : List X) → All (λ x. f x ≡ g x) xs → map f xs ≡ map g xs
map_agree f g [] h = refl
map_agree f g (x ∷ xs) h = rw (All-head (λ x. f x ≡ g x) x xs h, map_agree f g xs (All-tail (λ x. f x ≡ g x) x xs h)) refl

-- the slabs that are left are the field's, in the order of their axes, and each cell that lies in none of them has its value
pub record AreLeft (shape : Shaped) (numbers now : List ℤ → ℤ) (slabs : List Slab) : Type 0 where
  pub ordered : AllPairs (λ (one : Slab) (later : Slab). one.axis ≤ later.axis) slabs
  pub of_field : (slab : Slab) → Contains slabs slab → Contains (slabs_of shape) slab
  pub done : (c : List ℤ) → IsIn shape.total c → ((slab : Slab) → Contains slabs slab → IsIn slab.target c → ⊥) → now c ≡ look shape numbers c

one_more : HasOrder → (shape : Shaped) (numbers now : List ℤ → ℤ) (slab : Slab) (slabs : List Slab) → IsShape shape → AreLeft shape numbers now (slab ∷ slabs) → AreLeft shape numbers (with_slab shape now slab) slabs
one_more order shape numbers now slab slabs valid left = record {
  ordered = λ i j d before there. left.ordered (suc i) (suc j) d (omega (arith, before)) (omega (arith, there));
  of_field = λ later there. left.of_field later (later_contained slab slabs later there);
  done = λ c total outside. ⊎_elim (λ inside. set c inside) (λ not_here. kept c total not_here outside) (inside_or_not slab.target c);
}
  where
    here : Contains (slabs_of shape) slab
    here = left.of_field slab (0, omega arith, refl)

    not_before : (later : Slab) → Contains slabs later → slab.axis ≤ later.axis
    not_before later there =
        let at = left.ordered 0 (suc there.0) later (omega arith) (omega (arith, there.1)) in
        subst (λ (s : Slab). slab.axis ≤ s.axis) there.2 at

    source_done : (c s : List ℤ) → IsCellOf shape slab c → IsIn (inside_from slab.axis shape) s → IsIn shape.total s → now s ≡ look shape numbers s
    source_done c s cell inside total =
        left.done s total (λ later there in_later.
        let of_later : IsCellOf shape later s = cell_of shape later s valid (left.of_field later there) in_later in
        let before : later.axis < slab.axis = earlier_axis shape slab.axis later s valid of_later inside in
        let after : slab.axis ≤ later.axis = ⊎_elim
        (λ (same : slab ≡ later). ap_le slab later same) (λ more. not_before later more) (contained_cases slab slabs later there) in
        omega (arith, before, after))

    set : (c : List ℤ) → IsIn slab.target c → with_slab shape now slab c ≡ look shape numbers c
    set c inside =
        let cell : IsCellOf shape slab c = cell_of shape slab c valid here inside in
        let same : map now (cell_sources shape slab c) ≡ map (look shape numbers) (cell_sources shape slab c) =
        map_agree now (look shape numbers) (cell_sources shape slab c)
        (both_all (cell_sources shape slab c) (sources_inside shape slab c valid cell) (sources_total shape slab c valid cell) (λ s in_s total. source_done c s cell in_s total)) in
        rw (has_cell_in order slab.target c inside)
        (ap (cell_value shape slab c) same ∙ sym (value_is shape numbers slab c valid cell))

    kept : (c : List ℤ) → IsIn shape.total c → (IsIn slab.target c → ⊥) → ((later : Slab) → Contains slabs later → IsIn later.target c → ⊥) → with_slab shape now slab c ≡ look shape numbers c
    kept c total not_here outside =
        rw (has_cell_out order slab.target c not_here)
        (left.done c total (λ later there in_later. ⊎_elim (λ (same : slab ≡ later). not_here (subst (λ (s : Slab). IsIn s.target c) (sym same) in_later)) (λ more. outside later more in_later) (contained_cases slab slabs later there)))

all_done : HasOrder → (shape : Shaped) (numbers now : List ℤ → ℤ) (slabs : List Slab) (c : List ℤ) → IsShape shape → AreLeft shape numbers now slabs → IsIn shape.total c → with_slabs shape now slabs c ≡ look shape numbers c
all_done order shape numbers now [] c valid left total = left.done c total (λ slab there in_slab. omega (arith, there.1))
all_done order shape numbers now (slab ∷ slabs) c valid left total =
    all_done order shape numbers (with_slab shape now slab) slabs c valid (one_more order shape numbers now slab slabs valid left) total

pub setting_is_looking_up : HasOrder → (shape : Shaped) (numbers : List ℤ → ℤ) (c : List ℤ) → IsShape shape → IsSome shape.faces → IsIn shape.total c → with_slabs shape numbers (slabs_of shape) c ≡ look shape numbers c
setting_is_looking_up order shape numbers c valid faced total =
    all_done order shape numbers numbers (slabs_of shape) c valid
    (record {
      ordered = slabs_ascend shape;
      of_field = λ slab there. there;
      done = λ d d_total outside. ⊎_elim
          (λ inside. sym (look_inside shape.faces shape.physical numbers d inside))
          (λ external. absurd (let lies : LiesIn shape d = some_slab_of shape d valid faced d_total external in outside lies.slab lies.there lies.inside))
          (inside_or_not shape.physical d);
    })
    total
