-- The source of a cell of a slab: where it lies.
use Rattle.std.proofs.Common.{refl, sym, ap, ◌∙◌, subst, ⊎_elim, arith}
use Rattle.std.specs.Prelude.{◌≡◌, ◌↔◌, ◌≢◌, ℕ, zero, suc, ◌<◌, ◌≤◌, ℤ, pos, Bool, true, false, Option, Some, None, IsSome, option_map, List, [], ◌∷◌, ◌++◌, length, slice_get, slice_set, take, drop}
use Rattle.std.proofs.lemmas.Bool.{false≢true}
use Rattle.pooma_domain.specs.Cells.{Interval, IsIn}
use Rattle.pooma_field.specs.declared.faces.Ends.{Ends}
use Rattle.pooma_field.specs.declared.updaters.Updater.{Updater}
use Rattle.pooma_field.specs.declared.updaters.Updater.TheVariants.{Constant, Periodic, Reflect, Antireflect, Extrapolate}
use Rattle.pooma_field.specs.Faces.{facing}
use Rattle.pooma_field.specs.Updaters.{IsConstant}
use Rattle.pooma_field.specs.Shapes.{Shaped, IsShape, IsInSlabs, slab_axes, inside_from}
use Rattle.pooma_field.specs.Sources.{source_number, source_cell, source_of, IsNear}
use Rattle.pooma_field.proofs.AlongAxes.{IsOn, source_on}
use Rattle.pooma_field.proofs.SlabCells.{AreAround, later_around, first_around, beyond_near, physical_is_total, dims_of_cell, slab_is_total}

-- the parts of a source: an axis, the updaters of its faces, the coordinate there, and the number of the source
pub record HasParts (axes : List Interval) (faces : List Ends) (n : ℕ) (c : List ℤ) (axis : Interval) (ends : Ends) (x : ℤ) : Type 0 where
  pub axis_there : slice_get axes n ≡ Some axis
  pub ends_there : slice_get faces n ≡ Some ends
  pub coordinate : slice_get c n ≡ Some x

mapped_twice : {A B C : Type 0} (f : A → B) (g : B → C) (o : Option A) → option_map g (option_map f o) ≡ option_map (λ x. g (f x)) o
mapped_twice f g None = refl
mapped_twice f g (Some x) = refl

-- the source is the cell with the number from which the updater takes the value
pub source_cell_is : (axes : List Interval) (faces : List Ends) (n : ℕ) (c : List ℤ) (axis : Interval) (ends : Ends) (x : ℤ) → HasParts axes faces n c axis ends x → source_cell axes faces n c ≡ option_map (λ y. slice_set c n y) (source_number (facing ends axis x) axis x)
source_cell_is [] faces n c axis ends x parts = let h = parts.axis_there in cc
source_cell_is (p ∷ axes) [] n c axis ends x parts = let h = parts.ends_there in cc
source_cell_is (p ∷ axes) (q ∷ faces) n [] axis ends x parts = let h = parts.coordinate in cc
source_cell_is (p ∷ axes) (q ∷ faces) zero (z ∷ zs) axis ends x parts =
    let same_axis : p ≡ axis = let h = parts.axis_there in cc in
    let same_ends : q ≡ ends = let h = parts.ends_there in cc in
    let same_x : z ≡ x = let h = parts.coordinate in cc in
    rw (same_axis, same_ends, same_x) refl
source_cell_is (p ∷ axes) (q ∷ faces) (suc n) (z ∷ zs) axis ends x parts =
    ap (option_map (λ ys. z ∷ ys))
    (source_cell_is axes faces n zs axis ends x (record { axis_there = parts.axis_there; ends_there = parts.ends_there; coordinate = parts.coordinate }))
    ∙ mapped_twice (λ y. slice_set zs n y) (λ ys. z ∷ ys) (source_number (facing ends axis x) axis x)

-- inside on the slab's axis and on the greater ones, in the total domain on the lower ones
pub source_inside : (high : Bool) (n : ℕ) (axes total : List Interval) (c : List ℤ) (axis : Interval) (y : ℤ) → slice_get axes n ≡ Some axis → IsOn axis y → AreAround axes total → IsIn (slab_axes high n axes total) c → IsIn (take n total ++ drop n axes) (slice_set c n y)
source_inside high n [] total c axis y at on around h = cc
source_inside high n (p ∷ axes) [] c axis y at on around h = absurd (omega (arith, around.same))
source_inside high zero (p ∷ axes) (t ∷ total) [] axis y at on around h = absurd h
source_inside high (suc n) (p ∷ axes) (t ∷ total) [] axis y at on around h = absurd h
source_inside high zero (p ∷ axes) (t ∷ total) (x ∷ xs) axis y at on around h =
    let same_axis : axis ≡ p = cc in
    let on_p : IsOn p y = subst (λ (a : Interval). IsOn a y) same_axis on in
    (on_p.low, on_p.high, h.2)
source_inside high (suc n) (p ∷ axes) (t ∷ total) (x ∷ xs) axis y at on around h =
    (h.0, h.1, source_inside high n axes total xs axis y at on (later_around p t axes total around) h.2)

pub inside_is_total : (n : ℕ) (axes total : List Interval) (c : List ℤ) → AreAround axes total → IsIn (take n total ++ drop n axes) c → IsIn total c
inside_is_total zero axes total c around h = physical_is_total axes total c around h
inside_is_total (suc n) [] [] c around h = h
inside_is_total (suc n) [] (t ∷ total) c around h = absurd (omega (arith, around.same))
inside_is_total (suc n) (p ∷ axes) [] c around h = absurd (omega (arith, around.same))
inside_is_total (suc n) (p ∷ axes) (t ∷ total) [] around h = absurd h
inside_is_total (suc n) (p ∷ axes) (t ∷ total) (x ∷ xs) around h =
    (h.0, h.1, inside_is_total n axes total xs (later_around p t axes total around) h.2)

-- a number beside the axis at the slab's place
pub slab_near : (high : Bool) (n : ℕ) (axes total : List Interval) (c : List ℤ) (axis : Interval) (x : ℤ) → slice_get axes n ≡ Some axis → slice_get c n ≡ Some x → AreAround axes total → IsIn (slab_axes high n axes total) c → IsNear axis x
slab_near high n [] total c axis x at at_x around h = cc
slab_near high n (p ∷ axes) [] c axis x at at_x around h = absurd (omega (arith, around.same))
slab_near high n (p ∷ axes) (t ∷ total) [] axis x at at_x around h = cc
slab_near high zero (p ∷ axes) (t ∷ total) (z ∷ zs) axis x at at_x around h =
    let same_axis : p ≡ axis = cc in
    let same_x : z ≡ x = cc in
    rw (← same_axis, ← same_x) (beyond_near high p t z (first_around p t axes total around) h.0 h.1)
slab_near high (suc n) (p ∷ axes) (t ∷ total) (z ∷ zs) axis x at at_x around h =
    slab_near high n axes total zs axis x at at_x (later_around p t axes total around) h.2

-- a cell of at most three coordinates, set in a row of three
pub set_in_three : (c : List ℤ) (n : ℕ) (y : ℤ) → length c ≤ 3 → n < length c → take (length c) (slice_set (take 3 (c ++ pos 0 ∷ pos 0 ∷ pos 0 ∷ [])) n y) ≡ slice_set c n y
set_in_three [] n y few there = absurd (omega (arith, there))
set_in_three (a ∷ []) zero y few there = refl
set_in_three (a ∷ []) (suc n) y few there = absurd (omega (arith, there))
set_in_three (a ∷ b ∷ []) zero y few there = refl
set_in_three (a ∷ b ∷ []) (suc zero) y few there = refl
set_in_three (a ∷ b ∷ []) (suc (suc n)) y few there = absurd (omega (arith, there))
set_in_three (a ∷ b ∷ c ∷ []) zero y few there = refl
set_in_three (a ∷ b ∷ c ∷ []) (suc zero) y few there = refl
set_in_three (a ∷ b ∷ c ∷ []) (suc (suc zero)) y few there = refl
set_in_three (a ∷ b ∷ c ∷ []) (suc (suc (suc n))) y few there = absurd (omega (arith, there))
set_in_three (a ∷ b ∷ c ∷ d ∷ ds) n y few there = absurd (omega (arith, few))

pub elsewhere : (c : List ℤ) (n m : ℕ) (y : ℤ) → m ≢ n → slice_get (slice_set c n y) m ≡ slice_get c m
elsewhere [] n m y other = refl
elsewhere (x ∷ xs) zero zero y other = absurd (other refl)
elsewhere (x ∷ xs) zero (suc m) y other = refl
elsewhere (x ∷ xs) (suc n) zero y other = refl
elsewhere (x ∷ xs) (suc n) (suc m) y other = elsewhere xs n m y (λ same. other (ap suc same))

-- ---- the same of a shape

pub around_of : (shape : Shaped) → IsShape shape → AreAround shape.physical shape.total
around_of shape valid = record { same = valid.same_dims; each = valid.around }

pub goes_by_near : (shape : Shaped) (n : ℕ) (c : List ℤ) (axis : Interval) (x : ℤ) → IsShape shape → IsInSlabs shape n c → slice_get shape.physical n ≡ Some axis → slice_get c n ≡ Some x → IsNear axis x
goes_by_near shape n c axis x valid by at at_x =
    ⊎_elim (slab_near false n shape.physical shape.total c axis x at at_x (around_of shape valid))
    (slab_near true n shape.physical shape.total c axis x at at_x (around_of shape valid))
    by.1

pub goes_by_total : (shape : Shaped) (n : ℕ) (c : List ℤ) → IsShape shape → IsInSlabs shape n c → IsIn shape.total c
goes_by_total shape n c valid by =
    ⊎_elim (slab_is_total false n shape.physical shape.total c (around_of shape valid))
    (slab_is_total true n shape.physical shape.total c (around_of shape valid))
    by.1

pub goes_by_dims : (shape : Shaped) (n : ℕ) (c : List ℤ) → IsShape shape → IsInSlabs shape n c → n < length c
goes_by_dims shape n c valid by =
    let same : length c ≡ length shape.total = dims_of_cell shape.total c (goes_by_total shape n c valid by) in
    omega (arith, same, valid.same_dims, by.0)

-- what is known of a cell of a field's slabs, and of the number from which its value is taken
pub record HasSource (shape : Shaped) (n : ℕ) (c : List ℤ) (y : ℤ) : Type 0 where
  pub cell : source_of shape n c ≡ Some (slice_set c n y)
  pub inside : IsIn (inside_from n shape) (slice_set c n y)
  pub total : IsIn shape.total (slice_set c n y)

pub source_facts : (shape : Shaped) (n : ℕ) (c : List ℤ) (faces : List Ends) (axis : Interval) (ends : Ends) (x y : ℤ) → IsShape shape → IsInSlabs shape n c → shape.faces ≡ Some faces → HasParts shape.physical faces n c axis ends x → source_number (facing ends axis x) axis x ≡ Some y → HasSource shape n c y
source_facts shape n c faces axis ends x y valid by is parts number =
    let on : IsOn axis y = source_on (facing ends axis x) axis x y (goes_by_near shape n c axis x valid by parts.axis_there parts.coordinate) number in
    let inside : IsIn (inside_from n shape) (slice_set c n y) =
    ⊎_elim (source_inside false n shape.physical shape.total c axis y parts.axis_there on (around_of shape valid))
    (source_inside true n shape.physical shape.total c axis y parts.axis_there on (around_of shape valid))
    by.1 in
    record {
      cell = rw is (source_cell_is shape.physical faces n c axis ends x parts ∙ ap (option_map (λ v. slice_set c n v)) number);
      inside = inside;
      total = inside_is_total n shape.physical shape.total (slice_set c n y) (around_of shape valid) inside;
    }

some_before : {A B : Type 0} (f : A → B) (o : Option A) → IsSome (option_map f o) → IsSome o
some_before f None h = h
some_before f (Some x) h = refl

some_after : {A B : Type 0} (f : A → B) (o : Option A) → IsSome o → IsSome (option_map f o)
some_after f None h = h
some_after f (Some x) h = refl

pub updater_has_source : (shape : Shaped) (n : ℕ) (c : List ℤ) (faces : List Ends) (axis : Interval) (ends : Ends) (x : ℤ) → shape.faces ≡ Some faces → HasParts shape.physical faces n c axis ends x → IsSome (source_of shape n c) → IsSome (source_number (facing ends axis x) axis x)
updater_has_source shape n c faces axis ends x is parts some =
    let here : IsSome (source_cell shape.physical faces n c) = rw is at some in
    some_before (λ y. slice_set c n y) (source_number (facing ends axis x) axis x)
    (subst (λ (o : Option (List ℤ)). IsSome o) (source_cell_is shape.physical faces n c axis ends x parts) here)

-- all updaters but constants take their value from a number of the axis
number_unless_constant : (u : Updater) (axis : Interval) (x : ℤ) → IsSome (source_number u axis x) ↔ (IsConstant u → ⊥)
number_unless_constant (Constant k) axis x = (λ h. absurd (false≢true h), λ h. absurd (h tt))
number_unless_constant Periodic axis x = (λ h bad. bad, λ h. refl)
number_unless_constant Reflect axis x = (λ h bad. bad, λ h. refl)
number_unless_constant Antireflect axis x = (λ h bad. bad, λ h. refl)
number_unless_constant Extrapolate axis x = (λ h bad. bad, λ h. refl)

pub source_unless_constant : (shape : Shaped) (n : ℕ) (c : List ℤ) (faces : List Ends) (axis : Interval) (ends : Ends) (x : ℤ) → shape.faces ≡ Some faces → HasParts shape.physical faces n c axis ends x → IsSome (source_of shape n c) ↔ (IsConstant (facing ends axis x) → ⊥)
source_unless_constant shape n c faces axis ends x is parts =
    let cell : source_of shape n c ≡ option_map (λ y. slice_set c n y) (source_number (facing ends axis x) axis x) =
    rw is (source_cell_is shape.physical faces n c axis ends x parts) in (
      λ some. (number_unless_constant (facing ends axis x) axis x).0 (some_before (λ y. slice_set c n y) (source_number (facing ends axis x) axis x) (subst (λ (o : Option (List ℤ)). IsSome o) cell some)),
      λ moving. subst (λ (o : Option (List ℤ)). IsSome o) (sym cell) (some_after (λ y. slice_set c n y) (source_number (facing ends axis x) axis x) ((number_unless_constant (facing ends axis x) axis x).1 moving)),
    )

-- the cell that is made of a row of three coordinates
pub front_is : (c row r : List ℤ) (dims n : ℕ) (y : ℤ) → row ≡ take 3 (c ++ pos 0 ∷ pos 0 ∷ pos 0 ∷ []) → dims ≡ length c → dims ≤ 3 → n < length c → r ≡ take dims (slice_set row n y) → r ≡ slice_set c n y
front_is c row r dims n y is_row is_dims few there is =
    is ∙ ap (λ (k : ℕ). take k (slice_set row n y)) is_dims ∙ ap (λ (ns : List ℤ). take (length c) (slice_set ns n y)) is_row
    ∙ set_in_three c n y (omega (arith, few, is_dims)) there
