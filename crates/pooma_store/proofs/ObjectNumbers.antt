-- The numbers of objects: by arrays, and in each by patch.
use Rattle.std.proofs.Common.{refl, sym, ap, ◌∙◌, ⊎_elim, arith, length-append, get_or}
use Rattle.std.proofs.lemmas.Bool.{cases_lt}
use Rattle.std.proofs.lemmas.List.{length-map, take-take}
use Rattle.std.proofs.lemmas.List.Concat.{get_or-flat_map}
use Rattle.std.proofs.lemmas.List.Sums.{sum_by-cons, sum_by_more, sum_by_more_le, sum_by-take-le}
use Rattle.std.proofs.lemmas.Option.{slice_get-get_or, slice_get_within, get_or_from_slice_get}
use Rattle.std.specs.Prelude.{◌≡◌, ℕ, zero, suc, ◌+◌, ◌-◌, ◌<◌, ◌≤◌, Some, List, [], ◌∷◌, length, slice_get, take}
use Rattle.pooma_domain.specs.Cells.{Interval}
use Rattle.pooma_layout.specs.Axes.{CutAxis}
use Rattle.pooma_layout.specs.Patches.{owned_boxes, allocated_of, allocated_boxes}
use Rattle.pooma_store.specs.Numbering.{layout_at, patch_count, object_count, object_of, areas_of}

pub length-allocated : (layout : List CutAxis) → length (allocated_boxes layout) ≡ patch_count layout
length-allocated layout = length-map (owned_boxes layout) (allocated_of layout)

-- there are as many boxes as objects
pub length-areas : (layouts : List (List CutAxis)) → length (areas_of layouts) ≡ object_count layouts
length-areas [] = refl
length-areas (layout ∷ layouts) =
    omega (arith, length-append (allocated_boxes layout) (areas_of layouts), length-allocated layout, length-areas layouts, sum_by-cons patch_count layout layouts)

-- an array's objects are among all objects
pub object_there : (layouts : List (List CutAxis)) (array p : ℕ) → array < length layouts → p < patch_count (layout_at layouts array) → object_of layouts array p < object_count layouts
object_there layouts array p known below = omega (arith, below, sum_by_more_le patch_count layouts array [] known)

-- the arrays up to this one have as many objects as those before it, and its patches
pub count_more : (layouts : List (List CutAxis)) (array : ℕ) → array < length layouts → object_count (take (array + 1) layouts) ≡ object_count (take array layouts) + patch_count (layout_at layouts array)
count_more layouts array known = sum_by_more patch_count layouts array [] known

-- the objects of an array stand before those of a later one
object_before : (layouts : List (List CutAxis)) (array other p q : ℕ) → array < length layouts → array < other → p < patch_count (layout_at layouts array) → object_of layouts array p < object_of layouts other q
object_before layouts array other p q known before below =
    let front : take (array + 1) (take other layouts) ≡ take (array + 1) layouts = take-take (array + 1) other layouts (omega (arith, before)) in
    let most : object_count (take (array + 1) (take other layouts)) ≤ object_count (take other layouts) = sum_by-take-le patch_count (take other layouts) (array + 1) in
    omega (arith, below, count_more layouts array known, ap object_count front, most)

-- an object is that of one patch of one array
pub objects_apart : (layouts : List (List CutAxis)) (array other p q : ℕ) → array < length layouts → other < length layouts → p < patch_count (layout_at layouts array) → q < patch_count (layout_at layouts other) → object_of layouts array p ≡ object_of layouts other q → (array ≡ other) × (p ≡ q)
objects_apart layouts array other p q known_a known_o below_p below_q same =
    ⊎_elim
    (λ before. absurd (let less : object_of layouts array p < object_of layouts other q = object_before layouts array other p q known_a before below_p in omega (arith, less, same)))
    (λ not_before. ⊎_elim
    (λ after. absurd (let less : object_of layouts other q < object_of layouts array p = object_before layouts other array q p known_o after below_q in omega (arith, less, same)))
    (λ not_after. let arrays : array ≡ other = omega (arith, not_before, not_after) in
    (arrays, omega (arith, same, ap (λ (a : ℕ). object_count (take a layouts)) arrays)))
    (cases_lt other array))
    (cases_lt array other)

pub object_found : (layouts : List (List CutAxis)) (k : ℕ) → k < object_count layouts → (array : ℕ) × (p : ℕ) × (array < length layouts) × (p < patch_count (layout_at layouts array)) × (k ≡ object_of layouts array p)
object_found [] k h = absurd (omega (arith, h))
object_found (layout ∷ layouts) k h =
    ⊎_elim
    (λ here. (zero, k, omega arith, here, omega arith))
    (λ past.
    let rest : k - patch_count layout < object_count layouts = omega (arith, past, h, sum_by-cons patch_count layout layouts) in
    let found : (array : ℕ) × (p : ℕ) × (array < length layouts) × (p < patch_count (layout_at layouts array)) × (k - patch_count layout ≡ object_of layouts array p) = object_found layouts (k - patch_count layout) rest in
    (suc found.0, found.1, omega (arith, found.2), found.3, omega (arith, past, found.4, sum_by-cons patch_count layout (take found.0 layouts))))
    (cases_lt k (patch_count layout))

-- where the boxes of an array's patches stand among those of all objects
pub area_at : (layouts : List (List CutAxis)) (array p : ℕ) (box : List Interval) → array < length layouts → slice_get (allocated_boxes (layout_at layouts array)) p ≡ Some box → slice_get (areas_of layouts) (object_of layouts array p) ≡ Some box
area_at layouts array p box known at =
    let below : p < length (allocated_boxes (layout_at layouts array)) = slice_get_within (allocated_boxes (layout_at layouts array)) p box at in
    let before : length (areas_of (take array layouts)) ≡ object_count (take array layouts) = length-areas (take array layouts) in
    let within : object_of layouts array p < length (areas_of layouts) =
    omega (arith, length-areas layouts, object_there layouts array p known (omega (arith, below, length-allocated (layout_at layouts array)))) in
    let stands : get_or (areas_of layouts) (object_of layouts array p) box ≡ box =
    ap (λ (n : ℕ). get_or (areas_of layouts) (n + p) box) (sym before)
    ∙ get_or-flat_map allocated_boxes layouts array p [] box known below
    ∙ get_or_from_slice_get (allocated_boxes (layout_at layouts array)) p box box at in
    slice_get-get_or (areas_of layouts) (object_of layouts array p) box within ∙ ap Some stands
