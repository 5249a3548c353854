-- What holds of all axes of a layout, from what holds of the first and of the later ones.
use Rattle.std.proofs.Common.{refl, sym, ap, ◌∙◌, subst, arith, get_or, take, drop}
use Rattle.std.proofs.lemmas.Int.{ints}
use Rattle.std.proofs.lemmas.List.{take_all}
use Rattle.std.proofs.lemmas.List.Elements.{All-head, All-tail, All-cons, All-nil}
use Rattle.std.proofs.lemmas.List.Sums.{sum_by-cons, sum_by-append}
use Rattle.std.proofs.lemmas.Nat.{mul-le}
use Rattle.std.proofs.lemmas.Option.{slice_get-map, slice_get_within}
use Rattle.std.proofs.Math.Nat.{mod-add-div}
use Rattle.std.specs.Prelude.{◌≡◌, ℕ, zero, suc, ◌+◌, ◌-◌, ◌*◌, ◌/◌, ◌%◌, ◌<◌, ◌≤◌, ℤ, ◌≤ℤ◌, Option, Some, None, List, [], ◌∷◌, length, map, flat_map, sum_by, slice_get, All, IsSomeAnd}
use Rattle.std.specs.Option.{option_map}
use Rattle.pooma_domain.specs.Cells.{Interval, axis_length, cells_of, IsIn, IsBox}
use Rattle.pooma_layout.specs.Axes.{CutAxis, total_axis, parts, part_of, allocated_part, IsCutAxis}
use Rattle.pooma_layout.specs.Patches.{physical_of, total_of, owned_boxes, allocated_of, allocated_boxes, allocated_count, owner_of}
use Rattle.pooma_layout.proofs.Allocating.{allocated_holds, allocated_within, part_within}
use Rattle.pooma_layout.proofs.Choices.{length-boxes_of, slice_get-boxes_of, box_at_place, rest_and_quotient}
use Rattle.pooma_layout.proofs.Counting.{length_of_interval, length-cells_of, IsShort, short_is_box}
use Rattle.pooma_layout.proofs.Cutting.{cut_is_ordered}
use Rattle.pooma_layout.proofs.Finding.{length-parts}
use Rattle.pooma_layout.proofs.Owning.{total_cut, owner_owns}

-- a list that is not empty is its first element and the rest
pub first_and_later : (axes : List CutAxis) (first : CutAxis) → 1 ≤ length axes → first ≡ get_or axes 0 first → axes ≡ first ∷ take (length axes - 1) (drop 1 axes)
first_and_later [] first some is = absurd (omega arith)
first_and_later (axis ∷ axes) first some is =
    let rest : take (length (axis ∷ axes) - 1) axes ≡ axes = take_all (length (axis ∷ axes) - 1) axes (omega arith) in
    ap (λ x. x ∷ axes) (sym is) ∙ ap (λ xs. first ∷ xs) (sym rest)

pub first_valid : (axes : List CutAxis) (first : CutAxis) (later : List CutAxis) → axes ≡ first ∷ later → All IsCutAxis axes → IsCutAxis first × All IsCutAxis later
first_valid axes first later split valid =
    let all : All IsCutAxis (first ∷ later) = subst (λ (xs : List CutAxis). All IsCutAxis xs) split valid in
    (All-head IsCutAxis first later all, All-tail IsCutAxis first later all)

-- each interval of a box has a number and lies in its axis
abbrev pub Within : List CutAxis → List Interval → Type 0
Within [] [] = Unit {0}
Within [] (i ∷ is) = ⊥
Within (axis ∷ axes) [] = ⊥
Within (axis ∷ axes) (i ∷ is) = ((total_axis axis).first ≤ℤ i.first) × (i.first ≤ℤ i.last) × (i.last ≤ℤ (total_axis axis).last) × Within axes is

length_within : (axes : List CutAxis) (box : List Interval) → Within axes box → length box ≡ length axes
length_within [] [] h = refl
length_within [] (i ∷ is) h = absurd h
length_within (axis ∷ axes) [] h = absurd h
length_within (axis ∷ axes) (i ∷ is) h = ap suc (length_within axes is h.3)

short_within : (axis : CutAxis) (i : Interval) → IsCutAxis axis → (total_axis axis).first ≤ℤ i.first → i.first ≤ℤ i.last → i.last ≤ℤ (total_axis axis).last → IsShort i
short_within axis i valid low some high = record {
  whole = record {
    ordered = some;
    low = omega (arith, ints, valid.near.low, valid.external_depth.high);
    high = omega (arith, ints, valid.near.high, valid.external_depth.high);
  };
  short = omega (arith, ints, length_of_interval i some, valid.near.low, valid.near.high, valid.external_depth.high);
}

shorts_within : (axes : List CutAxis) (box : List Interval) → All IsCutAxis axes → Within axes box → All IsShort box
shorts_within [] [] valid h = All-nil IsShort
shorts_within [] (i ∷ is) valid h = absurd h
shorts_within (axis ∷ axes) [] valid h = absurd h
shorts_within (axis ∷ axes) (i ∷ is) valid h =
    All-cons IsShort i is (short_within axis i (All-head IsCutAxis axis axes valid) h.0 h.1 h.2)
    (shorts_within axes is (All-tail IsCutAxis axis axes valid) h.3)

-- such a box of at most three axes is one that the domain allows
pub within_is_box : (axes : List CutAxis) (box : List Interval) → All IsCutAxis axes → length axes ≤ 3 → Within axes box → IsBox box
within_is_box axes box valid few h =
    short_is_box box (omega (arith, length_within axes box h)) (shorts_within axes box valid h)

physical_lies : (axis : CutAxis) → IsCutAxis axis → ((total_axis axis).first ≤ℤ axis.physical.first) × (axis.physical.first ≤ℤ axis.physical.last) × (axis.physical.last ≤ℤ (total_axis axis).last)
physical_lies axis valid =
    (omega (arith, ints, valid.external_depth.low), valid.near.ordered, omega (arith, ints, valid.external_depth.low))

pub physical_within : (axes : List CutAxis) → All IsCutAxis axes → Within axes (physical_of axes)
physical_within [] valid = tt
physical_within (axis ∷ axes) valid =
    let here : ((total_axis axis).first ≤ℤ axis.physical.first) × (axis.physical.first ≤ℤ axis.physical.last) × (axis.physical.last ≤ℤ (total_axis axis).last) =
    physical_lies axis (All-head IsCutAxis axis axes valid) in
    (here.0, here.1, here.2, physical_within axes (All-tail IsCutAxis axis axes valid))

pub total_within : (axes : List CutAxis) → All IsCutAxis axes → Within axes (total_of axes)
total_within [] valid = tt
total_within (axis ∷ axes) valid =
    (omega (arith, ints), cut_is_ordered (total_axis axis).first axis.borders (total_axis axis).last (total_cut axis (All-head IsCutAxis axis axes valid)), omega (arith, ints), total_within axes (All-tail IsCutAxis axis axes valid))

pub owned_within : (axes : List CutAxis) (p : ℕ) (box : List Interval) → All IsCutAxis axes → slice_get (owned_boxes axes) p ≡ Some box → Within axes box
owned_within [] zero box valid at =
    let same : [] ≡ box = cc in subst (λ (b : List Interval). Within [] b) same tt
owned_within [] (suc p) box valid at = cc
owned_within (axis ∷ axes) p box valid at =
    let split : (part : Interval) × (rest : List Interval) × (slice_get (parts axis) (p % length (parts axis)) ≡ Some part) × (slice_get (owned_boxes axes) (p / length (parts axis)) ≡ Some rest) × (box ≡ part ∷ rest) =
    box_at_place (parts axis) (map parts axes) p box at in
    let here : ((total_axis axis).first ≤ℤ split.0.first) × (split.0.first ≤ℤ split.0.last) × (split.0.last ≤ℤ (total_axis axis).last) =
    part_within axis (p % length (parts axis)) split.0 (All-head IsCutAxis axis axes valid) split.2 in
    subst (λ (b : List Interval). Within (axis ∷ axes) b) (sym split.4)
    (here.0, here.1, here.2, owned_within axes (p / length (parts axis)) split.1 (All-tail IsCutAxis axis axes valid) split.3)

allocated_of_within : (axes : List CutAxis) (box : List Interval) → All IsCutAxis axes → Within axes box → Within axes (allocated_of axes box)
allocated_of_within [] [] valid h = tt
allocated_of_within [] (i ∷ is) valid h = absurd h
allocated_of_within (axis ∷ axes) [] valid h = absurd h
allocated_of_within (axis ∷ axes) (i ∷ is) valid h =
    let holds : ((allocated_part axis i).first ≤ℤ i.first) × (i.last ≤ℤ (allocated_part axis i).last) = allocated_holds axis i (All-head IsCutAxis axis axes valid) h.0 h.2 in
    let within : ((total_axis axis).first ≤ℤ (allocated_part axis i).first) × ((allocated_part axis i).last ≤ℤ (total_axis axis).last) = allocated_within axis i in
    (within.0, ordered (allocated_part axis i) i holds.0 h.1 holds.1, within.1, allocated_of_within axes is (All-tail IsCutAxis axis axes valid) h.3)
  where
    ordered : (all i : Interval) → all.first ≤ℤ i.first → i.first ≤ℤ i.last → i.last ≤ℤ all.last → all.first ≤ℤ all.last
    ordered all i low some high = omega (arith, ints)

map_at : {A B : Type 0} (f : A → B) (xs : List A) (k : ℕ) (y : B) → slice_get (map f xs) k ≡ Some y → (x : A) × (slice_get xs k ≡ Some x) × (f x ≡ y)
map_at f [] k y at = cc
map_at f (x ∷ xs) zero y at = (x, refl, cc)
map_at f (x ∷ xs) (suc k) y at = map_at f xs k y at

pub allocated_box_within : (axes : List CutAxis) (p : ℕ) (box : List Interval) → All IsCutAxis axes → slice_get (allocated_boxes axes) p ≡ Some box → Within axes box
allocated_box_within axes p box valid at =
    let owned : (o : List Interval) × (slice_get (owned_boxes axes) p ≡ Some o) × (allocated_of axes o ≡ box) = map_at (allocated_of axes) (owned_boxes axes) p box at in
    subst (λ (b : List Interval). Within axes b) owned.2 (allocated_of_within axes owned.0 valid (owned_within axes p owned.0 valid owned.1))

-- the numbers of patches
pub length-owned : (axes : List CutAxis) (first : CutAxis) (later : List CutAxis) → axes ≡ first ∷ later → length (owned_boxes axes) ≡ length (parts first) * length (owned_boxes later)
length-owned axes first later split =
    ap (λ (xs : List CutAxis). length (owned_boxes xs)) split ∙ length-boxes_of (parts first) (map parts later)

pub some_patch : (axes : List CutAxis) → 0 < length (owned_boxes axes)
some_patch [] = omega arith
some_patch (axis ∷ axes) =
    let here : 1 ≤ length (parts axis) = omega (arith, length-parts axis) in
    let rest : 1 ≤ length (owned_boxes axes) = some_patch axes in
    let product : 1 * 1 ≤ length (parts axis) * length (owned_boxes axes) = mul-le 1 1 (length (parts axis)) (length (owned_boxes axes)) here rest in
    omega (arith, product, length-boxes_of (parts axis) (map parts axes))

-- where there are few patches, an axis has few parts, and there are few patches of the later axes
pub fewer : (axes : List CutAxis) (first : CutAxis) (later : List CutAxis) → axes ≡ first ∷ later → length (owned_boxes axes) ≤ 256 → (length (parts first) ≤ 256) × (length (owned_boxes later) ≤ 256)
fewer axes first later split few =
    let here : 1 ≤ length (parts first) = omega (arith, length-parts first) in
    let rest : 1 ≤ length (owned_boxes later) = some_patch later in
    let all : length (owned_boxes axes) ≡ length (parts first) * length (owned_boxes later) = length-owned axes first later split in
    let left : length (parts first) * 1 ≤ length (parts first) * length (owned_boxes later) = mul-le (length (parts first)) 1 (length (parts first)) (length (owned_boxes later)) (omega arith) rest in
    let right : 1 * length (owned_boxes later) ≤ length (parts first) * length (owned_boxes later) = mul-le 1 (length (owned_boxes later)) (length (parts first)) (length (owned_boxes later)) here (omega arith) in
    (omega (arith, few, all, left), omega (arith, few, all, right))

-- a patch's part on the first axis, and its patch on the later ones
pub patch_splits : (axes : List CutAxis) (first : CutAxis) (later : List CutAxis) (p n : ℕ) → axes ≡ first ∷ later → n ≡ length (parts first) → p < length (owned_boxes axes) → (0 < n) × (p % n < length (parts first)) × (p / n < length (owned_boxes later))
patch_splits axes first later p n split is below =
    let all : p < n * length (owned_boxes later) = omega (arith, below, length-owned axes first later split ∙ ap (λ m. m * length (owned_boxes later)) (sym is)) in
    let parts_of : (0 < n) × (p % n < n) × (p / n < length (owned_boxes later)) = rest_and_quotient n (length (owned_boxes later)) p all in
    (parts_of.0, omega (arith, parts_of.1, is), parts_of.2)

pub owned_after : (axes : List CutAxis) (first : CutAxis) (later : List CutAxis) (p n : ℕ) (part : Interval) (box : List Interval) → axes ≡ first ∷ later → n ≡ length (parts first) → slice_get (parts first) (p % n) ≡ Some part → slice_get (owned_boxes later) (p / n) ≡ Some box → slice_get (owned_boxes axes) p ≡ Some (part ∷ box)
owned_after axes first later p n part box split is here rest =
    let place : p % n + length (parts first) * (p / n) ≡ p = ap (λ m. p % n + m * (p / n)) (sym is) ∙ mod-add-div p n in
    ap (λ (xs : List CutAxis). slice_get (owned_boxes xs) p) split
    ∙ ap (slice_get (owned_boxes (first ∷ later))) (sym place)
    ∙ slice_get-boxes_of (parts first) (map parts later) (p % n) (p / n) part box here rest

pub allocated_after : (axes : List CutAxis) (first : CutAxis) (later : List CutAxis) (p n : ℕ) (all : Interval) (box : List Interval) → axes ≡ first ∷ later → n ≡ length (parts first) → slice_get (map (allocated_part first) (parts first)) (p % n) ≡ Some all → slice_get (allocated_boxes later) (p / n) ≡ Some box → slice_get (allocated_boxes axes) p ≡ Some (all ∷ box)
allocated_after axes first later p n all box split is here rest =
    let part : (i : Interval) × (slice_get (parts first) (p % n) ≡ Some i) × (allocated_part first i ≡ all) = map_at (allocated_part first) (parts first) (p % n) all here in
    let owned : (o : List Interval) × (slice_get (owned_boxes later) (p / n) ≡ Some o) × (allocated_of later o ≡ box) = map_at (allocated_of later) (owned_boxes later) (p / n) box rest in
    let whole : slice_get (owned_boxes (first ∷ later)) p ≡ Some (part.0 ∷ owned.0) = owned_after (first ∷ later) first later p n part.0 owned.0 refl is part.1 owned.1 in
    ap (λ (xs : List CutAxis). slice_get (allocated_boxes xs) p) split
    ∙ slice_get-map (allocated_of (first ∷ later)) (owned_boxes (first ∷ later)) p
    ∙ ap (option_map (allocated_of (first ∷ later))) whole
    ∙ ap (λ i. Some (i ∷ allocated_of later owned.0)) part.2
    ∙ ap (λ b. Some (all ∷ b)) owned.2

-- all that patches allocate is a product over the axes
sum_of_scaled : (f g : Interval → ℕ) (m : ℕ) → ((i : Interval) → g i ≡ f i * m) → (is : List Interval) → sum_by g is ≡ sum_by f is * m
sum_of_scaled f g m e [] = omega arith
sum_of_scaled f g m e (i ∷ is) =
    sum_by-cons g i is ∙ omega (arith, e i, sum_of_scaled f g m e is, ap (λ s. s * m) (sum_by-cons f i is))

sum_by-map : {A B : Type 0} (f : B → ℕ) (g : A → B) (xs : List A) → sum_by f (map g xs) ≡ sum_by (λ x. f (g x)) xs
sum_by-map f g [] = refl
sum_by-map f g (x ∷ xs) = sum_by-cons f (g x) (map g xs) ∙ omega (arith, sum_by-map f g xs, sum_by-cons (λ y. f (g y)) x xs)

size_of_round : (axis : CutAxis) (axes : List CutAxis) (box : List Interval) → sum_by (λ whole. length (cells_of (allocated_of (axis ∷ axes) whole))) (map (λ part. part ∷ box) (parts axis)) ≡ sum_by axis_length (map (allocated_part axis) (parts axis)) * length (cells_of (allocated_of axes box))
size_of_round axis axes box =
    sum_by-map (λ whole. length (cells_of (allocated_of (axis ∷ axes) whole))) (λ part. part ∷ box) (parts axis)
    ∙ sum_of_scaled (λ part. axis_length (allocated_part axis part)) (λ part. length (cells_of (allocated_part axis part ∷ allocated_of axes box))) (length (cells_of (allocated_of axes box)))
    (λ part. length-cells_of (allocated_part axis part) (allocated_of axes box)) (parts axis)
    ∙ ap (λ s. s * length (cells_of (allocated_of axes box))) (sym (sum_by-map axis_length (allocated_part axis) (parts axis)))

size_of_rounds : (axis : CutAxis) (axes : List CutAxis) (boxes : List (List Interval)) → sum_by (λ whole. length (cells_of (allocated_of (axis ∷ axes) whole))) (flat_map (λ box. map (λ part. part ∷ box) (parts axis)) boxes) ≡ sum_by axis_length (map (allocated_part axis) (parts axis)) * sum_by (λ box. length (cells_of (allocated_of axes box))) boxes
size_of_rounds axis axes [] = omega arith
size_of_rounds axis axes (box ∷ boxes) =
    sum_by-append (λ whole. length (cells_of (allocated_of (axis ∷ axes) whole))) (map (λ part. part ∷ box) (parts axis)) (flat_map (λ b. map (λ part. part ∷ b) (parts axis)) boxes)
    ∙ omega (arith, size_of_round axis axes box, size_of_rounds axis axes boxes, ap (λ s. sum_by axis_length (map (allocated_part axis) (parts axis)) * s) (sum_by-cons (λ b. length (cells_of (allocated_of axes b))) box boxes))

pub allocated_product : (axes : List CutAxis) (first : CutAxis) (later : List CutAxis) → axes ≡ first ∷ later → allocated_count axes ≡ sum_by axis_length (map (allocated_part first) (parts first)) * allocated_count later
allocated_product axes first later split =
    ap allocated_count split
    ∙ sum_by-map (λ box. length (cells_of box)) (allocated_of (first ∷ later)) (owned_boxes (first ∷ later))
    ∙ size_of_rounds first later (owned_boxes later)
    ∙ ap (λ s. sum_by axis_length (map (allocated_part first) (parts first)) * s) (sym (sum_by-map (λ box. length (cells_of box)) (allocated_of later) (owned_boxes later)))

-- the product of the parts of the first axis and the patches of the later ones is their number of patches
pub patches_product : (axes : List CutAxis) (first : CutAxis) (later : List CutAxis) (n m : ℕ) → axes ≡ first ∷ later → n ≡ length (parts first) → m ≡ length (owned_boxes later) → n * m ≡ length (owned_boxes axes)
patches_product axes first later n m split is rest =
    ap (λ i. i * m) is ∙ ap (λ j. length (parts first) * j) rest ∙ sym (length-owned axes first later split)

-- the owner of a cell below the number of patches
pub owner_below : (axes : List CutAxis) (c : List ℤ) → IsIn (total_of axes) c → owner_of axes c < length (owned_boxes axes)
owner_below axes c inside = within (slice_get (owned_boxes axes) (owner_of axes c)) refl (owner_owns axes c inside)
  where
    within : (o : Option (List Interval)) → slice_get (owned_boxes axes) (owner_of axes c) ≡ o → IsSomeAnd o (λ box. IsIn box c) → owner_of axes c < length (owned_boxes axes)
    within None at h = absurd h
    within (Some box) at h = slice_get_within (owned_boxes axes) (owner_of axes c) box at

pub owner_after : (axes : List CutAxis) (first : CutAxis) (later : List CutAxis) (c xs : List ℤ) (x : ℤ) → axes ≡ first ∷ later → slice_get c 0 ≡ Some x → xs ≡ drop 1 c → IsIn (total_of axes) c → IsIn (total_of later) xs × (part_of first.borders x + length (parts first) * owner_of later xs ≡ owner_of axes c)
owner_after axes first later [] xs x split here rest inside = cc
owner_after axes first later (y ∷ ys) xs x split here rest inside =
    let same : y ≡ x = cc in
    let all : IsIn (total_of (first ∷ later)) (y ∷ ys) = subst (λ (a : List CutAxis). IsIn (total_of a) (y ∷ ys)) split inside in (
      subst (λ (c : List ℤ). IsIn (total_of later) c) (sym rest) all.2,
      ap (λ (v : ℤ). part_of first.borders v + length (parts first) * owner_of later xs) (sym same)
          ∙ ap (λ (v : List ℤ). part_of first.borders y + length (parts first) * owner_of later v) rest
          ∙ ap (λ (a : List CutAxis). owner_of a (y ∷ ys)) (sym split),
    )
