-- The patches of a layout: the boxes that they own and those that they allocate. A layout is the list of its axes.
use Rattle.std.specs.Prelude.{◌≡◌, ℕ, ◌+◌, ◌*◌, ◌<◌, ◌≤◌, ℤ, List, [], ◌∷◌, length, map, flat_map, sum_by, slice_get, All, IsSomeAnd}
use Rattle.pooma_domain.specs.Cells.{Interval, cells_of, IsIn}
use Rattle.pooma_domain.specs.Operations.{common_axes, grown, reaches}
use Rattle.pooma_layout.specs.Axes.{CutAxis, total_axis, parts, part_of, IsCutAxis}

-- what a layout has, axis by axis
abbrev pub physical_of : List CutAxis → List Interval
physical_of layout = map (λ axis. axis.physical) layout

abbrev pub external_of : List CutAxis → List ℤ
external_of layout = map (λ axis. axis.external) layout

abbrev pub internal_of : List CutAxis → List ℤ
internal_of layout = map (λ axis. axis.internal) layout

abbrev pub borders_of : List CutAxis → List (List ℤ)
borders_of layout = map (λ axis. axis.borders) layout

-- the physical box grown by the external guards
abbrev pub total_of : List CutAxis → List Interval
total_of layout = map total_axis layout

-- a box for each choice of one interval an axis: the intervals of the first axis go round for each box of the others
abbrev pub boxes_of : List (List Interval) → List (List Interval)
boxes_of [] = [] ∷ []
boxes_of (intervals ∷ later) = flat_map (λ box. map (λ part. part ∷ box) intervals) (boxes_of later)

-- the box that each patch owns, by the patches' numbers
abbrev pub owned_boxes : List CutAxis → List (List Interval)
owned_boxes layout = boxes_of (map parts layout)

-- an owned box grown by the internal guards and cut to the total box
abbrev pub allocated_of : List CutAxis → List Interval → List Interval
allocated_of layout owned = common_axes (grown owned (reaches (internal_of layout) (internal_of layout))) (total_of layout)

-- the box that each patch allocates, by the patches' numbers
abbrev pub allocated_boxes : List CutAxis → List (List Interval)
allocated_boxes layout = map (allocated_of layout) (owned_boxes layout)

-- how many cells all patches allocate together
abbrev pub allocated_count : List CutAxis → ℕ
allocated_count layout = sum_by (λ box. length (cells_of box)) (allocated_boxes layout)

-- there is a patch of this number, and its owned box has the cell
abbrev pub Owns : List CutAxis → ℕ → List ℤ → Type 0
Owns layout p c = IsSomeAnd (slice_get (owned_boxes layout) p) (λ box. IsIn box c)

-- the number of the patch that owns a cell, by the parts that have the cell's coordinates
abbrev pub owner_of : List CutAxis → List ℤ → ℕ
owner_of [] c = 0
owner_of (axis ∷ axes) [] = 0
owner_of (axis ∷ axes) (x ∷ xs) = part_of axis.borders x + length (parts axis) * owner_of axes xs

-- on each axis the coordinates of two cells lie in one part
abbrev pub HaveSameParts : List CutAxis → List ℤ → List ℤ → Type 0
HaveSameParts [] [] [] = Unit {0}
HaveSameParts [] [] (y ∷ ys) = ⊥
HaveSameParts [] (x ∷ xs) ys = ⊥
HaveSameParts (axis ∷ axes) [] ys = ⊥
HaveSameParts (axis ∷ axes) (x ∷ xs) [] = ⊥
HaveSameParts (axis ∷ axes) (x ∷ xs) (y ∷ ys) = (part_of axis.borders x ≡ part_of axis.borders y) × HaveSameParts axes xs ys

-- one to three axes, and at most 256 patches
pub record IsLayout (layout : List CutAxis) : Type 0 where
  pub some : 0 < length layout
  pub few_axes : length layout ≤ 3
  pub axes : All IsCutAxis layout
  pub few_patches : length (owned_boxes layout) ≤ 256
