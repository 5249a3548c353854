-- The slabs of a field in their order, and what its cells have once they are set.
use Rattle.std.specs.Prelude.{ℕ, suc, nat_lt, ℤ, pos, neg_ℤ, Bool, true, false, List, [], ◌∷◌, length, map, filter, fold, slice_index_or, slice_set, if◌then◌else◌}
use Rattle.std.specs.Option.{option_map_or}
use Rattle.pooma_domain.specs.Cells.{Interval, interval, axis_length, cells_of}
use Rattle.pooma_field.specs.declared.faces.Ends.{Ends}
use Rattle.pooma_field.specs.declared.shapes.Slab.{Slab}
use Rattle.pooma_field.specs.declared.updaters.Updater.{Updater}
use Rattle.pooma_field.specs.declared.updaters.Updater.TheVariants.{Constant, Periodic, Reflect, Antireflect, Extrapolate}
use Rattle.pooma_field.specs.Numbered.{place_in}
use Rattle.pooma_field.specs.Shapes.{Shaped, slab_of}
use Rattle.pooma_field.specs.Updaters.{clamped, distance, extrapolation, face, inner, mirrored, wrapped}

-- the axis of a box with this number
abbrev pub axis_at : List Interval → ℕ → Interval
axis_at box n = slice_index_or box n (interval (pos 0) (pos 0))

-- the coordinate of a cell on the axis with this number
abbrev pub coordinate_at : List ℤ → ℕ → ℤ
coordinate_at c n = slice_index_or c n (pos 0)

-- the slab of a face
abbrev pub slab_at : Shaped → ℕ → Bool → Updater → Slab
slab_at shape axis high updater =
    record { target = slab_of high axis shape; axis = axis; high = high; updater = updater }

-- the slabs of these faces, the first of which are of the axis with this number: of each axis the low one, then the high one
abbrev pub slabs_beside : Shaped → ℕ → List Ends → List Slab
slabs_beside shape axis [] = []
slabs_beside shape axis (ends ∷ faces) =
    slab_at shape axis false ends.low ∷ slab_at shape axis true ends.high ∷ slabs_beside shape (suc axis) faces

-- the total domain reaches beyond the face
abbrev pub is_deep : Slab → Bool
is_deep slab = nat_lt 0 (axis_length (axis_at slab.target slab.axis))

-- the slabs of a field that have cells, axis by axis from the lowest; a plain array has none
abbrev pub slabs_of : Shaped → List Slab
slabs_of shape = filter is_deep (option_map_or (slabs_beside shape 0) shape.faces [])

-- the numbers of the axis from whose values an updater makes that of a number beside it: for `extrapolate` the face and the inner one
abbrev pub sources_along : Updater → Interval → ℤ → List ℤ
sources_along (Constant k) axis x = []
sources_along Periodic axis x = wrapped axis x ∷ []
sources_along Reflect axis x = mirrored axis x ∷ []
sources_along Antireflect axis x = mirrored axis x ∷ []
sources_along Extrapolate axis x = face axis x ∷ inner axis x ∷ []

-- what it makes of their values
abbrev pub made_of : Updater → Interval → ℤ → List ℤ → ℤ
made_of (Constant k) axis x values = k
made_of Periodic axis x values = slice_index_or values 0 (pos 0)
made_of Reflect axis x values = slice_index_or values 0 (pos 0)
made_of Antireflect axis x values = clamped (neg_ℤ (slice_index_or values 0 (pos 0)))
made_of Extrapolate axis x values =
    extrapolation (slice_index_or values 0 (pos 0)) (slice_index_or values 1 (pos 0)) (distance axis x)

-- the cells from whose values a slab's cell takes its own
abbrev pub cell_sources : Shaped → Slab → List ℤ → List (List ℤ)
cell_sources shape slab c =
    map (λ x. slice_set c slab.axis x) (sources_along slab.updater (axis_at shape.physical slab.axis) (coordinate_at c slab.axis))

-- its value, where these cells have these values
abbrev pub cell_value : Shaped → Slab → List ℤ → List ℤ → ℤ
cell_value shape slab c values = made_of slab.updater (axis_at shape.physical slab.axis) (coordinate_at c slab.axis) values

-- whether the box has the cell
abbrev pub has_cell : List Interval → List ℤ → Bool
has_cell box c = nat_lt (place_in box c) (length (cells_of box))

-- the numbers of cells once a slab is set: its cells have what its updater makes of the numbers that were there
abbrev pub with_slab : Shaped → (List ℤ → ℤ) → Slab → List ℤ → ℤ
with_slab shape numbers slab c =
    if has_cell slab.target c then cell_value shape slab c (map numbers (cell_sources shape slab c)) else numbers c

-- the numbers of cells once these slabs are set, one after another
abbrev pub with_slabs : Shaped → (List ℤ → ℤ) → List Slab → List ℤ → ℤ
with_slabs shape numbers slabs = fold (with_slab shape) numbers slabs
