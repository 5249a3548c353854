-- The definitions on worked cases, by computing.
use Rattle.std.specs.Prelude.{◌≡◌, ℤ, pos, negsuc, neg_ℤ, true, false, Some, List, [], ◌∷◌, map, refl, if◌then◌else◌}
use Rattle.pooma_domain.specs.Cells.{Interval, interval, cells_of}
use Rattle.pooma_field.specs.declared.updaters.Updater.{Updater}
use Rattle.pooma_field.specs.declared.updaters.Updater.TheVariants.{Constant, Periodic, Reflect, Antireflect, Extrapolate}
use Rattle.pooma_field.specs.Faces.{by_axis}
use Rattle.pooma_field.specs.Look.{look}
use Rattle.pooma_field.specs.Numbered.{place_in, number_at, with_changes}
use Rattle.pooma_field.specs.declared.shapes.Slab.{Slab}
use Rattle.pooma_field.specs.Shapes.{Shaped, slab_of}
use Rattle.pooma_field.specs.Slabs.{has_cell, slabs_of, with_slabs}
use Rattle.pooma_field.specs.Sources.{source_of}

-- a field of these boxes and updaters
abbrev field_of : List Interval → List Interval → List Updater → Shaped
field_of physical total updaters = record { physical = physical; total = total; faces = Some (by_axis updaters) }

-- what is seen at all cells of the field, in order
abbrev seen : Shaped → List ℤ → List ℤ
seen shape numbers =
    map (look shape (number_at (record { area = shape.physical; numbers = numbers }))) (cells_of shape.total)

abbrev square : Shaped
square =
    field_of (interval (pos 0) (pos 1) ∷ interval (pos 0) (pos 1) ∷ [])
    (interval (negsuc 0) (pos 2) ∷ interval (negsuc 0) (pos 2) ∷ [])
    (Constant (pos 5) ∷ Periodic ∷ Antireflect ∷ Antireflect ∷ [])

-- The corners are those of the second axis: the lower left one is the constant with the other sign, and that of the least
-- number is one too great.
corners_by_the_greatest_axis : seen square (neg_ℤ (pos 9223372036854775808) ∷ pos 2 ∷ pos 3 ∷ pos 4 ∷ [])
    ≡ (negsuc 4 ∷ pos 9223372036854775807 ∷ negsuc 1 ∷ pos 9223372036854775807
    ∷ pos 5 ∷ neg_ℤ (pos 9223372036854775808) ∷ pos 2 ∷ neg_ℤ (pos 9223372036854775808)
    ∷ pos 5 ∷ pos 3 ∷ pos 4 ∷ pos 3
    ∷ negsuc 4 ∷ negsuc 2 ∷ negsuc 3 ∷ negsuc 2 ∷ [])
unfolding place_in
corners_by_the_greatest_axis = refl

abbrev row : List Updater → Shaped
row updaters = field_of (interval (pos 0) (pos 2) ∷ []) (interval (negsuc 1) (pos 4) ∷ []) updaters

lines_go_on_beside_the_row : seen (row (Extrapolate ∷ Extrapolate ∷ [])) (pos 0 ∷ pos 1 ∷ pos 4 ∷ [])
    ≡ (negsuc 1 ∷ negsuc 0 ∷ pos 0 ∷ pos 1 ∷ pos 4 ∷ pos 7 ∷ pos 10 ∷ [])
unfolding place_in
lines_go_on_beside_the_row = refl

mirrors_stand_at_the_faces : seen (row (Reflect ∷ Reflect ∷ [])) (pos 2 ∷ pos 3 ∷ pos 8 ∷ [])
    ≡ (pos 3 ∷ pos 2 ∷ pos 2 ∷ pos 3 ∷ pos 8 ∷ pos 8 ∷ pos 3 ∷ [])
unfolding place_in
mirrors_stand_at_the_faces = refl

the_row_goes_round : seen (row (Periodic ∷ Constant (pos 0) ∷ [])) (pos 1 ∷ pos 2 ∷ pos 3 ∷ [])
    ≡ (pos 2 ∷ pos 3 ∷ pos 1 ∷ pos 2 ∷ pos 3 ∷ pos 0 ∷ pos 0 ∷ [])
unfolding place_in
the_row_goes_round = refl

-- a row of one cell has no other number beside the face
one_cell_is_its_own_line : seen (field_of (interval (pos 3) (pos 3) ∷ []) (interval (pos 2) (pos 4) ∷ []) (Extrapolate ∷ Extrapolate ∷ [])) (pos 6 ∷ [])
    ≡ (pos 6 ∷ pos 6 ∷ pos 6 ∷ [])
unfolding place_in
one_cell_is_its_own_line = refl

slabs_of_the_square : slab_of false 0 square ∷ slab_of true 0 square ∷ slab_of false 1 square ∷ slab_of true 1 square ∷ []
    ≡ (interval (negsuc 0) (negsuc 0) ∷ interval (pos 0) (pos 1) ∷ [])
    ∷ (interval (pos 2) (pos 2) ∷ interval (pos 0) (pos 1) ∷ [])
    ∷ (interval (negsuc 0) (pos 2) ∷ interval (negsuc 0) (negsuc 0) ∷ [])
    ∷ (interval (negsuc 0) (pos 2) ∷ interval (pos 2) (pos 2) ∷ [])
    ∷ []
slabs_of_the_square = refl

-- the corner's source lies beside the first axis still
source_of_a_corner : source_of square 1 (pos 2 ∷ negsuc 0 ∷ []) ≡ Some (pos 2 ∷ pos 0 ∷ [])
source_of_a_corner = refl

-- the later change of a cell stays, and a cell of another box changes nothing
later_changes_stay : with_changes (record { area = interval (pos 1) (pos 3) ∷ []; numbers = pos 0 ∷ pos 0 ∷ pos 0 ∷ [] })
    (record { cell = pos 2 ∷ []; number = pos 5 } ∷ record { cell = pos 4 ∷ []; number = pos 6 } ∷ record { cell = pos 2 ∷ []; number = pos 7 } ∷ [])
    ≡ record { area = interval (pos 1) (pos 3) ∷ []; numbers = pos 0 ∷ pos 7 ∷ pos 0 ∷ [] }
unfolding place_in
later_changes_stay = refl

-- what is seen at all cells of the field once its slabs were set in their order, where its other cells had the number 9
abbrev filled : Shaped → List ℤ → List ℤ
filled shape numbers =
    map (with_slabs shape (λ c. if has_cell shape.physical c then number_at (record { area = shape.physical; numbers = numbers }) c else pos 9) (slabs_of shape)) (cells_of shape.total)

slabs_in_their_order : map (λ (slab : Slab). slab.target) (slabs_of square)
    ≡ (interval (negsuc 0) (negsuc 0) ∷ interval (pos 0) (pos 1) ∷ [])
    ∷ (interval (pos 2) (pos 2) ∷ interval (pos 0) (pos 1) ∷ [])
    ∷ (interval (negsuc 0) (pos 2) ∷ interval (negsuc 0) (negsuc 0) ∷ [])
    ∷ (interval (negsuc 0) (pos 2) ∷ interval (pos 2) (pos 2) ∷ [])
    ∷ []
slabs_in_their_order = refl

-- a face without cells has no slab
no_slab_where_nothing_is_beside : map (λ (slab : Slab). slab.high) (slabs_of (field_of (interval (pos 0) (pos 1) ∷ []) (interval (pos 0) (pos 2) ∷ []) (Periodic ∷ Reflect ∷ [])))
    ≡ true ∷ []
no_slab_where_nothing_is_beside = refl

setting_slabs_is_looking_up : filled square (neg_ℤ (pos 9223372036854775808) ∷ pos 2 ∷ pos 3 ∷ pos 4 ∷ [])
    ≡ seen square (neg_ℤ (pos 9223372036854775808) ∷ pos 2 ∷ pos 3 ∷ pos 4 ∷ [])
unfolding place_in
setting_slabs_is_looking_up = refl
