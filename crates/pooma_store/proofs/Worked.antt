-- The definitions on worked cases, by computing.
use Rattle.std.specs.Prelude.{◌≡◌, ℤ, pos, negsuc, List, [], ◌∷◌, map, refl}
use Rattle.pooma_domain.specs.Cells.{interval}
use Rattle.pooma_field.specs.Numbered.{place_in, number_at}
use Rattle.pooma_layout.specs.Axes.{CutAxis, cut_axis}
use Rattle.pooma_store.specs.Numbering.{object_count, object_of, areas_of, object_at, changed_at, new_objects}
use Rattle.pooma_store.specs.Standing.{owner_object}

-- ten cells, cut before 4 and 7
abbrev row : List CutAxis
row = cut_axis (interval (pos 0) (pos 9)) (pos 0) (pos 0) (pos 4 ∷ pos 7 ∷ []) ∷ []

-- four by four cells in four patches, with a guard layer on each side
abbrev square : List CutAxis
square =
    cut_axis (interval (pos 0) (pos 3)) (pos 1) (pos 1) (pos 2 ∷ [])
    ∷ cut_axis (interval (pos 0) (pos 3)) (pos 1) (pos 1) (pos 2 ∷ [])
    ∷ []

abbrev both : List (List CutAxis)
both = row ∷ square ∷ []

all_patches_are_objects : object_count both ≡ 7
all_patches_are_objects = refl

objects_go_by_arrays : (object_of both 0 0 ∷ object_of both 0 2 ∷ object_of both 1 0 ∷ object_of both 1 3 ∷ []) ≡ (0 ∷ 2 ∷ 3 ∷ 6 ∷ [])
objects_go_by_arrays = refl

boxes_of_a_row : areas_of (row ∷ []) ≡ ((interval (pos 0) (pos 3) ∷ []) ∷ (interval (pos 4) (pos 6) ∷ []) ∷ (interval (pos 7) (pos 9) ∷ []) ∷ [])
boxes_of_a_row = refl

-- two patches allocate the cell, and one of them owns it; guards beyond the domain belong to the patch at the edge
owners_in_the_square : map (owner_object both 1) ((pos 2 ∷ pos 1 ∷ []) ∷ (negsuc 0 ∷ negsuc 0 ∷ []) ∷ (pos 4 ∷ pos 4 ∷ []) ∷ []) ≡ (4 ∷ 3 ∷ 6 ∷ [])
owners_in_the_square = refl

-- the numbers of a row's cells in the patches that own them, after one cell was set
one_cell_is_set : map (λ (x : ℤ). number_at (object_at (changed_at (new_objects (row ∷ [])) 1 (record { cell = pos 5 ∷ []; number = pos 9 } ∷ [])) (owner_object (row ∷ []) 0 (x ∷ []))) (x ∷ []))
    (pos 3 ∷ pos 4 ∷ pos 5 ∷ pos 6 ∷ pos 7 ∷ [])
    ≡ (pos 0 ∷ pos 0 ∷ pos 9 ∷ pos 0 ∷ pos 0 ∷ [])
unfolding place_in
one_cell_is_set = refl
