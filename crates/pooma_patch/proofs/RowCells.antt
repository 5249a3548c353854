-- The places of the cells of a row.
use Rattle.std.proofs.Common.{refl, sym, ap, ◌∙◌, arith, get_or}
use Rattle.std.proofs.lemmas.Int.{ints}
use Rattle.std.proofs.lemmas.List.{get_or-replicate}
use Rattle.std.proofs.lemmas.Option.{same_Some, slice_get_within}
use Rattle.std.proofs.Math.IntN.{pos-*ℤ-pos, negsuc-*ℤ-pos, *ℤ-one, *ℤ-zero}
use Rattle.std.specs.Int.{w64}
use Rattle.std.specs.Prelude.{◌≡◌, ◌≢◌, ℕ, zero, suc, ◌*◌, ◌^◌, ◌<◌, ◌≤◌, ℤ, pos, negsuc, neg_ℤ, ◌+ℤ◌, ◌*ℤ◌, FitsSigned, Some, List, [], ◌∷◌, length, replicate, slice_get, slice_index_or}
use Rattle.pooma_compress.specs.Rows.{row_place, IsRowWithin}
use Rattle.pooma_domain.specs.Cells.{Interval, cells_of, IsIn}
use Rattle.pooma_domain.specs.Neighbours.{axis_stride, moved_along}
use Rattle.pooma_field.specs.Numbered.{place_in}
use Rattle.pooma_patch.specs.Rows.{row_cell, ArePlaced, IsRowIn}

-- where a cell stands, and how far apart cells along an axis stand
pub record HasPlaceLaws : Type 0 where
  pub stands : (box : List Interval) (c : List ℤ) → IsIn box c → slice_get (cells_of box) (place_in box c) ≡ Some c
  pub only_there : (box : List Interval) (c : List ℤ) (k : ℕ) → slice_get (cells_of box) k ≡ Some c → place_in box c ≡ k
  pub lengths : (axes : List Interval) (cell : List ℤ) → IsIn axes cell → length cell ≡ length axes
  pub steps : (axes : List Interval) (n : ℕ) (by : ℤ) (cell : List ℤ) (j k : ℕ) → n < length axes → slice_get (cells_of axes) j ≡ Some cell → slice_get (cells_of axes) k ≡ Some (moved_along n by cell) → pos k ≡ pos j +ℤ by *ℤ pos (axis_stride axes n)

negative_times : (n m : ℕ) → neg_ℤ (pos n) *ℤ pos m ≡ neg_ℤ (pos (n * m))
negative_times zero m = pos-*ℤ-pos 0 m ∙ omega (arith, ints)
negative_times (suc n) m = negsuc-*ℤ-pos n m

-- so many strides of so many places each
strides_turned : (s : ℤ) (k n : ℕ) → (s *ℤ pos k) *ℤ pos n ≡ (s *ℤ pos n) *ℤ pos k
strides_turned (pos s) k n =
    ap (λ (z : ℤ). z *ℤ pos n) (pos-*ℤ-pos s k) ∙ pos-*ℤ-pos (s * k) n
    ∙ ap pos (let turned : s * k * n ≡ s * n * k = omega arith in turned)
    ∙ sym (pos-*ℤ-pos (s * n) k) ∙ sym (ap (λ (z : ℤ). z *ℤ pos k) (pos-*ℤ-pos s n))
strides_turned (negsuc s) k n =
    ap (λ (z : ℤ). z *ℤ pos n) (negsuc-*ℤ-pos s k) ∙ negative_times (suc s * k) n
    ∙ ap (λ (m : ℕ). neg_ℤ (pos m)) (let turned : suc s * k * n ≡ suc s * n * k = omega arith in turned)
    ∙ sym (negative_times (suc s * n) k) ∙ sym (ap (λ (z : ℤ). z *ℤ pos k) (negsuc-*ℤ-pos s n))

moved_by_none : (n : ℕ) (c : List ℤ) → moved_along n (pos 0) c ≡ c
moved_by_none n [] = refl
moved_by_none zero (x ∷ c) = ap (λ (y : ℤ). y ∷ c) (let same : x +ℤ pos 0 ≡ x = omega (arith, ints) in same)
moved_by_none (suc n) (x ∷ c) = ap (λ (d : List ℤ). x ∷ d) (moved_by_none n c)

pub first_cell : (first : List ℤ) (axis : ℕ) (stride : ℤ) → row_cell first axis stride 0 ≡ first
first_cell first axis stride = ap (λ (z : ℤ). moved_along axis z first) (*ℤ-zero stride) ∙ moved_by_none axis first

-- from place to place, by the strides of the axis
pub placed_by_strides : HasPlaceLaws → (area : List Interval) (first : List ℤ) (axis : ℕ) (stride : ℤ) (count place : ℕ) → axis < length area → slice_get (cells_of area) place ≡ Some first → IsRowIn area first axis stride count → ArePlaced area first axis stride count place (stride *ℤ pos (axis_stride area axis))
placed_by_strides laws area first axis stride count place there at inside k below =
    laws.steps area axis (stride *ℤ pos k) first place (place_in area (row_cell first axis stride k)) there at (laws.stands area (row_cell first axis stride k) (inside k below))
    ∙ ap (λ (z : ℤ). pos place +ℤ z) (strides_turned stride k (axis_stride area axis))

-- of one cell, by any step
pub one_placed : HasPlaceLaws → (area : List Interval) (first : List ℤ) (axis : ℕ) (stride step : ℤ) (count place : ℕ) → slice_get (cells_of area) place ≡ Some first → count ≤ 1 → ArePlaced area first axis stride count place step
one_placed laws area first axis stride step count place at few zero below =
    ap pos (ap (place_in area) (first_cell first axis stride) ∙ laws.only_there area first place at)
    ∙ (let start : pos place ≡ pos place +ℤ step *ℤ pos 0 = rw (*ℤ-zero step) (omega (arith, ints)) in start)
one_placed laws area first axis stride step count place at few (suc k) below = absurd (omega (arith, few, below))

-- the step from the first place to the second fits, since both are places
pub step_fits : HasPlaceLaws → (area : List Interval) (first : List ℤ) (axis : ℕ) (stride : ℤ) (count place : ℕ) → axis < length area → slice_get (cells_of area) place ≡ Some first → IsRowIn area first axis stride count → 1 < count → length (cells_of area) < 2 ^ 63 → FitsSigned w64 (stride *ℤ pos (axis_stride area axis))
unfolding lib.IntN.one
step_fits laws area first axis stride count place there at inside some small =
    let next : pos (place_in area (row_cell first axis stride 1)) ≡ row_place place (stride *ℤ pos (axis_stride area axis)) 1 = placed_by_strides laws area first axis stride count place there at inside 1 some in
    let once : (stride *ℤ pos (axis_stride area axis)) *ℤ pos 1 ≡ stride *ℤ pos (axis_stride area axis) = *ℤ-one (stride *ℤ pos (axis_stride area axis)) in
    fits_between place (place_in area (row_cell first axis stride 1)) (stride *ℤ pos (axis_stride area axis)) (next ∙ ap (λ (z : ℤ). pos place +ℤ z) once)
    (omega (arith, small, slice_get_within (cells_of area) place first at))
    (omega (arith, small, slice_get_within (cells_of area) (place_in area (row_cell first axis stride 1)) (row_cell first axis stride 1) (laws.stands area (row_cell first axis stride 1) (inside 1 some))))
  where
    fits_between : (i j : ℕ) (z : ℤ) → pos j ≡ pos i +ℤ z → i < 2 ^ 63 → j < 2 ^ 63 → FitsSigned w64 z
    fits_between i j z far low high = omega (arith, ints, far, low, high)

moved_to_itself : (n : ℕ) (z : ℤ) (c : List ℤ) → n < length c → moved_along n z c ≡ c → z ≡ pos 0
moved_to_itself n z [] there same = absurd (omega (arith, there))
moved_to_itself zero z (x ∷ c) there same = let here : x +ℤ z ≡ x = cc in omega (arith, ints, here)
moved_to_itself (suc n) z (x ∷ c) there same = moved_to_itself n z c (omega (arith, there)) (let later : moved_along n z c ≡ c = cc in later)

-- a row of two cells or more has places that differ
pub step_moves : HasPlaceLaws → (area : List Interval) (first : List ℤ) (axis : ℕ) (stride step : ℤ) (count place : ℕ) → axis < length area → IsIn area first → IsRowIn area first axis stride count → 1 < count → ArePlaced area first axis stride count place step → stride ≢ pos 0 → step ≢ pos 0
unfolding lib.IntN.one
step_moves laws area first axis stride step count place there in_area inside some placed moves none =
    let at_first : pos (place_in area (row_cell first axis stride 0)) ≡ pos place +ℤ pos 0 *ℤ pos 0 = placed 0 (omega (arith, some)) ∙ ap (λ (z : ℤ). row_place place z 0) none in
    let at_next : pos (place_in area (row_cell first axis stride 1)) ≡ pos place +ℤ pos 0 *ℤ pos 1 = placed 1 some ∙ ap (λ (z : ℤ). row_place place z 1) none in
    let same_place : place_in area (row_cell first axis stride 1) ≡ place_in area (row_cell first axis stride 0) = omega (arith, ints, at_first, at_next, pos-*ℤ-pos 0 0, pos-*ℤ-pos 0 1) in
    let same : row_cell first axis stride 1 ≡ row_cell first axis stride 0 =
    same_Some (row_cell first axis stride 1) (row_cell first axis stride 0)
    (sym (laws.stands area (row_cell first axis stride 1) (inside 1 some)) ∙ ap (slice_get (cells_of area)) same_place ∙ laws.stands area (row_cell first axis stride 0) (inside 0 (omega (arith, some)))) in
    moves
    (sym (*ℤ-one stride)
    ∙ moved_to_itself axis (stride *ℤ pos 1) first (omega (arith, there, laws.lengths area first in_area)) (same ∙ first_cell first axis stride))

-- each place of the row is one of the box's
pub places_within : HasPlaceLaws → (area : List Interval) (first : List ℤ) (axis : ℕ) (stride step : ℤ) (count place len : ℕ) → IsRowIn area first axis stride count → ArePlaced area first axis stride count place step → len ≡ length (cells_of area) → IsRowWithin place step count len
places_within laws area first axis stride step count place len inside placed full k below =
    let there : place_in area (row_cell first axis stride k) < length (cells_of area) = slice_get_within (cells_of area) (place_in area (row_cell first axis stride k)) (row_cell first axis stride k) (laws.stands area (row_cell first axis stride k) (inside k below)) in
    rw (← placed k below) (omega (arith, ints), omega (arith, ints, there, full))

-- a cell that is none of the row's stands beside its places
pub stands_beside : HasPlaceLaws → (area : List Interval) (first : List ℤ) (axis : ℕ) (stride step : ℤ) (count place : ℕ) (c : List ℤ) → IsRowIn area first axis stride count → ArePlaced area first axis stride count place step → IsIn area c → ((k : ℕ) → k < count → c ≢ row_cell first axis stride k) → (k : ℕ) → k < count → pos (place_in area c) ≡ row_place place step k → ⊥
stands_beside laws area first axis stride step count place c inside placed in_area other k below at =
    let same : place_in area c ≡ place_in area (row_cell first axis stride k) = omega (arith, ints, at, placed k below) in
    other k below
    (same_Some c (row_cell first axis stride k)
    (sym (laws.stands area c in_area) ∙ ap (slice_get (cells_of area)) same ∙ laws.stands area (row_cell first axis stride k) (inside k below)))

-- the number at a cell, where all are one
pub one_at : HasPlaceLaws → (area : List Interval) (numbers : List ℤ) (v : ℤ) (c : List ℤ) → length numbers ≡ length (cells_of area) → numbers ≡ replicate (length numbers) v → IsIn area c → slice_index_or numbers (place_in area c) (pos 0) ≡ v
one_at laws area numbers v c full one inside =
    let there : place_in area c < length numbers = omega (arith, full, slice_get_within (cells_of area) (place_in area c) c (laws.stands area c inside)) in
    ap (λ (xs : List ℤ). get_or xs (place_in area c) (pos 0)) one ∙ get_or-replicate (length numbers) (place_in area c) v (pos 0) there
