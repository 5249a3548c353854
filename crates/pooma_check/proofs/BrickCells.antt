-- A brick has one patch, which allocates its cells.
use Rattle.std.proofs.Common.{◌≡◌, ℕ, ℤ, pos, List, [], ◌∷◌, length, refl, ap, ap₂, ◌∙◌, arith}
use Rattle.std.specs.Prelude.{flat_map, map, sum_by}
use Rattle.std.specs.Int.{int_max, int_min}
use Rattle.std.proofs.lemmas.Int.{int_max_is, int_min_is, ints}
use Rattle.pooma_domain.specs.Cells.{Interval, interval, cells_of}
use Rattle.pooma_layout.specs.Axes.{allocated_part, cut_axis, parts, total_axis, widened}
use Rattle.pooma_layout.specs.Patches.{allocated_count, allocated_of, owned_boxes, total_of}
use Rattle.pooma_script.specs.Layouts.{brick_of}

same_interval : (a b : Interval) → a.first ≡ b.first → a.last ≡ b.last → a ≡ b
same_interval a b e f = ap₂ (λ (x y : ℤ). interval x y) e f

-- the brick's cells are its physical ones
pub total_of_brick : (axes : List Interval) → total_of (brick_of axes) ≡ axes
total_of_brick [] = refl
total_of_brick (axis ∷ axes) =
    ap₂ (λ (a : Interval) (l : List Interval). a ∷ l) (same_interval (total_axis (cut_axis axis (pos 0) (pos 0) [])) axis (omega (arith, ints)) (omega (arith, ints))) (total_of_brick axes)

-- one patch owns them
owned_by_one : (axes : List Interval) → owned_boxes (brick_of axes) ≡ total_of (brick_of axes) ∷ []
owned_by_one [] = refl
owned_by_one (axis ∷ axes) = ap (flat_map (λ box. map (λ part. part ∷ box) (parts (cut_axis axis (pos 0) (pos 0) [])))) (owned_by_one axes)

same_max : (a b x : ℤ) → a ≡ x → b ≡ x → int_max a b ≡ x
same_max a b x e f = omega (arith, ints, int_max_is a b, e, f)

same_min : (a b x : ℤ) → a ≡ x → b ≡ x → int_min a b ≡ x
same_min a b x e f = omega (arith, ints, int_min_is a b, e, f)

-- which allocates them
allocated_axis : (axis : Interval) → allocated_part (cut_axis axis (pos 0) (pos 0) []) (total_axis (cut_axis axis (pos 0) (pos 0) [])) ≡ axis
allocated_axis axis =
    let whole = total_axis (cut_axis axis (pos 0) (pos 0) []) in
    let wide = widened (pos 0) whole in
    same_interval (allocated_part (cut_axis axis (pos 0) (pos 0) []) whole) axis
    (same_max wide.first whole.first axis.first (omega (arith, ints)) (omega (arith, ints)))
    (same_min wide.last whole.last axis.last (omega (arith, ints)) (omega (arith, ints)))

allocated_whole : (axes : List Interval) → allocated_of (brick_of axes) (total_of (brick_of axes)) ≡ axes
allocated_whole [] = refl
allocated_whole (axis ∷ axes) = ap₂ (λ (a : Interval) (l : List Interval). a ∷ l) (allocated_axis axis) (allocated_whole axes)

sum_of_one : (f : List Interval → ℕ) (x : List Interval) → sum_by f (x ∷ []) ≡ f x
sum_of_one f x = omega arith

pub allocated_of_brick : (axes : List Interval) → allocated_count (brick_of axes) ≡ length (cells_of axes)
allocated_of_brick axes =
    ap (λ (boxes : List (List Interval)). sum_by (λ box. length (cells_of box)) (map (allocated_of (brick_of axes)) boxes)) (owned_by_one axes)
    ∙ sum_of_one (λ box. length (cells_of box)) (allocated_of (brick_of axes) (total_of (brick_of axes)))
    ∙ ap (λ (box : List Interval). length (cells_of box)) (allocated_whole axes)
