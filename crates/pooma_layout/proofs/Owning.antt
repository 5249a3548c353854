-- Each total cell has one owner.
use Rattle.std.proofs.Common.{refl, sym, ap, ◌∙◌, subst, arith}
use Rattle.std.proofs.lemmas.Int.{ints}
use Rattle.std.proofs.lemmas.List.Elements.{All-head, All-tail}
use Rattle.std.proofs.Math.Nat.{mod-add-div}
use Rattle.std.specs.Prelude.{◌≡◌, ℕ, zero, suc, ◌+◌, ◌*◌, ◌/◌, ◌%◌, ℤ, ◌≤ℤ◌, Option, Some, None, List, [], ◌∷◌, length, map, slice_get, All, IsSomeAnd}
use Rattle.pooma_domain.specs.Cells.{Interval, IsIn}
use Rattle.pooma_layout.specs.Axes.{CutAxis, total_axis, parts, part_of, IsCutAxis}
use Rattle.pooma_layout.specs.Patches.{owned_boxes, total_of, Owns, owner_of, HaveSameParts}
use Rattle.pooma_layout.proofs.Cutting.{Cut, cut_from_borders, cut_wider, interval_within, part_has, only_part_has}
use Rattle.pooma_layout.proofs.Choices.{slice_get-boxes_of, box_at_place}

some_from : {A : Type 0} (P : A → Type 0) (o : Option A) → IsSomeAnd o P → (x : A) × (o ≡ Some x) × P x
some_from P None h = absurd h
some_from P (Some x) h = (x, refl, h)

some_at : {A : Type 0} (P : A → Type 0) (o : Option A) (x : A) → o ≡ Some x → P x → IsSomeAnd o P
some_at {A = A} P o x at h = subst (λ (v : Option A). IsSomeAnd v P) (sym at) h

-- the borders of an axis of a layout cut its physical numbers and all its numbers
pub physical_cut : (axis : CutAxis) → IsCutAxis axis → Cut axis.physical.first axis.borders axis.physical.last
physical_cut axis valid = cut_from_borders axis.physical.first axis.borders axis.physical.last valid.near.ordered valid.ascending valid.inside

pub total_cut : (axis : CutAxis) → IsCutAxis axis → Cut (total_axis axis).first axis.borders (total_axis axis).last
total_cut axis valid =
    cut_wider axis.physical.first (total_axis axis).first axis.borders axis.physical.last (total_axis axis).last
    (omega (arith, ints, valid.external_depth.low)) (omega (arith, ints, valid.external_depth.low)) (physical_cut axis valid)

-- the patch of a total cell's parts owns the cell
pub owner_owns : (layout : List CutAxis) (c : List ℤ) → IsIn (total_of layout) c → Owns layout (owner_of layout c) c
owner_owns [] [] h = tt
owner_owns [] (x ∷ xs) h = absurd h
owner_owns (axis ∷ axes) [] h = absurd h
owner_owns (axis ∷ axes) (x ∷ xs) h =
    let here : (part : Interval) × (slice_get (parts axis) (part_of axis.borders x) ≡ Some part) × ((part.first ≤ℤ x) × (x ≤ℤ part.last)) =
    some_from (λ part. (part.first ≤ℤ x) × (x ≤ℤ part.last)) (slice_get (parts axis) (part_of axis.borders x))
    (part_has (total_axis axis).first axis.borders (total_axis axis).last x h.0 h.1) in
    let rest : (box : List Interval) × (slice_get (owned_boxes axes) (owner_of axes xs) ≡ Some box) × IsIn box xs =
    some_from (λ box. IsIn box xs) (slice_get (owned_boxes axes) (owner_of axes xs)) (owner_owns axes xs h.2) in
    some_at (λ box. IsIn box (x ∷ xs)) (slice_get (owned_boxes (axis ∷ axes)) (owner_of (axis ∷ axes) (x ∷ xs))) (here.0 ∷ rest.0)
    (slice_get-boxes_of (parts axis) (map parts axes) (part_of axis.borders x) (owner_of axes xs) here.0 rest.0 here.1 rest.1)
    (here.2.0, here.2.1, rest.2)

-- a cell of a patch's box is a total cell, and the patch is its owner
cell_of_patch : (axis : CutAxis) (axes : List CutAxis) (p : ℕ) (c : List ℤ) (part : Interval) (rest : List Interval) → IsCutAxis axis → slice_get (parts axis) (p % length (parts axis)) ≡ Some part → ((xs : List ℤ) → IsIn rest xs → IsIn (total_of axes) xs × (p / length (parts axis) ≡ owner_of axes xs)) → IsIn (part ∷ rest) c → IsIn (total_of (axis ∷ axes)) c × (p ≡ owner_of (axis ∷ axes) c)
cell_of_patch axis axes p [] part rest valid at later h = absurd h
cell_of_patch axis axes p (x ∷ xs) part rest valid at later h =
    let cut : Cut (total_axis axis).first axis.borders (total_axis axis).last = total_cut axis valid in
    let inside : ((total_axis axis).first ≤ℤ part.first) × (part.first ≤ℤ part.last) × (part.last ≤ℤ (total_axis axis).last) =
    interval_within (total_axis axis).first axis.borders (total_axis axis).last (p % length (parts axis)) part cut at in
    let here : p % length (parts axis) ≡ part_of axis.borders x =
    only_part_has (total_axis axis).first axis.borders (total_axis axis).last x (p % length (parts axis)) part cut at h.0 h.1 in
    let rest_of : IsIn (total_of axes) xs × (p / length (parts axis) ≡ owner_of axes xs) = later xs h.2 in
    let low : (total_axis axis).first ≤ℤ x = omega (arith, ints, inside.0, h.0) in
    let high : x ≤ℤ (total_axis axis).last = omega (arith, ints, inside.2, h.1) in
    ((low, high, rest_of.0), sym (mod-add-div p (length (parts axis))) ∙ ap (λ i. i + length (parts axis) * (p / length (parts axis))) here ∙ ap (λ j. part_of axis.borders x + length (parts axis) * j) rest_of.1)

pub owned_cell : (layout : List CutAxis) (p : ℕ) (box : List Interval) (c : List ℤ) → All IsCutAxis layout → slice_get (owned_boxes layout) p ≡ Some box → IsIn box c → IsIn (total_of layout) c × (p ≡ owner_of layout c)
owned_cell [] zero box c valid at here =
    let same : box ≡ [] = cc in
    (subst (λ (b : List Interval). IsIn b c) same here, refl)
owned_cell [] (suc p) box c valid at here = cc
owned_cell (axis ∷ axes) p box c valid at here =
    let split : (part : Interval) × (rest : List Interval) × (slice_get (parts axis) (p % length (parts axis)) ≡ Some part) × (slice_get (owned_boxes axes) (p / length (parts axis)) ≡ Some rest) × (box ≡ part ∷ rest) =
    box_at_place (parts axis) (map parts axes) p box at in
    cell_of_patch axis axes p c split.0 split.1 (All-head IsCutAxis axis axes valid) split.2
    (λ xs h. owned_cell axes (p / length (parts axis)) split.1 xs (All-tail IsCutAxis axis axes valid) split.3 h)
    (subst (λ (b : List Interval). IsIn b c) split.4 here)

pub owned_is_total : (layout : List CutAxis) (p : ℕ) (c : List ℤ) → All IsCutAxis layout → Owns layout p c → IsIn (total_of layout) c
owned_is_total layout p c valid owns =
    let box : (b : List Interval) × (slice_get (owned_boxes layout) p ≡ Some b) × IsIn b c = some_from (λ b. IsIn b c) (slice_get (owned_boxes layout) p) owns in
    (owned_cell layout p box.0 c valid box.1 box.2).0

pub only_owner : (layout : List CutAxis) (p : ℕ) (c : List ℤ) → All IsCutAxis layout → Owns layout p c → p ≡ owner_of layout c
only_owner layout p c valid owns =
    let box : (b : List Interval) × (slice_get (owned_boxes layout) p ≡ Some b) × IsIn b c = some_from (λ b. IsIn b c) (slice_get (owned_boxes layout) p) owns in
    (owned_cell layout p box.0 c valid box.1 box.2).1

pub same_owner : (layout : List CutAxis) (c d : List ℤ) → HaveSameParts layout c d → owner_of layout c ≡ owner_of layout d
same_owner [] [] [] h = refl
same_owner [] [] (y ∷ ys) h = refl
same_owner [] (x ∷ xs) ys h = refl
same_owner (axis ∷ axes) [] ys h = absurd h
same_owner (axis ∷ axes) (x ∷ xs) [] h = absurd h
same_owner (axis ∷ axes) (x ∷ xs) (y ∷ ys) h =
    ap (λ i. i + length (parts axis) * owner_of axes xs) h.0 ∙ ap (λ j. part_of axis.borders y + length (parts axis) * j) (same_owner axes xs ys h.1)
