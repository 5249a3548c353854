-- A layout is that of its axes, guards and blocks or cuts.
use Rattle.std.proofs.Common.{◌≡◌, suc, ℤ, pos, ◌+ℤ◌, ◌-ℤ◌, ◌<ℤ◌, List, [], ◌∷◌, refl, sym, ap, subst, ◌∙◌, arith}
use Rattle.std.proofs.lemmas.Int.{ints}
use Rattle.std.proofs.lemmas.List.Elements.{All-head, All-tail}
use Rattle.std.specs.Prelude.{map, All}
use Rattle.pooma_domain.specs.Cells.{Interval, interval, axis_length}
use Rattle.pooma_domain.specs.Operations.{each_of}
use Rattle.pooma_layout.specs.Axes.{CutAxis, IsAscending, IsCutAxis, cut_at, cut_axis}
use Rattle.pooma_layout.specs.Blocks.{blocks_of, part_lengths}
use Rattle.pooma_layout.specs.Patches.{borders_of, external_of, internal_of, physical_of}
use Rattle.pooma_script.specs.Layouts.{block_borders, borders_from, cut_axes}
use Rattle.pooma_script.proofs.Lengths.{length_of_some}

-- the borders ascend from above a first number
abbrev pub Ascends : ℤ → List ℤ → Type 0
Ascends first [] = Unit {0}
Ascends first (border ∷ later) = (first <ℤ border) × Ascends border later

ascending_later : (x : ℤ) (xs : List ℤ) → IsAscending (x ∷ xs) → IsAscending xs
ascending_later x xs h = λ i j d below within. h (suc i) (suc j) d (omega arith) (omega arith)

ascending_from_first : (x : ℤ) (xs : List ℤ) → IsAscending (x ∷ xs) → All (λ y. x <ℤ y) xs
ascending_from_first x xs h = λ k d within. h 0 (suc k) d (omega arith) (omega arith)

pub ascends : (first : ℤ) (borders : List ℤ) → IsAscending borders → All (λ border. first <ℤ border) borders → Ascends first borders
ascends first [] ascending above = tt
ascends first (border ∷ later) ascending above =
    (All-head (λ b. first <ℤ b) border later above, ascends border later (ascending_later border later ascending) (ascending_from_first border later ascending))

-- the first part ends where the second begins
second_begins : (first border : ℤ) → first <ℤ border → first +ℤ pos (axis_length (interval first (border -ℤ pos 1))) ≡ border
second_begins first border h = omega (arith, ints, length_of_some first (border -ℤ pos 1) (omega (arith, ints)))

-- the lengths of the parts tell their borders
pub borders_by_lengths : (first : ℤ) (borders : List ℤ) (last : ℤ) → Ascends first borders → borders_from first (map axis_length (cut_at first borders last)) ≡ borders
borders_by_lengths first [] last h = refl
borders_by_lengths first (border ∷ []) last h = ap (λ x. x ∷ []) (second_begins first border h.0)
borders_by_lengths first (border ∷ next ∷ later) last h =
    ap (λ x. x ∷ borders_from x (map axis_length (cut_at border (next ∷ later) last))) (second_begins first border h.0)
    ∙ ap (λ xs. border ∷ xs) (borders_by_lengths border (next ∷ later) last h.1)

axis_ascends : (axis : CutAxis) → IsCutAxis axis → Ascends axis.physical.first axis.borders
axis_ascends axis h = ascends axis.physical.first axis.borders h.ascending (λ k d within. (h.inside k d within).0)

-- a layout of blocks
pub blocks_made : (made : List CutAxis) (blocks : List ℤ) → All IsCutAxis made
    → map part_lengths made ≡ each_of blocks_of (physical_of made) blocks
    → cut_axes (physical_of made) (block_borders (physical_of made) blocks) (internal_of made) (external_of made) ≡ made
blocks_made [] blocks valid lengths = refl
blocks_made (axis ∷ made) [] valid lengths = cc
blocks_made (axis ∷ made) (n ∷ blocks) valid lengths =
    let here : part_lengths axis ≡ blocks_of axis.physical n = cc in
    let later : map part_lengths made ≡ each_of blocks_of (physical_of made) blocks = cc in
    let borders : borders_from axis.physical.first (blocks_of axis.physical n) ≡ axis.borders =
    ap (borders_from axis.physical.first) (sym here)
    ∙ borders_by_lengths axis.physical.first axis.borders axis.physical.last (axis_ascends axis (All-head IsCutAxis axis made valid)) in
    let rest : cut_axes (physical_of made) (block_borders (physical_of made) blocks) (internal_of made) (external_of made) ≡ made =
    blocks_made made blocks (All-tail IsCutAxis axis made valid) later in
    ap (λ b. cut_axis axis.physical axis.external axis.internal b ∷ cut_axes (physical_of made) (block_borders (physical_of made) blocks) (internal_of made) (external_of made)) borders
    ∙ ap (λ l. axis ∷ l) rest

-- a layout of cuts
pub cuts_made : (made : List CutAxis) → cut_axes (physical_of made) (borders_of made) (internal_of made) (external_of made) ≡ made
cuts_made [] = refl
cuts_made (axis ∷ made) = ap (λ l. axis ∷ l) (cuts_made made)

-- the same, where the axes, blocks and guards are known by other names
pub blocks_made_of : (made : List CutAxis) (domain : List Interval) (blocks internal external : List ℤ) → All IsCutAxis made → physical_of made ≡ domain
    → internal_of made ≡ internal → external_of made ≡ external → map part_lengths made ≡ each_of blocks_of domain blocks
    → made ≡ cut_axes domain (block_borders domain blocks) internal external
blocks_made_of made domain blocks internal external valid p i e lengths =
    sym (blocks_made made blocks valid (subst (λ d. map part_lengths made ≡ each_of blocks_of d blocks) (sym p) lengths))
    ∙ ap (λ d. cut_axes d (block_borders d blocks) (internal_of made) (external_of made)) p
    ∙ ap (λ l. cut_axes domain (block_borders domain blocks) l (external_of made)) i
    ∙ ap (λ l. cut_axes domain (block_borders domain blocks) internal l) e

pub cuts_made_of : (made : List CutAxis) (domain : List Interval) (cuts : List (List ℤ)) (internal external : List ℤ) → physical_of made ≡ domain
    → internal_of made ≡ internal → external_of made ≡ external → borders_of made ≡ cuts → made ≡ cut_axes domain cuts internal external
cuts_made_of made domain cuts internal external p i e b =
    sym (cuts_made made)
    ∙ ap (λ d. cut_axes d (borders_of made) (internal_of made) (external_of made)) p
    ∙ ap (λ l. cut_axes domain l (internal_of made) (external_of made)) b
    ∙ ap (λ l. cut_axes domain cuts l (external_of made)) i
    ∙ ap (λ l. cut_axes domain cuts internal l) e
