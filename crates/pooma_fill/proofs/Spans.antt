-- The box that a box's cells make up is that box.
use Rattle.std.proofs.Common.{refl, sym, ap, ◌∙◌, subst, ⊎_elim, arith}
use Rattle.std.proofs.lemmas.Bool.{cases_lt}
use Rattle.std.proofs.lemmas.Int.{ints}
use Rattle.std.specs.Prelude.{◌≡◌, ◌↔◌, ℕ, ℤ, Some, None, List, [], ◌∷◌, length, map, slice_index_or, All, AllPairs, Contains}
use Rattle.pooma_domain.specs.Cells.{Interval, IsBefore, IsIn, IsOrdered}
use Rattle.pooma_field.proofs.SlabBoxes.{firsts_in, lasts_in}
use Rattle.pooma_fill.specs.Boxes.{between, box_of, last_of}

not_before_firsts : (box : List Interval) (c : List ℤ) → IsIn box c → IsBefore c (map (λ axis. axis.first) box) → ⊥
not_before_firsts [] [] h before = before
not_before_firsts [] (x ∷ xs) h before = h
not_before_firsts (axis ∷ axes) [] h before = before
not_before_firsts (axis ∷ axes) (x ∷ xs) h before =
    ⊎_elim (λ later. not_before_firsts axes xs h.2 later) (λ here. omega (arith, ints, h.0, here.1)) before

not_after_lasts : (box : List Interval) (c : List ℤ) → IsIn box c → IsBefore (map (λ axis. axis.last) box) c → ⊥
not_after_lasts [] c h before = before
not_after_lasts (axis ∷ axes) [] h before = h
not_after_lasts (axis ∷ axes) (x ∷ xs) h before =
    ⊎_elim (λ later. not_after_lasts axes xs h.2 later) (λ here. omega (arith, ints, h.1, here.1)) before

-- the last element, by its place
last_at : (c d : List ℤ) (cells : List (List ℤ)) → slice_index_or (c ∷ cells) (length cells) d ≡ last_of c cells
last_at c d [] = refl
last_at c d (e ∷ cells) = last_at e d cells

between_ends : (box : List Interval) → between (map (λ axis. axis.first) box) (map (λ axis. axis.last) box) ≡ box
between_ends [] = refl
between_ends (axis ∷ axes) = ap (λ (rest : List Interval). axis ∷ rest) (between_ends axes)

-- cells in order that are just those of a box make it up
pub box_is : (box : List Interval) (cells : List (List ℤ)) → All IsOrdered box → AllPairs IsBefore cells → ((c : List ℤ) → Contains cells c ↔ IsIn box c) → box_of cells ≡ Some box
box_is box [] ordered ascending members =
    absurd (let there : Contains {X = List ℤ} [] (map (λ axis. axis.first) box) = (members (map (λ axis. axis.first) box)).1 (firsts_in box ordered) in omega (arith, there.1))
box_is box (c ∷ cells) ordered ascending members =
    ap Some (ap (λ (d : List ℤ). between d (last_of c cells)) first_is ∙ ap (between (map (λ axis. axis.first) box)) last_is ∙ between_ends box)
  where
    low : List ℤ
    low = map (λ axis. axis.first) box

    high : List ℤ
    high = map (λ axis. axis.last) box

    of_low : Contains (c ∷ cells) low
    of_low = (members low).1 (firsts_in box ordered)

    of_high : Contains (c ∷ cells) high
    of_high = (members high).1 (lasts_in box ordered)

    first_inside : IsIn box c
    first_inside = (members c).0 (0, omega arith, refl)

    last_inside : IsIn box (last_of c cells)
    last_inside = (members (last_of c cells)).0 (length cells, omega arith, last_at c (last_of c cells) cells)

    first_is : c ≡ low
    first_is =
        ⊎_elim
        (λ later. absurd (not_before_firsts box c first_inside (subst (IsBefore c) of_low.2 (ascending 0 of_low.0 low later of_low.1))))
        (λ none. let here : of_low.0 ≡ 0 = omega (arith, none) in sym (ap (λ (k : ℕ). slice_index_or (c ∷ cells) k low) here) ∙ of_low.2)
        (cases_lt 0 of_low.0)

    last_is : last_of c cells ≡ high
    last_is =
        ⊎_elim
        (λ earlier. absurd (not_after_lasts box (last_of c cells) last_inside
        (subst (λ (d : List ℤ). IsBefore d (last_of c cells)) of_high.2
        (subst (IsBefore (slice_index_or (c ∷ cells) of_high.0 high)) (last_at c high cells) (ascending of_high.0 (length cells) high earlier (omega arith))))))
        (λ none. let here : of_high.0 ≡ length cells = omega (arith, none, of_high.1) in
        sym (last_at c high cells) ∙ ap (λ (k : ℕ). slice_index_or (c ∷ cells) k high) (sym here) ∙ of_high.2)
        (cases_lt of_high.0 (length cells))

pub no_box : (cells : List (List ℤ)) → ((c : List ℤ) → Contains cells c → ⊥) → box_of cells ≡ None
no_box [] none = refl
no_box (c ∷ cells) none = absurd (none c (0, omega arith, refl))
