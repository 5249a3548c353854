-- Whether a fact holds can be told of a cell and a box, of all cells of a box, and of one of them.
use Rattle.std.proofs.Common.{◌≡◌, ◌⊎◌, inl, inr, ℕ, ◌<◌, ℤ, List, [], ◌∷◌, length, subst}
use Rattle.std.specs.Prelude.{All, Contains, slice_index_or}
use Rattle.std.proofs.lemmas.List.{get_or_default}
use Rattle.pooma_logic.specs.Decided.{Or_not}
use Rattle.pooma_logic.proofs.Decided.{all_or_not, as_or_not, at_most_ℤ_or_not, some_one_or_not, three_or_not}
use Rattle.pooma_domain.specs.Cells.{Interval, cells_of, IsIn}
use Rattle.pooma_domain.proofs.CellOrder.{cells_are_in, in_are_cells}

pub inside_or_not : (box : List Interval) (c : List ℤ) → Or_not (IsIn box c)
inside_or_not [] [] = inl tt
inside_or_not [] (x ∷ xs) = inr (λ h. h)
inside_or_not (axis ∷ axes) [] = inr (λ h. h)
inside_or_not (axis ∷ axes) (x ∷ xs) = three_or_not (at_most_ℤ_or_not axis.first x) (at_most_ℤ_or_not x axis.last) (inside_or_not axes xs)

-- what holds of each element of a list holds of one that it contains
of_contained : {X : Type 0} (P : X → Type 0) (xs : List X) (x : X) → All P xs → Contains xs x → P x
of_contained P xs x all there = subst P there.2 (all there.0 x there.1)

contained_at : {X : Type 0} (xs : List X) (k : ℕ) (d : X) → k < length xs → Contains xs (slice_index_or xs k d)
contained_at xs k d within = (k, within, get_or_default xs k (slice_index_or xs k d) d within)

-- and so of each cell of a box
pub each_cell_or_not : (box : List Interval) (P : List ℤ → Type 0) → ((c : List ℤ) → Or_not (P c)) → Or_not ((c : List ℤ) → IsIn box c → P c)
each_cell_or_not box P tell =
    as_or_not (λ all c inside. of_contained P (cells_of box) c all (in_are_cells box c inside))
    (λ each k d within. each (slice_index_or (cells_of box) k d) (cells_are_in box (slice_index_or (cells_of box) k d) (contained_at (cells_of box) k d within)))
    (all_or_not P tell (cells_of box))

-- and whether one cell of a box is so
pub some_cell_or_not : (box : List Interval) (P : List ℤ → Type 0) → ((c : List ℤ) → Or_not (P c)) → Or_not ((c : List ℤ) × IsIn box c × P c)
some_cell_or_not box P tell =
    as_or_not (λ found. (found.0, cells_are_in box found.0 found.1, found.2)) (λ found. (found.0, in_are_cells box found.0 found.1, found.2))
    (some_one_or_not P tell (cells_of box))
