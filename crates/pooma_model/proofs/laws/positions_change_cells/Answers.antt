use Rattle.std.specs.Prelude.{◌≡◌, ℕ, zero, suc, Some, List, [], ◌∷◌, slice_get, take}
use Rattle.pooma_domain.specs.Cells.{cells_of}
use Rattle.pooma_model.proofs.Assigned.{OfWorlds, area_after, full_after, named_at, unnamed_after}
use Rattle.pooma_model.proofs.Changing.{OfNumbers}
use Rattle.pooma_model.proofs.laws.positions_change_cells.Goals as goal

numbers : (c : goal.After-cells_apart) → OfNumbers
numbers c = record {
  set = c.numbers_of_cells.ensures.set;
  kept = c.numbers_of_cells.ensures.kept;
  area = c.numbers_of_cells.ensures.area;
  full = c.numbers_of_cells.ensures.full;
  same = c.numbers_of_cells.ensures.same;
}

worlds : (c : goal.After-cells_apart) → OfWorlds
worlds c = record { this = c.worlds_change.ensures.this; others = c.worlds_change.ensures.others }

-- what stands in a front stands in the list
in_front : {A : Type 0} (xs : List A) (n k : ℕ) (x : A) → slice_get (take n xs) k ≡ Some x → slice_get xs k ≡ Some x
in_front xs zero k x at = cc
in_front [] (suc n) k x at = at
in_front (y ∷ ys) (suc n) zero x at = at
in_front (y ∷ ys) (suc n) (suc k) x at = in_front ys n k x at

pub returns : goal.returns
returns c = record {
  named = named_at (numbers c) (worlds c) c.cells_apart.ensures.apart;
  unnamed = λ target given ps world array cell full none. unnamed_after (numbers c) (worlds c) given target ps world array cell full none;
  area = λ target given ps world array. area_after (numbers c) (worlds c) given target ps world array;
  full = λ target given ps world array full. full_after (numbers c) (worlds c) given target ps world array full;
  front = λ box n j k q at_j at_k.
      c.order_of_cells.ensures.once box q j k (in_front (cells_of box) n j q at_j) (in_front (cells_of box) n k q at_k);
}
