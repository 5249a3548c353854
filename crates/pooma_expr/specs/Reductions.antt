-- What a reduction makes of a whole list of numbers, and how a part of the list is kept.
use Rattle.std.specs.Prelude.{◌≡◌, ℕ, Bool, not, ℤ, pos, ◌+ℤ◌, FitsSigned, Ok, List, [], ◌∷◌, length, count_by, fold}
use Rattle.std.specs.List.{list_all, list_any}
use Rattle.std.specs.Int.{w64, int_min, int_max, int_bit_and, int_bit_or}
use Rattle.std.specs.Ordering.{int_eq}
use Rattle.pooma_num.specs.Sum.{Sum}
use Rattle.pooma_expr.specs.declared.reduction.Reduction.{Reduction}
use Rattle.pooma_expr.specs.declared.reduction.Reduction.TheVariants as of
use Rattle.pooma_expr.specs.Values.{Checked, exact, truth}

-- whether a number is not 0
abbrev pub is_set : ℤ → Bool
is_set x = not (int_eq x (pos 0))

-- the sum of all
abbrev pub sum_of : List ℤ → ℤ
sum_of xs = fold (λ x y. x +ℤ y) (pos 0) xs

-- what an operator makes of all, one after another; 0 where there is none
abbrev pub join_all : (ℤ → ℤ → ℤ) → List ℤ → ℤ
join_all f [] = pos 0
join_all f (x ∷ xs) = fold f x xs

-- the result of a reduction over a list that has a number
abbrev pub result_over : Reduction → List ℤ → Checked
result_over of.Sum xs = exact (sum_of xs)
result_over of.Min xs = Ok (join_all int_min xs)
result_over of.Max xs = Ok (join_all int_max xs)
result_over of.All xs = truth (list_all is_set xs)
result_over of.Any xs = truth (list_any is_set xs)
result_over of.Count xs = Ok (pos (count_by is_set xs))
result_over of.BitAnd xs = Ok (join_all (int_bit_and w64) xs)
result_over of.BitOr xs = Ok (join_all (int_bit_or w64) xs)

-- what is kept of a part of the list: the sum and how many they are, how many are not 0, and what the reduction joins of them
pub record Kept : Type 0 where
  pub reduction : Reduction
  pub total : Sum
  pub set : ℕ
  pub joined : ℤ

-- what is joined of two numbers; the first, where the reduction does not join them
abbrev pub join_of : Reduction → ℤ → ℤ → ℤ
join_of of.Min x y = int_min x y
join_of of.Max x y = int_max x y
join_of of.BitAnd x y = int_bit_and w64 x y
join_of of.BitOr x y = int_bit_or w64 x y
join_of _ x y = x

-- all are numbers of 64 bits
abbrev pub AllFit : List ℤ → Type 0
AllFit [] = Unit {0}
AllFit (x ∷ xs) = FitsSigned w64 x × AllFit xs

-- what is kept is that of this list
pub record StandsFor (xs : List ℤ) (kept : Kept) : Type 0 where
  pub fit : AllFit xs
  pub total : kept.total ≡ record { number = sum_of xs; count = length xs }
  pub set : kept.set ≡ count_by is_set xs
  pub joined : kept.joined ≡ join_all (join_of kept.reduction) xs
