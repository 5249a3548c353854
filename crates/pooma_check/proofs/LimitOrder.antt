-- The limits that are looked at before the line's action is made.
use Rattle.std.proofs.Common.{inl, inr, List, [], ◌∷◌, ◌++◌, Some}
use Rattle.pooma_script.specs.Causes.{IsFirstFailed}
use Rattle.pooma_script.specs.declared.cause.LimitName.{LimitName}
use Rattle.pooma_script.specs.declared.cause.LimitName.TheVariants as limit

abbrev pub early_limits : List LimitName
early_limits =
    limit.Lines ∷ limit.Name ∷ limit.Arrays ∷ limit.Coordinate ∷ limit.Patches ∷ limit.Guards ∷ limit.Extents ∷ limit.ArrayCells
    ∷ limit.AllocatedCells ∷ limit.Views ∷ limit.Depth ∷ limit.Repeats ∷ []

-- what is found in the front of a list is found in the whole
pub found_in_front : {A : Type 0} (P : A → Type 0) (front back : List A) (x : A) → IsFirstFailed P front (Some x) → IsFirstFailed P (front ++ back) (Some x)
found_in_front P [] back x h = cc
found_in_front P (y ∷ front) back x (inl h) = inl (h.0, found_in_front P front back x h.1)
found_in_front P (y ∷ front) back x (inr h) = inr h
