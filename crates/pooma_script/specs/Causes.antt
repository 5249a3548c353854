-- The causes for which a line is refused, in their order.
use Rattle.std.specs.Prelude.{◌≡◌, ◌⊎◌, List, [], ◌∷◌, map, Option, None, Some}
use Rattle.pooma_script.specs.declared.cause.Cause.{Cause}
use Rattle.pooma_script.specs.declared.cause.Cause.TheVariants as cause
use Rattle.pooma_script.specs.Limits.{line_limits}

-- the causes that a line may have, the least first
abbrev pub line_causes : List Cause
line_causes =
    cause.Syntax ∷ cause.Name ∷ cause.Dimension ∷ cause.Empty ∷ cause.Outside ∷ cause.Unequal ∷ cause.Overlap ∷ map cause.Limit line_limits

-- The first of a list whose test is not passed, or none where all are passed.
abbrev pub IsFirstFailed : {A : Type 0} → (A → Type 0) → List A → Option A → Type 0
IsFirstFailed Passes [] found = found ≡ None
IsFirstFailed Passes (x ∷ xs) found = (Passes x × IsFirstFailed Passes xs found) ⊎ ((Passes x → ⊥) × (found ≡ Some x))
