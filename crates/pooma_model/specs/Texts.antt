-- What prints and faults write.
use Rattle.std.specs.Prelude.{ℕ, ℤ, List, [], ◌∷◌, ◌++◌, map, flat_map, codes, decimal}
use Rattle.std.specs.List.{join_with_byte}
use Rattle.std.specs.Fmt.{signed_decimal}
use Rattle.pooma_domain.specs.Cells.{Interval, cells_of, coordinates}
use Rattle.pooma_num.specs.declared.fault.FaultKind.{FaultKind}
use Rattle.pooma_num.specs.declared.fault.FaultKind.TheVariants.{Overflow, ZeroDivisor}
use Rattle.pooma_model.specs.Assigning.{Place, Position, Sum, Fault}

-- the numbers with a space between each two, and a line end
abbrev pub row_text : List ℤ → List ℕ
row_text numbers = join_with_byte 32 (map signed_decimal numbers) ++ 10 ∷ []

-- A line for each row along the first axis, the rows in the order of the cells of the other axes. No axes: one line.
abbrev pub view_text : (List ℤ → ℤ) → List Interval → List ℕ
view_text number [] = row_text (number [] ∷ [])
view_text number (axis ∷ axes) = flat_map (λ rest. row_text (map (λ x. number (x ∷ rest)) (coordinates axis))) (cells_of axes)

abbrev pub place_text : Place → List ℕ
place_text (Position p) = codes "(" ++ join_with_byte 44 (map signed_decimal p) ++ codes ")"
place_text Sum = codes "sum"

abbrev pub kind_text : FaultKind → List ℕ
kind_text Overflow = codes "overflow"
kind_text ZeroDivisor = codes "zero divisor"

abbrev pub fault_text : ℕ → Fault → List ℕ
fault_text line fault =
    codes "fault line " ++ decimal line ++ codes " at " ++ place_text fault.place ++ codes ": " ++ kind_text fault.kind ++ 10 ∷ []
