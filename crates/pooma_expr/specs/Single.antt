-- Codes of one operation on two operands.
use Rattle.std.specs.Prelude.{ℕ, ℤ, Bool, true, false, ◌||◌, ◌&&◌, if◌then◌else◌, Option, Some, None, List, [], ◌∷◌}
use Rattle.pooma_expr.specs.declared.operation.Operation.{Operation}
use Rattle.pooma_expr.specs.declared.operation.Operation.TheVariants.{Push, PushRead, Apply}
use Rattle.pooma_expr.specs.declared.single.Operand.{Operand}
use Rattle.pooma_expr.specs.declared.single.Operand.TheVariants.{Read, Literal}
use Rattle.pooma_expr.specs.declared.single.Single.{Single}
use Rattle.pooma_expr.specs.declared.tree.Op.{Op}
use Rattle.pooma_expr.specs.declared.tree.Op.TheVariants as op

-- a read or a literal
abbrev pub operand_of : Operation → Option Operand
operand_of (Push x) = Some (Literal x)
operand_of (PushRead read) = Some (Read read)
operand_of o = None

-- whether it is a sum, a difference, a minimum, a maximum or a comparison
abbrev pub is_by_rows : Op → Bool
is_by_rows op.Mul = false
is_by_rows op.Div = false
is_by_rows op.Rem = false
is_by_rows op.BitAnd = false
is_by_rows op.BitOr = false
is_by_rows o = true

abbrev pub is_read : Operand → Bool
is_read (Read read) = true
is_read (Literal x) = false

-- the operator on two operands, of which one is a read
abbrev pub both_of : Option Operand → Option Operand → Op → Option Single
both_of (Some left) (Some right) o =
    if is_by_rows o && (is_read left || is_read right) then Some (record { op = o; left = left; right = right }) else None
both_of left right o = None

abbrev pub last_of : Option Operand → Option Operand → Operation → Option Single
last_of left right (Apply o) = both_of left right o
last_of left right o = None

-- the one operation that these are: two operands, and an operator
abbrev pub single_of : List Operation → Option Single
single_of (a ∷ b ∷ o ∷ []) = last_of (operand_of a) (operand_of b) o
single_of os = None

-- the number of an operand, where each read has this number
abbrev pub operand_number : (ℕ → ℤ) → Operand → ℤ
operand_number number (Read read) = number read
operand_number number (Literal x) = x
