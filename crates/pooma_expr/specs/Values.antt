-- The value of an expression at a position: its number, or the fault that is met first from left to right.
use Rattle.std.specs.Prelude.{◌^◌, Bool, not, ℤ, pos, negsuc, neg_ℤ, ◌+ℤ◌, ◌-ℤ◌, ◌*ℤ◌, nat_lt, int_lt, int_le, int_div, int_rem, unsigned_abs, if◌then◌else◌, Result, Ok, Err, List, slice_index_or}
use Rattle.std.specs.Int.{w64, int_min, int_max, int_bit_and, int_bit_or}
use Rattle.std.specs.Ordering.{int_eq}
use Rattle.pooma_num.specs.declared.fault.FaultKind.{FaultKind}
use Rattle.pooma_num.specs.declared.fault.FaultKind.TheVariants.{Overflow, ZeroDivisor}
use Rattle.pooma_view.specs.Slots.{cell_named}
use Rattle.pooma_view.specs.Views.{Viewed}
use Rattle.pooma_expr.specs.declared.tree.Expr.{Expr}
use Rattle.pooma_expr.specs.declared.tree.Expr.TheOpen.{Expr-F}
use Rattle.pooma_expr.specs.declared.tree.Expr.TheFolds.{fold-Expr}
use Rattle.pooma_expr.specs.declared.tree.Op.{Op}
use Rattle.pooma_expr.specs.declared.tree.Op.TheVariants as op

-- a number, or the fault that stands in its place
abbrev pub Checked : Type 0
Checked = Result ℤ FaultKind

-- whether the number fits 64 bits
abbrev pub fits : ℤ → Bool
fits (pos n) = nat_lt n (2 ^ 63)
fits (negsuc n) = nat_lt n (2 ^ 63)

-- the whole number, or the overflow where it does not fit
abbrev pub exact : ℤ → Checked
exact z = if fits z then Ok z else Err Overflow

-- what is made of a number, or its fault
abbrev pub and_then : Checked → (ℤ → Checked) → Checked
and_then (Ok x) f = f x
and_then (Err fault) f = Err fault

-- the fault of a divisor that is 0, and else this
abbrev pub divided_by : ℤ → Checked → Checked
divided_by y result = if int_eq y (pos 0) then Err ZeroDivisor else result

-- a test as a number
abbrev pub truth : Bool → Checked
truth b = Ok (if b then pos 1 else pos 0)

-- what an operator makes of two numbers
abbrev pub result_of : Op → ℤ → ℤ → Checked
result_of op.Add x y = exact (x +ℤ y)
result_of op.Sub x y = exact (x -ℤ y)
result_of op.Mul x y = exact (x *ℤ y)
result_of op.Div x y = divided_by y (exact (int_div x y))
result_of op.Rem x y = divided_by y (exact (int_rem x y))
result_of op.Min x y = Ok (int_min x y)
result_of op.Max x y = Ok (int_max x y)
result_of op.Less x y = truth (int_lt x y)
result_of op.LessEq x y = truth (int_le x y)
result_of op.Greater x y = truth (int_lt y x)
result_of op.GreaterEq x y = truth (int_le y x)
result_of op.Equal x y = truth (int_eq x y)
result_of op.Unequal x y = truth (not (int_eq x y))
result_of op.BitAnd x y = Ok (int_bit_and w64 x y)
result_of op.BitOr x y = Ok (int_bit_or w64 x y)

-- what the array of a view has at a cell
abbrev pub Contents : Type 0
Contents = Viewed → List ℤ → ℤ

-- the value of an expression, where those of its operands are known
abbrev pub value_by : List ℤ → Contents → List ℤ → Expr-F Checked → Checked
value_by scalars has p (Expr-F.Literal x) = Ok x
value_by scalars has p (Expr-F.Scalar number) = Ok (slice_index_or scalars number (pos 0))
value_by scalars has p (Expr-F.Index axis) = Ok (slice_index_or p axis (pos 0))
value_by scalars has p (Expr-F.Read v) = Ok (has v (cell_named v.slots p))
value_by scalars has p (Expr-F.Neg a) = and_then a (λ x. exact (neg_ℤ x))
value_by scalars has p (Expr-F.Abs a) = and_then a (λ x. exact (pos (unsigned_abs x)))
value_by scalars has p (Expr-F.Bin o a b) = and_then a (λ x. and_then b (λ y. result_of o x y))
value_by scalars has p (Expr-F.Where c a b) = and_then c (λ x. if int_eq x (pos 0) then b else a)

-- the value of an expression at a position, where the scalars have these numbers
abbrev pub value : List ℤ → Contents → Expr → List ℤ → Checked
value scalars has e p = fold-Expr Checked (value_by scalars has p) e
