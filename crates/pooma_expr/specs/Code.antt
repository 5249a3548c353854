-- The operations of an expression.
use Rattle.std.specs.Prelude.{ℕ, ◌+◌, max, pos, List, [], ◌∷◌, ◌++◌, length}
use Rattle.pooma_expr.specs.declared.tree.Expr.{Expr}
use Rattle.pooma_expr.specs.declared.tree.Expr.TheOpen.{Expr-F}
use Rattle.pooma_expr.specs.declared.tree.Expr.TheFolds.{fold-Expr}
use Rattle.pooma_expr.specs.declared.operation.Operation.{Operation}
use Rattle.pooma_expr.specs.declared.operation.Operation.TheVariants.{Push, PushIndex, PushRead, Negate, Absolute, Apply, SkipIfZero, Skip}

-- operations, and the number of the next read after them
pub record Emitted : Type 0 where
  pub operations : List Operation
  pub next : ℕ

-- both operands, and then an operation
abbrev pub both_code : Emitted → Emitted → Operation → Emitted
both_code a b o = record { operations = a.operations ++ (b.operations ++ o ∷ []); next = b.next }

-- an operand, and then an operation
abbrev pub one_code : Emitted → Operation → Emitted
one_code a o = record { operations = a.operations ++ o ∷ []; next = a.next }

-- a leaf
abbrev pub leaf_code : Operation → ℕ → Emitted
leaf_code o next = record { operations = o ∷ []; next = next }

-- the test, a jump past the first choice, the first choice with a jump past the second, and the second
abbrev pub choice_code : List Operation → List Operation → List Operation → List Operation
choice_code test a b = test ++ (SkipIfZero (length a + 1) ∷ (a ++ (Skip (length b) ∷ b)))

-- the operations where those of the operands are known, with reads numbered from this one on
abbrev pub emitted_by : Expr-F (ℕ → Emitted) → ℕ → Emitted
emitted_by (Expr-F.Literal x) k = leaf_code (Push x) k
emitted_by (Expr-F.Scalar number) k = leaf_code (Push (pos 0)) k
emitted_by (Expr-F.Index axis) k = leaf_code (PushIndex axis) k
emitted_by (Expr-F.Read v) k = leaf_code (PushRead k) (k + 1)
emitted_by (Expr-F.Neg a) k = one_code (a k) Negate
emitted_by (Expr-F.Abs a) k = one_code (a k) Absolute
emitted_by (Expr-F.Bin o a b) k = both_code (a k) (b (a k).next) (Apply o)
emitted_by (Expr-F.Where c a b) k =
    record {
      operations = choice_code (c k).operations (a (c k).next).operations (b (a (c k).next).next).operations;
      next = (b (a (c k).next).next).next;
    }

-- the operations of an expression, with its reads numbered from this one on
abbrev pub emitted : Expr → ℕ → Emitted
emitted = fold-Expr (ℕ → Emitted) emitted_by

abbrev pub places_by : Expr-F ℕ → ℕ
places_by (Expr-F.Neg a) = a
places_by (Expr-F.Abs a) = a
places_by (Expr-F.Bin o a b) = max a (b + 1)
places_by (Expr-F.Where c a b) = max c (max a b)
places_by e = 1

-- how high the stack gets
abbrev pub places_of : Expr → ℕ
places_of = fold-Expr ℕ places_by
