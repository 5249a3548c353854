-- What a code of one operation comes to.
use Rattle.std.proofs.Common.{refl, sym, ◌∙◌}
use Rattle.std.specs.Prelude.{◌≡◌, ℕ, ℤ, Bool, true, false, ◌||◌, ◌&&◌, if◌then◌else◌, IfSome, Option, Some, None, Ok, Err, List, [], ◌∷◌}
use Rattle.pooma_expr.specs.declared.operation.Operation.{Operation}
use Rattle.pooma_expr.specs.declared.operation.Operation.TheVariants.{Push, PushRead, Apply}
use Rattle.pooma_expr.specs.declared.single.Operand.TheVariants.{Read, Literal}
use Rattle.pooma_expr.specs.declared.single.Single.{Single}
use Rattle.pooma_expr.specs.declared.tree.Expr.{Expr}
use Rattle.pooma_expr.specs.declared.tree.Op.{Op}
use Rattle.pooma_expr.specs.Code.{emitted}
use Rattle.pooma_expr.specs.Machine.{outcome, push, then_on}
use Rattle.pooma_expr.specs.Reads.{AgreeWith}
use Rattle.pooma_expr.specs.Single.{is_by_rows, last_of, operand_of, operand_number, single_of}
use Rattle.pooma_expr.specs.Trees.{views_of}
use Rattle.pooma_expr.specs.Values.{Checked, Contents, result_of, value}
use Rattle.pooma_expr.proofs.Correct.{code_comes}

-- the operations come to the operation on its operands
abbrev pub ComesTo : List Operation → Single → Type 0
ComesTo os s = (number : ℕ → ℤ) (p : List ℤ) → outcome number p os 0 [] ≡ result_of s.op (operand_number number s.left) (operand_number number s.right)

ends : (number : ℕ → ℤ) (p : List ℤ) (r : Checked) → then_on (push r []) (outcome number p []) ≡ r
ends number p (Ok x) = refl
ends number p (Err fault) = refl

where_some : (b : Bool) (s : Single) (P : Single → Type 0) → P s → IfSome (if b then Some s else None) P
where_some true s P h = h
where_some false s P h = tt

apply_comes : (a b : Operation) (o : Op) → IfSome (last_of (operand_of a) (operand_of b) (Apply o)) (ComesTo (a ∷ b ∷ Apply o ∷ []))
apply_comes (Push x) (Push y) o =
    where_some (is_by_rows o && (false || false)) (record { op = o; left = Literal x; right = Literal y }) (ComesTo (Push x ∷ Push y ∷ Apply o ∷ [])) (λ number p. ends number p (result_of o x y))
apply_comes (Push x) (PushRead j) o =
    where_some (is_by_rows o && (false || true)) (record { op = o; left = Literal x; right = Read j }) (ComesTo (Push x ∷ PushRead j ∷ Apply o ∷ [])) (λ number p. ends number p (result_of o x (number j)))
apply_comes (PushRead i) (Push y) o =
    where_some (is_by_rows o && (true || false)) (record { op = o; left = Read i; right = Literal y }) (ComesTo (PushRead i ∷ Push y ∷ Apply o ∷ [])) (λ number p. ends number p (result_of o (number i) y))
apply_comes (PushRead i) (PushRead j) o =
    where_some (is_by_rows o && (true || true)) (record { op = o; left = Read i; right = Read j }) (ComesTo (PushRead i ∷ PushRead j ∷ Apply o ∷ [])) (λ number p. ends number p (result_of o (number i) (number j)))
apply_comes a b o = tt

three_come : (a b o : Operation) → IfSome (last_of (operand_of a) (operand_of b) o) (ComesTo (a ∷ b ∷ o ∷ []))
three_come a b (Apply o) = apply_comes a b o
three_come a b o = tt

single_comes : (os : List Operation) → IfSome (single_of os) (ComesTo os)
single_comes (a ∷ b ∷ o ∷ []) = three_come a b o
single_comes os = tt

some_so : (o : Option Single) (P Q : Single → Type 0) → ((s : Single) → P s → Q s) → IfSome o P → IfSome o Q
some_so (Some s) P Q f h = f s h
some_so None P Q f h = tt

abbrev pub HasValue : Expr → Single → Type 0
HasValue e s = (has : Contents) (p : List ℤ) (number : ℕ → List ℤ → ℤ) → AgreeWith has (views_of e) p number
    → value [] has e p ≡ result_of s.op (operand_number (λ read. number read p) s.left) (operand_number (λ read. number read p) s.right)

pub single_value : (e : Expr) → IfSome (single_of (emitted e 0).operations) (HasValue e)
single_value e =
    some_so (single_of (emitted e 0).operations) (ComesTo (emitted e 0).operations) (HasValue e)
    (λ s h has p number agree. sym (code_comes number has p e agree) ∙ h (λ read. number read p) p)
    (single_comes (emitted e 0).operations)
