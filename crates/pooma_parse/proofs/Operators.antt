-- Which operator comes next, and what may stand behind an operand.
use Rattle.std.proofs.Common.{◌≡◌, ◌⊎◌, zero, suc, true, List, [], ◌∷◌, Option, Some, None, refl, subst, inl, inr, arith, codes, Contains}
use Rattle.pooma_text.specs.declared.span.Span.{Span}
use Rattle.pooma_text.specs.declared.token.TokenKind.TheVariants.{Sign}
use Rattle.pooma_parse.specs.declared.form.RawOp.{RawOp}
use Rattle.pooma_parse.specs.Expressions.{Level, ADD, AND, COMPARE, EXPR, MUL, PRIMARY, UNARY, IsRepeated, add_of_muls, and_of_compares, expr_of_ands, mul_of_unaries, operator_text, operators}
use Rattle.pooma_parse.specs.Languages.{sign}
use Rattle.pooma_parse.specs.Reader.{Reader, begins, begins_sign, behind, by_operator, operator_among, operator_at}
use Rattle.pooma_parse.specs.Tokens.{Lexeme, sign_token}
use Rattle.pooma_parse.proofs.Atoms.{begins_is}
use Rattle.pooma_parse.proofs.Commas.{Before, NoSign}
use Rattle.pooma_parse.proofs.Exact.{Begins, if_cases, some_same}

-- What may stand behind a phrase of a level: no operator of it or of a tighter level, and no opening sign.
abbrev pub AfterUnary : List Lexeme → Type 0
AfterUnary rest = NoSign (codes "(") rest × NoSign (codes "[") rest

abbrev pub AfterMul : List Lexeme → Type 0
AfterMul rest = (operator_at MUL rest ≡ None) × AfterUnary rest

abbrev pub AfterAdd : List Lexeme → Type 0
AfterAdd rest = (operator_at ADD rest ≡ None) × AfterMul rest

abbrev pub AfterCompare : List Lexeme → Type 0
AfterCompare rest = (operator_at COMPARE rest ≡ None) × AfterAdd rest

abbrev pub AfterAnd : List Lexeme → Type 0
AfterAnd rest = (operator_at AND rest ≡ None) × AfterCompare rest

abbrev pub AfterExpr : List Lexeme → Type 0
AfterExpr rest = (operator_at EXPR rest ≡ None) × AfterAnd rest

abbrev pub Follows : Level → List Lexeme → Type 0
Follows EXPR = AfterExpr
Follows AND = AfterAnd
Follows COMPARE = AfterCompare
Follows ADD = AfterAdd
Follows MUL = AfterMul
Follows UNARY = AfterUnary
Follows PRIMARY = AfterUnary

pub no_operator : {level operand : Level} → IsRepeated level operand → (rest : List Lexeme) → Follows level rest → operator_at level rest ≡ None
no_operator expr_of_ands rest f = f.0
no_operator and_of_compares rest f = f.0
no_operator add_of_muls rest f = f.0
no_operator mul_of_unaries rest f = f.0

pub follows_operand : {level operand : Level} → IsRepeated level operand → (rest : List Lexeme) → Follows level rest → Follows operand rest
follows_operand expr_of_ands rest f = f.1
follows_operand and_of_compares rest f = f.1
follows_operand add_of_muls rest f = f.1
follows_operand mul_of_unaries rest f = f.1

-- an expression may end before these signs, and with the line
pub closes : Before (codes ")") (Follows EXPR)
unfolding operator_at begins
closes span rest = (refl, (refl, (refl, (refl, (refl, (refl, refl))))))

pub before_comma : Before (codes ",") (Follows EXPR)
unfolding operator_at begins
before_comma span rest = (refl, (refl, (refl, (refl, (refl, (refl, refl))))))

pub at_end : Follows EXPR []
unfolding operator_at begins
at_end = (refl, (refl, (refl, (refl, (refl, (refl, refl))))))

-- ---- operators

-- an operator that comes next is found, and what stands before it may be an operand
abbrev Stands : Level → Level → RawOp → Type 0
Stands level operand o = (span : Span) (rest : List Lexeme)
    → (operator_at level (sign_token (operator_text o) span ∷ rest) ≡ Some o) × Follows operand (sign_token (operator_text o) span ∷ rest)

pub operator_stands : {level operand : Level} → IsRepeated level operand → (o : RawOp) → Contains (operators level) o → Stands level operand o
unfolding operator_at begins
operator_stands expr_of_ands o (zero, lt, e) = subst (Stands EXPR AND) e (λ span rest. (refl, (refl, (refl, (refl, (refl, (refl, refl)))))))
operator_stands expr_of_ands o (suc k, lt, e) = absurd (omega arith)
operator_stands and_of_compares o (zero, lt, e) = subst (Stands AND COMPARE) e (λ span rest. (refl, (refl, (refl, (refl, (refl, refl))))))
operator_stands and_of_compares o (suc k, lt, e) = absurd (omega arith)
operator_stands add_of_muls o (zero, lt, e) = subst (Stands ADD MUL) e (λ span rest. (refl, (refl, (refl, refl))))
operator_stands add_of_muls o (suc zero, lt, e) = subst (Stands ADD MUL) e (λ span rest. (refl, (refl, (refl, refl))))
operator_stands add_of_muls o (suc (suc k), lt, e) = absurd (omega arith)
operator_stands mul_of_unaries o (zero, lt, e) = subst (Stands MUL UNARY) e (λ span rest. (refl, (refl, refl)))
operator_stands mul_of_unaries o (suc zero, lt, e) = subst (Stands MUL UNARY) e (λ span rest. (refl, (refl, refl)))
operator_stands mul_of_unaries o (suc (suc zero), lt, e) = subst (Stands MUL UNARY) e (λ span rest. (refl, (refl, refl)))
operator_stands mul_of_unaries o (suc (suc (suc k)), lt, e) = absurd (omega arith)

pub comparison_stands : (o : RawOp) → Contains (operators COMPARE) o → Stands COMPARE ADD o
unfolding operator_at begins
comparison_stands o (zero, lt, e) = subst (Stands COMPARE ADD) e (λ span rest. (refl, (refl, (refl, (refl, refl)))))
comparison_stands o (suc zero, lt, e) = subst (Stands COMPARE ADD) e (λ span rest. (refl, (refl, (refl, (refl, refl)))))
comparison_stands o (suc (suc zero), lt, e) = subst (Stands COMPARE ADD) e (λ span rest. (refl, (refl, (refl, (refl, refl)))))
comparison_stands o (suc (suc (suc zero)), lt, e) = subst (Stands COMPARE ADD) e (λ span rest. (refl, (refl, (refl, (refl, refl)))))
comparison_stands o (suc (suc (suc (suc zero))), lt, e) = subst (Stands COMPARE ADD) e (λ span rest. (refl, (refl, (refl, (refl, refl)))))
comparison_stands o (suc (suc (suc (suc (suc zero)))), lt, e) = subst (Stands COMPARE ADD) e (λ span rest. (refl, (refl, (refl, (refl, refl)))))
comparison_stands o (suc (suc (suc (suc (suc (suc k))))), lt, e) = absurd (omega arith)

-- an operator that was found is one of the level's, and comes next
pub operator_among_is : (ops : List RawOp) (tokens : List Lexeme) (o : RawOp) → operator_among ops tokens ≡ Some o
    → Contains ops o × (begins_sign (operator_text o) tokens ≡ true)
operator_among_is [] tokens o e = absurd (cc)
operator_among_is (x ∷ ops) tokens o e = elim (if_cases (begins_sign (operator_text x) tokens) e) [
  | inl so ↦
      let same = some_same so.1 in
      ((zero, omega arith, same), subst (λ y. begins_sign (operator_text y) tokens ≡ true) same so.0)
  | inr other ↦
      let found = operator_among_is ops tokens o other.1 in
      ((suc found.0.0, omega arith, found.0.2), found.1)
]

pub operator_is : (level : Level) (tokens : List Lexeme) (o : RawOp) → operator_at level tokens ≡ Some o
    → Contains (operators level) o × Begins (sign (operator_text o)) tokens (behind tokens)
unfolding operator_at
operator_is level tokens o e =
    let found = operator_among_is (operators level) tokens o e in (found.0, begins_is Sign (operator_text o) tokens found.1)

-- what is read by whether an operator comes next
pub by_cases : {A : Type 0} (o : Option RawOp) (some : RawOp → Reader A) (none : Reader A) (tokens : List Lexeme) {r : Option (A × List Lexeme)}
    → by_operator o some none tokens ≡ r → ((o ≡ None) × (none tokens ≡ r)) ⊎ ((x : RawOp) × (o ≡ Some x) × (some x (behind tokens) ≡ r))
by_cases None some none tokens e = inl (refl, e)
by_cases (Some x) some none tokens e = inr (x, refl, e)
