-- The expressions of a line and of a stencil's body, one constructor for a case of a production.
use Rattle.std.specs.Prelude.{◌≡◌, ℕ, suc, max, ℤ, List, [], ◌∷◌, codes, Contains}
use Rattle.pooma_text.specs.declared.span.Span.{Span}
use Rattle.pooma_parse.specs.declared.expression.Place.{Place}
use Rattle.pooma_parse.specs.declared.expression.Place.TheVariants.{InBody, InLine}
use Rattle.pooma_parse.specs.declared.form.RawExpr.{RawExpr}
use Rattle.pooma_parse.specs.declared.form.RawExpr.TheVariants as tree
use Rattle.pooma_parse.specs.declared.form.RawOp.{RawOp}
use Rattle.pooma_parse.specs.declared.form.RawOp.TheVariants as op
use Rattle.pooma_parse.specs.declared.form.RawView.{RawView}
use Rattle.pooma_parse.specs.Languages.{INT, NUM, SMALL, just, listed, name, nothing, parens, sign, word, ◌⨾◌}
use Rattle.pooma_parse.specs.Lists.{VIEW}
use Rattle.pooma_parse.specs.Tokens.{Lexeme}

-- the productions of expressions, from the loosest operators to the tightest
pub data Level : Type 0 where
  EXPR : Level
  AND : Level
  COMPARE : Level
  ADD : Level
  MUL : Level
  UNARY : Level
  PRIMARY : Level

-- the operators of a production
abbrev pub operators : Level → List RawOp
operators EXPR = op.BitOr ∷ []
operators AND = op.BitAnd ∷ []
operators COMPARE = op.Less ∷ op.LessEq ∷ op.Greater ∷ op.GreaterEq ∷ op.Equal ∷ op.Unequal ∷ []
operators ADD = op.Add ∷ op.Sub ∷ []
operators MUL = op.Mul ∷ op.Div ∷ op.Rem ∷ []
operators UNARY = []
operators PRIMARY = []

-- how an operator is written; `min` and `max` are no signs
abbrev pub operator_text : RawOp → List ℕ
operator_text op.Add = codes "+"
operator_text op.Sub = codes "-"
operator_text op.Mul = codes "*"
operator_text op.Div = codes "/"
operator_text op.Rem = codes "%"
operator_text op.Min = codes "min"
operator_text op.Max = codes "max"
operator_text op.Less = codes "<"
operator_text op.LessEq = codes "<="
operator_text op.Greater = codes ">"
operator_text op.GreaterEq = codes ">="
operator_text op.Equal = codes "=="
operator_text op.Unequal = codes "!="
operator_text op.BitAnd = codes "&"
operator_text op.BitOr = codes "|"

-- `min` and `max` of two, which are written with their words
abbrev pub of_two : List RawOp
of_two = op.Min ∷ op.Max ∷ []

-- the production of the operands of one whose operators may be repeated
pub data IsRepeated : Level → Level → Type 0 where
  expr_of_ands : IsRepeated EXPR AND
  and_of_compares : IsRepeated AND COMPARE
  add_of_muls : IsRepeated ADD MUL
  mul_of_unaries : IsRepeated MUL UNARY

mutual
  -- tokens that spell a tree by a production
  pub data Says (place : Place) : Level → List Lexeme → RawExpr → Type 0 where
    -- EXPR, AND, ADD, MUL: X { one of the operators, X }
    repeated : {level operand : Level} {front back tokens : List Lexeme} {first whole : RawExpr}
        → IsRepeated level operand → Says place operand front first → Behind place level operand first back whole
        → (just front ⨾ just back) tokens → Says place level tokens whole
    -- COMPARE: ADD [ one of the operators, ADD ]
    alone : {tokens : List Lexeme} {only : RawExpr} → Says place ADD tokens only → Says place COMPARE tokens only
    compared : {front back tokens : List Lexeme} {left right : RawExpr} (op : RawOp)
        → Says place ADD front left → Contains (operators COMPARE) op → Says place ADD back right
        → (just front ⨾ sign (operator_text op) ⨾ just back) tokens → Says place COMPARE tokens (tree.Bin op left right)
    -- UNARY: `-` UNARY, or PRIMARY
    minus : {back tokens : List Lexeme} {operand : RawExpr}
        → Says place UNARY back operand → (sign (codes "-") ⨾ just back) tokens → Says place UNARY tokens (tree.Neg operand)
    primary : {tokens : List Lexeme} {only : RawExpr} → Says place PRIMARY tokens only → Says place UNARY tokens only
    -- PRIMARY: NUM
    literal : {tokens : List Lexeme} (n : ℤ) → NUM n tokens → Says place PRIMARY tokens (tree.Number n)
    -- `(` EXPR `)`, or `(` BODY `)` in a body, and so below
    group : {inside tokens : List Lexeme} {only : RawExpr}
        → Says place EXPR inside only → parens (just inside) tokens → Says place PRIMARY tokens only
    -- `abs(` EXPR `)`
    absolute : {inside tokens : List Lexeme} {only : RawExpr}
        → Says place EXPR inside only → (word (codes "abs") ⨾ parens (just inside)) tokens → Says place PRIMARY tokens (tree.Abs only)
    -- `min(` EXPR `,` EXPR `)`, `max(` EXPR `,` EXPR `)`
    of_both : {front back tokens : List Lexeme} {left right : RawExpr} (op : RawOp)
        → Contains of_two op → Says place EXPR front left → Says place EXPR back right
        → (word (operator_text op) ⨾ parens (just front ⨾ sign (codes ",") ⨾ just back)) tokens → Says place PRIMARY tokens (tree.Bin op left right)
    -- `where(` EXPR `,` EXPR `,` EXPR `)`
    choice : {test yes_tokens no_tokens tokens : List Lexeme} {condition then_value else_value : RawExpr}
        → Says place EXPR test condition → Says place EXPR yes_tokens then_value → Says place EXPR no_tokens else_value
        → (word (codes "where") ⨾ parens (just test ⨾ sign (codes ",") ⨾ just yes_tokens ⨾ sign (codes ",") ⨾ just no_tokens)) tokens
        → Says place PRIMARY tokens (tree.Where condition then_value else_value)
    -- in a line: `index(` SMALL `)`
    index : {tokens : List Lexeme} (axis : ℤ) → place ≡ InLine → (word (codes "index") ⨾ parens (SMALL axis)) tokens → Says place PRIMARY tokens (tree.Index axis)
    -- in a line: VIEW
    view : {tokens : List Lexeme} (seen : RawView) → place ≡ InLine → VIEW seen tokens → Says place PRIMARY tokens (tree.View seen)
    -- in a line: NAME `(` VIEW `)`
    apply : {tokens : List Lexeme} (stencil : Span) (seen : RawView) → place ≡ InLine
        → (name stencil ⨾ parens (VIEW seen)) tokens → Says place PRIMARY tokens (tree.Apply stencil seen)
    -- in a body: `@(` INT { `,` INT } `)`
    at : {tokens : List Lexeme} (offset : List ℤ) → place ≡ InBody → (sign (codes "@") ⨾ parens (listed INT offset)) tokens → Says place PRIMARY tokens (tree.At offset)

  -- { one of the operators, X }: with the tree of what stands before, and the tree of all; operators group to the left
  pub data Behind (place : Place) : Level → Level → RawExpr → List Lexeme → RawExpr → Type 0 where
    no_more : {level operand : Level} {tokens : List Lexeme} {before : RawExpr} → nothing tokens → Behind place level operand before tokens before
    one_more : {level operand : Level} {front back tokens : List Lexeme} {before next whole : RawExpr} (op : RawOp)
        → Contains (operators level) op → Says place operand front next → Behind place level operand (tree.Bin op before next) back whole
        → (sign (operator_text op) ⨾ just front ⨾ just back) tokens → Behind place level operand before tokens whole

-- How deep an expression is nested: the most parentheses of PRIMARY and minuses of UNARY that stand together round a token.
abbrev mutual
  pub nesting : {place : Place} {level : Level} {tokens : List Lexeme} {whole : RawExpr} → Says place level tokens whole → ℕ
  nesting (repeated r first more t) = max (nesting first) (nesting_behind more)
  nesting (alone only) = nesting only
  nesting (compared op left o right t) = max (nesting left) (nesting right)
  nesting (minus operand t) = suc (nesting operand)
  nesting (primary only) = nesting only
  nesting (literal n t) = 0
  nesting (group only t) = suc (nesting only)
  nesting (absolute only t) = suc (nesting only)
  nesting (of_both op o left right t) = suc (max (nesting left) (nesting right))
  nesting (choice test then_value else_value t) = suc (max (nesting test) (max (nesting then_value) (nesting else_value)))
  nesting (index axis p t) = 1
  nesting (view seen p t) = 0
  nesting (apply stencil seen p t) = 1
  nesting (at offset p t) = 1

  pub nesting_behind : {place : Place} {level operand : Level} {before : RawExpr} {tokens : List Lexeme} {whole : RawExpr}
      → Behind place level operand before tokens whole → ℕ
  nesting_behind (no_more t) = 0
  nesting_behind (one_more op o next more t) = max (nesting next) (nesting_behind more)
