-- How the tokens are read, one function a production. The functions of this crate are proved against these, and these
-- are proved to read the languages of `Languages`, `Lists`, `Expressions` and `Forms` and nothing else.
use Rattle.std.specs.Prelude.{◌≡◌, ℕ, zero, suc, nat_le, ℤ, pos, ◌-ℤ◌, Bool, true, false, not, ◌&&◌, if◌then◌else◌, List, [], ◌∷◌, ◌++◌, length, bytes_eq, Option, Some, None, Result, Ok, Err, codes}
use Rattle.std.specs.List.{list_any}
use Rattle.pooma_text.specs.declared.span.Span.{Span}
use Rattle.pooma_text.specs.declared.token.TokenKind.{TokenKind}
use Rattle.pooma_text.specs.declared.token.TokenKind.TheVariants.{Word, Number, Sign}
use Rattle.pooma_text.specs.Number.{value_of}
use Rattle.pooma_parse.specs.declared.error.LineError.{LineError}
use Rattle.pooma_parse.specs.declared.error.LineError.TheVariants.{Syntax, OutOfMemory}
use Rattle.pooma_parse.specs.declared.expression.Place.{Place}
use Rattle.pooma_parse.specs.declared.expression.Place.TheVariants.{InBody, InLine}
use Rattle.pooma_parse.specs.declared.expression.Chained.{Chained}
use Rattle.pooma_parse.specs.declared.expression.Chained.TheVariants as chained
use Rattle.pooma_parse.specs.declared.form.RawAssign.{RawAssign}
use Rattle.pooma_parse.specs.declared.form.RawAssign.TheVariants as assign
use Rattle.pooma_parse.specs.declared.form.RawCutting.{RawCutting}
use Rattle.pooma_parse.specs.declared.form.RawCutting.TheVariants.{Blocks, Cuts}
use Rattle.pooma_parse.specs.declared.form.RawExpr.{RawExpr}
use Rattle.pooma_parse.specs.declared.form.RawExpr.TheVariants as tree
use Rattle.pooma_parse.specs.declared.form.RawLine.{RawLine}
use Rattle.pooma_parse.specs.declared.form.RawLine.TheVariants as line
use Rattle.pooma_parse.specs.declared.form.RawOp.{RawOp}
use Rattle.pooma_parse.specs.declared.form.RawOp.TheVariants as op
use Rattle.pooma_parse.specs.declared.form.RawSub.{RawSub}
use Rattle.pooma_parse.specs.declared.form.RawSub.TheVariants.{At, Range}
use Rattle.pooma_parse.specs.declared.form.RawView.{RawView}
use Rattle.pooma_parse.specs.declared.form.Updater4.{Updater4}
use Rattle.pooma_parse.specs.declared.form.Updater4.TheVariants.{Constant, Periodic, Reflect, Antireflect, Extrapolate}
use Rattle.pooma_parse.specs.Expressions.{Level, AND, ADD, COMPARE, EXPR, MUL, operator_text, operators}
use Rattle.pooma_parse.specs.Forms.{MOST_NESTING, reductions}
use Rattle.pooma_parse.specs.Languages.{MOST_NUM, MOST_SMALL}
use Rattle.pooma_parse.specs.Names.{reserved_words}
use Rattle.pooma_parse.specs.Tokens.{Lexeme}

-- a value that the tokens begin with, and the tokens behind it
abbrev pub Reader : Type 0 → Type 0
Reader A = List Lexeme → Option (A × List Lexeme)

-- What a function answers that reads so: the value and what is left, or Syntax where nothing is read. Memory may run out.
abbrev pub Reads : {A : Type 0} → Reader A → List Lexeme → Result A LineError → List Lexeme → Type 0
Reads p old (Ok v) new = p old ≡ Some (v, new)
Reads p old (Err Syntax) new = p old ≡ None
Reads p old (Err OutOfMemory) new = Unit {0}

-- The value, or want of memory.
abbrev pub Makes : {A : Type 0} → A → Result A LineError → Type 0
Makes v (Ok made) = made ≡ v
Makes v (Err Syntax) = ⊥
Makes v (Err OutOfMemory) = Unit {0}

abbrev pub and_then : {A B : Type 0} → Option (A × List Lexeme) → (A → Reader B) → Option (B × List Lexeme)
and_then None f = None
and_then (Some p) f = f p.0 p.1

infixl 10 ◌>>=◌
abbrev pub ◌>>=◌ : {A B : Type 0} → Reader A → (A → Reader B) → Reader B
p >>= f = λ tokens. and_then (p tokens) f

infixl 10 ◌>>◌
abbrev pub ◌>>◌ : {A B : Type 0} → Reader A → Reader B → Reader B
p >> q = p >>= (λ _. q)

abbrev pub pure : {A : Type 0} → A → Reader A
pure v = λ tokens. Some (v, tokens)

abbrev pub refuse : {A : Type 0} → Reader A
refuse = λ tokens. None

-- ---- single tokens

abbrev pub same_kind : TokenKind → TokenKind → Bool
same_kind Word Word = true
same_kind Number Number = true
same_kind Sign Sign = true
same_kind _ _ = false

abbrev pub behind : List Lexeme → List Lexeme
behind [] = []
behind (t ∷ tokens) = tokens

-- whether the first token is of this kind, and has this text
unfoldable pub begins : TokenKind → List ℕ → List Lexeme → Bool
begins kind text [] = false
begins kind text (t ∷ tokens) = same_kind t.kind kind && bytes_eq t.text text

abbrev pub begins_sign : List ℕ → List Lexeme → Bool
begins_sign = begins Sign

abbrev pub begins_word : List ℕ → List Lexeme → Bool
begins_word = begins Word

unfoldable pub expect : TokenKind → List ℕ → Reader (Unit {0})
expect kind text = λ tokens. if begins kind text tokens then Some (tt, behind tokens) else None

abbrev pub expect_sign : List ℕ → Reader (Unit {0})
expect_sign = expect Sign

abbrev pub expect_word : List ℕ → Reader (Unit {0})
expect_word = expect Word

unfoldable pub is_reserved : List ℕ → Bool
is_reserved text = list_any (bytes_eq text) reserved_words

unfoldable pub begins_name : List Lexeme → Bool
begins_name [] = false
begins_name (t ∷ tokens) = same_kind t.kind Word && not (is_reserved t.text)

unfoldable pub begins_number : List Lexeme → Bool
begins_number [] = false
begins_number (t ∷ tokens) = same_kind t.kind Number

-- the part of the line that the first token is
unfoldable pub span_of : List Lexeme → Reader Span
span_of [] = refuse
span_of (t ∷ tokens) = λ _. Some (t.span, tokens)

unfoldable pub read_name : Reader Span
read_name = λ tokens. if begins_name tokens then span_of tokens tokens else None

-- a number of at most so much
unfoldable pub read_number : ℕ → Reader ℤ
read_number most [] = None
read_number most (t ∷ tokens) = if same_kind t.kind Number && nat_le (value_of t.text) most then Some (pos (value_of t.text), tokens) else None

-- a number of at most so much, with or without a minus sign
unfoldable pub read_signed : ℕ → Reader ℤ
read_signed most = λ tokens. if begins_sign (codes "-") tokens
    then and_then (read_number most (behind tokens)) (λ n. pure (pos 0 -ℤ n))
    else read_number most tokens

abbrev pub read_small : Reader ℤ
read_small = read_number MOST_SMALL

abbrev pub read_int : Reader ℤ
read_int = read_signed MOST_SMALL

-- ---- lists

-- further entries, each behind a comma: no more than so many are read
unfoldable pub read_entries : {A : Type 0} → Reader A → ℕ → List A → Reader (List A)
read_entries p zero found = pure found
read_entries p (suc k) found = λ tokens. if begins_sign (codes ",") tokens
    then and_then (p (behind tokens)) (λ x. read_entries p k (found ++ x ∷ []))
    else Some (found, tokens)

-- as many entries as there are
unfoldable pub read_listed : {A : Type 0} → Reader A → Reader (List A)
read_listed p = p >>= (λ x tokens. read_entries p (length tokens) (x ∷ []) tokens)

unfoldable pub read_parens : {A : Type 0} → Reader A → Reader A
read_parens p = do
  expect_sign (codes "(")
  v ← p
  expect_sign (codes ")")
  pure v

-- what is read so, with this sign behind it
unfoldable pub read_closed : {A : Type 0} → Reader A → List ℕ → Reader A
read_closed p text = do
  v ← p
  expect_sign text
  pure v

unfoldable pub read_range : Reader (ℤ × ℤ)
read_range = do
  first ← read_int
  expect_sign (codes ":")
  last ← read_int
  pure (first, last)

abbrev pub read_box : Reader (List (ℤ × ℤ))
read_box = read_parens (read_listed read_range)

abbrev pub read_smalls : Reader (List ℤ)
read_smalls = read_parens (read_listed read_small)

unfoldable pub read_cut_list : Reader (List ℤ)
read_cut_list = expect_sign (codes "(") >> (λ tokens. if begins_sign (codes ")") tokens
    then Some ([], behind tokens)
    else and_then (read_listed read_int tokens) (λ cuts. expect_sign (codes ")") >> pure cuts))

unfoldable pub read_cutting : Reader RawCutting
read_cutting = λ tokens. if begins_word (codes "blocks") tokens
    then and_then (read_smalls (behind tokens)) (λ list. pure (Blocks list))
    else (expect_word (codes "cuts") >> read_parens (read_listed read_cut_list) >>= (λ lists. pure (Cuts lists))) tokens

unfoldable pub read_layers : List ℕ → Reader (List ℤ)
read_layers text = λ tokens. if begins_word text tokens then read_smalls (behind tokens) else Some ([], tokens)

unfoldable pub read_updater : Reader Updater4
read_updater = λ tokens. if begins_word (codes "constant") tokens
    then and_then (read_signed MOST_NUM (behind tokens)) (λ n. pure (Constant n))
    else (if begins_word (codes "periodic") tokens then Some (Periodic, behind tokens)
    else (if begins_word (codes "reflect") tokens then Some (Reflect, behind tokens)
    else (if begins_word (codes "antireflect") tokens then Some (Antireflect, behind tokens)
    else (if begins_word (codes "extrapolate") tokens then Some (Extrapolate, behind tokens)
    else None))))

-- ---- views

-- the stride of a range, which is 1 where none is written
unfoldable pub read_stride : Reader ℤ
read_stride = λ tokens. if begins_sign (codes ":") tokens then read_int (behind tokens) else Some (pos 1, tokens)

unfoldable pub read_sub : Reader RawSub
read_sub = read_int >>= (λ first tokens. if begins_sign (codes ":") tokens
    then and_then (read_int (behind tokens)) (λ last. read_stride >>= (λ stride. pure (Range first last stride)))
    else Some (At first, tokens))

unfoldable pub read_brackets : Reader (Option (List RawSub))
read_brackets = λ tokens. if begins_sign (codes "[") tokens
    then and_then (read_listed read_sub (behind tokens)) (λ subs. expect_sign (codes "]") >> pure (Some subs))
    else Some (None, tokens)

unfoldable pub read_view : Reader RawView
read_view = do
  name ← read_name
  subs ← read_brackets
  pure (record { name = name; subs = subs })

-- ---- expressions

-- the first of these operators that the tokens begin with
abbrev pub operator_among : List RawOp → List Lexeme → Option RawOp
operator_among [] tokens = None
operator_among (op ∷ ops) tokens = if begins_sign (operator_text op) tokens then Some op else operator_among ops tokens

unfoldable pub operator_at : Level → List Lexeme → Option RawOp
operator_at level tokens = operator_among (operators level) tokens

-- what is read once it is known whether an operator comes next
abbrev pub by_operator : {A : Type 0} → Option RawOp → (RawOp → Reader A) → Reader A → Reader A
by_operator None some none tokens = none tokens
by_operator (Some op) some none tokens = some op (behind tokens)

-- further operands, each behind an operator of the level: no more than so many are read
unfoldable pub read_operands : Level → Reader RawExpr → ℕ → RawExpr → Reader RawExpr
read_operands level operand zero before = pure before
read_operands level operand (suc k) before = λ tokens. by_operator (operator_at level tokens)
    (λ op. operand >>= (λ next. read_operands level operand k (tree.Bin op before next))) (pure before) tokens

unfoldable pub read_repeated : Level → Reader RawExpr → Reader RawExpr
read_repeated level operand = operand >>= (λ first tokens. read_operands level operand (length tokens) first tokens)

unfoldable pub read_compared : Reader RawExpr → Reader RawExpr
read_compared operand = operand >>= (λ left tokens. by_operator (operator_at COMPARE tokens)
    (λ op. operand >>= (λ right. pure (tree.Bin op left right))) (pure left) tokens)

-- EXPR and the productions below it, down to the operands of MUL
abbrev pub read_mul : Reader RawExpr → Reader RawExpr
read_mul unary = read_repeated MUL unary

abbrev pub read_add : Reader RawExpr → Reader RawExpr
read_add unary = read_repeated ADD (read_mul unary)

abbrev pub read_compare : Reader RawExpr → Reader RawExpr
read_compare unary = read_compared (read_add unary)

abbrev pub read_and : Reader RawExpr → Reader RawExpr
read_and unary = read_repeated AND (read_compare unary)

abbrev pub read_expr : Reader RawExpr → Reader RawExpr
read_expr unary = read_repeated EXPR (read_and unary)

-- the level of a production whose operators may be repeated, and how it and its operands are read
abbrev pub level_of : Chained → Level
level_of chained.Expr = EXPR
level_of chained.And = AND
level_of chained.Add = ADD
level_of chained.Mul = MUL

abbrev pub read_operand : Chained → Reader RawExpr → Reader RawExpr
read_operand chained.Expr unary = read_and unary
read_operand chained.And unary = read_compare unary
read_operand chained.Add unary = read_mul unary
read_operand chained.Mul unary = unary

abbrev pub read_level : Chained → Reader RawExpr → Reader RawExpr
read_level level unary = read_repeated (level_of level) (read_operand level unary)

unfoldable pub read_both : RawOp → Reader RawExpr → Reader RawExpr
read_both op inner = do
  expect_sign (codes "(")
  left ← read_closed inner (codes ",")
  right ← read_closed inner (codes ")")
  pure (tree.Bin op left right)

unfoldable pub read_choice : Reader RawExpr → Reader RawExpr
read_choice inner = do
  expect_sign (codes "(")
  condition ← read_closed inner (codes ",")
  then_value ← read_closed inner (codes ",")
  else_value ← read_closed inner (codes ")")
  pure (tree.Where condition then_value else_value)

-- what only a line has, or only a body, and stands in parentheses
unfoldable pub read_own : Place → Reader RawExpr
read_own InLine = expect_word (codes "index") >> read_parens read_small >>= (λ axis. pure (tree.Index axis))
read_own InBody = expect_sign (codes "@") >> read_parens (read_listed read_int) >>= (λ offset. pure (tree.At offset))

-- the cases of PRIMARY with parentheses, but for NAME `(` VIEW `)`
unfoldable pub read_nested : Place → Reader RawExpr → Reader RawExpr
read_nested place inner = λ tokens. if begins_sign (codes "(") tokens then read_parens inner tokens
    else (if begins_word (codes "abs") tokens then and_then (read_parens inner (behind tokens)) (λ only. pure (tree.Abs only))
    else (if begins_word (codes "min") tokens then read_both op.Min inner (behind tokens)
    else (if begins_word (codes "max") tokens then read_both op.Max inner (behind tokens)
    else (if begins_word (codes "where") tokens then read_choice inner (behind tokens)
    else read_own place tokens))))

-- a VIEW, or where parentheses are left NAME `(` VIEW `)`
unfoldable pub read_named : Bool → Reader RawExpr
read_named deep = read_name >>= (λ name tokens. if begins_sign (codes "(") tokens
    then (if deep then and_then (read_parens read_view tokens) (λ seen. pure (tree.Apply name seen)) else None)
    else and_then (read_brackets tokens) (λ subs. pure (tree.View (record { name = name; subs = subs }))))

-- whether a name comes next, which only a line may have in its expressions
abbrev pub begins_named : Place → List Lexeme → Bool
begins_named InLine tokens = begins_name tokens
begins_named InBody tokens = false

unfoldable pub read_primary : Place → Bool → Reader RawExpr → Reader RawExpr
read_primary place deep inner = λ tokens. if begins_number tokens then and_then (read_number MOST_NUM tokens) (λ n. pure (tree.Number n))
    else (if begins_named place tokens then read_named deep tokens
    else (if deep then read_nested place inner tokens else None))

unfoldable pub read_unary : Place → Bool → Reader RawExpr → Reader RawExpr → Reader RawExpr
read_unary place deep unary inner = λ tokens. if begins_sign (codes "-") tokens
    then (if deep then and_then (unary (behind tokens)) (λ operand. pure (tree.Neg operand)) else None)
    else read_primary place deep inner tokens

-- UNARY, where so many parentheses and minuses may be opened
unfoldable pub unary_within : Place → ℕ → Reader RawExpr
unary_within place zero = read_unary place false refuse refuse
unary_within place (suc n) = read_unary place true (unary_within place n) (read_expr (unary_within place n))

unfoldable pub primary_within : Place → ℕ → Reader RawExpr
primary_within place zero = read_primary place false refuse
primary_within place (suc n) = read_primary place true (read_expr (unary_within place n))

abbrev pub expr_within : Place → ℕ → Reader RawExpr
expr_within place n = read_expr (unary_within place n)

-- ---- lines

unfoldable pub read_end : Reader (Unit {0})
read_end [] = Some (tt, [])
read_end (t ∷ tokens) = None

-- the first, or where it reads nothing the second
abbrev pub either_of : {A : Type 0} → Option A → Option A → Option A
either_of (Some v) other = Some v
either_of None other = other

infixr 5 ◌<|>◌
abbrev pub ◌<|>◌ : {A : Type 0} → Reader A → Reader A → Reader A
p <|> q = λ tokens. either_of (p tokens) (q tokens)

abbrev pub ended : {A : Type 0} → A → Reader A
ended v = read_end >> pure v

unfoldable pub read_layout : Reader RawLine
read_layout = do
  expect_word (codes "layout")
  name ← read_name
  domain ← read_box
  cutting ← read_cutting
  internal ← read_layers (codes "internal")
  external ← read_layers (codes "external")
  ended (line.Layout name domain cutting internal external)

unfoldable pub read_brick : Reader RawLine
read_brick = do
  expect_word (codes "brick")
  name ← read_name
  domain ← read_box
  ended (line.Brick name domain)

unfoldable pub read_array : Reader RawLine
read_array = do
  expect_word (codes "array")
  name ← read_name
  expect_word (codes "on")
  layout ← read_name
  ended (line.Array name layout)

unfoldable pub read_field : Reader RawLine
read_field = do
  expect_word (codes "field")
  name ← read_name
  expect_word (codes "on")
  layout ← read_name
  expect_word (codes "faces")
  faces ← read_listed read_updater
  ended (line.Field name layout faces)

unfoldable pub read_stencil : Reader RawLine
read_stencil = do
  expect_word (codes "stencil")
  name ← read_name
  expect_word (codes "lower")
  lower ← read_smalls
  expect_word (codes "upper")
  upper ← read_smalls
  expect_sign (codes "=")
  body ← expr_within InBody MOST_NESTING
  ended (line.Stencil name lower upper body)

unfoldable pub read_assign_sign : Reader RawAssign
read_assign_sign = λ tokens. if begins_sign (codes "=") tokens then Some (assign.Plain, behind tokens)
    else (if begins_sign (codes "+=") tokens then Some (assign.Add, behind tokens)
    else (if begins_sign (codes "-=") tokens then Some (assign.Sub, behind tokens)
    else (if begins_sign (codes "*=") tokens then Some (assign.Mul, behind tokens)
    else None)))

unfoldable pub read_assignment : Reader RawLine
read_assignment = do
  target ← read_view
  op ← read_assign_sign
  value ← expr_within InLine MOST_NESTING
  ended (line.Assign target op value)

-- `scalar` NAME `=`
unfoldable pub read_scalar_head : Reader Span
read_scalar_head = do
  expect_word (codes "scalar")
  name ← read_name
  expect_sign (codes "=")
  pure name

unfoldable pub read_scalar : Reader RawLine
read_scalar = do
  name ← read_scalar_head
  value ← expr_within InLine MOST_NESTING
  ended (line.Scalar name value)

unfoldable pub begins_reduction : List Lexeme → Bool
begins_reduction [] = false
begins_reduction (t ∷ tokens) = same_kind t.kind Word && list_any (bytes_eq t.text) reductions

unfoldable pub read_reduction_word : Reader Span
read_reduction_word = λ tokens. if begins_reduction tokens then span_of tokens tokens else None

unfoldable pub read_reduction : Reader RawLine
read_reduction = do
  name ← read_scalar_head
  word ← read_reduction_word
  value ← read_parens (expr_within InLine MOST_NESTING)
  ended (line.Reduce name word value)

abbrev pub by_brackets : RawView → Option (List RawSub) → RawLine
by_brackets seen None = line.PrintName seen.name
by_brackets seen (Some subs) = line.PrintView seen

abbrev pub printed : RawView → RawLine
printed seen = by_brackets seen seen.subs

unfoldable pub read_print : Reader RawLine
read_print = do
  expect_word (codes "print")
  seen ← read_view
  ended (printed seen)

unfoldable pub read_block : Reader RawLine
read_block = do
  expect_word (codes "block")
  ended line.Block

unfoldable pub read_repeat : Reader RawLine
read_repeat = do
  expect_word (codes "repeat")
  turns ← read_small
  ended (line.Repeat turns)

unfoldable pub read_repeat_end : Reader RawLine
read_repeat_end = do
  expect_word (codes "end")
  ended line.End

unfoldable pub read_declaration : Reader RawLine
read_declaration = read_layout <|> read_brick <|> read_array <|> read_field <|> read_stencil

unfoldable pub read_statement : Reader RawLine
read_statement = read_scalar <|> read_reduction <|> read_print <|> read_block <|> read_repeat <|> read_repeat_end <|> read_assignment

unfoldable pub read_line : Reader RawLine
read_line = read_declaration <|> read_statement
