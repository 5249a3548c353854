-- The names that a form has.
use Rattle.std.specs.Prelude.{List, [], ◌∷◌, ◌++◌}
use Rattle.pooma_text.specs.declared.span.Span.{Span}
use Rattle.pooma_parse.specs.declared.form.RawExpr.{RawExpr, fold-RawExpr}
use Rattle.pooma_parse.specs.declared.form.RawExpr.TheOpen.{RawExpr-F}
use Rattle.pooma_parse.specs.declared.form.RawLine.{RawLine}
use Rattle.pooma_parse.specs.declared.form.RawLine.TheVariants as line

-- the names of an expression, from those of its operands
abbrev pub names_of_node : RawExpr-F (List Span) → List Span
names_of_node (RawExpr-F.Number n) = []
names_of_node (RawExpr-F.Index axis) = []
names_of_node (RawExpr-F.View seen) = seen.name ∷ []
names_of_node (RawExpr-F.Apply stencil seen) = stencil ∷ seen.name ∷ []
names_of_node (RawExpr-F.At offset) = []
names_of_node (RawExpr-F.Neg operand) = operand
names_of_node (RawExpr-F.Abs operand) = operand
names_of_node (RawExpr-F.Bin op left right) = left ++ right
names_of_node (RawExpr-F.Where condition then_value else_value) = condition ++ then_value ++ else_value

-- the names of an expression, in order
abbrev pub names_in : RawExpr → List Span
names_in = fold-RawExpr (List Span) names_of_node

-- the names of a line, and a reduction's word
abbrev pub names_of : RawLine → List Span
names_of (line.Layout layout domain cutting internal external) = layout ∷ []
names_of (line.Brick brick domain) = brick ∷ []
names_of (line.Array array layout) = array ∷ layout ∷ []
names_of (line.Field field layout faces) = field ∷ layout ∷ []
names_of (line.Stencil stencil lower upper body) = stencil ∷ names_in body
names_of (line.Assign target op value) = target.name ∷ names_in value
names_of (line.Scalar scalar value) = scalar ∷ names_in value
names_of (line.Reduce scalar reduction value) = scalar ∷ reduction ∷ names_in value
names_of (line.PrintView seen) = seen.name ∷ []
names_of (line.PrintName printed) = printed ∷ []
names_of line.Block = []
names_of (line.Repeat turns) = []
names_of line.End = []
