-- What the line of a statement does, reads and prints.
use Rattle.std.specs.Prelude.{ℕ, List, [], ◌∷◌, length, Option, None, Some}
use Rattle.pooma_text.specs.Lines.{text_at}
use Rattle.pooma_domain.specs.Cells.{Interval, cells_of}
use Rattle.pooma_view.specs.Slots.{positions_of}
use Rattle.pooma_view.specs.Views.{Viewed}
use Rattle.pooma_expr.specs.declared.reduction.Reduction.TheVariants.{Sum}
use Rattle.pooma_expr.specs.declared.tree.Expr.{Expr}
use Rattle.pooma_expr.specs.declared.tree.Expr.TheOpen.{Expr-F}
use Rattle.pooma_expr.specs.declared.tree.Expr.TheViews.{roll-Expr}
use Rattle.pooma_expr.specs.declared.tree.Op.TheVariants as op
use Rattle.pooma_expr.specs.Trees.{views_of, depth_of}
use Rattle.pooma_parse.specs.declared.form.RawAssign.{RawAssign}
use Rattle.pooma_parse.specs.declared.form.RawAssign.TheVariants as assign
use Rattle.pooma_parse.specs.declared.form.RawLine.{RawLine}
use Rattle.pooma_parse.specs.declared.form.RawLine.TheVariants as line
use Rattle.pooma_model.specs.declared.statement.Action.{Action}
use Rattle.pooma_model.specs.declared.statement.Action.TheVariants as action
use Rattle.pooma_script.specs.declared.names.Named.{Named}
use Rattle.pooma_script.specs.declared.names.Named.TheVariants as named
use Rattle.pooma_script.specs.Known.{Known, declared_in, named_at}
use Rattle.pooma_script.specs.Operators.{reduction_of}
use Rattle.pooma_script.specs.Trees.{axes_in, readings_in, tree_of, unless_scalar}
use Rattle.pooma_script.specs.Views.{Reading, positions_read, reading_of, view_of}

-- What a statement reads, the target of an assignment first; the positions at which it is done; and how many axes they have to
-- have, so that each `index` names one of them.
pub record Task : Type 0 where
  pub readings : List Reading
  pub positions : List Interval
  pub axes : ℕ

-- the positions of what is read first; where nothing is read, the one position without axes
abbrev pub first_positions : List Reading → List Interval
first_positions [] = []
first_positions (reading ∷ readings) = positions_read reading

abbrev pub task_over : List Reading → ℕ → Task
task_over readings axes = record { readings = readings; positions = first_positions readings; axes = axes }

-- a scalar's own number is found at the position without axes; a line that is no statement reads nothing
abbrev pub task_of : Known → List ℕ → RawLine → Task
task_of known text (line.Assign target op value) = task_over (reading_of known text None target ∷ readings_in known text value) (axes_in value)
task_of known text (line.Scalar scalar value) = record { readings = readings_in known text value; positions = []; axes = axes_in value }
task_of known text (line.Reduce scalar word value) = task_over (readings_in known text value) (axes_in value)
task_of known text (line.PrintView seen) = task_over (reading_of known text None seen ∷ []) 0
task_of known text (line.PrintName name) =
    task_over (unless_scalar (named_at known text name) (reading_of known text None (record { name = name; subs = None }))) 0
task_of known text other = task_over [] 0

-- `V += E` is `V = V + (E)`, and so the others
abbrev pub joined : RawAssign → Viewed → Expr → Expr
joined assign.Plain target value = value
joined assign.Add target value = roll-Expr (Expr-F.Bin op.Add (roll-Expr (Expr-F.Read target)) value)
joined assign.Sub target value = roll-Expr (Expr-F.Bin op.Sub (roll-Expr (Expr-F.Read target)) value)
joined assign.Mul target value = roll-Expr (Expr-F.Bin op.Mul (roll-Expr (Expr-F.Read target)) value)

-- the number of the scalar that the line gives a number: its own, or the next where it is new
abbrev pub scalar_given : Known → Option Named → ℕ
scalar_given known (Some (named.Scalar n)) = n
scalar_given known other = (declared_in known).scalars

abbrev pub print_of : Option Named → Viewed → Action
print_of (Some (named.Scalar n)) view = action.PrintScalar n
print_of other view = action.PrintView view

-- what a statement does; a scalar's own number is the sum over its one position
abbrev pub action_of : Known → List ℕ → RawLine → Option Action
action_of known text (line.Assign target op value) =
    let view = view_of known text target in
    Some (action.Assign view (joined op view (tree_of known text value)) None)
action_of known text (line.Scalar scalar value) =
    Some (action.Reduce (scalar_given known (named_at known text scalar)) Sum [] (tree_of known text value))
action_of known text (line.Reduce scalar word value) =
    Some (action.Reduce (scalar_given known (named_at known text scalar)) (reduction_of (text_at text word))
    (first_positions (readings_in known text value)) (tree_of known text value))
action_of known text (line.PrintView seen) = Some (action.PrintView (view_of known text seen))
action_of known text (line.PrintName name) =
    Some (print_of (named_at known text name) (view_of known text (record { name = name; subs = None })))
action_of known text line.Block = Some action.Block
action_of known text other = None

-- the views that an action reads, in the order of the text
abbrev pub views_read : Action → List Viewed
views_read (action.Assign target value mask) = views_of value
views_read (action.Reduce scalar reduction positions value) = views_of value
views_read (action.PrintView view) = view ∷ []
views_read other = []

-- how deep the tree of its value is
abbrev pub value_depth : Action → ℕ
value_depth (action.Assign target value mask) = depth_of value
value_depth (action.Reduce scalar reduction positions value) = depth_of value
value_depth other = 0

-- how many values it prints
abbrev pub values_printed : Action → ℕ
values_printed (action.PrintView view) = length (cells_of (positions_of view.slots))
values_printed (action.PrintScalar scalar) = 1
values_printed other = 0
