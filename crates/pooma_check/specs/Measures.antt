-- How much a line has: how many views the tree of an expression reads and how deep it is, by the forms of the expression, and how
-- many cells are allocated.
use Rattle.std.specs.Prelude.{ℕ, ◌+◌, ◌<◌, max, if◌then◌else◌, List, ◌∷◌, length, All}
use Rattle.pooma_domain.specs.Cells.{IsBox}
use Rattle.pooma_view.specs.Slots.{positions_of}
use Rattle.pooma_view.specs.Views.{Viewed}
use Rattle.pooma_layout.specs.Patches.{allocated_count}
use Rattle.pooma_expr.specs.Trees.{views_of}
use Rattle.pooma_model.specs.declared.statement.Action.{Action}
use Rattle.pooma_model.specs.declared.statement.Action.TheVariants as action
use Rattle.pooma_model.specs.Declarations.{Declared}
use Rattle.pooma_stencil.specs.Bodies.{body_depth, offsets_of}
use Rattle.pooma_parse.specs.declared.form.RawAssign.{RawAssign}
use Rattle.pooma_parse.specs.declared.form.RawAssign.TheVariants as assign
use Rattle.pooma_parse.specs.declared.form.RawExpr.{RawExpr, fold-RawExpr}
use Rattle.pooma_parse.specs.declared.form.RawExpr.TheOpen.{RawExpr-F}
use Rattle.pooma_parse.specs.declared.form.RawLine.{RawLine}
use Rattle.pooma_parse.specs.declared.form.RawLine.TheVariants as line
use Rattle.pooma_script.specs.Known.{Known, is_scalar, layout_named, named_at, stencil_named}
use Rattle.pooma_script.specs.Layouts.{axes_of, brick_of}

abbrev pub reads_by : Known → List ℕ → RawExpr-F ℕ → ℕ
reads_by known line (RawExpr-F.View seen) = if is_scalar (named_at known line seen.name) then 0 else 1
reads_by known line (RawExpr-F.Apply stencil seen) = length (offsets_of (stencil_named known (named_at known line stencil)).body)
reads_by known line (RawExpr-F.Neg a) = a
reads_by known line (RawExpr-F.Abs a) = a
reads_by known line (RawExpr-F.Bin op a b) = a + b
reads_by known line (RawExpr-F.Where c a b) = c + (a + b)
reads_by known line other = 0

-- how many views the tree of an expression reads: a stencil on a view one for each offset of its body
abbrev pub tree_reads : Known → List ℕ → RawExpr → ℕ
tree_reads known line = fold-RawExpr ℕ (reads_by known line)

abbrev pub depth_by : Known → List ℕ → RawExpr-F ℕ → ℕ
depth_by known line (RawExpr-F.Apply stencil seen) = body_depth (stencil_named known (named_at known line stencil)).body
depth_by known line (RawExpr-F.Neg a) = a + 1
depth_by known line (RawExpr-F.Abs a) = a + 1
depth_by known line (RawExpr-F.Bin op a b) = max a b + 1
depth_by known line (RawExpr-F.Where c a b) = max c (max a b) + 1
depth_by known line other = 1

-- how deep the tree of an expression is: a stencil on a view is as deep as its body
abbrev pub tree_depth : Known → List ℕ → RawExpr → ℕ
tree_depth known line = fold-RawExpr ℕ (depth_by known line)

-- how many views more an assignment reads, and how much deeper it is, where it joins the old numbers of its target
abbrev pub old_reads : RawAssign → ℕ
old_reads assign.Plain = 0
old_reads assign.Add = 1
old_reads assign.Sub = 1
old_reads assign.Mul = 1

-- how many cells the patches of the array that a line declares allocate
abbrev pub allocated_by : Known → List ℕ → RawLine → ℕ
allocated_by known text (line.Brick brick domain) = allocated_count (brick_of (axes_of domain))
allocated_by known text (line.Array array on) = allocated_count (layout_named known (named_at known text on))
allocated_by known text (line.Field field on faces) = allocated_count (layout_named known (named_at known text on))
allocated_by known text other = 0

-- the arrays of these views are there
abbrev pub AreThere : Declared → List Viewed → Type 0
AreThere declared views = All (λ view. view.array < length declared.shapes) views

-- the parts of an action can be counted: its views' arrays are there, and its positions make a box
abbrev pub CanBeCut : Declared → Action → Type 0
CanBeCut declared (action.Assign target value mask) =
    AreThere declared (target ∷ views_of value) × IsBox (positions_of target.slots)
CanBeCut declared (action.Reduce scalar reduction positions value) = AreThere declared (views_of value)
CanBeCut declared other = Unit {0}
