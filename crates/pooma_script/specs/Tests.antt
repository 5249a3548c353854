-- The test of each cause: where a line does not pass it, the cause stands.
use Rattle.std.specs.Prelude.{◌≡◌, ℕ, ◌+◌, ◌*◌, ◌<◌, ◌≤◌, ℤ, pos, ◌≤ℤ◌, unsigned_abs, Bool, true, ◌&&◌, ◌||◌, IsTrue, List, ◌∷◌, length, map, All, Option, None, Some, IfSome}
use Rattle.std.specs.List.{AllZip}
use Rattle.pooma_text.specs.declared.span.Span.{Span}
use Rattle.pooma_text.specs.Lines.{text_at}
use Rattle.pooma_domain.specs.Cells.{Interval, IsIn, IsOrdered, cells_of, count_of}
use Rattle.pooma_domain.specs.Operations.{reaches}
use Rattle.pooma_view.specs.Slots.{positions_of}
use Rattle.pooma_layout.specs.Axes.{AreBorders, IsAscending, IsCovering}
use Rattle.pooma_layout.specs.Blocks.{IsPartCount, product}
use Rattle.pooma_layout.specs.Patches.{total_of}
use Rattle.pooma_parse.specs.declared.form.RawCutting.{RawCutting}
use Rattle.pooma_parse.specs.declared.form.RawCutting.TheVariants.{Blocks, Cuts}
use Rattle.pooma_parse.specs.declared.form.RawLine.{RawLine}
use Rattle.pooma_parse.specs.declared.form.RawLine.TheVariants as line
use Rattle.pooma_model.specs.declared.statement.Action.{Action}
use Rattle.pooma_model.specs.declared.statement.Action.TheVariants as action
use Rattle.pooma_model.specs.Declarations.{Declared, shape_at}
use Rattle.pooma_model.specs.Fit.{IsReadable, IsWritable, ReadsApart}
use Rattle.pooma_model.specs.Parts.{parts_of}
use Rattle.pooma_script.specs.declared.cause.Cause.{Cause}
use Rattle.pooma_script.specs.declared.cause.Cause.TheVariants as cause
use Rattle.pooma_script.specs.declared.cause.LimitName.{LimitName}
use Rattle.pooma_script.specs.declared.cause.LimitName.TheVariants as limit
use Rattle.pooma_script.specs.After.{after}
use Rattle.pooma_script.specs.Bodies.{depth_in, offsets_in}
use Rattle.pooma_script.specs.Known.{Known, Names, declared_in, is_array, is_layout, is_new, is_scalar, layout_named, named_at, named_in}
use Rattle.pooma_script.specs.Layouts.{axes_of, layers}
use Rattle.pooma_script.specs.Limits.{most}
use Rattle.pooma_script.specs.Statements.{Task, action_of, task_of, value_depth, views_read}
use Rattle.pooma_script.specs.Trees.{names_fit}
use Rattle.pooma_script.specs.Views.{Reading, positions_read}

-- syntax: a declaration stands in no repeat, and an end in one; so many repeats are open
abbrev pub IsPlaced : ℕ → RawLine → Type 0
IsPlaced open_repeats (line.Layout layout domain cutting internal external) = open_repeats ≡ 0
IsPlaced open_repeats (line.Brick brick domain) = open_repeats ≡ 0
IsPlaced open_repeats (line.Array array on) = open_repeats ≡ 0
IsPlaced open_repeats (line.Field field on faces) = open_repeats ≡ 0
IsPlaced open_repeats (line.Stencil stencil lower upper body) = open_repeats ≡ 0
IsPlaced open_repeats line.End = 0 < open_repeats
IsPlaced open_repeats other = Unit {0}

-- name: what is declared is new, or a scalar that is given a number again; what is used names what it has to
abbrev pub has_names : Names → List ℕ → RawLine → Bool
has_names names text (line.Layout layout domain cutting internal external) = is_new (named_in names text layout)
has_names names text (line.Brick brick domain) = is_new (named_in names text brick)
has_names names text (line.Array array on) = is_new (named_in names text array) && is_layout (named_in names text on)
has_names names text (line.Field field on faces) = is_new (named_in names text field) && is_layout (named_in names text on)
has_names names text (line.Stencil stencil lower upper body) = is_new (named_in names text stencil)
has_names names text (line.Assign target op value) = is_array (named_in names text target.name) && names_fit names text value
has_names names text (line.Scalar scalar value) =
    (is_new (named_in names text scalar) || is_scalar (named_in names text scalar)) && names_fit names text value
has_names names text (line.Reduce scalar word value) =
    (is_new (named_in names text scalar) || is_scalar (named_in names text scalar)) && names_fit names text value
has_names names text (line.PrintView seen) = is_array (named_in names text seen.name)
has_names names text (line.PrintName name) = is_array (named_in names text name) || is_scalar (named_in names text name)
has_names names text other = true

-- dimension: a domain has one to three axes, and each list an entry for each of them
abbrev pub AreAxes : ℕ → Type 0
AreAxes n = (1 ≤ n) × (n ≤ 3)

-- how many axes are cut
abbrev pub cut_count : RawCutting → ℕ
cut_count (Blocks blocks) = length blocks
cut_count (Cuts cuts) = length cuts

-- a view has a SUB for each axis of its array, and positions of as many axes as the stencil on it
abbrev pub HasOwnAxes : Declared → Reading → Type 0
HasOwnAxes declared reading = (length reading.view.slots ≡ length (shape_at declared reading.view.array).physical)
    × IfSome reading.stencil (λ stencil. length reading.positions ≡ length stencil.lower)

-- each reading has as many axes as the statement, and the statement as many as an `index` asks for
pub record HasEqualAxes (declared : Declared) (task : Task) : Type 0 where
  pub own : All (HasOwnAxes declared) task.readings
  pub equal : All (λ reading. length reading.positions ≡ length task.positions) task.readings
  pub indexes : task.axes ≤ length task.positions

abbrev pub HasDimensions : Known → List ℕ → RawLine → Type 0
HasDimensions known text (line.Layout layout domain cutting internal external) =
    AreAxes (length domain) × (cut_count cutting ≡ length domain)
    × (length (layers (axes_of domain) internal) ≡ length domain) × (length (layers (axes_of domain) external) ≡ length domain)
HasDimensions known text (line.Brick brick domain) = AreAxes (length domain)
HasDimensions known text (line.Array array on) = Unit {0}
HasDimensions known text (line.Field field on faces) = length faces ≡ 2 * length (layout_named known (named_at known text on))
HasDimensions known text (line.Stencil stencil lower upper body) =
    AreAxes (length lower) × (length upper ≡ length lower) × All (λ offset. length offset ≡ length lower) (offsets_in body)
HasDimensions known text form = HasEqualAxes (declared_in known) (task_of known text form)

-- empty: a range has a number, each block a cell, each cut is above the one before it, each view and stencil's result has a position
abbrev pub HasParts : List Interval → RawCutting → Type 0
HasParts axes (Blocks blocks) = AllZip IsPartCount axes blocks
HasParts axes (Cuts cuts) = All IsAscending cuts

abbrev pub HasPositions : Reading → Type 0
HasPositions reading = All IsOrdered reading.positions × All IsOrdered (positions_read reading)

abbrev pub HasNumbers : Known → List ℕ → RawLine → Type 0
HasNumbers known text (line.Layout layout domain cutting internal external) = All IsOrdered (axes_of domain) × HasParts (axes_of domain) cutting
HasNumbers known text (line.Brick brick domain) = All IsOrdered (axes_of domain)
HasNumbers known text (line.Repeat turns) = pos 1 ≤ℤ turns
HasNumbers known text form = All HasPositions (task_of known text form).readings

-- outside: a cut is a number of its axis and not the first, an offset is within the extents, each cell of a view is one of its
-- array, and each cell that is written one that has a number of its own
abbrev pub CutsInside : List Interval → RawCutting → Type 0
CutsInside axes (Blocks blocks) = Unit {0}
CutsInside axes (Cuts cuts) = AllZip AreBorders axes cuts

abbrev pub WritesInside : Declared → Option Action → Type 0
WritesInside declared (Some (action.Assign target value mask)) = IsWritable declared target
WritesInside declared other = Unit {0}

abbrev pub LiesInside : Known → List ℕ → RawLine → Type 0
LiesInside known text (line.Layout layout domain cutting internal external) = CutsInside (axes_of domain) cutting
LiesInside known text (line.Stencil stencil lower upper body) = All (IsIn (reaches lower upper)) (offsets_in body)
LiesInside known text form =
    All (λ reading. IsReadable (declared_in known) reading.view) (task_of known text form).readings
    × WritesInside (declared_in known) (action_of known text form)

-- unequal: all that a statement reads has its positions
abbrev pub HasEqualLengths : Task → Type 0
HasEqualLengths task = All (λ reading. positions_read reading ≡ task.positions) task.readings

-- overlap: no cell that an assignment writes at a position is read at another one
abbrev pub ReadsApartOf : Option Action → Type 0
ReadsApartOf (Some (action.Assign target value mask)) = ReadsApart target value
ReadsApartOf other = Unit {0}

-- the name that a line declares
abbrev pub name_declared : RawLine → Option Span
name_declared (line.Layout layout domain cutting internal external) = Some layout
name_declared (line.Brick brick domain) = Some brick
name_declared (line.Array array on) = Some array
name_declared (line.Field field on faces) = Some field
name_declared (line.Stencil stencil lower upper body) = Some stencil
name_declared (line.Scalar scalar value) = Some scalar
name_declared (line.Reduce scalar word value) = Some scalar
name_declared other = None

-- the bounds of a domain that a line has
abbrev pub IsNearZero : ℤ × ℤ → Type 0
IsNearZero bounds = (unsigned_abs bounds.0 ≤ most limit.Coordinate) × (unsigned_abs bounds.1 ≤ most limit.Coordinate)

abbrev pub HasNearBounds : RawLine → Type 0
HasNearBounds (line.Layout layout domain cutting internal external) = All IsNearZero domain
HasNearBounds (line.Brick brick domain) = All IsNearZero domain
HasNearBounds other = Unit {0}

-- how many parts each axis is cut into
abbrev pub parts_by : RawCutting → List ℕ
parts_by (Blocks blocks) = map count_of blocks
parts_by (Cuts cuts) = map (λ list. length list + 1) cuts

abbrev pub HasFewPatches : RawLine → Type 0
HasFewPatches (line.Layout layout domain cutting internal external) = product (parts_by cutting) ≤ most limit.Patches
HasFewPatches other = Unit {0}

-- each is 0 or more, and within the limit
abbrev pub AreFew : LimitName → List ℤ → Type 0
AreFew name list = All (λ n. (pos 0 ≤ℤ n) × (n ≤ℤ pos (most name))) list

abbrev pub HasFewGuards : RawLine → Type 0
HasFewGuards (line.Layout layout domain cutting internal external) =
    AreFew limit.Guards (layers (axes_of domain) internal) × AreFew limit.Guards (layers (axes_of domain) external)
    × AllZip IsCovering (axes_of domain) (layers (axes_of domain) external)
HasFewGuards other = Unit {0}

abbrev pub HasFewExtents : RawLine → Type 0
HasFewExtents (line.Stencil stencil lower upper body) = AreFew limit.Extents lower × AreFew limit.Extents upper
HasFewExtents other = Unit {0}

-- the cells of the array that a line declares
abbrev pub total_declared : Known → List ℕ → RawLine → Option (List Interval)
total_declared known text (line.Brick brick domain) = Some (axes_of domain)
total_declared known text (line.Array array on) = Some (total_of (layout_named known (named_at known text on)))
total_declared known text (line.Field field on faces) = Some (total_of (layout_named known (named_at known text on)))
total_declared known text other = None

-- the tree of a statement's value, and of a stencil its body
abbrev pub IsShallow : Option Action → RawLine → Type 0
IsShallow does (line.Stencil stencil lower upper body) = depth_in body ≤ most limit.Depth
IsShallow does form = IfSome does (λ it. value_depth it ≤ most limit.Depth)

-- the parts of an assignment, a scalar or a reduction
abbrev pub HasFewParts : Declared → Option Action → Type 0
HasFewParts declared (Some (action.Assign target value mask)) =
    length (parts_of declared (target ∷ views_read (action.Assign target value mask)) (positions_of target.slots)) ≤ most limit.Parts
HasFewParts declared (Some (action.Reduce scalar reduction positions value)) =
    length (parts_of declared (views_read (action.Reduce scalar reduction positions value)) positions) ≤ most limit.Parts
HasFewParts declared other = Unit {0}

-- what a line has, or what there is after it, is within a limit
abbrev pub IsWithin : LimitName → ℕ → Known → List ℕ → RawLine → Type 0
IsWithin limit.ScriptBytes number known text form = Unit {0}
IsWithin limit.Lines number known text form = number ≤ most limit.Lines
IsWithin limit.Name number known text form = IfSome (name_declared form) (λ name. length (text_at text name) ≤ most limit.Name)
IsWithin limit.Arrays number known text form = length (declared_in (after number known text form)).shapes ≤ most limit.Arrays
IsWithin limit.Coordinate number known text form = HasNearBounds form
IsWithin limit.Patches number known text form = HasFewPatches form
IsWithin limit.Guards number known text form = HasFewGuards form
IsWithin limit.Extents number known text form = HasFewExtents form
IsWithin limit.ArrayCells number known text form = IfSome (total_declared known text form) (λ total. length (cells_of total) ≤ most limit.ArrayCells)
IsWithin limit.AllocatedCells number known text form = (after number known text form).allocated ≤ most limit.AllocatedCells
IsWithin limit.Views number known text form = IfSome (action_of known text form) (λ does. length (views_read does) ≤ most limit.Views)
IsWithin limit.Depth number known text form = IsShallow (action_of known text form) form
IsWithin limit.Repeats number known text form = length (after number known text form).drafted.open_repeats ≤ most limit.Repeats
IsWithin limit.Parts number known text form = HasFewParts (declared_in known) (action_of known text form)
IsWithin limit.Statements number known text form = (after number known text form).executed ≤ most limit.Statements
IsWithin limit.PrintedValues number known text form = (after number known text form).printed ≤ most limit.PrintedValues

-- the line of this number, of this form, passes the test of a cause
abbrev pub Passes : ℕ → Known → List ℕ → RawLine → Cause → Type 0
Passes number known text form cause.Syntax = IsPlaced (length known.drafted.open_repeats) form
Passes number known text form cause.Name = IsTrue (has_names known.names text form)
Passes number known text form cause.Dimension = HasDimensions known text form
Passes number known text form cause.Empty = HasNumbers known text form
Passes number known text form cause.Outside = LiesInside known text form
Passes number known text form cause.Unequal = HasEqualLengths (task_of known text form)
Passes number known text form cause.Overlap = ReadsApartOf (action_of known text form)
Passes number known text form (cause.Limit name) = IsWithin name number known text form
Passes number known text form cause.OpenRepeat = Unit {0}
