-- Each list of bytes is some script: each question that is asked of a line has an answer.
use Rattle.std.proofs.Common.{◌≡◌, ◌≢◌, ◌⊎◌, inl, inr, ⊎_elim, ℕ, ◌+◌, ◌≤◌, ℤ, pos, List, [], ◌∷◌, length, Option, None, Some, refl, ap}
use Rattle.std.specs.Prelude.{All, IfSome}
use Rattle.std.proofs.lemmas.Bool.{cases_eq, cases_lt}
use Rattle.pooma_text.specs.Lines.{lines_of, text_at}
use Rattle.pooma_text.specs.Tokens.{IsBlankLine}
use Rattle.pooma_domain.specs.Cells.{Interval, IsIn, IsOrdered, axis_length, cells_of}
use Rattle.pooma_domain.specs.Operations.{reaches}
use Rattle.pooma_view.specs.Overlap.{IsOverlap}
use Rattle.pooma_view.specs.Slots.{cell_named, positions_of}
use Rattle.pooma_view.specs.Views.{Viewed}
use Rattle.pooma_field.specs.Shapes.{own_area}
use Rattle.pooma_layout.specs.Axes.{AreBorders, IsAscending, IsBorder, IsCovering}
use Rattle.pooma_layout.specs.Blocks.{IsPartCount, product}
use Rattle.pooma_expr.specs.Trees.{views_of}
use Rattle.pooma_stencil.specs.Stencils.{Stenciled}
use Rattle.pooma_parse.specs.declared.form.RawCutting.{RawCutting}
use Rattle.pooma_parse.specs.declared.form.RawCutting.TheVariants.{Blocks, Cuts}
use Rattle.pooma_parse.specs.declared.form.RawLine.{RawLine}
use Rattle.pooma_parse.specs.declared.form.RawLine.TheVariants as line
use Rattle.pooma_parse.specs.Lines.{Spells}
use Rattle.pooma_model.specs.declared.statement.Action.{Action}
use Rattle.pooma_model.specs.declared.statement.Action.TheVariants as action
use Rattle.pooma_model.specs.Declarations.{Declared, shape_at}
use Rattle.pooma_model.specs.Fit.{IsReadable, LiesIn}
use Rattle.pooma_script.specs.declared.cause.Cause.{Cause}
use Rattle.pooma_script.specs.declared.cause.Cause.TheVariants as cause
use Rattle.pooma_script.specs.declared.cause.LimitName.{LimitName}
use Rattle.pooma_script.specs.declared.cause.LimitName.TheVariants as limit
use Rattle.pooma_script.specs.After.{after}
use Rattle.pooma_script.specs.Bodies.{depth_in, offsets_in}
use Rattle.pooma_script.specs.Causes.{IsFirstFailed, line_causes}
use Rattle.pooma_script.specs.Known.{Known, declared_in, nothing_known}
use Rattle.pooma_script.specs.Layouts.{axes_of, layers}
use Rattle.pooma_script.specs.Limits.{most}
use Rattle.pooma_script.specs.Scripts.{Becomes, Goes, IsScript, Outcome, Read, Refused, Script, Stops, blank, formless, script_at_end, spelt}
use Rattle.pooma_script.specs.Statements.{Task, action_of, task_of, value_depth, views_read}
use Rattle.pooma_script.specs.Tests.{AreAxes, AreFew, CutsInside, HasDimensions, HasEqualAxes, HasEqualLengths, HasFewExtents, HasFewGuards, HasFewPatches, HasFewParts, HasNearBounds, HasNumbers, HasOwnAxes, HasParts, HasPositions, IsNearZero, IsPlaced, IsShallow, IsWithin, LiesInside, Passes, ReadsApartOf, WritesInside, cut_count, has_names, name_declared, parts_by, total_declared}
use Rattle.pooma_script.specs.Views.{Reading, positions_read}
use Rattle.pooma_logic.specs.Decided.{Or_not}
use Rattle.pooma_logic.proofs.Decided.{all_or_not, as_or_not, at_most_or_not, at_most_ℤ_or_not, below_or_not, below_ℤ_or_not, both_or_not, fails_or_not, pairs_or_not, same_list_or_not, same_ℤ_or_not, some_or_not, three_or_not, true_or_not, zip_or_not}
use Rattle.pooma_script.proofs.DecidedCells.{each_cell_or_not, inside_or_not, some_cell_or_not}

-- views

lies_in_or_not : (declared : Declared) (box : List Interval) (view : Viewed) → Or_not (LiesIn declared box view)
lies_in_or_not declared box view =
    as_or_not (λ h. record { there = h.0; slots = h.1; cells = h.2 }) (λ h. (h.there, h.slots, h.cells))
    (three_or_not (below_or_not view.array (length declared.shapes)) (cases_eq (length view.slots) (length (shape_at declared view.array).total))
    (each_cell_or_not (positions_of view.slots) (λ p. IsIn box (cell_named view.slots p)) (λ p. inside_or_not box (cell_named view.slots p))))

same_cell_or_not : (p q : List ℤ) → Or_not (p ≡ q)
same_cell_or_not = same_list_or_not same_ℤ_or_not

overlap_or_not : (read target : Viewed) → Or_not (IsOverlap read target)
overlap_or_not read target =
    both_or_not (cases_eq read.array target.array)
    (as_or_not (λ h. (h.0, h.2.0, h.1, h.2.1, h.2.2.0, h.2.2.1)) (λ h. (h.0, h.2, (h.1, h.3, (h.4, h.5))))
    (some_cell_or_not (positions_of read.slots)
    (λ p. (q : List ℤ) × IsIn (positions_of target.slots) q × ((p ≢ q) × (cell_named read.slots p ≡ cell_named target.slots q)))
    (λ p.
    some_cell_or_not (positions_of target.slots) (λ q. (p ≢ q) × (cell_named read.slots p ≡ cell_named target.slots q))
    (λ q. both_or_not (fails_or_not (same_cell_or_not p q)) (same_cell_or_not (cell_named read.slots p) (cell_named target.slots q))))))

reads_apart_or_not : (does : Option Action) → Or_not (ReadsApartOf does)
reads_apart_or_not (Some (action.Assign target value mask)) =
    all_or_not (λ view. IsOverlap view target → ⊥) (λ view. fails_or_not (overlap_or_not view target)) (views_of value)
reads_apart_or_not other = inl tt

writes_inside_or_not : (declared : Declared) (does : Option Action) → Or_not (WritesInside declared does)
writes_inside_or_not declared (Some (action.Assign target value mask)) = lies_in_or_not declared (own_area (shape_at declared target.array)) target
writes_inside_or_not declared other = inl tt

-- axes, numbers and lengths

ordered_or_not : (axis : Interval) → Or_not (IsOrdered axis)
ordered_or_not axis = at_most_ℤ_or_not axis.first axis.last

axes_or_not : (n : ℕ) → Or_not (AreAxes n)
axes_or_not n = both_or_not (at_most_or_not 1 n) (at_most_or_not n 3)

own_axes_or_not : (declared : Declared) (reading : Reading) → Or_not (HasOwnAxes declared reading)
own_axes_or_not declared reading =
    both_or_not (cases_eq (length reading.view.slots) (length (shape_at declared reading.view.array).physical))
    (some_or_not (λ (stencil : Stenciled). length reading.positions ≡ length stencil.lower) (λ stencil. cases_eq (length reading.positions) (length stencil.lower)) reading.stencil)

equal_axes_or_not : (declared : Declared) (task : Task) → Or_not (HasEqualAxes declared task)
equal_axes_or_not declared task =
    as_or_not (λ h. record { own = h.0; equal = h.1; indexes = h.2 }) (λ h. (h.own, h.equal, h.indexes))
    (three_or_not (all_or_not (HasOwnAxes declared) (own_axes_or_not declared) task.readings)
    (all_or_not (λ reading. length reading.positions ≡ length task.positions) (λ reading. cases_eq (length reading.positions) (length task.positions)) task.readings)
    (at_most_or_not task.axes (length task.positions)))

positions_or_not : (task : Task) → Or_not (All HasPositions task.readings)
positions_or_not task =
    all_or_not HasPositions (λ reading. both_or_not (all_or_not IsOrdered ordered_or_not reading.positions) (all_or_not IsOrdered ordered_or_not (positions_read reading))) task.readings

readable_or_not : (declared : Declared) (task : Task) (does : Option Action) → Or_not (All (λ reading. IsReadable declared reading.view) task.readings × WritesInside declared does)
readable_or_not declared task does =
    both_or_not
    (all_or_not (λ reading. IsReadable declared reading.view) (λ reading. lies_in_or_not declared (shape_at declared reading.view.array).total reading.view) task.readings)
    (writes_inside_or_not declared does)

same_axis : (a b : Interval) → a.first ≡ b.first → a.last ≡ b.last → a ≡ b
same_axis a b first last = λ i. record { first = first i; last = last i }

same_axis_or_not : (a b : Interval) → Or_not (a ≡ b)
same_axis_or_not a b =
    as_or_not (λ h. same_axis a b h.0 h.1) (λ is. (ap (λ (axis : Interval). axis.first) is, ap (λ (axis : Interval). axis.last) is))
    (both_or_not (same_ℤ_or_not a.first b.first) (same_ℤ_or_not a.last b.last))

equal_lengths_or_not : (task : Task) → Or_not (HasEqualLengths task)
equal_lengths_or_not task =
    all_or_not (λ reading. positions_read reading ≡ task.positions) (λ reading. same_list_or_not same_axis_or_not (positions_read reading) task.positions) task.readings

parts_or_not : (axes : List Interval) (cutting : RawCutting) → Or_not (HasParts axes cutting)
parts_or_not axes (Blocks blocks) =
    zip_or_not IsPartCount (λ axis parts. both_or_not (at_most_ℤ_or_not (pos 1) parts) (at_most_ℤ_or_not parts (pos (axis_length axis)))) axes blocks
parts_or_not axes (Cuts cuts) = all_or_not IsAscending (pairs_or_not _ below_ℤ_or_not) cuts

cuts_inside_or_not : (axes : List Interval) (cutting : RawCutting) → Or_not (CutsInside axes cutting)
cuts_inside_or_not axes (Blocks blocks) = inl tt
cuts_inside_or_not axes (Cuts cuts) =
    zip_or_not AreBorders (λ axis. all_or_not (IsBorder axis) (λ border. both_or_not (below_ℤ_or_not axis.first border) (at_most_ℤ_or_not border axis.last))) axes cuts

-- what each cause asks of a line

placed_or_not : (open_repeats : ℕ) (form : RawLine) → Or_not (IsPlaced open_repeats form)
placed_or_not n (line.Layout layout domain cutting internal external) = cases_eq n 0
placed_or_not n (line.Brick brick domain) = cases_eq n 0
placed_or_not n (line.Array array on) = cases_eq n 0
placed_or_not n (line.Field field on faces) = cases_eq n 0
placed_or_not n (line.Stencil stencil lower upper body) = cases_eq n 0
placed_or_not n line.End = below_or_not 0 n
placed_or_not n other = inl tt

dimensions_or_not : (known : Known) (text : List ℕ) (form : RawLine) → Or_not (HasDimensions known text form)
dimensions_or_not known text (line.Layout layout domain cutting internal external) =
    as_or_not (λ h. (h.0, h.1, h.2.0, h.2.1)) (λ h. (h.0, h.1, (h.2, h.3)))
    (three_or_not (axes_or_not (length domain)) (cases_eq (cut_count cutting) (length domain))
    (both_or_not (cases_eq (length (layers (axes_of domain) internal)) (length domain)) (cases_eq (length (layers (axes_of domain) external)) (length domain))))
dimensions_or_not known text (line.Brick brick domain) = axes_or_not (length domain)
dimensions_or_not known text (line.Array array on) = inl tt
dimensions_or_not known text (line.Field field on faces) = cases_eq (length faces) _
dimensions_or_not known text (line.Stencil stencil lower upper body) =
    three_or_not (axes_or_not (length lower)) (cases_eq (length upper) (length lower))
    (all_or_not (λ offset. length offset ≡ length lower) (λ offset. cases_eq (length offset) (length lower)) (offsets_in body))
dimensions_or_not known text other = equal_axes_or_not (declared_in known) (task_of known text other)

numbers_or_not : (known : Known) (text : List ℕ) (form : RawLine) → Or_not (HasNumbers known text form)
numbers_or_not known text (line.Layout layout domain cutting internal external) =
    both_or_not (all_or_not IsOrdered ordered_or_not (axes_of domain)) (parts_or_not (axes_of domain) cutting)
numbers_or_not known text (line.Brick brick domain) = all_or_not IsOrdered ordered_or_not (axes_of domain)
numbers_or_not known text (line.Repeat turns) = at_most_ℤ_or_not (pos 1) turns
numbers_or_not known text other = positions_or_not (task_of known text other)

inside_line_or_not : (known : Known) (text : List ℕ) (form : RawLine) → Or_not (LiesInside known text form)
inside_line_or_not known text (line.Layout layout domain cutting internal external) = cuts_inside_or_not (axes_of domain) cutting
inside_line_or_not known text (line.Stencil stencil lower upper body) =
    all_or_not (IsIn (reaches lower upper)) (inside_or_not (reaches lower upper)) (offsets_in body)
inside_line_or_not known text other = readable_or_not (declared_in known) (task_of known text other) (action_of known text other)

-- the limits

near_or_not : (bounds : ℤ × ℤ) → Or_not (IsNearZero bounds)
near_or_not bounds = both_or_not (at_most_or_not _ _) (at_most_or_not _ _)

near_bounds_or_not : (form : RawLine) → Or_not (HasNearBounds form)
near_bounds_or_not (line.Layout layout domain cutting internal external) = all_or_not IsNearZero near_or_not domain
near_bounds_or_not (line.Brick brick domain) = all_or_not IsNearZero near_or_not domain
near_bounds_or_not other = inl tt

few_or_not : (name : LimitName) (list : List ℤ) → Or_not (AreFew name list)
few_or_not name list =
    all_or_not (λ n. _) (λ n. both_or_not (at_most_ℤ_or_not (pos 0) n) (at_most_ℤ_or_not n (pos (most name)))) list

few_patches_or_not : (form : RawLine) → Or_not (HasFewPatches form)
few_patches_or_not (line.Layout layout domain cutting internal external) = at_most_or_not (product (parts_by cutting)) (most limit.Patches)
few_patches_or_not other = inl tt

few_guards_or_not : (form : RawLine) → Or_not (HasFewGuards form)
few_guards_or_not (line.Layout layout domain cutting internal external) =
    three_or_not (few_or_not limit.Guards (layers (axes_of domain) internal)) (few_or_not limit.Guards (layers (axes_of domain) external))
    (zip_or_not IsCovering (λ axis depth. at_most_ℤ_or_not depth (pos (axis_length axis))) (axes_of domain) (layers (axes_of domain) external))
few_guards_or_not other = inl tt

few_extents_or_not : (form : RawLine) → Or_not (HasFewExtents form)
few_extents_or_not (line.Stencil stencil lower upper body) = both_or_not (few_or_not limit.Extents lower) (few_or_not limit.Extents upper)
few_extents_or_not other = inl tt

shallow_value_or_not : (does : Option Action) → Or_not (IfSome does (λ it. value_depth it ≤ most limit.Depth))
shallow_value_or_not = some_or_not (λ it. value_depth it ≤ most limit.Depth) (λ it. at_most_or_not (value_depth it) (most limit.Depth))

shallow_or_not : (does : Option Action) (form : RawLine) → Or_not (IsShallow does form)
shallow_or_not does (line.Stencil stencil lower upper body) = at_most_or_not (depth_in body) (most limit.Depth)
shallow_or_not does other = shallow_value_or_not does

few_parts_or_not : (declared : Declared) (does : Option Action) → Or_not (HasFewParts declared does)
few_parts_or_not declared (Some (action.Assign target value mask)) = at_most_or_not _ (most limit.Parts)
few_parts_or_not declared (Some (action.Reduce scalar reduction positions value)) = at_most_or_not _ (most limit.Parts)
few_parts_or_not declared other = inl tt

within_or_not : (name : LimitName) (number : ℕ) (known : Known) (text : List ℕ) (form : RawLine) → Or_not (IsWithin name number known text form)
within_or_not limit.ScriptBytes number known text form = inl tt
within_or_not limit.Lines number known text form = at_most_or_not number (most limit.Lines)
within_or_not limit.Name number known text form =
    some_or_not (λ name. length (text_at text name) ≤ most limit.Name) (λ name. at_most_or_not (length (text_at text name)) (most limit.Name)) (name_declared form)
within_or_not limit.Arrays number known text form = at_most_or_not _ (most limit.Arrays)
within_or_not limit.Coordinate number known text form = near_bounds_or_not form
within_or_not limit.Patches number known text form = few_patches_or_not form
within_or_not limit.Guards number known text form = few_guards_or_not form
within_or_not limit.Extents number known text form = few_extents_or_not form
within_or_not limit.ArrayCells number known text form =
    some_or_not (λ total. length (cells_of total) ≤ most limit.ArrayCells) (λ total. at_most_or_not (length (cells_of total)) (most limit.ArrayCells)) (total_declared known text form)
within_or_not limit.AllocatedCells number known text form = at_most_or_not _ (most limit.AllocatedCells)
within_or_not limit.Views number known text form =
    some_or_not (λ does. length (views_read does) ≤ most limit.Views) (λ does. at_most_or_not (length (views_read does)) (most limit.Views)) (action_of known text form)
within_or_not limit.Depth number known text form = shallow_or_not (action_of known text form) form
within_or_not limit.Repeats number known text form = at_most_or_not _ (most limit.Repeats)
within_or_not limit.Parts number known text form = few_parts_or_not (declared_in known) (action_of known text form)
within_or_not limit.Statements number known text form = at_most_or_not _ (most limit.Statements)
within_or_not limit.PrintedValues number known text form = at_most_or_not _ (most limit.PrintedValues)

passes_or_not : (number : ℕ) (known : Known) (text : List ℕ) (form : RawLine) (why : Cause) → Or_not (Passes number known text form why)
passes_or_not number known text form cause.Syntax = placed_or_not (length known.drafted.open_repeats) form
passes_or_not number known text form cause.Name = true_or_not (has_names known.names text form)
passes_or_not number known text form cause.Dimension = dimensions_or_not known text form
passes_or_not number known text form cause.Empty = numbers_or_not known text form
passes_or_not number known text form cause.Outside = inside_line_or_not known text form
passes_or_not number known text form cause.Unequal = equal_lengths_or_not (task_of known text form)
passes_or_not number known text form cause.Overlap = reads_apart_or_not (action_of known text form)
passes_or_not number known text form (cause.Limit name) = within_or_not name number known text form
passes_or_not number known text form cause.OpenRepeat = inl tt

-- the first that fails can be found
some_first : {A : Type 0} (P : A → Type 0) → ((x : A) → Or_not (P x)) → (xs : List A) → (found : Option A) × IsFirstFailed P xs found
some_first P tell [] = (None, refl)
some_first P tell (x ∷ xs) =
    ⊎_elim (λ passes. let rest = some_first P tell xs in (rest.0, inl (passes, rest.1))) (λ fails. (Some x, inr (fails, refl))) (tell x)

-- a line of a form becomes something
at_form : (number : ℕ) (known : Known) (text : List ℕ) (form : RawLine) → Spells text form → (found : Option Cause)
    → IsFirstFailed (Passes number known text form) line_causes found → (outcome : Outcome) × Becomes number known text outcome
at_form number known text form spelled (Some why) first = (Stops why, spelt form spelled first)
at_form number known text form spelled None first = (Goes (after number known text form), spelt form spelled (first, refl))

-- where a line is blank, or spells a form, or neither
module _ (line_is : (text : List ℕ)
    → IsBlankLine text ⊎ ((form : RawLine) × Spells text form) ⊎ ((IsBlankLine text → ⊥) × ((form : RawLine) → Spells text form → ⊥))) where
  some_outcome : (number : ℕ) (known : Known) (text : List ℕ) → (outcome : Outcome) × Becomes number known text outcome
  some_outcome number known text =
      elim (line_is text) [
        | inl is_blank ↦ ⊎_elim
            (λ many. (Stops (cause.Limit limit.Lines), blank is_blank (many, refl)))
            (λ few. (Goes known, blank is_blank (few, refl)))
            (cases_lt (most limit.Lines) number)
        | inr (inl spelled) ↦
            let first = some_first (Passes number known text spelled.0) (passes_or_not number known text spelled.0) line_causes in
            at_form number known text spelled.0 spelled.1 first.0 first.1
        | inr (inr neither) ↦ (Stops cause.Syntax, formless neither.0 neither.1 refl)
      ]

  go_on : (number : ℕ) (known : Known) (text : List ℕ) (lines : List (List ℕ)) (outcome : Outcome) → Becomes number known text outcome
      → ((next : Known) → (script : Script) × Read (number + 1) next lines script) → (script : Script) × Read number known (text ∷ lines) script
  go_on number known text lines (Stops why) becomes rest = (Refused number why, inl (why, becomes, refl))
  go_on number known text lines (Goes next) becomes rest = ((rest next).0, inr (next, becomes, (rest next).1))

  some_read : (lines : List (List ℕ)) (number : ℕ) (known : Known) → (script : Script) × Read number known lines script
  some_read [] number known = (script_at_end number known, refl)
  some_read (text ∷ lines) number known =
      let becomes = some_outcome number known text in
      go_on number known text lines becomes.0 becomes.1 (some_read lines (number + 1))

  pub some_script_of : (bytes : List ℕ) → (script : Script) × IsScript bytes script
  some_script_of bytes =
      ⊎_elim
      (λ long. (Refused 0 (cause.Limit limit.ScriptBytes), inl (long, refl)))
      (λ within. let read = some_read (lines_of bytes) 1 nothing_known in (read.0, inr (within, read.1)))
      (cases_lt (most limit.ScriptBytes) (length bytes))
