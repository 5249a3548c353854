-- What is known after a line that is not refused.
use Rattle.std.specs.Prelude.{ℕ, ◌+◌, ◌*◌, List, [], ◌∷◌, ◌++◌, length, map, Option, None, Some}
use Rattle.pooma_text.specs.Lines.{text_at}
use Rattle.pooma_domain.specs.Cells.{count_of}
use Rattle.pooma_field.specs.Faces.{by_axis}
use Rattle.pooma_field.specs.Shapes.{Shaped}
use Rattle.pooma_layout.specs.Axes.{CutAxis}
use Rattle.pooma_layout.specs.Patches.{allocated_count}
use Rattle.pooma_stencil.specs.Stencils.{Stenciled}
use Rattle.pooma_parse.specs.declared.form.RawLine.{RawLine}
use Rattle.pooma_parse.specs.declared.form.RawLine.TheVariants as line
use Rattle.pooma_model.specs.declared.statement.Action.{Action}
use Rattle.pooma_model.specs.Declarations.{with_array, with_one_scalar}
use Rattle.pooma_model.specs.Order.{with_end, with_repeat, with_statements}
use Rattle.pooma_script.specs.declared.names.Named.{Named}
use Rattle.pooma_script.specs.declared.names.Named.TheVariants as named
use Rattle.pooma_script.specs.Bodies.{body_of}
use Rattle.pooma_script.specs.Known.{Known, declared_in, layout_named, named_at, turns_in}
use Rattle.pooma_script.specs.Layouts.{axes_of, brick_of, layout_of, shape_on}
use Rattle.pooma_script.specs.Operators.{updater_of}
use Rattle.pooma_script.specs.Statements.{action_of, values_printed}

abbrev pub with_name : List ℕ → Named → Known → Known
with_name name what known = record known { names = known.names ++ (name, what) ∷ [] }

abbrev pub with_layout : List ℕ → List CutAxis → Known → Known
with_layout name layout known =
    with_name name (named.Layout (length known.layouts)) (record known { layouts = known.layouts ++ layout ∷ [] })

abbrev pub with_stencil : List ℕ → Stenciled → Known → Known
with_stencil name stencil known =
    with_name name (named.Stencil (length known.stencils)) (record known { stencils = known.stencils ++ stencil ∷ [] })

abbrev pub with_new_array : List ℕ → Shaped → List CutAxis → Known → Known
with_new_array name shape layout known =
    with_name name (named.Array (length (declared_in known).shapes)) (record known {
      drafted = record known.drafted { declared = with_array shape layout (declared_in known) };
      allocated = known.allocated + allocated_count layout;
    })

-- a scalar that is there stays
abbrev pub with_scalar : List ℕ → Option Named → Known → Known
with_scalar name (Some what) known = known
with_scalar name None known =
    with_name name (named.Scalar (declared_in known).scalars) (record known {
      drafted = record known.drafted { declared = with_one_scalar (declared_in known) };
    })

-- the statement on the line of this number counts as often as it is done
abbrev pub with_action : ℕ → Action → Known → Known
with_action number action known = record known {
  drafted = with_statements (record { line = number; action = action } ∷ []) known.drafted;
  executed = known.executed + turns_in known;
  printed = known.printed + turns_in known * values_printed action;
}

abbrev pub with_action_of : ℕ → Option Action → Known → Known
with_action_of number None known = known
with_action_of number (Some action) known = with_action number action known

-- what the line declares, or begins, or ends
abbrev pub with_declaration : Known → List ℕ → RawLine → Known
with_declaration known text (line.Layout layout domain cutting internal external) =
    with_layout (text_at text layout) (layout_of (axes_of domain) cutting internal external) known
with_declaration known text (line.Brick brick domain) =
    let layout = brick_of (axes_of domain) in with_new_array (text_at text brick) (shape_on layout None) layout known
with_declaration known text (line.Array array on) =
    let layout = layout_named known (named_at known text on) in with_new_array (text_at text array) (shape_on layout None) layout known
with_declaration known text (line.Field field on faces) =
    let layout = layout_named known (named_at known text on) in
    with_new_array (text_at text field) (shape_on layout (Some (by_axis (map updater_of faces)))) layout known
with_declaration known text (line.Stencil stencil lower upper body) =
    with_stencil (text_at text stencil) (record { lower = lower; upper = upper; body = body_of body }) known
with_declaration known text (line.Scalar scalar value) = with_scalar (text_at text scalar) (named_at known text scalar) known
with_declaration known text (line.Reduce scalar word value) = with_scalar (text_at text scalar) (named_at known text scalar) known
with_declaration known text (line.Repeat turns) = record known { drafted = with_repeat (count_of turns) known.drafted }
with_declaration known text line.End = record known { drafted = with_end known.drafted }
with_declaration known text other = known

-- what is known after the line of this number
abbrev pub after : ℕ → Known → List ℕ → RawLine → Known
after number known text form = with_action_of number (action_of known text form) (with_declaration known text form)
