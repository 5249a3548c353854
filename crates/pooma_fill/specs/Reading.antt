-- What an action reads, and which fields in an external cell.
use Rattle.std.specs.Prelude.{ℕ, ◌==◌, Bool, ◌&&◌, not, None, Some, List, [], ◌∷◌, ◌++◌}
use Rattle.std.specs.List.{list_any}
use Rattle.pooma_domain.specs.Cells.{cells_of}
use Rattle.pooma_view.specs.Slots.{cell_named, positions_of}
use Rattle.pooma_view.specs.Views.{Viewed}
use Rattle.pooma_field.specs.Shapes.{Shaped}
use Rattle.pooma_expr.specs.Trees.{views_of}
use Rattle.pooma_model.specs.declared.statement.Action.{Action}
use Rattle.pooma_piece.specs.Lent.{is_in}
use Rattle.pooma_model.specs.declared.statement.Action.TheVariants as action

-- the views that an action reads or prints, those of a mask among them
abbrev pub views_read : Action → List Viewed
views_read (action.Assign target value None) = views_of value
views_read (action.Assign target value (Some mask)) = views_of value ++ views_of mask
views_read (action.Reduce scalar reduction positions value) = views_of value
views_read (action.PrintView view) = view ∷ []
views_read (action.PrintScalar scalar) = []
views_read action.Block = []

-- whether the view is of this array and names, at some position, a cell beside its physical domain
abbrev pub is_external : Shaped → ℕ → Viewed → Bool
is_external shape array view =
    (view.array == array) && list_any (λ p. not (is_in shape.physical (cell_named view.slots p))) (cells_of (positions_of view.slots))

-- whether the action reads this array in such a cell
abbrev pub reads_external : Shaped → ℕ → Action → Bool
reads_external shape array does = list_any (is_external shape array) (views_read does)
