-- The pieces of an action make numbers of 64 bits.
use Rattle.std.proofs.lemmas.List.Elements.{All-map, All-nil}
use Rattle.std.specs.Prelude.{◌≡◌, ℕ, ℤ, true, List, All, slice_index_or}
use Rattle.std.proofs.lemmas.List.Elements.{Contains-get_or}
use Rattle.pooma_logic.proofs.Members.{member_of}
use Rattle.pooma_domain.specs.Cells.{Interval}
use Rattle.pooma_view.specs.Slots.{positions_of}
use Rattle.pooma_view.specs.Views.{Viewed}
use Rattle.pooma_expr.specs.Trees.{bound, views_of}
use Rattle.pooma_expr.specs.Words.{IsWord}
use Rattle.pooma_expr.proofs.Words.{literals_bound}
use Rattle.pooma_model.specs.declared.statement.Action.{Action}
use Rattle.pooma_model.specs.declared.statement.Action.TheVariants as action
use Rattle.pooma_model.specs.Assigning.{whole_value}
use Rattle.pooma_model.specs.Declarations.{Declared}
use Rattle.pooma_model.specs.Fit.{IsFit}
use Rattle.pooma_model.specs.Partitions.{IsPartition}
use Rattle.pooma_model.specs.Parts.{parts_of}
use Rattle.pooma_piece.specs.declared.task.Task.TheVariants as task
use Rattle.pooma_piece.specs.Words.{MakesWords}
use Rattle.pooma_split.specs.Splits.{piece_of, pieces_of, views_with}
use Rattle.pooma_split.specs.Words.{literals_fit_in}
use Rattle.pooma_split.proofs.Boxes.{part_within}

abbrev ArePartitions : Type 0
ArePartitions = (declared : Declared) (views : List Viewed) (positions : List Interval) → IsPartition positions (parts_of declared views positions)

pub pieces_make : (declared : Declared) (scalars : List ℤ) (number : ℕ) (does : Action) → ArePartitions → IsFit declared does → All IsWord scalars → literals_fit_in does ≡ true → All MakesWords (pieces_of declared scalars number does)
pieces_make declared scalars number (action.Assign target value mask) partitions fit few literals =
    let whole = whole_value target value mask in
    let code = bound scalars (whole_value target value mask) in
    let positions = positions_of target.slots in
    let views = views_with (task.Assign target) (views_of (bound scalars (whole_value target value mask))) in
    let boxes = parts_of declared views positions in
    All-map MakesWords (piece_of declared number (task.Assign target) code) boxes
    (λ k d below. (
      (part_within declared views positions (slice_index_or boxes k d) (partitions declared views positions) fit.few_positions.box
          (member_of boxes (slice_index_or boxes k d) (Contains-get_or boxes k d below))).boxed.whole,
      literals_bound scalars few whole literals,
    ))
pieces_make declared scalars number (action.Reduce scalar reduction positions value) partitions fit few literals =
    All-map MakesWords (piece_of declared number (task.Reduce reduction) (bound scalars value)) (parts_of declared (views_of (bound scalars value)) positions) (λ k d below. tt)
pieces_make declared scalars number (action.PrintView view) partitions fit few literals = All-nil MakesWords
pieces_make declared scalars number (action.PrintScalar scalar) partitions fit few literals = All-nil MakesWords
pieces_make declared scalars number action.Block partitions fit few literals = All-nil MakesWords
