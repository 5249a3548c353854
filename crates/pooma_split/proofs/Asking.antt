-- What the pieces of an action are told as, and which of them leave the objects as they are.
use Rattle.std.proofs.Common.{refl, sym, ap, ◌∙◌}
use Rattle.std.proofs.lemmas.Simd.{map-map}
use Rattle.std.specs.Prelude.{◌≡◌, ℕ, ℤ, None, Option, List, [], ◌∷◌, fold, map}
use Rattle.pooma_domain.specs.Cells.{Interval}
use Rattle.pooma_view.specs.Slots.{positions_of}
use Rattle.pooma_view.specs.Views.{Viewed}
use Rattle.pooma_field.specs.Numbered.{Numbered}
use Rattle.pooma_expr.specs.declared.reduction.Reduction.{Reduction}
use Rattle.pooma_expr.specs.declared.tree.Expr.{Expr}
use Rattle.pooma_expr.specs.Trees.{bound, views_of}
use Rattle.pooma_expr.proofs.Bound.{views_bound}
use Rattle.pooma_machine.specs.declared.journal.Entry.{Entry}
use Rattle.pooma_machine.specs.Journal.{entry_of}
use Rattle.pooma_machine.specs.Values.{lent_by, new_value_of, put_back}
use Rattle.pooma_law.specs.Ser.{Results, with_work}
use Rattle.pooma_model.specs.declared.statement.Action.{Action}
use Rattle.pooma_model.specs.declared.statement.Action.TheVariants as action
use Rattle.pooma_model.specs.Assigning.{whole_value}
use Rattle.pooma_model.specs.Declarations.{Declared}
use Rattle.pooma_model.specs.Parts.{parts_of}
use Rattle.pooma_piece.specs.declared.outcome.Outcome.{Outcome}
use Rattle.pooma_piece.specs.declared.task.Task.{Task}
use Rattle.pooma_piece.specs.declared.task.Task.TheVariants as task
use Rattle.pooma_piece.specs.Meaning.{pieces}
use Rattle.pooma_piece.specs.Pieces.{requests_of}
use Rattle.pooma_piece.specs.Requests.{requests_for}
use Rattle.pooma_piece.proofs.Naming.{written_is}
use Rattle.pooma_split.specs.Splits.{object_for, piece_of, pieces_of, pieces_with, views_with, written_for}

-- ---- entries

module _ (declared : Declared) (number : ℕ) (t : Task) (positions : List Interval) where
  -- the entry of a part, by the views of the code alone
  abbrev entry_for : List Viewed → List Interval → Entry
  entry_for views box = record { statement = number; requests = requests_for (written_for declared box t) (map (object_for declared box) views) }

  abbrev entries_for : List Viewed → List Entry
  entries_for views = map (entry_for views) (parts_of declared (views_with t views) positions)

  entries_are : (code : Expr) → map (entry_of pieces) (pieces_with declared number t code positions) ≡ entries_for (views_of code)
  entries_are code = map-map (entry_of pieces) (piece_of declared number t code) (parts_of declared (views_with t (views_of code)) positions)

  same_entries : (xs ys : List ℤ) (e : Expr) → map (entry_of pieces) (pieces_with declared number t (bound xs e) positions) ≡ map (entry_of pieces) (pieces_with declared number t (bound ys e) positions)
  same_entries xs ys e = entries_are (bound xs e) ∙ ap entries_for (views_bound xs e ∙ sym (views_bound ys e)) ∙ sym (entries_are (bound ys e))

-- they are the same, whatever numbers the scalars have
pub entries_alike : (declared : Declared) (xs ys : List ℤ) (number : ℕ) (act : Action) → map (entry_of pieces) (pieces_of declared xs number act) ≡ map (entry_of pieces) (pieces_of declared ys number act)
entries_alike declared xs ys number (action.Assign target value mask) = same_entries declared number (task.Assign target) (positions_of target.slots) xs ys (whole_value target value mask)
entries_alike declared xs ys number (action.Reduce scalar reduction positions value) = same_entries declared number (task.Reduce reduction) positions xs ys value
entries_alike declared xs ys number (action.PrintView view) = refl
entries_alike declared xs ys number (action.PrintScalar scalar) = refl
entries_alike declared xs ys number action.Block = refl

-- ---- objects

-- pieces of a reduction write none
pub reduce_leaves : (declared : Declared) (number : ℕ) (reduction : Reduction) (code : Expr) (boxes : List (List Interval)) (before : Results Numbered Outcome)
    → (fold (with_work pieces) before (map (piece_of declared number (task.Reduce reduction) code) boxes)).objects ≡ before.objects
reduce_leaves declared number reduction code [] before = refl
reduce_leaves declared number reduction code (box ∷ boxes) before =
    let work = piece_of declared number (task.Reduce reduction) code box in
    reduce_leaves declared number reduction code boxes (with_work pieces before work)
    ∙ ap (λ (o : Option ℕ). put_back before.objects o (new_value_of pieces work (lent_by before.objects (requests_of work)))) (written_is None work.reads)
