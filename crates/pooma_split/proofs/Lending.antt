-- What objects lend to the piece of a part: for each view the content of the object in which it is read.
use Rattle.std.proofs.Common.{sym, ap, ◌∙◌, subst, inr}
use Rattle.std.proofs.lemmas.List.Elements.{All-cons, All-nil, All-head, All-tail}
use Rattle.std.proofs.lemmas.Option.{get_or_from_slice_get, slice_get_within}
use Rattle.std.specs.Prelude.{◌≡◌, ℕ, ◌<◌, Some, List, [], ◌∷◌, length, map, slice_get, All, Contains}
use Rattle.pooma_domain.specs.Cells.{Interval}
use Rattle.pooma_view.specs.Views.{Viewed}
use Rattle.pooma_expr.specs.declared.tree.Expr.{Expr}
use Rattle.pooma_expr.specs.Trees.{views_of}
use Rattle.pooma_machine.specs.Values.{Lent, lent_by}
use Rattle.pooma_model.specs.Declarations.{Declared}
use Rattle.pooma_store.specs.Numbering.{object_count}
use Rattle.pooma_piece.specs.declared.task.Task.{Task}
use Rattle.pooma_piece.specs.declared.task.Task.TheVariants as task
use Rattle.pooma_piece.specs.Lent.{lent_for, read_in}
use Rattle.pooma_piece.specs.Pieces.{Pieced, requests_of}
use Rattle.pooma_piece.proofs.Below.{requests_below}
use Rattle.pooma_piece.proofs.Naming.{lent_is}
use Rattle.pooma_piece.proofs.Seen.{read_in_is}
use Rattle.pooma_split.specs.Splits.{CanSplit, IsPlaced, object_for, piece_of, views_with, written_for}
use Rattle.pooma_split.proofs.Piecing.{IsWithin, object_known, read_alike, read_at, reads_placed}

module _ (declared : Declared) (positions box : List Interval) (within : IsWithin box positions) (number : ℕ) (t : Task) (code : Expr) (can : CanSplit declared t code positions) where
  abbrev pub piece : Pieced
  piece = piece_of declared number t code box

  written_known : (u : Task) (views : List Viewed) → All (IsPlaced declared positions) (views_with u views) → (o : ℕ) → written_for declared box u ≡ Some o → o < object_count declared.layouts
  written_known (task.Assign target) views placed o is =
      subst (λ x. x < object_count declared.layouts) (let e : object_for declared box target ≡ o = cc in e)
      (object_known declared positions box within target (All-head (IsPlaced declared positions) target views placed))
  written_known (task.Reduce reduction) views placed o is = cc
  written_known (task.Fill shape slab array) views placed o is = cc
  written_known (task.Guard array) views placed o is = cc

  reads_known : (views : List Viewed) → All (IsPlaced declared positions) views → All (λ o. o < object_count declared.layouts) (map (object_for declared box) views)
  reads_known [] placed = All-nil (λ o. o < object_count declared.layouts)
  reads_known (view ∷ views) placed =
      All-cons (λ o. o < object_count declared.layouts) (object_for declared box view) (map (object_for declared box) views)
      (object_known declared positions box within view (All-head (IsPlaced declared positions) view views placed))
      (reads_known views (All-tail (IsPlaced declared positions) view views placed))

  -- each object that is asked for is there
  pub all_known : All (λ r. r.object < object_count declared.layouts) (requests_of piece)
  all_known =
      requests_below (object_count declared.layouts) (written_for declared box t) (map (object_for declared box) (views_of code))
      (written_known t (views_of code) can.views)
      (reads_known (views_of code) (reads_placed (IsPlaced declared positions) t (views_of code) can.views))

  module _ {A : Type 0} (objects : List A) (counted : length objects ≡ object_count declared.layouts) where
    abbrev pub lent : Lent A
    lent = lent_by objects (requests_of piece)

    there : All (λ r. r.object < length objects) (requests_of piece)
    there = subst (λ n. All (λ r. r.object < n) (requests_of piece)) (sym counted) all_known

    -- for each view of the code
    pub lent_of_view : (k : ℕ) (view : Viewed) → slice_get (views_of code) k ≡ Some view → lent_for piece lent.written lent.reads (read_in piece view) ≡ slice_get objects (object_for declared box view)
    lent_of_view k view at =
        let read = read_at declared positions box within (views_of code) k view at in
        let found : Contains piece.reads (object_for declared box view) = (k, slice_get_within piece.reads k (object_for declared box view) read, get_or_from_slice_get piece.reads k (object_for declared box view) (object_for declared box view) read) in
        ap (lent_for piece lent.written lent.reads) (read_in_is piece k view (object_for declared box view) (read_alike declared positions box within (views_of code)) at read)
        ∙ lent_is piece objects (object_for declared box view) there (inr found)
