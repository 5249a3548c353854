-- The views of an action that fits, over the layouts of their arrays.
use Rattle.std.proofs.Common.{refl, sym, ap, subst, arith, get_or}
use Rattle.std.proofs.lemmas.Int.{ints}
use Rattle.std.proofs.lemmas.List.{length-map}
use Rattle.std.proofs.lemmas.List.Elements.{All-cons}
use Rattle.std.specs.Option.{option_map_or}
use Rattle.std.specs.Prelude.{◌≡◌, ℕ, suc, ◌<◌, ℤ, Option, Some, None, List, [], ◌∷◌, length, slice_get, All}
use Rattle.pooma_domain.specs.Cells.{Interval, IsIn}
use Rattle.pooma_view.specs.Overlap.{IsOverlap}
use Rattle.pooma_view.specs.Slots.{cell_named, positions_of}
use Rattle.pooma_view.specs.Views.{Viewed}
use Rattle.pooma_field.specs.declared.faces.Ends.{Ends}
use Rattle.pooma_field.specs.Shapes.{Shaped, IsAround, IsShape, own_area}
use Rattle.pooma_layout.specs.Axes.{total_axis}
use Rattle.pooma_expr.specs.declared.reduction.Reduction.{Reduction}
use Rattle.pooma_expr.specs.declared.tree.Expr.{Expr}
use Rattle.pooma_expr.specs.Trees.{bound, views_of}
use Rattle.pooma_expr.proofs.Bound.{axes_bound, views_bound}
use Rattle.pooma_model.specs.Declarations.{Declared, layout_at, shape_at}
use Rattle.pooma_model.specs.Fit.{IsAssignFit, IsReduceFit, IsReadable, IsWritable, LiesIn}
use Rattle.pooma_store.specs.Stored.{AreArrays, Fits, Stored}
use Rattle.pooma_piece.specs.declared.task.Task.{Task}
use Rattle.pooma_piece.specs.declared.task.Task.TheVariants as task
use Rattle.pooma_split.specs.Splits.{CanSplit, IsPlaced, declared_in, views_with}

-- ---- cells with numbers of their own are total cells

lies_within : (physical total : List Interval) (c : List ℤ) → length total ≡ length physical → ((n : ℕ) (p t : Interval) → slice_get physical n ≡ Some p → slice_get total n ≡ Some t → IsAround p t) → IsIn physical c → IsIn total c
lies_within [] [] c same around h = h
lies_within [] (t ∷ total) c same around h = absurd (omega arith)
lies_within (p ∷ physical) [] c same around h = absurd (omega arith)
lies_within (p ∷ physical) (t ∷ total) [] same around h = absurd h
lies_within (p ∷ physical) (t ∷ total) (x ∷ c) same around h =
    let here : IsAround p t = around 0 p t refl refl in (
      omega (arith, ints, here.low, h.0),
      omega (arith, ints, here.high, h.1),
      lies_within physical total c (omega arith) (λ n. around (suc n)) h.2,
    )

pub own_is_total : (shape : Shaped) (c : List ℤ) → IsShape shape → IsIn (own_area shape) c → IsIn shape.total c
own_is_total shape c valid h = by shape.faces h
  where
    by : (faces : Option (List Ends)) → IsIn (option_map_or (λ f. shape.physical) faces shape.total) c → IsIn shape.total c
    by None inside = inside
    by (Some f) inside = lies_within shape.physical shape.total c valid.same_dims valid.around inside

module _ (declared : Declared) (arrays : AreArrays declared.shapes declared.layouts) where
  placed : (box positions : List Interval) (view : Viewed) → LiesIn declared box view → ((c : List ℤ) → IsIn box c → IsIn (shape_at declared view.array).total c) → positions_of view.slots ≡ positions → IsPlaced declared positions view
  placed box positions view lies within same =
      let there : view.array < length declared.layouts = omega (arith, lies.there, arrays.both) in
      let fits : Fits (shape_at declared view.array) (layout_at declared view.array) = arrays.fitting view.array there in
      record {
        there = there;
        layout = arrays.cut view.array there;
        slots = omega (arith, lies.slots, ap length fits.total, length-map (layout_at declared view.array) total_axis);
        places = same;
        cells = λ p h. subst (λ t. IsIn t (cell_named view.slots p)) fits.total (within (cell_named view.slots p) (lies.cells p (subst (λ b. IsIn b p) (sym same) h)));
      }

  placed_read : (positions : List Interval) (view : Viewed) → IsReadable declared view → positions_of view.slots ≡ positions → IsPlaced declared positions view
  placed_read positions view readable same = placed (shape_at declared view.array).total positions view readable (λ c h. h) same

  placed_target : (view : Viewed) → IsWritable declared view → IsPlaced declared (positions_of view.slots) view
  placed_target view writable =
      let there : view.array < length declared.layouts = omega (arith, writable.there, arrays.both) in
      placed (own_area (shape_at declared view.array)) (positions_of view.slots) view writable (λ c h. own_is_total (shape_at declared view.array) c (arrays.shaped view.array there) h) refl

  placed_reads : (positions : List Interval) (views : List Viewed) → All (IsReadable declared) views → All (λ view. positions_of view.slots ≡ positions) views → All (IsPlaced declared positions) views
  placed_reads positions views readable same = λ k d h. placed_read positions (get_or views k d) (readable k d h) (same k d h)

  -- ---- what makes pieces

  pub assign_splits : (target : Viewed) (whole : Expr) (scalars : List ℤ) → IsAssignFit declared target whole → CanSplit declared (task.Assign target) (bound scalars whole) (positions_of target.slots)
  assign_splits target whole scalars fit =
      let positions = positions_of target.slots in
      record {
        views =
            All-cons (IsPlaced declared positions) target (views_of (bound scalars whole)) (placed_target target fit.writable)
            (subst (All (IsPlaced declared positions)) (sym (views_bound scalars whole)) (placed_reads positions (views_of whole) fit.value.views fit.value.equal));
        few = fit.few_positions.few;
        axes = omega (arith, axes_bound scalars whole, fit.value.axes);
        apart = subst (λ views. All (λ view. IsOverlap view target → ⊥) views) (sym (views_bound scalars whole)) fit.apart;
        cuts = tt;
      }

  pub reduce_splits : (reduction : Reduction) (scalar : ℕ) (positions : List Interval) (whole : Expr) (scalars : List ℤ) → IsReduceFit declared scalar positions whole → CanSplit declared (task.Reduce reduction) (bound scalars whole) positions
  reduce_splits reduction scalar positions whole scalars fit =
      record {
        views = subst (All (IsPlaced declared positions)) (sym (views_bound scalars whole)) (placed_reads positions (views_of whole) fit.value.views fit.value.equal);
        few = fit.few_positions.few;
        axes = omega (arith, axes_bound scalars whole, fit.value.axes);
        apart = tt;
        cuts = tt;
      }

-- however many scalars there are
placed_for : (store : Stored) (n m : ℕ) (positions : List Interval) (view : Viewed) → IsPlaced (declared_in store n) positions view → IsPlaced (declared_in store m) positions view
placed_for store n m positions view placed = record { there = placed.there; layout = placed.layout; slots = placed.slots; places = placed.places; cells = placed.cells }

pub splits_for : (store : Stored) (n m : ℕ) (t : Task) (code : Expr) (positions : List Interval) → CanSplit (declared_in store n) t code positions → CanSplit (declared_in store m) t code positions
splits_for store n m t code positions can = record {
  views = λ k d h. placed_for store n m positions (get_or (views_with t (views_of code)) k d) (can.views k d h);
  few = can.few;
  axes = can.axes;
  apart = can.apart;
  cuts = can.cuts;
}
