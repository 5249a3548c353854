-- Behind its fills each field is fresh of which an action reads or prints an external cell.
use Rattle.std.proofs.Common.{sym, ap, ◌∙◌, subst, arith}
use Rattle.std.proofs.lemmas.Bool.{false≢true}
use Rattle.std.proofs.lemmas.List.{length-map}
use Rattle.std.proofs.lemmas.List.Elements.{All-append, All-cons, All-nil, Contains-get_or}
use Rattle.std.proofs.lemmas.Option.{get_or_from_slice_get, slice_get-map}
use Rattle.std.specs.Option.{option_map, option_map_or}
use Rattle.std.specs.Prelude.{◌≡◌, ℕ, ◌<◌, ℤ, Option, Some, None, IsSome, List, [], ◌∷◌, ◌++◌, length, map, slice_index_or, All, Contains}
use Rattle.pooma_domain.specs.Cells.{Interval, IsIn}
use Rattle.pooma_view.specs.Slots.{cell_named, positions_of}
use Rattle.pooma_view.specs.Views.{Viewed}
use Rattle.pooma_field.specs.declared.faces.Ends.{Ends}
use Rattle.pooma_field.specs.Numbered.{Numbered}
use Rattle.pooma_field.specs.Shapes.{Shaped, own_area}
use Rattle.pooma_field.specs.ShapeOf.{shape_of}
use Rattle.pooma_field.specs.Worlds.{World}
use Rattle.pooma_layout.proofs.Choices.{slice_get_some}
use Rattle.pooma_expr.specs.declared.tree.Expr.{Expr}
use Rattle.pooma_expr.specs.declared.tree.Expr.TheOpen.{Expr-F}
use Rattle.pooma_expr.specs.declared.tree.Expr.TheViews.{roll-Expr}
use Rattle.pooma_expr.specs.declared.tree.Expr.TheFolds.{fold-roll-Expr}
use Rattle.pooma_expr.specs.Trees.{views_by, views_of}
use Rattle.pooma_model.specs.declared.statement.Action.{Action}
use Rattle.pooma_model.specs.declared.statement.Action.TheVariants as action
use Rattle.pooma_model.specs.Assigning.{whole_value}
use Rattle.pooma_model.specs.Declarations.{Declared}
use Rattle.pooma_model.specs.Declarations.{shape_at as declared_shape}
use Rattle.pooma_model.specs.Fit.{IsAssignFit, IsFit, IsReadable}
use Rattle.pooma_model.proofs.Reading.{all_left, all_right}
use Rattle.pooma_store.specs.Standing.{IsFreshFor, IsOwn, shape_at}
use Rattle.pooma_store.specs.Stored.{Stored}
use Rattle.pooma_fill.specs.Freshened.{CanFill, filled}
use Rattle.pooma_fill.specs.Gathered.{HasLaws}
use Rattle.pooma_fill.specs.Marks.{Staled, declared_of}
use Rattle.pooma_fill.specs.Reading.{views_read}
use Rattle.pooma_fill.proofs.Freshening.{read_fresh}
use Rattle.pooma_fill.proofs.Marking.{shape_there}

-- ---- the views of an action

views_masked : (target : Viewed) (value mask : Expr) → views_of (whole_value target value (Some mask)) ≡ views_of mask ++ (views_of value ++ target ∷ [])
views_masked target value mask =
    fold-roll-Expr (List Viewed) views_by (Expr-F.Where mask value (roll-Expr (Expr-F.Read target)))
    ∙ ap (λ (views : List Viewed). views_of mask ++ (views_of value ++ views)) (fold-roll-Expr (List Viewed) views_by (Expr-F.Read target))

readable : (declared : Declared) (does : Action) → IsFit declared does → All (IsReadable declared) (views_read does)
readable declared (action.Assign target value None) fit = fit.value.views
readable declared (action.Assign target value (Some mask)) fit =
    let all : All (IsReadable declared) (views_of mask ++ (views_of value ++ target ∷ [])) = subst (All (IsReadable declared)) (views_masked target value mask) fit.value.views in
    All-append (IsReadable declared) (views_of value) (views_of mask)
    (all_left (IsReadable declared) (views_of value) (target ∷ []) (all_right (IsReadable declared) (views_of mask) (views_of value ++ target ∷ []) all))
    (all_left (IsReadable declared) (views_of mask) (views_of value ++ target ∷ []) all)
readable declared (action.Reduce scalar reduction positions value) fit = fit.value.views
readable declared (action.PrintView view) fit = All-cons (IsReadable declared) view [] fit.readable (All-nil (IsReadable declared))
readable declared (action.PrintScalar scalar) fit = All-nil (IsReadable declared)
readable declared action.Block fit = All-nil (IsReadable declared)

-- ---- their fields

-- of a field a cell that has no number of its own is not physical
not_physical : (faces : Option (List Ends)) (physical total : List Interval) (c : List ℤ) → IsSome faces → ¬ (IsIn (option_map_or (λ f. physical) faces total) c) → ¬ (IsIn physical c)
not_physical None physical total c faced out h = false≢true faced
not_physical (Some f) physical total c faced out h = out h

module _ (laws : HasLaws) (store : Stored) (stale : Staled) (number : ℕ) (objects : List Numbered) (world : World) (can : CanFill store stale objects world) where
  abbrev FreshAfter : Action → Viewed → Type 0
  FreshAfter does view = IsFreshFor store.shapes store.layouts (filled store stale number does objects).objects world view

  fresh_for : (does : Action) (view : Viewed) → Contains (views_read does) view → view.array < length stale.shapes → FreshAfter does view
  fresh_for does view listed below p inside out c field in_total outside =
      let shape = shape_at store.shapes view.array in
      read_fresh laws store stale number does objects world can view p listed below inside (not_physical shape.faces shape.physical shape.total _ field.faced out) c field in_total outside

  pub all_fresh : (does : Action) → IsFit (declared_of stale) does → All (FreshAfter does) (views_read does)
  all_fresh does fit k d below =
      fresh_for does (slice_index_or (views_read does) k d) (Contains-get_or (views_read does) k d below)
      (omega (arith, (readable (declared_of stale) does fit k d below).there, length-map stale.shapes shape_of))

  -- the target of an assignment names cells that have numbers of their own alone
  target_own : (target : Viewed) (whole : Expr) → IsAssignFit (declared_of stale) target whole → (p : List ℤ) → IsIn (positions_of target.slots) p → IsOwn store.shapes target p
  target_own target whole fit p inside =
      let below : target.array < length stale.shapes = omega (arith, fit.writable.there, length-map stale.shapes shape_of) in
      let shape = slice_get_some stale.shapes target.array below in
      let declared : declared_shape (declared_of stale) target.array ≡ shape_of shape.0 =
      get_or_from_slice_get (map shape_of stale.shapes) target.array (shape_of shape.0) (record { physical = []; total = []; faces = None })
      (slice_get-map shape_of stale.shapes target.array ∙ ap (option_map shape_of) shape.1) in
      subst (λ (s : Shaped). IsIn (own_area s) (cell_named target.slots p)) (declared ∙ sym (shape_there store.shapes stale.shapes target.array shape.0 can.has.shapes shape.1)) (fit.writable.cells p inside)

  pub whole_fresh : (target : Viewed) (value : Expr) (mask : Option Expr) → IsFit (declared_of stale) (action.Assign target value mask) → All (FreshAfter (action.Assign target value mask)) (views_of (whole_value target value mask))
  whole_fresh target value None fit = all_fresh (action.Assign target value None) fit
  whole_fresh target value (Some mask) fit =
      let does = action.Assign target value (Some mask) in
      let read : All (FreshAfter (action.Assign target value (Some mask))) (views_of value ++ views_of mask) = all_fresh does fit in
      let of_target : FreshAfter (action.Assign target value (Some mask)) target = λ p inside out. absurd (out (target_own target (whole_value target value (Some mask)) fit p inside)) in
      subst (All (FreshAfter (action.Assign target value (Some mask)))) (sym (views_masked target value mask))
      (All-append (FreshAfter does) (views_of mask) (views_of value ++ target ∷ []) (all_right (FreshAfter does) (views_of value) (views_of mask) read)
      (All-append (FreshAfter does) (views_of value) (target ∷ []) (all_left (FreshAfter does) (views_of value) (views_of mask) read)
      (All-cons (FreshAfter does) target [] of_target (All-nil (FreshAfter does)))))
