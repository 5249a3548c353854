-- What a line does that has no cause to be refused fits what is declared.
use Rattle.std.proofs.Common.{◌≡◌, ℕ, ◌<◌, ◌≤◌, pos, List, [], ◌∷◌, ◌++◌, length, None, sym, ap, subst, ◌∙◌, arith}
use Rattle.std.proofs.lemmas.List.Elements.{All-append, All-cons, All-head, All-nil, All-tail}
use Rattle.std.specs.Prelude.{All, flat_map, slice_index_or}
use Rattle.pooma_domain.specs.Cells.{Interval}
use Rattle.pooma_view.specs.Slots.{positions_of}
use Rattle.pooma_view.specs.Views.{Viewed}
use Rattle.pooma_expr.specs.declared.tree.Expr.{Expr}
use Rattle.pooma_expr.specs.declared.tree.Expr.TheFolds.{fold-roll-Expr}
use Rattle.pooma_expr.specs.declared.tree.Expr.TheOpen.{Expr-F}
use Rattle.pooma_expr.specs.declared.tree.Expr.TheViews.{roll-Expr}
use Rattle.pooma_expr.specs.declared.tree.Op.{Op}
use Rattle.pooma_expr.specs.declared.tree.Op.TheVariants as op
use Rattle.pooma_expr.specs.Trees.{axes_at, axes_needed, depth_of, greatest_by, scalars_at, scalars_needed, views_by, views_of}
use Rattle.pooma_stencil.specs.Expansions.{expansion}
use Rattle.pooma_stencil.specs.Stencils.{Stenciled}
use Rattle.pooma_parse.specs.declared.form.RawAssign.{RawAssign}
use Rattle.pooma_parse.specs.declared.form.RawAssign.TheVariants as assign
use Rattle.pooma_parse.specs.declared.form.RawExpr.{RawExpr}
use Rattle.pooma_parse.specs.declared.form.RawView.{RawView}
use Rattle.pooma_model.specs.Declarations.{Declared, with_one_scalar}
use Rattle.pooma_model.specs.Fit.{AreFew, IsAssignFit, IsPrintFit, IsReduceFit, IsValueOver, IsWritable, MOST_DEPTH, MOST_READS, ReadsApart}
use Rattle.pooma_model.specs.Parts.{parts_of}
use Rattle.pooma_script.specs.Known.{Known, declared_in}
use Rattle.pooma_script.specs.Statements.{first_positions, joined}
use Rattle.pooma_script.specs.Trees.{axes_in, readings_in, tree_of}
use Rattle.pooma_script.specs.Views.{Reading, positions_read, reading_of, view_of}
use Rattle.pooma_check.specs.Readings.{views_of_reading}
use Rattle.pooma_check.specs.Seen.{CanSee, IsSeenAt}
use Rattle.pooma_check.proofs.KnownAfter.{AreThere}
use Rattle.pooma_check.proofs.TreeNeeds.{axes_of_tree, scalars_of_tree}
use Rattle.pooma_check.proofs.TreeViews.{views_of_tree}

-- what holds of all entries of each list holds of all entries of their concatenation
all_flat : {A B : Type 0} (P : B → Type 0) (f : A → List B) (xs : List A) → All (λ x. All P (f x)) xs → All P (flat_map f xs)
all_flat P f [] h = All-nil P
all_flat P f (x ∷ xs) h = All-append P (f x) (flat_map f xs) (All-head (λ y. All P (f y)) x xs h) (all_flat P f xs (All-tail (λ y. All P (f y)) x xs h))

-- the views of readings that all have the same positions
module _ (declared : Declared) (positions : List Interval) where
  seen_views : (readings : List Reading) → All (CanSee declared) readings → All (λ reading. positions_read reading ≡ positions) readings
      → All (IsSeenAt declared positions) (flat_map views_of_reading readings)
  seen_views readings see same = all_flat (IsSeenAt declared positions) views_of_reading readings
      (λ k d below. subst (λ p. All (IsSeenAt declared p) (views_of_reading (slice_index_or readings k d))) (same k d below) (see k d below).views)

-- an expression of which each view may be read at the positions
pub record IsFound (declared : Declared) (positions : List Interval) (e : Expr) : Type 0 where
  pub scalars : scalars_needed e ≤ declared.scalars
  pub axes : axes_needed e ≤ length positions
  pub views : All (IsSeenAt declared positions) (views_of e)

value_over : (declared : Declared) (positions : List Interval) (e : Expr) → IsFound declared positions e → depth_of e ≤ MOST_DEPTH → length (views_of e) ≤ MOST_READS
    → IsValueOver declared positions e
value_over declared positions e found shallow few = record {
  scalars = found.scalars;
  axes = found.axes;
  views = λ k d below. (found.views k d below).readable;
  equal = λ k d below. (found.views k d below).places;
  shallow = shallow;
  few_reads = few;
}

-- the same where a scalar more is declared
with_scalar_more : (declared : Declared) (positions : List Interval) (e : Expr) → IsFound declared positions e → IsFound (with_one_scalar declared) positions e
with_scalar_more declared positions e found = record {
  scalars = let h = found.scalars in omega (arith, h);
  axes = found.axes;
  views = λ k d below. let h = found.views k d below in record {
    readable = record { there = h.readable.there; slots = h.readable.slots; cells = h.readable.cells };
    places = h.places;
  };
}

-- the old values of a target are read first
with_old_views : (o : Op) (target : Viewed) (value : Expr) → views_of (roll-Expr (Expr-F.Bin o (roll-Expr (Expr-F.Read target)) value)) ≡ target ∷ views_of value
with_old_views o target value =
    fold-roll-Expr (List Viewed) views_by (Expr-F.Bin o (roll-Expr (Expr-F.Read target)) value)
    ∙ ap (λ l. l ++ views_of value) (fold-roll-Expr (List Viewed) views_by (Expr-F.Read target))

-- an assignment's whole value
module _ (declared : Declared) (positions : List Interval) (target : Viewed) (value : Expr) (seen : IsSeenAt declared positions target)
    (found : IsFound declared positions value) where
  with_old : (o : Op) → views_of (roll-Expr (Expr-F.Bin o (roll-Expr (Expr-F.Read target)) value)) ≡ target ∷ views_of value
      → IsFound declared positions (roll-Expr (Expr-F.Bin o (roll-Expr (Expr-F.Read target)) value))
  with_old o views = record {
    scalars = let e = fold-roll-Expr ℕ (greatest_by scalars_at) (Expr-F.Bin o (roll-Expr (Expr-F.Read target)) value) in
        let f = fold-roll-Expr ℕ (greatest_by scalars_at) (Expr-F.Read target) in let h = found.scalars in omega (arith, e, f, h);
    axes = let e = fold-roll-Expr ℕ (greatest_by axes_at) (Expr-F.Bin o (roll-Expr (Expr-F.Read target)) value) in
        let f = fold-roll-Expr ℕ (greatest_by axes_at) (Expr-F.Read target) in let h = found.axes in omega (arith, e, f, h);
    views = subst (All (IsSeenAt declared positions)) (sym views) (All-cons (IsSeenAt declared positions) target (views_of value) seen found.views);
  }

  pub found_joined : (how : RawAssign) → IsFound declared positions (joined how target value)
  found_joined assign.Plain = found
  found_joined assign.Add = with_old op.Add (with_old_views op.Add target value)
  found_joined assign.Sub = with_old op.Sub (with_old_views op.Sub target value)
  found_joined assign.Mul = with_old op.Mul (with_old_views op.Mul target value)

-- the one position without axes
pub no_axes_few : AreFew []
no_axes_few = record { box = record { few = omega arith; whole = All-nil _; countable = omega arith }; few = omega arith }

-- the positions of what is read first
pub first_few : (declared : Declared) (readings : List Reading) → All (CanSee declared) readings → AreFew (first_positions readings)
first_few declared [] see = no_axes_few
first_few declared (reading ∷ readings) see = (All-head (CanSee declared) reading readings see).few

pub first_from_zero : (declared : Declared) (readings : List Reading) → All (CanSee declared) readings → All (λ axis. axis.first ≡ pos 0) (first_positions readings)
first_from_zero declared [] see = All-nil _
first_from_zero declared (reading ∷ readings) see = (All-head (CanSee declared) reading readings see).from_zero

module _ (known : Known) (text : List ℕ) (there : AreThere known) (no_scalars : (s : Stenciled) (v : Viewed) → scalars_needed (expansion s v) ≡ 0)
    (no_axes : (s : Stenciled) (v : Viewed) → axes_needed (expansion s v) ≡ 0) where
  abbrev declared : Declared
  declared = declared_in known

  abbrev tree : RawExpr → Expr
  tree = tree_of known text

  abbrev made : RawExpr → List Reading
  made = readings_in known text

  found_tree : (positions : List Interval) (e : RawExpr) → All (CanSee declared) (made e) → All (λ reading. positions_read reading ≡ positions) (made e)
      → axes_in e ≤ length positions → IsFound declared positions (tree e)
  found_tree positions e see same enough = record {
    scalars = scalars_of_tree known text there no_scalars e;
    axes = let h = axes_of_tree known text no_axes e in omega (arith, h, enough);
    views = subst (All (IsSeenAt declared positions)) (sym (views_of_tree known text e)) (seen_views declared positions (made e) see same);
  }

  -- an assignment
  pub assign_fits : (target : RawView) (how : RawAssign) (value : RawExpr) (positions : List Interval)
      → All (CanSee declared) (reading_of known text None target ∷ made value)
      → All (λ reading. positions_read reading ≡ positions) (reading_of known text None target ∷ made value)
      → axes_in value ≤ length positions → IsWritable declared (view_of known text target)
      → depth_of (joined how (view_of known text target) (tree value)) ≤ MOST_DEPTH
      → length (views_of (joined how (view_of known text target) (tree value))) ≤ MOST_READS
      → length (parts_of declared (view_of known text target ∷ views_of (joined how (view_of known text target) (tree value))) (positions_of (view_of known text target).slots)) ≤ 65536
      → ReadsApart (view_of known text target) (joined how (view_of known text target) (tree value))
      → IsAssignFit declared (view_of known text target) (joined how (view_of known text target) (tree value))
  assign_fits target how value positions see same enough writable shallow few parts apart =
      let reading = reading_of known text None target in
      let view = view_of known text target in
      let first = All-head (CanSee declared) reading (made value) see in
      let here : positions_read reading ≡ positions = All-head (λ r. positions_read r ≡ positions) reading (made value) same in
      let seen : IsSeenAt declared positions view = subst (λ p. IsSeenAt declared p view) here (All-head (IsSeenAt declared (positions_read reading)) view [] first.views) in
      let found : IsFound declared positions (tree value) =
      found_tree positions value (All-tail (CanSee declared) reading (made value) see) (All-tail (λ r. positions_read r ≡ positions) reading (made value) same) enough in
      let whole : IsFound declared positions (joined how view (tree value)) = found_joined declared positions view (tree value) seen found how in
      let places : positions ≡ positions_of view.slots = sym seen.places in
      record {
        writable = writable;
        few_positions = subst AreFew (here ∙ places) first.few;
        value = subst (λ p. IsValueOver declared p (joined how view (tree value))) places (value_over declared positions (joined how view (tree value)) whole shallow few);
        parts = parts;
        apart = apart;
      }

  -- what is printed of an array
  pub print_fits : (seen : RawView) → CanSee declared (reading_of known text None seen) → IsPrintFit declared (view_of known text seen)
  print_fits seen see =
      let reading = reading_of known text None seen in
      let h = All-head (IsSeenAt declared (positions_read reading)) (view_of known text seen) [] see.views in
      record { readable = h.readable; few_positions = subst AreFew (sym h.places) see.few }

  -- a reduction, where its scalar was there or is new
  pub reduce_fits : (positions : List Interval) (e : RawExpr) (scalar : ℕ) → All (CanSee declared) (made e) → All (λ reading. positions_read reading ≡ positions) (made e)
      → axes_in e ≤ length positions → AreFew positions → All (λ axis. axis.first ≡ pos 0) positions → depth_of (tree e) ≤ MOST_DEPTH
      → length (views_of (tree e)) ≤ MOST_READS → length (parts_of declared (views_of (tree e)) positions) ≤ 65536 → scalar < declared.scalars
      → IsReduceFit declared scalar positions (tree e)
  reduce_fits positions e scalar see same enough box zeros shallow few parts below = record {
    there = below;
    from_zero = zeros;
    few_positions = box;
    value = value_over declared positions (tree e) (found_tree positions e see same enough) shallow few;
    parts = parts;
  }

  pub reduce_fits_new : (positions : List Interval) (e : RawExpr) → All (CanSee declared) (made e) → All (λ reading. positions_read reading ≡ positions) (made e)
      → axes_in e ≤ length positions → AreFew positions → All (λ axis. axis.first ≡ pos 0) positions → depth_of (tree e) ≤ MOST_DEPTH
      → length (views_of (tree e)) ≤ MOST_READS → length (parts_of declared (views_of (tree e)) positions) ≤ 65536
      → IsReduceFit (with_one_scalar declared) declared.scalars positions (tree e)
  reduce_fits_new positions e see same enough box zeros shallow few parts = record {
    there = omega arith;
    from_zero = zeros;
    few_positions = box;
    value = value_over (with_one_scalar declared) positions (tree e) (with_scalar_more declared positions (tree e) (found_tree positions e see same enough)) shallow few;
    parts = parts;
  }
