-- What a line does fits what is declared after it, form by form.
use Rattle.std.proofs.Common.{◌≡◌, ℕ, ◌<◌, ◌≤◌, pos, Bool, true, false, List, [], length, Option, None, Some, refl, subst}
use Rattle.std.proofs.lemmas.List.Elements.{All-head, All-nil}
use Rattle.std.specs.Prelude.{All, IsTrue, ◌&&◌, ◌||◌}
use Rattle.pooma_text.specs.declared.span.Span.{Span}
use Rattle.pooma_text.specs.Lines.{text_at}
use Rattle.pooma_domain.specs.Cells.{Interval}
use Rattle.pooma_view.specs.Views.{Viewed}
use Rattle.pooma_expr.specs.declared.reduction.Reduction.TheVariants.{Sum}
use Rattle.pooma_expr.specs.Trees.{axes_needed, depth_of, scalars_needed, views_of}
use Rattle.pooma_stencil.specs.Expansions.{expansion}
use Rattle.pooma_stencil.specs.Stencils.{Stenciled}
use Rattle.pooma_parse.specs.declared.form.RawExpr.{RawExpr}
use Rattle.pooma_parse.specs.declared.form.RawLine.{RawLine}
use Rattle.pooma_parse.specs.declared.form.RawLine.TheVariants as line
use Rattle.pooma_parse.specs.declared.form.RawView.{RawView}
use Rattle.pooma_model.specs.declared.statement.Action.{Action}
use Rattle.pooma_model.specs.declared.statement.Action.TheVariants as action
use Rattle.pooma_model.specs.Fit.{AreFew, IsFit, IsReduceFit, MOST_DEPTH, MOST_READS}
use Rattle.pooma_model.specs.Parts.{parts_of}
use Rattle.pooma_script.specs.declared.names.Named.{Named}
use Rattle.pooma_script.specs.declared.names.Named.TheVariants as named
use Rattle.pooma_script.specs.After.{with_declaration, with_scalar}
use Rattle.pooma_script.specs.Known.{Known, declared_in, is_new, is_scalar, named_at}
use Rattle.pooma_script.specs.Operators.{reduction_of}
use Rattle.pooma_script.specs.Statements.{action_of, first_positions, joined, print_of, scalar_given}
use Rattle.pooma_script.specs.Trees.{axes_in, readings_in, tree_of, unless_scalar}
use Rattle.pooma_script.specs.Views.{positions_read, reading_of, view_of}
use Rattle.pooma_script.proofs.Heads.{not_true}
use Rattle.pooma_check.specs.Seen.{CanSee}
use Rattle.pooma_check.specs.Sound.{IsLimited, IsSound}
use Rattle.pooma_check.proofs.Fits.{assign_fits, first_few, first_from_zero, no_axes_few, print_fits, reduce_fits, reduce_fits_new}
use Rattle.pooma_check.proofs.KnownAfter.{AreThere}

first_true : (a b : Bool) → IsTrue (a && b) → IsTrue a
first_true true b h = refl
first_true false b h = h

module _ (known : Known) (text : List ℕ) (there : AreThere known) (no_scalars : (s : Stenciled) (v : Viewed) → scalars_needed (expansion s v) ≡ 0)
    (no_axes : (s : Stenciled) (v : Viewed) → axes_needed (expansion s v) ≡ 0) where
  -- a scalar's own number or a reduction: the scalar was there, or is new
  given_fits : (name : List ℕ) (what : Option Named) (positions : List Interval) (e : RawExpr) → IsTrue (is_new what || is_scalar what)
      → ((n : ℕ) → what ≡ Some (named.Scalar n) → n < (declared_in known).scalars)
      → All (CanSee (declared_in known)) (readings_in known text e) → All (λ reading. positions_read reading ≡ positions) (readings_in known text e)
      → axes_in e ≤ length positions → AreFew positions → All (λ axis. axis.first ≡ pos 0) positions → depth_of (tree_of known text e) ≤ MOST_DEPTH
      → length (views_of (tree_of known text e)) ≤ MOST_READS → length (parts_of (declared_in known) (views_of (tree_of known text e)) positions) ≤ 65536
      → IsReduceFit (declared_in (with_scalar name what known)) (scalar_given known what) positions (tree_of known text e)
  given_fits name None positions e named below see same enough box zeros shallow few parts =
      reduce_fits_new known text there no_scalars no_axes positions e see same enough box zeros shallow few parts
  given_fits name (Some (named.Layout n)) positions e named below see same enough box zeros shallow few parts = absurd (not_true named)
  given_fits name (Some (named.Array n)) positions e named below see same enough box zeros shallow few parts = absurd (not_true named)
  given_fits name (Some (named.Stencil n)) positions e named below see same enough box zeros shallow few parts = absurd (not_true named)
  given_fits name (Some (named.Scalar n)) positions e named below see same enough box zeros shallow few parts =
      reduce_fits known text there no_scalars no_axes positions e n see same enough box zeros shallow few parts (below n refl)

  -- the print of a bare name
  name_fits : (what : Option Named) (seen : RawView) → ((n : ℕ) → what ≡ Some (named.Scalar n) → n < (declared_in known).scalars)
      → All (CanSee (declared_in known)) (unless_scalar what (reading_of known text None seen)) → IsFit (declared_in known) (print_of what (view_of known text seen))
  name_fits (Some (named.Scalar n)) seen below see = below n refl
  name_fits other seen below see = print_fits known text there no_scalars no_axes seen (All-head (CanSee (declared_in known)) (reading_of known text None seen) [] see)

  scalar_below : (span : Span) (n : ℕ) → named_at known text span ≡ Some (named.Scalar n) → n < (declared_in known).scalars
  scalar_below span n is = there (text_at text span) (named.Scalar n) is

  -- what a line does that passes all tests fits
  pub line_fits : (number : ℕ) (form : RawLine) (does : Action) → IsSound known text form → IsLimited number known text form → action_of known text form ≡ Some does
      → IsFit (declared_in (with_declaration known text form)) does
  line_fits number (line.Assign target op value) does sound limits is =
      let same : action.Assign (view_of known text target) (joined op (view_of known text target) (tree_of known text value)) None ≡ does = cc in
      subst (IsFit (declared_in known)) same
      (assign_fits known text there no_scalars no_axes target op value (positions_read (reading_of known text None target)) sound.seen sound.lengths
      sound.dimensions.indexes sound.inside.1 limits.depth limits.views limits.parts sound.apart)
  line_fits number (line.Scalar scalar value) does sound limits is =
      let same : action.Reduce (scalar_given known (named_at known text scalar)) Sum [] (tree_of known text value) ≡ does = cc in
      subst (IsFit (declared_in (with_declaration known text (line.Scalar scalar value)))) same
      (given_fits (text_at text scalar) (named_at known text scalar) [] value (first_true _ _ sound.names) (scalar_below scalar) sound.seen sound.lengths
      sound.dimensions.indexes no_axes_few (All-nil _) limits.depth limits.views limits.parts)
  line_fits number (line.Reduce scalar word value) does sound limits is =
      let readings = readings_in known text value in
      let same : action.Reduce (scalar_given known (named_at known text scalar)) (reduction_of (text_at text word)) (first_positions readings) (tree_of known text value) ≡ does = cc in
      subst (IsFit (declared_in (with_declaration known text (line.Reduce scalar word value)))) same
      (given_fits (text_at text scalar) (named_at known text scalar) (first_positions readings) value (first_true _ _ sound.names) (scalar_below scalar) sound.seen sound.lengths
      sound.dimensions.indexes (first_few (declared_in known) readings sound.seen) (first_from_zero (declared_in known) readings sound.seen) limits.depth limits.views limits.parts)
  line_fits number (line.PrintView seen) does sound limits is =
      let same : action.PrintView (view_of known text seen) ≡ does = cc in
      subst (IsFit (declared_in known)) same (print_fits known text there no_scalars no_axes seen (All-head (CanSee (declared_in known)) (reading_of known text None seen) [] sound.seen))
  line_fits number (line.PrintName name) does sound limits is =
      let seen : RawView = record { name = name; subs = None } in
      let same : print_of (named_at known text name) (view_of known text seen) ≡ does = cc in
      subst (IsFit (declared_in known)) same (name_fits (named_at known text name) seen (scalar_below name) sound.seen)
  line_fits number line.Block does sound limits is =
      let same : action.Block ≡ does = cc in subst (IsFit (declared_in known)) same tt
  line_fits number other does sound limits is = cc
