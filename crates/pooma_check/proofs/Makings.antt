-- What a sound line reads and makes can be viewed and made.
use Rattle.std.proofs.Common.{◌≡◌, ℕ, List, [], None, Some, subst, arith}
use Rattle.std.proofs.lemmas.List.Elements.{All-head, All-tail}
use Rattle.std.specs.Prelude.{All, IsTrue, ◌||◌}
use Rattle.pooma_text.specs.declared.span.Span.{Span}
use Rattle.pooma_model.specs.Fit.{AreFew}
use Rattle.pooma_parse.specs.declared.form.RawAssign.{RawAssign}
use Rattle.pooma_parse.specs.declared.form.RawExpr.{RawExpr}
use Rattle.pooma_parse.specs.declared.form.RawLine.{RawLine}
use Rattle.pooma_parse.specs.declared.form.RawLine.TheVariants as line
use Rattle.pooma_parse.specs.declared.form.RawView.{RawView}
use Rattle.pooma_script.specs.declared.names.Named.TheVariants as named
use Rattle.pooma_script.specs.Known.{Known, declared_in, is_array, is_new, is_scalar, named_at}
use Rattle.pooma_script.specs.Statements.{first_positions, task_of}
use Rattle.pooma_script.specs.Trees.{names_fit, readings_in, unless_scalar}
use Rattle.pooma_script.specs.Views.{reading_of}
use Rattle.pooma_check.specs.Readings.{CanView, IsSoundReading}
use Rattle.pooma_check.specs.Seen.{CanMake, CanSee}
use Rattle.pooma_check.specs.Sound.{IsSound}
use Rattle.pooma_check.proofs.Fits.{first_few}
use Rattle.pooma_check.proofs.Sounding.{can_view, readings_sound}
use Rattle.pooma_check.proofs.TreeForms.{first_of_and, second_of_and}

module _ (known : Known) (text : List ℕ) where
  pub all_sound : (form : RawLine) → IsSound known text form → All (IsSoundReading (declared_in known)) (task_of known text form).readings
  all_sound form sound = readings_sound known text form sound.dimensions sound.numbers sound.inside

  module _ (target : RawView) (op : RawAssign) (value : RawExpr) (sound : IsSound known text (line.Assign target op value)) where
    pub target_named : IsTrue (is_array (named_at known text target.name))
    target_named = first_of_and (is_array (named_at known text target.name)) (names_fit known.names text value) sound.names

    pub target_viewed : CanView (declared_in known) (reading_of known text None target)
    target_viewed = can_view (declared_in known) (reading_of known text None target)
        (All-head (IsSoundReading (declared_in known)) (reading_of known text None target) (readings_in known text value) (all_sound (line.Assign target op value) sound))

    pub assigned_made : CanMake known text value
    assigned_made = record {
      names = second_of_and (is_array (named_at known text target.name)) (names_fit known.names text value) sound.names;
      reads = All-tail (IsSoundReading (declared_in known)) (reading_of known text None target) (readings_in known text value) (all_sound (line.Assign target op value) sound);
      axes =
          let few = (All-head (CanSee (declared_in known)) (reading_of known text None target) (readings_in known text value) sound.seen).few.box.few in
          let enough = sound.dimensions.indexes in omega (arith, few, enough);
    }

  pub scalar_made : (scalar : Span) (value : RawExpr) → IsSound known text (line.Scalar scalar value) → CanMake known text value
  scalar_made scalar value sound = record {
    names = second_of_and (is_new (named_at known text scalar) || is_scalar (named_at known text scalar)) (names_fit known.names text value) sound.names;
    reads = all_sound (line.Scalar scalar value) sound;
    axes = let enough = sound.dimensions.indexes in omega (arith, enough);
  }

  pub reduced_made : (scalar word : Span) (value : RawExpr) → IsSound known text (line.Reduce scalar word value) → CanMake known text value
  reduced_made scalar word value sound = record {
    names = second_of_and (is_new (named_at known text scalar) || is_scalar (named_at known text scalar)) (names_fit known.names text value) sound.names;
    reads = all_sound (line.Reduce scalar word value) sound;
    axes =
        let few = (first_few (declared_in known) (readings_in known text value) sound.seen).box.few in
        let enough = sound.dimensions.indexes in omega (arith, few, enough);
  }

  pub reduced_few : (scalar word : Span) (value : RawExpr) → IsSound known text (line.Reduce scalar word value) → AreFew (first_positions (readings_in known text value))
  reduced_few scalar word value sound = first_few (declared_in known) (readings_in known text value) sound.seen

  pub printed_viewed : (seen : RawView) → IsSound known text (line.PrintView seen) → CanView (declared_in known) (reading_of known text None seen)
  printed_viewed seen sound = can_view (declared_in known) (reading_of known text None seen)
      (All-head (IsSoundReading (declared_in known)) (reading_of known text None seen) [] (all_sound (line.PrintView seen) sound))

  -- a bare name that is printed, where it is an array's
  pub name_viewed : (name : Span) (n : ℕ) → named_at known text name ≡ Some (named.Array n) → IsSound known text (line.PrintName name)
      → CanView (declared_in known) (reading_of known text None (record { name = name; subs = None }))
  name_viewed name n is sound =
      let reading = reading_of known text None (record { name = name; subs = None }) in
      can_view (declared_in known) reading (All-head (IsSoundReading (declared_in known)) reading []
      (subst (λ what. All (IsSoundReading (declared_in known)) (unless_scalar what reading)) is (all_sound (line.PrintName name) sound)))
