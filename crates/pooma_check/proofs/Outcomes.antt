-- What becomes of a line, by what was found of it.
use Rattle.std.proofs.Common.{◌≡◌, ℕ, List, None, Some}
use Rattle.std.specs.Prelude.{map}
use Rattle.pooma_parse.specs.declared.form.RawLine.{RawLine}
use Rattle.pooma_script.specs.declared.cause.Cause.{Cause}
use Rattle.pooma_script.specs.declared.cause.Cause.TheVariants as cause
use Rattle.pooma_script.specs.declared.cause.LimitName.{LimitName}
use Rattle.pooma_script.specs.After.{after}
use Rattle.pooma_script.specs.Causes.{IsFirstFailed}
use Rattle.pooma_script.specs.Known.{Known}
use Rattle.pooma_script.specs.Limits.{line_limits}
use Rattle.pooma_script.specs.Scripts.{Goes, Stops, form_outcome}
use Rattle.pooma_script.specs.Tests.{IsWithin, Passes}
use Rattle.pooma_check.specs.Sound.{IsLimited, IsSound, early_causes}
use Rattle.pooma_check.proofs.FirstFailed.{AllPass, behind_passed, failed_in_front, failed_of_each, passed_all}

module _ (number : ℕ) (known : Known) (text : List ℕ) (form : RawLine) where
  early_pass : IsSound known text form → AllPass (Passes number known text form) early_causes
  early_pass sound =
      (sound.placed, (sound.names, (sound.dimensions, (sound.numbers, (sound.inside, (sound.lengths, (sound.apart, tt)))))))

  pub stops_early : (why : Cause) → IsFirstFailed (Passes number known text form) early_causes (Some why) → form_outcome number known text form (Stops why)
  stops_early why first = failed_in_front (Passes number known text form) early_causes (map cause.Limit line_limits) why first

  pub stops_late : (name : LimitName) → IsSound known text form → IsFirstFailed (λ l. IsWithin l number known text form) line_limits (Some name)
      → form_outcome number known text form (Stops (cause.Limit name))
  stops_late name sound first =
      behind_passed (Passes number known text form) early_causes (map cause.Limit line_limits) (Some (cause.Limit name)) (early_pass sound)
      (failed_of_each (Passes number known text form) cause.Limit line_limits (Some name) first)

  pub goes_on : (next : Known) → IsSound known text form → IsFirstFailed (λ l. IsWithin l number known text form) line_limits None
      → next ≡ after number known text form → form_outcome number known text form (Goes next)
  goes_on next sound none is = (
    behind_passed (Passes number known text form) early_causes (map cause.Limit line_limits) None (early_pass sound)
        (failed_of_each (Passes number known text form) cause.Limit line_limits None none),
    is,
  )

  pub limited : IsFirstFailed (λ l. IsWithin l number known text form) line_limits None → IsLimited number known text form
  limited none = by (passed_all (λ l. IsWithin l number known text form) line_limits none)
    where
      by : AllPass (λ l. IsWithin l number known text form) line_limits → IsLimited number known text form
      by (lines, (name, (arrays, (coordinate, (patches, (guards, (extents, (array_cells, (allocated_cells, (views, (depth, (repeats, (parts, (statements, (printed, last))))))))))))))) = record {
        lines = lines;
        name = name;
        arrays = arrays;
        coordinate = coordinate;
        patches = patches;
        guards = guards;
        extents = extents;
        array_cells = array_cells;
        allocated_cells = allocated_cells;
        views = views;
        depth = depth;
        repeats = repeats;
        parts = parts;
        statements = statements;
        printed = printed;
      }
