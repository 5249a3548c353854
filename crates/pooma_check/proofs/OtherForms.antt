-- What the tests ask of lines of most forms.
use Rattle.std.proofs.Common.{◌≡◌, ℕ, ℤ, List, Option, Some, refl}
use Rattle.std.specs.Prelude.{All}
use Rattle.pooma_text.specs.declared.span.Span.{Span}
use Rattle.pooma_view.specs.Views.{Viewed}
use Rattle.pooma_parse.specs.declared.form.RawAssign.{RawAssign}
use Rattle.pooma_parse.specs.declared.form.RawCutting.{RawCutting}
use Rattle.pooma_parse.specs.declared.form.RawExpr.{RawExpr}
use Rattle.pooma_parse.specs.declared.form.RawView.{RawView}
use Rattle.pooma_parse.specs.declared.form.RawLine.{RawLine}
use Rattle.pooma_parse.specs.declared.form.RawLine.TheVariants as line
use Rattle.pooma_model.specs.Fit.{IsReadable}
use Rattle.pooma_script.specs.declared.names.Named.{Named}
use Rattle.pooma_script.specs.declared.names.Named.TheVariants as named
use Rattle.pooma_script.specs.Known.{Known, declared_in, named_at}
use Rattle.pooma_script.specs.Statements.{action_of, print_of, task_of}
use Rattle.pooma_script.specs.Tests.{HasNumbers, HasPositions, LiesInside, ReadsApartOf, WritesInside}

module _ (known : Known) (text : List ℕ) where
  pub numbers_of_others : (form : RawLine) → ((layout : Span) (domain : List (ℤ × ℤ)) (cutting : RawCutting) (internal : List ℤ) (external : List ℤ) → form ≡ line.Layout layout domain cutting internal external → ⊥) → ((brick : Span) (domain : List (ℤ × ℤ)) → form ≡ line.Brick brick domain → ⊥)
      → ((turns : ℤ) → form ≡ line.Repeat turns → ⊥) → HasNumbers known text form ≡ All HasPositions (task_of known text form).readings
  numbers_of_others (line.Layout layout domain cutting internal external) l b r = absurd (l layout domain cutting internal external refl)
  numbers_of_others (line.Brick brick domain) l b r = absurd (b brick domain refl)
  numbers_of_others (line.Repeat turns) l b r = absurd (r turns refl)
  numbers_of_others other l b r = refl

  prints_inside : (what : Option Named) (view : Viewed) → WritesInside (declared_in known) (Some (print_of what view))
  prints_inside (Some (named.Scalar n)) view = tt
  prints_inside other view = tt

  prints_apart : (what : Option Named) (view : Viewed) → ReadsApartOf (Some (print_of what view))
  prints_apart (Some (named.Scalar n)) view = tt
  prints_apart other view = tt

  abbrev AreReadable : RawLine → Type 0
  AreReadable form = All (λ reading. IsReadable (declared_in known) reading.view) (task_of known text form).readings

  pub inside_of_others : (form : RawLine) → ((layout : Span) (domain : List (ℤ × ℤ)) (cutting : RawCutting) (internal : List ℤ) (external : List ℤ) → form ≡ line.Layout layout domain cutting internal external → ⊥) → ((stencil : Span) (lower : List ℤ) (upper : List ℤ) (body : RawExpr) → form ≡ line.Stencil stencil lower upper body → ⊥)
      → ((target : RawView) (op : RawAssign) (value : RawExpr) → form ≡ line.Assign target op value → ⊥) → AreReadable form → LiesInside known text form
  inside_of_others (line.Layout layout domain cutting internal external) l s w h = absurd (l layout domain cutting internal external refl)
  inside_of_others (line.Stencil stencil lower upper body) l s w h = absurd (s stencil lower upper body refl)
  inside_of_others (line.Assign target op value) l s w h = absurd (w target op value refl)
  inside_of_others (line.PrintName name) l s w h = (h, prints_inside (named_at known text name) _)
  inside_of_others other l s w h = (h, tt)

  pub apart_of_others : (form : RawLine) → ((target : RawView) (op : RawAssign) (value : RawExpr) → form ≡ line.Assign target op value → ⊥) → ReadsApartOf (action_of known text form)
  apart_of_others (line.Assign target op value) w = absurd (w target op value refl)
  apart_of_others (line.PrintName name) w = prints_apart (named_at known text name) _
  apart_of_others other w = tt
