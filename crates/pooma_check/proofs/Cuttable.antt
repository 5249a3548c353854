-- The views of a sound line's action are of arrays that are there.
use Rattle.std.proofs.Common.{◌≡◌, inl, inr, ℕ, ◌<◌, length, rules, List, [], ◌∷◌, Option, None, Some, sym, subst}
use Rattle.std.proofs.lemmas.List.Elements.{All-append, All-cons, All-head, All-nil, All-tail}
use Rattle.std.specs.Option.{ForSome}
use Rattle.std.specs.Prelude.{All, IfSome, flat_map}
use Rattle.pooma_view.specs.Views.{Viewed}
use Rattle.pooma_expr.specs.declared.tree.Expr.{Expr}
use Rattle.pooma_expr.specs.Trees.{views_of}
use Rattle.pooma_parse.specs.declared.form.RawAssign.{RawAssign}
use Rattle.pooma_parse.specs.declared.form.RawExpr.{RawExpr}
use Rattle.pooma_parse.specs.declared.form.RawLine.{RawLine}
use Rattle.pooma_parse.specs.declared.form.RawLine.TheVariants as line
use Rattle.pooma_model.specs.declared.statement.Action.{Action}
use Rattle.pooma_model.specs.Declarations.{Declared}
use Rattle.pooma_script.specs.declared.names.Named.{Named}
use Rattle.pooma_script.specs.declared.names.Named.TheVariants as named
use Rattle.pooma_script.specs.Known.{Known, declared_in, named_at}
use Rattle.pooma_script.specs.Statements.{action_of, joined, print_of}
use Rattle.pooma_script.specs.Trees.{readings_in, tree_of}
use Rattle.pooma_script.specs.Views.{Reading, reading_of, view_of}
use Rattle.pooma_check.specs.Measures.{AreThere, CanBeCut}
use Rattle.pooma_check.specs.Readings.{views_of_reading}
use Rattle.pooma_check.specs.Seen.{CanSee, HasFewPositions}
use Rattle.pooma_check.specs.Sound.{IsSound}
use Rattle.pooma_check.proofs.TreeViews.{views_of_joined, views_of_tree}

module _ (declared : Declared) where
  abbrev IsThere : Viewed → Type 0
  IsThere view = view.array < length declared.shapes

  there_by : (reading : Reading) → CanSee declared reading → AreThere declared (views_of_reading reading)
  there_by reading h = λ k d below. (h.views k d below).readable.there

  all_there : (readings : List Reading) → All (CanSee declared) readings → AreThere declared (flat_map views_of_reading readings)
  all_there [] h = All-nil IsThere
  all_there (reading ∷ readings) h =
      All-append IsThere (views_of_reading reading) (flat_map views_of_reading readings)
      (there_by reading (All-head (CanSee declared) reading readings h)) (all_there readings (All-tail (CanSee declared) reading readings h))

  with_target : (how : RawAssign) (target : Viewed) (value : Expr) → IsThere target → AreThere declared (views_of value) → AreThere declared (target ∷ views_of (joined how target value))
  with_target how target value there h =
      let whole : AreThere declared (target ∷ views_of value) = All-cons IsThere target (views_of value) there h in
      All-cons IsThere target (views_of (joined how target value)) there
      (elim (views_of_joined how target value) [
        | inl same ↦ subst (All IsThere) (sym same) h
        | inr more ↦ subst (All IsThere) (sym more) whole
      ])

module _ (known : Known) (text : List ℕ) where
  there_in_tree : (e : RawExpr) → All (CanSee (declared_in known)) (readings_in known text e) → AreThere (declared_in known) (views_of (tree_of known text e))
  there_in_tree e h =
      subst (AreThere (declared_in known)) (sym (views_of_tree known text e)) (all_there (declared_in known) (readings_in known text e) h)

  print_is_cut : (what : Option Named) (view : Viewed) → CanBeCut (declared_in known) (print_of what view)
  print_is_cut (Some (named.Scalar n)) view = tt
  print_is_cut other view = tt

  can_be_cut : (form : RawLine) → IsSound known text form → IfSome (action_of known text form) HasFewPositions → IfSome (action_of known text form) (CanBeCut (declared_in known))
  can_be_cut (line.Assign target op value) sound few =
      let first = All-head (CanSee (declared_in known)) (reading_of known text None target) (readings_in known text value) sound.seen in
      let later = All-tail (CanSee (declared_in known)) (reading_of known text None target) (readings_in known text value) sound.seen in
      let view = view_of known text target in
      (with_target (declared_in known) op view (tree_of known text value) (there_by (declared_in known) (reading_of known text None target) first 0 view (search rules)) (there_in_tree value later), few.box)
  can_be_cut (line.Scalar scalar value) sound few = there_in_tree value sound.seen
  can_be_cut (line.Reduce scalar word value) sound few = there_in_tree value sound.seen
  can_be_cut (line.PrintName name) sound few = print_is_cut (named_at known text name) _
  can_be_cut other sound few = tt

  for_some : {A : Type 0} (P : A → Type 0) (o : Option A) → IfSome o P → ForSome o P
  for_some P None h = λ x is. cc
  for_some P (Some y) h = λ x is. let same : y ≡ x = cc in subst P same h

  pub action_can_be_cut : (form : RawLine) (does : Option Action) → IsSound known text form → does ≡ action_of known text form → IfSome does HasFewPositions
      → ForSome does (CanBeCut (declared_in known))
  action_can_be_cut form does sound is few =
      for_some (CanBeCut (declared_in known)) does
      (subst (λ (o : Option Action). IfSome o (CanBeCut (declared_in known))) (sym is)
      (can_be_cut form sound (subst (λ (o : Option Action). IfSome o HasFewPositions) is few)))
