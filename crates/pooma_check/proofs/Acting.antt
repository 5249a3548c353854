-- What a line does fits what there is behind what it declares.
use Rattle.std.proofs.Common.{◌≡◌, ℕ, List, Option, Some, sym, subst, ◌∙◌}
use Rattle.pooma_expr.specs.Trees.{axes_needed, scalars_needed}
use Rattle.pooma_stencil.specs.Expansions.{expansion}
use Rattle.pooma_stencil.specs.Stencils.{Stenciled}
use Rattle.pooma_view.specs.Views.{Viewed}
use Rattle.pooma_parse.specs.declared.form.RawLine.{RawLine}
use Rattle.pooma_model.specs.declared.statement.Action.{Action}
use Rattle.pooma_model.specs.Fit.{IsFit}
use Rattle.pooma_script.specs.After.{with_declaration}
use Rattle.pooma_script.specs.Known.{Known, declared_in}
use Rattle.pooma_script.specs.Statements.{action_of}
use Rattle.pooma_check.specs.Kept.{IsKnown}
use Rattle.pooma_check.specs.Sound.{IsLimited, IsSound}
use Rattle.pooma_check.proofs.LineFits.{line_fits}

pub action_fits : (number : ℕ) (known : Known) (text : List ℕ) (form : RawLine) (middle : Known) (does : Option Action) (action : Action) → middle ≡ with_declaration known text form
    → does ≡ action_of known text form → does ≡ Some action → IsKnown known → IsSound known text form → IsLimited number known text form
    → ((s : Stenciled) (v : Viewed) → scalars_needed (expansion s v) ≡ 0) → ((s : Stenciled) (v : Viewed) → axes_needed (expansion s v) ≡ 0) → IsFit (declared_in middle) action
action_fits number known text form middle does action declares is some holds sound limits no_scalars no_axes =
    subst (λ (m : Known). IsFit (declared_in m) action) (sym declares) (line_fits known text holds.there no_scalars no_axes number form action sound limits (sym is ∙ some))
