use Rattle.std.proofs.Common.{ap, sym, ◌∙◌, subst, ◌≡◌, ℕ, List}
use Rattle.std.specs.Prelude.{All}
use Rattle.pooma_layout.specs.Axes.{CutAxis, IsCutAxis}
use Rattle.pooma_layout.specs.Patches.{Owns, owner_of}
use Rattle.pooma_layout.proofs.Owning.{owner_owns, only_owner}
use Rattle.pooma_layout.proofs.layouts.Layout.owner.Goals as goal

pub returns-clause-owns : goal.returns-clause-owns
returns-clause-owns c =
    let same : c.owner.result ≡ owner_of c.args.self.now c.args.c.now =
    c.owner.ensures ∙ ap (λ (axes : List CutAxis). owner_of axes c.args.c.now) (c.deref.ensures.value ∙ c.self.view_is) in
    subst (λ (p : ℕ). Owns c.args.self.now p c.args.c.now) (sym same) (owner_owns c.args.self.now c.args.c.now c.requires)

pub returns-clause-no_other : goal.returns-clause-no_other
returns-clause-no_other c = λ p owns.
    let same : c.owner.result ≡ owner_of c.args.self.now c.args.c.now =
    c.owner.ensures ∙ ap (λ (axes : List CutAxis). owner_of axes c.args.c.now) (c.deref.ensures.value ∙ c.self.view_is) in
    only_owner c.args.self.now p c.args.c.now (subst (λ (axes : List CutAxis). All IsCutAxis axes) c.self.view_is c.self.invariant.axes) owns ∙ sym same
