use Rattle.pooma_view.proofs.Same.{same_view, same_kept}
use Rattle.pooma_view.proofs.views.ViewPartialEq.eq.Goals as goal

pub returns-clause-same : goal.returns-clause-same
returns-clause-same c =
    same_kept _ _ _ _ _ _ _ _ _ _ _ _ c.self.invariant c.other.invariant c.self.view_is c.other.view_is c.if-self-other.false c.if-self-other-2.false c.eq.result c.eq.ensures

pub returns-clause-answer : goal.returns-clause-answer
returns-clause-answer c = same_view c.eq.result c.args.self.now c.args.other.now (returns-clause-same c)
