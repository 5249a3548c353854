-- Two boxes are the same where their least and their greatest cells are.
use Rattle.std.proofs.Common.{rules, ◌≡◌, ◌↔◌}
use Rattle.pooma_domain.proofs.BoxSets.{same_axes, same_corners}
use Rattle.pooma_domain.proofs.boxes.BoxNPartialEq.eq.Goals as goal

pub returns-then-eq-clause-same : goal.returns-then-eq-clause-same
returns-then-eq-clause-same c =
    let told : (c.greatest.result ≡ c.greatest-then-eq.result) ↔ (c.args.self.now ≡ c.args.other.now) =
    same_corners _ _ _ _ _ _ c.least.ensures.value c.least-2.ensures.value c.greatest.ensures.value c.greatest-then-eq.ensures.value (c.eq.ensures.same.0 c.if-eq.true) in
    (λ t. told.0 (c.eq-then-eq.ensures.same.0 t), λ e. c.eq-then-eq.ensures.same.1 (told.1 e))

pub returns-then-eq-clause-answer : goal.returns-then-eq-clause-answer
returns-then-eq-clause-answer c = same_axes _ _ _ (returns-then-eq-clause-same c)

pub returns-else-eq-clause-answer : goal.returns-else-eq-clause-answer
returns-else-eq-clause-answer c = same_axes _ c.args.self.now c.args.other.now (search rules)
