use Rattle.pooma_view.proofs.Solutions.{is_solution, turned, least_of, no_turn}
use Rattle.pooma_view.proofs.common.+least_solution.Goals as goal

pub returns-then-turn-eq0-clause-least : goal.returns-then-turn-eq0-clause-least
returns-then-turn-eq0-clause-least t c p q e =
    no_turn c.args.a c.args.b c.args.rest p q c.if-rest-eq0.false c.requires.small c.if-turn-eq0.true e

pub returns-in_err-later-clause-least : goal.returns-in_err-later-clause-least
returns-in_err-later-clause-least t c p q e =
    let parts = turned c.args.a c.args.b c.args.rest p q c.requires.small c.if-rest-eq0.false c.if-turn-eq0.false e in
    absurd (c.in_err-later.ensures.least parts.1 parts.0 parts.4)

pub overflow_mul-p : goal.overflow_mul-p
overflow_mul-p t c = (is_solution c.args.a c.args.b c.args.rest _ _ c.requires.sizes c.requires.small c.if-rest-eq0.false c.if-turn-eq0.false c.in_ok-later.ensures.found).product

pub overflow_add-p : goal.overflow_add-p
overflow_add-p t c = (is_solution c.args.a c.args.b c.args.rest _ _ c.requires.sizes c.requires.small c.if-rest-eq0.false c.if-turn-eq0.false c.in_ok-later.ensures.found).sum

pub overflow_add-p-2 : goal.overflow_add-p-2
overflow_add-p-2 t c = (is_solution c.args.a c.args.b c.args.rest _ _ c.requires.sizes c.requires.small c.if-rest-eq0.false c.if-turn-eq0.false c.in_ok-later.ensures.found).whole

pub returns-clause-found : goal.returns-clause-found
returns-clause-found t c =
    let s = is_solution c.args.a c.args.b c.args.rest _ _ c.requires.sizes c.requires.small c.if-rest-eq0.false c.if-turn-eq0.false c.in_ok-later.ensures.found in
    (s.solves, s.below)

pub returns-clause-least : goal.returns-clause-least
returns-clause-least t c p q e =
    let parts = turned c.args.a c.args.b c.args.rest p q c.requires.small c.if-rest-eq0.false c.if-turn-eq0.false e in
    least_of c.args.a c.args.b c.args.rest c.in_ok-later.later c.in_ok-later.rounds parts.0 parts.1 p q parts.2 parts.3 (c.in_ok-later.ensures.least parts.1 parts.0 parts.4)
