use Rattle.std.proofs.Common.{arith, sym, ◌/◌, ◌%◌}
use Rattle.std.proofs.Math.Nat.{div-add-mod}
use Rattle.pooma_view.proofs.Solutions.{solution_on, solution_off}
use Rattle.pooma_view.proofs.common.least_places.Goals as goal

pub returns-in_err-later-clause-least : goal.returns-in_err-later-clause-least
returns-in_err-later-clause-least c p q e =
    let parts = solution_off c.args.a c.args.b c.args.ahead (c.args.ahead / c.args.a) (c.args.ahead % c.args.a) p q c.requires.sizes.0 (sym (div-add-mod c.args.ahead c.args.a)) e in
    absurd (c.in_err-later.ensures.least parts.0 q parts.2)

pub returns-clause-found : goal.returns-clause-found
returns-clause-found c =
    solution_on c.args.a c.args.b c.args.ahead (c.args.ahead / c.args.a) (c.args.ahead % c.args.a) c.in_ok-later.later c.in_ok-later.q (sym (div-add-mod c.args.ahead c.args.a)) c.in_ok-later.ensures.found.0

pub returns-clause-least : goal.returns-clause-least
returns-clause-least c p q e =
    let parts = solution_off c.args.a c.args.b c.args.ahead (c.args.ahead / c.args.a) (c.args.ahead % c.args.a) p q c.requires.sizes.0 (sym (div-add-mod c.args.ahead c.args.a)) e in
    let least = c.in_ok-later.ensures.least parts.0 q parts.2 in
    (omega (arith, least.0, parts.1), least.1)
