use Rattle.pooma_view.proofs.Runs.{distance_is, solved, is_number, on_first, no_less, past}
use Rattle.pooma_view.proofs.common.least_from.Goals as goal

pub returns-in_err-p-clause-least : goal.returns-in_err-p-clause-least
returns-in_err-p-clause-least c z h k =
    absurd (c.in_err-p.ensures.least h.0 k.0 (solved _ _ z _ _ _ _ h.0 k.0 c.args.a.low c.args.a.high c.args.b.low c.args.b.high c.requires h.2 k.2))

pub returns-then-q-b-clause-least : goal.returns-then-q-b-clause-least
returns-then-q-b-clause-least c z h k =
    let least = c.in_ok-p.ensures.least h.0 k.0 (solved _ _ z _ _ _ _ h.0 k.0 c.args.a.low c.args.a.high c.args.b.low c.args.b.high c.requires h.2 k.2) in
    absurd (past k.0 _ _ k.1 c.if-q-b.true least.1)

pub returns-then-p-a-clause-least : goal.returns-then-p-a-clause-least
returns-then-p-a-clause-least c z h k =
    let least = c.in_ok-p.ensures.least h.0 k.0 (solved _ _ z _ _ _ _ h.0 k.0 c.args.a.low c.args.a.high c.args.b.low c.args.b.high c.requires h.2 k.2) in
    absurd (past h.0 _ _ h.1 c.if-p-a.true least.0)

pub overflow_mul-result : goal.overflow_mul-result
overflow_mul-result c = (is_number _ _ _ c.in_ok-p.q c.args.b.low c.args.b.high c.if-q-b.false).product

pub overflow_cast-result : goal.overflow_cast-result
overflow_cast-result c = (is_number _ _ _ c.in_ok-p.q c.args.b.low c.args.b.high c.if-q-b.false).cast

pub overflow_add-result : goal.overflow_add-result
overflow_add-result c = (is_number _ _ _ c.in_ok-p.q c.args.b.low c.args.b.high c.if-q-b.false).sum

pub returns-clause-found : goal.returns-clause-found
returns-clause-found c =
    let value = (is_number _ _ _ c.in_ok-p.q c.args.b.low c.args.b.high c.if-q-b.false).value in
    let ahead = distance_is _ _ _ _ c.args.a.low c.args.a.high c.args.b.low c.args.b.high c.requires in
    ((c.in_ok-p.p, c.if-p-a.false, on_first _ _ _ _ _ c.in_ok-p.p c.in_ok-p.q _ ahead c.in_ok-p.ensures.found value), (c.in_ok-p.q, c.if-q-b.false, value))

pub returns-clause-least : goal.returns-clause-least
returns-clause-least c z h k =
    let least = c.in_ok-p.ensures.least h.0 k.0 (solved _ _ z _ _ _ _ h.0 k.0 c.args.a.low c.args.a.high c.args.b.low c.args.b.high c.requires h.2 k.2) in
    no_less _ _ z _ _ k.0 (is_number _ _ _ c.in_ok-p.q c.args.b.low c.args.b.high c.if-q-b.false).value k.2 least.1
