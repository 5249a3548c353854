use Rattle.std.proofs.Common.{inl, inr}
use Rattle.pooma_window.proofs.Uniting.{all_united, next_united, none_united}
use Rattle.pooma_window.proofs.choices.merged.Goals as goal

pub entries-init : goal.entries-init
entries-init c = none_united c.args.one.now c.args.other.now c.in_ok-all.all.items c.requires.one c.requires.other c.in_ok-all.ensures.items

pub behind-left-requires-clause-least : goal.behind-left-requires-clause-least
behind-left-requires-clause-least c = λ j there. c.in-Some.ensures.least j (inl there)

pub behind-right-requires-clause-least : goal.behind-right-requires-clause-least
behind-right-requires-clause-least c = λ j there. c.in-Some.ensures.least j (inr there)

pub entries-preserved : goal.entries-preserved
entries-preserved c =
    let some = c.in-Some in
    let left = c.behind-left in
    let right = c.behind-right in
    next_united c.args.one.now c.args.other.now c.entries.left.now c.entries.right.now c.entries.all.items left.result.now right.result.now c.push.new.self.items some.entry c.entries.invariant
    some.ensures.there some.ensures.least left.ensures.ascending left.ensures.others right.ensures.ascending right.ensures.others c.in_ok-push.ensures.items

pub returns-clause-exactly : goal.returns-clause-exactly
returns-clause-exactly c =
    let none = c.in_default.ensures.none in
    all_united c.args.one.now c.args.other.now c.entries.left.now c.entries.right.now c.entries.all.items c.entries.invariant none.0 none.1
