use Rattle.std.proofs.Common.{◌≤◌, ◌∙◌, ap, sym, subst, length, arith, option_map}
use Rattle.std.proofs.lemmas.Bool.{ltb-true, leb-false}
use Rattle.std.proofs.lemmas.List.{get_or_default}
use Rattle.pooma_queue.specs.declared.queue.Asked.{Asked}
use Rattle.pooma_queue.proofs.Holding.{holder_there, no_holder}
use Rattle.pooma_queue.proofs.queue.Queue.holder.Goals as goal

pub returns-in_err-asked : goal.returns-in_err-asked
returns-in_err-asked c =
    let requests = c.self.inside.requests.items in
    let place = c.first_holding.result in
    let is = rw (← c.self.view_is) at c.first_holding.ensures in
    let read = rw c.deref.ensures.value at c.in_err-asked.ensures.lookup in
    let past = leb-false _ (length requests) (sym read.0) in
    let none = no_holder requests c.args.entry place c.args.mode c.self.invariant.0 is (λ d within. absurd (omega (arith, past, within))) in
    c.from_residual.ensures ∙ rw (← c.self.view_is) (sym (ap (option_map (λ asked. asked.entry)) none))

pub returns-then-asked-entry : goal.returns-then-asked-entry
returns-then-asked-entry c =
    let requests = c.self.inside.requests.items in
    let is = rw (← c.self.view_is) at c.first_holding.ensures in
    let read = rw c.deref.ensures.value at c.in_ok-asked.ensures.lookup in
    let there = holder_there requests c.args.entry c.first_holding.result c.args.mode c.in_ok-asked.asked.now is (ltb-true c.first_holding.result (length requests) (sym read.0)) read.1 c.if-asked-entry.true in
    rw (← c.self.view_is) (sym (ap (option_map (λ asked. asked.entry)) there))

pub returns-else-asked-entry : goal.returns-else-asked-entry
returns-else-asked-entry c =
    let requests = c.self.inside.requests.items in
    let place = c.first_holding.result in
    let is = rw (← c.self.view_is) at c.first_holding.ensures in
    let read = rw c.deref.ensures.value at c.in_ok-asked.ensures.lookup in
    let none = no_holder requests c.args.entry place c.args.mode c.self.invariant.0 is
    (λ d within. subst (λ (asked : Asked). c.args.entry ≤ asked.entry) (read.1 ∙ get_or_default requests place c.in_ok-asked.asked.now d within) c.if-asked-entry.false) in
    rw (← c.self.view_is) (sym (ap (option_map (λ asked. asked.entry)) none))
