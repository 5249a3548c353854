use Rattle.std.proofs.Common.{not, ◌+◌, ◌≢◌, ◌<◌, ◌∙◌, length, arith, ap, sym, refl, rules, get_or, nat_lt, List}
use Rattle.std.proofs.lemmas.List.{get_or_default}
use Rattle.std.specs.List.{prefix_len}
use Rattle.pooma_queue.specs.declared.queue.Mode.TheVariants.{Read, Write}
use Rattle.pooma_queue.specs.declared.queue.Asked.{Asked}
use Rattle.pooma_queue.specs.Requests.{first_holding, holds_back}
use Rattle.pooma_queue.proofs.Places.{let_go_set, let_go_none}
use Rattle.pooma_queue.proofs.Holding.{set_no_nearer}
use Rattle.pooma_queue.proofs.Order.{none_of}
use Rattle.pooma_queue.proofs.queue.Queue.release_entry.Goals.{else-place-len-via-then-place-len+else-index-entry, else-place-len-via-else-place-len}
use Rattle.pooma_queue.proofs.Counts.{one_if, goes}
use Rattle.pooma_queue.proofs.queue.Queue.release_entry.Goals as goal

pub first_holding_from-self-inside-requires : goal.first_holding_from-self-inside-requires
first_holding_from-self-inside-requires c =
    let requests = c.self.inside.requests.items in
    let within : c.count_before-place.result < length requests = search (rules, c.if-place-len.true, c.len.ensures, c.self.inside.requests.ok.0) in
    rw (c.deref-then-index-entry.ensures.value, c.self.invariant.1) (set_no_nearer (holds_back Write) requests c.count_before-place.result _ refl within)

pub first_holding_from-self-inside-requires-then-index-entry :
    goal.first_holding_from-self-inside-requires-then-index-entry
first_holding_from-self-inside-requires-then-index-entry c =
    let requests = c.self.inside.requests.items in
    let within : c.count_before-place.result < length requests = search (rules, c.if-place-len.true, c.len.ensures, c.self.inside.requests.ok.0) in
    rw (c.deref-then-index-entry-2.ensures.value, c.self.invariant.2) (set_no_nearer (holds_back Read) requests c.count_before-place.result _ refl within)

pub returns-then-index-entry-clause-requests : goal.returns-then-index-entry-clause-requests
returns-then-index-entry-clause-requests c =
    let requests = c.self.inside.requests.items in
    let place = c.count_before-place.result in
    let within : place < length requests = search (rules, c.if-place-len.true, c.len.ensures, c.self.inside.requests.ok.0) in
    let read = c.index.ensures ∙ (get_or_default requests place c.index.result.now c.index_mut.result.now within ∙ sym c.index_mut.ensures.value) in
    let own = sym (ap (λ (asked : Asked). asked.entry) read) ∙ c.if-index-entry.true in
    rw (← c.self.view_is) (let_go_set requests c.args.entry place c.index_mut.result.now c.self.invariant.0 within c.index_mut.ensures.value own)

pub returns-else-place-len-clause-requests : goal.returns-else-place-len-clause-requests
returns-else-place-len-clause-requests c =
    let requests = c.self.inside.requests.items in
    let place = c.count_before-place.result in
    let is = c.count_before-place.ensures ∙ ap (λ (xs : List Asked). prefix_len (λ (asked : Asked). nat_lt asked.entry c.args.entry) xs) c.deref.ensures.value in
    let other : (d : Asked) → place < length requests → (get_or requests place d).entry ≢ c.args.entry = elim c.else-place-len.branch [
      | else-place-len-via-then-place-len+else-index-entry w ↦
          λ d h e. w.if-index-entry.false (ap (λ (asked : Asked). asked.entry) (w.index.ensures ∙ get_or_default requests place w.index.result.now d h) ∙ e)
      | else-place-len-via-else-place-len w ↦
          λ d h e. let past = w.if-place-len.false in let len = c.len.ensures in absurd (omega (arith, past, len, h, c.self.inside.requests.ok.0))
    ] in
    rw (← c.self.view_is) (sym (let_go_none requests c.args.entry (none_of requests place c.args.entry c.self.invariant.0 is other)))

pub invariant_of-self : goal.invariant_of-self
invariant_of-self c =
    let requests = c.self.inside.requests.items in
    let place = c.count_before-place.result in
    let asked = c.index_mut.result.now in
    let within : place < length requests = search (rules, c.if-place-len.true, c.len.ensures, c.self.inside.requests.ok.0) in
    let after = goes requests place asked c.self.inside.writes.items c.self.inside.written c.self.inside.released within c.index_mut.ensures.value c.self.invariant.0 c.self.invariant.3 c.self.invariant.4 in
    let read = c.index-then-index-entry.ensures ∙ (get_or_default requests place c.index-then-index-entry.result.now asked within ∙ sym c.index_mut.ensures.value) in (
      after.order,
      c.first_holding_from-self-inside.ensures ∙ ap (first_holding Write) c.deref-then-index-entry.ensures.value,
      c.first_holding_from-self-inside-then-index-entry.ensures ∙ ap (first_holding Read) c.deref-then-index-entry-2.ensures.value,
      after.tally,
      c.one_more_if-self-inside.ensures ∙ (ap (λ (a : Asked). c.self.inside.released + one_if (not a.released)) read ∙ after.count),
    )
