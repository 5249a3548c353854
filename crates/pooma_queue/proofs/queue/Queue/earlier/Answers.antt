use Rattle.std.proofs.Common.{◌≤◌, ◌∙◌, sym, subst}
use Rattle.pooma_queue.proofs.Counts.{IsPlaceOf, place_read}
use Rattle.pooma_queue.proofs.queue.Queue.earlier.Goals as goal

pub open_writes_before-requires-clause-there : goal.open_writes_before-requires-clause-there
open_writes_before-requires-clause-there c =
    let found : IsPlaceOf c.args.self.now.requests c.args.entry c.args.mode c.count_before-place.result = rw (← c.self.view_is)
    (place_read c.self.inside.requests.items c.deref.result.now c.args.entry c.args.mode c.count_before-place.result c.self.invariant.0 (rw (← c.self.view_is) at c.requires.asks) c.count_before-place.ensures c.deref.ensures.value) in
    found.there

pub open_before_write-requires-clause-there : goal.open_before_write-requires-clause-there
open_before_write-requires-clause-there c =
    let found : IsPlaceOf c.args.self.now.requests c.args.entry c.args.mode c.count_before-place.result = rw (← c.self.view_is)
    (place_read c.self.inside.requests.items c.deref.result.now c.args.entry c.args.mode c.count_before-place.result c.self.invariant.0 (rw (← c.self.view_is) at c.requires.asks) c.count_before-place.ensures c.deref.ensures.value) in
    found.there

pub open_before_write-requires-clause-write : goal.open_before_write-requires-clause-write
open_before_write-requires-clause-write c =
    let found : IsPlaceOf c.args.self.now.requests c.args.entry c.args.mode c.count_before-place.result = rw (← c.self.view_is)
    (place_read c.self.inside.requests.items c.deref.result.now c.args.entry c.args.mode c.count_before-place.result c.self.invariant.0 (rw (← c.self.view_is) at c.requires.asks) c.count_before-place.ensures c.deref.ensures.value) in
    rw c.in-Write.is at found.asks

pub returns-in-Read-clause-count : goal.returns-in-Read-clause-count
returns-in-Read-clause-count c =
    let found : IsPlaceOf c.args.self.now.requests c.args.entry c.args.mode c.count_before-place.result = rw (← c.self.view_is)
    (place_read c.self.inside.requests.items c.deref.result.now c.args.entry c.args.mode c.count_before-place.result c.self.invariant.0 (rw (← c.self.view_is) at c.requires.asks) c.count_before-place.ensures c.deref.ensures.value) in
    rw c.in-Read.is (c.open_writes_before.ensures ∙ sym (rw c.in-Read.is at found.count))

pub returns-in-Read-clause-few : goal.returns-in-Read-clause-few
returns-in-Read-clause-few c =
    let found : IsPlaceOf c.args.self.now.requests c.args.entry c.args.mode c.count_before-place.result = rw (← c.self.view_is)
    (place_read c.self.inside.requests.items c.deref.result.now c.args.entry c.args.mode c.count_before-place.result c.self.invariant.0 (rw (← c.self.view_is) at c.requires.asks) c.count_before-place.ensures c.deref.ensures.value) in
    subst (λ n. n ≤ c.args.entry) (sym c.open_writes_before.ensures) (rw c.in-Read.is at found.few)

pub returns-in-Write-clause-count : goal.returns-in-Write-clause-count
returns-in-Write-clause-count c =
    let found : IsPlaceOf c.args.self.now.requests c.args.entry c.args.mode c.count_before-place.result = rw (← c.self.view_is)
    (place_read c.self.inside.requests.items c.deref.result.now c.args.entry c.args.mode c.count_before-place.result c.self.invariant.0 (rw (← c.self.view_is) at c.requires.asks) c.count_before-place.ensures c.deref.ensures.value) in
    rw c.in-Write.is (c.open_before_write.ensures ∙ sym (rw c.in-Write.is at found.count))

pub returns-in-Write-clause-few : goal.returns-in-Write-clause-few
returns-in-Write-clause-few c =
    let found : IsPlaceOf c.args.self.now.requests c.args.entry c.args.mode c.count_before-place.result = rw (← c.self.view_is)
    (place_read c.self.inside.requests.items c.deref.result.now c.args.entry c.args.mode c.count_before-place.result c.self.invariant.0 (rw (← c.self.view_is) at c.requires.asks) c.count_before-place.ensures c.deref.ensures.value) in
    subst (λ n. n ≤ c.args.entry) (sym c.open_before_write.ensures) (rw c.in-Write.is at found.few)
