use Rattle.std.proofs.Common.{◌≡◌, ◌+◌, ◌∙◌, ap, sym, arith, refl, false, length}
use Rattle.std.specs.List.{position_or_len}
use Rattle.pooma_queue.specs.declared.queue.Mode.TheVariants.{Read, Write}
use Rattle.pooma_queue.specs.declared.queue.Asked.{Asked}
use Rattle.pooma_queue.specs.Requests.{holds_back}
use Rattle.pooma_queue.proofs.Places.{in_order_push}
use Rattle.pooma_queue.proofs.Holding.{holds_write, first_stays, first_before, first_goes_on}
use Rattle.pooma_queue.proofs.Counts.{one_if, tally_push, released_push}
use Rattle.pooma_queue.proofs.queue.Queue.push.Goals as goal

pub invariant_of-self-then-not-conflicts : goal.invariant_of-self-then-not-conflicts
invariant_of-self-then-not-conflicts c =
    let requests = c.self.inside.requests.items in
    let asked : Asked = record { entry = c.args.entry; mode = c.args.mode; released = false } in
    let end : position_or_len (holds_back Read) requests ≡ length requests = omega (arith, c.self.invariant.2, c.if-self-place.true, c.len-place.ensures, c.self.inside.requests.ok.0) in
    rw (c.in_ok-push.ensures.items, c.push_reserved.ensures.items, c.reserve.ensures.items) (
      in_order_push requests asked c.self.invariant.0 (rw (← c.self.view_is) at c.requires),
      c.self.invariant.1 ∙ sym (first_stays (holds_back Write) requests asked (holds_write asked refl)),
      ap (λ n. n + 1) c.self.invariant.2 ∙ sym (first_goes_on (holds_back Read) requests asked (sym c.conflicts-then-self-place.ensures ∙ c.if-not-conflicts.true) end),
      tally_push requests asked c.self.inside.writes.items c.self.inside.written _ c.self.invariant.3 (c.one_more_if-self-inside.ensures ∙ ap (λ b. c.self.inside.written + one_if b) c.conflicts.ensures),
      released_push requests asked c.self.inside.released refl c.self.invariant.4,
    )

pub invariant_of-self-else-not-conflicts : goal.invariant_of-self-else-not-conflicts
invariant_of-self-else-not-conflicts c =
    let requests = c.self.inside.requests.items in
    let asked : Asked = record { entry = c.args.entry; mode = c.args.mode; released = false } in
    rw (c.in_ok-push.ensures.items, c.push_reserved.ensures.items, c.reserve.ensures.items) (
      in_order_push requests asked c.self.invariant.0 (rw (← c.self.view_is) at c.requires),
      c.self.invariant.1 ∙ sym (first_stays (holds_back Write) requests asked (holds_write asked refl)),
      c.self.invariant.2 ∙ sym (first_stays (holds_back Read) requests asked (sym c.conflicts-then-self-place.ensures ∙ c.if-not-conflicts.false)),
      tally_push requests asked c.self.inside.writes.items c.self.inside.written _ c.self.invariant.3 (c.one_more_if-self-inside.ensures ∙ ap (λ b. c.self.inside.written + one_if b) c.conflicts.ensures),
      released_push requests asked c.self.inside.released refl c.self.invariant.4,
    )

pub invariant_of-self-else-self-place : goal.invariant_of-self-else-self-place
invariant_of-self-else-self-place c =
    let requests = c.self.inside.requests.items in
    let asked : Asked = record { entry = c.args.entry; mode = c.args.mode; released = false } in
    rw (c.in_ok-push.ensures.items, c.push_reserved.ensures.items, c.reserve.ensures.items) (
      in_order_push requests asked c.self.invariant.0 (rw (← c.self.view_is) at c.requires),
      c.self.invariant.1 ∙ sym (first_stays (holds_back Write) requests asked (holds_write asked refl)),
      c.self.invariant.2 ∙ sym (first_before (holds_back Read) requests asked (λ end. c.if-self-place.false (omega (arith, end, c.self.invariant.2, c.len-place.ensures, c.self.inside.requests.ok.0)))),
      tally_push requests asked c.self.inside.writes.items c.self.inside.written _ c.self.invariant.3 (c.one_more_if-self-inside.ensures ∙ ap (λ b. c.self.inside.written + one_if b) c.conflicts.ensures),
      released_push requests asked c.self.inside.released refl c.self.invariant.4,
    )
