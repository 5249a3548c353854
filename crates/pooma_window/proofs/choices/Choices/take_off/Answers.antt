use Rattle.std.proofs.Common.{◌≡◌, ◌+◌, drop, refl, arith, ◌∙◌, ap}
use Rattle.std.specs.List.{remove}
use Rattle.pooma_window.proofs.Ascending.{place_within, seen_at, first_off, one_off, drop_first, drop_remove, taken_off}
use Rattle.pooma_window.proofs.choices.Choices.take_off.Goals as goal

pub invariant_of-self : goal.invariant_of-self
invariant_of-self c =
    let at = place_within c.self.inside.from 0 c.self.inside.entries.items c.args.self.now c.self.view_is (rw c.if-place-eq0.true at c.requires) in
    first_off c.self.inside.from (c.self.inside.from + 1) c.self.inside.entries.items refl at c.self.invariant.1

pub invariant_of-self-else-place-eq0 : goal.invariant_of-self-else-place-eq0
invariant_of-self-else-place-eq0 c =
    let at = place_within c.self.inside.from c.args.place c.self.inside.entries.items c.args.self.now c.self.view_is c.requires in
    one_off c.self.inside.from c.args.place (c.self.inside.from + c.args.place) c.self.inside.entries.items c.remove.new.self.items refl at c.remove.ensures.items c.self.invariant.1

pub returns-then-place-eq0-clause-others : goal.returns-then-place-eq0-clause-others
returns-then-place-eq0-clause-others c =
    let at = place_within c.self.inside.from 0 c.self.inside.entries.items c.args.self.now c.self.view_is (rw c.if-place-eq0.true at c.requires) in
    let here : c.self.inside.from ≡ c.self.inside.from + c.args.place = omega arith in
    let first = seen_at c.self.inside.from c.args.place c.self.inside.from c.self.inside.entries.items c.args.self.now c.index-entry.result.now here c.self.view_is (omega arith) c.index-entry.ensures in
    let seen = drop_first c.self.inside.from (c.self.inside.from + 1) c.self.inside.entries.items refl in
    let is : drop (c.self.inside.from + 1) c.self.inside.entries.items ≡ remove c.args.self.now c.args.place = rw c.if-place-eq0.true (seen ∙ ap (λ list. remove list 0) c.self.view_is) in
    taken_off c.args.self.now (drop (c.self.inside.from + 1) c.self.inside.entries.items) c.args.place c.index-entry.result.now is first (rw c.self.view_is at c.self.invariant.1) c.requires

pub returns-else-place-eq0-clause-others : goal.returns-else-place-eq0-clause-others
returns-else-place-eq0-clause-others c =
    let at = place_within c.self.inside.from c.args.place c.self.inside.entries.items c.args.self.now c.self.view_is c.requires in
    let one = seen_at c.self.inside.from c.args.place (c.self.inside.from + c.args.place) c.self.inside.entries.items c.args.self.now c.remove.result refl c.self.view_is at c.remove.ensures.value in
    let seen = drop_remove c.self.inside.from c.args.place (c.self.inside.from + c.args.place) c.self.inside.entries.items refl c.self.invariant.0 in
    let is : drop c.self.inside.from c.remove.new.self.items ≡ remove c.args.self.now c.args.place = rw c.remove.ensures.items (seen ∙ ap (λ list. remove list c.args.place) c.self.view_is) in
    taken_off c.args.self.now (drop c.self.inside.from c.remove.new.self.items) c.args.place c.remove.result is one (rw c.self.view_is at c.self.invariant.1) c.requires
