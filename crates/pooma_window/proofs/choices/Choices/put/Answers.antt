use Rattle.std.proofs.Common.{◌≡◌, ◌+◌, ◌-◌, drop, set, arith, refl, ℕ, length-set}
use Rattle.pooma_window.proofs.Ascending.{front_put, middle_put, put_in, searched_place}
use Rattle.pooma_window.proofs.choices.Choices.put.Goals as goal

pub invariant_of-self : goal.invariant_of-self
invariant_of-self c =
    let found = rw c.as_slice.ensures.entries at c.binary_search.ensures.position in
    let up = searched_place c.args.self.now c.in-Err.place c.args.entry c.binary_search.result c.as_slice.ensures.ascending found c.in-Err.is in
    let low : c.self.inside.from ≡ c.self.inside.from - 1 + 1 = omega arith in
    let is = front_put (c.self.inside.from - 1) c.self.inside.from c.self.inside.entries.items c.args.self.now c.args.entry low c.self.invariant.0 c.self.view_is in
    (omega (arith, c.self.invariant.0, length-set {A = ℕ}), rw is (rw c.if-place-eq0.true at up))

pub invariant_of-self-else-place-eq0 : goal.invariant_of-self-else-place-eq0
invariant_of-self-else-place-eq0 c =
    let found = rw c.as_slice.ensures.entries at c.binary_search.ensures.position in
    let up = searched_place c.args.self.now c.in-Err.place c.args.entry c.binary_search.result c.as_slice.ensures.ascending found c.in-Err.is in
    let is = middle_put c.self.inside.from c.in-Err.place (c.self.inside.from + c.in-Err.place) c.self.inside.entries.items c.args.self.now c.args.entry refl c.self.invariant.0 c.self.view_is in
    (omega (arith, c.self.invariant.0, c.in_ok-insert.ensures.len), rw (c.in_ok-insert.ensures.items, is) up)

pub returns-then-self-gt0-clause-ok : goal.returns-then-self-gt0-clause-ok
returns-then-self-gt0-clause-ok c =
    let low : c.self.inside.from ≡ c.self.inside.from - 1 + 1 = omega arith in
    let is = front_put (c.self.inside.from - 1) c.self.inside.from c.self.inside.entries.items c.args.self.now c.args.entry low c.self.invariant.0 c.self.view_is in
    put_in c.args.self.now (drop (c.self.inside.from - 1) (set c.self.inside.entries.items (c.self.inside.from - 1) c.args.entry)) 0 c.args.entry is

pub returns-in_ok-insert-clause-ok : goal.returns-in_ok-insert-clause-ok
returns-in_ok-insert-clause-ok c =
    let is = middle_put c.self.inside.from c.in-Err.place (c.self.inside.from + c.in-Err.place) c.self.inside.entries.items c.args.self.now c.args.entry refl c.self.invariant.0 c.self.view_is in
    put_in c.args.self.now (drop c.self.inside.from c.insert.new.self.items) c.in-Err.place c.args.entry (rw c.in_ok-insert.ensures.items is)
