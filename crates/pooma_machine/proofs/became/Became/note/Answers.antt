use Rattle.std.proofs.Common.{◌∙◌, length, take, arith, ap, sym, refl, length-take}
use Rattle.std.proofs.lemmas.List.{take_all}
use Rattle.pooma_machine.proofs.Named.{with_ascending, ascending_take, found_there, found_place, no_more}
use Rattle.pooma_machine.specs.Became.{with_entry}
use Rattle.pooma_machine.proofs.became.Became.note.Goals as goal

pub invariant_of-self : goal.invariant_of-self
invariant_of-self c =
    let found = rw c.deref.ensures.0 at c.binary_search.ensures.position in
    let put = found_place c.args.entry c.self.inside.entries.items c.in-Err.place c.binary_search.result c.self.invariant.0 found c.in-Err.is in
    let is = c.truncate.ensures.items ∙ ap (take 16) (c.insert.ensures.items ∙ sym put) in
    let short = length-take 16 (with_entry c.args.entry c.self.inside.entries.items) in
    rw is (ascending_take (with_entry c.args.entry c.self.inside.entries.items) 16 (with_ascending c.args.entry c.self.inside.entries.items c.self.invariant.0), omega arith)

pub returns-in-Err-clause-entries : goal.returns-in-Err-clause-entries
returns-in-Err-clause-entries c =
    let found = rw c.deref.ensures.0 at c.binary_search.ensures.position in
    let put = found_place c.args.entry c.self.inside.entries.items c.in-Err.place c.binary_search.result c.self.invariant.0 found c.in-Err.is in
    rw (← c.self.view_is) (c.truncate.ensures.items ∙ ap (take 16) (c.insert.ensures.items ∙ sym put))

pub returns-in-Err-clause-more : goal.returns-in-Err-clause-more
returns-in-Err-clause-more c =
    let found = rw c.deref.ensures.0 at c.binary_search.ensures.position in
    let put = found_place c.args.entry c.self.inside.entries.items c.in-Err.place c.binary_search.result c.self.invariant.0 found c.in-Err.is in
    let long = c.len.ensures.value ∙ ap length (c.insert.ensures.items ∙ sym put) in
    rw (← c.self.view_is, long) refl

pub returns-in_default-clause-entries : goal.returns-in_default-clause-entries
returns-in_default-clause-entries c =
    let found = rw c.deref.ensures.0 at c.binary_search.ensures.position in
    let there = found_there c.args.entry c.self.inside.entries.items c.in_default.field-0 c.binary_search.result c.self.invariant.0 found c.in_default.is in
    rw (← c.self.view_is, there) (sym (take_all 16 c.self.inside.entries.items c.self.invariant.1))

pub returns-in_default-clause-more : goal.returns-in_default-clause-more
returns-in_default-clause-more c =
    let found = rw c.deref.ensures.0 at c.binary_search.ensures.position in
    let there = found_there c.args.entry c.self.inside.entries.items c.in_default.field-0 c.binary_search.result c.self.invariant.0 found c.in_default.is in
    rw (← c.self.view_is, there) (no_more c.self.inside.entries.items c.self.inside.more c.self.invariant.1)
