use Rattle.std.proofs.Common.{sym, ◌∙◌, inl}
use Rattle.pooma_machine.specs.Values.{asks_of}
use Rattle.pooma_window.proofs.Choosing.{more_ready, more_named, named_ready, all_named}
use Rattle.pooma_window.proofs.window.note_became.Goals as goal

pub loop-entry-preserved : goal.loop-entry-preserved
loop-entry-preserved g c =
    let plan = asks_of g.W.Work.meaning c.args.machine.now.plan in
    let names = c.entries-entry-items.ensures ∙ c.requires.names.2.0 in
    let ready = named_ready plan c.args.machine.now.history c.args.choices.now c.requires.names.0 c.entries-entry-items.result.now c.requires.names.1 names c.loop-entry.entry-index c.loop-entry-test.true in
    record {
      stays = more_ready plan c.args.machine.now.history c.loop-entry.choices c.put.new.self _ c.loop-entry.invariant.stays ready c.in_ok-put.ensures.ok;
      old = λ j there. (c.in_ok-put.ensures.ok j).1 (inl (c.loop-entry.invariant.old j there));
      named = more_named c.entries-entry-items.result.now c.loop-entry.entry-index c.loop-entry.choices c.put.new.self c.loop-entry-test.true c.in_ok-put.ensures.ok c.loop-entry.invariant.named;
    }

pub returns : goal.returns
returns g c =
    let names = c.entries-entry-items.ensures ∙ c.requires.names.2.0 in
    let few = sym c.requires.names.2.1 ∙ (sym c.more.ensures ∙ c.if-more.false) in
    all_named (asks_of g.W.Work.meaning c.args.machine.now.plan) c.args.machine.now.history c.args.choices.now c.requires.names.0 c.entries-entry-items.result.now c.requires.names.1 names
    c.loop-entry.choices c.loop-entry.entry-index few c.loop-entry-test.false c.as_slice-ascending.ensures.ascending c.loop-entry.invariant.stays c.loop-entry.invariant.old c.loop-entry.invariant.named
