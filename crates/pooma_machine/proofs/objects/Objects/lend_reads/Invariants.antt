use Rattle.std.proofs.Common.{◌≡◌, map, take}
use Rattle.pooma_machine.specs.Slots.{contents, content_in, reads_from}
use Rattle.pooma_machine.proofs.objects.Objects.lend_reads.Given as goal

abbrev pub invariant-loop-request : goal.invariant-loop-request
invariant-loop-request g l =
    record {
      same : map (content_in g.W.Work.content) l.self-inside.slots.items ≡ l.fn.self;
      read : contents g.W.Work.content l.reads.items ≡ reads_from l.fn.self (take l.request-index l.requests);
    }
