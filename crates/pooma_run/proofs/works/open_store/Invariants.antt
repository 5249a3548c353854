use Rattle.std.proofs.Common.{◌≡◌, false, take}
use Rattle.pooma_store.specs.Numbering.{new_objects}
use Rattle.pooma_run.proofs.works.open_store.Given as goal

abbrev pub invariant-arrays : goal.invariant-arrays
invariant-arrays l =
    record {
      shapes : l.store.shapes ≡ take l.array l.program.declared.shapes;
      layouts : l.store.layouts ≡ take l.array l.program.declared.layouts;
      objects : l.store.objects ≡ new_objects (take l.array l.program.declared.layouts);
      home : l.store.lent ≡ false;
    }
