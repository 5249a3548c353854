use Rattle.std.proofs.Common.{◌-◌, ◌≤◌, vec_len}
use Rattle.std.specs.Io.KnownBytes.{Consumes}
use Rattle.pooma_io.specs.Outside.{CountsAtMost}
use Rattle.pooma_io.proofs.reading.read_all.Given as goal

-- what was taken so far, and each read took a byte at least
abbrev pub invariant-reads : goal.invariant-reads
invariant-reads g l = record { taken : Consumes (g.S.Source.left l.initial.source) (g.S.Source.left l.source) l.bytes.items; within : vec_len l.bytes ≤ l.limit; later : g.S.Source.faults l.initial.source ≤ g.S.Source.faults l.source; counted : CountsAtMost (g.S.Source.reads l.initial.source) (g.S.Source.reads l.source) (vec_len l.bytes) }

abbrev pub decreases-reads : goal.decreases-reads
decreases-reads g l = l.limit - vec_len l.bytes
