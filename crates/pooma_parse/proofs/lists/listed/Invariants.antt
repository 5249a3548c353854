use Rattle.std.proofs.Common.{◌≡◌, ◌-◌}
use Rattle.pooma_parse.specs.Reader.{read_entries, read_listed}
use Rattle.pooma_parse.proofs.lists.listed.Given as goal

abbrev pub invariant-loop-turn : goal.invariant-loop-turn
invariant-loop-turn g l = read_listed g.E.Entry.reader l.fn.cursor ≡ read_entries g.E.Entry.reader (l._turn-end - l._turn) l.found l.cursor
