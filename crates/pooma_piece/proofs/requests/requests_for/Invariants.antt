use Rattle.std.proofs.Common.{◌≡◌, take, fold}
use Rattle.pooma_piece.specs.Requests.{with_read, write_request}
use Rattle.pooma_piece.proofs.requests.requests_for.Given as goal

abbrev pub invariant-loop-object : goal.invariant-loop-object
invariant-loop-object l = l.requests.items ≡ fold with_read (write_request l.fn.write) (take l.object-index l.reads)
