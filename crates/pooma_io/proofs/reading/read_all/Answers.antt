use Rattle.std.proofs.Common.{◌≡◌, ◌+◌, ◌-◌, ◌≤◌, ◌++◌, length, take, arith}
use Rattle.pooma_io.proofs.Taken.{consumes_more, takes_at_most, takes_exactly, length-front, length-passes}
use Rattle.pooma_io.proofs.reading.read_all.Given.{Over}
use Rattle.pooma_io.proofs.reading.read_all.Goals as goal
use Rattle.pooma_io.proofs.reading.read_all.Goals.{After-drop-bytes-then-n-limit}

-- the bytes that were taken up to the first one past the limit
passed : (g : Over) (c : After-drop-bytes-then-n-limit g) → length (c.reads.bytes.items ++ take c.in_ok-n.n c.read.new.buf) ≡ c.args.limit + 1
passed g c =
    let asked : c.in_ok-n.n ≤ c.args.limit - length c.reads.bytes.items + 1 =
    omega (arith, length-front _ _ _ c.in_ok-n.ensures.within) in
    length-passes c.args.limit c.in_ok-n.n c.reads.bytes.items c.read.new.buf (omega arith) (omega arith) asked (omega (arith, c.in_ok-n.ensures.within, c.read.auto.buf))

pub returns-then-n-limit-clause-taken : goal.returns-then-n-limit-clause-taken
returns-then-n-limit-clause-taken g c =
    takes_at_most _ _ _ _ (consumes_more _ _ _ _ _ c.reads.invariant.taken c.in_ok-n.ensures.bytes.0) (omega (arith, passed g c))

pub returns-then-n-limit-clause-too_long : goal.returns-then-n-limit-clause-too_long
returns-then-n-limit-clause-too_long g c = λ _.
    takes_exactly _ _ _ _ (consumes_more _ _ _ _ _ c.reads.invariant.taken c.in_ok-n.ensures.bytes.0) (passed g c)
