use Rattle.std.proofs.Common.{ap}
use lib.Lanes.{put_chunk}
use Rattle.pooma_lanes.proofs.Bits.{back_is}
use Rattle.pooma_lanes.proofs.block.store.Goals as goal

pub returns : goal.returns
returns c = ap (put_chunk c.args.at c.args.out.now) (back_is c.args.block c.requires.block.fit)
