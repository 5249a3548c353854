use Rattle.std.proofs.Common.{ap}
use Rattle.pooma_layout.specs.Patches.{boxes_of}
use Rattle.pooma_part.proofs.Laying.{cuts_declared}
use Rattle.pooma_part.proofs.laws.cuts_are_parts.Goals as goal

pub returns : goal.returns
returns c = record {
  axes = cuts_declared;
  parts = λ declared views positions. ap boxes_of (cuts_declared declared views 0 positions);
}
