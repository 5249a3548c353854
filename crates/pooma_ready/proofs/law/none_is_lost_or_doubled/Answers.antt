use Rattle.pooma_ready.proofs.Dealt.{each_as_often as as_often}
use Rattle.pooma_ready.proofs.law.none_is_lost_or_doubled.Goals as goal

pub returns : goal.returns
returns c = record { each_as_often = as_often }
