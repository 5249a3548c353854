use Rattle.std.proofs.Common.{subst, sym, ap, ◌∙◌, to_z, to_z-of_z, FitsSigned, w64, map, rules}
use Rattle.pooma_lanes.specs.Rows.{number_at}
use Rattle.pooma_lanes.specs.Blocks.{IsBlockOf}
use Rattle.pooma_lanes.proofs.Bits.{back_is}
use Rattle.pooma_lanes.proofs.row.Row.block.Goals as goal
use Rattle.pooma_lanes.proofs.row.Row.block.Goals.{in-Numbers, in-One}

pub returns : goal.returns
returns c = elim c.match-self.branch [
  | in-Numbers w ↦
      let same = ap (map (to_z w64)) w.result-is ∙ back_is w.load.result w.load.ensures.block.fit in
      subst (λ r. IsBlockOf (number_at r) c.args.at (map (to_z w64) c.match-self.result)) (sym w.in-Numbers.is)
      (subst (IsBlockOf _ c.args.at) (sym same) w.load.ensures)
  | in-One w ↦
      let fits : FitsSigned w64 w.in-One.number = search rules in
      let same = ap (map (to_z w64)) w.result-is ∙ back_is w.of_one.result w.of_one.ensures.block.fit in
      subst (λ r. IsBlockOf (number_at r) c.args.at (map (to_z w64) c.match-self.result)) (sym w.in-One.is)
      (subst (IsBlockOf _ c.args.at) (sym same) record { block = w.of_one.ensures.block; numbers = λ k lt. w.of_one.ensures.numbers k lt ∙ to_z-of_z fits })
]
