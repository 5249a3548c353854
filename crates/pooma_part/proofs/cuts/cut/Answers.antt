use Rattle.std.proofs.Common.{arith, sym, ◌∙◌, subst, ◌≡◌, take}
use Rattle.std.proofs.lemmas.List.{take_all}
use Rattle.std.proofs.lemmas.List.Elements.{All-push}
use Rattle.std.specs.Prelude.{All}
use Rattle.pooma_domain.specs.Axes.{interval_of}
use Rattle.pooma_domain.specs.Cells.{IsBox}
use Rattle.pooma_part.specs.CutLines.{IsCutLine}
use Rattle.pooma_part.proofs.Dividing.{wholes}
use Rattle.pooma_part.proofs.Making.{cuts_more, wholes_more}
use Rattle.pooma_part.proofs.cuts.cut.Goals as goal

pub loop-n-preserved : goal.loop-n-preserved
loop-n-preserved c = (
  cuts_more c.args.seen.now c.args.positions.now c.loop-n.n c.loop-n.lines.items c.push.new.self.items c.in_ok-cut.field-0 (interval_of c.axis.result)
      c.loop-n.invariant.0 c.axis.ensures c.in_ok-cut.ensures.whole c.in_ok-cut.ensures.borders c.in_ok-push.ensures.items,
  wholes_more c.args.positions.now c.loop-n.n c.loop-n.lines.items c.push.new.self.items c.in_ok-cut.field-0 (interval_of c.axis.result)
      c.loop-n.invariant.1 c.axis.ensures c.in_ok-cut.ensures.whole c.in_ok-push.ensures.items,
  subst (All IsCutLine) (sym c.in_ok-push.ensures.items) (All-push IsCutLine c.loop-n.lines.items c.in_ok-cut.field-0 c.loop-n.invariant.2 c.in_ok-cut.ensures.valid),
)

pub invariant_of-result : goal.invariant_of-result
invariant_of-result c = record {
  each = c.loop-n.invariant.2;
  box =
      let all : take c.loop-n.n c.args.positions.now ≡ c.args.positions.now = take_all c.loop-n.n c.args.positions.now (omega (arith, c.loop-n-test.false, c.dims-n-end.ensures.value)) in
      let same : wholes c.loop-n.lines.items ≡ c.args.positions.now = c.loop-n.invariant.1 ∙ all in
      subst IsBox (sym same) c.dims.ensures.valid;
}
