use Rattle.pooma_domain.specs.Axes.{interval_of}
use Rattle.pooma_part.specs.CutLines.{IsCutLine}
use Rattle.pooma_part.proofs.Finding.{borders_found, borders_ascend, borders_inside}
use Rattle.pooma_part.proofs.line.Line.cut.Goals as goal

valid : (c : goal.After-dedup) → IsCutLine (record { whole = interval_of c.args.axis; borders = c.dedup.new.self.items })
valid c = record {
  axis = record { ordered = c.args.axis.ordered; low = c.args.axis.low; high = c.args.axis.high };
  ascending = borders_ascend c.in_ok-places.places.items c.sort_unstable.new.self.items c.dedup.new.self.items c.sort_unstable.ensures.permutation c.sort_unstable.ensures.sorted c.dedup.ensures.filtered;
  inside =
      borders_inside c.args.seen.now c.args.n (interval_of c.args.axis) c.in_ok-places.places.items c.sort_unstable.new.self.items c.dedup.new.self.items c.in_ok-places.ensures
      c.sort_unstable.ensures.permutation c.sort_unstable.ensures.sorted c.dedup.ensures.filtered;
}

pub invariant_of-result : goal.invariant_of-result
invariant_of-result c = valid c

pub returns-clause-borders : goal.returns-clause-borders
returns-clause-borders c =
    borders_found c.args.seen.now c.args.n (interval_of c.args.axis) c.in_ok-places.places.items c.sort_unstable.new.self.items c.dedup.new.self.items c.args.axis.ordered c.in_ok-places.ensures
    c.sort_unstable.ensures.permutation c.sort_unstable.ensures.sorted c.dedup.ensures.filtered

pub returns-clause-valid : goal.returns-clause-valid
returns-clause-valid c = valid c
