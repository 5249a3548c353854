use Rattle.std.proofs.Common.{◌≡◌, ◌++◌, [], map, take}
use Rattle.pooma_expr.specs.Trees.{views_of}
use Rattle.pooma_part.specs.Cuts.{laid_in}
use Rattle.pooma_split.specs.Splits.{declared_in, views_with}
use Rattle.pooma_split.proofs.cutting.parts.Given as goal

abbrev pub invariant-loop-view : goal.invariant-loop-view
invariant-loop-view l =
    l.list.items ≡ map (laid_in (declared_in l.store 0)) (views_with l.task []) ++ map (laid_in (declared_in l.store 0)) (take l.view-index (views_of l.code))
