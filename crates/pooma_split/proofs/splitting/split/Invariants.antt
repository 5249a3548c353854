use Rattle.std.proofs.Common.{◌≡◌, map, take}
use Rattle.pooma_expr.specs.Trees.{views_of}
use Rattle.pooma_model.specs.Parts.{parts_of}
use Rattle.pooma_split.specs.Splits.{declared_in, piece_of, views_with}
use Rattle.pooma_split.proofs.splitting.split.Given as goal

abbrev pub invariant-loop-part : goal.invariant-loop-part
invariant-loop-part l =
    l.made.items
    ≡ map (piece_of (declared_in l.store 0) l.number l.task l.code) (take l.part-index (parts_of (declared_in l.store 0) (views_with l.task (views_of l.code)) l.positions))
