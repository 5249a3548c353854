use Rattle.std.proofs.Common.{◌≡◌, ◌∷◌, ◌++◌, map, take}
use Rattle.pooma_part.specs.CutLines.{parts_in}
use Rattle.pooma_part.proofs.line.Line.add_boxes.Given as goal

abbrev pub invariant-loop-k : goal.invariant-loop-k
invariant-loop-k l = l.boxes.items ≡ l.initial.boxes.items ++ map (λ part. part ∷ l.later) (take l.k (parts_in l.self))
