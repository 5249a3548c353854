use Rattle.std.proofs.Common.{◌≡◌, ◌++◌, map, take, drop}
use Rattle.std.specs.Prelude.{All}
use Rattle.pooma_part.specs.CutLines.{IsCutLine, parts_in}
use Rattle.pooma_part.specs.Cuts.{cuts_of}
use Rattle.pooma_part.proofs.cuts.cut.Given as goal

-- the parts of the axes so far and those of the later ones are all
abbrev pub invariant-loop-n : goal.invariant-loop-n
invariant-loop-n l =
    (map parts_in l.lines.items ++ cuts_of l.seen l.n (drop l.n l.positions) ≡ cuts_of l.seen 0 l.positions)
    × (map (λ line. line.whole) l.lines.items ≡ take l.n l.positions)
    × All IsCutLine l.lines.items
