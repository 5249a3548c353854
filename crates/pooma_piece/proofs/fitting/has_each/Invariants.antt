use Rattle.std.proofs.Common.{◌≡◌, true, take}
use Rattle.std.specs.List.{list_all}
use Rattle.pooma_domain.specs.Cells.{cells_of}
use Rattle.pooma_piece.specs.Lent.{is_in}
use Rattle.pooma_piece.proofs.fitting.has_each.Given as goal

abbrev pub invariant-loop-k : goal.invariant-loop-k
invariant-loop-k l = list_all (is_in l.area) (take l.k (cells_of l.cells)) ≡ true
