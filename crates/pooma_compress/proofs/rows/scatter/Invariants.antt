use Rattle.std.proofs.Common.{◌≡◌, pos, ◌+ℤ◌}
use Rattle.pooma_compress.specs.Rows.{row_place}
use Rattle.pooma_compress.proofs.RowNumbers.{IsWrittenUpTo}
use Rattle.pooma_compress.proofs.rows.scatter.Given as goal

abbrev pub invariant-loop-k : goal.invariant-loop-k
invariant-loop-k l = record {
  next : pos l.place +ℤ l.stride ≡ row_place l.first l.stride l.k;
  written : IsWrittenUpTo l.row l.first l.stride l.k l.fn.numbers l.numbers;
}
