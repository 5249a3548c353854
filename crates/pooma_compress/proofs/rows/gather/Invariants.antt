use Rattle.std.proofs.Common.{◌≡◌, pos, ◌+ℤ◌}
use Rattle.pooma_compress.specs.Rows.{row_place}
use Rattle.pooma_compress.proofs.RowNumbers.{IsRowUpTo}
use Rattle.pooma_compress.proofs.rows.gather.Given as goal

abbrev pub invariant-loop-k : goal.invariant-loop-k
invariant-loop-k l = record {
  next : pos l.place +ℤ l.stride ≡ row_place l.first l.stride l.k;
  read : IsRowUpTo l.numbers l.first l.stride l.k l.out;
}
