use Rattle.pooma_fill.proofs.Freshening.{as_many_after, first_marked, still_marked}
use Rattle.pooma_fill.proofs.laws.marks_tell_stale.Goals as goal

pub returns : goal.returns
returns c = record {
  first = λ store stale objects world has. first_marked store stale objects world has;
  after = λ store stale number does objects now world next can others. still_marked c.gathered.ensures store stale number does objects now world next can others;
  as_many = λ stale does same. as_many_after does 0 stale.shapes stale.marks same;
}
