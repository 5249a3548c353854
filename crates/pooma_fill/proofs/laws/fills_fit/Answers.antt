use Rattle.pooma_machine.specs.Values.{lent_by}
use Rattle.pooma_piece.specs.Pieces.{requests_of}
use Rattle.pooma_store.specs.Numbering.{areas_of}
use Rattle.pooma_fill.proofs.Suiting.{each_suits}
use Rattle.pooma_fill.proofs.laws.fills_fit.Goals as goal

pub returns : goal.returns
returns c = record {
  known = λ store stale number does piece arrays has there. (each_suits c.gathered.ensures store stale number does piece arrays has there).known;
  fits = λ store stale number does piece arrays has there.
      (c.pieces_fit.ensures piece (lent_by (areas_of store.layouts) (requests_of piece)).written (lent_by (areas_of store.layouts) (requests_of piece)).reads).1
      (each_suits c.gathered.ensures store stale number does piece arrays has there).fitting;
  statement = λ store stale number does piece arrays has there. (each_suits c.gathered.ensures store stale number does piece arrays has there).statement;
}
