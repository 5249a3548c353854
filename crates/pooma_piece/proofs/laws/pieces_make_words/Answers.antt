use Rattle.pooma_law.specs.Ser.{at_first}
use Rattle.pooma_piece.proofs.Words.{plan_words}
use Rattle.pooma_piece.proofs.laws.pieces_make_words.Goals as goal

pub returns : goal.returns
returns c plan objects makes words = plan_words c.order_of_cells.ensures.members plan (at_first objects) makes words
