use Rattle.pooma_piece.proofs.Areas.{fits_is}
use Rattle.pooma_piece.proofs.laws.pieces_fit.Goals as goal

pub returns : goal.returns
returns c piece written reads = fits_is c.order_of_cells.ensures.members piece written reads
