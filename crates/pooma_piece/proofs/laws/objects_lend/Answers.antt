use Rattle.pooma_piece.proofs.Asked.{are_requests}
use Rattle.pooma_piece.proofs.Below.{requests_below}
use Rattle.pooma_piece.proofs.Naming.{lent_is, written_is}
use Rattle.pooma_piece.proofs.Seen.{read_in_is}
use Rattle.pooma_piece.proofs.laws.objects_lend.Goals as goal

pub returns-clause-form : goal.returns-clause-form
returns-clause-form c write reads = are_requests write reads

pub returns-clause-written : goal.returns-clause-written
returns-clause-written c write reads = written_is write reads

pub returns-clause-below : goal.returns-clause-below
returns-clause-below c n write reads small all = requests_below n write reads small all

pub returns-clause-contents : goal.returns-clause-contents
returns-clause-contents c piece objects o all names = lent_is piece objects o all names

pub returns-clause-areas : goal.returns-clause-areas
returns-clause-areas c piece areas o all names = lent_is piece areas o all names

pub returns-clause-read_in : goal.returns-clause-read_in
returns-clause-read_in c piece k view object alike at read = read_in_is piece k view object alike at read
