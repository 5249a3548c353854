use Rattle.pooma_store.specs.Numbering.{new_patches}
use Rattle.pooma_store.proofs.NewArrays.{new_are_objects, new_number, opening_stands, new_guarded, new_more, number_stays}
use Rattle.pooma_store.proofs.LaterArrays.{zero_later, guarded_later}
use Rattle.pooma_store.proofs.laws.new_arrays.Goals as goal

pub returns : goal.returns
returns c = record {
  objects = new_are_objects;
  zeros = λ layouts array cell cut total. new_number c.gathered.ensures layouts array cell cut.axes total;
  opening = opening_stands c.gathered.ensures;
  guarded = new_guarded;
  more = new_more;
  kept = λ layouts objects layout array cell n has. number_stays layouts objects layout (new_patches layout) array cell n has;
  zeros_later = λ layouts objects layout cell are cut inside. zero_later c.gathered.ensures layouts objects layout cell are cut.axes inside;
  guarded_later = guarded_later;
}
