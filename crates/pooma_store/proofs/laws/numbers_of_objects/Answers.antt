use Rattle.pooma_store.proofs.ObjectNumbers.{length-areas, object_there, objects_apart, object_found, area_at}
use Rattle.pooma_store.proofs.laws.numbers_of_objects.Goals as goal

pub returns : goal.returns
returns c = record {
  counted = length-areas;
  area = area_at;
  there = λ layouts array p patch. object_there layouts array p patch.known patch.within;
  apart = λ layouts array other p q patch others. objects_apart layouts array other p q patch.known others.known patch.within others.within;
  found = λ layouts k cut below.
      let at = object_found layouts k below in
      (at.0, at.1, record { known = at.2; cut = cut at.0 at.2; within = at.3 }, at.4);
}
