use Rattle.pooma_model.proofs.Assigned.{OfWorlds}
use Rattle.pooma_model.proofs.Changing.{OfNumbers}
use Rattle.pooma_model.proofs.Keeping.{full_there, has_there, new_keeps, opening_is, world_keeps}
use Rattle.pooma_model.proofs.laws.worlds_keep_cells.Goals as goal

numbers : (c : goal.After-worlds_change) → OfNumbers
numbers c = record {
  set = c.numbers_of_cells.ensures.set;
  kept = c.numbers_of_cells.ensures.kept;
  area = c.numbers_of_cells.ensures.area;
  full = c.numbers_of_cells.ensures.full;
  same = c.numbers_of_cells.ensures.same;
}

worlds : (c : goal.After-worlds_change) → OfWorlds
worlds c = record { this = c.worlds_change.ensures.this; others = c.worlds_change.ensures.others }

pub returns : goal.returns
returns c = record {
  opening = opening_is;
  kept = world_keeps (numbers c) (worlds c);
  one = new_keeps (numbers c) (worlds c);
  has = has_there;
  full = full_there;
}
