use Rattle.pooma_store.proofs.laws.gathered.Goals as goal

pub returns : goal.returns
returns c = record {
  owners = record {
    total = c.owners_of_cells.ensures.total;
    owned = c.owners_of_cells.ensures.owned;
    only = c.owners_of_cells.ensures.no_other;
  };
  own = c.allocated_cells_of_patches.ensures.own;
  set = c.numbers_of_cells.ensures.set;
  kept = c.numbers_of_cells.ensures.kept;
  all_set = c.numbers_of_cells.ensures.all_set;
  all_kept = c.numbers_of_cells.ensures.all_kept;
  area = c.numbers_of_cells.ensures.area;
  full = c.numbers_of_cells.ensures.full;
  this = c.worlds_change.ensures.this;
  others = c.worlds_change.ensures.others;
  opening = c.worlds_change.ensures.opening;
}
