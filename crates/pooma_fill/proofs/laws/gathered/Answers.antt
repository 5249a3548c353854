use Rattle.pooma_fill.proofs.laws.gathered.Goals as goal

pub returns : goal.returns
returns c = record {
  cells = record {
    members = c.order_of_cells.ensures.members;
    once = c.order_of_cells.ensures.once;
    ascending = c.order_of_cells.ensures.ascending;
  };
  meeting = c.operations_on_boxes.ensures.meeting;
  owners = record {
    total = c.owners_of_cells.ensures.total;
    owned = c.owners_of_cells.ensures.owned;
    only = c.owners_of_cells.ensures.no_other;
  };
  objects = c.numbers_of_owners.ensures.objects;
  set = c.numbers_of_owners.ensures.set;
  kept = c.numbers_of_owners.ensures.kept;
  unseen = c.objects_change.ensures.unseen;
  words = c.pieces_make_words.ensures;
}
