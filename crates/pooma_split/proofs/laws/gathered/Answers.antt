use Rattle.pooma_split.proofs.laws.gathered.Goals as goal

pub returns : goal.returns
returns c = record {
  cells = record {
    members = c.order_of_cells.ensures.members;
    once = c.order_of_cells.ensures.once;
    ascending = c.order_of_cells.ensures.ascending;
  };
  partition = c.parts_of_statements.ensures.partition;
  allocates = c.allocated_cells_of_patches.ensures.own;
  any_order = c.parts_in_any_order.ensures;
  by_reads = c.reads_stand_apart.ensures.by_reads;
  own = c.reads_stand_apart.ensures.own;
  part = c.reads_stand_apart.ensures.part;
  masks = c.masks_choose_values.ensures.whole;
  goes_on = c.reads_stand_apart.ensures.goes_on;
  area = c.positions_change_cells.ensures.area;
  full = c.positions_change_cells.ensures.full;
  none = c.faults_come_first.ensures.none;
  becomes = c.assignments_in_parts.ensures.becomes;
  faults = c.assignments_in_parts.ensures.faults;
  finishes = c.reductions_in_parts.ensures.finishes;
  reduction_faults = c.reductions_in_parts.ensures.faults;
  still = c.numbers_of_owners.ensures.objects;
  stands = c.objects_change.ensures.changed;
  fresh = c.objects_change.ensures.fresh;
  fresh_elsewhere = c.objects_change.ensures.fresh_elsewhere;
  words = c.pieces_make_words.ensures;
}
