use Rattle.pooma_field.proofs.CellPlaces.{HasOrder, stands, only_there, set_there, kept_elsewhere, all_set, all_kept, area_stays, full_stays, same_numbers}
use Rattle.pooma_field.proofs.laws.numbers_of_cells.Goals as goal

-- the box's order, as the law on it says
order : (c : goal.After-order_of_cells) → HasOrder
order c = record { members = c.order_of_cells.ensures.members; once = c.order_of_cells.ensures.once }

pub returns : goal.returns
returns c = record {
  stands = stands (order c);
  only_there = only_there (order c);
  set = set_there (order c);
  kept = kept_elsewhere;
  all_set = all_set (order c);
  all_kept = all_kept;
  area = area_stays;
  full = full_stays;
  same = same_numbers (order c);
}
