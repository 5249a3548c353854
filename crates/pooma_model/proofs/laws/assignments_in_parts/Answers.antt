use Rattle.std.proofs.Common.{sym, ap, ◌∙◌}
use Rattle.pooma_domain.specs.Cells.{cells_of}
use Rattle.pooma_view.specs.Slots.{positions_of}
use Rattle.pooma_field.specs.Worlds.{changed}
use Rattle.pooma_model.specs.Assigning.{Becomes, fault_or, given_at}
use Rattle.pooma_model.specs.Partitions.{changes_at}
use Rattle.pooma_model.proofs.Assigned.{OfWorlds, parts_change_all, same_changes}
use Rattle.pooma_model.proofs.Changing.{OfNumbers}
use Rattle.pooma_model.proofs.Faulting.{least_is, none_parts}
use Rattle.pooma_model.proofs.Partitioning.{OfCells, is_in}
use Rattle.pooma_model.proofs.laws.assignments_in_parts.Goals as goal

cells : (c : goal.After-cells_apart) → OfCells
cells c = record { members = c.order_of_cells.ensures.members; once = c.order_of_cells.ensures.once; ascending = c.order_of_cells.ensures.ascending }

numbers : (c : goal.After-cells_apart) → OfNumbers
numbers c = record {
  set = c.numbers_of_cells.ensures.set;
  kept = c.numbers_of_cells.ensures.kept;
  area = c.numbers_of_cells.ensures.area;
  full = c.numbers_of_cells.ensures.full;
  same = c.numbers_of_cells.ensures.same;
}

worlds : (c : goal.After-cells_apart) → OfWorlds
worlds c = record { this = c.worlds_change.ensures.this; others = c.worlds_change.ensures.others }

pub returns : goal.returns
returns c = record {
  becomes = λ declared target value mask boxes world full parts none.
      let given = given_at declared world value mask in
      ap (λ f. fault_or f (changed world target.array (changes_at given target.slots (cells_of (positions_of target.slots)))))
      (none_parts (cells c) given (positions_of target.slots) boxes parts none)
      ∙ ap Becomes (sym (parts_change_all (numbers c) (worlds c) given target (cells c) c.cells_apart.ensures.apart boxes world full parts));
  faults = λ declared target value mask boxes world fault parts least.
      let given = given_at declared world value mask in
      ap (λ f. fault_or f (changed world target.array (changes_at given target.slots (cells_of (positions_of target.slots)))))
      (least_is (cells c) given (positions_of target.slots) boxes parts fault least);
  world = λ target given boxes world full parts. parts_change_all (numbers c) (worlds c) given target (cells c) c.cells_apart.ensures.apart boxes world full parts;
  same = λ given other target box equal. same_changes given other target.slots (cells_of box) (λ p m. equal p (is_in (cells c) box p m));
}
