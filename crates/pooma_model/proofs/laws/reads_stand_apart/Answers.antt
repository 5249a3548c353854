use Rattle.std.proofs.Common.{refl}
use Rattle.pooma_logic.proofs.Members.{member_at, of_any}
use Rattle.pooma_domain.specs.Cells.{IsIn}
use Rattle.pooma_view.specs.Slots.{positions_of}
use Rattle.pooma_field.specs.Worlds.{number_of}
use Rattle.pooma_model.specs.Declarations.{shape_at}
use Rattle.pooma_model.proofs.Assigned.{OfWorlds, goes_on}
use Rattle.pooma_model.proofs.Changing.{OfNumbers}
use Rattle.pooma_model.proofs.Partitioning.{others_apart, others_within}
use Rattle.pooma_model.proofs.Reading.{OfLooking, own_number, unwritten, value_by_reads, value_midway}
use Rattle.pooma_model.proofs.laws.reads_stand_apart.Goals as goal

numbers : (c : goal.After-worlds_change) → OfNumbers
numbers c = record {
  set = c.numbers_of_cells.ensures.set;
  kept = c.numbers_of_cells.ensures.kept;
  area = c.numbers_of_cells.ensures.area;
  full = c.numbers_of_cells.ensures.full;
  same = c.numbers_of_cells.ensures.same;
}

worlds : (c : goal.After-worlds_change) → OfWorlds
worlds c = record { this = c.worlds_change.ensures.this; others = c.worlds_change.ensures.others }

looking : (c : goal.After-worlds_change) → OfLooking
looking c = record { plain = c.looking_up.ensures.plain; physical = c.looking_up.ensures.physical }

pub returns : goal.returns
returns c = record {
  by_reads = λ scalars has other e p. value_by_reads scalars has other p e;
  own = λ declared world view cell inside. own_number (looking c) (shape_at declared view.array) (number_of world view.array) cell inside;
  unwritten = unwritten;
  midway = value_midway (looking c);
  part = λ declared target whole boxes k box done old new has p fit parts at inside others midway sees.
      let positions = positions_of target.slots in
      value_midway (looking c) declared target whole done old new has p fit (others_within positions boxes parts k done others)
      ((parts.cells p).1 (of_any (λ b. IsIn b p) boxes box (member_at boxes k box at) inside))
      (others_apart positions boxes parts k done others box p at inside) midway sees;
  begins = λ target world array cell none. refl;
  goes_on = goes_on (numbers c) (worlds c);
}
