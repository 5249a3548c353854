use Rattle.pooma_view.specs.Slots.{positions_of}
use Rattle.pooma_view.proofs.SlotLists.{accepted, joined, few_axes}
use Rattle.pooma_view.proofs.laws.positions_by_slots.Goals as goal

pub returns : goal.returns
returns c = record {
  parts = λ slot slots p. (accepted slot (positions_of slots) p, λ h. joined slot (positions_of slots) p h.0 h.1);
  few = few_axes;
}
