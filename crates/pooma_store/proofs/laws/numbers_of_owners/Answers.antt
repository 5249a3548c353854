use Rattle.std.proofs.Common.{[]}
use Rattle.std.proofs.lemmas.List.{get_or-set_same, get_or-set_other}
use Rattle.pooma_field.specs.Numbered.{number_at, with_changes}
use Rattle.pooma_store.specs.Numbering.{object_at}
use Rattle.pooma_store.specs.Standing.{owner_object}
use Rattle.pooma_store.proofs.OwnerNumbers.{owner_has_cell, one_number, still_objects, full_at}
use Rattle.pooma_store.proofs.WorldChanges.{patch_from, kept_number, set_number}
use Rattle.pooma_store.proofs.laws.numbers_of_owners.Goals as goal

pub returns : goal.returns
returns c = record {
  some = λ layouts objects array cell are cut total.
      (number_at (object_at objects (owner_object layouts array cell)) cell, owner_has_cell c.gathered.ensures layouts objects array cell are cut.axes total);
  one = one_number;
  objects = λ layouts objects k changes are below.
      still_objects layouts objects k _ are (c.gathered.ensures.area (object_at objects k) changes) (c.gathered.ensures.full (object_at objects k) changes (full_at objects k are.full below));
  this = λ objects k changes below. get_or-set_same objects k (with_changes (object_at objects k) changes) (record { area = []; numbers = [] }) below;
  others = λ objects j k changes apart. get_or-set_other objects k j (with_changes (object_at objects k) changes) (record { area = []; numbers = [] }) apart;
  set = λ layouts objects array p changes k change are patch owns at last.
      set_number c.gathered.ensures layouts objects array p changes k change (patch_from are patch)
      (record { known = patch.known; inside = c.gathered.ensures.owners.total _ p change.cell patch.cut.axes owns })
      (c.gathered.ensures.owners.only _ p change.cell patch.cut.axes owns) at last;
  kept = λ layouts objects array p changes other cell n are patch apart has.
      kept_number c.gathered.ensures layouts objects array p changes other cell n (patch_from are patch) apart has;
}
