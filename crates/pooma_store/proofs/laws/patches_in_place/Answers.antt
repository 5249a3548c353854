use Rattle.pooma_store.proofs.PatchBoxes.{patch_in_place}
use Rattle.pooma_store.proofs.laws.patches_in_place.Goals as goal

pub returns : goal.returns
returns c patches k old new same = patch_in_place patches k old new same
