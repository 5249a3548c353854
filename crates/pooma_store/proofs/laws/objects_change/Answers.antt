use Rattle.pooma_store.proofs.WorldChanges.{patch_from, stands_changed, stands_unseen, fresh_kept, fresh_elsewhere, guarded_elsewhere}
use Rattle.pooma_store.proofs.laws.objects_change.Goals as goal

pub returns : goal.returns
returns c = record {
  changed = λ layouts objects world array p changes are patch full owned stands.
      stands_changed c.gathered.ensures layouts objects world array p changes (patch_from are patch) full owned stands;
  unseen = λ layouts objects world array p changes are patch unseen stands.
      stands_unseen c.gathered.ensures layouts objects world array p changes (patch_from are patch) unseen stands;
  fresh = λ shapes layouts objects world array p changes other are patch physical fresh.
      fresh_kept c.gathered.ensures shapes layouts objects world array p changes other (patch_from are patch) physical fresh;
  fresh_elsewhere = fresh_elsewhere c.gathered.ensures;
  guarded_elsewhere = λ layouts objects array p changes other are patch apart guarded.
      guarded_elsewhere c.gathered.ensures layouts objects array p _ other (patch_from are patch) apart guarded;
}
