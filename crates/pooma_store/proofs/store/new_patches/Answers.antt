use Rattle.std.proofs.Common.{◌∙◌, ap}
use Rattle.pooma_patch.specs.Patched.{Patched}
use Rattle.pooma_store.specs.Stored.{contents_of}
use Rattle.pooma_store.proofs.KeptPatches.{made_more}
use Rattle.pooma_store.proofs.store.new_patches.Goals as goal

pub loop-p-preserved : goal.loop-p-preserved
loop-p-preserved c =
    ap contents_of c.in_ok-push.ensures.items
    ∙ made_more c.loop-p.made.items c.in_ok-new.field-0 c.args.layout.now c.loop-p.p c.allocated-area.result c.loop-p.invariant c.allocated-area.ensures
    (ap (λ (patch : Patched). patch.content) c.in_ok-new.ensures.ok ∙ c.zeros.ensures.content)
