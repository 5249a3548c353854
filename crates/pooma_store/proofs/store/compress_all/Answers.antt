use Rattle.std.proofs.Common.{refl, ◌∙◌, subst, arith}
use Rattle.std.specs.Prelude.{All}
use Rattle.std.specs.declared.alloc.Global.{Global}
use Rattle.std.specs.declared.sync.Arc.{Arc}
use Rattle.pooma_patch.specs.Patched.{Patched}
use Rattle.pooma_field.specs.Numbered.{IsFull}
use Rattle.std.proofs.lemmas.List.{take_all, length-map}
use Rattle.std.specs.Arc.{arc_value}
use Rattle.pooma_store.specs.Stored.{contents_of}
use Rattle.pooma_store.proofs.KeptPatches.{contents_stay, full_more}
use Rattle.pooma_store.proofs.KeptOnes.{all_stay_first, all_stay_more, kept_of_stay}
use Rattle.pooma_store.proofs.store.compress_all.Goals as goal

pub loop-patch-preserved : goal.loop-patch-preserved
loop-patch-preserved c = record {
  contents = contents_stay c.loop-patch.patches c.loop-patch.patch-index c.patch-item.result c.compress_if_alone.new.patch c.compress_if_alone.ensures.content ∙ c.loop-patch.invariant.contents;
  full = full_more c.loop-patch.patches c.loop-patch.patch-index c.patch-item.result c.compress_if_alone.new.patch (omega arith) c.compress_if_alone.ensures.content c.compress_if_alone.ensures.full c.loop-patch.invariant.full;
  stay = all_stay_more c.args.patches.now c.loop-patch.patches c.loop-patch.patch-index c.patch-item.result c.compress_if_alone.new.patch c.loop-patch.invariant.stay (omega arith) c.compress_if_alone.ensures.content c.compress_if_alone.ensures.one;
}

pub loop-patch-init : goal.loop-patch-init
loop-patch-init c = record { contents = refl; full = λ k d below. absurd (omega (arith, below)); stay = all_stay_first c.args.patches.now }

pub returns-clause-ones : goal.returns-clause-ones
returns-clause-ones c = kept_of_stay _ _ c.loop-patch.invariant.contents c.loop-patch.invariant.stay

pub returns-clause-full : goal.returns-clause-full
returns-clause-full c =
    subst (All IsFull)
    (take_all c.loop-patch.patch-index (contents_of c.loop-patch.patches) (omega (arith, c.loop-patch-test.false, length-map c.loop-patch.patches (λ (a : Arc Patched Global). (arc_value a).content))))
    c.loop-patch.invariant.full
