use Rattle.std.proofs.Common.{◌≡◌, sym, ap, ◌∙◌, subst, false, List, ◌++◌}
use Rattle.pooma_layout.specs.Axes.{CutAxis}
use Rattle.pooma_store.specs.Numbering.{AreObjects}
use Rattle.pooma_store.specs.Stored.{Stored, contents_of}
use Rattle.pooma_store.proofs.KeptPatches.{patches_more}
use Rattle.pooma_store.proofs.store.Store.declare.Goals as goal

pub invariant_of-self-2 : goal.invariant_of-self-2
invariant_of-self-2 c =
    let home : c.self.inside.lent ≡ false = ap (λ (s : Stored). s.lent) c.self.view_is ∙ c.requires.home in (
      λ _. subst (λ (layouts : List (List CutAxis)). AreObjects layouts (contents_of c.append.new.patches.items)) (sym c.in_ok-push.ensures.layouts)
          (patches_more c.self.inside.arrays.layouts c.self.inside.patches.items c.in_ok-patches.patches.items c.append.new.patches.items c.args.layout
          (c.append.ensures ∙ ap (λ items. items ++ c.in_ok-patches.patches.items) c.reserve.ensures.items) c.in_ok-patches.ensures (c.self.invariant.0 home)),
      λ lent. absurd (cc (home, lent)),
    )
