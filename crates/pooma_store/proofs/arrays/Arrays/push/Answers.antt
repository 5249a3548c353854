use Rattle.std.proofs.Common.{arith, ap, subst, sym, ◌∙◌, ◌<◌, ◌+◌, ℕ, refl}
use Rattle.std.specs.Prelude.{length}
use Rattle.pooma_store.specs.Arrayed.{Arrayed}
use Rattle.pooma_store.proofs.KeptArrays.{few_objects, array_pushed}
use Rattle.pooma_store.proofs.arrays.Arrays.push.Goals as goal

pub overflow_add-self : goal.overflow_add-self
overflow_add-self c =
    omega (arith, few_objects _ _ c.self.invariant.0, c.self.invariant.2, c.patches-patches.ensures.value, c.patches-patches.ensures.valid.few_patches)

pub invariant_of-self-2 : goal.invariant_of-self-2
invariant_of-self-2 c =
    let pushed = array_pushed c.self.inside.list.items c.push.new.self.items (record { shape = c.args.shape; layout = c.args.layout; first = c.self.inside.objects })
    c.self.inside.objects c.in_ok-push.ensures.items c.self.invariant.0 c.self.invariant.1 c.self.invariant.2 refl
    (subst (λ (a : Arrayed). length a.layouts < 512) (sym c.self.view_is) c.requires.few) c.requires.fits c.args.shape.valid c.patches-patches.ensures.valid in
    (pushed.0, pushed.1, ap (λ (n : ℕ). c.self.inside.objects + n) c.patches-patches.ensures.value ∙ pushed.2)
