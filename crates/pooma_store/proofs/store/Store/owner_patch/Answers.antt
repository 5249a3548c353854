use Rattle.std.proofs.Common.{◌≡◌, sym, ap, ◌∙◌, subst, arith, ℤ}
use Rattle.pooma_domain.specs.Cells.{IsIn}
use Rattle.pooma_field.specs.Numbered.{number_at}
use Rattle.pooma_layout.specs.Patches.{owner_of}
use Rattle.pooma_patch.specs.Patched.{Patched}
use Rattle.pooma_store.specs.Standing.{OwnerHas}
use Rattle.pooma_store.specs.Stored.{Stored, contents_of}
use Rattle.pooma_store.proofs.KeptPatches.{number_found, patch_there, owner_says}
use Rattle.pooma_store.proofs.store.Store.owner_patch.Goals as goal

pub index-requires : goal.index-requires
index-requires c =
    let has : (n : ℤ) × OwnerHas c.self.inside.arrays.layouts (contents_of c.self.inside.patches.items) c.args.array c.args.c.now n =
    number_found c.numbers_of_owners.ensures.some _ c.args.self.now c.args.array c.args.c.now c.layout-layout.result.now c.self.view_is c.self.invariant.0 c.requires.home c.layout-layout.ensures.value c.layout-layout.ensures.valid c.requires.cell in
    omega (
      arith,
      c.self.inside.patches.ok,
      patch_there c.self.inside.arrays.layouts c.self.inside.patches.items c.args.array c.owner-owner.result c.object-object.result c.args.c.now has.0 has.1
          (c.owner-owner.ensures.by_parts ∙ ap (λ layout. owner_of layout c.args.c.now) c.layout-layout.ensures.value) c.object-object.ensures.value,
    )

-- the cell's number, and that the patch at hand has it
says : (c : goal.After-deref) → (n : ℤ) × OwnerHas c.self.inside.arrays.layouts (contents_of c.self.inside.patches.items) c.args.array c.args.c.now n × IsIn c.deref.result.now.content.area c.args.c.now × (number_at c.deref.result.now.content c.args.c.now ≡ n)
says c =
    let has : (n : ℤ) × OwnerHas c.self.inside.arrays.layouts (contents_of c.self.inside.patches.items) c.args.array c.args.c.now n =
    number_found c.numbers_of_owners.ensures.some _ c.args.self.now c.args.array c.args.c.now c.layout-layout.result.now c.self.view_is c.self.invariant.0 c.requires.home c.layout-layout.ensures.value c.layout-layout.ensures.valid c.requires.cell in
    let says : IsIn c.deref.result.now.content.area c.args.c.now × (number_at c.deref.result.now.content c.args.c.now ≡ has.0) =
    subst (λ (patch : Patched). IsIn patch.content.area c.args.c.now × (number_at patch.content c.args.c.now ≡ has.0)) (sym c.deref.ensures)
    (owner_says c.self.inside.arrays.layouts c.self.inside.patches.items c.args.array c.owner-owner.result c.object-object.result c.args.c.now has.0 c.index.result.now has.1
    (c.owner-owner.ensures.by_parts ∙ ap (λ layout. owner_of layout c.args.c.now) c.layout-layout.ensures.value) c.object-object.ensures.value c.index.ensures) in
    (has.0, has.1, says.0, says.1)

pub returns-clause-inside : goal.returns-clause-inside
returns-clause-inside c = (says c).2

pub returns-clause-owner : goal.returns-clause-owner
returns-clause-owner c =
    subst (λ (s : Stored). OwnerHas s.layouts s.objects c.args.array c.args.c.now (number_at c.deref.result.now.content c.args.c.now)) c.self.view_is
    (subst (OwnerHas c.self.inside.arrays.layouts (contents_of c.self.inside.patches.items) c.args.array c.args.c.now) (sym (says c).3) (says c).1)
