use Rattle.std.proofs.Common.{arith, rules, ap, ◌≡◌, ◌∷◌, ◌∙◌, List, drop, length, ◌*◌, ◌+◌, ℕ}
use Rattle.pooma_domain.specs.Cells.{IsIn}
use Rattle.std.proofs.lemmas.Int.{to_z-of_z}
use Rattle.std.specs.Int.{w32}
use Rattle.std.specs.Prelude.{FitsSigned, Some, slice_get, ℤ}
use Rattle.pooma_layout.specs.Axes.{CutAxis, parts, part_of}
use Rattle.pooma_layout.specs.Patches.{total_of, owner_of}
use Rattle.pooma_layout.proofs.Stepping.{first_and_later, fewer, owner_after, owner_below}
use Rattle.pooma_layout.proofs.patches.+owner.Goals as goal

pub owner-requires : goal.owner-requires
owner-requires t c =
    let split = first_and_later c.args.axes.now c.first-item.result c.in-len1-up.len_at_least c.first-item.is in (
      search rules,
      (
        (owner_after c.args.axes.now c.first-item.result _ c.args.c.now c.rest.result c.at.result split c.at.ensures c.rest.ensures c.requires.inside).0,
        (fewer c.args.axes.now c.first-item.result _ split c.requires.few).1,
      ),
    )

-- the owner as the code computes it
is_owner : (axes later : List CutAxis) (first : CutAxis) (c xs : List ℤ) (x : ℤ) (part n rest : ℕ) → axes ≡ first ∷ later → slice_get c 0 ≡ Some x → xs ≡ drop 1 c → IsIn (total_of axes) c → part ≡ part_of first.borders x → n ≡ length (parts first) → rest ≡ owner_of later xs → part + n * rest ≡ owner_of axes c
is_owner axes later first c xs x part n rest split here after inside is_part is_n is_rest =
    ap (λ i. i + n * rest) is_part ∙ ap (λ m. part_of first.borders x + m * rest) is_n ∙ ap (λ j. part_of first.borders x + length (parts first) * j) is_rest
    ∙ (owner_after axes first later c xs x split here after inside).1

pub overflow_mul-result : goal.overflow_mul-result
overflow_mul-result t c =
    let split = first_and_later c.args.axes.now c.first-item.result c.in-len1-up.len_at_least c.first-item.is in
    let fits : FitsSigned w32 c.at.result = search rules in
    let part = simp to_z-of_z at c.part_of.ensures in
    let is = is_owner c.args.axes.now _ c.first-item.result c.args.c.now c.rest.result c.at.result c.part_of.result c.parts.result c.owner.result split c.at.ensures c.rest.ensures c.requires.inside part c.parts.ensures.value c.owner.ensures in
    omega (arith, is, owner_below c.args.axes.now c.args.c.now c.requires.inside, c.requires.few)

pub overflow_add-result : goal.overflow_add-result
overflow_add-result t c =
    let split = first_and_later c.args.axes.now c.first-item.result c.in-len1-up.len_at_least c.first-item.is in
    let fits : FitsSigned w32 c.at.result = search rules in
    let part = simp to_z-of_z at c.part_of.ensures in
    let is = is_owner c.args.axes.now _ c.first-item.result c.args.c.now c.rest.result c.at.result c.part_of.result c.parts.result c.owner.result split c.at.ensures c.rest.ensures c.requires.inside part c.parts.ensures.value c.owner.ensures in
    omega (arith, is, owner_below c.args.axes.now c.args.c.now c.requires.inside, c.requires.few)

pub returns-in-len1-up : goal.returns-in-len1-up
returns-in-len1-up t c =
    let split = first_and_later c.args.axes.now c.first-item.result c.in-len1-up.len_at_least c.first-item.is in
    let fits : FitsSigned w32 c.at.result = search rules in
    let part = simp to_z-of_z at c.part_of.ensures in
    is_owner c.args.axes.now _ c.first-item.result c.args.c.now c.rest.result c.at.result c.part_of.result c.parts.result c.owner.result split c.at.ensures c.rest.ensures c.requires.inside part c.parts.ensures.value c.owner.ensures
