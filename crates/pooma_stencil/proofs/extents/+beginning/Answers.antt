use Rattle.std.proofs.Common.{◌+ℤ◌, length, FitsSigned, refl, ap, ◌∙◌, arith, rules}
use Rattle.std.specs.Int.{w32}
use Rattle.std.proofs.lemmas.Int.{to_z-of_z}
use Rattle.pooma_stencil.proofs.Firsts.{first_and_later, near_start, later_ones, moved_first, sum_fits}
use Rattle.pooma_stencil.proofs.extents.+beginning.Goals as goal

pub overflow_add-first : goal.overflow_add-first
overflow_add-first t c =
    (sum_fits _ _ (search rules) (search rules) (near_start _ _ _ _ _ c.at.ensures c.at-2.ensures c.requires.low c.requires.high c.requires.within)).1

pub beginning-requires : goal.beginning-requires
beginning-requires t c =
    let later = later_ones _ _ _ _ _ _ _ c.at.ensures c.rest.ensures c.rest-2.ensures c.rest-3.ensures c.requires.low c.requires.high c.requires.dims c.requires.within in
    (omega (arith, later.shorter, c.decreases), (later.low, (later.high, (later.paired, later.within))))

pub returns-clause-sum : goal.returns-clause-sum
returns-clause-sum t c =
    let l_fits : FitsSigned w32 c.at.result = search rules in
    let x_fits : FitsSigned w32 c.at-2.result = search rules in
    let both = sum_fits _ _ l_fits x_fits (near_start _ _ _ _ _ c.at.ensures c.at-2.ensures c.requires.low c.requires.high c.requires.within) in
    let fits : FitsSigned w32 (c.at.result +ℤ c.at-2.result) = both.0 in
    simp to_z-of_z at c.after.ensures
    ∙ moved_first _ _ _ _ _ _ _ _ (first_and_later _ _ _ c.at.ensures c.rest.ensures) (first_and_later _ _ _ c.at-2.ensures c.rest-3.ensures) refl c.beginning.ensures.sum

pub returns-clause-dims : goal.returns-clause-dims
returns-clause-dims t c =
    omega (arith, ap length c.after.ensures, c.beginning.ensures.dims, ap length (first_and_later _ _ _ c.at.ensures c.rest.ensures))
