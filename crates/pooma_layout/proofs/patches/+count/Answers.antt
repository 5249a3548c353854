use Rattle.std.proofs.Common.{arith, rules}
use Rattle.pooma_layout.proofs.Stepping.{first_and_later, fewer, patches_product}
use Rattle.pooma_layout.proofs.patches.+count.Goals as goal

pub count-requires : goal.count-requires
count-requires t c =
    let split = first_and_later c.args.axes.now c.first-item.result c.in-len1-up.len_at_least c.first-item.is in
    (search rules, (fewer c.args.axes.now c.first-item.result _ split c.requires).1)

pub overflow_mul-result : goal.overflow_mul-result
overflow_mul-result t c =
    let split = first_and_later c.args.axes.now c.first-item.result c.in-len1-up.len_at_least c.first-item.is in
    omega (arith, patches_product c.args.axes.now c.first-item.result _ c.parts.result c.count.result split c.parts.ensures.value c.count.ensures, c.requires)

pub returns-in-len1-up : goal.returns-in-len1-up
returns-in-len1-up t c =
    let split = first_and_later c.args.axes.now c.first-item.result c.in-len1-up.len_at_least c.first-item.is in
    patches_product c.args.axes.now c.first-item.result _ c.parts.result c.count.result split c.parts.ensures.value c.count.ensures
