use Rattle.std.proofs.Common.{arith, rules, ap, sym, ◌∙◌, length, ◌*◌, map}
use Rattle.pooma_domain.specs.Cells.{axis_length}
use Rattle.std.specs.Prelude.{sum_by}
use Rattle.pooma_layout.specs.Axes.{parts, allocated_part}
use Rattle.pooma_layout.proofs.Counting.{power_step, power_fits}
use Rattle.pooma_layout.proofs.Stepping.{first_and_later, fewer, allocated_product}
use Rattle.pooma_layout.proofs.patches.+allocated_cells.Goals as goal

pub allocated_len-requires : goal.allocated_len-requires
allocated_len-requires t c =
    let split = first_and_later c.args.axes.now c.first-item.result c.in-len1-up.len_at_least c.first-item.is in
    (fewer c.args.axes.now c.first-item.result _ split c.requires.few_patches).0

pub allocated_cells-requires : goal.allocated_cells-requires
allocated_cells-requires t c =
    let split = first_and_later c.args.axes.now c.first-item.result c.in-len1-up.len_at_least c.first-item.is in
    (search rules, (omega (arith, ap length split, c.requires.few_axes), (fewer c.args.axes.now c.first-item.result _ split c.requires.few_patches).1))

pub overflow_mul-result : goal.overflow_mul-result
overflow_mul-result t c =
    let split = first_and_later c.args.axes.now c.first-item.result c.in-len1-up.len_at_least c.first-item.is in
    let few = power_step c.allocated_len.result c.allocated_cells.result _ c.allocated_len.ensures.few c.allocated_cells.ensures.few in
    let fits = power_fits (c.allocated_len.result * c.allocated_cells.result) _ (omega (arith, ap length split, c.requires.few_axes)) few in
    omega (arith, fits)

pub returns-in-len1-up-clause-value : goal.returns-in-len1-up-clause-value
returns-in-len1-up-clause-value t c =
    let split = first_and_later c.args.axes.now c.first-item.result c.in-len1-up.len_at_least c.first-item.is in
    ap (λ n. n * c.allocated_cells.result) c.allocated_len.ensures.value
    ∙ ap (λ n. sum_by axis_length (map (allocated_part c.first-item.result) (parts c.first-item.result)) * n) c.allocated_cells.ensures.value
    ∙ sym (allocated_product c.args.axes.now c.first-item.result _ split)

pub returns-in-len1-up-clause-few : goal.returns-in-len1-up-clause-few
returns-in-len1-up-clause-few t c =
    let split = first_and_later c.args.axes.now c.first-item.result c.in-len1-up.len_at_least c.first-item.is in
    let few = power_step c.allocated_len.result c.allocated_cells.result _ c.allocated_len.ensures.few c.allocated_cells.ensures.few in
    rw (ap length split) few
