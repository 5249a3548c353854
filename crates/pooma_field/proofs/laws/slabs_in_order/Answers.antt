use Rattle.pooma_field.proofs.SlabList.{slabs_ascend}
use Rattle.pooma_field.proofs.SlabValues.{LiesIn, cell_of, earlier_axis, external_cell, setting_is_looking_up, some_slab_of, source_is_first, sources_inside, sources_total, value_is}
use Rattle.pooma_field.proofs.laws.slabs_in_order.Goals as goal

pub returns-clause-set : goal.returns-clause-set
returns-clause-set c =
    setting_is_looking_up (record { members = c.order_of_cells.ensures.members; once = c.order_of_cells.ensures.once })

pub returns-clause-value : goal.returns-clause-value
returns-clause-value c shape numbers slab cell valid there inside = value_is shape numbers slab cell valid (cell_of shape slab cell valid there inside)

pub returns-clause-sources : goal.returns-clause-sources
returns-clause-sources c shape slab cell valid there inside = sources_inside shape slab cell valid (cell_of shape slab cell valid there inside)

pub returns-clause-total_sources : goal.returns-clause-total_sources
returns-clause-total_sources c shape slab cell valid there inside = sources_total shape slab cell valid (cell_of shape slab cell valid there inside)

pub returns-clause-first_source : goal.returns-clause-first_source
returns-clause-first_source c shape slab cell valid there inside = source_is_first shape slab cell (cell_of shape slab cell valid there inside)

pub returns-clause-goes_by : goal.returns-clause-goes_by
returns-clause-goes_by c shape slab cell valid there inside = (cell_of shape slab cell valid there inside).by

pub returns-clause-external : goal.returns-clause-external
returns-clause-external c shape slab cell valid there inside = external_cell shape slab cell valid (cell_of shape slab cell valid there inside)

pub returns-clause-some : goal.returns-clause-some
returns-clause-some c shape cell valid faced total outside =
    let lies : LiesIn shape cell = some_slab_of shape cell valid faced total outside in (lies.slab, lies.there, lies.inside)

pub returns-clause-earlier : goal.returns-clause-earlier
returns-clause-earlier c shape n slab cell valid there inside from = earlier_axis shape n slab cell valid (cell_of shape slab cell valid there inside) from

pub returns-clause-order : goal.returns-clause-order
returns-clause-order c shape = slabs_ascend shape
