use Rattle.std.proofs.Common.{ap, ⊎_elim, ◌≡◌, Option, List, ℕ, Bool, true, false}
use Rattle.pooma_domain.specs.Cells.{IsIn}
use Rattle.pooma_field.specs.declared.faces.Ends.{Ends}
use Rattle.pooma_field.specs.Look.{looked_up}
use Rattle.pooma_field.specs.Shapes.{slab_of}
use Rattle.pooma_field.proofs.Lookups.{look_inside, look_outside}
use Rattle.pooma_field.proofs.SlabCells.{GoesBy, one_slab, some_slab}
use Rattle.pooma_field.proofs.SourceCells.{around_of, source_cell_is}
use Rattle.pooma_field.proofs.laws.looking_up.Goals as goal

pub returns-clause-plain : goal.returns-clause-plain
returns-clause-plain c shape numbers cell none = ap (λ (faces : Option (List Ends)). looked_up shape.physical faces numbers cell) none

pub returns-clause-physical : goal.returns-clause-physical
returns-clause-physical c shape numbers cell inside = look_inside shape.faces shape.physical numbers cell inside

pub returns-clause-outside : goal.returns-clause-outside
returns-clause-outside c shape numbers cell n faces axis ends x valid slabs is at_axis at_ends at_x =
    ⊎_elim
    (λ low. look_outside shape.faces faces false n shape.physical shape.total numbers cell axis ends x (around_of shape valid) low is at_axis at_ends at_x)
    (λ high. look_outside shape.faces faces true n shape.physical shape.total numbers cell axis ends x (around_of shape valid) high is at_axis at_ends at_x)
    slabs.1

pub returns-clause-source : goal.returns-clause-source
returns-clause-source c shape cell n faces axis ends x is at_axis at_ends at_x =
    rw is (source_cell_is shape.physical faces n cell axis ends x (record { axis_there = at_axis; ends_there = at_ends; coordinate = at_x }))

pub returns-clause-some_axis : goal.returns-clause-some_axis
returns-clause-some_axis c shape cell valid inside outside =
    let some : (n : ℕ) × GoesBy shape.physical shape.total cell n = some_slab shape.physical shape.total cell valid.same_dims inside outside in
    (some.0, (some.1.there, some.1.by))

pub returns-clause-one_axis : goal.returns-clause-one_axis
returns-clause-one_axis c shape cell n m valid by_n by_m =
    ⊎_elim (λ g. ⊎_elim (λ h. both false false g h) (λ h. both false true g h) by_m.1)
    (λ g. ⊎_elim (λ h. both true false g h) (λ h. both true true g h) by_m.1)
    by_n.1
  where
    both : (g h : Bool) → IsIn (slab_of g n shape) cell → IsIn (slab_of h m shape) cell → n ≡ m
    both g h by_g by_h = one_slab g h n m shape.physical shape.total cell by_n.0 by_m.0 valid.same_dims by_g by_h
