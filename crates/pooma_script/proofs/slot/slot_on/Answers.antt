use Rattle.std.proofs.Common.{◌<◌, FitsSigned, refl, rules, w32, arith}
use Rattle.std.proofs.lemmas.Int.{ints, to_z-of_z}
use Rattle.pooma_script.specs.Views.{count_to, places_to}
use Rattle.pooma_script.proofs.slot.slot_on.Goals as goal

pub along_on-requires : goal.along_on-requires
along_on-requires c =
    let f : FitsSigned w32 c.in-Range.first = search rules in
    let g : FitsSigned w32 c.in-Range.last = search rules in
    let h : FitsSigned w32 c.in-Range.stride = search rules in
    let takes = rw c.in-Range.is at c.requires in
    let ordered = takes (places_to (count_to c.in-Range.first c.in-Range.last c.in-Range.stride)) refl in
    let some : 0 < count_to c.in-Range.first c.in-Range.last c.in-Range.stride = omega (arith, ints, ordered) in
    simp to_z-of_z some

pub returns-in-Range-clause-found : goal.returns-in-Range-clause-found
returns-in-Range-clause-found c =
    let f : FitsSigned w32 c.in-Range.first = search rules in
    let g : FitsSigned w32 c.in-Range.last = search rules in
    let h : FitsSigned w32 c.in-Range.stride = search rules in
    rw c.in-Range.is (simp to_z-of_z at c.along_on.ensures.found)

pub returns-in-Range-clause-value : goal.returns-in-Range-clause-value
returns-in-Range-clause-value c =
    let f : FitsSigned w32 c.in-Range.first = search rules in
    let g : FitsSigned w32 c.in-Range.last = search rules in
    let h : FitsSigned w32 c.in-Range.stride = search rules in
    rw c.in-Range.is (simp to_z-of_z at c.along_on.ensures.value)
