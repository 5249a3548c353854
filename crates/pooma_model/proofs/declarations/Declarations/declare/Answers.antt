use Rattle.std.proofs.Common.{length, ap, arith}
use Rattle.std.proofs.lemmas.List.{map-append}
use Rattle.pooma_field.specs.ShapeOf.{shape_of}
use Rattle.pooma_model.specs.Declarations.{IsArray}
use Rattle.pooma_model.proofs.Growing.{declaring-array}
use Rattle.pooma_model.proofs.declarations.Declarations.declare.Goals as goal

pub invariant_of-self-2 : goal.invariant_of-self-2
invariant_of-self-2 c =
    let same = ap (λ declared. length declared.shapes) c.self.view_is in
    let valid : IsArray (shape_of c.args.shape) c.args.layout =
    record { physical = c.requires.physical; total = c.requires.total; few_cells = c.requires.few_cells } in
    rw (c.in_ok-push.ensures.items, map-append, map-append)
    (declaring-array (shape_of c.args.shape) c.args.layout _ (omega (arith, same, c.requires.few_arrays)) valid c.self.invariant)
