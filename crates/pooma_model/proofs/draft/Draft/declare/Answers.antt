use Rattle.std.proofs.Common.{ap, arith, length}
use Rattle.pooma_field.specs.ShapeOf.{shape_of}
use Rattle.pooma_model.specs.Declarations.{IsArray}
use Rattle.pooma_model.proofs.DraftLines.{draft_declares}
use Rattle.pooma_model.proofs.Growing.{declaring-array, grows-array}
use Rattle.pooma_model.proofs.draft.Draft.declare.Goals as goal

pub invariant_of-self-2 : goal.invariant_of-self-2
invariant_of-self-2 c =
    let count = ap (λ draft. length draft.declared.shapes) c.self.view_is in
    let valid : IsArray (shape_of c.args.shape) c.args.layout =
    record { physical = c.requires.physical; total = c.requires.total; few_cells = c.requires.few_cells } in
    let old = c.self.invariant.declaring in
    rw c.in_ok-array.ensures.declared
    (draft_declares _ _ _ _ _
    (declaring-array (shape_of c.args.shape) c.args.layout _ (omega (arith, count, c.requires.few_arrays)) valid old)
    (grows-array (shape_of c.args.shape) c.args.layout _ old) c.self.invariant)
