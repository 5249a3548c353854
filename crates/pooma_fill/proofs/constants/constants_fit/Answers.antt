use Rattle.std.proofs.Common.{◌≡◌, ◌≤◌, ◌∙◌, sym, subst, arith, length}
use Rattle.std.proofs.lemmas.List.{take_all}
use Rattle.std.proofs.lemmas.List.Elements.{All-more}
use Rattle.std.proofs.lemmas.Option.{get_or_from_slice_get, same_Some, slice_get_within}
use Rattle.std.specs.Prelude.{All}
use Rattle.pooma_piece.specs.Words.{GiveWords}
use Rattle.pooma_fill.proofs.constants.constants_fit.Goals as goal

pub axes-preserved : goal.axes-preserved
axes-preserved c =
    let faces = c.in-Some.faces in
    let k = c.axes.axis in
    All-more GiveWords faces k c.ends.result (slice_get_within faces k c.ends.result c.ends.ensures) c.axes.invariant
    (subst GiveWords (sym (get_or_from_slice_get faces k c.ends.result c.ends.result c.ends.ensures)) c.both_fit.ensures)

pub returns-after-axes : goal.returns-after-axes
returns-after-axes c = λ faces is.
    let same : c.in-Some.faces ≡ faces = same_Some c.in-Some.faces faces (sym c.in-Some.is ∙ is) in
    let end : length c.in-Some.faces ≤ c.axes.axis = omega (arith, c.axes-test.false, c.dims-axis-end.ensures) in
    subst (All GiveWords) (take_all c.axes.axis c.in-Some.faces end ∙ same) c.axes.invariant
