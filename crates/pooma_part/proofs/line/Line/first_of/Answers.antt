use Rattle.std.proofs.Common.{arith, ap, sym, ◌∙◌, length, get_or, take, ◌≡◌, ◌≤◌, ◌-◌}
use Rattle.std.proofs.lemmas.Int.{ints}
use Rattle.std.proofs.lemmas.List.{length-take-le}
use Rattle.pooma_layout.proofs.Finding.{last_of_front}
use Rattle.pooma_part.specs.CutLines.{CutLine}
use Rattle.pooma_part.proofs.Dividing.{parts_counted, later_begins}
use Rattle.pooma_part.proofs.line.Line.first_of.Goals as goal

few : (c : goal.After-deref) → c.args.k ≤ length c.deref.result.now
few c =
    omega (arith, ap length c.deref.ensures.value, parts_counted c.args.self.now, ap (λ (l : CutLine). length l.borders) c.self.view_is, c.requires)

pub slice_bounds-last-end : goal.slice_bounds-last-end
slice_bounds-last-end c = sym (length-take-le c.args.k c.deref.result.now (few c))

pub returns-in-Some-clause-value : goal.returns-in-Some-clause-value
returns-in-Some-clause-value c =
    let d = c.in-Some.border.now in
    let less : c.args.k ≤ length c.deref.result.now =
    omega (arith, ap length c.deref.ensures.value, parts_counted c.args.self.now, ap (λ (l : CutLine). length l.borders) c.self.view_is, c.requires) in
    let whole : c.args.k ≡ length (take c.args.k c.deref.result.now) = sym (length-take-le c.args.k c.deref.result.now less) in
    let is : get_or c.deref.result.now (c.args.k - 1) d ≡ d = last_of_front c.deref.result.now c.args.k d whole c.in-Some.ensures.item.3.0 c.in-Some.ensures.item.1 in
    let there : get_or c.args.self.now.borders (c.args.k - 1) d ≡ d =
    ap (λ (l : CutLine). get_or l.borders (c.args.k - 1) d) (sym c.self.view_is) ∙ ap (λ xs. get_or xs (c.args.k - 1) d) (sym c.deref.ensures.value) ∙ is in
    later_begins c.args.self.now c.args.k _ d (omega (arith, whole, c.in-Some.ensures.item.3.0)) c.requires (omega (arith, ints, there))
