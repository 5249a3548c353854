use Rattle.std.proofs.Common.{arith, ap, sym, ◌∙◌, subst, ◌≡◌, ◌+◌, ◌-◌, length, drop}
use Rattle.std.proofs.lemmas.List.{length-map}
use Rattle.std.specs.Prelude.{Some, slice_get, IfSome}
use Rattle.pooma_model.specs.Parts.{parts_along}
use Rattle.pooma_part.specs.Crossing.{borders_at, part_at}
use Rattle.pooma_part.specs.Cuts.{LaidView}
use Rattle.pooma_part.proofs.Along.{past_slots, over_fixed, first_along, later_along}
use Rattle.pooma_part.proofs.views.+along_from.Goals as goal

pub returns-then-from-dims-clause-none : goal.returns-then-from-dims-clause-none
returns-then-from-dims-clause-none t c =
    λ _. past_slots c.args.seen.now.layout c.args.seen.now.view.slots c.args.from c.args.n
    (omega (arith, c.dims.ensures.value, c.if-from-dims.true, ap (λ (v : LaidView). length v.view.slots) c.seen.view_is))

fixed : (t : _) (c : goal.After-along_from t) → parts_along (drop c.args.from c.args.seen.now.layout) (drop c.args.from c.args.seen.now.view.slots) ≡ parts_along (drop (c.args.from + 1) c.args.seen.now.layout) (drop (c.args.from + 1) c.args.seen.now.view.slots)
fixed t c =
    over_fixed c.args.seen.now.layout c.args.seen.now.view.slots c.args.from c.in-Fixed.field-0
    (omega (arith, c.if-from-dims-2.false, c.dims-2.ensures.value, ap length c.physical.ensures, length-map c.seen.inside.layout.now (λ a. a.physical), ap (λ (v : LaidView). length v.layout) c.seen.view_is))
    (ap (λ (v : LaidView). slice_get v.view.slots c.args.from) (sym c.seen.view_is) ∙ c.in-Fixed.ensures)

pub returns-in-Fixed-clause-found : goal.returns-in-Fixed-clause-found
returns-in-Fixed-clause-found t c =
    subst (λ fs. IfSome c.along_from.result (λ at. slice_get fs c.args.n ≡ Some (part_at (borders_at c.args.seen.now.layout at.0) at.1)))
    (sym (fixed t c)) c.along_from.ensures.found

pub returns-in-Fixed-clause-none : goal.returns-in-Fixed-clause-none
returns-in-Fixed-clause-none t c = λ none. ap (λ fs. slice_get fs c.args.n) (fixed t c) ∙ c.along_from.ensures.none none

pub returns-then-n-eq0-clause-found : goal.returns-then-n-eq0-clause-found
returns-then-n-eq0-clause-found t c =
    ap (slice_get (parts_along (drop c.args.from c.args.seen.now.layout) (drop c.args.from c.args.seen.now.view.slots))) c.if-n-eq0.true
    ∙ first_along c.args.seen.now.layout c.args.seen.now.view.slots c.args.from c.in-Along.numbers
    (omega (arith, c.if-from-dims-2.false, c.dims-2.ensures.value, ap length c.physical.ensures, length-map c.seen.inside.layout.now (λ a. a.physical), ap (λ (v : LaidView). length v.layout) c.seen.view_is))
    (ap (λ (v : LaidView). slice_get v.view.slots c.args.from) (sym c.seen.view_is) ∙ c.in-Along.ensures)

later : (t : _) (c : goal.After-along_from-else-n-eq0 t) → slice_get (parts_along (drop c.args.from c.args.seen.now.layout) (drop c.args.from c.args.seen.now.view.slots)) c.args.n ≡ slice_get (parts_along (drop (c.args.from + 1) c.args.seen.now.layout) (drop (c.args.from + 1) c.args.seen.now.view.slots)) (c.args.n - 1)
later t c =
    later_along c.args.seen.now.layout c.args.seen.now.view.slots c.args.from c.args.n c.in-Along.numbers
    (omega (arith, c.if-from-dims-2.false, c.dims-2.ensures.value, ap length c.physical.ensures, length-map c.seen.inside.layout.now (λ a. a.physical), ap (λ (v : LaidView). length v.layout) c.seen.view_is))
    (ap (λ (v : LaidView). slice_get v.view.slots c.args.from) (sym c.seen.view_is) ∙ c.in-Along.ensures)
    (omega (arith, c.if-n-eq0.false))

pub returns-else-n-eq0-clause-found : goal.returns-else-n-eq0-clause-found
returns-else-n-eq0-clause-found t c =
    subst (λ o. IfSome c.along_from-else-n-eq0.result (λ at. o ≡ Some (part_at (borders_at c.args.seen.now.layout at.0) at.1)))
    (sym (later t c)) c.along_from-else-n-eq0.ensures.found

pub returns-else-n-eq0-clause-none : goal.returns-else-n-eq0-clause-none
returns-else-n-eq0-clause-none t c = λ none. later t c ∙ c.along_from-else-n-eq0.ensures.none none
