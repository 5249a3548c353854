use Rattle.std.proofs.Common.{◌≡◌, ◌∙◌, ℕ, List, ap, arith, subst, sym}
use Rattle.std.specs.Prelude.{map}
use Rattle.pooma_view.specs.Views.{Viewed}
use Rattle.pooma_view.specs.declared.slots.Slot.{Slot}
use Rattle.pooma_script.specs.Views.{slot_of}
use Rattle.pooma_field.specs.ShapeOf.{shape_of}
use Rattle.pooma_view.specs.Slots.{positions_of}
use Rattle.pooma_model.specs.Declarations.{shape_at}
use Rattle.pooma_model.specs.Fit.{AreFew}
use Rattle.pooma_script.specs.Ends.{IsWithin}
use Rattle.pooma_script.specs.Known.{declared_in}
use Rattle.pooma_check.specs.Kept.{known_of}
use Rattle.pooma_check.proofs.Declaring.{subs_few}
use Rattle.pooma_check.proofs.FewPlaces.{few_positions}
use Rattle.pooma_check.proofs.cells.view_read.Goals as goal

same_view : (c : goal.In-Some) → c.in-Some.view ≡ c.args.reading.now.view
same_view c =
    let by_array : ℕ → Viewed = λ n. record { array = n; slots = map slot_of c.subs.result.now } in
    let by_slots : List Slot → Viewed = λ slots. record { array = c.args.reading.now.view.array; slots = slots } in
    c.in-Some.ensures.value ∙ ap by_array c.array-2.ensures ∙ ap by_slots c.subs.ensures.slots

pub view_in-requires-clause-few : goal.view_in-requires-clause-few
view_in-requires-clause-few c =
    subs_few c.subs.result.now c.args.reading.now.view.slots (shape_of c.shape_there-shape.result.now)
    (shape_at (declared_in (known_of c.args.known.now)) c.args.reading.now.view.array).physical
    c.subs.ensures.slots c.requires.slots (ap (λ shape. shape.physical) (c.shape_there-shape.ensures.shape ∙ ap (shape_at (declared_in (known_of c.args.known.now))) c.array.ensures)) c.shape_there-shape.ensures.there

pub returns-clause-places : goal.returns-clause-places
returns-clause-places c =
    ap (λ view. positions_of view.slots) (sym (same_view c)) ∙ c.in-Some.ensures.places ∙ c.subs.ensures.positions

pub returns-clause-few : goal.returns-clause-few
returns-clause-few c =
    let shape = shape_of c.shape_there-shape.result.now in
    let view = c.args.reading.now.view in
    let there = c.shape_there-shape.ensures.there in
    let same : shape ≡ shape_at (declared_in (known_of c.args.known.now)) view.array =
    c.shape_there-shape.ensures.shape ∙ ap (shape_at (declared_in (known_of c.args.known.now))) c.array.ensures in
    let within : IsWithin shape.total view.slots = subst (λ box. IsWithin box view.slots) (sym (ap (λ s. s.total) same)) c.requires.inside.cells in
    subst (λ v. AreFew (positions_of v.slots)) (sym (same_view c))
    (few_positions c.order_of_cells.ensures.counted view.slots shape.total there.near (omega (arith, there.same, there.few_axes)) there.few_cells within)
