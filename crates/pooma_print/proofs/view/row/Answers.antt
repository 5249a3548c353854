use Rattle.std.proofs.Common.{◌≡◌, ◌∙◌, ap, sym, ◌++◌, ◌∷◌, [], ℕ, Some, ℤ, List, map, option_map, arith, rules, to_z, of_z, w32, w64}
use Rattle.std.specs.Fmt.{signed_decimal}
use Rattle.std.specs.List.{join_with_byte, slice_get}
use Rattle.std.proofs.lemmas.List.{length-map, take_all}
use Rattle.std.proofs.lemmas.Option.{slice_get-map}
use Rattle.pooma_domain.specs.Axes.{interval_of}
use Rattle.pooma_domain.specs.Cells.{axis_length, coordinates}
use Rattle.pooma_print.specs.Texts.{joined_number}
use Rattle.pooma_print.proofs.Joined.{next_appended}
use Rattle.pooma_print.proofs.Rows.{counted_at, length-counting}
use Rattle.pooma_print.proofs.view.row.Goals as goal

pub loop-k-preserved : goal.loop-k-preserved
loop-k-preserved g c =
    let number = λ (x : ℤ). g.R.Reads.number c.args.reads.now 0 (x ∷ c.args.rest.now) in
    let bare : to_z w64 (of_z w64 c.value-number.result) ≡ c.value-number.result = search rules in
    let bare_x : to_z w32 (of_z w32 c.number_at.result) ≡ c.number_at.result = search rules in
    let counted : slice_get (coordinates (interval_of c.args.axis)) c.loop-k.k ≡ Some c.number_at.result =
    counted_at c.args.axis.first (axis_length (interval_of c.args.axis)) c.loop-k.k (omega (arith, c.loop-k-test.true, c.length_of-k-end.ensures)) ∙ ap Some (sym c.number_at.ensures.number) in
    let at : slice_get (map number (coordinates (interval_of c.args.axis))) c.loop-k.k ≡ Some (number c.number_at.result) =
    slice_get-map number (coordinates (interval_of c.args.axis)) c.loop-k.k ∙ ap (option_map number) counted in
    let value : to_z w64 (of_z w64 c.value-number.result) ≡ number c.number_at.result =
    bare ∙ c.value-number.ensures ∙ ap (λ (p : List ℤ). g.R.Reads.number c.args.reads.now 0 p) (c.after.ensures ∙ ap (λ (x : ℤ). x ∷ c.args.rest.now) bare_x) in
    next_appended 32 [] c.loop-k.text.items c.push_number.new.out.items (map number (coordinates (interval_of c.args.axis))) c.loop-k.k (number c.number_at.result) at c.loop-k.invariant
    (c.in_ok-push_number.ensures ∙ ap (λ (n : ℤ). c.loop-k.text.items ++ joined_number 32 c.loop-k.k n) value)

pub returns : goal.returns
returns g c =
    let number = λ (x : ℤ). g.R.Reads.number c.args.reads.now 0 (x ∷ c.args.rest.now) in
    c.in_ok-push.ensures.items
    ∙ ap (λ (text : List ℕ). text ++ 10 ∷ [])
    (c.loop-k.invariant
    ∙ ap (λ (numbers : List ℤ). join_with_byte 32 (map signed_decimal numbers))
    (take_all c.loop-k.k (map number (coordinates (interval_of c.args.axis)))
    (omega (
      arith,
      c.loop-k-test.false,
      c.length_of-k-end.ensures,
      length-map (coordinates (interval_of c.args.axis)) number,
      length-counting c.args.axis.first (axis_length (interval_of c.args.axis)),
    ))))
