use Rattle.std.proofs.Common.{◌≡◌, ◌∙◌, ap, sym, subst, ℕ, ◌++◌, ◌∷◌, ℤ, List, map, flat_map, arith}
use Rattle.std.proofs.lemmas.List.{take_all}
use Rattle.pooma_domain.specs.Axes.{interval_of}
use Rattle.pooma_domain.specs.Cells.{Interval, cells_of, coordinates, IsIn}
use Rattle.pooma_model.specs.Texts.{row_text, view_text}
use Rattle.pooma_print.proofs.Rows.{first_and_rest, front_of_texts, on_any_error, texts_more}
use Rattle.pooma_print.proofs.view.view_text.Goals as goal

-- the text over a box that is taken apart
text_of_rows : (number : List ℤ → ℤ) (positions rows : List Interval) (axis : Interval) → positions ≡ axis ∷ rows
    → view_text number positions ≡ flat_map (λ (rest : List ℤ). row_text (map (λ (x : ℤ). number (x ∷ rest)) (coordinates axis))) (cells_of rows)
text_of_rows number positions rows axis is = ap (view_text number) is

pub row-requires-clause-asked : goal.row-requires-clause-asked
row-requires-clause-asked g c x low high =
    let box = first_and_rest c.args.positions.now c.rest-rows.result (interval_of c.axis-axis.result) c.axis-axis.ensures c.rest-rows.ensures in
    let inside : IsIn c.args.positions.now (x ∷ c.cell_at.result) =
    subst (λ (axes : List Interval). IsIn axes (x ∷ c.cell_at.result)) (sym box) (low, high, c.cell_at.ensures.inside) in
    c.requires (x ∷ c.cell_at.result) inside

pub returns-in_err-row-clause-err : goal.returns-in_err-row-clause-err
returns-in_err-row-clause-err g c =
    let box = first_and_rest c.args.positions.now c.rest-rows.result (interval_of c.axis-axis.result) c.axis-axis.ensures c.rest-rows.ensures in
    on_any_error c.from_residual.result
    (front_of_texts _ c.args.out.now.items c.loop-k.out.items _ (cells_of c.rest-rows.result) c.loop-k.k
    (text_of_rows (g.R.Reads.number c.args.reads.now 0) c.args.positions.now c.rest-rows.result (interval_of c.axis-axis.result) box) c.loop-k.invariant)

pub returns-in_err-extend_from_slice-clause-err : goal.returns-in_err-extend_from_slice-clause-err
returns-in_err-extend_from_slice-clause-err g c =
    let box = first_and_rest c.args.positions.now c.rest-rows.result (interval_of c.axis-axis.result) c.axis-axis.ensures c.rest-rows.ensures in
    on_any_error c.from_residual-in_err-extend_from_slice.result
    (front_of_texts _ c.args.out.now.items c.extend_from_slice.new.self.items _ (cells_of c.rest-rows.result) c.loop-k.k
    (text_of_rows (g.R.Reads.number c.args.reads.now 0) c.args.positions.now c.rest-rows.result (interval_of c.axis-axis.result) box)
    (c.in_err-extend_from_slice.ensures.items ∙ c.loop-k.invariant))

pub loop-k-preserved : goal.loop-k-preserved
loop-k-preserved g c =
    let f = λ (rest : List ℤ). row_text (map (λ (x : ℤ). g.R.Reads.number c.args.reads.now 0 (x ∷ rest)) (coordinates (interval_of c.axis-axis.result))) in
    c.in_ok-extend_from_slice.ensures.items
    ∙ ap (λ (text : List ℕ). c.loop-k.out.items ++ text) (c.deref.ensures.value ∙ c.in_ok-row.ensures)
    ∙ ap (λ (out : List ℕ). out ++ f c.cell_at.result) c.loop-k.invariant
    ∙ texts_more f c.args.out.now.items (cells_of c.rest-rows.result) c.loop-k.k c.cell_at.result c.cell_at.ensures.stands

pub returns-clause-ok : goal.returns-clause-ok
returns-clause-ok g c =
    let box = first_and_rest c.args.positions.now c.rest-rows.result (interval_of c.axis-axis.result) c.axis-axis.ensures c.rest-rows.ensures in
    let f = λ (rest : List ℤ). row_text (map (λ (x : ℤ). g.R.Reads.number c.args.reads.now 0 (x ∷ rest)) (coordinates (interval_of c.axis-axis.result))) in
    c.loop-k.invariant
    ∙ ap (λ (rests : List (List ℤ)). c.args.out.now.items ++ flat_map f rests)
    (take_all c.loop-k.k (cells_of c.rest-rows.result) (omega (arith, c.loop-k-test.false, c.count-k-end.ensures.value)))
    ∙ ap (λ (text : List ℕ). c.args.out.now.items ++ text)
    (sym (text_of_rows (g.R.Reads.number c.args.reads.now 0) c.args.positions.now c.rest-rows.result (interval_of c.axis-axis.result) box))
