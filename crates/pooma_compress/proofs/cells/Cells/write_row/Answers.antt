use Rattle.std.proofs.Common.{rules, arith, ap, ◌∙◌, ◌≡◌, ◌++◌, pos, ℕ, ℤ, List, length, take, drop, to_z, of_z, w64, slice_index_or}
use Rattle.pooma_compress.proofs.RowNumbers.{front_kept}
use Rattle.pooma_compress.proofs.cells.Cells.write_row.Goals as goal

pub returns-clause-beside : goal.returns-clause-beside
returns-clause-beside c j none =
    let stride_is : to_z w64 (of_z w64 c.args.stride) ≡ c.args.stride = search rules in
    let items : c.args.self.now.numbers ≡ c.in-Whole.values.items = search rules in
    let len : c.in-Whole.values.len ≡ length c.write_row.new.numbers = omega (arith, c.write_row.auto.numbers, c.deref_mut.ensures.len) in
    let kept : take c.in-Whole.values.len (c.write_row.new.numbers ++ drop (length c.write_row.new.numbers) c.in-Whole.values.items) ≡ c.write_row.new.numbers =
    ap (λ (n : ℕ). take n (c.write_row.new.numbers ++ drop (length c.write_row.new.numbers) c.in-Whole.values.items)) len ∙ front_kept c.write_row.new.numbers _ in
    rw (kept, items) (c.write_row.ensures.beside j (λ k below there. none k below (rw stride_is at there)) ∙ ap (λ (xs : List ℤ). slice_index_or xs j (pos 0)) c.deref_mut.ensures.value)
