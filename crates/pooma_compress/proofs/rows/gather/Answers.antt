use Rattle.std.proofs.Common.{sym, ap, ◌∙◌, rules, arith, ◌≡◌, pos, ℤ, ◌+ℤ◌, to_z, of_z, w64, slice_index_or}
use Rattle.pooma_compress.specs.Rows.{row_place}
use Rattle.pooma_compress.proofs.RowNumbers.{one_more_read}
use Rattle.pooma_compress.proofs.RowPlaces.{place_after}
use Rattle.pooma_compress.proofs.rows.gather.Goals as goal

pub loop-k-preserved : goal.loop-k-preserved
loop-k-preserved c =
    let stride_is : to_z w64 (of_z w64 c.args.stride) ≡ c.args.stride = search rules in
    let number_is : to_z w64 (of_z w64 (slice_index_or c.args.numbers.now c.next-place.result (pos 0))) ≡ slice_index_or c.args.numbers.now c.next-place.result (pos 0) = search rules in
    let at : pos c.next-place.result ≡ row_place c.args.first c.args.stride c.loop-k.k = rw stride_is at (c.next-place.ensures ∙ c.loop-k.invariant.next) in
    record {
      next = rw stride_is (ap (λ (z : ℤ). z +ℤ c.args.stride) at ∙ sym (place_after c.args.first c.args.stride c.loop-k.k));
      read = rw stride_is (one_more_read c.args.numbers.now c.loop-k.out c.args.first c.loop-k.k c.next-place.result c.args.stride _ (omega arith) at number_is (rw stride_is at c.loop-k.invariant.read));
    }
