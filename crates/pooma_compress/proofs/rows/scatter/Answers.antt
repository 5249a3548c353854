use Rattle.std.proofs.Common.{sym, ap, ◌∙◌, rules, arith, ◌≡◌, pos, ℤ, ◌+ℤ◌, ◌<ℤ◌, length, to_z, of_z, w64, slice_index_or}
use Rattle.std.proofs.lemmas.Int.{ints}
use Rattle.std.proofs.Math.ListN.{length-set}
use Rattle.pooma_compress.specs.Rows.{row_place}
use Rattle.pooma_compress.proofs.RowNumbers.{none_written, one_more_written}
use Rattle.pooma_compress.proofs.RowPlaces.{first_place, place_after}
use Rattle.pooma_compress.proofs.rows.scatter.Goals as goal

pub loop-k-init : goal.loop-k-init
loop-k-init c =
    let stride_is : to_z w64 (of_z w64 c.args.stride) ≡ c.args.stride = search rules in
    let number_is : to_z w64 (of_z w64 (slice_index_or c.args.row.now 0 (pos 0))) ≡ slice_index_or c.args.row.now 0 (pos 0) = search rules in
    let start : row_place c.args.first c.args.stride 0 ≡ pos c.args.first = first_place c.args.first c.args.stride in
    let high : pos c.args.first <ℤ pos (length c.args.numbers.now) = rw start at (c.requires.within 0 c.requires.some).1 in
    record {
      next = rw stride_is (ap (λ (z : ℤ). z +ℤ c.args.stride) (sym start) ∙ sym (place_after c.args.first c.args.stride 0));
      written = rw stride_is (one_more_written c.args.row.now c.args.numbers.now c.args.numbers.now c.args.first 0 c.args.first c.args.stride _ c.requires.apart (omega (arith, ints, high)) (sym start) number_is (none_written c.args.row.now c.args.first c.args.stride c.args.numbers.now));
    }

pub loop-k-preserved : goal.loop-k-preserved
loop-k-preserved c =
    let stride_is : to_z w64 (of_z w64 c.args.stride) ≡ c.args.stride = search rules in
    let number_is : to_z w64 (of_z w64 (slice_index_or c.args.row.now c.loop-k.k (pos 0))) ≡ slice_index_or c.args.row.now c.loop-k.k (pos 0) = search rules in
    let at : pos c.next-place.result ≡ row_place c.args.first c.args.stride c.loop-k.k = rw stride_is at (c.next-place.ensures ∙ c.loop-k.invariant.next) in
    let high : pos c.next-place.result <ℤ pos (length c.args.numbers.now) = rw at (c.requires.within c.loop-k.k c.loop-k-test.true).1 in
    record {
      next = rw stride_is (ap (λ (z : ℤ). z +ℤ c.args.stride) at ∙ sym (place_after c.args.first c.args.stride c.loop-k.k));
      written = rw stride_is (one_more_written c.args.row.now c.args.numbers.now c.loop-k.numbers c.args.first c.loop-k.k c.next-place.result c.args.stride _ c.requires.apart (omega (arith, ints, high, c.loop-k.auto.numbers, length-set {A = ℤ})) at number_is (rw stride_is at c.loop-k.invariant.written));
    }
