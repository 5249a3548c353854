use Rattle.std.proofs.Common.{◌≡◌, ◌∙◌, rules, sym, to_z, of_z, w32}
use Rattle.pooma_script.proofs.Taken.{along_same}
use Rattle.pooma_script.proofs.slot.along.Goals as goal

pub invariant_of-result : goal.invariant_of-result
invariant_of-result c =
    let first_is : to_z w32 (of_z w32 c.args.first) ≡ c.args.first = search rules in
    let stride_is : to_z w32 (of_z w32 c.args.stride) ≡ c.args.stride = search rules in
    record {
      moves = λ e. c.requires.0 (sym stride_is ∙ e);
      some = c.requires.1;
      fits = rw (first_is, stride_is) c.requires.2;
    }

pub returns : goal.returns
returns c =
    let first_is : to_z w32 (of_z w32 c.args.first) ≡ c.args.first = search rules in
    let stride_is : to_z w32 (of_z w32 c.args.stride) ≡ c.args.stride = search rules in
    along_same _ c.args.first c.args.stride first_is stride_is
