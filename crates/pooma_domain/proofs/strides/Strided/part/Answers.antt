use Rattle.std.proofs.Common.{arith, rules, ◌≡◌, to_z, of_z, w32, FitsSigned}
use Rattle.std.proofs.lemmas.Int.{ints}
use Rattle.pooma_domain.proofs.Striding.{part_fits}
use Rattle.pooma_domain.proofs.strides.Strided.part.Goals as goal

pub invariant_of-result : goal.invariant_of-result
invariant_of-result c =
    let first_fits : FitsSigned w32 c.at.result = search rules in
    let stride_fits : FitsSigned w32 c.args.self.now.stride = search rules in
    let first_is : to_z w32 (of_z w32 c.at.result) ≡ c.at.result = omega (arith, ints) in
    let stride_is : to_z w32 (of_z w32 c.args.self.now.stride) ≡ c.args.self.now.stride = omega (arith, ints) in
    record {
      moves = λ e. c.args.self.now.moves (omega (arith, ints, e));
      some = c.requires.some;
      fits = rw (first_is, stride_is) (part_fits _ _ _ c.args.from _ _ c.requires.some c.requires.within first_fits c.args.self.now.fits c.at.ensures.value);
    }
