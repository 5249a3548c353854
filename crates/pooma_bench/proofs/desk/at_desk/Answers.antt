use Rattle.std.proofs.Common.{◌≡◌, ◌∙◌, ◌-◌, ℕ, List, arith, ap, length}
use Rattle.std.proofs.lemmas.List.FromFn.{length-range_with_len}
use Rattle.pooma_bench.proofs.desk.at_desk.Goals as goal

pub together-pass-requires-clause-left : goal.together-pass-requires-clause-left
together-pass-requires-clause-left g c κs within =
    let long : length c.in-Ok.pass.left ≡ c.args.threads - 1 =
    ap (λ (xs : List ℕ). length xs) c.in-Ok.ensures.left ∙ length-range_with_len 1 (c.args.threads - 1) in
    omega (arith, long)
