use Rattle.std.proofs.Common.{refl, sym, ap, ◌∙◌, ◌≡◌, arith, rules, pos, ◌≤ℤ◌, ◌/◌, to_z, of_z, w32, w64, FitsSigned}
use Rattle.std.proofs.lemmas.Bool.{false≢true}
use Rattle.std.proofs.lemmas.Int.{ints, to_z-of_z}
use Rattle.std.proofs.Math.IntN.{nat_abs}
use Rattle.pooma_domain.proofs.Striding.{IsAhead, ahead_of, behind, not_behind, unsigned_way, unsigned_step, first_not_past, way_from_first, add_sub, counted_not_past, last_fits}
use Rattle.pooma_domain.proofs.strides.Strided.of.Goals as goal
use Rattle.pooma_domain.proofs.strides.Strided.of.Goals.{then-stride-eq0-via-then-stride-eq0, then-stride-eq0-via-else-stride-eq0+then-way-lt0}

pub returns-then-stride-eq0-clause-found : goal.returns-then-stride-eq0-clause-found
returns-then-stride-eq0-clause-found c = (
  λ t. absurd (false≢true t),
  λ h. absurd (elim c.then-stride-eq0.branch [
    | then-stride-eq0-via-then-stride-eq0 w ↦ h.0 (sym (to_z-of_z w32 c.args.stride (search rules)) ∙ ap (to_z w32) w.if-stride-eq0.true)
    | then-stride-eq0-via-else-stride-eq0+then-way-lt0 w ↦
        let ahead : IsAhead c.args.first c.args.last c.args.stride c.ahead-way.result =
        ahead_of _ _ _ _ (search rules) (search rules) (search rules) c.ahead-way.ensures.up c.ahead-way.ensures.down h.0 in
        let some : pos 0 ≤ℤ c.ahead-way.result = way_from_first _ _ _ _ ahead h.1 in
        let below = behind c.ahead-way.result (search rules) w.if-way-lt0.true in
        omega (arith, ints, some, below)
  ]),
)

pub invariant_of-result : goal.invariant_of-result
invariant_of-result c =
    let way_fits : FitsSigned w64 c.ahead-way.result = search rules in
    let first_is : to_z w32 (of_z w32 c.args.first) ≡ c.args.first = search rules in
    let stride_is : to_z w32 (of_z w32 c.args.stride) ≡ c.args.stride = search rules in
    let step : c.unsigned_abs.result ≡ nat_abs c.args.stride = unsigned_step c.args.stride _ (search rules) c.unsigned_abs.ensures.value in
    let ahead : IsAhead c.args.first c.args.last c.args.stride c.ahead-way.result =
    ahead_of _ _ _ _ (search rules) (search rules) (search rules) c.ahead-way.ensures.up c.ahead-way.ensures.down (λ e. c.if-stride-eq0.false (ap (of_z w32) e)) in
    record {
      moves = λ e. c.if-stride-eq0.false (ap (of_z w32) (sym stride_is ∙ e));
      some = omega arith;
      fits = rw (first_is, stride_is)
          (last_fits c.args.first c.args.last c.args.stride c.ahead-way.result _ _ ahead (unsigned_way _ way_fits (not_behind _ way_fits c.if-way-lt0.false)) (add_sub _ ∙ ap (λ n. nat_abs (to_z w64 (of_z w64 c.ahead-way.result)) / n) step) c.requires.bounded.0 c.requires.bounded.1);
    }

pub returns-clause-found : goal.returns-clause-found
returns-clause-found c =
    let way_fits : FitsSigned w64 c.ahead-way.result = search rules in
    let ahead : IsAhead c.args.first c.args.last c.args.stride c.ahead-way.result =
    ahead_of _ _ _ _ (search rules) (search rules) (search rules) c.ahead-way.ensures.up c.ahead-way.ensures.down (λ e. c.if-stride-eq0.false (ap (of_z w32) e)) in
    (λ _. (λ e. c.if-stride-eq0.false (ap (of_z w32) e), first_not_past _ _ _ _ ahead (not_behind _ way_fits c.if-way-lt0.false)), λ _. refl)

pub returns-clause-whole : goal.returns-clause-whole
returns-clause-whole c k =
    let way_fits : FitsSigned w64 c.ahead-way.result = search rules in
    let step : c.unsigned_abs.result ≡ nat_abs c.args.stride = unsigned_step c.args.stride _ (search rules) c.unsigned_abs.ensures.value in
    let ahead : IsAhead c.args.first c.args.last c.args.stride c.ahead-way.result =
    ahead_of _ _ _ _ (search rules) (search rules) (search rules) c.ahead-way.ensures.up c.ahead-way.ensures.down (λ e. c.if-stride-eq0.false (ap (of_z w32) e)) in
    rw step (counted_not_past c.args.first c.args.last c.args.stride c.ahead-way.result _ k ahead (unsigned_way _ way_fits (not_behind _ way_fits c.if-way-lt0.false)))
