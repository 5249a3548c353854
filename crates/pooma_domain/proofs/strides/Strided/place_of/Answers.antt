use Rattle.std.proofs.Common.{ap, ◌∙◌, ◌≡◌, arith, rules, pos, ◌*◌, Some, w64, FitsSigned}
use Rattle.std.proofs.lemmas.Int.{ints}
use Rattle.std.proofs.Math.IntN.{nat_abs}
use Rattle.pooma_domain.proofs.Striding.{IsAhead, ahead_of, behind, not_behind, unsigned_way, unsigned_step, place_fits, ahead_from_exact, exact_at_quotient, quotient_of_exact}
use Rattle.pooma_domain.proofs.strides.Strided.place_of.Goals as goal

pub returns-then-way-lt0-clause-only_there : goal.returns-then-way-lt0-clause-only_there
returns-then-way-lt0-clause-only_there c k h e =
    let ahead : IsAhead c.args.self.now.first c.args.x c.args.self.now.stride c.ahead-way.result =
    ahead_of _ _ _ _ (search rules) (search rules) (search rules) c.ahead-way.ensures.up c.ahead-way.ensures.down c.args.self.now.moves in
    let is : c.ahead-way.result ≡ pos (k * nat_abs c.args.self.now.stride) = ahead_from_exact _ _ _ _ k ahead e in
    let below = behind c.ahead-way.result (search rules) c.if-way-lt0.true in
    absurd (omega (arith, ints, is, below))

pub overflow_cast-result : goal.overflow_cast-result
overflow_cast-result c =
    let way_fits : FitsSigned w64 c.ahead-way.result = search rules in
    let ahead : IsAhead c.args.self.now.first c.args.x c.args.self.now.stride c.ahead-way.result =
    ahead_of _ _ _ _ (search rules) (search rules) (search rules) c.ahead-way.ensures.up c.ahead-way.ensures.down c.args.self.now.moves in
    place_fits _ _ _ _ _ _ (search rules) (search rules) ahead (unsigned_way _ way_fits (not_behind _ way_fits c.if-way-lt0.false))

pub returns-then-place-from-clause-found : goal.returns-then-place-from-clause-found
returns-then-place-from-clause-found c =
    let way_fits : FitsSigned w64 c.ahead-way.result = search rules in
    let ahead : IsAhead c.args.self.now.first c.args.x c.args.self.now.stride c.ahead-way.result =
    ahead_of _ _ _ _ (search rules) (search rules) (search rules) c.ahead-way.ensures.up c.ahead-way.ensures.down c.args.self.now.moves in (
      rw (← c.from.ensures) c.if-place-from.true,
      exact_at_quotient _ _ _ _ _ _ ahead (unsigned_way _ way_fits (not_behind _ way_fits c.if-way-lt0.false))
          (c.from-step.ensures ∙ unsigned_step c.args.self.now.stride _ (search rules) c.unsigned_abs.ensures.value) c.if-way-step-ne0.false,
    )

pub returns-then-place-from-clause-only_there : goal.returns-then-place-from-clause-only_there
returns-then-place-from-clause-only_there c k h e =
    let way_fits : FitsSigned w64 c.ahead-way.result = search rules in
    let ahead : IsAhead c.args.self.now.first c.args.x c.args.self.now.stride c.ahead-way.result =
    ahead_of _ _ _ _ (search rules) (search rules) (search rules) c.ahead-way.ensures.up c.ahead-way.ensures.down c.args.self.now.moves in
    ap Some (quotient_of_exact _ _ _ _ _ _ k ahead (unsigned_way _ way_fits (not_behind _ way_fits c.if-way-lt0.false))
    (c.from-step.ensures ∙ unsigned_step c.args.self.now.stride _ (search rules) c.unsigned_abs.ensures.value) e).1

pub returns-then-way-step-ne0-clause-only_there : goal.returns-then-way-step-ne0-clause-only_there
returns-then-way-step-ne0-clause-only_there c k h e =
    let way_fits : FitsSigned w64 c.ahead-way.result = search rules in
    let ahead : IsAhead c.args.self.now.first c.args.x c.args.self.now.stride c.ahead-way.result =
    ahead_of _ _ _ _ (search rules) (search rules) (search rules) c.ahead-way.ensures.up c.ahead-way.ensures.down c.args.self.now.moves in
    absurd (c.if-way-step-ne0.true (quotient_of_exact _ _ _ _ _ _ k ahead (unsigned_way _ way_fits (not_behind _ way_fits c.if-way-lt0.false))
    (c.from-step.ensures ∙ unsigned_step c.args.self.now.stride _ (search rules) c.unsigned_abs.ensures.value) e).0)

pub returns-else-place-from-clause-only_there : goal.returns-else-place-from-clause-only_there
returns-else-place-from-clause-only_there c k h e =
    let way_fits : FitsSigned w64 c.ahead-way.result = search rules in
    let ahead : IsAhead c.args.self.now.first c.args.x c.args.self.now.stride c.ahead-way.result =
    ahead_of _ _ _ _ (search rules) (search rules) (search rules) c.ahead-way.ensures.up c.ahead-way.ensures.down c.args.self.now.moves in
    let is = (quotient_of_exact _ _ _ _ _ _ k ahead (unsigned_way _ way_fits (not_behind _ way_fits c.if-way-lt0.false))
    (c.from-step.ensures ∙ unsigned_step c.args.self.now.stride _ (search rules) c.unsigned_abs.ensures.value) e).1 in
    absurd (omega (arith, is, h, c.if-place-from.false, c.from.ensures))
