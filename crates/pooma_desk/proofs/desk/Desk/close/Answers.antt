use Rattle.std.proofs.Common.{◌≡◌, Some, None, sym, ap, ◌∙◌}
use mathlib.Core.Option.{some-injective}
use Rattle.pooma_machine.specs.Values.{Account}
use Rattle.pooma_desk.specs.Tokens.{Started, Token, plan_of, history_of}
use Rattle.pooma_desk.proofs.Moves.{closes}
use Rattle.pooma_desk.proofs.Turning.{resting_outside}
use Rattle.pooma_desk.proofs.desk.Desk.close.Goals as goal

pub unreachable-requires : goal.unreachable-requires
unreachable-requires g c =
    let all = ap (λ (t : Token _ _). t.shares) c.pass.view_is ∙ (c.requires.all ∙ (sym (ap (λ (s : Started _ _). s.seats) c.requires.desk) ∙ sym (ap (λ (t : Token _ _). t.from.seats) c.pass.view_is))) in
    let r = closes _ _ c.pass.inside.place.me.0 _ _ (resting_outside _ _ _ _ c.pass.invariant) all c.close_with-closed.ensures.values.2 in
    let is : c.take-slot.result ≡ Some r.0 = some-injective _ _ (sym c.take-slot.ensures.value ∙ r.1) in
    let clash : Some r.0 ≡ None = sym is ∙ c.in-None.is in
    absurd (cc)

pub returns-clause-plan : goal.returns-clause-plan
returns-clause-plan g c =
    let all = ap (λ (t : Token _ _). t.shares) c.pass.view_is ∙ (c.requires.all ∙ (sym (ap (λ (s : Started _ _). s.seats) c.requires.desk) ∙ sym (ap (λ (t : Token _ _). t.from.seats) c.pass.view_is))) in
    let r = closes _ _ c.pass.inside.place.me.0 _ _ (resting_outside _ _ _ _ c.pass.invariant) all c.close_with-closed.ensures.values.2 in
    let both : Some c.in-Some.machine ≡ Some r.0 = sym c.in-Some.is ∙ some-injective _ _ (sym c.take-slot.ensures.value ∙ r.1) in
    let is : c.in-Some.machine ≡ r.0 = cc in
    ap (λ (m : Account _ _). m.plan) is ∙ (r.2.plan ∙ ap plan_of c.pass.view_is)

pub returns-clause-opening : goal.returns-clause-opening
returns-clause-opening g c =
    let all = ap (λ (t : Token _ _). t.shares) c.pass.view_is ∙ (c.requires.all ∙ (sym (ap (λ (s : Started _ _). s.seats) c.requires.desk) ∙ sym (ap (λ (t : Token _ _). t.from.seats) c.pass.view_is))) in
    let r = closes _ _ c.pass.inside.place.me.0 _ _ (resting_outside _ _ _ _ c.pass.invariant) all c.close_with-closed.ensures.values.2 in
    let both : Some c.in-Some.machine ≡ Some r.0 = sym c.in-Some.is ∙ some-injective _ _ (sym c.take-slot.ensures.value ∙ r.1) in
    let is : c.in-Some.machine ≡ r.0 = cc in
    ap (λ (m : Account _ _). m.opening) is ∙ (r.2.opening ∙ (ap (λ (t : Token _ _). t.from.machine.opening) c.pass.view_is ∙ ap (λ (s : Started _ _). s.machine.opening) c.requires.desk))

pub returns-clause-history : goal.returns-clause-history
returns-clause-history g c =
    let all = ap (λ (t : Token _ _). t.shares) c.pass.view_is ∙ (c.requires.all ∙ (sym (ap (λ (s : Started _ _). s.seats) c.requires.desk) ∙ sym (ap (λ (t : Token _ _). t.from.seats) c.pass.view_is))) in
    let r = closes _ _ c.pass.inside.place.me.0 _ _ (resting_outside _ _ _ _ c.pass.invariant) all c.close_with-closed.ensures.values.2 in
    let both : Some c.in-Some.machine ≡ Some r.0 = sym c.in-Some.is ∙ some-injective _ _ (sym c.take-slot.ensures.value ∙ r.1) in
    let is : c.in-Some.machine ≡ r.0 = cc in
    ap (λ (m : Account _ _). m.history) is ∙ (r.2.history ∙ ap history_of c.pass.view_is)
