use Rattle.std.proofs.Common.{ap, sym, ◌∙◌, rules, ◌≡◌, length, take, [], ◌∷◌}
use Rattle.pooma_view.specs.Views.{Viewed}
use Rattle.pooma_view.proofs.SlotLists.{same_some}
use Rattle.pooma_view.proofs.Overlaps.{passed_on, by_test}
use Rattle.pooma_view.proofs.views.View.agrees_at.Goals as goal

pub position-requires : goal.position-requires
position-requires c = c.requires.valid.0

pub position-requires-2 : goal.position-requires-2
position-requires-2 c = c.requires.valid.1

pub returns-in_default-clause-same : goal.returns-in_default-clause-same
returns-in_default-clause-same c t p q hp hq ep eq =
    let cell : c.front-c.result ≡ take (length c.args.self.now.slots) (c.args.x ∷ c.args.y ∷ c.args.z ∷ []) =
    passed_on _ _ _ _ _ _ c.args.x c.args.y c.args.z (search rules) (search rules) (search rules) c.self.invariant (ap (λ (v : Viewed). v.slots) c.self.view_is) c.front-c.ensures in
    absurd (c.in_default.not-Some p (c.position.ensures.only_one p hp (ep ∙ sym cell)))

pub returns-in_default-position-clause-same : goal.returns-in_default-position-clause-same
returns-in_default-position-clause-same c t p q hp hq ep eq =
    let cell : c.front-c.result ≡ take (length c.args.self.now.slots) (c.args.x ∷ c.args.y ∷ c.args.z ∷ []) =
    passed_on _ _ _ _ _ _ c.args.x c.args.y c.args.z (search rules) (search rules) (search rules) c.self.invariant (ap (λ (v : Viewed). v.slots) c.self.view_is) c.front-c.ensures in
    absurd (c.in_default-position.not-Some q (c.position-2.ensures.only_one q hq (eq ∙ sym cell)))

pub returns-clause-same : goal.returns-clause-same
returns-clause-same c t p q hp hq ep eq =
    let cell : c.front-c.result ≡ take (length c.args.self.now.slots) (c.args.x ∷ c.args.y ∷ c.args.z ∷ []) =
    passed_on _ _ _ _ _ _ c.args.x c.args.y c.args.z (search rules) (search rules) (search rules) c.self.invariant (ap (λ (v : Viewed). v.slots) c.self.view_is) c.front-c.ensures in
    sym (same_some _ _ (c.in-Some.ensures.only_one p hp (ep ∙ sym cell)))
    ∙ c.eq.ensures.same.0 t
    ∙ same_some _ _ (c.in-Some-position.ensures.only_one q hq (eq ∙ sym cell))

pub returns-clause-apart : goal.returns-clause-apart
returns-clause-apart c =
    let on_p = c.in-Some.ensures.found in
    let on_q = c.in-Some-position.ensures.found in
    by_test c.eq.result c.eq.ensures.same (λ ne. (c.in-Some.p, c.in-Some-position.q, on_p.0, on_q.0, ne, on_p.1 ∙ sym on_q.1))
