use Rattle.std.proofs.Common.{ap, sym, ◌∙◌, ◌≡◌}
use Rattle.std.proofs.lemmas.Bool.{false≢true}
use Rattle.pooma_view.specs.Overlap.{IsOverlap}
use Rattle.pooma_view.specs.Views.{Viewed}
use Rattle.pooma_view.proofs.Overlaps.{SharesThree, shared, no_overlap, not_true, apart_of}
use Rattle.pooma_view.proofs.views.View.overlaps.Goals as goal

pub returns-in_default : goal.returns-in_default
returns-in_default c = (
  λ t. absurd (false≢true t),
  λ (o : IsOverlap c.args.self.now c.args.target.now).
      let both : SharesThree c.self.inside.x c.self.inside.y c.self.inside.z c.target.inside.x c.target.inside.y c.target.inside.z = shared _ _ _ _ _ _ _ _ _ _ c.args.self.now c.args.target.now c.if-self-target-2.false c.self.invariant c.target.invariant c.self.view_is c.target.view_is o in
      absurd (c.in_default.ensures.between both.x_at both.by_x both.by_x'),
)

pub returns-in_default-common_ends : goal.returns-in_default-common_ends
returns-in_default-common_ends c = (
  λ t. absurd (false≢true t),
  λ (o : IsOverlap c.args.self.now c.args.target.now).
      let both : SharesThree c.self.inside.x c.self.inside.y c.self.inside.z c.target.inside.x c.target.inside.y c.target.inside.z = shared _ _ _ _ _ _ _ _ _ _ c.args.self.now c.args.target.now c.if-self-target-2.false c.self.invariant c.target.invariant c.self.view_is c.target.view_is o in
      absurd (c.in_default-common_ends.ensures.between both.y_at both.by_y both.by_y'),
)

pub returns-in_default-common_ends-2 : goal.returns-in_default-common_ends-2
returns-in_default-common_ends-2 c = (
  λ t. absurd (false≢true t),
  λ (o : IsOverlap c.args.self.now c.args.target.now).
      let both : SharesThree c.self.inside.x c.self.inside.y c.self.inside.z c.target.inside.x c.target.inside.y c.target.inside.z = shared _ _ _ _ _ _ _ _ _ _ c.args.self.now c.args.target.now c.if-self-target-2.false c.self.invariant c.target.invariant c.self.view_is c.target.view_is o in
      absurd (c.in_default-common_ends-2.ensures.between both.z_at both.by_z both.by_z'),
)

pub returns : goal.returns
returns c =
    let on_x = c.in-Some.ensures in
    let on_y = c.in-Some-common_ends.ensures in
    let on_z = c.in-Some-common_ends-2.ensures in
    let arrays : c.args.self.now.array ≡ c.args.target.now.array =
    sym (ap (λ (v : Viewed). v.array) c.self.view_is) ∙ c.if-self-target.false ∙ ap (λ (v : Viewed). v.array) c.target.view_is in (
      λ t. (arrays, apart_of c.agrees_along_x.result c.agrees_along_x.ensures.apart t),
      λ (o : IsOverlap c.args.self.now c.args.target.now). not_true c.agrees_along_x.result
          (λ t. no_overlap _ _ _ _ _ _ _ _ _ _ c.args.self.now c.args.target.now c.in-Some.on_x.0 c.in-Some-common_ends.on_y.0 c.in-Some-common_ends-2.on_z.0 c.in-Some.on_x.1 c.in-Some-common_ends.on_y.1 c.in-Some-common_ends-2.on_z.1 c.if-self-target-2.false c.self.invariant c.self.view_is c.target.view_is
          (record { least_r = on_x.least.0; least_t = on_x.least.1; greatest_r = on_x.greatest.0; greatest_t = on_x.greatest.1; between = on_x.between })
          (record { least_r = on_y.least.0; least_t = on_y.least.1; greatest_r = on_y.greatest.0; greatest_t = on_y.greatest.1; between = on_y.between })
          (record { least_r = on_z.least.0; least_t = on_z.least.1; greatest_r = on_z.greatest.0; greatest_t = on_z.greatest.1; between = on_z.between })
          (c.agrees_along_x.ensures.same t) o),
    )
