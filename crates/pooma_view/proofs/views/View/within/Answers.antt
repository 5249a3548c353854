use Rattle.std.proofs.Common.{ap, ◌∙◌, sym, ◌≡◌, rules, map}
use Rattle.std.proofs.lemmas.Bool.{false≢true}
use Rattle.pooma_view.specs.Slots.{first_named, last_named}
use Rattle.pooma_view.specs.Views.{Viewed}
use Rattle.pooma_view.proofs.Parts.{ends_are, ends_tell, first_within}
use Rattle.pooma_view.proofs.views.View.within.Goals as goal

pub returns-then-contains : goal.returns-then-contains
returns-then-contains c =
    let first_is : c.front-first.result ≡ map first_named c.args.self.now.slots =
    ends_are first_named _ _ _ _ _ _ c.ends-first_x.result.0 c.ends-first_y.result.0 c.ends-first_z.result.0 (search rules) (search rules) (search rules) c.front-first.ensures c.ends-first_x.ensures.first c.ends-first_y.ensures.first c.ends-first_z.ensures.first (ap (λ (v : Viewed). v.slots) c.self.view_is) in
    let last_is : c.front-last.result ≡ map last_named c.args.self.now.slots =
    ends_are last_named _ _ _ _ _ _ c.ends-first_x.result.1 c.ends-first_y.result.1 c.ends-first_z.result.1 (search rules) (search rules) (search rules) c.front-last.ensures c.ends-first_x.ensures.last c.ends-first_y.ensures.last c.ends-first_z.ensures.last (ap (λ (v : Viewed). v.slots) c.self.view_is) in
    let tell = ends_tell c.args.self.now.slots c.args.b.now c.front-first.result c.front-last.result first_is last_is in (
      λ t. tell.0 (c.contains.ensures.0 c.if-contains.true, c.contains-then-contains.ensures.0 t),
      λ all. c.contains-then-contains.ensures.1 (tell.1 all).1,
    )

pub returns-else-contains : goal.returns-else-contains
returns-else-contains c = (
  λ t. absurd (false≢true (sym c.if-contains.false ∙ t)),
  λ all.
      let first_is : c.front-first.result ≡ map first_named c.args.self.now.slots =
      ends_are first_named _ _ _ _ _ _ c.ends-first_x.result.0 c.ends-first_y.result.0 c.ends-first_z.result.0 (search rules) (search rules) (search rules) c.front-first.ensures c.ends-first_x.ensures.first c.ends-first_y.ensures.first c.ends-first_z.ensures.first (ap (λ (v : Viewed). v.slots) c.self.view_is) in
      c.contains.ensures.1 (first_within c.args.self.now.slots c.args.b.now c.front-first.result first_is all),
)
