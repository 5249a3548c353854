use Rattle.std.proofs.Common.{◌≡◌, ◌++◌, ◌∷◌, [], Some, sym, ap, ◌∙◌, subst, slice_get}
use Rattle.pooma_desk.specs.Tokens.{HasOut, plan_of, values_after, token_of}
use Rattle.pooma_desk.proofs.desk.Desk.dispatch_next.Goals as goal

pub returns-in-Ok-dispatch_in_turn-clause-loan : goal.returns-in-Ok-dispatch_in_turn-clause-loan
returns-in-Ok-dispatch_in_turn-clause-loan g c =
    let e = c.in-Ok-dispatch_in_turn.ensures in
    let loan = c.in-Ok-dispatch_in_turn.loan in
    let now = token_of c.args.self.now.desk c.dispatch_in_turn.new.turn.place.me.0 in (
      loan,
      c.push_reserved.ensures.items ∙ ap (λ l. l ++ loan ∷ []) c.in-Ok.ensures.items,
      e.entry,
      record {
        out = subst (HasOut now) (sym e.entry) e.out;
        work = subst (λ j. slice_get (plan_of now) j ≡ Some loan.work) (sym e.entry) e.work;
        lent = subst (λ j. loan.lent ≡ (values_after g.W.Work.meaning now).lent j) (sym e.entry) e.lent;
      },
    )
