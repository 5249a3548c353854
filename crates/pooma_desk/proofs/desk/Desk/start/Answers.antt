use Rattle.std.proofs.Common.{◌≡◌, length, [], ◌∷◌, ◌++◌, Some, sym, ap, ◌∙◌, subst}
use Rattle.atomic_table.specs.Table.{opening}
use Rattle.pooma_machine.specs.Steps.{issued}
use Rattle.pooma_machine.specs.Values.{Account}
use Rattle.pooma_law.specs.Histories.{IsHistoryOf}
use Rattle.pooma_desk.specs.Sight.{Began}
use Rattle.pooma_desk.specs.Rule.{IsKept}
use Rattle.pooma_desk.specs.Steps.{first_sight}
use Rattle.pooma_desk.proofs.Moves.{opens}
use Rattle.pooma_desk.proofs.Asking.{outside_first}
use Rattle.pooma_desk.proofs.desk.Desk.start.Goals as goal

pub new-requires : goal.new-requires
new-requires g c =
    let start : Began _ _ = record { machine = c.of.result.value; seats = c.args.seats } in
    let slots = c.push_reserved.ensures.items ∙ ap (λ l. l ++ Some c.args.machine ∷ []) c.in-Ok.ensures.items in
    subst (λ l. IsKept start (opening (0 ∷ 0 ∷ []) l (first_sight start))) (sym slots) (opens start c.args.machine c.requires.some (sym c.of.ensures))

pub invariant_of-pass : goal.invariant_of-pass
invariant_of-pass g c =
    let start : Began _ _ = record { machine = c.of.result.value; seats = c.args.seats } in
    let m = g.W.Work.meaning in
    let legal = subst (λ (z : Account _ _). IsHistoryOf m z.plan z.history) (sym c.of.ensures) c.history-before.ensures.legal in
    let count = subst (λ (z : Account _ _). issued z.history ≡ length z.plan) (sym c.of.ensures) c.history-before.ensures.issued in
    outside_first m start c.in-Ok-new.place.me c.requires.some legal count c.in-Ok-new.ensures.ok.4
