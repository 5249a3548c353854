use Rattle.std.proofs.Common.{sym, rules}
use Rattle.std.specs.Prelude.{OnErr, OnOk}
use Rattle.pooma_piece.specs.Meaning.{pieces}
use Rattle.pooma_run.specs.Told.{HasTold, HasToldFirst}
use Rattle.pooma_window.specs.Windows.{IsPickedFrom, IsStopped}
use Rattle.pooma_run.proofs.Telling.{asked_of, has_told_so, told_first_so}
use Rattle.std.proofs.lemmas.Result.{on_err_weaker}
use Rattle.pooma_run.proofs.Results.{at_ends, on_ok_so}
use Rattle.pooma_run.proofs.one_run.run_one.Goals as goal

pub returns-clause-windows : goal.returns-clause-windows
returns-clause-windows g c =
    let told =
    on_ok_so c.run.result (has_told_so _ (IsPickedFrom pieces) (λ completer. g.P.Picker.asked completer.picker.now) (λ works window old new is. is) c.args.program.now _ _ c.new.result c.run.new.completer)
    c.run.ensures.told in
    at_ends (λ picker journal. OnOk c.run.result (HasTold (IsPickedFrom pieces) c.args.program.now (g.J.Journal.told c.args.journal.now) (g.J.Journal.told journal) (g.P.Picker.asked c.args.picker.now) (g.P.Picker.asked picker)))
    _ c.run.new.completer.picker.now _ c.run.new.completer.journal.now (search rules) (search rules)
    (at_ends (λ picker journal. OnOk c.run.result (HasTold (IsPickedFrom pieces) c.args.program.now (g.J.Journal.told journal) (g.J.Journal.told c.run.new.completer.journal.now) (g.P.Picker.asked picker) (g.P.Picker.asked c.run.new.completer.picker.now)))
    c.args.picker.now c.new.result.picker.now c.args.journal.now c.new.result.journal.now (sym c.new.ensures.picker) (sym c.new.ensures.journal) told)

pub returns-clause-asked : goal.returns-clause-asked
returns-clause-asked g c = on_ok_so c.run.result (asked_of c.args.program.now) (returns-clause-windows g c)

pub returns-clause-front : goal.returns-clause-front
returns-clause-front g c =
    let told =
    on_err_weaker c.run.result (told_first_so _ (IsPickedFrom pieces) (λ completer. g.P.Picker.asked completer.picker.now) (λ works window old new is. is) c.args.program.now _ _ c.new.result c.run.new.completer
    _ (IsStopped pieces) (λ works old new is. is))
    c.run.ensures.front in
    at_ends (λ picker journal. OnErr c.run.result (HasToldFirst (IsPickedFrom pieces) (IsStopped pieces) c.args.program.now (g.J.Journal.told c.args.journal.now) (g.J.Journal.told journal) (g.P.Picker.asked c.args.picker.now) (g.P.Picker.asked picker)))
    _ c.run.new.completer.picker.now _ c.run.new.completer.journal.now (search rules) (search rules)
    (at_ends (λ picker journal. OnErr c.run.result (HasToldFirst (IsPickedFrom pieces) (IsStopped pieces) c.args.program.now (g.J.Journal.told journal) (g.J.Journal.told c.run.new.completer.journal.now) (g.P.Picker.asked picker) (g.P.Picker.asked c.run.new.completer.picker.now)))
    c.args.picker.now c.new.result.picker.now c.args.journal.now c.new.result.journal.now (sym c.new.ensures.picker) (sym c.new.ensures.journal) told)
