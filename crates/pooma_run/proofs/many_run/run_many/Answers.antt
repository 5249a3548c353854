use Rattle.std.proofs.Common.{sym, rules}
use Rattle.std.specs.Prelude.{OnErr, OnOk}
use Rattle.pooma_run.specs.Workers.{HasShared, HasSharedFirst}
use Rattle.pooma_run.proofs.Shared.{all_shared, first_shared}
use Rattle.std.proofs.lemmas.Result.{on_err_weaker}
use Rattle.pooma_run.proofs.Results.{at_ends, on_ok_so}
use Rattle.pooma_run.proofs.many_run.run_many.Goals as goal

pub returns-clause-windows : goal.returns-clause-windows
returns-clause-windows g c =
    let told = on_ok_so c.run.result (all_shared (λ completer. completer.workers) _ (λ works window old new is. is) c.args.workers c.args.program.now _ _ c.new.result c.run.new.completer c.new.ensures.workers) c.run.ensures.told in
    at_ends (λ known journal. OnOk c.run.result (HasShared c.args.workers c.args.program.now (g.J.Journal.told known) (g.J.Journal.told journal)))
    c.args.journal.now c.new.result.journal.now _ c.run.new.completer.journal.now (sym c.new.ensures.journal) (search rules) told

pub returns-clause-front : goal.returns-clause-front
returns-clause-front g c =
    let told = on_err_weaker c.run.result (first_shared (λ completer. completer.workers) _ (λ works window old new is. is) c.args.workers c.args.program.now _ _ c.new.result c.run.new.completer _ c.new.ensures.workers) c.run.ensures.front in
    at_ends (λ known journal. OnErr c.run.result (HasSharedFirst c.args.workers c.args.program.now (g.J.Journal.told known) (g.J.Journal.told journal)))
    c.args.journal.now c.new.result.journal.now _ c.run.new.completer.journal.now (sym c.new.ensures.journal) (search rules) told
