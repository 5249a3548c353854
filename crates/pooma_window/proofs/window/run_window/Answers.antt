use Rattle.pooma_window.proofs.Turns.{on_err}
use Rattle.pooma_window.proofs.window.run_window.Goals as goal

pub request_all-requires-clause-fits : goal.request_all-requires-clause-fits
request_all-requires-clause-fits g c = rw c.in-Ok.ensures.opening c.requires.fits

pub returns-in_err-run_all-clause-err : goal.returns-in_err-run_all-clause-err
returns-in_err-run_all-clause-err g c =
    let stopped = rw c.in_ok-request_all.ensures.plan at c.in_err-run_all.ensures.err in
    on_err c.from_residual-in_err-run_all.result stopped
