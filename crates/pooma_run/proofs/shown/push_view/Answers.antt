use Rattle.std.proofs.Common.{◌∙◌, ◌++◌, ℤ, List, ap}
use Rattle.std.proofs.lemmas.Result.{on_ok_weaker}
use Rattle.pooma_domain.specs.Cells.{Interval}
use Rattle.pooma_model.specs.Texts.{view_text}
use Rattle.pooma_view.specs.Slots.{positions_of}
use Rattle.pooma_run.specs.Showing.{OwnersHave, stored_at}
use Rattle.pooma_run.proofs.Alike.{have_stored, texts_alike}
use Rattle.pooma_run.proofs.shown.push_view.Goals as goal

pub returns : goal.returns
returns c =
    on_ok_weaker c.view_text.result
    (λ grown. λ (number : List ℤ → ℤ) (have : OwnersHave c.args.store.now c.args.view.now number).
    grown ∙ ap (λ text. c.args.out.now.items ++ text)
    (ap (λ (box : List Interval). view_text (stored_at c.args.store.now c.args.view.now) box) c.positions.ensures
    ∙ texts_alike c.order_of_cells.ensures.members (stored_at c.args.store.now c.args.view.now) number (positions_of c.args.view.now.slots)
    (have_stored c.args.store.now c.args.view.now number have)))
    c.view_text.ensures.ok
