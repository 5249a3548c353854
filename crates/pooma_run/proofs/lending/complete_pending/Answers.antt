use Rattle.std.proofs.Common.{◌∙◌, sym, ap, subst, map, length, ◌<◌}
use Rattle.std.specs.Prelude.{All}
use Rattle.std.specs.Arc.{arc_value}
use Rattle.pooma_piece.specs.Meaning.{pieces}
use Rattle.pooma_store.specs.Numbering.{AreObjects, areas_of, object_count}
use Rattle.pooma_store.specs.Stored.{contents_of}
use Rattle.pooma_window.specs.Windows.{AsksWithin}
use Rattle.pooma_run.proofs.Forms.{asks_of_objects, ser_keeps}
use Rattle.pooma_run.proofs.Telling.{some_told}
use Rattle.pooma_run.proofs.Untold.{err_handed, some_pending, untold_or_theirs}
use Rattle.pooma_run.proofs.lending.complete_pending.Goals as goal

pub complete-requires-clause-objects : goal.complete-requires-clause-objects
complete-requires-clause-objects g c =
    asks_of_objects c.args.store.now.layouts c.lend.result.items (map arc_value c.replace-works.result.items) c.lend.ensures.valid
    (subst (λ works. All (AsksWithin pieces (object_count c.args.store.now.layouts)) (map arc_value works.items)) (sym c.replace-works.ensures.value) c.requires.there)

pub returns-in_err-done-clause-err : goal.returns-in_err-done-clause-err
returns-in_err-done-clause-err g c =
    let works = map arc_value c.args.pending.now.items in
    let some : 0 < length works = some_pending arc_value c.args.pending.now.items c.args.pending.now.len c.is_empty.result c.args.pending.now.ok.0 c.is_empty.ensures c.if-is_empty.false in
    err_handed c.complete.result c.in_err-done.field-0.0 c.from_residual.result c.in_err-done.was
    (untold_or_theirs g.C.Completer.tells g.C.Completer.stops works (g.C.Completer.told c.args.completer.now) (g.C.Completer.told c.complete.new.self) c.args.completer.now c.complete.new.self some)
    (rw c.replace-works.ensures.value at c.complete.ensures.err)

pub settle-requires-clause-areas : goal.settle-requires-clause-areas
settle-requires-clause-areas g c =
    let kept : AreObjects c.args.store.now.layouts (contents_of c.in_ok-done.done.objects.items) =
    subst (AreObjects c.args.store.now.layouts) (sym c.in_ok-done.ensures.objects)
    (ser_keeps (record { area = c.numbers_of_cells.ensures.area; full = c.numbers_of_cells.ensures.full }) c.args.store.now.layouts (map arc_value c.replace-works.result.items)
    (contents_of c.lend.result.items) c.lend.ensures.valid) in
    kept.areas ∙ ap areas_of (sym c.lend.ensures.layouts)

pub returns-clause-told : goal.returns-clause-told
returns-clause-told g c =
    let works = map arc_value c.args.pending.now.items in
    let some : 0 < length works = some_pending arc_value c.args.pending.now.items c.args.pending.now.len c.is_empty.result c.args.pending.now.ok.0 c.is_empty.ensures c.if-is_empty.false in
    let one = rw c.replace-works.ensures.value at c.in_ok-done.ensures.told in
    some_told g.C.Completer.tells works one.0 (g.C.Completer.told c.args.completer.now) (g.C.Completer.told c.complete.new.self) c.args.completer.now c.complete.new.self some one.1 one.2
