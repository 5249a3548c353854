use Rattle.std.proofs.Common.{◌≡◌, ◌∙◌, refl, sym, ap, subst, List, length, map, inl, inr, ◌<◌, ◌++◌}
use Rattle.std.specs.Arc.{arc_value}
use Rattle.std.specs.declared.alloc.Global.{Global}
use Rattle.std.specs.declared.sync.Arc.{Arc}
use Rattle.std.specs.Prelude.{All}
use Rattle.std.proofs.lemmas.List.{length-map}
use Rattle.pooma_machine.specs.Machine.{FitsShapes}
use Rattle.pooma_model.specs.Texts.{fault_text}
use Rattle.pooma_piece.specs.Meaning.{pieces}
use Rattle.pooma_piece.specs.Pieces.{Pieced}
use Rattle.pooma_split.specs.Statements.{as_fault, fault_among}
use Rattle.pooma_store.specs.Numbering.{areas_of, object_count}
use Rattle.pooma_run.specs.contracts.driver.Running.{the_view}
use Rattle.pooma_run.specs.Outcomes.{fault_seen, seen}
use Rattle.pooma_run.specs.Steps.{window_with}
use Rattle.pooma_run.specs.Told.{IsCutShort, ToldAs}
use Rattle.pooma_run.specs.Underway.{IsOf, Kept, left}
use Rattle.pooma_window.specs.Windows.{AsksWithin}
use Rattle.pooma_run.proofs.Faulting.{fault_holds}
use Rattle.pooma_run.proofs.Performing.{completed_is, found_among, writes_it}
use Rattle.pooma_run.proofs.Results.{on_err}
use Rattle.pooma_run.proofs.driver.Running.end_window.Given.{Over}
use Rattle.pooma_run.proofs.driver.Running.end_window.Goals as goal
use Rattle.pooma_run.proofs.driver.Running.end_window.Goals.{After-first_fault}

pub complete_pending-requires-clause-home : goal.complete_pending-requires-clause-home
complete_pending-requires-clause-home g c = ap (λ (k : Kept). k.store.lent) c.self.view_is ∙ c.requires.of.home

pub complete_pending-requires-clause-there : goal.complete_pending-requires-clause-there
complete_pending-requires-clause-there g c =
    let of : IsOf c.args.program.now (the_view c.self.inside) = subst (IsOf c.args.program.now) (sym c.self.view_is) c.requires.of in
    subst (λ ds. All (AsksWithin pieces (object_count ds)) (map arc_value c.self.inside.pending.items)) (sym (ap (λ d. d.layouts) of.in_store))
    (subst (λ (k : Kept). All (AsksWithin pieces (object_count c.args.program.now.declared.layouts)) k.pending) (sym c.self.view_is) c.requires.pending.there)

pub complete_pending-requires-clause-fits : goal.complete_pending-requires-clause-fits
complete_pending-requires-clause-fits g c =
    let of : IsOf c.args.program.now (the_view c.self.inside) = subst (IsOf c.args.program.now) (sym c.self.view_is) c.requires.of in
    subst (λ ds. All (FitsShapes pieces (areas_of ds)) (map arc_value c.self.inside.pending.items)) (sym (ap (λ d. d.layouts) of.in_store))
    (subst (λ (k : Kept). All (FitsShapes pieces (areas_of c.args.program.now.declared.layouts)) k.pending) (sym c.self.view_is) c.requires.pending.fits)

pub returns-in_err-statements-clause-stays : goal.returns-in_err-statements-clause-stays
returns-in_err-statements-clause-stays g c = g.met.C.Completer.stays_itself c.args.completer.now

pub returns-in_err-statements-clause-err : goal.returns-in_err-statements-clause-err
returns-in_err-statements-clause-err g c = on_err c.from_residual.result (inl (refl, inl refl))

pub returns-in_err-outcomes-clause-stays : goal.returns-in_err-outcomes-clause-stays
returns-in_err-outcomes-clause-stays g c = c.complete_pending.ensures.stays

pub returns-in_err-outcomes-clause-err : goal.returns-in_err-outcomes-clause-err
returns-in_err-outcomes-clause-err g c =
    on_err c.from_residual-in_err-outcomes.result
    (subst (λ (k : Kept). IsCutShort g.C.Completer.tells g.C.Completer.stops k.pending (g.C.Completer.told c.args.completer.now) (g.C.Completer.told c.complete_pending.new.completer)
    c.args.completer.now c.complete_pending.new.completer) c.self.view_is
    (elim c.in_err-outcomes.ensures.err [ inl none ↦ inl none | inr told ↦ inr (record { windows = told.0; each = told.1; behind = told.2 }) ]))

pub first_fault-requires : goal.first_fault-requires
first_fault-requires g c =
    ap length (c.deref-2.ensures.value ∙ c.in_ok-statements.ensures) ∙ (length-map (map arc_value c.deref.result.now) (λ (piece : Pieced). piece.statement)
    ∙ (ap (λ (works : List (Arc Pieced Global)). length (map arc_value works)) c.deref.ensures.value
    ∙ (sym (c.laws_below.ensures.works.count (map arc_value c.self.inside.pending.items) c.self.inside.store.objects) ∙ sym (ap length (c.deref-3.ensures.value ∙ c.in_ok-outcomes.ensures.outcomes)))))

found : (g : Over) (c : After-first_fault g) → fault_among c.args.self.now.pending (left c.args.self.now) ≡ fault_seen c.first_fault.result
found g c =
    found_among (the_view c.self.inside) c.args.self.now c.deref-2.result.now c.deref-3.result.now (fault_seen c.first_fault.result) c.self.view_is
    (c.deref-2.ensures.value ∙ (c.in_ok-statements.ensures
    ∙ ap (λ (works : List (Arc Pieced Global)). map (λ (piece : Pieced). piece.statement) (map arc_value works)) c.deref.ensures.value))
    (c.deref-3.ensures.value ∙ c.in_ok-outcomes.ensures.outcomes) c.first_fault.ensures

told : (g : Over) (c : After-first_fault g) → ToldAs g.C.Completer.tells (window_with c.args.self.now.pending) (g.C.Completer.told c.args.completer.now) (g.C.Completer.told c.complete_pending.new.completer)
    c.args.completer.now c.complete_pending.new.completer
told g c =
    subst (λ (k : Kept). ToldAs g.C.Completer.tells (window_with k.pending) (g.C.Completer.told c.args.completer.now) (g.C.Completer.told c.complete_pending.new.completer)
    c.args.completer.now c.complete_pending.new.completer) c.self.view_is
    (let told = c.in_ok-outcomes.ensures.told in record { windows = told.0; each = told.1; behind = told.2 })

pub returns-in-None-clause-outcomes : goal.returns-in-None-clause-outcomes
returns-in-None-clause-outcomes g c = c.in_ok-outcomes.ensures.outcomes ∙ ap (λ (k : Kept). (left k).outcomes) c.self.view_is

pub returns-in-None-clause-none : goal.returns-in-None-clause-none
returns-in-None-clause-none g c = rw c.in-None.is at (found g (goal.at.returns-in-None-clause-none g c).After-first_fault)

pub returns-in-None-clause-completed : goal.returns-in-None-clause-completed
returns-in-None-clause-completed g c =
    completed_is (the_view c.self.inside) c.args.self.now c.complete_pending.new.store (map arc_value c.complete_pending.new.pending.items) c.self.view_is
    c.in_ok-outcomes.ensures.store (ap (λ (works : List (Arc Pieced Global)). map arc_value works) c.in_ok-outcomes.ensures.none)

pub returns-in-None-clause-stays : goal.returns-in-None-clause-stays
returns-in-None-clause-stays g c = c.complete_pending.ensures.stays

pub returns-in-None-clause-told : goal.returns-in-None-clause-told
returns-in-None-clause-told g c = told g (goal.at.returns-in-None-clause-told g c).After-first_fault

pub line_of-line-requires : goal.line_of-line-requires
line_of-line-requires g c =
    fault_holds (λ n. n < length c.args.program.now.order) c.args.self.now.pending (left c.args.self.now).outcomes (seen c.in-Some.fault) c.requires.pending.before
    (rw c.in-Some.is at (found g (goal.at.line_of-line-requires g c).After-first_fault))

pub returns-in_err-fault_text-in-Some-clause-stays : goal.returns-in_err-fault_text-in-Some-clause-stays
returns-in_err-fault_text-in-Some-clause-stays g c = c.complete_pending.ensures.stays

pub returns-in_err-fault_text-in-Some-clause-err : goal.returns-in_err-fault_text-in-Some-clause-err
returns-in_err-fault_text-in-Some-clause-err g c =
    on_err c.from_residual-in_err-fault_text-in-Some.result (inr (told g (goal.at.returns-in_err-fault_text-in-Some-clause-err g c).After-first_fault))

pub returns-clause-fault : goal.returns-clause-fault
returns-clause-fault g c =
    let is = rw c.in-Some.is at (found g (goal.at.returns-clause-fault g c).After-first_fault) in
    writes_it c.args.program.now c.args.self.now (seen c.in-Some.fault) c.line_of-line.result c.fault_text.new.out.items is
    (fault_holds (λ n. n < length c.args.program.now.order) c.args.self.now.pending (left c.args.self.now).outcomes (seen c.in-Some.fault) c.requires.pending.before is)
    c.line_of-line.ensures
    (c.in_ok-fault_text-in-Some.ensures.ok ∙ ap (λ (k : Kept). k.bytes ++ fault_text c.line_of-line.result (as_fault (seen c.in-Some.fault))) c.self.view_is)

pub returns-clause-stays : goal.returns-clause-stays
returns-clause-stays g c = c.complete_pending.ensures.stays

pub returns-clause-told : goal.returns-clause-told
returns-clause-told g c = told g (goal.at.returns-clause-told g c).After-first_fault
