use Rattle.std.proofs.Common.{◌<◌, ◌∷◌, [], length, sym, ◌∙◌, subst, append-nil}
use Rattle.pooma_machine.specs.Steps.{IsReady}
use Rattle.pooma_machine.specs.Values.{asks_of}
use Rattle.pooma_window.specs.Questions.{question}
use Rattle.pooma_window.proofs.Turns.{on_ok, on_err, followed_by_none, waiting_is_known, picked_ready, turn_asked, turn_run, left_ready, new_freed, new_named}
use Rattle.pooma_window.proofs.window.run_next.Given.{Over}
use Rattle.pooma_window.proofs.window.run_next.Goals as goal
use Rattle.pooma_window.proofs.window.run_next.Goals.{After-take_off-entry}

-- the entry that is taken off may be run, and was issued
ready : (g : Over) (c : After-take_off-entry g) → IsReady (asks_of g.W.Work.meaning c.args.machine.now.plan) c.args.machine.now.history c.take_off-entry.result
ready g c =
    let within = rw c.as_slice.ensures.entries at c.in-Ok.ensures.place in
    picked_ready (asks_of g.W.Work.meaning c.args.machine.now.plan) c.args.machine.now.history c.args.choices.now c.requires.list c.in-Ok.place within c.take_off-entry.result c.take_off-entry.ensures.entry

issued : (g : Over) (c : After-take_off-entry g) → c.take_off-entry.result < length c.args.machine.now.plan
issued g c =
    let known = waiting_is_known (asks_of g.W.Work.meaning c.args.machine.now.plan) c.args.machine.now.history c.take_off-entry.result (ready g c) in
    let number = (c.legal_histories_tell.ensures.issued c.args.machine.now.plan c.args.machine.now.history c.history-legal.ensures.legal c.take_off-entry.result).0 known in
    subst (λ n. c.take_off-entry.result < n) c.history-legal.ensures.issued number

pub run_entry-requires-clause-ready : goal.run_entry-requires-clause-ready
run_entry-requires-clause-ready g c = ready g (goal.at.run_entry-requires-clause-ready g c).After-take_off-entry

pub run_entry-requires-clause-there : goal.run_entry-requires-clause-there
run_entry-requires-clause-there g c = issued g (goal.at.run_entry-requires-clause-there g c).After-take_off-entry

pub returns-in_default-clause-err : goal.returns-in_default-clause-err
returns-in_default-clause-err g c =
    λ questions run. ([], rw (append-nil questions) run.asked, c.in_default.ensures.err ∙ sym (followed_by_none (g.P.Picker.asked c.args.picker.now)))

pub returns-in_default-run_entry-clause-err : goal.returns-in_default-run_entry-clause-err
returns-in_default-run_entry-clause-err g c =
    let within = rw c.as_slice.ensures.entries at c.in-Ok.ensures.place in
    let asked = turn_asked (asks_of g.W.Work.meaning c.args.machine.now.plan) c.args.machine.now.history c.args.choices.now c.requires.list c.in-Ok.place within c.take_off-entry.result c.take_off-entry.ensures.entry in
    λ questions run. (question c.args.choices.now c.in-Ok.place ∷ [], asked questions run, rw c.as_slice.ensures.entries at c.in-Ok.ensures.asks)

pub note_became-requires-clause-stays : goal.note_became-requires-clause-stays
note_became-requires-clause-stays g c =
    let within = rw c.as_slice.ensures.entries at c.in-Ok.ensures.place in
    rw (c.in-Ok-run_entry.ensures.plan, c.in-Ok-run_entry.ensures.history)
    (left_ready (asks_of g.W.Work.meaning c.args.machine.now.plan) c.args.machine.now.history c.args.choices.now c.requires.list c.in-Ok.place within c.take_off-entry.result c.take_off-entry.ensures.entry c.take_off-entry.new.self c.take_off-entry.ensures.others)

pub note_became-requires-clause-names : goal.note_became-requires-clause-names
note_became-requires-clause-names g c =
    let within = rw c.as_slice.ensures.entries at c.in-Ok.ensures.place in
    rw (c.in-Ok-run_entry.ensures.plan, c.in-Ok-run_entry.ensures.history)
    (new_named (asks_of g.W.Work.meaning c.args.machine.now.plan) c.args.machine.now.history c.args.choices.now c.requires.list c.in-Ok.place within c.take_off-entry.result c.take_off-entry.ensures.entry c.take_off-entry.new.self c.take_off-entry.ensures.others c.in-Ok-run_entry.became c.in-Ok-run_entry.ensures.became)

pub note_became-requires-clause-there : goal.note_became-requires-clause-there
note_became-requires-clause-there g c = rw c.in-Ok-run_entry.ensures.plan (issued g (goal.at.note_became-requires-clause-there g c).After-take_off-entry)

pub note_became-requires-clause-freed : goal.note_became-requires-clause-freed
note_became-requires-clause-freed g c =
    let within = rw c.as_slice.ensures.entries at c.in-Ok.ensures.place in
    rw (c.in-Ok-run_entry.ensures.plan, c.in-Ok-run_entry.ensures.history)
    (new_freed (asks_of g.W.Work.meaning c.args.machine.now.plan) c.args.machine.now.history c.args.choices.now c.requires.list c.in-Ok.place within c.take_off-entry.result c.take_off-entry.ensures.entry c.take_off-entry.new.self c.take_off-entry.ensures.others c.in-Ok-run_entry.ensures.freed)

pub returns-clause-run : goal.returns-clause-run
returns-clause-run g c =
    let within = rw c.as_slice.ensures.entries at c.in-Ok.ensures.place in
    let turned = turn_run (asks_of g.W.Work.meaning c.args.machine.now.plan) c.args.machine.now.history c.args.choices.now c.requires.list c.in-Ok.place within c.take_off-entry.result c.take_off-entry.ensures.entry in
    rw (c.in-Ok-run_entry.ensures.plan, c.in-Ok-run_entry.ensures.history)
    (on_ok c.note_became.result (λ questions run. (question c.args.choices.now c.in-Ok.place, turned questions run, rw c.as_slice.ensures.entries at c.in-Ok.ensures.asks)))

pub returns-clause-err : goal.returns-clause-err
returns-clause-err g c =
    let within = rw c.as_slice.ensures.entries at c.in-Ok.ensures.place in
    let asked = turn_asked (asks_of g.W.Work.meaning c.args.machine.now.plan) c.args.machine.now.history c.args.choices.now c.requires.list c.in-Ok.place within c.take_off-entry.result c.take_off-entry.ensures.entry in
    on_err c.note_became.result (λ questions run. (question c.args.choices.now c.in-Ok.place ∷ [], asked questions run, rw c.as_slice.ensures.entries at c.in-Ok.ensures.asks))
