use Rattle.std.proofs.Common.{◌≡◌, ◌∙◌, ◌≤◌, ◌++◌, ℕ, ℤ, List, Some, sym, ap, subst}
use Rattle.std.specs.Prelude.{Contains, map, slice_get}
use Rattle.std.proofs.lemmas.Option.{same_Some}
use Rattle.pooma_machine.specs.declared.journal.Entry.{Entry}
use Rattle.pooma_machine.specs.Told.{Window}
use Rattle.pooma_model.specs.declared.statement.Statement.{Statement}
use Rattle.pooma_model.specs.Order.{Programmed}
use Rattle.pooma_run.specs.Served.{entries_in}
use Rattle.pooma_split.specs.Serving.{IsPositionOf, Serve}
use Rattle.pooma_statement_tests.proofs.run.run_serving.Goals as goal

abbrev IsServed : Programmed → List Window → Type 0
IsServed program told =
    (last : Entry) (number : ℕ) (s : Statement) (p : List ℤ)
    → Contains (entries_in (map (λ (window : Window). window.entries) told)) last → number ≤ last.statement
    → slice_get program.order number ≡ Some s → IsPositionOf s.action p
    → (entry : Entry) × Contains (entries_in (map (λ (window : Window). window.entries) told)) entry × (entry.statement ≡ number)
    × Serve program.declared s.action p entry.requests

pub returns : goal.returns
returns c =
    let first = c.told_windows_are_first.ensures.picked c.args.program.now _ _ _ _ c.in_ok-_ended.ensures.windows in
    let told : c.run_one.new.journal ≡ first.0 =
    same_Some _ _ first.1 ∙ ap (λ (before : List Window). before ++ first.0) c.new-journal.ensures in
    subst (IsServed c.args.program.now) (sym told)
    (λ last number s p there far at here.
    c.windows_serve_positions.ensures.served c.args.program.now (map (λ (window : Window). window.entries) first.0) last number s p
    c.program_is_sound.ensures first.2 there far at here)
