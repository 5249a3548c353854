-- Windows that were told have the entries of their works, so they are the first of the program.
use Rattle.std.proofs.Common.{◌≡◌, ◌∙◌, refl, sym, ap, subst, Option, List, [], ◌∷◌, ◌++◌, map, append-nil}
use Rattle.pooma_machine.specs.declared.journal.Entry.{Entry}
use Rattle.pooma_machine.specs.Told.{Window}
use Rattle.pooma_model.specs.Order.{Programmed}
use Rattle.pooma_piece.specs.Meaning.{pieces}
use Rattle.pooma_piece.specs.Pieces.{Pieced}
use Rattle.pooma_window.specs.Windows.{IsWindowOf}
use Rattle.pooma_run.specs.Plan.{IsPlan}
use Rattle.pooma_run.specs.Served.{ToldAreFirst}
use Rattle.pooma_run.specs.Told.{HasTold, HasToldFirst, entries_of}
use Rattle.pooma_run.specs.Turns.{AreTold}

module _ {S : Type 0} (tells : List Pieced → Window → S → S → Type 0)
    (whole : (works : List Pieced) (window : Window) (old new : S) → tells works window old new → IsWindowOf pieces works window) where
  entries_told : (works : List (List Pieced)) (windows : List Window) (old new : S) → AreTold tells works windows old new
      → map (λ (window : Window). window.entries) windows ≡ map entries_of works
  entries_told [] [] old new told = refl
  entries_told [] (window ∷ windows) old new told = absurd told
  entries_told (work ∷ works) [] old new told = absurd told
  entries_told (work ∷ works) (window ∷ windows) old new told =
      let one : window.entries ≡ entries_of work = (whole work window old told.0 told.1).entries in
      ap (λ (entries : List Entry). entries ∷ map (λ (w : Window). w.entries) windows) one
      ∙ ap (λ (later : List (List Entry)). entries_of work ∷ later) (entries_told works windows told.0 new told.2)

  pub all_told : (program : Programmed) (known told : Option (List Window)) (old new : S) → HasTold tells program known told old new → ToldAreFirst program known told
  all_told program known told old new has = (
    has.told_as.windows,
    has.told_as.behind,
    ([], subst (IsPlan program) (sym (append-nil _ ∙ entries_told has.works has.told_as.windows old new has.told_as.each)) has.plan),
  )

  pub some_told : (program : Programmed) (known told : Option (List Window)) (old new : S) (stops : List Pieced → S → S → Type 0)
      → HasToldFirst tells stops program known told old new → ToldAreFirst program known told
  some_told program known told old new stops has = (
    has.told_as.windows,
    has.told_as.behind,
    (has.later, subst (λ (windows : List (List Entry)). IsPlan program (windows ++ has.later)) (sym (entries_told has.works has.told_as.windows old has.mid has.told_as.each)) has.plan),
  )
