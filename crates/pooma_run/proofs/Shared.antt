-- Windows that were told by a completer of so many workers, each of which the workers share.
use Rattle.std.proofs.Common.{◌≡◌, ◌∙◌, ℕ, refl, subst, Option, List, [], ◌∷◌, inl}
use Rattle.pooma_machine.specs.Told.{Window}
use Rattle.pooma_model.specs.Order.{Programmed}
use Rattle.pooma_piece.specs.Meaning.{pieces}
use Rattle.pooma_piece.specs.Pieces.{Pieced}
use Rattle.pooma_window.specs.Workers.{IsShared}
use Rattle.pooma_run.specs.Told.{HasTold, HasToldFirst, ToldAs}
use Rattle.pooma_run.specs.Turns.{AreTold}
use Rattle.pooma_run.specs.Workers.{HasShared, HasSharedFirst, SharedBy}

module _ {S : Type 0} (workers_of : S → ℕ) (tells : List Pieced → Window → S → S → Type 0)
    (also : (works : List Pieced) (window : Window) (old new : S) → tells works window old new → IsShared pieces (workers_of old) works window × (workers_of new ≡ workers_of old))
    (workers : ℕ) where
  each_shared : (works : List (List Pieced)) (windows : List Window) (old new : S) → workers_of old ≡ workers → AreTold tells works windows old new
      → AreTold (SharedBy workers) works windows tt tt
  each_shared [] [] old new is told = refl
  each_shared [] (window ∷ windows) old new is told = absurd told
  each_shared (work ∷ works) [] old new is told = absurd told
  each_shared (work ∷ works) (window ∷ windows) old new is told =
      let one = also work window old told.0 told.1 in
      (tt, subst (λ (n : ℕ). IsShared pieces n work window) is one.0, each_shared works windows told.0 new (one.1 ∙ is) told.2)

  as_shared : (works : List (List Pieced)) (known told : Option (List Window)) (old new : S) → workers_of old ≡ workers → ToldAs tells works known told old new
      → ToldAs (SharedBy workers) works known told tt tt
  as_shared works known told old new is as_told = record {
    windows = as_told.windows;
    each = each_shared works as_told.windows old new is as_told.each;
    behind = as_told.behind;
  }

  pub all_shared : (program : Programmed) (known told : Option (List Window)) (old new : S) → workers_of old ≡ workers → HasTold tells program known told old new
      → HasShared workers program known told
  all_shared program known told old new is has = record { works = has.works; plan = has.plan; told_as = as_shared has.works known told old new is has.told_as }

  pub first_shared : (program : Programmed) (known told : Option (List Window)) (old new : S) (stops : List Pieced → S → S → Type 0) → workers_of old ≡ workers
      → HasToldFirst tells stops program known told old new
      → HasSharedFirst workers program known told
  first_shared program known told old new stops is has = record {
    works = has.works;
    later = has.later;
    mid = tt;
    plan = has.plan;
    told_as = as_shared has.works known told old has.mid is has.told_as;
    then = inl refl;
  }
