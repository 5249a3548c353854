-- Windows that were told one after another, each as who completes them tells it.
use Rattle.std.specs.Prelude.{◌≡◌, ◌⊎◌, ◌++◌, List, [], ◌∷◌, Option, option_map}
use Rattle.pooma_machine.specs.Told.{Window}
use Rattle.pooma_run.specs.Steps.{window_with}

-- of these lists of works, from how the completer stood before the first to how it stands behind the last
abbrev pub AreTold : {W S : Type 0} → (List W → Window → S → S → Type 0) → List (List W) → List Window → S → S → Type 0
AreTold {W} {S} tells [] [] old new = old ≡ new
AreTold {W} {S} tells [] (window ∷ windows) old new = ⊥
AreTold {W} {S} tells (works ∷ later) [] old new = ⊥
AreTold {W} {S} tells (works ∷ later) (window ∷ windows) old new = (mid : S) × tells works window old mid × AreTold tells later windows mid new

-- these windows behind those that are known
abbrev pub told_behind : Option (List Window) → List Window → Option (List Window)
told_behind known windows = option_map (λ before. before ++ windows) known

-- the window of these works, where there are any, was told behind those that are known
abbrev pub WindowTold : {W S : Type 0} → (List W → Window → S → S → Type 0) → List W → Option (List Window) → Option (List Window) → S → S → Type 0
WindowTold tells works known told old new = (windows : List Window) × AreTold tells (window_with works) windows old new × (told ≡ told_behind known windows)

-- none was, and the completer stands as before, or as one that stopped before the window was whole
abbrev pub NoneTold : {W S : Type 0} → (List W → S → S → Type 0) → List W → Option (List Window) → Option (List Window) → S → S → Type 0
NoneTold stops works known told old new = (told ≡ known) × ((new ≡ old) ⊎ stops works old new)
