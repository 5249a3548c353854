-- What a work loop does to its pass, and when it ends.
use Rattle.std.specs.Prelude.{◌≡◌, ◌++◌, ℕ, List, [], ◌∷◌, IfSome, flat_map, slice_get}
use Rattle.pooma_machine.specs.declared.step.EventKind.TheVariants as kind
use Rattle.pooma_machine.specs.Steps.{IsReady}
use Rattle.pooma_machine.specs.Values.{Meaning, asks_of}
use Rattle.pooma_desk.specs.declared.sight.Noted.{Noted}
use Rattle.pooma_desk.specs.Tokens.{Token, IsSamePass, own_calls, called, plan_of, history_of}

-- the calls of doing this entry at a seat: its dispatch, and then its release
abbrev pub turns_of : {W : Type 0} → ℕ → ℕ → List (Noted W)
turns_of seat entry = called kind.Dispatch entry seat ∷ called kind.Release entry seat ∷ []

-- the calls of doing these entries at a seat, one after another
abbrev pub calls_of : {W : Type 0} → ℕ → List ℕ → List (Noted W)
calls_of seat entries = flat_map (turns_of seat) entries

-- the same pass, which has seen what it had seen and maybe more; the calls that it has made since are those of doing entries,
-- one after another, at its seat
pub record Works {W V : Type 0} (old new : Token W V) : Type 0 where
  pub same : IsSamePass old new
  pub more : List (Noted W)
  pub seen : new.seen ≡ old.seen ++ more
  pub entries : List ℕ
  pub own : own_calls new ≡ own_calls old ++ calls_of old.seat entries

-- it does so, and the first of these entries, if there is any, is this one
pub record WorksFrom {W V : Type 0} (old new : Token W V) (entry : ℕ) : Type 0 where
  pub works : Works old new
  pub first : IfSome (slice_get works.entries 0) (λ j. j ≡ entry)

-- after what the pass has seen, some entry may be dispatched
abbrev pub CanGoOn : {W V O S : Type 0} → Meaning W V O S → Token W V → Type 0
CanGoOn meaning pass = (entry : ℕ) × IsReady (asks_of meaning (plan_of pass)) (history_of pass) entry
