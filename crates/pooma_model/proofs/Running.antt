-- Runs of a front and then of the rest.
use Rattle.std.proofs.Common.{refl, sym, ap, ◌∙◌, append_assoc, append-nil}
use Rattle.std.proofs.lemmas.Bool.{false≢true}
use Rattle.std.proofs.lemmas.List.{take_more}
use Rattle.std.proofs.lemmas.Option.{get_or_from_slice_get, slice_get_within}
use Rattle.std.specs.Prelude.{◌≡◌, ℕ, ◌+◌, true, false, Some, List, [], ◌∷◌, ◌++◌, slice_get, take}
use Rattle.pooma_field.specs.Worlds.{World}
use Rattle.pooma_model.specs.declared.statement.Statement.{Statement}
use Rattle.pooma_model.specs.Assigning.{Effect, Becomes, Faults}
use Rattle.pooma_model.specs.Declarations.{Declared}
use Rattle.pooma_model.specs.Runs.{world_of, world_after, followed_by, with_effect}
use Rattle.pooma_model.specs.Serial.{Run, effect_of, printed, go_on, serial}

-- a run as its two parts
as_run : (r s : Run) → r.bytes ≡ s.bytes → r.faulted ≡ s.faulted → r ≡ s
as_run r s bytes faulted = λ i. record { bytes = bytes i; faulted = faulted i }

module _ (declared : Declared) where
  pub worlds_compose : (front rest : List Statement) (world : World) → world_after declared (front ++ rest) world ≡ world_after declared rest (world_after declared front world)
  worlds_compose [] rest world = refl
  worlds_compose (s ∷ front) rest world = worlds_compose front rest (world_of (effect_of declared s.action world) world)

  -- one statement, and what is done in the world after it
  goes_on : (line : ℕ) (bytes : List ℕ) (effect : Effect) (world : World) (front all : World → Run) (end : Run)
      → (go_on line bytes effect front).faulted ≡ false
      → ((front (world_of effect world)).faulted ≡ false → all (world_of effect world) ≡ followed_by (front (world_of effect world)) end)
      → go_on line bytes effect all ≡ followed_by (go_on line bytes effect front) end
  goes_on line bytes (Faults fault) world front all end fine more = absurd (false≢true (sym fine))
  goes_on line bytes (Becomes new) world front all end fine more =
      as_run _ _ (ap (λ r. bytes ++ r.bytes) (more fine) ∙ sym (append_assoc bytes (front new).bytes end.bytes)) (ap (λ r. r.faulted) (more fine))

  pub runs_compose : (front rest : List Statement) (world : World) → (serial declared front world).faulted ≡ false → serial declared (front ++ rest) world ≡ followed_by (serial declared front world) (serial declared rest (world_after declared front world))
  runs_compose [] rest world fine = refl
  runs_compose (s ∷ front) rest world fine =
      goes_on s.line (printed declared s.action world) (effect_of declared s.action world) world (serial declared front) (serial declared (front ++ rest))
      (serial declared rest (world_after declared (s ∷ front) world)) fine
      (runs_compose front rest (world_of (effect_of declared s.action world) world))

  ends_so : (line : ℕ) (bytes : List ℕ) (effect : Effect) (world : World) (front all : World → Run)
      → (go_on line bytes effect front).faulted ≡ true
      → ((front (world_of effect world)).faulted ≡ true → all (world_of effect world) ≡ front (world_of effect world))
      → go_on line bytes effect all ≡ go_on line bytes effect front
  ends_so line bytes (Faults fault) world front all faulted more = refl
  ends_so line bytes (Becomes new) world front all faulted more =
      ap (λ r. record { bytes = bytes ++ r.bytes; faulted = r.faulted }) (more faulted)

  pub runs_end : (front rest : List Statement) (world : World) → (serial declared front world).faulted ≡ true → serial declared (front ++ rest) world ≡ serial declared front world
  runs_end [] rest world faulted = absurd (false≢true faulted)
  runs_end (s ∷ front) rest world faulted =
      ends_so s.line (printed declared s.action world) (effect_of declared s.action world) world (serial declared front) (serial declared (front ++ rest)) faulted
      (runs_end front rest (world_of (effect_of declared s.action world) world))

  alone : (run : Run) (line : ℕ) (bytes : List ℕ) (effect : Effect) → followed_by run (go_on line bytes effect (serial declared [])) ≡ with_effect run line bytes effect
  alone run line bytes (Faults fault) = refl
  alone run line bytes (Becomes new) = ap (λ bs. record { bytes = run.bytes ++ bs; faulted = false }) (append-nil bytes)

  -- what one more statement adds
  pub one_more : (front : List Statement) (s : Statement) (world : World) → (serial declared front world).faulted ≡ false
      → serial declared (front ++ s ∷ []) world
      ≡ with_effect (serial declared front world) s.line (printed declared s.action (world_after declared front world)) (effect_of declared s.action (world_after declared front world))
  one_more front s world fine =
      runs_compose front (s ∷ []) world fine
      ∙ alone (serial declared front world) s.line (printed declared s.action (world_after declared front world)) (effect_of declared s.action (world_after declared front world))

-- the statements up to one, with it
up_to : {A : Type 0} (xs : List A) (j : ℕ) (x : A) → slice_get xs j ≡ Some x → take (j + 1) xs ≡ take j xs ++ x ∷ []
up_to xs j x at =
    take_more xs j x (slice_get_within xs j x at) ∙ ap (λ y. take j xs ++ y ∷ []) (get_or_from_slice_get xs j x x at)

pub next_run : (declared : Declared) (list : List Statement) (world : World) (j : ℕ) (s : Statement) → slice_get list j ≡ Some s → (serial declared (take j list) world).faulted ≡ false
    → serial declared (take (j + 1) list) world
    ≡ with_effect (serial declared (take j list) world) s.line (printed declared s.action (world_after declared (take j list) world)) (effect_of declared s.action (world_after declared (take j list) world))
next_run declared list world j s at fine =
    ap (λ (l : List Statement). serial declared l world) (up_to list j s at) ∙ one_more declared (take j list) s world fine

pub next_world : (declared : Declared) (list : List Statement) (world : World) (j : ℕ) (s : Statement) → slice_get list j ≡ Some s
    → world_after declared (take (j + 1) list) world
    ≡ world_of (effect_of declared s.action (world_after declared (take j list) world)) (world_after declared (take j list) world)
next_world declared list world j s at =
    ap (λ (l : List Statement). world_after declared l world) (up_to list j s at) ∙ worlds_compose declared (take j list) (s ∷ []) world
