-- The numbers at positions are of 64 bits, where their values are.
use Rattle.std.proofs.Common.{refl, inl, inr}
use Rattle.std.proofs.lemmas.List.Elements.{All-head, All-tail}
use Rattle.std.specs.List.{cons_option}
use Rattle.std.specs.Prelude.{ℤ, Ok, Err, List, [], ◌∷◌, All}
use Rattle.pooma_logic.proofs.Members.{Member}
use Rattle.pooma_domain.specs.Cells.{Interval, cells_of}
use Rattle.pooma_expr.specs.Reductions.{AllFit}
use Rattle.pooma_expr.specs.Values.{Checked}
use Rattle.pooma_expr.proofs.Joins.{AllFit-append}
use Rattle.pooma_expr.proofs.Words.{AnswersWord}
use Rattle.pooma_model.specs.Partitions.{numbers_at, numbers_in_turn}
use Rattle.pooma_model.specs.Reducing.{number_in}

-- the numbers at positions
pub numbers_word : (values : List ℤ → Checked) (ps : List (List ℤ)) → ((p : List ℤ) → Member ps p → AnswersWord (values p)) → AllFit (numbers_at values ps)
numbers_word values [] every = tt
numbers_word values (p ∷ ps) every = by (values p) (every p (inl refl)) (numbers_word values ps (λ q m. every q (inr m)))
  where
    by : (c : Checked) → AnswersWord c → AllFit (numbers_at values ps) → AllFit (cons_option (number_in c) (numbers_at values ps))
    by (Ok n) good rest = (good, rest)
    by (Err kind) good rest = rest

pub turns_word : (values : List ℤ → Checked) (boxes : List (List Interval)) → All (λ box. AllFit (numbers_at values (cells_of box))) boxes → AllFit (numbers_in_turn values boxes)
turns_word values [] all = tt
turns_word values (box ∷ boxes) all =
    AllFit-append (numbers_at values (cells_of box)) (numbers_in_turn values boxes)
    (All-head (λ b. AllFit (numbers_at values (cells_of b))) box boxes all) (turns_word values boxes (All-tail (λ b. AllFit (numbers_at values (cells_of b))) box boxes all))
