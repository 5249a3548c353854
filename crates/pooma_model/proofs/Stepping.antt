-- What a walk has left before and after it passes a line.
use Rattle.std.proofs.Common.{◌≡◌, ◌+◌, ◌-◌, ◌<◌, ℕ, zero, suc, Some, List, [], ◌∷◌, ◌++◌, length, drop, map, refl, sym, ◌∙◌, ap, subst, arith}
use Rattle.std.proofs.lemmas.List.{append_assoc}
use Rattle.pooma_model.specs.declared.lines.Line.{Line}
use Rattle.pooma_model.specs.declared.lines.Line.TheVariants.{Do, Repeat, End}
use Rattle.pooma_model.specs.declared.statement.Statement.{Statement}
use Rattle.pooma_model.specs.declared.turns.Turn.{Turn}
use Rattle.pooma_model.specs.Lines.{depth_after}
use Rattle.pooma_model.specs.Turns.{again_or_out, behind_end}
use Rattle.pooma_model.specs.Walking.{IsWalk, lines_times, outside, passed, passed_again, passed_from, StandsIn}
use Rattle.pooma_model.proofs.Nesting.{depth_in_repeat, outside-suc}
use Rattle.pooma_model.proofs.Passing.{passed-outside}

-- the walk passes this line, and has then the rest left at this other place
pub record Passes (lines : List Line) (place : ℕ) (turns : List Turn) (line : Line) (next : ℕ) (further : List Turn) : Type 0 where
  pub passed : passed_from lines place turns ≡ line ∷ passed_from lines next further
  pub walk : IsWalk lines next further

-- repeats stand around all lines from which one comes to the same end
pub StandsIn-outside : (lines rest other : List Line) (turns : List Turn) → outside 0 rest ≡ outside 0 other → StandsIn lines rest turns → StandsIn lines other turns
StandsIn-outside lines rest other [] same h = tt
StandsIn-outside lines rest other (turn ∷ turns) same h =
    (h.0, h.1, h.2 ∙ same, subst (λ xs. StandsIn lines xs turns) same h.3)

-- Behind the head of a repeat one stands in that repeat, and around it in those from before.
StandsIn-within : (lines rest : List Line) (n : ℕ) (turns : List Turn) → StandsIn lines (Repeat n ∷ rest) turns → StandsIn lines (outside 0 rest) turns
StandsIn-within lines rest n turns h = StandsIn-outside lines (Repeat n ∷ rest) (outside 0 rest) turns (outside-suc rest 0) h

module _ (lines rest : List Line) (place : ℕ) (turns : List Turn) (behind : drop (place + 1) lines ≡ rest) (below : place < length lines) (walk : IsWalk lines place turns) where
  pub statement-passes : (s : Statement) → drop place lines ≡ Do s ∷ rest → Passes lines place turns (Do s) (place + 1) turns
  statement-passes s is =
      let later : List (List Line) = map (passed_again lines) turns in
      record {
        passed = ap (λ xs. passed xs later) is ∙ ap (λ xs. Do s ∷ passed xs later) (sym behind);
        walk = record {
          within = omega arith;
          depth = subst (λ xs. depth_after (length turns) xs ≡ Some 0) (sym behind) (subst (λ xs. depth_after (length turns) xs ≡ Some 0) is walk.depth);
          around = subst (λ xs. StandsIn lines xs turns) (sym behind)
              (StandsIn-outside lines (Do s ∷ rest) rest turns refl (subst (λ xs. StandsIn lines xs turns) is walk.around));
        };
      }

  pub repeat-passes : (n : ℕ) → drop place lines ≡ Repeat (suc n) ∷ rest →
      Passes lines place turns (Repeat (suc n)) (place + 1) (record { start = place + 1; left = n } ∷ turns)
  repeat-passes n is =
      let later : List (List Line) = map (passed_again lines) turns in
      let less : suc n - 1 ≡ n = omega arith in
      let deeper : depth_after (suc (length turns)) rest ≡ Some 0 =
      depth_in_repeat (length turns) n 0 rest (subst (λ xs. depth_after (length turns) xs ≡ Some 0) is walk.depth) in
      let there : depth_after (suc (length turns)) (drop (place + 1) lines) ≡ Some 0 =
      subst (λ xs. depth_after (suc (length turns)) xs ≡ Some 0) (sym behind) deeper in
      let around : StandsIn lines (outside 0 (drop (place + 1) lines)) turns =
      subst (λ xs. StandsIn lines (outside 0 xs) turns) (sym behind)
      (StandsIn-within lines rest (suc n) turns (subst (λ xs. StandsIn lines xs turns) is walk.around)) in
      record {
        passed = ap (λ xs. passed xs later) is
            ∙ ap (λ k. Repeat (suc n) ∷ passed rest (lines_times k (passed rest []) ∷ later)) less
            ∙ ap (λ xs. Repeat (suc n) ∷ passed xs (lines_times n (passed xs []) ∷ later)) (sym behind);
        walk = record {
          within = omega arith;
          depth = there;
          around = (omega arith, there, refl, around);
        };
      }

out-passes : (lines rest : List Line) (place start : ℕ) (turns : List Turn) → drop (place + 1) lines ≡ rest → place < length lines →
    IsWalk lines place (record { start = start; left = zero } ∷ turns) → drop place lines ≡ End ∷ rest →
    Passes lines place (record { start = start; left = zero } ∷ turns) End (place + 1) turns
out-passes lines rest place start turns behind below walk is =
    let all : List Turn = record { start = start; left = zero } ∷ turns in
    let later : List (List Line) = map (passed_again lines) turns in
    record {
      passed = ap (λ xs. passed xs ([] ∷ later)) is ∙ ap (λ xs. End ∷ passed xs later) (sym behind);
      walk = record {
        within = omega arith;
        depth = subst (λ xs. depth_after (length turns) xs ≡ Some 0) (sym behind) (subst (λ xs. depth_after (suc (length turns)) xs ≡ Some 0) is walk.depth);
        around = subst (λ xs. StandsIn lines xs turns) (sym behind) (subst (λ xs. StandsIn lines xs all) is walk.around).3;
      };
    }

again-passes : (lines rest : List Line) (place start left : ℕ) (turns : List Turn) →
    IsWalk lines place (record { start = start; left = suc left } ∷ turns) → drop place lines ≡ End ∷ rest →
    Passes lines place (record { start = start; left = suc left } ∷ turns) End start (record { start = start; left = left } ∷ turns)
again-passes lines rest place start left turns walk is =
    let all : List Turn = record { start = start; left = suc left } ∷ turns in
    let later : List (List Line) = map (passed_again lines) turns in
    let body : List Line = drop start lines in
    let once : List Line = passed body [] in
    let more : List Line = lines_times left once in
    let around : StandsIn lines (End ∷ rest) all = subst (λ xs. StandsIn lines xs all) is walk.around in
    record {
      passed = ap (λ xs. passed xs ((once ++ more) ∷ later)) is
          ∙ ap (λ xs. End ∷ xs) (append_assoc once more (passed rest later)
          ∙ ap (λ xs. once ++ (more ++ passed xs later)) (sym around.2)
          ∙ sym (passed-outside body [] more later (suc (length turns)) (omega arith) around.1));
      walk = record {
        within = around.0;
        depth = around.1;
        around = (around.0, around.1, refl, subst (λ xs. StandsIn lines xs turns) (sym around.2) around.3);
      };
    }

-- an end stands in a repeat
pub end_stands_in : (lines rest : List Line) (place : ℕ) (turns : List Turn) → IsWalk lines place turns → drop place lines ≡ End ∷ rest → 0 < length turns
end_stands_in lines rest place [] walk is = let none : depth_after 0 (End ∷ rest) ≡ Some 0 = subst (λ xs. depth_after 0 xs ≡ Some 0) is walk.depth in cc
end_stands_in lines rest place (turn ∷ turns) walk is = omega arith

pub end-passes : (lines rest : List Line) (place : ℕ) (turns : List Turn) → drop (place + 1) lines ≡ rest → place < length lines →
    IsWalk lines place turns → drop place lines ≡ End ∷ rest →
    Passes lines place turns End (behind_end turns (place + 1)).place (behind_end turns (place + 1)).turns
end-passes lines rest place [] behind below walk is = absurd (let none : 0 < 0 = end_stands_in lines rest place [] walk is in omega arith)
end-passes lines rest place (turn ∷ turns) behind below walk is =
    elim turn.left
    as (λ left. IsWalk lines place (record { start = turn.start; left = left } ∷ turns) →
    Passes lines place (record { start = turn.start; left = left } ∷ turns) End
    (again_or_out left turn.start turns (place + 1)).place (again_or_out left turn.start turns (place + 1)).turns) [
      | zero ↦ λ w. out-passes lines rest place turn.start turns behind below w is
      | suc left ↦ λ w. again-passes lines rest place turn.start left turns w is
    ] walk
