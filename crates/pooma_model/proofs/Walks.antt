-- A walk passes one line after another, and no line changes what it has left but a statement.
use Rattle.std.proofs.Common.{◌≡◌, ◌+◌, ◌-◌, ◌<◌, ◌≤◌, ℕ, zero, suc, Option, Some, None, List, [], ◌∷◌, length, drop, get_or, map, refl, sym, ◌∙◌, ap, subst, add-one, arith}
use Rattle.std.proofs.Math.Seq.{drop-cons}
use Rattle.std.proofs.Math.ListN.{drop_of_length-le}
use Rattle.pooma_model.specs.declared.lines.Line.{Line}
use Rattle.pooma_model.specs.declared.lines.Line.TheVariants.{Do, Repeat, End}
use Rattle.pooma_model.specs.declared.statement.Statement.{Statement}
use Rattle.pooma_model.specs.declared.turns.Turn.{Turn}
use Rattle.pooma_model.specs.Lines.{depth_after, drafted}
use Rattle.pooma_model.specs.Turns.{behind_end}
use Rattle.pooma_model.specs.Walking.{IsNested, IsWalk, passed, passed_again, passed_from, statements_from, statements_in}
use Rattle.pooma_model.proofs.Drafting.{statements-drafted}
use Rattle.pooma_model.proofs.Nesting.{repeat_has_room}
use Rattle.pooma_model.proofs.Stepping.{Passes, end-passes, end_stands_in, repeat-passes, statement-passes}

-- a walk has these statements left
pub record Walks (lines : List Line) (place : ℕ) (turns : List Turn) (left : List Statement) : Type 0 where
  pub walk : IsWalk lines place turns
  pub rest : statements_from lines place turns ≡ left

-- how many lines a walk has still to pass
abbrev pub lines_left : List Line → ℕ → List Turn → ℕ
lines_left lines place turns = length (passed_from lines place turns)

pub walk_begins : (lines : List Line) → IsNested lines → IsWalk lines 0 []
walk_begins lines h = record { within = omega arith; depth = h; around = tt }

pub walk_over : (lines : List Line) → IsNested lines → statements_from lines 0 [] ≡ (drafted lines).statements
walk_over lines h = sym (statements-drafted lines h)

-- at the end nothing is left
pub nothing_left : (lines : List Line) (place : ℕ) (turns : List Turn) (left : List Statement) → length lines ≤ place → Walks lines place turns left → left ≡ []
nothing_left lines place turns left past h =
    sym h.rest ∙ ap (λ xs. statements_in (passed xs (map (passed_again lines) turns))) (drop_of_length-le lines past)

line_at : (lines : List Line) (place : ℕ) (line or : Line) → place < length lines → get_or lines place or ≡ line → drop place lines ≡ line ∷ drop (place + 1) lines
line_at lines place line or below is =
    drop-cons lines place or below
    ∙ ap (λ x. x ∷ drop (suc place) lines) is
    ∙ ap (λ k. line ∷ drop k lines) (sym (add-one place))

none_is_not : ◌≡◌ {A = Option ℕ} None (Some 0) → ⊥
none_is_not h = cc

module _ (lines : List Line) (place : ℕ) (turns : List Turn) (left : List Statement) (below : place < length lines) (h : Walks lines place turns left) (or : Line) where
  statement_is_next : (s : Statement) → get_or lines place or ≡ Do s → Passes lines place turns (Do s) (place + 1) turns
  statement_is_next s is =
      statement-passes lines (drop (place + 1) lines) place turns refl below h.walk s (line_at lines place (Do s) or below is)

  pub statement_leaves : (s : Statement) → get_or lines place or ≡ Do s → left ≡ s ∷ statements_from lines (place + 1) turns
  statement_leaves s is = sym h.rest ∙ ap statements_in (statement_is_next s is).passed

  pub statement_walks : (s : Statement) → get_or lines place or ≡ Do s → IsWalk lines (place + 1) turns
  statement_walks s is = (statement_is_next s is).walk

  repeat_is : (n : ℕ) → get_or lines place or ≡ Repeat n → depth_after (length turns) (Repeat n ∷ drop (place + 1) lines) ≡ Some 0
  repeat_is n is = subst (λ xs. depth_after (length turns) xs ≡ Some 0) (line_at lines place (Repeat n) or below is) h.walk.depth

  pub repeat_has_turns : (n : ℕ) → get_or lines place or ≡ Repeat n → 0 < n
  repeat_has_turns zero is = absurd (none_is_not (repeat_is zero is))
  repeat_has_turns (suc n) is = omega arith

  pub repeat_may_begin : (n : ℕ) → get_or lines place or ≡ Repeat n → length turns < 4
  repeat_may_begin zero is = absurd (none_is_not (repeat_is zero is))
  repeat_may_begin (suc n) is = repeat_has_room (length turns) n 0 (drop (place + 1) lines) (repeat_is (suc n) is)

  repeat_is_next : (n : ℕ) → get_or lines place or ≡ Repeat n →
      Passes lines place turns (Repeat n) (place + 1) (record { start = place + 1; left = n - 1 } ∷ turns)
  repeat_is_next zero is = absurd (none_is_not (repeat_is zero is))
  repeat_is_next (suc n) is =
      let less : n ≡ suc n - 1 = omega arith in
      subst (λ (k : ℕ). Passes lines place turns (Repeat (suc n)) (place + 1) (record { start = place + 1; left = k } ∷ turns)) less
      (repeat-passes lines (drop (place + 1) lines) place turns refl below h.walk n (line_at lines place (Repeat (suc n)) or below is))

  pub repeat_walks : (n : ℕ) → get_or lines place or ≡ Repeat n → Walks lines (place + 1) (record { start = place + 1; left = n - 1 } ∷ turns) left
  repeat_walks n is =
      let next = repeat_is_next n is in
      record { walk = next.walk; rest = sym (ap statements_in next.passed) ∙ h.rest }

  pub repeat_is_passed : (n : ℕ) → get_or lines place or ≡ Repeat n →
      lines_left lines (place + 1) (record { start = place + 1; left = n - 1 } ∷ turns) < lines_left lines place turns
  repeat_is_passed n is = omega (arith, ap length (repeat_is_next n is).passed)

  pub end_has_repeat : get_or lines place or ≡ End → 0 < length turns
  end_has_repeat is = end_stands_in lines (drop (place + 1) lines) place turns h.walk (line_at lines place End or below is)

  end_is_next : get_or lines place or ≡ End → Passes lines place turns End (behind_end turns (place + 1)).place (behind_end turns (place + 1)).turns
  end_is_next is = end-passes lines (drop (place + 1) lines) place turns refl below h.walk (line_at lines place End or below is)

  pub end_walks : get_or lines place or ≡ End → Walks lines (behind_end turns (place + 1)).place (behind_end turns (place + 1)).turns left
  end_walks is =
      let next = end_is_next is in
      record { walk = next.walk; rest = sym (ap statements_in next.passed) ∙ h.rest }

  pub end_is_passed : get_or lines place or ≡ End →
      lines_left lines (behind_end turns (place + 1)).place (behind_end turns (place + 1)).turns < lines_left lines place turns
  end_is_passed is = omega (arith, ap length (end_is_next is).passed)
