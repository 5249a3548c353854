-- What holds of a draft's lines stays true with each call.
use Rattle.std.proofs.Common.{◌≡◌, ◌+◌, ◌-◌, ◌<◌, ◌≤◌, ℕ, zero, suc, true, false, cond, Some, List, [], ◌∷◌, ◌++◌, length, take, refl, sym, ◌∙◌, ap, subst, arith}
use Rattle.std.proofs.lemmas.List.Elements.{All-pop, All-push}
use Rattle.pooma_model.specs.declared.lines.Line.{Line}
use Rattle.pooma_model.specs.declared.lines.Line.TheVariants.{Do, Repeat, End}
use Rattle.pooma_model.specs.declared.statement.Statement.{Statement}
use Rattle.pooma_model.specs.Declarations.{Declared, IsDeclaring}
use Rattle.pooma_model.specs.Fit.{IsFit}
use Rattle.pooma_model.specs.Lines.{depth_after, draft_of, drafted, ends_in_repeat, IsDraft, IsFitLine, IsProgram, with_repeat_ended}
use Rattle.pooma_model.specs.Order.{Drafted, empty_draft}
use Rattle.pooma_model.proofs.Drafting.{open_repeats-fold}
use Rattle.pooma_model.proofs.Ending.{begun_last}
use Rattle.pooma_model.proofs.Growing.{Grows, lines-grown}
use Rattle.pooma_model.proofs.Nesting.{depth-append, depth_before_repeat, depth_is_few, repeat_is_nested}

-- so many repeats are open as stand around what follows the lines
open_repeats-drafted : (lines : List Line) (n : ℕ) → depth_after 0 lines ≡ Some n → length (drafted lines).open_repeats ≡ n
open_repeats-drafted lines n h = open_repeats-fold lines empty_draft 0 n refl h

pub draft_declares : (old new : Declared) (lines : List Line) (unended room : ℕ) → IsDeclaring new → Grows old new →
    IsDraft old lines unended room → IsDraft new lines unended room
draft_declares old new lines unended room valid grows h = record {
  declaring = valid;
  nested = h.nested;
  fit = lines-grown old new grows lines h.fit;
  ends = h.ends;
}

pub draft_pushes : (declared : Declared) (lines : List Line) (unended old new : ℕ) (s : Statement) → IsFit declared s.action →
    unended ≤ new → IsDraft declared lines unended old → IsDraft declared (lines ++ Do s ∷ []) unended new
draft_pushes declared lines unended old new s fit room h = record {
  declaring = h.declaring;
  nested = depth-append lines (Do s ∷ []) 0 unended h.nested;
  fit = All-push (IsFitLine declared) lines (Do s) h.fit fit;
  ends = room;
}

pub draft_repeats : (declared : Declared) (lines : List Line) (unended old new turns : ℕ) → 0 < turns → unended < 4 →
    unended + 1 ≤ new → IsDraft declared lines unended old → IsDraft declared (lines ++ Repeat turns ∷ []) (unended + 1) new
draft_repeats declared lines unended old new turns some few room h = record {
  declaring = h.declaring;
  nested = depth-append lines (Repeat turns ∷ []) 0 unended h.nested ∙ repeat_is_nested unended turns some few;
  fit = All-push (IsFitLine declared) lines (Repeat turns) h.fit tt;
  ends = room;
}

draft_ends : (declared : Declared) (lines : List Line) (unended old new : ℕ) → 0 < unended → unended - 1 ≤ new →
    IsDraft declared lines unended old → IsDraft declared (lines ++ End ∷ []) (unended - 1) new
draft_ends declared lines zero old new some room h = absurd (omega arith)
draft_ends declared lines (suc unended) old new some room h =
    let less : suc unended - 1 ≡ unended = omega arith in
    record {
      declaring = h.declaring;
      nested = depth-append lines (End ∷ []) 0 (suc unended) h.nested ∙ ap Some (sym less);
      fit = All-push (IsFitLine declared) lines End h.fit tt;
      ends = room;
    }

-- without a repeat that was begun last
draft_takes_back : (declared : Declared) (front : List Line) (turns unended old new : ℕ) → 0 < unended → unended - 1 ≤ new →
    IsDraft declared (front ++ Repeat turns ∷ []) unended old → IsDraft declared front (unended - 1) new
draft_takes_back declared front turns zero old new some room h = absurd (omega arith)
draft_takes_back declared front turns (suc unended) old new some room h =
    let less : suc unended - 1 ≡ unended = omega arith in
    record {
      declaring = h.declaring;
      nested = depth_before_repeat front turns 0 unended h.nested ∙ ap Some (sym less);
      fit = (All-pop (IsFitLine declared) (front ++ Repeat turns ∷ []) front (Some (Repeat turns)) refl h.fit).0;
      ends = room;
    }

-- with the innermost repeat ended
pub draft_ended : (declared : Declared) (lines : List Line) (unended old new : ℕ) → 0 < unended → unended - 1 ≤ new →
    IsDraft declared lines unended old → IsDraft declared (with_repeat_ended lines) (unended - 1) new
draft_ended declared lines unended old new some room h =
    let front : List Line = take (length lines - 1) lines in
    elim (ends_in_repeat lines)
    as (λ b. ends_in_repeat lines ≡ b → IsDraft declared (cond b front (lines ++ End ∷ [])) (unended - 1) new) [
      | true ↦ λ is. let last = begun_last lines is in
          draft_takes_back declared front last.0 unended old new some room (subst (λ xs. IsDraft declared xs unended old) last.1 h)
      | false ↦ λ is. draft_ends declared lines unended old new some room h
    ] refl

-- as many repeats are open as are counted
pub unended_is : (declared : Declared) (lines : List Line) (unended room : ℕ) → IsDraft declared lines unended room → length (draft_of declared lines).open_repeats ≡ unended
unended_is declared lines unended room h = open_repeats-drafted lines unended h.nested

pub is_unended : (declared : Declared) (lines : List Line) (unended room : ℕ) (draft : Drafted) → IsDraft declared lines unended room →
    draft_of declared lines ≡ draft → 0 < length draft.open_repeats → 0 < unended
is_unended declared lines unended room draft h is some =
    let count : length draft.open_repeats ≡ unended = sym (ap (λ d. length d.open_repeats) is) ∙ unended_is declared lines unended room h in
    omega arith

pub unended_is_few : (declared : Declared) (lines : List Line) (unended room : ℕ) → IsDraft declared lines unended room → unended ≤ 4
unended_is_few declared lines unended room h = depth_is_few lines 0 unended (omega arith) h.nested

pub program_of_draft : (declared : Declared) (lines : List Line) (unended room : ℕ) → (drafted lines).open_repeats ≡ [] →
    length (drafted lines).statements ≤ 1048576 → IsDraft declared lines unended room → IsProgram declared lines
program_of_draft declared lines unended room ended few h =
    let none : unended ≡ 0 = sym (open_repeats-drafted lines unended h.nested) ∙ ap length ended in
    record { declaring = h.declaring; nested = h.nested ∙ ap Some none; fit = h.fit; few = few }
