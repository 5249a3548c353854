-- Lines that are put behind others, and a repeat around nothing that is taken away.
use Rattle.std.proofs.Common.{◌≡◌, ◌-◌, ℕ, zero, suc, true, false, cond, Option, Some, None, List, [], ◌∷◌, ◌++◌, length, take, refl, sym, ◌∙◌, ap, arith}
use Rattle.std.specs.Prelude.{slice_get}
use Rattle.std.proofs.lemmas.List.{append-nil}
use Rattle.std.proofs.lemmas.List.Sums.{fold-append}
use Rattle.pooma_model.specs.declared.lines.Line.{Line}
use Rattle.pooma_model.specs.declared.lines.Line.TheVariants.{Do, Repeat, End}
use Rattle.pooma_model.specs.declared.statement.Statement.{Statement}
use Rattle.pooma_model.specs.Declarations.{Declared}
use Rattle.pooma_model.specs.Lines.{draft_of, drafted, ends_in_repeat, is_repeat, with_line, with_repeat_ended}
use Rattle.pooma_model.specs.Order.{Drafted, Frame, empty_draft, end_frames, into_frames, times, with_end, with_repeat}

times-nil : (n : ℕ) → times n [] ≡ []
times-nil zero = refl
times-nil (suc n) = times-nil n

nothing_more : (statements : List Statement) (frames : List Frame) (declared : Declared) →
    into_frames [] statements frames declared ≡ record { declared = declared; statements = statements; open_repeats = frames }
nothing_more statements [] declared = ap (λ xs. record { declared = declared; statements = xs; open_repeats = [] }) (append-nil statements)
nothing_more statements (frame ∷ frames) declared =
    ap (λ xs. record { declared = declared; statements = statements; open_repeats = record { turns = frame.turns; statements = xs } ∷ frames }) (append-nil frame.statements)

-- a repeat around nothing does nothing
pub with_end-with_repeat : (turns : ℕ) (draft : Drafted) → with_end (with_repeat turns draft) ≡ draft
with_end-with_repeat turns draft =
    ap (λ xs. into_frames xs draft.statements draft.open_repeats draft.declared) (times-nil turns)
    ∙ nothing_more draft.statements draft.open_repeats draft.declared

into_frames-declared : (more statements : List Statement) (frames : List Frame) (old new : Declared) →
    record (into_frames more statements frames old) { declared = new } ≡ into_frames more statements frames new
into_frames-declared more statements [] old new = refl
into_frames-declared more statements (frame ∷ frames) old new = refl

end_frames-declared : (draft : Drafted) (frames : List Frame) (new : Declared) →
    record (end_frames draft frames) { declared = new } ≡ end_frames (record draft { declared = new }) frames
end_frames-declared draft [] new = refl
end_frames-declared draft (frame ∷ frames) new =
    into_frames-declared (times frame.turns frame.statements) draft.statements frames draft.declared new

abbrev declared_as : Declared → Drafted → Drafted
declared_as declared draft = record draft { declared = declared }

with_line-declared : (draft : Drafted) (line : Line) (new : Declared) →
    record (with_line draft line) { declared = new } ≡ with_line (record draft { declared = new }) line
with_line-declared draft (Do s) new = into_frames-declared (s ∷ []) draft.statements draft.open_repeats draft.declared new
with_line-declared draft (Repeat turns) new = refl
with_line-declared draft End new = end_frames-declared draft draft.open_repeats new

-- a line more makes a line more of the draft
pub draft_of-push : (declared : Declared) (lines : List Line) (line : Line) → draft_of declared (lines ++ line ∷ []) ≡ with_line (draft_of declared lines) line
draft_of-push declared lines line =
    ap (λ draft. declared_as declared draft) (fold-append with_line empty_draft lines (line ∷ []))
    ∙ with_line-declared (drafted lines) line declared

-- a repeat that was begun last is ended by taking it away
draft_of-begun : (declared : Declared) (front : List Line) (turns : ℕ) → draft_of declared front ≡ with_end (draft_of declared (front ++ Repeat turns ∷ []))
draft_of-begun declared front turns =
    sym (ap with_end (draft_of-push declared front (Repeat turns)) ∙ with_end-with_repeat turns (draft_of declared front))

repeat_from : (last : Option Line) → is_repeat last ≡ true → (turns : ℕ) × (last ≡ Some (Repeat turns))
repeat_from None h = cc
repeat_from (Some (Do s)) h = cc
repeat_from (Some (Repeat turns)) h = (turns, refl)
repeat_from (Some End) h = cc

split_at_last : (n : ℕ) (lines : List Line) (line : Line) → length lines ≡ suc n → slice_get lines n ≡ Some line → lines ≡ take n lines ++ line ∷ []
split_at_last n [] line is h = absurd (omega arith)
split_at_last zero (x ∷ []) line is h = let same : x ≡ line = cc in ap (λ y. y ∷ []) same
split_at_last zero (x ∷ y ∷ lines) line is h = absurd (omega arith)
split_at_last (suc n) (x ∷ lines) line is h = ap (λ xs. x ∷ xs) (split_at_last n lines line (omega arith) h)

split_last : (lines : List Line) (line : Line) → slice_get lines (length lines - 1) ≡ Some line → lines ≡ take (length lines - 1) lines ++ line ∷ []
split_last [] line h = cc
split_last (x ∷ lines) line h = split_at_last (length (x ∷ lines) - 1) (x ∷ lines) line (omega arith) h

-- the head of a repeat stands behind the other lines
pub begun_last : (lines : List Line) → ends_in_repeat lines ≡ true → (turns : ℕ) × (lines ≡ take (length lines - 1) lines ++ Repeat turns ∷ [])
begun_last lines h =
    let last = repeat_from (slice_get lines (length lines - 1)) h in
    (last.0, split_last lines (Repeat last.0) last.1)

-- the lines with the innermost repeat ended make the draft with it ended
pub draft_of-ended : (declared : Declared) (lines : List Line) → draft_of declared (with_repeat_ended lines) ≡ with_end (draft_of declared lines)
draft_of-ended declared lines =
    let front : List Line = take (length lines - 1) lines in
    elim (ends_in_repeat lines)
    as (λ b. ends_in_repeat lines ≡ b → draft_of declared (cond b front (lines ++ End ∷ [])) ≡ with_end (draft_of declared lines)) [
      | true ↦ λ h. let last = begun_last lines h in
          draft_of-begun declared front last.0 ∙ ap (λ xs. with_end (draft_of declared xs)) (sym last.1)
      | false ↦ λ h. draft_of-push declared lines End
    ] refl
