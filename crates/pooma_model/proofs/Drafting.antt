-- The draft that lines make, and what a walk over them passes.
use Rattle.std.proofs.Common.{◌≡◌, ◌≤◌, ℕ, zero, suc, Some, List, [], ◌∷◌, ◌++◌, length, sym, ◌∙◌, ap, arith}
use Rattle.std.specs.List.{fold}
use Rattle.std.proofs.lemmas.List.{append-nil, append_assoc}
use Rattle.pooma_model.specs.declared.lines.Line.{Line}
use Rattle.pooma_model.specs.declared.lines.Line.TheVariants.{Do, Repeat, End}
use Rattle.pooma_model.specs.declared.statement.Statement.{Statement}
use Rattle.pooma_model.specs.Declarations.{Declared, no_declarations}
use Rattle.pooma_model.specs.Lines.{depth_after, drafted, with_line}
use Rattle.pooma_model.specs.Order.{Drafted, Frame, end_frames, into_frames, times, with_end}
use Rattle.pooma_model.specs.Walking.{outside, passed, statements_in}
use Rattle.pooma_model.proofs.Nesting.{depth-outside, depth_in_repeat, length-outside, outside-suc}
use Rattle.pooma_model.proofs.Passing.{statements-repeat}

abbrev draft_with : Declared → List Statement → List Frame → Drafted
draft_with declared statements frames = record { declared = declared; statements = statements; open_repeats = frames }

-- the statements that are executed up to the end of the repeat around these lines
abbrev executed : List Line → List Statement
executed lines = statements_in (passed lines [])

-- Lines in a repeat put the statements that they execute into it, up to its end, and end it.
in_repeat : (most : ℕ) (lines : List Line) (declared : Declared) (outer : List Statement) (turns : ℕ) (inner : List Statement) (frames : List Frame) (depth : ℕ) →
    length lines ≤ most → depth_after (suc depth) lines ≡ Some 0 →
    fold with_line (draft_with declared outer (record { turns = turns; statements = inner } ∷ frames)) lines
    ≡ fold with_line (with_end (draft_with declared outer (record { turns = turns; statements = inner ++ executed lines } ∷ frames))) (outside 0 lines)
in_repeat most [] declared outer turns inner frames depth few h = cc
in_repeat zero (line ∷ lines) declared outer turns inner frames depth few h = absurd (omega arith)
in_repeat (suc most) (Do s ∷ lines) declared outer turns inner frames depth few h =
    in_repeat most lines declared outer turns (inner ++ s ∷ []) frames depth (omega arith) h
    ∙ ap (λ xs. fold with_line (with_end (draft_with declared outer (record { turns = turns; statements = xs } ∷ frames))) (outside 0 lines))
    (append_assoc inner (s ∷ []) (executed lines))
in_repeat (suc most) (Repeat zero ∷ lines) declared outer turns inner frames depth few h = cc
in_repeat (suc most) (Repeat (suc n) ∷ lines) declared outer turns inner frames depth few h =
    let deeper : depth_after (suc (suc depth)) lines ≡ Some 0 = depth_in_repeat (suc depth) n 0 lines h in
    let behind : List Line = outside 0 lines in
    let whole : List Statement = times (suc n) (executed lines) in
    let depth_is : depth_after (suc depth) behind ≡ Some 0 = depth-outside lines 0 (suc depth) (suc (suc depth)) (omega arith) deeper in
    let shorter : length behind ≤ most = omega (arith, length-outside lines 0) in
    let order : executed (Repeat (suc n) ∷ lines) ≡ whole ++ executed behind = statements-repeat n lines (suc depth) deeper in
    in_repeat most lines declared outer (suc n) [] (record { turns = turns; statements = inner } ∷ frames) (suc depth) (omega arith) deeper
    ∙ in_repeat most behind declared outer turns (inner ++ whole) frames depth shorter depth_is
    ∙ ap (λ xs. fold with_line (with_end (draft_with declared outer (record { turns = turns; statements = xs } ∷ frames))) (outside 0 behind))
    (append_assoc inner whole (executed behind) ∙ ap (λ xs. inner ++ xs) (sym order))
    ∙ ap (λ xs. fold with_line (with_end (draft_with declared outer (record { turns = turns; statements = inner ++ executed (Repeat (suc n) ∷ lines) } ∷ frames))) xs)
    (sym (outside-suc lines 0))
in_repeat (suc most) (End ∷ lines) declared outer turns inner frames depth few h =
    ap (λ xs. fold with_line (with_end (draft_with declared outer (record { turns = turns; statements = xs } ∷ frames))) lines)
    (sym (append-nil inner))

-- Lines that stand in no repeat put the statements that they execute at the end.
outside_repeats : (most : ℕ) (lines : List Line) (declared : Declared) (outer : List Statement) →
    length lines ≤ most → depth_after 0 lines ≡ Some 0 →
    fold with_line (draft_with declared outer []) lines ≡ draft_with declared (outer ++ executed lines) []
outside_repeats most [] declared outer few h = ap (λ xs. draft_with declared xs []) (sym (append-nil outer))
outside_repeats zero (line ∷ lines) declared outer few h = absurd (omega arith)
outside_repeats (suc most) (Do s ∷ lines) declared outer few h =
    outside_repeats most lines declared (outer ++ s ∷ []) (omega arith) h
    ∙ ap (λ xs. draft_with declared xs []) (append_assoc outer (s ∷ []) (executed lines))
outside_repeats (suc most) (Repeat zero ∷ lines) declared outer few h = cc
outside_repeats (suc most) (Repeat (suc n) ∷ lines) declared outer few h =
    let deeper : depth_after 1 lines ≡ Some 0 = depth_in_repeat 0 n 0 lines h in
    let behind : List Line = outside 0 lines in
    let whole : List Statement = times (suc n) (executed lines) in
    let depth_is : depth_after 0 behind ≡ Some 0 = depth-outside lines 0 0 1 (omega arith) deeper in
    let shorter : length behind ≤ most = omega (arith, length-outside lines 0) in
    let order : executed (Repeat (suc n) ∷ lines) ≡ whole ++ executed behind = statements-repeat n lines 0 deeper in
    in_repeat most lines declared outer (suc n) [] [] 0 (omega arith) deeper
    ∙ outside_repeats most behind declared (outer ++ whole) shorter depth_is
    ∙ ap (λ xs. draft_with declared xs []) (append_assoc outer whole (executed behind) ∙ ap (λ xs. outer ++ xs) (sym order))
outside_repeats (suc most) (End ∷ lines) declared outer few h = cc

-- the statements of a draft without open repeats are those that its lines execute
pub statements-drafted : (lines : List Line) → depth_after 0 lines ≡ Some 0 → (drafted lines).statements ≡ executed lines
statements-drafted lines h =
    ap (λ draft. draft.statements) (outside_repeats (length lines) lines no_declarations [] (omega arith) h)

-- as many repeats are open in a draft as stand around what follows its lines
pub open_repeats-fold : (lines : List Line) (draft : Drafted) (n m : ℕ) → length draft.open_repeats ≡ n → depth_after n lines ≡ Some m → length (fold with_line draft lines).open_repeats ≡ m
open_repeats-fold [] draft n m is h = let same : n ≡ m = cc in is ∙ same
open_repeats-fold (Do s ∷ lines) draft n m is h = open_repeats-fold lines (with_line draft (Do s)) n m (kept draft.open_repeats is) h
  where
    kept : (frames : List Frame) → length frames ≡ n → length (into_frames (s ∷ []) draft.statements frames draft.declared).open_repeats ≡ n
    kept [] e = e
    kept (frame ∷ frames) e = e
open_repeats-fold (Repeat zero ∷ lines) draft n m is h = cc
open_repeats-fold (Repeat (suc turns) ∷ lines) draft n m is h =
    open_repeats-fold lines (with_line draft (Repeat (suc turns))) (suc n) m (ap suc is) (depth_in_repeat n turns m lines h)
open_repeats-fold (End ∷ lines) draft zero m is h = cc
open_repeats-fold (End ∷ lines) draft (suc n) m is h = open_repeats-fold lines (with_line draft End) n m (fewer draft.open_repeats is) h
  where
    put : (more : List Statement) (frames : List Frame) → length frames ≡ n → length (into_frames more draft.statements frames draft.declared).open_repeats ≡ n
    put more [] e = e
    put more (frame ∷ frames) e = e

    fewer : (frames : List Frame) → length frames ≡ suc n → length (end_frames draft frames).open_repeats ≡ n
    fewer [] e = absurd (omega arith)
    fewer (frame ∷ frames) e = put (times frame.turns frame.statements) frames (omega arith)
