-- What is passed from a place among nested lines.
use Rattle.std.proofs.Common.{◌≡◌, ◌-◌, ◌<◌, ℕ, zero, suc, Some, List, [], ◌∷◌, ◌++◌, length, refl, sym, ◌∙◌, ap, arith}
use Rattle.std.proofs.lemmas.List.{append_assoc}
use Rattle.std.proofs.lemmas.List.Elements.{filter_map-append}
use Rattle.pooma_model.specs.declared.lines.Line.{Line}
use Rattle.pooma_model.specs.declared.lines.Line.TheVariants.{Do, Repeat, End}
use Rattle.pooma_model.specs.Lines.{depth_after}
use Rattle.pooma_model.specs.Order.{times}
use Rattle.pooma_model.specs.Walking.{lines_times, outside, passed, statement_of, statements_in}
use Rattle.pooma_model.proofs.Nesting.{depth_in_repeat}

none_below : (n k : ℕ) → n < k → Some k ≡ Some 0 → ⊥
none_below n k below h = let none : k ≡ 0 = cc in omega arith

-- What is passed inside of a repeat is passed first, then what its further turns pass, and then what is behind its end.
pub passed-outside : (lines : List Line) (inner : List (List Line)) (turns : List Line) (later : List (List Line)) (depth : ℕ) →
    length inner < depth → depth_after depth lines ≡ Some 0 →
    passed lines (inner ++ turns ∷ later) ≡ passed lines inner ++ (turns ++ passed (outside (length inner) lines) later)
passed-outside [] inner turns later depth below h = absurd (none_below (length inner) depth below h)
passed-outside (Do s ∷ lines) inner turns later depth below h =
    ap (λ xs. Do s ∷ xs) (passed-outside lines inner turns later depth below h)
passed-outside (Repeat zero ∷ lines) inner turns later depth below h = cc
passed-outside (Repeat (suc n) ∷ lines) inner turns later depth below h =
    ap (λ xs. Repeat (suc n) ∷ xs)
    (passed-outside lines (lines_times (suc n - 1) (passed lines []) ∷ inner) turns later (suc depth) (omega arith)
    (depth_in_repeat depth n 0 lines h))
passed-outside (End ∷ lines) [] turns later depth below h = refl
passed-outside (End ∷ lines) (first ∷ inner) turns later zero below h = cc
passed-outside (End ∷ lines) (first ∷ inner) turns later (suc depth) below h =
    ap (λ xs. End ∷ (first ++ xs)) (passed-outside lines inner turns later depth (omega arith) h)
    ∙ ap (λ xs. End ∷ xs) (sym (append_assoc first (passed lines inner) (turns ++ passed (outside (length inner) lines) later)))

pub statements_in-append : (xs ys : List Line) → statements_in (xs ++ ys) ≡ statements_in xs ++ statements_in ys
statements_in-append xs ys = filter_map-append statement_of xs ys

pub statements_in-times : (n : ℕ) (lines : List Line) → statements_in (lines_times n lines) ≡ times n (statements_in lines)
statements_in-times zero lines = refl
statements_in-times (suc n) lines =
    statements_in-append lines (lines_times n lines) ∙ ap (λ xs. statements_in lines ++ xs) (statements_in-times n lines)

-- the statements of a repeat are executed as often as it says, and then those behind its end
pub statements-repeat : (n : ℕ) (lines : List Line) (depth : ℕ) → depth_after (suc depth) lines ≡ Some 0 →
    statements_in (passed (Repeat (suc n) ∷ lines) [])
    ≡ times (suc n) (statements_in (passed lines [])) ++ statements_in (passed (outside 0 lines) [])
statements-repeat n lines depth h =
    let once : List Line = passed lines [] in
    let behind : List Line = passed (outside 0 lines) [] in
    let turns : suc n - 1 ≡ n = omega arith in
    ap (λ k. statements_in (passed lines (lines_times k once ∷ []))) turns
    ∙ ap statements_in (passed-outside lines [] (lines_times n once) [] (suc depth) (omega arith) h)
    ∙ statements_in-append once (lines_times n once ++ behind)
    ∙ ap (λ xs. statements_in once ++ xs)
    (statements_in-append (lines_times n once) behind ∙ ap (λ xs. xs ++ statements_in behind) (statements_in-times n once))
    ∙ sym (append_assoc (statements_in once) (times n (statements_in once)) (statements_in behind))
