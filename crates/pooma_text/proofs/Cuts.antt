-- Facts on the lines of a text, and the steps of the loop that cuts it.
use Rattle.std.proofs.Common.{◌≡◌, ◌≢◌, ℕ, ◌+◌, ◌-◌, ◌<◌, ◌≤◌, ◌⊎◌, inl, inr, eqb, List, [], ◌∷◌, ◌++◌, length, get_or, take, drop, map, refl, sym, ap, ◌∙◌, subst, suc, add-one, below_more, ⊎_elim, append_assoc, arith, length-take-le, length-drop, take-append-drop, get_or-take, get_or-drop}
use Rattle.std.specs.Prelude.{All}
use Rattle.std.proofs.lemmas.List.{append-nil, drop-drop, drop_more, drop_all, take_rest}
use Rattle.std.proofs.lemmas.List.Elements.{All-nil, All-cons, All-head, All-tail, All-from_get_or}
use Rattle.std.proofs.lemmas.Bool.{ne_eqb, eqb-true, eqb-false, cond-false, cond_both}
use Rattle.pooma_text.specs.declared.span.Span.{Span}
use Rattle.pooma_text.specs.Lines.{AreLines, LINE_END, ended, lines_of, spans_from, text_at, with_front_byte}

-- up to a line end the bytes are the first line
lines_of-line : (line rest : List ℕ) → All (λ b. b ≢ LINE_END) line → lines_of (line ++ LINE_END ∷ rest) ≡ line ∷ lines_of rest
lines_of-line [] rest h = refl
lines_of-line (b ∷ line) rest h =
    cond-false _ _ _ (ne_eqb b LINE_END (All-head (λ b. b ≢ LINE_END) b line h))
    ∙ ap (with_front_byte b) (lines_of-line line rest (All-tail (λ b. b ≢ LINE_END) b line h))

-- bytes with no line end are one line
lines_of-last : (line : List ℕ) → 0 < length line → All (λ b. b ≢ LINE_END) line → lines_of line ≡ line ∷ []
lines_of-last [] some h = absurd (omega arith)
lines_of-last (b ∷ []) some h = cond-false _ _ _ (ne_eqb b LINE_END (All-head (λ b. b ≢ LINE_END) b [] h))
lines_of-last (b ∷ c ∷ line) some h =
    cond-false _ _ _ (ne_eqb b LINE_END (All-head (λ b. b ≢ LINE_END) b (c ∷ line) h))
    ∙ ap (with_front_byte b) (lines_of-last (c ∷ line) (omega arith) (All-tail (λ b. b ≢ LINE_END) b (c ∷ line) h))

-- a byte in front moves each line's place by one
text_at-shift : (b : ℕ) (bytes : List ℕ) (at : ℕ) (lines : List (List ℕ)) → map (text_at (b ∷ bytes)) (spans_from (at + 1) lines) ≡ map (text_at bytes) (spans_from at lines)
text_at-shift b bytes at [] = refl
text_at-shift b bytes at (line ∷ lines) =
    let width : at + 1 + length line - (at + 1) ≡ at + length line - at = omega arith in
    let rest : drop (at + 1) (b ∷ bytes) ≡ drop at bytes = ap (λ k. drop k (b ∷ bytes)) (add-one at) in
    let next : at + 1 + length line + 1 ≡ at + length line + 1 + 1 = omega arith in
    let tail = ap (λ k. map (text_at (b ∷ bytes)) (spans_from k lines)) next ∙ text_at-shift b bytes (at + length line + 1) lines in
    λ i. take (width i) (rest i) ∷ tail i

-- the same where the byte joins the first line
text_at-front : (b : ℕ) (bytes : List ℕ) (lines : List (List ℕ)) → map (text_at bytes) (spans_from 0 lines) ≡ lines → map (text_at (b ∷ bytes)) (spans_from 0 (with_front_byte b lines)) ≡ with_front_byte b lines
text_at-front b bytes [] h = refl
text_at-front b bytes (line ∷ lines) h =
    let first : text_at bytes (record { start = 0; end = 0 + length line }) ≡ line = cc in
    let rest : map (text_at bytes) (spans_from (0 + length line + 1) lines) ≡ lines = cc in
    let width : 0 + suc (length line) - 0 ≡ suc (0 + length line - 0) = omega arith in
    let next : 0 + suc (length line) + 1 ≡ 0 + length line + 1 + 1 = omega arith in
    let head = ap (λ k. take k (b ∷ bytes)) width ∙ ap (λ l. b ∷ l) first in
    let tail = ap (λ k. map (text_at (b ∷ bytes)) (spans_from k lines)) next ∙ text_at-shift b bytes (0 + length line + 1) lines ∙ rest in
    λ i. head i ∷ tail i

-- each line stands at its place
pub text_at-spans_from : (bytes : List ℕ) → map (text_at bytes) (spans_from 0 (lines_of bytes)) ≡ lines_of bytes
text_at-spans_from [] = refl
text_at-spans_from (b ∷ bytes) =
    cond_both (eqb b LINE_END) ([] ∷ lines_of bytes) (with_front_byte b (lines_of bytes)) (λ lines. map (text_at (b ∷ bytes)) (spans_from 0 lines) ≡ lines)
    (λ e. ap (λ lines. [] ∷ lines) (text_at-shift b bytes 0 (lines_of bytes) ∙ text_at-spans_from bytes))
    (λ e. text_at-front b bytes (lines_of bytes) (text_at-spans_from bytes))

-- the parts of `AreLines`
abbrev Whole : List ℕ → List (List ℕ) → Type 0
Whole bytes lines = (bytes ≡ ended lines) ⊎ ((front : List (List ℕ)) × (last : List ℕ) × (lines ≡ front ++ last ∷ []) × (last ≢ []) × (bytes ≡ ended front ++ last))

abbrev HasNoEnd : List ℕ → Type 0
HasNoEnd line = All (λ b. b ≢ LINE_END) line

-- a line end in front ends an empty line
are_lines-end : (bytes : List ℕ) (lines : List (List ℕ)) → AreLines bytes lines → AreLines (LINE_END ∷ bytes) ([] ∷ lines)
are_lines-end bytes lines h = record {
  whole = ⊎_elim (λ e. inl (ap (λ l. LINE_END ∷ l) e)) (λ w. inr ([] ∷ w.0, w.1, ap (λ l. [] ∷ l) w.2, w.3, ap (λ l. LINE_END ∷ l) w.4)) h.whole;
  each = All-cons HasNoEnd [] lines (All-nil (λ b. b ≢ LINE_END)) h.each;
}

-- the last line is the first one, or stands behind it
whole-front : (b : ℕ) (bytes line : List ℕ) (lines front : List (List ℕ)) (last : List ℕ) → line ∷ lines ≡ front ++ last ∷ [] → last ≢ [] → bytes ≡ ended front ++ last → Whole (b ∷ bytes) ((b ∷ line) ∷ lines)
whole-front b bytes line lines [] last e some f = inr ([], b ∷ last, cc, (λ h. cc), ap (λ l. b ∷ l) f)
whole-front b bytes line lines (x ∷ front) last e some f = inr ((b ∷ x) ∷ front, last, cc, some, ap (λ l. b ∷ l) f)

not_nil-push : {X : Type 0} (xs : List X) (x : X) → [] ≡ xs ++ x ∷ [] → ⊥
not_nil-push [] x e = cc
not_nil-push (y ∷ xs) x e = cc

-- another byte in front joins the first line
are_lines-front : (b : ℕ) (bytes : List ℕ) (lines : List (List ℕ)) → b ≢ LINE_END → AreLines bytes lines → AreLines (b ∷ bytes) (with_front_byte b lines)
are_lines-front b bytes [] other h = record {
  whole = ⊎_elim (λ e. inr ([], b ∷ [], refl, (λ n. cc), ap (λ l. b ∷ l) e)) (λ w. absurd (not_nil-push w.0 w.1 w.2)) h.whole;
  each = All-cons HasNoEnd (b ∷ []) [] (All-cons (λ b. b ≢ LINE_END) b [] other (All-nil (λ b. b ≢ LINE_END))) (All-nil HasNoEnd);
}
are_lines-front b bytes (line ∷ lines) other h = record {
  whole = ⊎_elim (λ e. inl (ap (λ l. b ∷ l) e)) (λ w. whole-front b bytes line lines w.0 w.1 w.2 w.3 w.4) h.whole;
  each = All-cons HasNoEnd (b ∷ line) lines (All-cons (λ b. b ≢ LINE_END) b line other (All-head HasNoEnd line lines h.each)) (All-tail HasNoEnd line lines h.each);
}

-- the lines of a text make it up
pub are_lines-lines_of : (bytes : List ℕ) → AreLines bytes (lines_of bytes)
are_lines-lines_of [] = record { whole = inl refl; each = All-nil HasNoEnd }
are_lines-lines_of (b ∷ bytes) =
    cond_both (eqb b LINE_END) ([] ∷ lines_of bytes) (with_front_byte b (lines_of bytes)) (AreLines (b ∷ bytes))
    (λ e. subst (λ c. AreLines (c ∷ bytes) ([] ∷ lines_of bytes)) (sym (eqb-true b LINE_END e)) (are_lines-end bytes (lines_of bytes) (are_lines-lines_of bytes)))
    (λ e. are_lines-front b bytes (lines_of bytes) (eqb-false b LINE_END e) (are_lines-lines_of bytes))

-- so far the cut has these spans, and from a start up to a place no line end
pub record IsCutSoFar (bytes : List ℕ) (spans : List Span) (start at : ℕ) : Type 0 where
  pub forward : start ≤ at
  pub no_end : (k : ℕ) → start ≤ k → k < at → get_or bytes k 0 ≢ LINE_END
  pub joined : spans ++ spans_from start (lines_of (drop start bytes)) ≡ spans_from 0 (lines_of bytes)

pub cut_none : (bytes : List ℕ) → IsCutSoFar bytes [] 0 0
cut_none bytes = record { forward = omega arith; no_end = λ k low high. absurd (omega arith); joined = refl }

-- a byte that ends no line
pub cut_more : (bytes : List ℕ) (spans : List Span) (start at : ℕ) → IsCutSoFar bytes spans start at → get_or bytes at 0 ≢ LINE_END → IsCutSoFar bytes spans start (at + 1)
cut_more bytes spans start at cut other = record {
  forward = omega arith;
  no_end = λ k low high. below_more (λ j. start ≤ j → get_or bytes j 0 ≡ LINE_END → ⊥) at (λ j below from. cut.no_end j from below) (λ from. other) k high low;
  joined = cut.joined;
}

module _ (bytes : List ℕ) (start at : ℕ) (forward : start ≤ at) (within : at ≤ length bytes) where
  length_part : length (take (at - start) (drop start bytes)) ≡ at - start
  length_part = length-take-le (at - start) (drop start bytes) (omega (arith, length-drop start bytes))

  ends_at : start + length (take (at - start) (drop start bytes)) ≡ at
  ends_at = omega (arith, length_part)

  part_has_no_end : ((k : ℕ) → start ≤ k → k < at → get_or bytes k 0 ≢ LINE_END) → All (λ b. b ≢ LINE_END) (take (at - start) (drop start bytes))
  part_has_no_end no_end =
      All-from_get_or (λ b. b ≢ LINE_END) _ 0 (λ i lt e.
      let below : i < at - start = omega (arith, length_part) in
      no_end (start + i) (omega arith) (omega arith) (sym (get_or-take (at - start) (drop start bytes) i 0 below ∙ get_or-drop start bytes i 0) ∙ e))

-- a byte that ends a line
pub cut_line : (bytes : List ℕ) (spans : List Span) (start at : ℕ) → IsCutSoFar bytes spans start at → at < length bytes → get_or bytes at 0 ≡ LINE_END
    → IsCutSoFar bytes (spans ++ record { start = start; end = at } ∷ []) (at + 1) (at + 1)
cut_line bytes spans start at cut within here = record {
  forward = omega arith;
  no_end = λ k low high. absurd (omega arith);
  joined =
      let part : List ℕ = take (at - start) (drop start bytes) in
      let back : List ℕ = drop (at + 1) bytes in
      let forward : start ≤ at = cut.forward in
      let behind : drop (at - start) (drop start bytes) ≡ LINE_END ∷ back =
      drop-drop (at - start) start bytes ∙ ap (λ k. drop k bytes) (let same : start + (at - start) ≡ at = omega arith in same) ∙ drop_more bytes at 0 within ∙ ap (λ b. b ∷ back) here in
      let split : drop start bytes ≡ part ++ LINE_END ∷ back = sym (take-append-drop (at - start) (drop start bytes)) ∙ ap (λ l. part ++ l) behind in
      let cuts : lines_of (drop start bytes) ≡ part ∷ lines_of back = ap lines_of split ∙ lines_of-line part back (part_has_no_end bytes start at forward (omega arith) cut.no_end) in
      let places : spans_from start (lines_of (drop start bytes)) ≡ record { start = start; end = at } ∷ spans_from (at + 1) (lines_of back) =
      ap (spans_from start) cuts ∙ ap (λ (e : ℕ). record { start = start; end = e } ∷ spans_from (e + 1) (lines_of back)) (ends_at bytes start at forward (omega arith)) in
      append_assoc spans _ _ ∙ sym (ap (λ l. spans ++ l) places) ∙ cut.joined;
}

-- the last line, which has no line end
pub cut_last : (bytes : List ℕ) (spans : List Span) (start at : ℕ) → IsCutSoFar bytes spans start at → length bytes ≤ at → start < length bytes
    → spans ++ record { start = start; end = length bytes } ∷ [] ≡ spans_from 0 (lines_of bytes)
cut_last bytes spans start at cut past within =
    let rest : List ℕ = drop start bytes in
    let length_rest : length rest ≡ length bytes - start = length-drop start bytes in
    let no_end : All (λ b. b ≢ LINE_END) rest = subst (All (λ b. b ≢ LINE_END)) (take_rest bytes start) (part_has_no_end bytes start (length bytes) (omega arith) (omega arith) (λ k low high. cut.no_end k low (omega arith))) in
    let cuts : lines_of rest ≡ rest ∷ [] = lines_of-last rest (omega arith) no_end in
    let end : start + length rest ≡ length bytes = omega arith in
    let places : spans_from start (lines_of rest) ≡ record { start = start; end = length bytes } ∷ [] = ap (spans_from start) cuts ∙ ap (λ (e : ℕ). record { start = start; end = e } ∷ []) end in
    sym (ap (λ l. spans ++ l) places) ∙ cut.joined

-- nothing follows the last line end
pub cut_all : (bytes : List ℕ) (spans : List Span) (start at : ℕ) → IsCutSoFar bytes spans start at → length bytes ≤ start → spans ≡ spans_from 0 (lines_of bytes)
cut_all bytes spans start at cut past =
    sym (append-nil spans) ∙ sym (ap (λ rest. spans ++ spans_from start (lines_of rest)) (drop_all start bytes past)) ∙ cut.joined
