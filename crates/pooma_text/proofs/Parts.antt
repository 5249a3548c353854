-- Each line of a text is a part of it.
use Rattle.std.proofs.Common.{◌≡◌, ℕ, zero, suc, ◌+◌, ◌<◌, ◌≤◌, eqb, cond, true, false, List, [], ◌∷◌, length, get_or, arith}
use Rattle.pooma_text.specs.Lines.{IsPart, LINE_END, lines_of, spans_from, with_front_byte}
use Rattle.pooma_text.specs.declared.span.Span.{Span}

-- each span goes forward and ends at a limit at the latest
abbrev pub Within : ℕ → List Span → Type 0
Within limit [] = Unit {0}
Within limit (span ∷ spans) = (span.start ≤ span.end) × (span.end ≤ limit) × Within limit spans

-- a byte in front of the first line moves no line past the limit
within_front : (b : ℕ) (lines : List (List ℕ)) (at limit : ℕ) → at < limit → Within limit (spans_from (at + 1) lines) → Within limit (spans_from at (with_front_byte b lines))
within_front b [] at limit below within = (omega arith, omega arith, tt)
within_front b (line ∷ lines) at limit below within =
    let next : at + length (b ∷ line) + 1 ≡ (at + 1) + length line + 1 = omega arith in
    (omega arith, omega (arith, within.1), rw next within.2)

-- the lines of bytes that end at the limit are within it
within_lines : (bytes : List ℕ) (at limit : ℕ) → at + length bytes ≤ limit → Within limit (spans_from at (lines_of bytes))
within_lines [] at limit le = tt
within_lines (b ∷ bytes) at limit le =
    elim (eqb b LINE_END) as (λ v. Within limit (spans_from at (cond v ([] ∷ lines_of bytes) (with_front_byte b (lines_of bytes))))) [
      | true ↦ (omega arith, omega arith, within_lines bytes (at + 0 + 1) limit (omega arith))
      | false ↦ within_front b (lines_of bytes) at limit (omega arith) (within_lines bytes (at + 1) limit (omega arith))
    ]

-- each span that goes forward within the bytes is a part of them
within_parts : (bytes : List ℕ) (spans : List Span) → Within (length bytes) spans → (k : ℕ) (d : Span) → k < length spans → IsPart bytes (get_or spans k d)
within_parts bytes [] within k d lt = absurd (omega arith)
within_parts bytes (span ∷ spans) within zero d lt = record { forward = within.0; within = within.1 }
within_parts bytes (span ∷ spans) within (suc k) d lt = within_parts bytes spans within.2 k d (omega arith)

-- each line of a text is a part of it
pub parts-spans_from : (bytes : List ℕ) (k : ℕ) (d : Span) → k < length (spans_from 0 (lines_of bytes)) → IsPart bytes (get_or (spans_from 0 (lines_of bytes)) k d)
parts-spans_from bytes = within_parts bytes _ (within_lines bytes 0 (length bytes) (omega arith))
