-- The lines of a script, as far as they were read.
use Rattle.std.proofs.Common.{◌≡◌, inl, inr, ℕ, ◌+◌, ◌<◌, ◌≤◌, List, [], ◌∷◌, length, map, drop, get_or, refl, sym, ap, subst, ◌∙◌, eqb, cond, true, false, arith}
use Rattle.std.proofs.lemmas.List.{get_or-map, length-map, drop_more}
use Rattle.std.proofs.Math.Seq.{drop-length}
use Rattle.pooma_text.specs.declared.span.Span.{Span}
use Rattle.pooma_text.specs.Lines.{LINE_END, lines_of, text_at, with_front_byte}
use Rattle.pooma_script.specs.declared.cause.Cause.{Cause}
use Rattle.pooma_script.specs.Known.{Known}
use Rattle.pooma_script.specs.Scripts.{Becomes, Goes, Read, Refused, Script, Stops, script_at_end}

-- what the lines from this number on make up is what all lines make up
abbrev pub ReadSoFar : List (List ℕ) → (Script → Type 0) → ℕ → Known → Type 0
ReadSoFar lines IsWhole n known = (script : Script) → Read (n + 1) known (drop n lines) script → IsWhole script

module _ (bytes : List ℕ) (spans : List Span) (IsWhole : Script → Type 0) (n : ℕ) (d : Span) (known : Known)
    (texts : map (text_at bytes) spans ≡ lines_of bytes) (sofar : ReadSoFar (lines_of bytes) IsWhole n known) where
  front : n < length spans → drop n (lines_of bytes) ≡ text_at bytes (get_or spans n d) ∷ drop (n + 1) (lines_of bytes)
  front below =
      let many : n < length (lines_of bytes) = let long = length-map spans (text_at bytes) in let same = ap length texts in omega arith in
      let here : get_or (lines_of bytes) n [] ≡ text_at bytes (get_or spans n d) =
      ap (λ lines. get_or lines n []) (sym texts) ∙ get_or-map (text_at bytes) spans n d [] below in
      drop_more (lines_of bytes) n [] many ∙ ap (λ l. l ∷ drop (n + 1) (lines_of bytes)) here

  -- a line is read, and the next one is to be
  pub goes_further : n < length spans → (next : Known) → Becomes (n + 1) known (text_at bytes (get_or spans n d)) (Goes next)
      → ReadSoFar (lines_of bytes) IsWhole (n + 1) next
  goes_further below next becomes script rest =
      sofar script (subst (λ l. Read (n + 1) known l script) (sym (front below)) (inr (next, becomes, rest)))

  -- the line stops
  pub stops_here : n < length spans → (why : Cause) → Becomes (n + 1) known (text_at bytes (get_or spans n d)) (Stops why)
      → IsWhole (Refused (n + 1) why)
  stops_here below why becomes =
      sofar (Refused (n + 1) why) (subst (λ l. Read (n + 1) known l (Refused (n + 1) why)) (sym (front below)) (inl (why, becomes, refl)))

  -- no line is left
  pub ends_here : n ≡ length spans → IsWhole (script_at_end (n + 1) known)
  ends_here all =
      let many : n ≡ length (lines_of bytes) = let long = length-map spans (text_at bytes) in let same = ap length texts in omega arith in
      let none : drop n (lines_of bytes) ≡ [] = ap (λ k. drop k (lines_of bytes)) many ∙ drop-length (lines_of bytes) in
      sofar (script_at_end (n + 1) known) (subst (λ l. Read (n + 1) known l (script_at_end (n + 1) known)) (sym none) refl)

-- there are no more lines than bytes
few_front : (b : ℕ) (lines : List (List ℕ)) (n : ℕ) → length lines ≤ n → length (with_front_byte b lines) ≤ n + 1
few_front b [] n le = omega arith
few_front b (line ∷ lines) n le = omega arith

pub few_lines : (bytes : List ℕ) → length (lines_of bytes) ≤ length bytes
few_lines [] = omega arith
few_lines (b ∷ bytes) =
    let le = few_lines bytes in
    elim (eqb b LINE_END) as (λ v. length (cond v ([] ∷ lines_of bytes) (with_front_byte b (lines_of bytes))) ≤ length (b ∷ bytes)) [
      | true ↦ omega (arith, le)
      | false ↦ (let more = few_front b (lines_of bytes) (length bytes) le in omega (arith, more))
    ]
