-- A script is one: what becomes of each line is one outcome.
use Rattle.std.proofs.Common.{◌≡◌, inl, inr, ℕ, ◌+◌, List, [], ◌∷◌, Option, None, Some, sym, ap, subst, ◌∙◌, arith}
use Rattle.pooma_text.specs.Lines.{lines_of}
use Rattle.pooma_text.specs.Tokens.{IsBlankLine}
use Rattle.pooma_parse.specs.declared.form.RawLine.{RawLine}
use Rattle.pooma_parse.specs.Lines.{Spells}
use Rattle.pooma_script.specs.Causes.{IsFirstFailed, line_causes}
use Rattle.pooma_script.specs.Known.{Known, nothing_known}
use Rattle.pooma_script.specs.Scripts.{Script, Refused, Outcome, Stops, Goes, Becomes, blank, spelt, formless, Read, IsScript, blank_outcome, form_outcome}
use Rattle.pooma_script.specs.Tests.{Passes}

-- a list has one first entry whose test is not passed
pub one_first : {A : Type 0} (P : A → Type 0) (xs : List A) (a b : Option A) → IsFirstFailed P xs a → IsFirstFailed P xs b → a ≡ b
one_first P [] a b r s = r ∙ sym s
one_first P (x ∷ xs) a b (inl r) (inl s) = one_first P xs a b r.1 s.1
one_first P (x ∷ xs) a b (inl r) (inr s) = absurd (s.0 r.0)
one_first P (x ∷ xs) a b (inr r) (inl s) = absurd (r.0 s.0)
one_first P (x ∷ xs) a b (inr r) (inr s) = r.1 ∙ sym s.1

pub one_at_blank : (number : ℕ) (known : Known) (a b : Outcome) → blank_outcome number known a → blank_outcome number known b → a ≡ b
one_at_blank number known (Stops c) (Stops d) r s = ap Stops (r.1 ∙ sym s.1)
one_at_blank number known (Stops c) (Goes m) r s = absurd (omega (arith, r.0, s.0))
one_at_blank number known (Goes n) (Stops d) r s = absurd (omega (arith, r.0, s.0))
one_at_blank number known (Goes n) (Goes m) r s = ap Goes (r.1 ∙ sym s.1)

pub one_at_form : (number : ℕ) (known : Known) (text : List ℕ) (form : RawLine) (a b : Outcome)
    → form_outcome number known text form a → form_outcome number known text form b → a ≡ b
one_at_form number known text form (Stops c) (Stops d) r s =
    let same : Some c ≡ Some d = one_first (Passes number known text form) line_causes (Some c) (Some d) r s in ap Stops (cc)
one_at_form number known text form (Stops c) (Goes m) r s =
    let same : Some c ≡ None = one_first (Passes number known text form) line_causes (Some c) None r s.0 in cc
one_at_form number known text form (Goes n) (Stops d) r s =
    let same : None ≡ Some d = one_first (Passes number known text form) line_causes None (Some d) r.0 s in cc
one_at_form number known text form (Goes n) (Goes m) r s = ap Goes (r.1 ∙ sym s.1)

-- where a line spells one form at the most, and a blank line none
module _ (one : (line : List ℕ) (a b : RawLine) → Spells line a → Spells line b → a ≡ b)
    (no_form : (line : List ℕ) (form : RawLine) → IsBlankLine line → Spells line form → ⊥) where
  pub one_outcome : (number : ℕ) (known : Known) (text : List ℕ) (a b : Outcome) → Becomes number known text a → Becomes number known text b → a ≡ b
  one_outcome number known text a b (blank i r) (blank j s) = one_at_blank number known a b r s
  one_outcome number known text a b (blank i r) (spelt form j s) = absurd (no_form text form i j)
  one_outcome number known text a b (blank i r) (formless j k s) = absurd (j i)
  one_outcome number known text a b (spelt form i r) (blank j s) = absurd (no_form text form j i)
  one_outcome number known text a b (spelt form i r) (spelt other j s) =
      one_at_form number known text other a b (subst (λ f. form_outcome number known text f a) (one text form other i j) r) s
  one_outcome number known text a b (spelt form i r) (formless j k s) = absurd (k form i)
  one_outcome number known text a b (formless i k r) (blank j s) = absurd (i j)
  one_outcome number known text a b (formless i k r) (spelt form j s) = absurd (k form j)
  one_outcome number known text a b (formless i k r) (formless j l s) = r ∙ sym s

  pub one_read : (lines : List (List ℕ)) (number : ℕ) (known : Known) (a b : Script) → Read number known lines a → Read number known lines b → a ≡ b
  one_read [] number known a b r s = r ∙ sym s
  one_read (text ∷ lines) number known a b (inl r) (inl s) =
      let same : Stops r.0 ≡ Stops s.0 = one_outcome number known text (Stops r.0) (Stops s.0) r.1 s.1 in
      let why : r.0 ≡ s.0 = cc in
      r.2 ∙ (ap (Refused number) why ∙ sym s.2)
  one_read (text ∷ lines) number known a b (inl r) (inr s) =
      let same : Stops r.0 ≡ Goes s.0 = one_outcome number known text (Stops r.0) (Goes s.0) r.1 s.1 in cc
  one_read (text ∷ lines) number known a b (inr r) (inl s) =
      let same : Goes r.0 ≡ Stops s.0 = one_outcome number known text (Goes r.0) (Stops s.0) r.1 s.1 in cc
  one_read (text ∷ lines) number known a b (inr r) (inr s) =
      let same : Goes r.0 ≡ Goes s.0 = one_outcome number known text (Goes r.0) (Goes s.0) r.1 s.1 in
      let next : r.0 ≡ s.0 = cc in
      one_read lines (number + 1) s.0 a b (subst (λ k. Read (number + 1) k lines a) next r.2) s.2

  pub one_script_of : (bytes : List ℕ) (a b : Script) → IsScript bytes a → IsScript bytes b → a ≡ b
  one_script_of bytes a b (inl r) (inl s) = r.1 ∙ sym s.1
  one_script_of bytes a b (inl r) (inr s) = absurd (omega (arith, r.0, s.0))
  one_script_of bytes a b (inr r) (inl s) = absurd (omega (arith, r.0, s.0))
  one_script_of bytes a b (inr r) (inr s) = one_read (lines_of bytes) 1 nothing_known a b r.1 s.1
