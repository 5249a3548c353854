-- Single tokens.
use Rattle.std.proofs.Common.{◌≡◌, ◌⊎◌, ℕ, ℤ, pos, ◌≤◌, ◌-ℤ◌, Bool, true, false, not, ◌&&◌, if◌then◌else◌, List, [], ◌∷◌, ◌++◌, Some, None, refl, sym, ap, ◌∙◌, subst, inl, inr, rules, arith, codes, bytes_eq, nat_le, Contains}
use Rattle.std.proofs.lemmas.Bool.Decides.{nat_tests}
use Rattle.std.proofs.lemmas.Slice.Eq.{bytes_eq-Decides}
use Rattle.std.specs.List.{list_any}
use Rattle.std.specs.Cmp.{IsEquivalence}
use Rattle.std.proofs.lemmas.Cmp.{nat_list_eq_equiv}
use Rattle.std.proofs.lemmas.Map.Views.{Contains-from_any, list_any-from_Contains}
use Rattle.pooma_text.specs.declared.span.Span.{Span}
use Rattle.pooma_text.specs.declared.token.TokenKind.{TokenKind}
use Rattle.pooma_text.specs.declared.token.TokenKind.TheVariants.{Word, Number, Sign}
use Rattle.pooma_text.specs.Number.{value_of}
use Rattle.pooma_parse.specs.Languages.{Language, number, sign, word, name, signed, ◌⨾◌}
use Rattle.pooma_parse.specs.Names.{reserved_words}
use Rattle.pooma_parse.specs.Reader.{and_then, begins, begins_name, begins_sign, behind, expect, expect_sign, expect_word, is_reserved, pure, read_name, read_number, read_signed, same_kind, span_of}
use Rattle.pooma_parse.specs.Tokens.{Lexeme, number_token, word_token}
use Rattle.pooma_parse.proofs.Exact.{Any, Begins, Exact, and_then_some, cut, done, if_cases, if_false, if_true, some_same, step, then_begins}

-- a token of a kind with a text
abbrev pub token_of : TokenKind → List ℕ → Span → Lexeme
token_of kind text span = record { kind = kind; text = text; span = span }

abbrev pub token : TokenKind → List ℕ → Language
token kind text tokens = (span : Span) × (tokens ≡ token_of kind text span ∷ [])

pub same_kind_is : (a b : TokenKind) → same_kind a b ≡ true → a ≡ b
same_kind_is Word Word e = refl
same_kind_is Number Number e = refl
same_kind_is Sign Sign e = refl
same_kind_is Word Number e = absurd (cc)
same_kind_is Word Sign e = absurd (cc)
same_kind_is Number Word e = absurd (cc)
same_kind_is Number Sign e = absurd (cc)
same_kind_is Sign Word e = absurd (cc)
same_kind_is Sign Number e = absurd (cc)

pub same_kind_self : (kind : TokenKind) → same_kind kind kind ≡ true
same_kind_self Word = refl
same_kind_self Number = refl
same_kind_self Sign = refl

pub and_parts : (a b : Bool) → (a && b) ≡ true → (a ≡ true) × (b ≡ true)
and_parts true true e = (refl, refl)
and_parts true false e = absurd (cc)
and_parts false b e = absurd (cc)

pub both_true : (a b : Bool) → a ≡ true → b ≡ true → (a && b) ≡ true
both_true true true e f = refl
both_true true false e f = absurd (cc)
both_true false b e f = absurd (cc)

pub bytes_same : (a b : List ℕ) → bytes_eq a b ≡ true → a ≡ b
bytes_same a b e = search (rules, bytes_eq-Decides)

pub bytes_self : (a : List ℕ) → bytes_eq a a ≡ true
bytes_self a = search (rules, bytes_eq-Decides)

-- the first token, where the tokens begin so
pub begins_is : (kind : TokenKind) (text : List ℕ) (tokens : List Lexeme) → begins kind text tokens ≡ true → Begins (token kind text) tokens (behind tokens)
unfolding begins
begins_is kind text [] e = absurd (cc)
begins_is kind text (t ∷ tokens) e =
    let parts = and_parts (same_kind t.kind kind) (bytes_eq t.text text) e in
    let kinds = same_kind_is t.kind kind parts.0 in
    let texts = bytes_same t.text text parts.1 in
    record { front = t ∷ []; spelled = (t.span, ap (λ k. token_of k t.text t.span ∷ []) kinds ∙ ap (λ s. token_of kind s t.span ∷ []) texts); whole = refl }

pub begins_token : (kind : TokenKind) (text : List ℕ) (span : Span) (rest : List Lexeme) → begins kind text (token_of kind text span ∷ rest) ≡ true
unfolding begins
begins_token kind text span rest = both_true (same_kind kind kind) (bytes_eq text text) (same_kind_self kind) (bytes_self text)

-- the tokens that begin with a token
pub token_begins : {kind : TokenKind} {text : List ℕ} {tokens rest : List Lexeme} → Begins (token kind text) tokens rest
    → (span : Span) × (tokens ≡ token_of kind text span ∷ rest)
token_begins {rest = rest} b = (b.spelled.0, b.whole ∙ ap (λ s. s ++ rest) b.spelled.1)

pub begins_of : {kind : TokenKind} {text : List ℕ} {tokens rest : List Lexeme} → Begins (token kind text) tokens rest
    → (begins kind text tokens ≡ true) × (behind tokens ≡ rest)
begins_of {kind} {text} {tokens} {rest} b =
    let t = token_begins b in
    (subst (λ s. begins kind text s ≡ true) (sym t.1) (begins_token kind text t.0 rest), ap behind t.1)

pub expect_exact : (kind : TokenKind) (text : List ℕ) → Exact Any (λ _. token kind text) (expect kind text)
unfolding expect
expect_exact kind text = record {
  sound = λ tokens rest v e. elim (if_cases (begins kind text tokens) e) [
    | inl so ↦ done (λ _. token kind text) so.1 (begins_is kind text tokens so.0)
    | inr other ↦ absurd (cc (other.1))
  ];
  complete = λ tokens rest v b any.
      let t = begins_of b in
      if_true None t.0 (ap (λ r. Some (tt, r)) t.1);
}

pub sign_exact : (text : List ℕ) → Exact Any (λ _. sign text) (expect_sign text)
sign_exact text = expect_exact Sign text

pub word_exact : (text : List ℕ) → Exact Any (λ _. word text) (expect_word text)
word_exact text = expect_exact Word text

-- ---- names

pub same_bytes : IsEquivalence bytes_eq
same_bytes = nat_list_eq_equiv

-- a reserved word, by the test and by the list
pub among_contains : (words : List (List ℕ)) (text : List ℕ) → list_any (bytes_eq text) words ≡ true → Contains words text
among_contains words text e = Contains-from_any bytes_same text words e

pub contains_among : (words : List (List ℕ)) (text : List ℕ) → Contains words text → list_any (bytes_eq text) words ≡ true
contains_among words text e = list_any-from_Contains same_bytes text words e

not_true : (b : Bool) → not b ≡ true → b ≡ true → ⊥
not_true true e f = cc
not_true false e f = cc

not_holds : (b : Bool) → (b ≡ true → ⊥) → not b ≡ true
not_holds true f = absurd (f refl)
not_holds false f = refl

pub span_at : (t : Lexeme) (tokens rest : List Lexeme) (v : Span) → span_of (t ∷ tokens) (t ∷ tokens) ≡ Some (v, rest) → (t.span ≡ v) × (tokens ≡ rest)
unfolding span_of
span_at t tokens rest v e = let same = some_same e in (ap (λ p. p.0) same, ap (λ p. p.1) same)

pub name_at : (tokens rest : List Lexeme) (v : Span) → begins_name tokens ≡ true → span_of tokens tokens ≡ Some (v, rest) → Begins (name v) tokens rest
unfolding begins_name is_reserved
name_at [] rest v test e = absurd (cc)
name_at (t ∷ tokens) rest v test e =
    let parts = and_parts (same_kind t.kind Word) (not (is_reserved t.text)) test in
    let kinds = same_kind_is t.kind Word parts.0 in
    let at = span_at t tokens rest v e in
    let is_name : Contains reserved_words t.text → ⊥ = λ found. not_true _ parts.1 (contains_among reserved_words t.text found) in
    record {
      front = t ∷ [];
      spelled = (t.text, is_name, ap (λ k. token_of k t.text t.span ∷ []) kinds ∙ ap (λ s. token_of Word t.text s ∷ []) at.0);
      whole = ap (λ r. t ∷ r) at.1;
    }

pub name_test : (text : List ℕ) (span : Span) (rest : List Lexeme) → (Contains reserved_words text → ⊥) → begins_name (word_token text span ∷ rest) ≡ true
unfolding begins_name is_reserved
name_test text span rest free = not_holds (list_any (bytes_eq text) reserved_words) (λ e. free (among_contains reserved_words text e))

pub name_begins : {tokens rest : List Lexeme} {v : Span} → Begins (name v) tokens rest
    → (text : List ℕ) × (Contains reserved_words text → ⊥) × (tokens ≡ word_token text v ∷ rest)
name_begins {rest = rest} b = (b.spelled.0, b.spelled.1, b.whole ∙ ap (λ s. s ++ rest) b.spelled.2)

pub span_read : (t : Lexeme) (tokens : List Lexeme) → span_of (t ∷ tokens) (t ∷ tokens) ≡ Some (t.span, tokens)
unfolding span_of
span_read t tokens = refl

pub name_read : (tokens rest : List Lexeme) (v : Span) → Begins (name v) tokens rest → (if begins_name tokens then span_of tokens tokens else None) ≡ Some (v, rest)
name_read tokens rest v b =
    let at = name_begins b in
    let P : List Lexeme → Type 0 = λ s. (if begins_name s then span_of s s else None) ≡ Some (v, rest) in
    subst P (sym at.2) (if_true None (name_test at.0 v rest at.1) (span_read (word_token at.0 v) rest))

pub name_exact : Exact Any name read_name
unfolding read_name
name_exact = record {
  sound = λ tokens rest v e. elim (if_cases (begins_name tokens) e) [
    | inl so ↦ name_at tokens rest v so.0 so.1
    | inr other ↦ absurd (cc (other.1))
  ];
  complete = λ tokens rest v b any. name_read tokens rest v b;
}

-- ---- numbers

nat_le_is : (a b : ℕ) → nat_le a b ≡ true → a ≤ b
nat_le_is a b e = grind (arith, nat_tests)

is_nat_le : (a b : ℕ) → a ≤ b → nat_le a b ≡ true
is_nat_le a b e = grind (arith, nat_tests)

pub number_at : (most : ℕ) (tokens rest : List Lexeme) (v : ℤ) → read_number most tokens ≡ Some (v, rest) → Begins (number most v) tokens rest
unfolding read_number
number_at most [] rest v e = absurd (cc)
number_at most (t ∷ tokens) rest v e = elim (if_cases (same_kind t.kind Number && nat_le (value_of t.text) most) e) [
  | inl so ↦
      let parts = and_parts (same_kind t.kind Number) (nat_le (value_of t.text) most) so.0 in
      let kinds = same_kind_is t.kind Number parts.0 in
      let same = some_same so.1 in
      record {
        front = t ∷ [];
        spelled = (t.text, t.span, nat_le_is (value_of t.text) most parts.1, sym (ap (λ p. p.0) same), ap (λ k. token_of k t.text t.span ∷ []) kinds);
        whole = ap (λ r. t ∷ r) (ap (λ p. p.1) same);
      }
  | inr other ↦ absurd (cc (other.1))
]

pub number_begins : {most : ℕ} {tokens rest : List Lexeme} {v : ℤ} → Begins (number most v) tokens rest
    → (digits : List ℕ) × (span : Span) × (value_of digits ≤ most) × (v ≡ pos (value_of digits)) × (tokens ≡ number_token digits span ∷ rest)
number_begins {rest = rest} b = (b.spelled.0, b.spelled.1, b.spelled.2, b.spelled.3, b.whole ∙ ap (λ s. s ++ rest) b.spelled.4)

pub number_read : (most : ℕ) (tokens rest : List Lexeme) (v : ℤ) → Begins (number most v) tokens rest → read_number most tokens ≡ Some (v, rest)
unfolding read_number
number_read most tokens rest v b =
    let at = number_begins b in
    let P : List Lexeme → Type 0 = λ s. read_number most s ≡ Some (v, rest) in
    subst P (sym at.4) (if_true None (is_nat_le (value_of at.0) most at.2) (ap (λ n. Some (n, rest)) (sym at.3)))

pub number_exact : (most : ℕ) → Exact Any (number most) (read_number most)
number_exact most = record { sound = number_at most; complete = λ tokens rest v b any. number_read most tokens rest v b }

-- ---- signed numbers

-- a number is no sign
pub number_no_sign : (text : List ℕ) {most : ℕ} {tokens rest : List Lexeme} {v : ℤ} → Begins (number most v) tokens rest → begins_sign text tokens ≡ false
unfolding begins
number_no_sign text b = let at = number_begins b in ap (begins_sign text) at.4

positive : {most : ℕ} {tokens rest : List Lexeme} {v : ℤ} → Begins (number most v) tokens rest → Begins (signed most v) tokens rest
positive b = record { front = b.front; spelled = inl b.spelled; whole = b.whole }

negative : {most : ℕ} {tokens rest : List Lexeme} {v m : ℤ} → v ≡ pos 0 -ℤ m → Begins (sign (codes "-") ⨾ number most m) tokens rest → Begins (signed most v) tokens rest
negative {m = m} e b = record { front = b.front; spelled = inr (m, e, b.spelled); whole = b.whole }

pub signed_cases : {most : ℕ} {tokens rest : List Lexeme} {v : ℤ} → Begins (signed most v) tokens rest
    → Begins (number most v) tokens rest ⊎ ((m : ℤ) × (v ≡ pos 0 -ℤ m) × Begins (sign (codes "-") ⨾ number most m) tokens rest)
signed_cases b = elim b.spelled [
  | inl plain ↦ inl (record { front = b.front; spelled = plain; whole = b.whole })
  | inr minus ↦ inr (minus.0, minus.1, record { front = b.front; spelled = minus.2; whole = b.whole })
]

pub signed_exact : (most : ℕ) → Exact Any (signed most) (read_signed most)
unfolding read_signed
signed_exact most = record {
  sound = λ tokens rest v e. elim (if_cases (begins_sign (codes "-") tokens) e) [
    | inl so ↦
        let n = step (number_exact most) so.1 in
        let same = some_same n.more in
        let minus = begins_is Sign (codes "-") tokens so.0 in
        subst (λ r. Begins (signed most v) tokens r) (ap (λ p. p.1) same) (negative (sym (ap (λ p. p.0) same)) (then_begins minus n.spelled))
    | inr other ↦ positive ((number_exact most).sound tokens rest v other.1)
  ];
  complete = λ tokens rest v b any. elim (signed_cases b) [
    | inl plain ↦ if_false _ (number_no_sign (codes "-") plain) (number_read most tokens rest v plain)
    | inr minus ↦
        let parts = cut minus.2 in
        let at = begins_of parts.one in
        let n = number_read most parts.mid rest minus.0 parts.other in
        if_true _ at.0 (subst (λ s. and_then (read_number most s) (λ n. pure (pos 0 -ℤ n)) ≡ Some (v, rest)) (sym at.1)
        (and_then_some (λ n. pure (pos 0 -ℤ n)) n (ap (λ n. Some (n, rest)) (sym minus.1))))
  ];
}
