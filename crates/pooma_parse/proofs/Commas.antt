-- Lists with commas between their entries, and what stands in parentheses.
use Rattle.std.proofs.Common.{◌≡◌, ℕ, zero, suc, ◌≤◌, false, List, [], ◌∷◌, ◌++◌, Some, refl, sym, ap, ◌∙◌, subst, inl, inr, arith, codes, length, length-append, append_assoc, append-nil}
use Rattle.pooma_text.specs.declared.span.Span.{Span}
use Rattle.pooma_text.specs.declared.token.TokenKind.TheVariants.{Sign}
use Rattle.pooma_parse.specs.Languages.{Language, followed, listed, nothing, parens, sign, ◌⨾◌}
use Rattle.pooma_parse.specs.Reader.{Reader, begins_sign, read_closed, read_entries, read_listed, read_parens}
use Rattle.pooma_parse.specs.Tokens.{Lexeme, sign_token}
use Rattle.pooma_parse.proofs.Atoms.{begins_is, begins_of, sign_exact, token_begins}
use Rattle.pooma_parse.proofs.Exact.{Any, Begins, Exact, and_then_some, cut, done, if_cases, if_false, if_true, nothing_begins, nothing_ends, some_same, step, then_begins}

-- this sign does not come next
abbrev pub NoSign : List ℕ → List Lexeme → Type 0
NoSign text rest = begins_sign text rest ≡ false

-- what may stand before a comma, and before a closing sign
abbrev pub BeforeComma : (List Lexeme → Type 0) → Type 0
BeforeComma F = (span : Span) (rest : List Lexeme) → F (sign_token (codes ",") span ∷ rest)

abbrev pub Before : List ℕ → (List Lexeme → Type 0) → Type 0
Before text F = (span : Span) (rest : List Lexeme) → F (sign_token text span ∷ rest)

pub begins_shorter : {L : Language} {tokens rest : List Lexeme} → Begins L tokens rest → length rest ≤ length tokens
begins_shorter {rest = rest} b = omega (arith, ap length b.whole, length-append b.front rest)

module _ {A : Type 0} {F : List Lexeme → Type 0} {L : A → Language} {p : Reader A} (exact : Exact F L p) where
  pub entries_sound : (k : ℕ) (found : List A) (tokens rest : List Lexeme) (all : List A) → read_entries p k found tokens ≡ Some (all, rest)
      → (more : List A) × (found ++ more ≡ all) × Begins (followed L more) tokens rest
  unfolding read_entries
  entries_sound zero found tokens rest all e =
      let same = some_same e in
      ([], append-nil found ∙ ap (λ p. p.0) same, subst (λ r. Begins nothing tokens r) (ap (λ p. p.1) same) (nothing_begins tokens))
  entries_sound (suc k) found tokens rest all e = elim (if_cases (begins_sign (codes ",") tokens) e) [
    | inl so ↦
        let entry = step exact so.1 in
        let further = entries_sound k (found ++ entry.value ∷ []) entry.mid rest all entry.more in (
          entry.value ∷ further.0,
          sym (append_assoc found (entry.value ∷ []) further.0) ∙ further.1,
          then_begins (begins_is Sign (codes ",") tokens so.0) (then_begins entry.spelled further.2),
        )
    | inr other ↦
        let same = some_same other.1 in
        ([], append-nil found ∙ ap (λ p. p.0) same, subst (λ r. Begins nothing tokens r) (ap (λ p. p.1) same) (nothing_begins tokens))
  ]

  follows_entry : BeforeComma F → (more : List A) (mid rest : List Lexeme) → Begins (followed L more) mid rest → F rest → F mid
  follows_entry comma [] mid rest b f = subst F (sym (nothing_ends b)) f
  follows_entry comma (x ∷ more) mid rest b f =
      let at = token_begins (cut b).one in
      subst F (sym at.1) (comma at.0 (cut b).mid)

  pub entries_complete : BeforeComma F → (k : ℕ) (found more : List A) (tokens rest : List Lexeme) → Begins (followed L more) tokens rest
      → length tokens ≤ k → NoSign (codes ",") rest → F rest → read_entries p k found tokens ≡ Some (found ++ more, rest)
  unfolding read_entries
  entries_complete comma zero found [] tokens rest b few no_comma f =
      ap (λ t. Some (found, t)) (nothing_ends b) ∙ ap (λ l. Some (l, rest)) (sym (append-nil found))
  entries_complete comma (suc k) found [] tokens rest b few no_comma f =
      let same = nothing_ends b in
      if_false _ (ap (begins_sign (codes ",")) same ∙ no_comma)
      (ap (λ t. Some (found, t)) same ∙ ap (λ l. Some (l, rest)) (sym (append-nil found)))
  entries_complete comma zero found (x ∷ more) tokens rest b few no_comma f =
      let at = token_begins (cut b).one in
      absurd (omega (arith, few, ap length at.1))
  entries_complete comma (suc k) found (x ∷ more) tokens rest b few no_comma f =
      let sign = cut b in
      let at = token_begins sign.one in
      let test = begins_of sign.one in
      let entry = cut sign.other in
      let read = exact.complete sign.mid entry.mid x entry.one (follows_entry comma more entry.mid rest entry.other f) in
      let fewer : length entry.mid ≤ k = omega (arith, few, ap length at.1, begins_shorter entry.one) in
      let further = entries_complete comma k (found ++ x ∷ []) more entry.mid rest entry.other fewer no_comma f in
      if_true _ test.0 (and_then_some _ (ap p test.1 ∙ read) (further ∙ ap (λ l. Some (l, rest)) (append_assoc found (x ∷ []) more)))

  listed_complete : BeforeComma F → (tokens rest : List Lexeme) (v : List A) → Begins (listed L v) tokens rest → NoSign (codes ",") rest × F rest
      → read_listed p tokens ≡ Some (v, rest)
  unfolding read_listed
  listed_complete comma tokens rest [] b f = absurd (b.spelled)
  listed_complete comma tokens rest (x ∷ xs) b f =
      let first = cut {A = L x} {B = followed L xs} b in
      let read = exact.complete tokens first.mid x first.one (follows_entry comma xs first.mid rest first.other f.1) in
      and_then_some _ read (entries_complete comma (length first.mid) (x ∷ []) xs first.mid rest first.other (omega arith) f.0 f.1)

  pub listed_exact : BeforeComma F → Exact (λ rest. NoSign (codes ",") rest × F rest) (listed L) (read_listed p)
  unfolding read_listed
  listed_exact comma = record {
    sound = λ tokens rest v e.
        let first = step exact e in
        let further = entries_sound (length first.mid) (first.value ∷ []) first.mid rest v first.more in
        subst (λ l. Begins (listed L l) tokens rest) further.1 (then_begins first.spelled further.2);
    complete = λ tokens rest v b f. listed_complete comma tokens rest v b f;
  }

  pub closed_exact : (text : List ℕ) → Before text F → Exact Any (λ v. L v ⨾ sign text) (read_closed p text)
  unfolding read_closed
  closed_exact text close = record {
    sound = λ tokens rest v e.
        let inside = step exact e in
        let closed = step (sign_exact text) inside.more in
        done (λ v. L v ⨾ sign text) closed.more (then_begins inside.spelled closed.spelled);
    complete = λ tokens rest v b any.
        let inside = cut b in
        let at = token_begins inside.other in
        and_then_some _ (exact.complete _ _ v inside.one (subst F (sym at.1) (close at.0 rest)))
        (and_then_some _ ((sign_exact text).complete _ _ tt inside.other tt) refl);
  }

  pub parens_exact : Before (codes ")") F → Exact Any (λ v. parens (L v)) (read_parens p)
  unfolding read_parens
  parens_exact close = record {
    sound = λ tokens rest v e.
        let opened = step (sign_exact (codes "(")) e in
        let inside = step exact opened.more in
        let closed = step (sign_exact (codes ")")) inside.more in
        done (λ v. parens (L v)) closed.more (then_begins opened.spelled (then_begins inside.spelled closed.spelled));
    complete = λ tokens rest v b any.
        let opened = cut b in
        let inside = cut opened.other in
        let at = token_begins inside.other in
        and_then_some _ ((sign_exact (codes "(")).complete _ _ tt opened.one tt)
        (and_then_some _ (exact.complete _ _ v inside.one (subst F (sym at.1) (close at.0 rest)))
        (and_then_some _ ((sign_exact (codes ")")).complete _ _ tt inside.other tt) refl));
  }
