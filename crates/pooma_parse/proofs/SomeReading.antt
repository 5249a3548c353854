-- A line is blank, or spells a form, or neither.
use Rattle.std.proofs.Common.{◌≡◌, ◌⊎◌, inl, inr, ⊎_elim, ℕ, ◌≤◌, List, [], ◌∷◌, Option, None, Some, length, map, refl, sym, ◌∙◌, subst, arith}
use Rattle.std.proofs.lemmas.Bool.{cases_lt}
use Rattle.pooma_text.specs.declared.token.Token.{Token}
use Rattle.pooma_text.specs.declared.token.TheConstants.{MOST_TOKENS}
use Rattle.pooma_text.specs.Tokens.{HasStray, HasTokens, IsBlankLine}
use Rattle.pooma_parse.specs.declared.form.RawLine.{RawLine}
use Rattle.pooma_parse.specs.Forms.{LINE}
use Rattle.pooma_parse.specs.Lines.{Spells}
use Rattle.pooma_parse.specs.Reader.{read_line}
use Rattle.pooma_parse.specs.Tokens.{Lexeme, lexeme_of}
use Rattle.pooma_parse.proofs.Choice.{line_complete, line_sound}

-- tokens say a form, or none
says_or_not : (tokens : List Lexeme) (read : Option (RawLine × List Lexeme)) → read_line tokens ≡ read → ((form : RawLine) × LINE form tokens) ⊎ ((form : RawLine) → LINE form tokens → ⊥)
says_or_not tokens None is = inr (λ form says. let no : None ≡ Some (form, []) = sym is ∙ line_complete form tokens says in cc)
says_or_not tokens (Some read) is = inl (read.0, line_sound tokens read.1 read.0 is)

module _ (some : (line : List ℕ) → ((all : List Token) × HasTokens line all) ⊎ ((before : List Token) × (place : ℕ) × HasStray line before place))
    (one : (line : List ℕ) (a b : List Token) → HasTokens line a → HasTokens line b → a ≡ b)
    (never_both : (line : List ℕ) (before all : List Token) (place : ℕ) → HasStray line before place → HasTokens line all → ⊥) where
  by_tokens : (line : List ℕ) (all : List Token) → HasTokens line all
      → IsBlankLine line ⊎ ((form : RawLine) × Spells line form) ⊎ ((IsBlankLine line → ⊥) × ((form : RawLine) → Spells line form → ⊥))
  by_tokens line [] has = inl has
  by_tokens line (token ∷ tokens) has =
      let not_blank : IsBlankLine line → ⊥ = λ blank. (let same : [] ≡ token ∷ tokens = one line [] (token ∷ tokens) blank has in cc) in
      ⊎_elim
      (λ many. inr (inr (
        not_blank,
        λ form spells.
            (let same : spells.tokens ≡ token ∷ tokens = one line spells.tokens (token ∷ tokens) spells.whole has in
            let few : length (token ∷ tokens) ≤ MOST_TOKENS = subst (λ (all : List Token). length all ≤ MOST_TOKENS) same spells.few in omega arith),
      )))
      (λ few.
      ⊎_elim
      (λ said. inr (inl (said.0, record { tokens = token ∷ tokens; whole = has; few = few; says = said.1 })))
      (λ none. inr (inr (
        not_blank,
        λ form spells.
            (let same : spells.tokens ≡ token ∷ tokens = one line spells.tokens (token ∷ tokens) spells.whole has in
            none form (subst (λ (all : List Token). LINE form (map (lexeme_of line) all)) same spells.says)),
      )))
      (says_or_not (map (lexeme_of line) (token ∷ tokens)) (read_line (map (lexeme_of line) (token ∷ tokens))) refl))
      (cases_lt MOST_TOKENS (length (token ∷ tokens)))

  pub line_is : (line : List ℕ) → IsBlankLine line ⊎ ((form : RawLine) × Spells line form) ⊎ ((IsBlankLine line → ⊥) × ((form : RawLine) → Spells line form → ⊥))
  line_is line =
      ⊎_elim (λ whole. by_tokens line whole.0 whole.1)
      (λ stray. inr (inr (
        λ blank. never_both line stray.0 [] stray.1 stray.2 blank,
        λ form spells. never_both line stray.0 spells.tokens stray.1 stray.2 spells.whole,
      )))
      (some line)
