-- The tokens of a line: words, numbers and signs, each the longest that fits, with blanks between them.
use Rattle.std.specs.Prelude.{◌≡◌, ◌≢◌, ◌⊎◌, ℕ, ◌<◌, ◌≤◌, List, [], ◌∷◌, length, slice_index, All, Contains}
use Rattle.std.specs.Char.{IsAsciiAlphabetic, IsAsciiAlphanumeric, IsAsciiDigit}
use Rattle.pooma_text.specs.declared.token.Token.{Token}
use Rattle.pooma_text.specs.declared.token.TokenKind.{TokenKind}
use Rattle.pooma_text.specs.declared.token.TokenKind.TheVariants.{Word, Number, Sign}
use Rattle.pooma_text.specs.Lines.{text_at}
use Rattle.pooma_text.specs.Signs.{double_signs, single_signs}

-- the byte from which a comment reaches to the end of its line
abbrev pub COMMENT : ℕ
COMMENT = 35

-- a space, a tab or a carriage return
abbrev pub IsBlank : ℕ → Type 0
IsBlank b = (b ≡ 32) ⊎ (b ≡ 9) ⊎ (b ≡ 13)

-- a letter, then letters and digits
abbrev pub IsWord : List ℕ → Type 0
IsWord [] = ⊥
IsWord (b ∷ bytes) = IsAsciiAlphabetic b × All IsAsciiAlphanumeric bytes

-- one or more digits
abbrev pub IsNumber : List ℕ → Type 0
IsNumber bytes = (bytes ≢ []) × All IsAsciiDigit bytes

-- one of the signs
abbrev pub IsSign : List ℕ → Type 0
IsSign [] = ⊥
IsSign (b ∷ []) = Contains single_signs b
IsSign (b ∷ c ∷ bytes) = Contains double_signs (b ∷ c ∷ bytes)

abbrev pub IsToken : TokenKind → List ℕ → Type 0
IsToken Word bytes = IsWord bytes
IsToken Number bytes = IsNumber bytes
IsToken Sign bytes = IsSign bytes

-- from a place up to another the line has blanks alone
pub record AreBlanks (line : List ℕ) (from to : ℕ) : Type 0 where
  pub forward : from ≤ to
  pub within : to ≤ length line
  pub each : (k : ℕ) → from ≤ k → k < to → IsBlank (slice_index line k)

-- the token is one of its kind, and no longer one of any kind begins where it does
pub record IsLongest (line : List ℕ) (token : Token) : Type 0 where
  pub within : token.span.end ≤ length line
  pub fits : IsToken token.kind (text_at line token.span)
  pub longest : (kind : TokenKind) (end : ℕ) → end ≤ length line
      → IsToken kind (text_at line (record { start = token.span.start; end = end })) → end ≤ token.span.end

-- from a place up to another the line has these tokens one after another, and blanks alone beside them
abbrev pub Runs : List ℕ → ℕ → List Token → ℕ → Type 0
Runs line from [] to = AreBlanks line from to
Runs line from (t ∷ tokens) to = AreBlanks line from t.span.start × IsLongest line t × Runs line t.span.end tokens to

-- no token begins at a place
abbrev pub BeginsNoToken : List ℕ → ℕ → Type 0
BeginsNoToken line at = (kind : TokenKind) (end : ℕ) → at ≤ end → end ≤ length line
    → IsToken kind (text_at line (record { start = at; end = end })) → ⊥

-- nothing but a comment is left of the line
abbrev pub IsEndAt : List ℕ → ℕ → Type 0
IsEndAt line at = (at ≡ length line) ⊎ ((at < length line) × (slice_index line at ≡ COMMENT))

-- a byte that is no blank, begins no comment and begins no token
pub record IsStrayAt (line : List ℕ) (at : ℕ) : Type 0 where
  pub within : at < length line
  pub not_blank : IsBlank (slice_index line at) → ⊥
  pub no_comment : slice_index line at ≢ COMMENT
  pub no_token : BeginsNoToken line at

-- the line has these tokens, and beside them blanks and maybe a comment
abbrev pub HasTokens : List ℕ → List Token → Type 0
HasTokens line tokens = (at : ℕ) × Runs line 0 tokens at × IsEndAt line at

-- the line has these tokens before its first byte that begins none
abbrev pub HasStray : List ℕ → List Token → ℕ → Type 0
HasStray line tokens at = Runs line 0 tokens at × IsStrayAt line at

-- the line begins with these tokens
abbrev pub BeginsWith : List ℕ → List Token → Type 0
BeginsWith line tokens = (at : ℕ) × Runs line 0 tokens at

-- a line with no token, so blanks and maybe a comment
abbrev pub IsBlankLine : List ℕ → Type 0
IsBlankLine line = HasTokens line []
