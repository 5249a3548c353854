-- The tokens of a line with their texts.
use Rattle.std.specs.Prelude.{ℕ, List}
use Rattle.pooma_text.specs.declared.span.Span.{Span}
use Rattle.pooma_text.specs.declared.token.Token.{Token}
use Rattle.pooma_text.specs.declared.token.TokenKind.{TokenKind}
use Rattle.pooma_text.specs.declared.token.TokenKind.TheVariants.{Word, Number, Sign}
use Rattle.pooma_text.specs.Lines.{text_at}

-- a token: what it is, its bytes, and the part of the line that it is
pub record Lexeme : Type 0 where
  pub kind : TokenKind
  pub text : List ℕ
  pub span : Span

-- a token of a line with its bytes
abbrev pub lexeme_of : List ℕ → Token → Lexeme
lexeme_of line token = record { kind = token.kind; text = text_at line token.span; span = token.span }

abbrev pub word_token : List ℕ → Span → Lexeme
word_token text span = record { kind = Word; text = text; span = span }

abbrev pub number_token : List ℕ → Span → Lexeme
number_token digits span = record { kind = Number; text = digits; span = span }

abbrev pub sign_token : List ℕ → Span → Lexeme
sign_token text span = record { kind = Sign; text = text; span = span }
