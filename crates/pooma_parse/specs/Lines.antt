-- What a line spells.
use Rattle.std.specs.Prelude.{ℕ, ◌≤◌, List, length, map}
use Rattle.pooma_text.specs.declared.token.Token.{Token}
use Rattle.pooma_text.specs.declared.token.TheConstants.{MOST_TOKENS}
use Rattle.pooma_text.specs.Tokens.{HasTokens}
use Rattle.pooma_parse.specs.declared.form.RawLine.{RawLine}
use Rattle.pooma_parse.specs.Forms.{LINE}
use Rattle.pooma_parse.specs.Tokens.{lexeme_of}

-- The line has tokens and no byte that begins none, they are not too many, and they say the form.
pub record Spells (line : List ℕ) (form : RawLine) : Type 0 where
  pub tokens : List Token
  pub whole : HasTokens line tokens
  pub few : length tokens ≤ MOST_TOKENS
  pub says : LINE form (map (lexeme_of line) tokens)
