-- What the tokens of a line say of the form that it spells.
use Rattle.std.proofs.Common.{◌≡◌, ◌≢◌, ℕ, ◌≤◌, ◌<◌, List, [], ◌∷◌, Some, None, Err, refl, sym, ap, ◌∙◌, subst, length, map, get_or, zero, suc, lit≤, arith}
use Rattle.pooma_text.specs.declared.token.Token.{Token}
use Rattle.pooma_text.specs.declared.token.TheConstants.{MOST_TOKENS}
use Rattle.pooma_text.specs.Tokens.{HasTokens, IsBlankLine, IsLongest, Runs}
use Rattle.pooma_parse.specs.declared.error.LineError.{LineError}
use Rattle.pooma_parse.specs.declared.error.LineError.TheVariants.{OutOfMemory, Syntax}
use Rattle.pooma_parse.specs.declared.form.RawLine.{RawLine}
use Rattle.pooma_parse.specs.Forms.{LINE}
use Rattle.pooma_parse.specs.Lines.{Spells}
use Rattle.pooma_parse.specs.Reader.{Reads, read_line}
use Rattle.pooma_parse.specs.Tokens.{Lexeme, lexeme_of}
use Rattle.pooma_parse.proofs.Choice.{line_complete, line_sound, nothing_read}
use Rattle.pooma_parse.proofs.Exact.{some_same}

-- each token of a line is the longest that fits
pub runs_longest : (line : List ℕ) (from : ℕ) (tokens : List Token) (to : ℕ) → Runs line from tokens to
    → (k : ℕ) (d : Token) → k < length tokens → IsLongest line (get_or tokens k d)
runs_longest line from [] to r k d lt = absurd (omega arith)
runs_longest line from (t ∷ tokens) to r zero d lt = r.1
runs_longest line from (t ∷ tokens) to r (suc k) d lt = runs_longest line t.span.end tokens to r.2 k d (omega arith)

-- tokens say one form
pub says_one : (tokens : List Lexeme) (a b : RawLine) → LINE a tokens → LINE b tokens → a ≡ b
says_one tokens a b la lb = ap (λ p. p.0) (some_same (sym (line_complete a tokens la) ∙ line_complete b tokens lb))

-- the form that was read is the line's
pub spells_read : (line : List ℕ) (tokens : List Token) (lexemes : List Lexeme) (form : RawLine) → HasTokens line tokens → length tokens ≤ MOST_TOKENS
    → lexemes ≡ map (lexeme_of line) tokens → read_line lexemes ≡ Some (form, []) → Spells line form
spells_read line tokens lexemes form whole few same read =
    record { tokens = tokens; whole = whole; few = few; says = subst (LINE form) same (line_sound lexemes [] form read) }

-- no blank line spells a form
pub blank_spells_none : (line : List ℕ) → ((all : List Token) → HasTokens line all → length all ≤ MOST_TOKENS → [] ≡ all) → (form : RawLine) → Spells line form → ⊥
blank_spells_none line only form s =
    let same = only s.tokens s.whole s.few in
    let read = sym nothing_read ∙ line_complete form [] (subst (λ t. LINE form (map (lexeme_of line) t)) (sym same) s.says) in cc (read)

-- what is read of the line's tokens is the line's form
pub read_spelled : (line : List ℕ) (tokens : List Token) → ((all : List Token) → HasTokens line all → length all ≤ MOST_TOKENS → tokens ≡ all)
    → (form : RawLine) → Spells line form → read_line (map (lexeme_of line) tokens) ≡ Some (form, [])
read_spelled line tokens only form s =
    let same = only s.tokens s.whole s.few in
    line_complete form _ (subst (λ t. LINE form (map (lexeme_of line) t)) (sym same) s.says)

pub not_read : (line : List ℕ) (tokens : List Token) (lexemes : List Lexeme) → ((all : List Token) → HasTokens line all → length all ≤ MOST_TOKENS → tokens ≡ all)
    → lexemes ≡ map (lexeme_of line) tokens → read_line lexemes ≡ None → (form : RawLine) → Spells line form → ⊥
not_read line tokens lexemes only same none form s =
    let read = sym none ∙ ap read_line same ∙ read_spelled line tokens only form s in cc (read)

-- a line that has a token is not blank
pub not_blank : (line : List ℕ) (tokens : List Token) → tokens ≢ [] → ((all : List Token) → HasTokens line all → length all ≤ MOST_TOKENS → tokens ≡ all)
    → IsBlankLine line → ⊥
not_blank line tokens some only blank = some (only [] blank (lit≤ tt))

-- an answer other than want of memory says that nothing is read
pub refused : (lexemes rest : List Lexeme) (error : LineError) → Reads {A = RawLine} read_line lexemes (Err error) rest → error ≡ Syntax → read_line lexemes ≡ None
refused lexemes rest Syntax reads e = reads
refused lexemes rest OutOfMemory reads e = absurd (cc)

pub refused_only : (lexemes rest : List Lexeme) (error : LineError) (form : RawLine) → Reads {A = RawLine} read_line lexemes (Err error) rest
    → read_line lexemes ≡ Some (form, []) → error ≡ OutOfMemory
refused_only lexemes rest Syntax form reads e = absurd (cc)
refused_only lexemes rest OutOfMemory form reads e = refl

-- a list without elements is the empty one
pub no_tokens : (tokens : List Token) → length tokens ≡ 0 → tokens ≡ []
no_tokens [] none = refl
no_tokens (t ∷ tokens) none = absurd (omega arith)
