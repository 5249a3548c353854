-- Languages: each says which lists of tokens belong to it. A production gives for each value the language that spells it.
use Rattle.std.specs.Prelude.{◌≡◌, ◌⊎◌, ℕ, ◌≤◌, ℤ, pos, ◌-ℤ◌, List, [], ◌∷◌, ◌++◌, codes}
use Rattle.pooma_text.specs.declared.span.Span.{Span}
use Rattle.pooma_text.specs.Number.{value_of}
use Rattle.pooma_parse.specs.Names.{IsName}
use Rattle.pooma_parse.specs.Tokens.{Lexeme, number_token, sign_token, word_token}

abbrev pub Language : Type 1
Language = List Lexeme → Type 0

-- no token
abbrev pub nothing : Language
nothing tokens = tokens ≡ []

-- this list of tokens alone
abbrev pub just : List Lexeme → Language
just some tokens = tokens ≡ some

-- the one, and behind it the other
pub record Then (A B : Language) (tokens : List Lexeme) : Type 0 where
  pub front : List Lexeme
  pub back : List Lexeme
  pub one : A front
  pub other : B back
  pub whole : tokens ≡ front ++ back

infixr 20 ◌⨾◌
abbrev pub ◌⨾◌ : Language → Language → Language
A ⨾ B = Then A B

abbrev pub sign : List ℕ → Language
sign text tokens = (span : Span) × (tokens ≡ sign_token text span ∷ [])

abbrev pub word : List ℕ → Language
word text tokens = (span : Span) × (tokens ≡ word_token text span ∷ [])

-- the language in parentheses
abbrev pub parens : Language → Language
parens inside = sign (codes "(") ⨾ inside ⨾ sign (codes ")")

-- the greatest SMALL
abbrev pub MOST_SMALL : ℕ
MOST_SMALL = 999999999

-- the greatest NUM
abbrev pub MOST_NUM : ℕ
MOST_NUM = 9223372036854775807

-- NAME, which stands at this part of the line
abbrev pub name : Span → Language
name span tokens = (text : List ℕ) × IsName text × (tokens ≡ word_token text span ∷ [])

-- a number of at most so much
abbrev pub number : ℕ → ℤ → Language
number most n tokens = (digits : List ℕ) × (span : Span) × (value_of digits ≤ most) × (n ≡ pos (value_of digits))
    × (tokens ≡ number_token digits span ∷ [])

-- a number of at most so much, or `-` and such a number
abbrev pub signed : ℕ → ℤ → Language
signed most n tokens = number most n tokens
    ⊎ ((m : ℤ) × (n ≡ pos 0 -ℤ m) × (sign (codes "-") ⨾ number most m) tokens)

abbrev pub NUM : ℤ → Language
NUM = number MOST_NUM

abbrev pub SMALL : ℤ → Language
SMALL = number MOST_SMALL

abbrev pub INT : ℤ → Language
INT = signed MOST_SMALL

-- { `,` X }, with a value for each X
abbrev pub followed : {A : Type 0} → (A → Language) → List A → Language
followed X [] = nothing
followed X (x ∷ xs) = sign (codes ",") ⨾ X x ⨾ followed X xs

-- X { `,` X }, with a value for each X
abbrev pub listed : {A : Type 0} → (A → Language) → List A → Language
listed X [] tokens = ⊥
listed X (x ∷ xs) tokens = (X x ⨾ followed X xs) tokens
