-- The lines of a text, and where each of them stands.
use Rattle.std.specs.Prelude.{◌≡◌, ◌≢◌, ℕ, ◌+◌, ◌≤◌, ◌==◌, List, [], ◌∷◌, ◌++◌, length, if◌then◌else◌, All, flat_map, slice_range, ◌⊎◌}
use Rattle.pooma_text.specs.declared.span.Span.{Span}

-- the byte that ends a line
abbrev pub LINE_END : ℕ
LINE_END = 10

-- the lines with the byte at the front of the first of them, which may be new
abbrev pub with_front_byte : ℕ → List (List ℕ) → List (List ℕ)
with_front_byte b [] = (b ∷ []) ∷ []
with_front_byte b (line ∷ lines) = (b ∷ line) ∷ lines

-- The bytes are cut at each line end, which belongs to no line. Where nothing follows the last line end, no line does.
abbrev pub lines_of : List ℕ → List (List ℕ)
lines_of [] = []
lines_of (b ∷ bytes) = if b == LINE_END then [] ∷ lines_of bytes else with_front_byte b (lines_of bytes)

-- the lines one after another, each with its line end
abbrev pub ended : List (List ℕ) → List ℕ
ended lines = flat_map (λ line. line ++ LINE_END ∷ []) lines

-- The bytes are these lines, each ended; the last one may lack its end, where it has some byte. No line holds a line end.
pub record AreLines (bytes : List ℕ) (lines : List (List ℕ)) : Type 0 where
  pub whole : (bytes ≡ ended lines) ⊎ ((front : List (List ℕ)) × (last : List ℕ) × (lines ≡ front ++ last ∷ []) × (last ≢ []) × (bytes ≡ ended front ++ last))
  pub each : All (λ line. All (λ b. b ≢ LINE_END) line) lines

-- the part of the bytes from a span's start up to its end
abbrev pub text_at : List ℕ → Span → List ℕ
text_at bytes span = slice_range bytes span.start span.end

-- where the lines stand, if the first of them begins at a place: one line end lies between two lines
abbrev pub spans_from : ℕ → List (List ℕ) → List Span
spans_from at [] = []
spans_from at (line ∷ lines) = record { start = at; end = at + length line } ∷ spans_from (at + length line + 1) lines

-- the span is a part of the bytes
pub record IsPart (bytes : List ℕ) (span : Span) : Type 0 where
  pub forward : span.start ≤ span.end
  pub within : span.end ≤ length bytes
