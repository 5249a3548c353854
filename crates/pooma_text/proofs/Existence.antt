-- Each line has a reading: its tokens up to the line's end, a comment or a first byte that begins none.
use Rattle.std.proofs.Common.{◌≡◌, ◌≢◌, ℕ, ◌+◌, ◌<◌, ◌≤◌, ◌⊎◌, inl, inr, List, [], ◌∷◌, length, get_or, zero, suc, refl, sym, subst, ⊎_elim, arith}
use Rattle.std.proofs.lemmas.Bool.{cases_eq, cases_lt}
use Rattle.std.proofs.lemmas.List.Elements.{All-nil, All-cons, All-head, All-tail}
use Rattle.std.specs.Prelude.{All, Contains}
use Rattle.std.specs.List.{slice_range}
use Rattle.std.specs.Int.{IsInRange}
use Rattle.std.specs.Char.{IsAsciiAlphabetic, IsAsciiAlphanumeric, IsAsciiDigit}
use Rattle.pooma_text.specs.declared.token.Token.{Token}
use Rattle.pooma_text.specs.declared.token.TokenKind.{TokenKind}
use Rattle.pooma_text.specs.declared.token.TokenKind.TheVariants.{Word, Number, Sign}
use Rattle.pooma_text.specs.Signs.{double_signs, single_signs}
use Rattle.pooma_text.specs.Tokens.{AreBlanks, BeginsNoToken, COMMENT, HasStray, HasTokens, IsBlank, IsEndAt, IsLongest, IsStrayAt, IsToken, Runs}
use Rattle.pooma_text.proofs.Readings.{NoBlankAt, begins}

-- a fact holds, or it does not
abbrev Or_not : Type 0 → Type 0
Or_not P = P ⊎ (P → ⊥)

both_or_not : (P Q : Type 0) → Or_not P → Or_not Q → Or_not (P × Q)
both_or_not P Q (inl p) (inl q) = inl (p, q)
both_or_not P Q (inl p) (inr fails) = inr (λ h. fails h.1)
both_or_not P Q (inr fails) q = inr (λ h. fails h.0)

either_or_not : (P Q : Type 0) → Or_not P → Or_not Q → Or_not (P ⊎ Q)
either_or_not P Q (inl p) q = inl (inl p)
either_or_not P Q (inr fails) (inl q) = inl (inr q)
either_or_not P Q (inr fails) (inr neither) = inr (⊎_elim fails neither)

range_or_not : (low high b : ℕ) → Or_not (IsInRange low high b)
range_or_not low high b =
    ⊎_elim (λ below. inr (λ h. omega arith)) (λ from. ⊎_elim (λ above. inr (λ h. omega arith)) (λ to. inl (from, to)) (cases_lt high b)) (cases_lt b low)

letter_or_not : (b : ℕ) → Or_not (IsAsciiAlphabetic b)
letter_or_not b = either_or_not _ _ (range_or_not 65 90 b) (range_or_not 97 122 b)

alphanumeric_or_not : (b : ℕ) → Or_not (IsAsciiAlphanumeric b)
alphanumeric_or_not b = either_or_not _ _ (either_or_not _ _ (range_or_not 48 57 b) (range_or_not 65 90 b)) (range_or_not 97 122 b)

blank_or_not : (b : ℕ) → Or_not (IsBlank b)
blank_or_not b = either_or_not _ _ (cases_eq b 32) (either_or_not _ _ (cases_eq b 9) (cases_eq b 13))

all_or_not : (P : ℕ → Type 0) → ((b : ℕ) → Or_not (P b)) → (bytes : List ℕ) → Or_not (All P bytes)
all_or_not P or_not [] = inl (All-nil P)
all_or_not P or_not (b ∷ bytes) =
    ⊎_elim
    (λ here. ⊎_elim (λ rest. inl (All-cons P b bytes here rest)) (λ fails. inr (λ h. fails (All-tail P b bytes h))) (all_or_not P or_not bytes))
    (λ fails. inr (λ h. fails (All-head P b bytes h)))
    (or_not b)

same_or_not : (bytes others : List ℕ) → Or_not (bytes ≡ others)
same_or_not [] [] = inl refl
same_or_not [] (c ∷ others) = inr (λ e. cc)
same_or_not (b ∷ bytes) [] = inr (λ e. cc)
same_or_not (b ∷ bytes) (c ∷ others) =
    ⊎_elim
    (λ first. ⊎_elim (λ rest. inl (λ i. first i ∷ rest i)) (λ fails. inr (λ e. fails (cc))) (same_or_not bytes others))
    (λ fails. inr (λ e. fails (cc)))
    (cases_eq b c)

contained_front : {X : Type 0} (y : X) (xs : List X) (x : X) (k : ℕ) → k < length (y ∷ xs) → get_or (y ∷ xs) k x ≡ x → (y ≡ x) ⊎ Contains xs x
contained_front y xs x zero within e = inl e
contained_front y xs x (suc k) within e = inr (k, omega arith, e)

contained_or_not : {X : Type 0} → ((a b : X) → Or_not (a ≡ b)) → (xs : List X) (x : X) → Or_not (Contains xs x)
contained_or_not same [] x = inr (λ h. let past : h.0 < 0 = h.1 in omega arith)
contained_or_not same (y ∷ xs) x =
    ⊎_elim
    (λ e. inl (0, omega arith, e))
    (λ other.
    ⊎_elim
    (λ h. let within : h.0 < length xs = h.1 in inl (suc h.0, omega arith, h.2))
    (λ fails. inr (λ h. ⊎_elim other fails (contained_front y xs x h.0 h.1 h.2)))
    (contained_or_not same xs x))
    (same y x)

some_or_not : (bytes : List ℕ) → Or_not (bytes ≢ [])
some_or_not [] = inr (λ h. h refl)
some_or_not (b ∷ bytes) = inl (λ e. cc)

token_or_not : (kind : TokenKind) (bytes : List ℕ) → Or_not (IsToken kind bytes)
token_or_not Word [] = inr (λ h. h)
token_or_not Word (b ∷ bytes) = both_or_not _ _ (letter_or_not b) (all_or_not IsAsciiAlphanumeric alphanumeric_or_not bytes)
token_or_not Number bytes = both_or_not _ _ (some_or_not bytes) (all_or_not IsAsciiDigit (range_or_not 48 57) bytes)
token_or_not Sign [] = inr (λ h. h)
token_or_not Sign (b ∷ []) = contained_or_not cases_eq single_signs b
token_or_not Sign (b ∷ c ∷ bytes) = contained_or_not same_or_not double_signs (b ∷ c ∷ bytes)

-- the bytes are a token of some kind
abbrev IsSomeToken : List ℕ → Type 0
IsSomeToken bytes = (kind : TokenKind) × IsToken kind bytes

no_kind : (bytes : List ℕ) (kind : TokenKind) → (IsToken Word bytes → ⊥) → (IsToken Number bytes → ⊥) → (IsToken Sign bytes → ⊥) → IsToken kind bytes → ⊥
no_kind bytes Word word number sign h = word h
no_kind bytes Number word number sign h = number h
no_kind bytes Sign word number sign h = sign h

some_token_or_not : (bytes : List ℕ) → Or_not (IsSomeToken bytes)
some_token_or_not bytes =
    ⊎_elim
    (λ h. inl (Word, h))
    (λ word.
    ⊎_elim
    (λ h. inl (Number, h))
    (λ number. ⊎_elim (λ h. inl (Sign, h)) (λ sign. inr (λ h. no_kind bytes h.0 word number sign h.1)) (token_or_not Sign bytes))
    (token_or_not Number bytes))
    (token_or_not Word bytes)

-- the greatest number up to n of which a fact holds, or none
greatest : (P : ℕ → Type 0) → ((e : ℕ) → Or_not (P e)) → (n : ℕ) → ((e : ℕ) × (e ≤ n) × P e × ((d : ℕ) → d ≤ n → P d → d ≤ e)) ⊎ ((d : ℕ) → d ≤ n → P d → ⊥)
greatest P or_not zero =
    ⊎_elim
    (λ h. inl (0, omega arith, h, λ d low other. low))
    (λ fails. inr (λ d low h. fails (subst P (let e : d ≡ 0 = omega arith in e) h)))
    (or_not 0)
greatest P or_not (suc n) =
    ⊎_elim
    (λ h. inl (suc n, omega arith, h, λ d low other. low))
    (λ fails.
    ⊎_elim
    (λ g.
    let within : g.0 ≤ n = g.1 in
    inl (g.0, omega arith, g.2, λ d low h. ⊎_elim (λ e. absurd (fails (subst P e h))) (λ other. g.3 d (omega arith) h) (cases_eq d (suc n))))
    (λ none. inr (λ d low h. ⊎_elim (λ e. fails (subst P e h)) (λ other. none d (omega arith) h) (cases_eq d (suc n))))
    (greatest P or_not n))
    (or_not (suc n))

-- a longest token begins at a place, or none does
token_from : (line : List ℕ) (at : ℕ) → ((t : Token) × (t.span.start ≡ at) × IsLongest line t) ⊎ BeginsNoToken line at
token_from line at =
    ⊎_elim
    (λ g. inl (record { kind = g.2.0; span = record { start = at; end = g.0 } }, refl, record { within = g.1; fits = g.2.1; longest = λ kind end within fits. g.3 end within (kind, fits) }))
    (λ none. inr (λ kind end forward within fits. none end within (kind, fits)))
    (greatest (λ e. IsSomeToken (slice_range line at e)) (λ e. some_token_or_not (slice_range line at e)) (length line))

blanks_none : (line : List ℕ) (at : ℕ) → at ≤ length line → AreBlanks line at at
blanks_none line at within = record { forward = omega arith; within = within; each = λ k low high. absurd (omega arith) }

blanks_cons : (line : List ℕ) (at to : ℕ) → IsBlank (get_or line at 0) → AreBlanks line (at + 1) to → AreBlanks line at to
blanks_cons line at to blank h =
    let forward : at + 1 ≤ to = h.forward in
    record {
      forward = omega arith;
      within = h.within;
      each = λ k low high. ⊎_elim (λ e. subst (λ n. IsBlank (get_or line n 0)) (sym e) blank) (λ other. h.each k (omega arith) high) (cases_eq k at);
    }

-- the blanks from a place on end somewhere
blanks_from : (line : List ℕ) (n at : ℕ) → at ≤ length line → length line ≤ at + n → (to : ℕ) × AreBlanks line at to × NoBlankAt line to
blanks_from line zero at within enough = (at, blanks_none line at within, λ past. absurd (omega arith))
blanks_from line (suc n) at within enough =
    ⊎_elim
    (λ inside.
    ⊎_elim
    (λ blank. let rest = blanks_from line n (at + 1) (omega arith) (omega arith) in (rest.0, blanks_cons line at rest.0 blank rest.1, rest.2))
    (λ fails. (at, blanks_none line at within, λ h. fails))
    (blank_or_not (get_or line at 0)))
    (λ past. (at, blanks_none line at within, λ h. absurd (omega arith)))
    (cases_lt at (length line))

-- tokens from a place on, up to where they stop
abbrev Reading : List ℕ → ℕ → Type 0
Reading line at = (ts : List Token) × (to : ℕ) × Runs line at ts to × (IsEndAt line to ⊎ IsStrayAt line to)

one_more : (line : List ℕ) (at to : ℕ) (t : Token) → AreBlanks line at to → t.span.start ≡ to → IsLongest line t → Reading line t.span.end → Reading line at
one_more line at to t blanks start longest rest = (t ∷ rest.0, rest.1, (subst (AreBlanks line at) (sym start) blanks, longest, rest.2), rest.3)

reading_from : (line : List ℕ) (n at : ℕ) → at ≤ length line → length line ≤ at + n → Reading line at
reading_from line zero at within enough = ([], at, blanks_none line at within, inl (inl (omega arith)))
reading_from line (suc n) at within enough =
    let blanks = blanks_from line (suc n) at within enough in
    let to : ℕ = blanks.0 in
    let forward : at ≤ to = blanks.1.forward in
    let inside : to ≤ length line = blanks.1.within in
    ⊎_elim
    (λ end. ([], to, blanks.1, inl (inl end)))
    (λ before.
    ⊎_elim
    (λ comment. ([], to, blanks.1, inl (inr (let lt : to < length line = omega arith in lt, comment))))
    (λ no_comment.
    ⊎_elim
    (λ found.
    let t : Token = found.0 in
    let start : t.span.start ≡ to = found.1 in
    let some : t.span.start < t.span.end = (begins line t found.2).0 in
    let within_t : t.span.end ≤ length line = found.2.within in
    one_more line at to t blanks.1 start found.2 (reading_from line n t.span.end within_t (omega arith)))
    (λ none. let lt : to < length line = omega arith in ([], to, blanks.1, inr (record { within = lt; not_blank = blanks.2 lt; no_comment = no_comment; no_token = none })))
    (token_from line to))
    (cases_eq (get_or line to 0) COMMENT))
    (cases_eq to (length line))

-- a line has a list of tokens, or a first byte that begins none
pub some_reading : (line : List ℕ) → ((all : List Token) × HasTokens line all) ⊎ ((before : List Token) × (place : ℕ) × HasStray line before place)
some_reading line =
    let r = reading_from line (length line) 0 (omega arith) (omega arith) in
    ⊎_elim (λ end. inl (r.0, (r.1, r.2, end))) (λ stray. inr (r.0, r.1, (r.2, stray))) r.3
