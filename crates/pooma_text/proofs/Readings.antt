-- A line has one reading: its tokens, and the place where they stop, are determined.
use Rattle.std.proofs.Common.{◌≡◌, ℕ, ◌<◌, ◌≤◌, inl, inr, List, [], ◌∷◌, ◌++◌, length, get_or, refl, sym, subst, ⊎_elim, arith}
use Rattle.std.proofs.lemmas.Bool.{cases_order}
use Rattle.std.specs.List.{slice_range}
use Rattle.pooma_text.specs.declared.token.Token.{Token}
use Rattle.pooma_text.specs.declared.token.TokenKind.{TokenKind}
use Rattle.pooma_text.specs.Tokens.{AreBlanks, BeginsWith, COMMENT, HasStray, HasTokens, IsBlank, IsEndAt, IsLongest, IsStrayAt, IsToken, Runs}
use Rattle.pooma_text.proofs.TokenBytes.{BeginsKind, begins_kind-not_blank, begins_kind-not_comment, part_begins, same_kind}

-- no blank stands at a place
abbrev pub NoBlankAt : List ℕ → ℕ → Type 0
NoBlankAt line at = at < length line → IsBlank (get_or line at 0) → ⊥

-- blanks alone reach to one place at most that is no blank
same_end : (line : List ℕ) (from a b : ℕ) → AreBlanks line from a → AreBlanks line from b → NoBlankAt line a → NoBlankAt line b → a ≡ b
same_end line from a b h k no_a no_b =
    ⊎_elim (λ e. e)
    (λ less.
    ⊎_elim
    (λ lt. let within : b ≤ length line = k.within in absurd (no_a (omega arith) (k.each a h.forward lt)))
    (λ lt. let within : a ≤ length line = h.within in absurd (no_b (omega arith) (h.each b k.forward lt)))
    less)
    (cases_order a b)

module _ (line : List ℕ) (t : Token) (h : IsLongest line t) where
  pub begins : (t.span.start < t.span.end) × BeginsKind t.kind (get_or line t.span.start 0)
  begins = part_begins t.kind line t.span.start t.span.end h.within h.fits

  token_no_blank : NoBlankAt line t.span.start
  token_no_blank within = begins_kind-not_blank t.kind _ begins.1

-- two longest tokens at one place are one
same_token : (line : List ℕ) (t u : Token) → IsLongest line t → IsLongest line u → t.span.start ≡ u.span.start → t ≡ u
same_token line t u h k start =
    let at_most : t.span.end ≤ u.span.end = k.longest t.kind t.span.end h.within (subst (λ s. IsToken t.kind (slice_range line s t.span.end)) start h.fits) in
    let at_least : u.span.end ≤ t.span.end = h.longest u.kind u.span.end k.within (subst (λ s. IsToken u.kind (slice_range line s u.span.end)) (sym start) k.fits) in
    let end : t.span.end ≡ u.span.end = omega arith in
    let kind : t.kind ≡ u.kind = same_kind t.kind u.kind _ (begins line t h).1 (subst (λ s. BeginsKind u.kind (get_or line s 0)) (sym start) (begins line u k).1) in
    λ i. record { kind = kind i; span = record { start = start i; end = end i } }

-- tokens stop at a place, for the line's end, a comment or a stray byte
pub record IsStopAt (line : List ℕ) (at : ℕ) : Type 0 where
  pub no_blank : NoBlankAt line at
  pub no_token : (kind : TokenKind) (end : ℕ) → end ≤ length line → IsToken kind (slice_range line at end) → ⊥

pub stop-end : (line : List ℕ) (at : ℕ) → IsEndAt line at → IsStopAt line at
stop-end line at (inl e) = record {
  no_blank = λ within. absurd (omega arith);
  no_token = λ kind end within fits. let lt : at < end = (part_begins kind line at end within fits).0 in omega arith;
}
stop-end line at (inr h) = record {
  no_blank = λ within blank. let comment : get_or line at 0 ≡ COMMENT = h.1 in omega arith;
  no_token = λ kind end within fits. begins_kind-not_comment kind _ (part_begins kind line at end within fits).1 h.1;
}

pub stop-stray : (line : List ℕ) (at : ℕ) → IsStrayAt line at → IsStopAt line at
stop-stray line at h = record {
  no_blank = λ within. h.not_blank;
  no_token = λ kind end within fits. let lt : at < end = (part_begins kind line at end within fits).0 in h.no_token kind end (omega arith) within fits;
}

-- where tokens stop none goes on
no_token_behind : (line : List ℕ) (from at : ℕ) (t : Token) → AreBlanks line from at → IsStopAt line at → AreBlanks line from t.span.start → IsLongest line t → ⊥
no_token_behind line from at t h stop k longest =
    let same : t.span.start ≡ at = same_end line from t.span.start at k h (token_no_blank line t longest) stop.no_blank in
    stop.no_token t.kind t.span.end longest.within (subst (λ s. IsToken t.kind (slice_range line s t.span.end)) same longest.fits)

-- Two runs of tokens from one place, of which the first stops: the second is no longer, and the same if it stops too.
pub runs_agree : (line : List ℕ) (from : ℕ) (ts us : List Token) (a b : ℕ) → Runs line from ts a → IsStopAt line a → Runs line from us b
    → (length us ≤ length ts) × (IsStopAt line b → (ts ≡ us) × (a ≡ b))
runs_agree line from [] [] a b h stop k = (omega arith, λ other. (refl, same_end line from a b h k stop.no_blank other.no_blank))
runs_agree line from [] (u ∷ us) a b h stop k = absurd (no_token_behind line from a u h stop k.0 k.1)
runs_agree line from (t ∷ ts) [] a b h stop k = (omega arith, λ other. absurd (no_token_behind line from b t k other h.0 h.1))
runs_agree line from (t ∷ ts) (u ∷ us) a b h stop k =
    let start : t.span.start ≡ u.span.start = same_end line from t.span.start u.span.start h.0 k.0 (token_no_blank line t h.1) (token_no_blank line u k.1) in
    let same : t ≡ u = same_token line t u h.1 k.1 start in
    let rest : Runs line t.span.end us b = subst (λ (v : Token). Runs line v.span.end us b) (sym same) k.2 in
    let agree = runs_agree line t.span.end ts us a b h.2 stop rest in
    let shorter : length us ≤ length ts = agree.0 in
    (omega arith, λ other. let both : (ts ≡ us) × (a ≡ b) = agree.1 other in (λ i. same i ∷ both.0 i, both.1))

-- a line has one list of tokens
pub one_list : (line : List ℕ) (a b : List Token) → HasTokens line a → HasTokens line b → a ≡ b
one_list line a b h k = ((runs_agree line 0 a b h.0 k.0 h.1 (stop-end line h.0 h.2) k.1).1 (stop-end line k.0 k.2)).0

-- a line has one stray place, and one list of tokens before it
pub one_stray : (line : List ℕ) (a b : List Token) (p q : ℕ) → HasStray line a p → HasStray line b q → (a ≡ b) × (p ≡ q)
one_stray line a b p q h k = (runs_agree line 0 a b p q h.0 (stop-stray line p h.1) k.0).1 (stop-stray line q k.1)

not_end-stray : (line : List ℕ) (at : ℕ) → IsStrayAt line at → IsEndAt line at → ⊥
not_end-stray line at h (inl e) = let within : at < length line = h.within in omega arith
not_end-stray line at h (inr e) = h.no_comment e.1

-- a line with a stray byte has no list of tokens
pub no_list-stray : (line : List ℕ) (before all : List Token) (place : ℕ) → HasStray line before place → HasTokens line all → ⊥
no_list-stray line before all place h k =
    let same : place ≡ k.0 = ((runs_agree line 0 before all place k.0 h.0 (stop-stray line place h.1) k.1).1 (stop-end line k.0 k.2)).1 in
    not_end-stray line k.0 (subst (IsStrayAt line) same h.1) k.2

-- a line begins with no more tokens than it has, nor than it has before a stray byte
pub begins-at_most : (line : List ℕ) (all front : List Token) → HasTokens line all → BeginsWith line front → length front ≤ length all
begins-at_most line all front h k = (runs_agree line 0 all front h.0 k.0 h.1 (stop-end line h.0 h.2) k.1).0

pub begins-at_most_stray : (line : List ℕ) (before front : List Token) (place : ℕ) → HasStray line before place → BeginsWith line front → length front ≤ length before
begins-at_most_stray line before front place h k = (runs_agree line 0 before front place k.0 h.0 (stop-stray line place h.1) k.1).0

-- one token more
pub Runs-push : (line : List ℕ) (from : ℕ) (ts : List Token) (t : Token) (a b : ℕ) → Runs line from ts a → t.span.start ≡ a → IsLongest line t → AreBlanks line t.span.end b → Runs line from (ts ++ t ∷ []) b
Runs-push line from [] t a b h start longest blanks = (subst (AreBlanks line from) (sym start) h, longest, blanks)
Runs-push line from (u ∷ ts) t a b h start longest blanks = (h.0, h.1, Runs-push line u.span.end ts t a b h.2 start longest blanks)

pub begins-push : (line : List ℕ) (ts : List Token) (t : Token) (a : ℕ) → Runs line 0 ts a → t.span.start ≡ a → IsLongest line t → BeginsWith line (ts ++ t ∷ [])
begins-push line ts t a h start longest =
    let none : AreBlanks line t.span.end t.span.end = record { forward = omega arith; within = longest.within; each = λ k low high. absurd (omega arith) } in
    (t.span.end, Runs-push line 0 ts t a t.span.end h start longest none)

pub Runs-within : (line : List ℕ) (from : ℕ) (ts : List Token) (to : ℕ) → Runs line from ts to → to ≤ length line
Runs-within line from [] to h = h.within
Runs-within line from (t ∷ ts) to h = Runs-within line t.span.end ts to h.2
