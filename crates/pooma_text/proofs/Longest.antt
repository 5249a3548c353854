-- When a token is the longest one where it begins, and when none begins at a place.
use Rattle.std.proofs.Common.{◌≡◌, ℕ, ◌+◌, ◌-◌, ◌<◌, ◌≤◌, ◌⊎◌, inl, inr, List, [], ◌∷◌, length, get_or, sym, ap, ◌∙◌, subst, ⊎_elim, arith}
use Rattle.std.proofs.lemmas.Bool.{cases_eq, cases_lt}
use Rattle.std.specs.Prelude.{Contains}
use Rattle.std.specs.List.{slice_range}
use Rattle.std.specs.Char.{IsAsciiAlphabetic, IsAsciiAlphanumeric, IsAsciiDigit}
use Rattle.pooma_text.specs.declared.token.Token.{Token}
use Rattle.pooma_text.specs.declared.token.TokenKind.{TokenKind}
use Rattle.pooma_text.specs.declared.token.TokenKind.TheVariants.{Word, Number, Sign}
use Rattle.pooma_text.specs.Signs.{double_signs, single_signs}
use Rattle.pooma_text.specs.Tokens.{BeginsNoToken, IsLongest, IsSign, IsToken, IsWord}
use Rattle.pooma_text.proofs.TokenBytes.{All-part, All-part_at, BeginsKind, length-part, length-sign, part-cons, part_begins, part_none, same_kind}

-- the token of a kind between two places
abbrev pub token_between : TokenKind → ℕ → ℕ → Token
token_between kind start end = record { kind = kind; span = record { start = start; end = end } }

-- a token is the longest of any kind where it is the longest of its own
longest_of_kind : (line : List ℕ) (kind : TokenKind) (at end : ℕ) → end ≤ length line → IsToken kind (slice_range line at end)
    → ((e : ℕ) → e ≤ length line → IsToken kind (slice_range line at e) → e ≤ end) → IsLongest line (token_between kind at end)
longest_of_kind line kind at end within fits longest = record {
  within = within;
  fits = fits;
  longest = λ other e within_e fits_e.
      let same : other ≡ kind = same_kind other kind _ (part_begins other line at e within_e fits_e).1 (part_begins kind line at end within fits).1 in
      longest e within_e (subst (λ k. IsToken k (slice_range line at e)) same fits_e);
}

module _ (line : List ℕ) (at end : ℕ) (forward : at + 1 ≤ end) (within : end ≤ length line) where
  -- a letter, and the letters and digits behind it
  pub longest_word : IsAsciiAlphabetic (get_or line at 0) → ((k : ℕ) → at + 1 ≤ k → k < end → IsAsciiAlphanumeric (get_or line k 0))
      → (end < length line → IsAsciiAlphanumeric (get_or line end 0) → ⊥) → IsLongest line (token_between Word at end)
  longest_word letter each stop =
      longest_of_kind line Word at end within
      (subst IsWord (sym (part-cons line at end (omega arith) within)) (letter, All-part IsAsciiAlphanumeric line (at + 1) end within each))
      (λ e within_e fits_e.
      ⊎_elim
      (λ lt. let rest = (subst IsWord (part-cons line at e (omega arith) within_e) fits_e).1 in absurd (stop (omega arith) (All-part_at IsAsciiAlphanumeric line (at + 1) e within_e end forward lt rest)))
      (λ le. le)
      (cases_lt end e))

  -- a digit, and the digits behind it
  pub longest_number : IsAsciiDigit (get_or line at 0) → ((k : ℕ) → at + 1 ≤ k → k < end → IsAsciiDigit (get_or line k 0))
      → (end < length line → IsAsciiDigit (get_or line end 0) → ⊥) → IsLongest line (token_between Number at end)
  longest_number digit each stop =
      let all : (k : ℕ) → at ≤ k → k < end → IsAsciiDigit (get_or line k 0) =
      λ k low high. ⊎_elim (λ e. subst (λ n. IsAsciiDigit (get_or line n 0)) (sym e) digit) (λ other. each k (omega arith) high) (cases_eq k at) in
      longest_of_kind line Number at end within
      ((λ e. let some = part-cons line at end (omega arith) within in cc), All-part IsAsciiDigit line at end within all)
      (λ e within_e fits_e.
      ⊎_elim
      (λ lt. absurd (stop (omega arith) (All-part_at IsAsciiDigit line at e within_e end (omega arith) lt fits_e.1)))
      (λ le. le)
      (cases_lt end e))

-- a sign, and no longer one
pub longest_sign : (line : List ℕ) (at end : ℕ) → end ≤ length line → IsSign (slice_range line at end)
    → ((e : ℕ) → e ≤ length line → IsSign (slice_range line at e) → e ≤ end) → IsLongest line (token_between Sign at end)
longest_sign line at end = longest_of_kind line Sign at end

begins_no_kind : (kind : TokenKind) (line : List ℕ) (at end : ℕ) → (IsAsciiAlphabetic (get_or line at 0) → ⊥) → (IsAsciiDigit (get_or line at 0) → ⊥) → (IsSign (slice_range line at end) → ⊥)
    → BeginsKind kind (get_or line at 0) → IsToken kind (slice_range line at end) → ⊥
begins_no_kind Word line at end letter digit sign h fits = letter h
begins_no_kind Number line at end letter digit sign h fits = digit h
begins_no_kind Sign line at end letter digit sign h fits = sign fits

-- no letter, no digit and no sign
pub begins_none : (line : List ℕ) (at : ℕ) → (IsAsciiAlphabetic (get_or line at 0) → ⊥) → (IsAsciiDigit (get_or line at 0) → ⊥)
    → ((e : ℕ) → e ≤ length line → IsSign (slice_range line at e) → ⊥) → BeginsNoToken line at
begins_none line at letter digit sign = λ kind end forward within fits.
    begins_no_kind kind line at end letter digit (sign end within) (part_begins kind line at end within fits).1 fits

single_part : (line : List ℕ) (at : ℕ) → at + 1 ≤ length line → slice_range line at (at + 1) ≡ get_or line at 0 ∷ []
single_part line at within =
    part-cons line at (at + 1) (omega arith) within ∙ ap (λ l. get_or line at 0 ∷ l) (part_none line (at + 1) (at + 1) (omega arith))

double_part : (line : List ℕ) (at : ℕ) → at + 2 ≤ length line → slice_range line at (at + 2) ≡ get_or line at 0 ∷ get_or line (at + 1) 0 ∷ []
double_part line at within =
    part-cons line at (at + 2) (omega arith) within
    ∙ ap (λ l. get_or line at 0 ∷ l) (part-cons line (at + 1) (at + 2) (omega arith) within ∙ ap (λ l. get_or line (at + 1) 0 ∷ l) (part_none line (at + 1 + 1) (at + 2) (omega arith)))

-- a sign of one byte, and one of two
pub single_sign : (line : List ℕ) (at : ℕ) → at + 1 ≤ length line → Contains single_signs (get_or line at 0) → IsSign (slice_range line at (at + 1))
single_sign line at within h = subst IsSign (sym (single_part line at within)) h

pub double_sign : (line : List ℕ) (at : ℕ) → at + 2 ≤ length line → Contains double_signs (get_or line at 0 ∷ get_or line (at + 1) 0 ∷ []) → IsSign (slice_range line at (at + 2))
double_sign line at within h = subst IsSign (sym (double_part line at within)) h

-- where the signs at a place end
pub sign_ends : (line : List ℕ) (at e : ℕ) → e ≤ length line → IsSign (slice_range line at e)
    → ((e ≡ at + 2) × Contains double_signs (get_or line at 0 ∷ get_or line (at + 1) 0 ∷ [])) ⊎ ((e ≡ at + 1) × Contains single_signs (get_or line at 0))
sign_ends line at e within h =
    let some : at < e = (part_begins Sign line at e within h).0 in
    let short : e - at ≤ 2 = subst (λ n. n ≤ 2) (length-part line at e within) (length-sign (slice_range line at e) h) in
    ⊎_elim
    (λ two. inl (two, subst IsSign (ap (slice_range line at) two ∙ double_part line at (omega arith)) h))
    (λ other. let one : e ≡ at + 1 = omega arith in inr (one, subst IsSign (ap (slice_range line at) one ∙ single_part line at (omega arith)) h))
    (cases_eq e (at + 2))
