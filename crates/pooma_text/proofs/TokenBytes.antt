-- What a token's first byte tells of it, and the bytes of a part of a line.
use Rattle.std.proofs.Common.{◌≡◌, ℕ, ◌+◌, ◌-◌, ◌<◌, ◌≤◌, inl, inr, Bool, true, false, not, ◌&&◌, eqb, List, [], ◌∷◌, length, get_or, take, drop, refl, sym, ap, ◌∙◌, subst, suc, ⊎_elim, arith, length-take-le, length-drop, get_or-take, get_or-drop}
use Rattle.std.specs.Prelude.{All, Contains}
use Rattle.std.specs.List.{list_all, slice_range}
use Rattle.std.specs.Char.{IsAsciiAlphabetic, IsAsciiAlphanumeric, IsAsciiDigit, is_ascii_punctuation}
use Rattle.std.proofs.lemmas.List.{drop_more}
use Rattle.std.proofs.lemmas.List.Elements.{All-from_get_or, All-head}
use Rattle.std.proofs.lemmas.List.Folds.{list_all_at}
use Rattle.std.proofs.lemmas.Bool.{cases_Bool, cases_lt, false≢true, and_parts}
use Rattle.std.proofs.lemmas.Bool.Decides.{nat_tests}
use Rattle.pooma_text.specs.declared.token.TokenKind.{TokenKind}
use Rattle.pooma_text.specs.declared.token.TokenKind.TheVariants.{Word, Number, Sign}
use Rattle.pooma_text.specs.Signs.{double_signs, single_signs}
use Rattle.pooma_text.specs.Tokens.{COMMENT, IsBlank, IsSign, IsToken}

-- a test that each element passes holds of one that the list contains
passes-contains : {X : Type 0} (test : X → Bool) (xs : List X) (x : X) → list_all test xs ≡ true → Contains xs x → test x ≡ true
passes-contains test xs x all h =
    let here : test (get_or xs h.0 x) ≡ true =
    ⊎_elim (λ t. t) (λ f. absurd (false≢true (sym (list_all_at test xs h.0 x h.1 f) ∙ all))) (cases_Bool (test (get_or xs h.0 x))) in
    subst (λ y. test y ≡ true) h.2 here

-- every sign begins with such a byte
abbrev is_sign_byte : ℕ → Bool
is_sign_byte b = is_ascii_punctuation b && not (eqb b COMMENT)

-- a sign of two bytes: such a byte and `=`
abbrev is_double : List ℕ → Bool
is_double [] = false
is_double (b ∷ []) = false
is_double (b ∷ c ∷ []) = is_sign_byte b && eqb c 61
is_double (b ∷ c ∷ d ∷ bytes) = false

-- what the first byte of a token of a kind is
abbrev pub BeginsKind : TokenKind → ℕ → Type 0
BeginsKind Word b = IsAsciiAlphabetic b
BeginsKind Number b = IsAsciiDigit b
BeginsKind Sign b = is_sign_byte b ≡ true

begins_kind : (kind : TokenKind) (b : ℕ) (bytes : List ℕ) → IsToken kind (b ∷ bytes) → BeginsKind kind b
begins_kind Word b bytes h = h.0
begins_kind Number b bytes h = All-head IsAsciiDigit b bytes h.1
begins_kind Sign b [] h = passes-contains is_sign_byte single_signs b refl h
begins_kind Sign b (c ∷ []) h = (and_parts _ _ (passes-contains is_double double_signs (b ∷ c ∷ []) refl h)).0
begins_kind Sign b (c ∷ d ∷ bytes) h = absurd (false≢true (passes-contains is_double double_signs (b ∷ c ∷ d ∷ bytes) refl h))

-- a sign has one or two bytes
pub length-sign : (bytes : List ℕ) → IsSign bytes → length bytes ≤ 2
length-sign [] h = absurd h
length-sign (b ∷ []) h = omega arith
length-sign (b ∷ c ∷ []) h = omega arith
length-sign (b ∷ c ∷ d ∷ bytes) h = absurd (false≢true (passes-contains is_double double_signs (b ∷ c ∷ d ∷ bytes) refl h))

not_nothing : (kind : TokenKind) → IsToken kind [] → ⊥
not_nothing Word h = h
not_nothing Number h = h.0 refl
not_nothing Sign h = h

-- no letter and no digit begins a sign
letter_or_digit_no_sign : (b : ℕ) → is_sign_byte b ≡ true → IsAsciiAlphanumeric b → ⊥
letter_or_digit_no_sign b h k = grind (arith, nat_tests)

-- no byte begins tokens of two kinds
pub same_kind : (kind other : TokenKind) (b : ℕ) → BeginsKind kind b → BeginsKind other b → kind ≡ other
same_kind Word Word b h k = refl
same_kind Word Number b h k = absurd (omega arith)
same_kind Word Sign b h k = absurd (letter_or_digit_no_sign b k (⊎_elim (λ upper. inl (inr upper)) (λ lower. inr lower) h))
same_kind Number Word b h k = absurd (omega arith)
same_kind Number Number b h k = refl
same_kind Number Sign b h k = absurd (letter_or_digit_no_sign b k (inl (inl h)))
same_kind Sign Word b h k = absurd (letter_or_digit_no_sign b h (⊎_elim (λ upper. inl (inr upper)) (λ lower. inr lower) k))
same_kind Sign Number b h k = absurd (letter_or_digit_no_sign b h (inl (inl k)))
same_kind Sign Sign b h k = refl

-- no blank begins a token
pub begins_kind-not_blank : (kind : TokenKind) (b : ℕ) → BeginsKind kind b → IsBlank b → ⊥
begins_kind-not_blank Word b h k = omega arith
begins_kind-not_blank Number b h k = omega arith
begins_kind-not_blank Sign b h k =
    let at : (c : ℕ) → b ≡ c → is_sign_byte c ≡ true = λ c e. subst (λ n. is_sign_byte n ≡ true) e h in
    ⊎_elim (λ e. false≢true (at 32 e)) (⊎_elim (λ e. false≢true (at 9 e)) (λ e. false≢true (at 13 e))) k

-- a comment's first byte begins no token
pub begins_kind-not_comment : (kind : TokenKind) (b : ℕ) → BeginsKind kind b → b ≡ COMMENT → ⊥
begins_kind-not_comment Word b h k = omega arith
begins_kind-not_comment Number b h k = omega arith
begins_kind-not_comment Sign b h k = false≢true (subst (λ n. is_sign_byte n ≡ true) k h)

-- a part of a line is its first byte and the part behind it
pub part-cons : (line : List ℕ) (start end : ℕ) → start < end → end ≤ length line → slice_range line start end ≡ get_or line start 0 ∷ slice_range line (start + 1) end
part-cons line start end some within =
    let width : end - start ≡ suc (end - (start + 1)) = omega arith in
    (λ i. take (width i) (drop_more line start 0 (omega arith) i))

pub part_none : (line : List ℕ) (start end : ℕ) → end ≤ start → slice_range line start end ≡ []
part_none line start end none = let width : end - start ≡ 0 = omega arith in ap (λ n. take n (drop start line)) width

pub length-part : (line : List ℕ) (start end : ℕ) → end ≤ length line → length (slice_range line start end) ≡ end - start
length-part line start end within = length-take-le (end - start) (drop start line) (omega (arith, length-drop start line))

-- a byte of a part
get_or-part : (line : List ℕ) (start end k : ℕ) → start ≤ k → k < end → get_or (slice_range line start end) (k - start) 0 ≡ get_or line k 0
get_or-part line start end k low high =
    let below : k - start < end - start = omega arith in
    let same : start + (k - start) ≡ k = omega arith in
    get_or-take (end - start) (drop start line) (k - start) 0 below ∙ get_or-drop start line (k - start) 0 ∙ ap (λ n. get_or line n 0) same

module _ (P : ℕ → Type 0) (line : List ℕ) (start end : ℕ) (within : end ≤ length line) where
  -- what holds of each byte of a part, by their places in the line
  pub All-part : ((k : ℕ) → start ≤ k → k < end → P (get_or line k 0)) → All P (slice_range line start end)
  All-part each =
      All-from_get_or P _ 0 (λ i lt.
      let below : i < end - start = omega (arith, length-part line start end within) in
      subst P (sym (get_or-take (end - start) (drop start line) i 0 below ∙ get_or-drop start line i 0)) (each (start + i) (omega arith) (omega arith)))

  pub All-part_at : (k : ℕ) → start ≤ k → k < end → All P (slice_range line start end) → P (get_or line k 0)
  All-part_at k low high all =
      subst P (get_or-part line start end k low high) (all (k - start) 0 (omega (arith, length-part line start end within)))

-- a token stands at its first byte
pub part_begins : (kind : TokenKind) (line : List ℕ) (start end : ℕ) → end ≤ length line → IsToken kind (slice_range line start end) → (start < end) × BeginsKind kind (get_or line start 0)
part_begins kind line start end within h =
    ⊎_elim
    (λ lt. (lt, begins_kind kind _ _ (subst (IsToken kind) (part-cons line start end lt within) h)))
    (λ le. absurd (not_nothing kind (subst (IsToken kind) (part_none line start end le) h)))
    (cases_lt start end)
