-- A reader that reads a language and nothing else, and what it takes to show it.
use Rattle.std.proofs.Common.{◌≡◌, ◌⊎◌, Bool, true, false, if◌then◌else◌, List, [], ◌++◌, Option, Some, None, refl, sym, ap, ◌∙◌, subst, inl, inr, append_assoc}
use Rattle.pooma_parse.specs.Languages.{Language, nothing, ◌⨾◌}
use Rattle.pooma_parse.specs.Reader.{Reader, and_then}
use Rattle.pooma_parse.specs.Tokens.{Lexeme}

-- the tokens begin with some of the language, and the rest is behind them
pub record Begins (L : Language) (tokens rest : List Lexeme) : Type 0 where
  pub front : List Lexeme
  pub spelled : L front
  pub whole : tokens ≡ front ++ rest

-- What is read is of the value's language. What begins with a value's language is read so, where what follows may follow.
pub record Exact {A : Type 0} (F : List Lexeme → Type 0) (L : A → Language) (p : Reader A) : Type 0 where
  pub sound : (tokens rest : List Lexeme) (v : A) → p tokens ≡ Some (v, rest) → Begins (L v) tokens rest
  pub complete : (tokens rest : List Lexeme) (v : A) → Begins (L v) tokens rest → F rest → p tokens ≡ Some (v, rest)

abbrev pub Any : List Lexeme → Type 0
Any rest = Unit {0}

-- ---- the parts of a concatenation

pub then_begins : {A B : Language} {tokens mid rest : List Lexeme} → Begins A tokens mid → Begins B mid rest → Begins (A ⨾ B) tokens rest
then_begins {tokens = tokens} {rest = rest} a b = record {
  front = a.front ++ b.front;
  spelled = record { front = a.front; back = b.front; one = a.spelled; other = b.spelled; whole = refl };
  whole = a.whole ∙ ap (λ s. a.front ++ s) b.whole ∙ sym (append_assoc a.front b.front rest);
}

-- a concatenation at the front, as its two parts with a place between them
pub record Cut (A B : Language) (tokens rest : List Lexeme) : Type 0 where
  pub mid : List Lexeme
  pub one : Begins A tokens mid
  pub other : Begins B mid rest

pub cut : {A B : Language} {tokens rest : List Lexeme} → Begins (A ⨾ B) tokens rest → Cut A B tokens rest
cut {rest = rest} w = let t = w.spelled in record {
  mid = t.back ++ rest;
  one = record { front = t.front; spelled = t.one; whole = w.whole ∙ ap (λ s. s ++ rest) t.whole ∙ append_assoc t.front t.back rest };
  other = record { front = t.back; spelled = t.other; whole = refl };
}

pub nothing_begins : (tokens : List Lexeme) → Begins nothing tokens tokens
nothing_begins tokens = record { front = []; spelled = refl; whole = refl }

pub nothing_ends : {tokens rest : List Lexeme} → Begins nothing tokens rest → tokens ≡ rest
nothing_ends {tokens} {rest} w = w.whole ∙ ap (λ s. s ++ rest) w.spelled

-- ---- steps of a reader

-- what was read first, where something was read in two steps
pub record First {A B : Type 0} (o : Option (A × List Lexeme)) (f : A → Reader B) (w : B) (rest : List Lexeme) : Type 0 where
  pub value : A
  pub mid : List Lexeme
  pub read : o ≡ Some (value, mid)
  pub more : f value mid ≡ Some (w, rest)

pub first_of_two : {A B : Type 0} (o : Option (A × List Lexeme)) (f : A → Reader B) {w : B} {rest : List Lexeme} → and_then o f ≡ Some (w, rest) → First o f w rest
first_of_two None f e = absurd (cc)
first_of_two (Some p) f e = record { value = p.0; mid = p.1; read = refl; more = e }

-- what was read first, with its language
pub record Stepped {A B : Type 0} (L : A → Language) (tokens : List Lexeme) (f : A → Reader B) (w : B) (rest : List Lexeme) : Type 0 where
  pub value : A
  pub mid : List Lexeme
  pub spelled : Begins (L value) tokens mid
  pub more : f value mid ≡ Some (w, rest)

pub step : {A B : Type 0} {F : List Lexeme → Type 0} {L : A → Language} {p : Reader A} → Exact F L p → {tokens : List Lexeme} {f : A → Reader B} {w : B} {rest : List Lexeme}
    → and_then (p tokens) f ≡ Some (w, rest) → Stepped L tokens f w rest
step {p = p} exact {tokens = tokens} {f = f} e =
    let s = first_of_two (p tokens) f e in
    record { value = s.value; mid = s.mid; spelled = exact.sound _ _ _ s.read; more = s.more }

pub some_same : {A : Type 0} {p q : A} → Some p ≡ Some q → p ≡ q
some_same {A} {p} {q} e = cc

-- a value that was read is the value
pub done : {A : Type 0} (L : A → Language) {tokens mid rest : List Lexeme} {v w : A} → ◌≡◌ {A = Option (A × List Lexeme)} (Some (v, mid)) (Some (w, rest)) → Begins (L v) tokens mid → Begins (L w) tokens rest
done {A} L {tokens} {mid} {rest} {v} {w} e b =
    let same = some_same e in
    let values : v ≡ w = ap (λ p. p.0) same in
    let rests : mid ≡ rest = ap (λ p. p.1) same in
    subst (λ x. Begins (L x) tokens rest) values (subst (λ r. Begins (L v) tokens r) rests b)

pub and_then_some : {A B : Type 0} {o : Option (A × List Lexeme)} (f : A → Reader B) {a : A} {mid : List Lexeme} {r : Option (B × List Lexeme)}
    → o ≡ Some (a, mid) → f a mid ≡ r → and_then o f ≡ r
and_then_some f first more = ap (λ o. and_then o f) first ∙ more

-- ---- choices

pub if_cases : {X : Type 0} (b : Bool) {x y z : X} → (if b then x else y) ≡ z → ((b ≡ true) × (x ≡ z)) ⊎ ((b ≡ false) × (y ≡ z))
if_cases true e = inl (refl, e)
if_cases false e = inr (refl, e)

pub if_true : {X : Type 0} {b : Bool} {x z : X} (y : X) → b ≡ true → x ≡ z → (if b then x else y) ≡ z
if_true {x = x} y test e = ap (λ b. if b then x else y) test ∙ e

pub if_false : {X : Type 0} {b : Bool} {y z : X} (x : X) → b ≡ false → y ≡ z → (if b then x else y) ≡ z
if_false {y = y} x test e = ap (λ b. if b then x else y) test ∙ e
