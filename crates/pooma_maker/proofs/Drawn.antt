-- Texts of lines, one line more.
use Rattle.std.proofs.Common.{◌≡◌, ◌∙◌, sym, ap, subst, ℕ, ◌+◌, List, [], ◌∷◌, ◌++◌, append_assoc, ◌*◌, ◌/◌, ◌%◌, map, arith, add-one, Result, OnOk}
use Rattle.std.specs.List.{range_with_len}
use Rattle.std.proofs.lemmas.List.{flat_map_more}
use Rattle.std.proofs.lemmas.List.FromFn.{map-range_with_len_more}
use Rattle.std.proofs.lemmas.Grind.{flat_map-append}
use Rattle.pooma_text.specs.Lines.{ended}
use Rattle.pooma_maker.specs.Draws.{draw, next, number_after}
use Rattle.pooma_maker.specs.Script.{drawn_line, line_of, with_end}

-- a byte behind a number, and the line's end behind that
pub closed_line : {T E : Type 0} (r : Result T E) (old new front : List ℕ) (last : ℕ) → OnOk r (new ≡ old ++ (front ++ (last ∷ 10 ∷ [])))
    → OnOk r (new ≡ old ++ with_end (front ++ last ∷ []))
closed_line r old new front last grown =
    subst (λ (text : List ℕ). OnOk r (new ≡ old ++ text)) (sym (append_assoc front (last ∷ []) (10 ∷ []))) grown

-- the number that comes by one step more
one_step_more : (seed steps x y : ℕ) → x ≡ number_after seed steps → y ≡ next x → y ≡ number_after seed (steps + 1)
one_step_more seed steps x y at is = is ∙ ap next at ∙ sym (ap (number_after seed) (add-one steps))

-- two draws more, and the line that they make
pub record IsDrawn (seed place last kind constant : ℕ) : Type 0 where
  pub line : line_of kind constant ≡ drawn_line seed place
  pub at : last ≡ number_after seed (2 * (place + 1))

pub two_draws_more : (seed place x y z kind constant : ℕ) → x ≡ number_after seed (2 * place) → y ≡ next x → z ≡ next y → kind ≡ next x / 65536 % 6
    → constant ≡ next y / 65536 % 100 → IsDrawn seed place z kind constant
two_draws_more seed place x y z kind constant at first second kind_is constant_is =
    let once = one_step_more seed (2 * place) x y at first in
    let twice = one_step_more seed (2 * place + 1) y z once second in
    let steps : 2 * place + 1 + 1 ≡ 2 * (place + 1) = omega arith in
    let same_kind : kind ≡ draw seed (2 * place) % 6 = kind_is ∙ ap (λ (n : ℕ). n / 65536 % 6) (sym first ∙ once) in
    let same_constant : constant ≡ draw seed (2 * place + 1) % 100 = constant_is ∙ ap (λ (n : ℕ). n / 65536 % 100) (sym second ∙ twice) in
    record {
      line = ap (λ (n : ℕ). line_of n constant) same_kind ∙ ap (line_of (draw seed (2 * place) % 6)) same_constant;
      at = twice ∙ ap (number_after seed) steps;
    }

-- one line more behind those of the first places
pub one_line_more : (line_at : ℕ → List ℕ) (places : ℕ) (front text line new : List ℕ) → text ≡ front ++ ended (map line_at (range_with_len 0 places))
    → line ≡ line_at places → new ≡ text ++ with_end line → new ≡ front ++ ended (map line_at (range_with_len 0 (places + 1)))
one_line_more line_at places front text line new so_far is grown =
    let lines = map line_at (range_with_len 0 places) in
    let counted : 0 + places ≡ places = omega arith in
    grown
    ∙ ap (λ (t : List ℕ). t ++ with_end line) so_far
    ∙ flat_map_more with_end front lines line
    ∙ ap (λ (ls : List (List ℕ)). front ++ ended ls) (ap (λ (l : List ℕ). lines ++ l ∷ []) is ∙ sym (map-range_with_len_more line_at 0 places places counted))

-- three texts of lines are the text of all
pub three_texts : (front lines back : List (List ℕ)) → (ended front ++ ended lines) ++ ended back ≡ ended (front ++ lines ++ back)
three_texts front lines back =
    ap (λ (t : List ℕ). t ++ ended back) (sym (flat_map-append with_end front lines)) ∙ sym (flat_map-append with_end (front ++ lines) back)
