use Rattle.std.proofs.Common.{◌≡◌, ◌<◌, inl, inr, List, ℕ, length, [], ◌∷◌, ◌++◌, ap, ◌∙◌, is_ok, sym, arith, rules, Err, refl}
use Rattle.std.proofs.lemmas.Bool.{cond-true}
use Rattle.std.proofs.lemmas.List.{length_push}
use Rattle.pooma_text.specs.declared.token.Token.{Token}
use Rattle.pooma_text.specs.declared.token.TokenError.TheVariants.{BadByte}
use Rattle.pooma_text.specs.Tokens.{BeginsWith, HasStray}
use Rattle.pooma_text.proofs.Readings.{Runs-push, Runs-within, begins-at_most, begins-at_most_stray, begins-push, no_list-stray, one_list, one_stray}
use Rattle.pooma_text.proofs.token.tokens.Goals as goal
use Rattle.pooma_text.proofs.token.tokens.Goals.{then-loop-at-test+else-line-at-ne35, else-loop-at-test}

pub returns-in_default-clause-only_found : goal.returns-in_default-clause-only_found
returns-in_default-clause-only_found c = λ all list few.
    let stray : HasStray c.args.line.now c.loop-at.found.items c.loop-at.at = search rules in
    absurd (no_list-stray _ _ _ _ stray list)

pub returns-in_default-clause-only_stray : goal.returns-in_default-clause-only_stray
returns-in_default-clause-only_stray c = λ before place h few.
    let stray : HasStray c.args.line.now c.loop-at.found.items c.loop-at.at = search rules in
    inl (ap (λ (p : ℕ). Err (BadByte p)) (one_stray _ _ _ _ _ stray h).1)

pub returns-in_default-clause-only_many : goal.returns-in_default-clause-only_many
returns-in_default-clause-only_many c = λ front begins many.
    let stray : HasStray c.args.line.now c.loop-at.found.items c.loop-at.at = search rules in
    absurd (omega (arith, begins-at_most_stray _ _ _ _ stray begins, c.loop-at.invariant.few))

pub returns-then-len-eq-MOST_TOKENS-clause-many : goal.returns-then-len-eq-MOST_TOKENS-clause-many
returns-then-len-eq-MOST_TOKENS-clause-many c = λ h.
    (c.loop-at.found.items ++ c.in-Some.token ∷ [], begins-push _ _ _ _ c.loop-at.invariant.runs c.in-Some.ensures.longest.0 c.in-Some.ensures.longest.1, omega (arith, length_push c.loop-at.found.items c.in-Some.token))

pub returns-then-len-eq-MOST_TOKENS-clause-only_found : goal.returns-then-len-eq-MOST_TOKENS-clause-only_found
returns-then-len-eq-MOST_TOKENS-clause-only_found c = λ all list few.
    let many : (front : List Token) × BeginsWith c.args.line.now front × (4096 < length front) = returns-then-len-eq-MOST_TOKENS-clause-many c refl in
    absurd (omega (arith, begins-at_most _ _ _ list many.1))

pub returns-then-len-eq-MOST_TOKENS-clause-only_stray : goal.returns-then-len-eq-MOST_TOKENS-clause-only_stray
returns-then-len-eq-MOST_TOKENS-clause-only_stray c = λ before place h few.
    let many : (front : List Token) × BeginsWith c.args.line.now front × (4096 < length front) = returns-then-len-eq-MOST_TOKENS-clause-many c refl in
    absurd (omega (arith, begins-at_most_stray _ _ _ _ h many.1))

pub loop-at-preserved : goal.loop-at-preserved
loop-at-preserved c =
    let token = c.in-Some.ensures.longest in
    let pushed : c.push.new.self.items ≡ c.loop-at.found.items ++ c.in-Some.token ∷ [] =
    c.push.ensures.items ∙ cond-true _ _ _ (sym c.map_err.ensures.variant ∙ ap is_ok c.in_ok-map_err.was) in
    record {
      runs = rw pushed (Runs-push _ _ _ _ _ _ c.loop-at.invariant.runs token.0 token.1 c.skip_blanks-at-in-loop-at.ensures.blanks);
      no_blank = c.skip_blanks-at-in-loop-at.ensures.stops;
      few = omega (arith, ap length pushed, length_push c.loop-at.found.items c.in-Some.token);
    }

pub returns-clause-found : goal.returns-clause-found
returns-clause-found c =
    elim c.loop-at-test.branch [
      | then-loop-at-test+else-line-at-ne35 w ↦ (c.loop-at.at, c.loop-at.invariant.runs, inr (w.loop-at-test.true, omega arith))
      | else-loop-at-test w ↦ (c.loop-at.at, c.loop-at.invariant.runs, inl (omega (arith, Runs-within _ _ _ _ c.loop-at.invariant.runs)))
    ]

pub returns-clause-only_found : goal.returns-clause-only_found
returns-clause-only_found c = λ all list few. one_list _ _ _ (returns-clause-found c) list

pub returns-clause-only_stray : goal.returns-clause-only_stray
returns-clause-only_stray c = λ before place h few. absurd (no_list-stray _ _ _ _ h (returns-clause-found c))

pub returns-clause-only_many : goal.returns-clause-only_many
returns-clause-only_many c = λ front begins many.
    absurd (omega (arith, begins-at_most _ _ _ (returns-clause-found c) begins, c.loop-at.invariant.few))
