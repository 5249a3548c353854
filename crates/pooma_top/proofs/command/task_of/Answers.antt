use Rattle.std.proofs.Common.{◌≡◌, ◌∙◌, sym, rules, codes}
use Rattle.std.proofs.lemmas.Slice.Eq.{bytes_eq-Decides}
use Rattle.pooma_top.proofs.Words.{demo_of, four_words, on_none, one_word, three_words, two_words}
use Rattle.pooma_top.proofs.command.task_of.Goals as goal

pub returns-else-ne-clause-found : goal.returns-else-ne-clause-found
returns-else-ne-clause-found c =
    let words = one_word _ _ c.in-len1.len_at_least c.in-len1.len_below c.name-item.is in
    let is : c.as_str.result.now ≡ codes "check" = search (rules, bytes_eq-Decides) in
    (tt, words ∙ cc (is, c.as_str.ensures.value))

pub returns-in_ok-workers-in-len2-clause-found : goal.returns-in_ok-workers-in-len2-clause-found
returns-in_ok-workers-in-len2-clause-found c =
    let words = two_words _ _ _ c.in-len2.len_at_least c.in-len2.len_below c.name-item-then-words-lt3.is c.workers-item.is in
    let name : c.as_str-in-len2.result.now ≡ codes "run" = search (rules, bytes_eq-Decides) in
    let workers = c.in_ok-workers-in-len2.ensures in (
      workers.range,
      words ∙ cc (name, workers.found, c.as_str-in-len2.ensures.value, c.as_str-in-len2-2.ensures.value),
    )

pub returns-in_ok-recipe-in-len3-clause-found : goal.returns-in_ok-recipe-in-len3-clause-found
returns-in_ok-recipe-in-len3-clause-found c =
    let words = three_words _ _ _ _ c.in-len3.len_at_least c.in-len3.len_below c.name-item-then-words-lt4.is c.seed-item.is c.lines-item.is in
    let name : c.as_str-in-len3.result.now ≡ codes "make" = search (rules, bytes_eq-Decides) in
    let numbers = c.in_ok-recipe-in-len3.ensures.found in (
      c.in_ok-recipe-in-len3.ensures.range,
      words ∙ cc (name, numbers.0, numbers.1, c.as_str-in-len3.ensures.value, c.as_str-in-len3-2.ensures.value, c.as_str-in-len3-3.ensures.value),
    )

pub returns-in_err-workers-in-len4-clause-none : goal.returns-in_err-workers-in-len4-clause-none
returns-in_err-workers-in-len4-clause-none c =
    let words = four_words _ _ _ _ _ c.in-len4.len_at_least c.in-len4.len_below c.name-item-then-words-lt5.is c.seed-item-then-words-lt5.is
    c.lines-item-then-words-lt5.is c.workers-item-then-words-lt5.is in
    on_none c.from_residual-in_err-workers-in-len4.result (λ command.
    let asked = demo_of _ _ _ _ _ command.0 command.1.0 (sym words ∙ command.1.1) in
    c.in_err-workers-in-len4.ensures.none asked.2.workers asked.2.range.0 asked.2.range.1 (c.as_str-in-len4-2.ensures.value ∙ asked.2.text))

pub returns-in_err-recipe-in-len4-clause-none : goal.returns-in_err-recipe-in-len4-clause-none
returns-in_err-recipe-in-len4-clause-none c =
    let words = four_words _ _ _ _ _ c.in-len4.len_at_least c.in-len4.len_below c.name-item-then-words-lt5.is c.seed-item-then-words-lt5.is
    c.lines-item-then-words-lt5.is c.workers-item-then-words-lt5.is in
    on_none c.from_residual-in_err-recipe-in-len4.result (λ command.
    let asked = demo_of _ _ _ _ _ command.0 command.1.0 (sym words ∙ command.1.1) in
    c.in_err-recipe-in-len4.ensures.none asked.1.recipe asked.1.range (c.as_str-in-len4-3.ensures.value ∙ asked.1.seed_text) (c.as_str-in-len4-4.ensures.value ∙ asked.1.lines_text))

pub returns-in_ok-recipe-in-len4-clause-found : goal.returns-in_ok-recipe-in-len4-clause-found
returns-in_ok-recipe-in-len4-clause-found c =
    let words = four_words _ _ _ _ _ c.in-len4.len_at_least c.in-len4.len_below c.name-item-then-words-lt5.is c.seed-item-then-words-lt5.is
    c.lines-item-then-words-lt5.is c.workers-item-then-words-lt5.is in
    let name : c.as_str-in-len4.result.now ≡ codes "demo" = search (rules, bytes_eq-Decides) in
    let workers = c.in_ok-workers-in-len4.ensures in
    let numbers = c.in_ok-recipe-in-len4.ensures.found in (
      (c.in_ok-recipe-in-len4.ensures.range, workers.range),
      words
          ∙ cc (
            name,
            workers.found,
            numbers.0,
            numbers.1,
            c.as_str-in-len4.ensures.value,
            c.as_str-in-len4-2.ensures.value,
            c.as_str-in-len4-3.ensures.value,
            c.as_str-in-len4-4.ensures.value,
          ),
    )
