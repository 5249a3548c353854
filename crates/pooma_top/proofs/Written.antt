-- What a sink holds, write after write.
use Rattle.std.proofs.Common.{◌≡◌, ℕ, ◌-◌, ◌<◌, ◌≤◌, List, ◌++◌, length, take, drop, Option, None, Some, append_assoc, take-append-drop, ap, sym, ◌∙◌, arith, inl, inr}
use Rattle.std.proofs.lemmas.List.{take_rest}
use Rattle.std.specs.Io.KnownBytes.{Appends, Keeps}
use Rattle.pooma_io.specs.Outside.{HasRisen}
use Rattle.pooma_top.specs.Output.{AppendsLess}

-- two writes append both
pub appends_both : (old now new : Option (List ℕ)) (front more : List ℕ) → Appends old now front → Appends now new more → Appends old new (front ++ more)
appends_both None now new front more a b = tt
appends_both (Some xs) None new front more a b = absurd a
appends_both (Some xs) (Some ys) None front more a b = absurd b
appends_both (Some xs) (Some ys) (Some zs) front more a b = b ∙ ap (λ l. l ++ more) a ∙ append_assoc xs front more

-- what keeps appends nothing more
pub appends_kept : (old now new : Option (List ℕ)) (front : List ℕ) → Appends old now front → Keeps now new → Appends old new front
appends_kept None now new front a b = tt
appends_kept (Some xs) None new front a b = absurd a
appends_kept (Some xs) (Some ys) None front a b = absurd b
appends_kept (Some xs) (Some ys) (Some zs) front a b = b ∙ a

-- a front that was written, and a write of part of the rest
pub written_more : (text front rest after : List ℕ) (n : ℕ) (old now new : Option (List ℕ)) → text ≡ front ++ rest → Appends old now front → Appends now new (take n rest)
    → n ≤ length rest → after ≡ take (length rest - n) (drop n rest) → (front : List ℕ) × (text ≡ front ++ after) × Appends old new front
written_more text front rest after n old now new split a b le is = (
  front ++ take n rest,
  split ∙ ap (λ l. front ++ l) (sym (take-append-drop n rest)) ∙ sym (append_assoc front (take n rest) (drop n rest))
      ∙ ap (λ l. (front ++ take n rest) ++ l) (sym (is ∙ take_rest rest n)),
  appends_both old now new front (take n rest) a b,
)

-- a write that fails before all is written
pub written_less : (text front rest : List ℕ) (old now new : Option (List ℕ)) → text ≡ front ++ rest → 0 < length rest → Appends old now front → Keeps now new → AppendsLess old new text
written_less text front rest old now new split some a kept = (front, rest, split, some, appends_kept old now new front a kept)

-- a count that rose later has risen since
pub risen_since : (first before now : ℕ) → first ≤ before → HasRisen before now → HasRisen first now
risen_since first before now later (inl rose) = inl (omega arith)
risen_since first before now later (inr last) = inr last
