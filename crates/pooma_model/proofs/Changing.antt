-- The numbers of an array after positions were given something.
use Rattle.std.proofs.Common.{refl, sym, ap, ◌∙◌, subst, inl, inr, ⊎_elim, length-set}
use Rattle.std.proofs.lemmas.Bool.{false≢true}
use Rattle.std.specs.Cmp.Lexicographic.{pointwise}
use Rattle.std.specs.Cmp.Rules.{signed_items}
use Rattle.std.specs.List.{cons_option}
use Rattle.std.specs.Ordering.{int_eq}
use Rattle.std.specs.Prelude.{◌≡◌, ◌≢◌, ◌⊎◌, ◌↔◌, ℤ, Bool, true, false, List, [], ◌∷◌}
use Rattle.pooma_logic.proofs.Members.{Member}
use Rattle.pooma_domain.specs.Cells.{IsIn}
use Rattle.pooma_view.specs.declared.slots.Slot.{Slot}
use Rattle.pooma_view.specs.Slots.{cell_named}
use Rattle.pooma_field.specs.Numbered.{Numbered, Change, number_at, with_number, with_changes, IsFull}
use Rattle.pooma_model.specs.Assigning.{Given, Number, Nothing, Fails, change_of}
use Rattle.pooma_model.specs.Partitions.{changes_at, number_after}
use Rattle.pooma_model.proofs.Lists.{Distinct}

-- what the laws on numbers tell
pub record OfNumbers : Type 0 where
  pub set : (a : Numbered) (c : List ℤ) (n : ℤ) → IsFull a → IsIn a.area c → number_at (with_number a c n) c ≡ n
  pub kept : (a : Numbered) (c d : List ℤ) (n : ℤ) → IsFull a → d ≢ c → number_at (with_number a c n) d ≡ number_at a d
  pub area : (a : Numbered) (changes : List Change) → (with_changes a changes).area ≡ a.area
  pub full : (a : Numbered) (changes : List Change) → IsFull a → IsFull (with_changes a changes)
  pub same : (a b : Numbered) → a.area ≡ b.area → IsFull a → IsFull b → ((c : List ℤ) → IsIn a.area c → number_at a c ≡ number_at b c) → a ≡ b

-- different positions name different cells
abbrev pub NamesApart : List Slot → List (List ℤ) → Type 0
NamesApart slots ps = (p q : List ℤ) → Member ps p → Member ps q → cell_named slots p ≡ cell_named slots q → p ≡ q

pub same_cell : (c d : List ℤ) → (c ≡ d) ⊎ (c ≢ d)
same_cell c d = by (pointwise int_eq c d) refl
  where
    by : (b : Bool) → pointwise int_eq c d ≡ b → (c ≡ d) ⊎ (c ≢ d)
    by true e = inl ((signed_items c d).0 e)
    by false e = inr (λ h. false≢true (sym e ∙ (signed_items c d).1 h))

pub named_or_not : (slots : List Slot) (ps : List (List ℤ)) (c : List ℤ) → ((p : List ℤ) × Member ps p × (cell_named slots p ≡ c)) ⊎ ((p : List ℤ) → Member ps p → cell_named slots p ≢ c)
named_or_not slots [] c = inr (λ p m. absurd m)
named_or_not slots (p ∷ ps) c =
    ⊎_elim (λ here. inl (p, inl refl, here))
    (λ elsewhere. ⊎_elim (λ found. inl (found.0, inr found.1, found.2))
    (λ none. inr (λ q m. ⊎_elim (λ e. subst (λ x. cell_named slots x ≢ c) e elsewhere) (λ later. none q later) m))
    (named_or_not slots ps c))
    (same_cell (cell_named slots p) c)

-- the numbers after one cell was given something
abbrev given_to : Numbered → List ℤ → Given → Numbered
given_to a c (Number n) = with_number a c n
given_to a c Nothing = a
given_to a c (Fails kind) = a

one_given : (a : Numbered) (c : List ℤ) (g : Given) (rest : List Change) → with_changes a (cons_option (change_of c g) rest) ≡ with_changes (given_to a c g) rest
one_given a c (Number n) rest = refl
one_given a c Nothing rest = refl
one_given a c (Fails kind) rest = refl

still_full : (a : Numbered) (c : List ℤ) (g : Given) → IsFull a → IsFull (given_to a c g)
still_full a c (Number n) full = length-set a.numbers _ n ∙ full
still_full a c Nothing full = full
still_full a c (Fails kind) full = full

still_area : (a : Numbered) (c : List ℤ) (g : Given) → (given_to a c g).area ≡ a.area
still_area a c (Number n) = refl
still_area a c Nothing = refl
still_area a c (Fails kind) = refl

elsewhere_kept : OfNumbers → (a : Numbered) (c d : List ℤ) (g : Given) → IsFull a → d ≢ c → number_at (given_to a c g) d ≡ number_at a d
elsewhere_kept known a c d (Number n) full other = known.kept a c d n full other
elsewhere_kept known a c d Nothing full other = refl
elsewhere_kept known a c d (Fails kind) full other = refl

there_given : OfNumbers → (a : Numbered) (c : List ℤ) (g : Given) → IsFull a → IsIn a.area c → number_at (given_to a c g) c ≡ number_after g (number_at a c)
there_given known a c (Number n) full inside = known.set a c n full inside
there_given known a c Nothing full inside = refl
there_given known a c (Fails kind) full inside = refl

module _ (known : OfNumbers) (given : List ℤ → Given) (slots : List Slot) where
  -- a cell that no position names keeps its number
  pub unnamed_kept : (a : Numbered) (ps : List (List ℤ)) (c : List ℤ) → IsFull a → ((p : List ℤ) → Member ps p → cell_named slots p ≢ c) → number_at (with_changes a (changes_at given slots ps)) c ≡ number_at a c
  unnamed_kept a [] c full others = refl
  unnamed_kept a (p ∷ ps) c full others =
      ap (λ (b : Numbered). number_at b c) (one_given a (cell_named slots p) (given p) (changes_at given slots ps))
      ∙ unnamed_kept (given_to a (cell_named slots p) (given p)) ps c (still_full a (cell_named slots p) (given p) full) (λ q m. others q (inr m))
      ∙ elsewhere_kept known a (cell_named slots p) c (given p) full (λ e. others p (inl refl) (sym e))

  -- the cell that a position names has what the position is given
  pub named_given : (a : Numbered) (ps : List (List ℤ)) (p : List ℤ) → IsFull a → Distinct ps → NamesApart slots ps → Member ps p → IsIn a.area (cell_named slots p)
      → number_at (with_changes a (changes_at given slots ps)) (cell_named slots p) ≡ number_after (given p) (number_at a (cell_named slots p))
  named_given a [] p full once apart m inside = absurd m
  named_given a (q ∷ ps) p full once apart m inside =
      ap (λ (b : Numbered). number_at b (cell_named slots p)) (one_given a (cell_named slots q) (given q) (changes_at given slots ps))
      ∙ ⊎_elim
      (λ e. subst (λ x. number_at (with_changes (given_to a (cell_named slots x) (given x)) (changes_at given slots ps)) (cell_named slots p) ≡ number_after (given p) (number_at a (cell_named slots p))) (sym e)
      (unnamed_kept (given_to a (cell_named slots p) (given p)) ps (cell_named slots p) (still_full a (cell_named slots p) (given p) full)
      (λ r l same. once.0 (subst (Member ps) (apart r q (inr l) (inl refl) (same ∙ ap (cell_named slots) (sym e))) l))
      ∙ there_given known a (cell_named slots p) (given p) full inside))
      (λ later. named_given (given_to a (cell_named slots q) (given q)) ps p (still_full a (cell_named slots q) (given q) full) once.1
      (λ r s l k. apart r s (inr l) (inr k)) later
      (subst (λ box. IsIn box (cell_named slots p)) (sym (still_area a (cell_named slots q) (given q))) inside)
      ∙ ap (number_after (given p)) (elsewhere_kept known a (cell_named slots q) (cell_named slots p) (given q) full
      (λ same. once.0 (subst (Member ps) (apart p q (inr later) (inl refl) same) later))))
      m

-- what each cell has at the end decides: the order of the positions does not, nor by which way their cells get it
pub same_after : OfNumbers → (given other : List ℤ → Given) (slots : List Slot) (a : Numbered) (ps qs : List (List ℤ)) → IsFull a
    → Distinct ps → Distinct qs → NamesApart slots ps → ((p : List ℤ) → Member ps p ↔ Member qs p)
    → ((p : List ℤ) → Member ps p → number_after (given p) (number_at a (cell_named slots p)) ≡ number_after (other p) (number_at a (cell_named slots p)))
    → with_changes a (changes_at given slots ps) ≡ with_changes a (changes_at other slots qs)
same_after known given other slots a ps qs full once_p once_q apart same equal =
    known.same (with_changes a (changes_at given slots ps)) (with_changes a (changes_at other slots qs))
    (known.area a (changes_at given slots ps) ∙ sym (known.area a (changes_at other slots qs)))
    (known.full a (changes_at given slots ps) full) (known.full a (changes_at other slots qs) full)
    (λ c within. each c (subst (λ box. IsIn box c) (known.area a (changes_at given slots ps)) within))
  where
    apart_q : NamesApart slots qs
    apart_q p q m l = apart p q ((same p).1 m) ((same q).1 l)

    each : (c : List ℤ) → IsIn a.area c → number_at (with_changes a (changes_at given slots ps)) c ≡ number_at (with_changes a (changes_at other slots qs)) c
    each c inside =
        ⊎_elim
        (λ found. subst (λ d. number_at (with_changes a (changes_at given slots ps)) d ≡ number_at (with_changes a (changes_at other slots qs)) d) found.2
        (named_given known given slots a ps found.0 full once_p apart found.1 (subst (IsIn a.area) (sym found.2) inside)
        ∙ equal found.0 found.1
        ∙ sym (named_given known other slots a qs found.0 full once_q apart_q ((same found.0).0 found.1) (subst (IsIn a.area) (sym found.2) inside))))
        (λ none. unnamed_kept known given slots a ps c full none
        ∙ sym (unnamed_kept known other slots a qs c full (λ q m. none q ((same q).1 m))))
        (named_or_not slots ps c)
