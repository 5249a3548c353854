-- The earliest fault along outcomes.
use Rattle.std.proofs.Common.{◌≡◌, ◌∙◌, refl, sym, ap, ℕ, ◌+◌, ◌<◌, ◌≤◌, Bool, false, Option, None, Some, List, [], ◌∷◌, ◌++◌, length, min, take, ℤ, get_or, slice_get, arith}
use Rattle.std.specs.List.{cons_option}
use Rattle.std.specs.Prelude.{All, fold, ◌==◌, ◌&&◌, ◌||◌, if◌then◌else◌}
use Rattle.std.proofs.lemmas.List.Sums.{fold-append}
use Rattle.std.proofs.lemmas.Bool.{le-ltb}
use Rattle.std.proofs.lemmas.List.{length-take}
use Rattle.std.proofs.lemmas.List.Elements.{All-head, All-tail}
use Rattle.std.proofs.lemmas.Option.{slice_get-get_or, slice_get_read}
use Rattle.pooma_piece.specs.declared.outcome.Outcome.{Outcome}
use Rattle.pooma_piece.specs.declared.outcome.Outcome.TheVariants.{Done}
use Rattle.pooma_piece.specs.Plans.{Faulted, fault_in, faults_of, is_before, is_earlier, or_earlier, plan_fault}
use Rattle.pooma_run.proofs.Lists.{take_next}

-- a cell without coordinates comes before none, and none before it
pub none_before : (a b : List ℤ) → length a ≡ 0 → false ≡ is_before a b
none_before [] b e = refl
none_before (x ∷ a) b e = absurd (omega arith)

pub before_none : (a b : List ℤ) → length b ≡ 0 → false ≡ is_before a b
before_none [] b e = refl
before_none (x ∷ a) [] e = refl
before_none (x ∷ a) (y ∷ b) e = absurd (omega arith)

-- what is known, and a fault behind it if there is one
abbrev pub with_fault : Option Faulted → Option Faulted → Option Faulted
with_fault known None = known
with_fault known (Some fault) = or_earlier known fault

one_before : (found : Option Faulted) (whole fs gs : List Faulted) → whole ≡ fs ++ gs → cons_option found whole ≡ cons_option found fs ++ gs
one_before None whole fs gs e = e
one_before (Some f) whole fs gs e = ap (λ (hs : List Faulted). f ∷ hs) e

pub faults_behind : (statements : List ℕ) (outcomes : List Outcome) (more : List ℕ) (others : List Outcome) → length statements ≡ length outcomes
    → faults_of (statements ++ more) (outcomes ++ others) ≡ faults_of statements outcomes ++ faults_of more others
faults_behind [] [] more others e = refl
faults_behind [] (o ∷ outcomes) more others e = absurd (omega arith)
faults_behind (s ∷ statements) [] more others e = absurd (omega arith)
faults_behind (s ∷ statements) (o ∷ outcomes) more others e =
    one_before (fault_in s o) (faults_of (statements ++ more) (outcomes ++ others)) (faults_of statements outcomes) (faults_of more others)
    (faults_behind statements outcomes more others (omega arith))

-- the earliest of two lists' faults comes of that of the first list
pub fault_behind : (statements : List ℕ) (outcomes : List Outcome) (more : List ℕ) (others : List Outcome) → length statements ≡ length outcomes
    → plan_fault (statements ++ more) (outcomes ++ others) ≡ fold or_earlier (plan_fault statements outcomes) (faults_of more others)
fault_behind statements outcomes more others e =
    ap (λ (fs : List Faulted). fold or_earlier None fs) (faults_behind statements outcomes more others e)
    ∙ fold-append or_earlier None (faults_of statements outcomes) (faults_of more others)

one_fault : (known found : Option Faulted) → fold or_earlier known (cons_option found []) ≡ with_fault known found
one_fault known None = refl
one_fault known (Some f) = refl

same_length : (statements : List ℕ) (outcomes : List Outcome) (k : ℕ) → length statements ≡ length outcomes → length (take k statements) ≡ length (take k outcomes)
same_length statements outcomes k e = length-take k statements ∙ ap (min k) e ∙ sym (length-take k outcomes)

-- one outcome further along
pub one_further : (statements : List ℕ) (outcomes : List Outcome) (k s : ℕ) (o : Outcome) → length statements ≡ length outcomes → slice_get statements k ≡ Some s → slice_get outcomes k ≡ Some o
    → plan_fault (take (k + 1) statements) (take (k + 1) outcomes) ≡ with_fault (plan_fault (take k statements) (take k outcomes)) (fault_in s o)
one_further statements outcomes k s o e at found =
    ap (λ (xs : List ℕ). plan_fault xs (take (k + 1) outcomes)) (take_next statements k s at)
    ∙ ap (λ (xs : List Outcome). plan_fault (take k statements ++ s ∷ []) xs) (take_next outcomes k o found)
    ∙ fault_behind (take k statements) (take k outcomes) (s ∷ []) (o ∷ []) (same_length statements outcomes k e)
    ∙ one_fault (plan_fault (take k statements) (take k outcomes)) (fault_in s o)

-- the earliest of one outcome more, where this is what is known of the others and of it
pub known_further : (statements : List ℕ) (outcomes : List Outcome) (k : ℕ) (o : Outcome) (known found new : Option Faulted) → length statements ≡ length outcomes
    → k < length outcomes → o ≡ get_or outcomes k o → known ≡ plan_fault (take k statements) (take k outcomes) → found ≡ fault_in (get_or statements k 0) o
    → new ≡ with_fault known found → new ≡ plan_fault (take (k + 1) statements) (take (k + 1) outcomes)
known_further statements outcomes k o known found new e within is so_far one more =
    more ∙ ap (λ f. with_fault f found) so_far ∙ ap (with_fault (plan_fault (take k statements) (take k outcomes))) one
    ∙ sym (one_further statements outcomes k (get_or statements k 0) o e (slice_get-get_or statements k 0 (omega arith))
    (slice_get_read outcomes (length outcomes) k o refl within is))

-- Later statements have no earlier fault.
eq_no : (x y : ℕ) → y < x → x == y ≡ false
eq_no x y h = grind arith

not_earlier : (f g : Faulted) (n : ℕ) → f.statement < n → n ≤ g.statement → is_earlier g f ≡ false
not_earlier f g n before behind =
    ap (λ (b : Bool). b || ((g.statement == f.statement) && is_before g.position f.position)) (le-ltb g.statement f.statement (omega arith))
    ∙ ap (λ (b : Bool). b && is_before g.position f.position) (eq_no g.statement f.statement (omega arith))

pub first_stays : (f : Faulted) (n : ℕ) (later : List Faulted) → f.statement < n → All (λ g. n ≤ g.statement) later → fold or_earlier (Some f) later ≡ Some f
first_stays f n [] before behind = refl
first_stays f n (g ∷ later) before behind =
    ap (λ (b : Bool). fold or_earlier (Some (if b then g else f)) later) (not_earlier f g n before (All-head (λ (h : Faulted). n ≤ h.statement) g later behind))
    ∙ first_stays f n later before (All-tail (λ (h : Faulted). n ≤ h.statement) g later behind)

-- works that are done without a fault add none
pub none_of_done : (statements : List ℕ) (outcomes : List Outcome) → All (λ o. o ≡ Done) outcomes → faults_of statements outcomes ≡ []
none_of_done [] outcomes done = refl
none_of_done (s ∷ statements) [] done = refl
none_of_done (s ∷ statements) (o ∷ outcomes) done =
    ap (λ (one : Outcome). cons_option (fault_in s one) (faults_of statements outcomes)) (All-head (λ (one : Outcome). one ≡ Done) o outcomes done)
    ∙ none_of_done statements outcomes (All-tail (λ (one : Outcome). one ≡ Done) o outcomes done)
