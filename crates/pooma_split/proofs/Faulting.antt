-- The earliest fault among what the pieces of boxes answer is the least of the boxes' faults.
use Rattle.std.proofs.Common.{refl, sym, ap, ◌∙◌, subst, inl, inr, ⊎_elim, arith, cond}
use Rattle.std.proofs.lemmas.Bool.{false≢true}
use Rattle.std.proofs.lemmas.Bool.Decides.{Decides-int_eq}
use Rattle.std.proofs.lemmas.Int.{ints, by_lt_z}
use Rattle.std.specs.List.{cons_option, filter_map}
use Rattle.std.specs.Ordering.{int_eq}
use Rattle.std.specs.Prelude.{◌≡◌, ◌⊎◌, ℕ, ◌==◌, nat_lt, ℤ, int_lt, ◌≤ℤ◌, ◌<ℤ◌, Bool, true, false, ◌&&◌, ◌||◌, Option, None, Some, IfSome, Ok, Err, List, [], ◌∷◌, length, map, fold, All}
use Rattle.pooma_logic.proofs.Members.{Member, all_members, of_any}
use Rattle.pooma_domain.specs.Cells.{Interval, IsBefore, cells_of}
use Rattle.pooma_field.specs.Numbered.{is_same_cell}
use Rattle.pooma_expr.specs.Values.{Checked}
use Rattle.pooma_model.specs.Assigning.{Given, fault_of, found_or, given_by}
use Rattle.pooma_model.specs.Partitions.{IsLeastFault, IsNotEarlier, fault_at}
use Rattle.pooma_piece.specs.declared.outcome.Outcome.{Outcome}
use Rattle.pooma_piece.specs.Effects.{fault_or, first_fault_or}
use Rattle.pooma_piece.specs.Plans.{Faulted, fault_in, faults_of, is_before, is_earlier, or_earlier}
use Rattle.pooma_split.specs.Statements.{as_fault}

-- ---- the order of positions

or_cases : (a b : Bool) → (a || b) ≡ true → (a ≡ true) ⊎ (b ≡ true)
or_cases true b e = inl refl
or_cases false b e = inr e

or_neither : (a b : Bool) → (a || b) ≡ false → (a ≡ false) × (b ≡ false)
or_neither true b e = absurd (false≢true (sym e))
or_neither false b e = (refl, e)

and_both : (a b : Bool) → (a && b) ≡ true → (a ≡ true) × (b ≡ true)
and_both true b e = (refl, e)
and_both false b e = absurd (false≢true e)

lt_is : (x y : ℤ) → int_lt x y ≡ true → x <ℤ y
lt_is x y e = by_lt_z x y (λ h. h) (λ h. grind (arith, ints))

not_lt_is : (x y : ℤ) → int_lt x y ≡ false → y ≤ℤ x
not_lt_is x y e = by_lt_z x y (λ h. grind (arith, ints)) (λ h. h)

same_is : (xs ys : List ℤ) → is_same_cell xs ys ≡ true → xs ≡ ys
same_is [] [] e = refl
same_is [] (y ∷ ys) e = absurd (false≢true e)
same_is (x ∷ xs) [] e = absurd (false≢true e)
same_is (x ∷ xs) (y ∷ ys) e =
    let both = and_both (int_eq x y) (is_same_cell xs ys) e in
    ap (λ z. z ∷ xs) ((Decides-int_eq x y).0 both.0) ∙ ap (λ zs. y ∷ zs) (same_is xs ys both.1)

same_itself : (xs : List ℤ) → is_same_cell xs xs ≡ true
same_itself [] = refl
same_itself (x ∷ xs) = let here : int_eq x x ≡ true = (Decides-int_eq x x).1 refl in ap (λ b. b && is_same_cell xs xs) here ∙ same_itself xs

before_is : (xs ys : List ℤ) → is_before xs ys ≡ true → IsBefore xs ys
before_is [] ys e = absurd (false≢true e)
before_is (x ∷ xs) [] e = absurd (false≢true e)
before_is (x ∷ xs) (y ∷ ys) e =
    ⊎_elim (λ h. inl (before_is xs ys h))
    (λ h. let both = and_both (is_same_cell xs ys) (int_lt x y) h in inr (same_is xs ys both.0, lt_is x y both.1))
    (or_cases (is_before xs ys) (is_same_cell xs ys && int_lt x y) e)

-- of two positions with as many numbers, one that is not before the other is the same or behind it
not_before_is : (xs ys : List ℤ) → length xs ≡ length ys → is_before xs ys ≡ false → (ys ≡ xs) ⊎ IsBefore ys xs
not_before_is [] [] same e = inl refl
not_before_is [] (y ∷ ys) same e = absurd (omega arith)
not_before_is (x ∷ xs) [] same e = absurd (omega arith)
not_before_is (x ∷ xs) (y ∷ ys) same e =
    let neither = or_neither (is_before xs ys) (is_same_cell xs ys && int_lt x y) e in
    ⊎_elim
    (λ equal.
    let alike : is_same_cell xs ys ≡ true = subst (λ zs. is_same_cell xs zs ≡ true) (sym equal) (same_itself xs) in
    let low : y ≤ℤ x = not_lt_is x y (ap (λ b. b && int_lt x y) (sym alike) ∙ neither.1) in
    by_lt_z y x
    (λ less. inr (inr (equal, less)))
    (λ more. let here : y ≡ x = omega (arith, ints, low, more) in inl (ap (λ z. z ∷ ys) here ∙ ap (λ zs. x ∷ zs) equal)))
    (λ behind. inr (inl behind))
    (not_before_is xs ys (omega arith) neither.0)

before_trans : (xs ys zs : List ℤ) → IsBefore xs ys → IsBefore ys zs → IsBefore xs zs
before_trans [] ys zs h k = absurd h
before_trans (x ∷ xs) [] zs h k = absurd h
before_trans (x ∷ xs) (y ∷ ys) [] h k = absurd k
before_trans (x ∷ xs) (y ∷ ys) (z ∷ zs) h k =
    ⊎_elim
    (λ a. ⊎_elim (λ b. inl (before_trans xs ys zs a b)) (λ b. inl (subst (IsBefore xs) b.0 a)) k)
    (λ a. ⊎_elim (λ b. inl (subst (λ ws. IsBefore ws zs) (sym a.0) b)) (λ b. inr (a.0 ∙ b.0, (let low = a.1 in let high = b.1 in omega (arith, ints, low, high)))) k)
    h

-- ---- the earliest of some faults of one statement

-- it is not behind the other
abbrev NotAfter : Faulted → Faulted → Type 0
NotAfter f x = (f.position ≡ x.position) ⊎ IsBefore f.position x.position

not_after_trans : (f x y : Faulted) → NotAfter f x → NotAfter x y → NotAfter f y
not_after_trans f x y h k =
    ⊎_elim
    (λ a. ⊎_elim (λ b. inl (a ∙ b)) (λ b. inr (subst (λ p. IsBefore p y.position) (sym a) b)) k)
    (λ a. ⊎_elim (λ b. inr (subst (IsBefore f.position) b a)) (λ b. inr (before_trans f.position x.position y.position a b)) k)
    h

record IsOf (number n : ℕ) (f : Faulted) : Type 0 where
  statement : f.statement ≡ number
  long : length f.position ≡ n

record IsEarliest (number n : ℕ) (acc : Faulted) (fs : List Faulted) (f : Faulted) : Type 0 where
  one : (f ≡ acc) ⊎ Member fs f
  first : NotAfter f acc
  all : (x : Faulted) → Member fs x → NotAfter f x

nat_itself : (n : ℕ) → nat_lt n n ≡ false
nat_itself n = grind arith

eq_itself : (n : ℕ) → n == n ≡ true
eq_itself n = grind arith

earlier_is : (number n : ℕ) (a b : Faulted) → IsOf number n a → IsOf number n b → is_earlier a b ≡ is_before a.position b.position
earlier_is number n a b of_a of_b =
    ap (λ s. nat_lt s b.statement || ((s == b.statement) && is_before a.position b.position)) of_a.statement
    ∙ ap (λ s. nat_lt number s || ((number == s) && is_before a.position b.position)) of_b.statement
    ∙ ap (λ t. t || ((number == number) && is_before a.position b.position)) (nat_itself number)
    ∙ ap (λ t. t && is_before a.position b.position) (eq_itself number)

earliest : (number n : ℕ) (fs : List Faulted) (acc : Faulted) → IsOf number n acc → ((x : Faulted) → Member fs x → IsOf number n x) → (f : Faulted) × (fold or_earlier (Some acc) fs ≡ Some f) × IsEarliest number n acc fs f
earliest number n [] acc of_acc of_all = (acc, refl, record { one = inl refl; first = inl refl; all = λ x m. absurd m })
earliest number n (y ∷ fs) acc of_acc of_all =
    by (is_earlier y acc) refl (earliest number n fs y of_y (λ x m. of_all x (inr m))) (earliest number n fs acc of_acc (λ x m. of_all x (inr m)))
  where
    of_y : IsOf number n y
    of_y = of_all y (inl refl)

    by : (b : Bool) → is_earlier y acc ≡ b → ((f : Faulted) × (fold or_earlier (Some y) fs ≡ Some f) × IsEarliest number n y fs f) → ((f : Faulted) × (fold or_earlier (Some acc) fs ≡ Some f) × IsEarliest number n acc fs f)
        → (f : Faulted) × (fold or_earlier (Some acc) (y ∷ fs) ≡ Some f) × IsEarliest number n acc (y ∷ fs) f
    by true e found other =
        let before : IsBefore y.position acc.position = before_is y.position acc.position (sym (earlier_is number n y acc of_y of_acc) ∙ e) in (
          found.0,
          ap (λ (t : Bool). fold or_earlier (Some (cond t y acc)) fs) e ∙ found.1,
          record {
            one = inr (⊎_elim (λ same. inl (sym same)) (λ m. inr m) found.2.one);
            first = not_after_trans found.0 y acc found.2.first (inr before);
            all = λ x m. ⊎_elim (λ same. subst (NotAfter found.0) same found.2.first) (λ l. found.2.all x l) m;
          },
        )
    by false e other found =
        let behind : NotAfter acc y =
        not_before_is y.position acc.position (of_y.long ∙ sym of_acc.long) (sym (earlier_is number n y acc of_y of_acc) ∙ e) in (
          found.0,
          ap (λ (t : Bool). fold or_earlier (Some (cond t y acc)) fs) e ∙ found.1,
          record {
            one = ⊎_elim (λ same. inl same) (λ m. inr (inr m)) found.2.one;
            first = found.2.first;
            all = λ x m. ⊎_elim (λ same. subst (NotAfter found.0) same (not_after_trans found.0 acc y found.2.first behind)) (λ l. found.2.all x l) m;
          },
        )

-- ---- the faults of boxes

module _ (number : ℕ) (value : List ℤ → Checked) (other : List Interval → Outcome) (no_fault : (box : List Interval) → fault_in number (other box) ≡ None) where
  abbrev pub gives : List ℤ → Given
  gives p = given_by (value p)

  abbrev pub answer_of : List Interval → Outcome
  answer_of box = first_fault_or value (cells_of box) (other box)

  -- what a piece answers tells its box's fault
  record Tells (ps : List (List ℤ)) (answer : Outcome) (f : Faulted) : Type 0 where
    answered : fault_in number answer ≡ Some f
    given : fault_at gives ps ≡ Some (as_fault f)
    statement : f.statement ≡ number
    position : Member ps f.position

  tells : (ps : List (List ℤ)) (o : Outcome) → fault_in number o ≡ None → ((fault_in number (first_fault_or value ps o) ≡ None) × (fault_at gives ps ≡ None)) ⊎ ((f : Faulted) × Tells ps (first_fault_or value ps o) f)
  tells [] o none = inl (none, refl)
  tells (p ∷ ps) o none = by (value p) refl (tells ps o none)
    where
      by : (v : Checked) → value p ≡ v → ((fault_in number (first_fault_or value ps o) ≡ None) × (fault_at gives ps ≡ None)) ⊎ ((f : Faulted) × Tells ps (first_fault_or value ps o) f)
          → ((fault_in number (first_fault_or value (p ∷ ps) o) ≡ None) × (fault_at gives (p ∷ ps) ≡ None)) ⊎ ((f : Faulted) × Tells (p ∷ ps) (first_fault_or value (p ∷ ps) o) f)
      by (Ok n) e rest =
          let answer : first_fault_or value (p ∷ ps) o ≡ first_fault_or value ps o = ap (λ w. fault_or p w (first_fault_or value ps o)) e in
          let fault : fault_at gives (p ∷ ps) ≡ fault_at gives ps = ap (λ w. found_or (fault_of p (given_by w)) (fault_at gives ps)) e in
          ⊎_elim
          (λ none_there. inl (ap (fault_in number) answer ∙ none_there.0, fault ∙ none_there.1))
          (λ some. inr (
            some.0,
            record {
              answered = ap (fault_in number) answer ∙ some.1.answered;
              given = fault ∙ some.1.given;
              statement = some.1.statement;
              position = inr some.1.position;
            },
          ))
          rest
      by (Err kind) e rest = inr (
        record { statement = number; position = p; kind = kind },
        record {
          answered = ap (λ w. fault_in number (fault_or p w (first_fault_or value ps o))) e;
          given = ap (λ w. found_or (fault_of p (given_by w)) (fault_at gives ps)) e;
          statement = refl;
          position = inl refl;
        },
      )

  abbrev pub fault_for : List Interval → Option Faulted
  fault_for box = fault_in number (answer_of box)

  pub faults_are : (boxes : List (List Interval)) (statements : List ℕ) → statements ≡ map (λ (box : List Interval). number) boxes → faults_of statements (map answer_of boxes) ≡ filter_map fault_for boxes
  faults_are [] statements is = ap (λ s. faults_of s []) is
  faults_are (box ∷ boxes) statements is =
      ap (λ s. faults_of s (answer_of box ∷ map answer_of boxes)) is
      ∙ ap (cons_option (fault_for box)) (faults_are boxes (map (λ (b : List Interval). number) boxes) refl)

  from_kept : (boxes : List (List Interval)) (f : Faulted) → Member (filter_map fault_for boxes) f → (box : List Interval) × Member boxes box × (fault_for box ≡ Some f)
  from_kept [] f m = absurd m
  from_kept (box ∷ boxes) f m = by (fault_for box) refl m (from_kept boxes f)
    where
      by : (o : Option Faulted) → fault_for box ≡ o → Member (cons_option o (filter_map fault_for boxes)) f → (Member (filter_map fault_for boxes) f → (b : List Interval) × Member boxes b × (fault_for b ≡ Some f)) → (b : List Interval) × Member (box ∷ boxes) b × (fault_for b ≡ Some f)
      by None e k later = let found = later k in (found.0, inr found.1, found.2)
      by (Some g) e k later = ⊎_elim (λ same. (box, inl refl, e ∙ ap Some same)) (λ l. let found = later l in (found.0, inr found.1, found.2)) k

  kept : (boxes : List (List Interval)) (box : List Interval) (f : Faulted) → Member boxes box → fault_for box ≡ Some f → Member (filter_map fault_for boxes) f
  kept [] box f m is = absurd m
  kept (b ∷ boxes) box f m is =
      ⊎_elim (λ e. subst (λ o. Member (cons_option o (filter_map fault_for boxes)) f) (sym is ∙ ap fault_for (sym e)) (inl refl))
      (λ l. by (fault_for b) (kept boxes box f l is))
      m
    where
      by : (o : Option Faulted) → Member (filter_map fault_for boxes) f → Member (cons_option o (filter_map fault_for boxes)) f
      by None k = k
      by (Some g) k = inr k

  module _ (n : ℕ) (boxes : List (List Interval)) (long : (box : List Interval) (p : List ℤ) → Member boxes box → Member (cells_of box) p → length p ≡ n) where
    is_of : (f : Faulted) → Member (filter_map fault_for boxes) f → IsOf number n f
    is_of f m =
        let from = from_kept boxes f m in
        ⊎_elim
        (λ none. let clash : None ≡ Some f = sym none.0 ∙ from.2 in cc)
        (λ some.
        let same : some.0 ≡ f = let e : Some some.0 ≡ Some f = sym some.1.answered ∙ from.2 in cc in
        subst (IsOf number n) same (record { statement = some.1.statement; long = long from.0 some.0.position from.1 some.1.position }))
        (tells (cells_of from.0) (other from.0) (no_fault from.0))

    -- no answer is a fault, and no box has one, or the earliest is the least of the boxes' faults
    pub judged : ((fold or_earlier None (filter_map fault_for boxes) ≡ None) × All (λ box. fault_at gives (cells_of box) ≡ None) boxes)
        ⊎ ((f : Faulted) × (fold or_earlier None (filter_map fault_for boxes) ≡ Some f) × (f.statement ≡ number) × IsLeastFault gives boxes (as_fault f))
    judged = by (filter_map fault_for boxes) refl
      where
        none_there : filter_map fault_for boxes ≡ [] → (box : List Interval) → Member boxes box → fault_at gives (cells_of box) ≡ None
        none_there e box m =
            ⊎_elim (λ none. none.1)
            (λ some. absurd (subst (λ l. Member l some.0) e (kept boxes box some.0 m some.1.answered)))
            (tells (cells_of box) (other box) (no_fault box))

        least : (f : Faulted) → Member (filter_map fault_for boxes) f → ((x : Faulted) → Member (filter_map fault_for boxes) x → NotAfter f x) → IsLeastFault gives boxes (as_fault f)
        least f m first =
            let from = from_kept boxes f m in
            record {
              position = f.position;
              place = refl;
              has = of_any (λ box. fault_at gives (cells_of box) ≡ Some (as_fault f)) boxes from.0 from.1
                  (⊎_elim
                  (λ none. let clash : None ≡ Some f = sym none.0 ∙ from.2 in cc)
                  (λ some. let same : some.0 ≡ f = let e : Some some.0 ≡ Some f = sym some.1.answered ∙ from.2 in cc in some.1.given ∙ ap (λ g. Some (as_fault g)) same)
                  (tells (cells_of from.0) (other from.0) (no_fault from.0)));
              least = all_members (λ box. IfSome (fault_at gives (cells_of box)) (IsNotEarlier f.position)) boxes
                  (λ box k. ⊎_elim
                  (λ none. subst (λ o. IfSome o (IsNotEarlier f.position)) (sym none.1) tt)
                  (λ some. subst (λ o. IfSome o (IsNotEarlier f.position)) (sym some.1.given)
                  (λ q at. let same : some.0.position ≡ q = cc in subst (λ p. (f.position ≡ p) ⊎ IsBefore f.position p) same (first some.0 (kept boxes box some.0 k some.1.answered))))
                  (tells (cells_of box) (other box) (no_fault box)));
            }

        by : (fs : List Faulted) → filter_map fault_for boxes ≡ fs → ((fold or_earlier None (filter_map fault_for boxes) ≡ None) × All (λ box. fault_at gives (cells_of box) ≡ None) boxes)
            ⊎ ((f : Faulted) × (fold or_earlier None (filter_map fault_for boxes) ≡ Some f) × (f.statement ≡ number) × IsLeastFault gives boxes (as_fault f))
        by [] e = inl (ap (fold or_earlier None) e, all_members (λ box. fault_at gives (cells_of box) ≡ None) boxes (none_there e))
        by (x ∷ fs) e =
            let all_of : (y : Faulted) → Member (x ∷ fs) y → IsOf number n y = λ y m. is_of y (subst (λ l. Member l y) (sym e) m) in
            let found = earliest number n fs x (all_of x (inl refl)) (λ y m. all_of y (inr m)) in
            let there : Member (x ∷ fs) found.0 = ⊎_elim (λ same. inl (sym same)) (λ m. inr m) found.2.one in
            let f_there : Member (filter_map fault_for boxes) found.0 = subst (λ l. Member l found.0) (sym e) there in
            inr (
              found.0,
              ap (fold or_earlier None) e ∙ found.1,
              (all_of found.0 there).statement,
              least found.0 f_there (λ y m. ⊎_elim (λ same. subst (NotAfter found.0) same found.2.first) (λ l. found.2.all y l) (subst (λ l. Member l y) e m)),
            )
