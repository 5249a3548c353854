-- The operations of an expression come to its value, and each finds what it needs.
use Rattle.std.proofs.Common.{◌≡◌, ℕ, suc, ◌+◌, ◌-◌, ◌<◌, ◌≤◌, max, ℤ, pos, Bool, true, false, cond, refl, sym, ap, subst, ◌∙◌, arith, zero-add, List, [], ◌∷◌, ◌++◌, length, append_assoc, append-nil, length-append, Ok, Err, Some}
use Rattle.std.specs.Prelude.{neg_ℤ, unsigned_abs, slice_index_or, slice_get, if◌then◌else◌}
use Rattle.std.specs.Ordering.{int_eq}
use Rattle.pooma_view.specs.Slots.{cell_named}
use Rattle.pooma_view.specs.Views.{Viewed}
use Rattle.pooma_expr.specs.declared.operation.Operation.{Operation}
use Rattle.pooma_expr.specs.declared.operation.Operation.TheVariants.{Push, PushIndex, PushRead, Negate, Absolute, Apply, SkipIfZero, Skip}
use Rattle.pooma_expr.specs.declared.tree.Op.{Op}
use Rattle.pooma_expr.specs.declared.tree.Expr.{Expr}
use Rattle.pooma_expr.specs.Values.{Checked, Contents, exact, and_then, result_of, value_by, value}
use Rattle.pooma_expr.specs.Trees.{views_by, views_of, greatest_by, axes_at, axes_needed}
use Rattle.pooma_expr.specs.Code.{Emitted, leaf_code, one_code, both_code, choice_code, emitted_by, emitted, places_by, places_of}
use Rattle.pooma_expr.specs.Reads.{AgreeWith}
use Rattle.pooma_expr.specs.Machine.{Step, push, step_of, then_on, outcome, CanRun}
use Rattle.pooma_expr.proofs.Trees.{EachForm, by_form, fold-Literal, fold-Scalar, fold-Index, fold-Read, fold-Neg, fold-Abs, fold-Bin, fold-Where}

module _ (number : ℕ → ℤ) (p : List ℤ) where
  -- what is passed over is as good as not there
  pub outcome-append : (xs rest : List Operation) (n : ℕ) (s : List ℤ) → outcome number p (xs ++ rest) (length xs + n) s ≡ outcome number p rest n s
  outcome-append [] rest n s = ap (λ (k : ℕ). outcome number p rest k s) (zero-add n)
  outcome-append (x ∷ xs) rest n s =
      let more : length (x ∷ xs) + n ≡ suc (length xs + n) = omega arith in
      ap (λ (k : ℕ). outcome number p (x ∷ (xs ++ rest)) k s) more ∙ outcome-append xs rest n s

  pushed : (c : Checked) (rest : List Operation) (s : List ℤ) → then_on (push c s) (outcome number p rest) ≡ and_then c (λ v. outcome number p rest 0 (v ∷ s))
  pushed (Ok x) rest s = refl
  pushed (Err fault) rest s = refl

  -- an operand, and what is made of it
  one : (c : Checked) (f : ℤ → Checked) (g : ℤ → Checked) (rest : List Operation) (s : List ℤ) → ((x : ℤ) → g x ≡ and_then (f x) (λ v. outcome number p rest 0 (v ∷ s))) → and_then c g ≡ and_then (and_then c f) (λ v. outcome number p rest 0 (v ∷ s))
  one (Ok x) f g rest s same = same x
  one (Err fault) f g rest s same = refl

  two : (c : Checked) (d : ℤ → Checked) (e : ℤ → Checked) → ((x : ℤ) → d x ≡ e x) → and_then c d ≡ and_then c e
  two (Ok x) d e same = same x
  two (Err fault) d e same = refl

module _ (CanAsk : ℕ → Type 0) (dims places : ℕ) where
  pub can_append : (xs rest : List Operation) (n h : ℕ) → CanRun CanAsk dims places rest n h → CanRun CanAsk dims places (xs ++ rest) (length xs + n) h
  can_append [] rest n h can = subst (λ (k : ℕ). CanRun CanAsk dims places rest k h) (sym (zero-add n)) can
  can_append (x ∷ xs) rest n h can =
      let more : suc (length xs + n) ≡ length (x ∷ xs) + n = omega arith in
      subst (λ (k : ℕ). CanRun CanAsk dims places (x ∷ (xs ++ rest)) k h) more (can_append xs rest n h can)

-- from a number on, the reads have what the views have
abbrev pub AgreeFrom : (ℕ → ℤ) → Contents → List ℤ → ℕ → List Viewed → Type 0
AgreeFrom number has p k [] = Unit {0}
AgreeFrom number has p k (v ∷ vs) = (number k ≡ has v (cell_named v.slots p)) × AgreeFrom number has p (k + 1) vs

agree_split : (number : ℕ → ℤ) (has : Contents) (p : List ℤ) (k n : ℕ) (xs ys : List Viewed) → n ≡ k + length xs → AgreeFrom number has p k (xs ++ ys) → AgreeFrom number has p k xs × AgreeFrom number has p n ys
agree_split number has p k n [] ys e h = let same : k ≡ n = omega arith in (tt, subst (λ (m : ℕ). AgreeFrom number has p m ys) same h)
agree_split number has p k n (x ∷ xs) ys e h =
    let rest = agree_split number has p (k + 1) n xs ys (omega arith) h.1 in
    ((h.0, rest.0), rest.1)

pub agree_all : (number : ℕ → ℤ) (has : Contents) (p : List ℤ) (k : ℕ) (vs : List Viewed) → ((j : ℕ) (v : Viewed) → slice_get vs j ≡ Some v → number (k + j) ≡ has v (cell_named v.slots p)) → AgreeFrom number has p k vs
agree_all number has p k [] h = tt
agree_all number has p k (v ∷ vs) h =
    let here : k + 0 ≡ k = omega arith in (
      ap number (sym here) ∙ h 0 v refl,
      agree_all number has p (k + 1) vs (λ j w e. let there : k + 1 + j ≡ k + suc j = omega arith in ap number there ∙ h (suc j) w e),
    )

module _ (number : ℕ → ℤ) (has : Contents) (p : List ℤ) (CanAsk : ℕ → Type 0) (dims places : ℕ) where
  -- what is shown of the operations of an expression, its value, its views, and the places and axes that it needs
  pub record IsFine (code : ℕ → Emitted) (worth : Checked) (views : List Viewed) (high axes : ℕ) : Type 0 where
    pub next : (k : ℕ) → (code k).next ≡ k + length views
    pub comes : (k : ℕ) (rest : List Operation) (s : List ℤ) → AgreeFrom number has p k views
        → outcome number p ((code k).operations ++ rest) 0 s ≡ and_then worth (λ v. outcome number p rest 0 (v ∷ s))
    pub can : (k h : ℕ) (rest : List Operation) → ((j : ℕ) → j < length views → CanAsk (k + j)) → axes ≤ dims → h + high ≤ places
        → CanRun CanAsk dims places rest 0 (h + 1) → CanRun CanAsk dims places ((code k).operations ++ rest) 0 h

  fine_literal : (x : ℤ) → IsFine (λ k. leaf_code (Push x) k) (Ok x) [] 1 0
  fine_literal x = record {
    next = λ k. omega arith;
    comes = λ k rest s agree. refl;
    can = λ k h rest ask few room can. (omega arith, can);
  }

  fine_index : (axis : ℕ) → IsFine (λ k. leaf_code (PushIndex axis) k) (Ok (slice_index_or p axis (pos 0))) [] 1 (axis + 1)
  fine_index axis = record {
    next = λ k. omega arith;
    comes = λ k rest s agree. refl;
    can = λ k h rest ask few room can. ((omega arith, omega arith), can);
  }

  fine_read : (v : Viewed) → IsFine (λ k. leaf_code (PushRead k) (k + 1)) (Ok (has v (cell_named v.slots p))) (v ∷ []) 1 0
  fine_read v = record {
    next = λ k. omega arith;
    comes = λ k rest s agree. ap (λ (x : ℤ). outcome number p rest 0 (x ∷ s)) agree.0;
    can = λ k h rest ask few room can. let here : k + 0 ≡ k = omega arith in ((subst CanAsk here (ask 0 (omega arith)), omega arith), can);
  }

  fine_one : (code : ℕ → Emitted) (worth : Checked) (views : List Viewed) (high axes : ℕ) (o : Operation) (f : ℤ → Checked)
      → ((x : ℤ) (s : List ℤ) → step_of number p o (x ∷ s) ≡ push (f x) s)
      → ((h : ℕ) (rest : List Operation) → CanRun CanAsk dims places rest 0 (h + 1) → CanRun CanAsk dims places (o ∷ rest) 0 (h + 1))
      → IsFine code worth views high axes → IsFine (λ k. one_code (code k) o) (and_then worth f) views high axes
  fine_one code worth views high axes o f does may a = record {
    next = a.next;
    comes = λ k rest s agree.
        ap (λ (xs : List Operation). outcome number p xs 0 s) (append_assoc (code k).operations (o ∷ []) rest)
        ∙ a.comes k (o ∷ rest) s agree
        ∙ one number p worth f (λ v. outcome number p (o ∷ rest) 0 (v ∷ s)) rest s
        (λ x. ap (λ (r : Step). then_on r (outcome number p rest)) (does x s) ∙ pushed number p (f x) rest s);
    can = λ k h rest ask few room can.
        subst (λ (xs : List Operation). CanRun CanAsk dims places xs 0 h) (sym (append_assoc (code k).operations (o ∷ []) rest))
        (a.can k h (o ∷ rest) ask few room (may h rest can));
  }

  -- reads may be asked on both sides of a list of views
  ask_split : (k n : ℕ) (xs ys : List Viewed) → n ≡ k + length xs → ((j : ℕ) → j < length (xs ++ ys) → CanAsk (k + j)) → ((j : ℕ) → j < length xs → CanAsk (k + j)) × ((j : ℕ) → j < length ys → CanAsk (n + j))
  ask_split k n xs ys e ask = (
    λ j h. ask j (omega (arith, length-append xs ys)),
    λ j h. let there : k + (length xs + j) ≡ n + j = omega arith in subst CanAsk there (ask (length xs + j) (omega (arith, length-append xs ys))),
  )

  fine_two : (ca cb : ℕ → Emitted) (va vb : Checked) (xs ys : List Viewed) (ha hb da db : ℕ) (o : Op)
      → IsFine ca va xs ha da → IsFine cb vb ys hb db
      → IsFine (λ k. both_code (ca k) (cb (ca k).next) (Apply o)) (and_then va (λ x. and_then vb (λ y. result_of o x y))) (xs ++ ys) (max ha (hb + 1)) (max da db)
  fine_two ca cb va vb xs ys ha hb da db o a b = record {
    next = λ k. let m = a.next k in let n = b.next (ca k).next in omega (arith, length-append xs ys, m, n);
    comes = λ k rest s agree.
        let xo = (ca k).operations in let yo = (cb (ca k).next).operations in
        let parts = agree_split number has p k (ca k).next xs ys (a.next k) agree in
        let flat : (xo ++ (yo ++ Apply o ∷ [])) ++ rest ≡ xo ++ (yo ++ (Apply o ∷ rest)) = append_assoc xo (yo ++ Apply o ∷ []) rest ∙ ap (λ (t : List Operation). xo ++ t) (append_assoc yo (Apply o ∷ []) rest) in
        ap (λ (t : List Operation). outcome number p t 0 s) flat
        ∙ a.comes k (yo ++ (Apply o ∷ rest)) s parts.0
        ∙ one number p va (λ x. and_then vb (λ y. result_of o x y)) (λ x. outcome number p (yo ++ (Apply o ∷ rest)) 0 (x ∷ s)) rest s
        (λ x. b.comes (ca k).next (Apply o ∷ rest) (x ∷ s) parts.1
        ∙ one number p vb (λ y. result_of o x y) (λ y. outcome number p (Apply o ∷ rest) 0 (y ∷ (x ∷ s))) rest s (λ y. pushed number p (result_of o x y) rest s));
    can = λ k h rest ask few room can.
        let xo = (ca k).operations in let yo = (cb (ca k).next).operations in
        let parts = ask_split k (ca k).next xs ys (a.next k) ask in
        let flat : (xo ++ (yo ++ Apply o ∷ [])) ++ rest ≡ xo ++ (yo ++ (Apply o ∷ rest)) = append_assoc xo (yo ++ Apply o ∷ []) rest ∙ ap (λ (t : List Operation). xo ++ t) (append_assoc yo (Apply o ∷ []) rest) in
        let lower : h + 1 ≡ h + 1 + 1 - 1 = omega arith in
        let last : CanRun CanAsk dims places (Apply o ∷ rest) 0 (h + 1 + 1) = (omega arith, subst (λ (i : ℕ). CanRun CanAsk dims places rest 0 i) lower can) in
        subst (λ (t : List Operation). CanRun CanAsk dims places t 0 h) (sym flat)
        (a.can k h (yo ++ (Apply o ∷ rest)) parts.0 (omega arith) (omega arith)
        (b.can (ca k).next (h + 1) (Apply o ∷ rest) parts.1 (omega arith) (omega arith) last));
  }

  fine_choice : (cc ca cb : ℕ → Emitted) (vc va vb : Checked) (zs xs ys : List Viewed) (hc ha hb dc da db : ℕ)
      → IsFine cc vc zs hc dc → IsFine ca va xs ha da → IsFine cb vb ys hb db
      → IsFine (λ k. record { operations = choice_code (cc k).operations (ca (cc k).next).operations (cb (ca (cc k).next).next).operations; next = (cb (ca (cc k).next).next).next })
      (and_then vc (λ x. if int_eq x (pos 0) then vb else va)) (zs ++ (xs ++ ys)) (max hc (max ha hb)) (max dc (max da db))
  fine_choice cc ca cb vc va vb zs xs ys hc ha hb dc da db c a b = record {
    next = λ k. let m = c.next k in let n = a.next (cc k).next in let l = b.next (ca (cc k).next).next in omega (arith, length-append zs (xs ++ ys), length-append xs ys, m, n, l);
    comes = λ k rest s agree.
        let zo = (cc k).operations in let xo = (ca (cc k).next).operations in let yo = (cb (ca (cc k).next).next).operations in
        let first = agree_split number has p k (cc k).next zs (xs ++ ys) (c.next k) agree in
        let second = agree_split number has p (cc k).next (ca (cc k).next).next xs ys (a.next (cc k).next) first.1 in
        ap (λ (t : List Operation). outcome number p t 0 s) (flat zo xo yo rest)
        ∙ c.comes k (SkipIfZero (length xo + 1) ∷ (xo ++ (Skip (length yo) ∷ (yo ++ rest)))) s first.0
        ∙ one number p vc (λ x. if int_eq x (pos 0) then vb else va) (λ x. outcome number p (SkipIfZero (length xo + 1) ∷ (xo ++ (Skip (length yo) ∷ (yo ++ rest)))) 0 (x ∷ s)) rest s
        (λ x. at_test xo yo rest s (int_eq x (pos 0)) (a.comes (cc k).next (Skip (length yo) ∷ (yo ++ rest)) s second.0) (b.comes (ca (cc k).next).next rest s second.1));
    can = λ k h rest ask few room can.
        let zo = (cc k).operations in let xo = (ca (cc k).next).operations in let yo = (cb (ca (cc k).next).next).operations in
        let first = ask_split k (cc k).next zs (xs ++ ys) (c.next k) ask in
        let second = ask_split (cc k).next (ca (cc k).next).next xs ys (a.next (cc k).next) first.1 in
        let past : CanRun CanAsk dims places (yo ++ rest) (length yo) (h + 1) = let whole : length yo + 0 ≡ length yo = omega arith in subst (λ (n : ℕ). CanRun CanAsk dims places (yo ++ rest) n (h + 1)) whole (can_append CanAsk dims places yo rest 0 (h + 1) can) in
        let one_way = a.can (cc k).next h (Skip (length yo) ∷ (yo ++ rest)) second.0 (omega arith) (omega arith) (tt, past) in
        let other_way = can_append CanAsk dims places xo (Skip (length yo) ∷ (yo ++ rest)) 1 h (b.can (ca (cc k).next).next h rest second.1 (omega arith) (omega arith) can) in
        let lower : h ≡ h + 1 - 1 = omega arith in
        let tail = xo ++ (Skip (length yo) ∷ (yo ++ rest)) in
        let test : CanRun CanAsk dims places (SkipIfZero (length xo + 1) ∷ tail) 0 (h + 1) =
        (omega arith, (subst (λ (i : ℕ). CanRun CanAsk dims places tail (length xo + 1) i) lower other_way, subst (λ (i : ℕ). CanRun CanAsk dims places tail 0 i) lower one_way)) in
        subst (λ (t : List Operation). CanRun CanAsk dims places t 0 h) (sym (flat zo xo yo rest))
        (c.can k h (SkipIfZero (length xo + 1) ∷ tail) first.0 (omega arith) (omega arith) test);
  }
    where
      flat : (zo xo yo rest : List Operation) → choice_code zo xo yo ++ rest ≡ zo ++ (SkipIfZero (length xo + 1) ∷ (xo ++ (Skip (length yo) ∷ (yo ++ rest))))
      flat zo xo yo rest =
          append_assoc zo (SkipIfZero (length xo + 1) ∷ (xo ++ (Skip (length yo) ∷ yo))) rest
          ∙ ap (λ (t : List Operation). zo ++ (SkipIfZero (length xo + 1) ∷ t)) (append_assoc xo (Skip (length yo) ∷ yo) rest)

      at_test : (xo yo rest : List Operation) (s : List ℤ) (t : Bool)
          → outcome number p (xo ++ (Skip (length yo) ∷ (yo ++ rest))) 0 s ≡ and_then va (λ v. outcome number p (Skip (length yo) ∷ (yo ++ rest)) 0 (v ∷ s))
          → outcome number p (yo ++ rest) 0 s ≡ and_then vb (λ v. outcome number p rest 0 (v ∷ s))
          → outcome number p (xo ++ (Skip (length yo) ∷ (yo ++ rest))) (cond t (length xo + 1) 0) s ≡ and_then (cond t vb va) (λ v. outcome number p rest 0 (v ∷ s))
      at_test xo yo rest s true ea eb = outcome-append number p xo (Skip (length yo) ∷ (yo ++ rest)) 1 s ∙ eb
      at_test xo yo rest s false ea eb =
          ea ∙ two number p va (λ v. outcome number p (yo ++ rest) (length yo) (v ∷ s)) (λ v. outcome number p rest 0 (v ∷ s))
          (λ v. let whole : length yo ≡ length yo + 0 = omega arith in ap (λ (n : ℕ). outcome number p (yo ++ rest) n (v ∷ s)) whole ∙ outcome-append number p yo rest 0 (v ∷ s))

  moved_fine : (c d : ℕ → Emitted) (v w : Checked) (xs ys : List Viewed) (h i a b : ℕ) → d ≡ c → w ≡ v → ys ≡ xs → i ≡ h → b ≡ a → IsFine c v xs h a → IsFine d w ys i b
  moved_fine c d v w xs ys h i a b ec ev ex eh ea f =
      subst (λ (x : ℕ → Emitted). IsFine x w ys i b) (sym ec)
      (subst (λ (x : Checked). IsFine c x ys i b) (sym ev)
      (subst (λ (x : List Viewed). IsFine c v x i b) (sym ex)
      (subst (λ (x : ℕ). IsFine c v xs x b) (sym eh)
      (subst (λ (x : ℕ). IsFine c v xs h x) (sym ea) f))))

  -- of an expression
  abbrev Fine : Expr → Type 0
  Fine e = IsFine (emitted e) (value [] has e p) (views_of e) (places_of e) (axes_needed e)

  fine_by : EachForm Fine
  fine_by = record {
    literal = λ x. moved_fine _ _ _ _ _ _ _ _ _ _ (fold-Literal _ emitted_by x) (fold-Literal _ (value_by [] has p) x) (fold-Literal _ views_by x) (fold-Literal _ places_by x) (fold-Literal _ (greatest_by axes_at) x) (fine_literal x);
    scalar = λ x. moved_fine _ _ _ _ _ _ _ _ _ _ (fold-Scalar _ emitted_by x) (fold-Scalar _ (value_by [] has p) x) (fold-Scalar _ views_by x) (fold-Scalar _ places_by x) (fold-Scalar _ (greatest_by axes_at) x) (fine_literal (pos 0));
    index = λ x. moved_fine _ _ _ _ _ _ _ _ _ _ (fold-Index _ emitted_by x) (fold-Index _ (value_by [] has p) x) (fold-Index _ views_by x) (fold-Index _ places_by x) (fold-Index _ (greatest_by axes_at) x) (fine_index x);
    read = λ x. moved_fine _ _ _ _ _ _ _ _ _ _ (fold-Read _ emitted_by x) (fold-Read _ (value_by [] has p) x) (fold-Read _ views_by x) (fold-Read _ places_by x) (fold-Read _ (greatest_by axes_at) x) (fine_read x);
    neg = λ a h. moved_fine _ _ _ _ _ _ _ _ _ _ (fold-Neg _ emitted_by a) (fold-Neg _ (value_by [] has p) a) (fold-Neg _ views_by a) (fold-Neg _ places_by a) (fold-Neg _ (greatest_by axes_at) a)
        (fine_one _ _ _ _ _ Negate (λ x. exact (neg_ℤ x)) (λ x s. refl) (λ i rest can. (omega arith, can)) h);
    abs = λ a h. moved_fine _ _ _ _ _ _ _ _ _ _ (fold-Abs _ emitted_by a) (fold-Abs _ (value_by [] has p) a) (fold-Abs _ views_by a) (fold-Abs _ places_by a) (fold-Abs _ (greatest_by axes_at) a)
        (fine_one _ _ _ _ _ Absolute (λ x. exact (pos (unsigned_abs x))) (λ x s. refl) (λ i rest can. (omega arith, can)) h);
    bin = λ o a b h i. moved_fine _ _ _ _ _ _ _ _ _ _ (fold-Bin _ emitted_by o a b) (fold-Bin _ (value_by [] has p) o a b) (fold-Bin _ views_by o a b) (fold-Bin _ places_by o a b) (fold-Bin _ (greatest_by axes_at) o a b)
        (fine_two _ _ _ _ _ _ _ _ _ _ o h i);
    choice = λ c a b h i j. moved_fine _ _ _ _ _ _ _ _ _ _ (fold-Where _ emitted_by c a b) (fold-Where _ (value_by [] has p) c a b) (fold-Where _ views_by c a b) (fold-Where _ places_by c a b) (fold-Where _ (greatest_by axes_at) c a b)
        (fine_choice _ _ _ _ _ _ _ _ _ _ _ _ _ _ _ h i j);
  }

  pub fine : (e : Expr) → Fine e
  fine = by_form Fine fine_by

as_it_is : (c : Checked) → and_then c (λ v. Ok v) ≡ c
as_it_is (Ok x) = refl
as_it_is (Err fault) = refl

-- the operations of an expression find what they need
pub code_can : (CanAsk : ℕ → Type 0) (dims places : ℕ) (e : Expr) → places_of e ≤ places → axes_needed e ≤ dims → ((read : ℕ) → read < length (views_of e) → CanAsk read) → CanRun CanAsk dims places (emitted e 0).operations 0 0
code_can CanAsk dims places e room few ask =
    let whole = (fine (λ k. pos 0) (λ v c. pos 0) [] CanAsk dims places e).can 0 0 []
    (λ j h. let here : j ≡ 0 + j = omega arith in subst CanAsk here (ask j h)) few (omega arith) refl in
    subst (λ (xs : List Operation). CanRun CanAsk dims places xs 0 0) (append-nil (emitted e 0).operations) whole

-- and come to its value
pub code_comes : (number : ℕ → List ℤ → ℤ) (has : Contents) (p : List ℤ) (e : Expr) → AgreeWith has (views_of e) p number → outcome (λ read. number read p) p (emitted e 0).operations 0 [] ≡ value [] has e p
code_comes number has p e agree =
    let from = agree_all (λ read. number read p) has p 0 (views_of e) (λ j v h. let here : 0 + j ≡ j = omega arith in ap (λ (read : ℕ). number read p) here ∙ agree j v h) in
    ap (λ (xs : List Operation). outcome (λ read. number read p) p xs 0 []) (sym (append-nil (emitted e 0).operations))
    ∙ (fine (λ read. number read p) has p (λ k. Unit {0}) 0 0 e).comes 0 [] [] from
    ∙ as_it_is (value [] has e p)
