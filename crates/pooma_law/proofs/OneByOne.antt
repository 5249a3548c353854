-- What doing works one after another leaves at a place, and that it composes.
use Rattle.std.proofs.Common.{◌≡◌, ◌<◌, ◌≤◌, ℕ, zero, suc, Bool, true, false, List, [], ◌∷◌, ◌++◌, map, length, take, drop, set, Option, Some, None, option_map, slice_get, All, fold, refl, sym, ◌∙◌, ap, subst, arith, inl, inr, append_assoc, append-nil, length-set, take-append-drop}
use Rattle.std.proofs.lemmas.Bool.Decides.{eqb_tells, leb_tells}
use Rattle.std.proofs.lemmas.List.{length-take-le, take_all}
use Rattle.std.proofs.lemmas.List.Sums.{fold-append}
use Rattle.std.proofs.lemmas.Option.{slice_get-map, get_or_from_slice_get, slice_get_within}
use Rattle.pooma_machine.specs.declared.step.Request.{Request}
use Rattle.pooma_machine.specs.Steps.{requests_of}
use Rattle.pooma_machine.specs.Values.{Meaning, lent_by, new_value_of, outcome_of, written_object, put_back, asks_of, is_write}
use Rattle.pooma_law.specs.Ser.{Results, at_first, with_work, ser}
use Rattle.pooma_law.specs.Writers.{asks_to_write}
use Rattle.pooma_law.proofs.Places.{there, take_further, take_past, get_middle, get-set_own, get-set_other}

-- a value that is put back changes no other object, and its own alike in alike lists
pub put_back_other : {X : Type 0} (objects : List X) (object : Option ℕ) (value : Option X) (o : ℕ) → (object ≡ Some o → ⊥) → slice_get (put_back objects object value) o ≡ slice_get objects o
put_back_other objects None value o ne = refl
put_back_other objects (Some p) None o ne = refl
put_back_other objects (Some p) (Some x) o ne = get-set_other objects p o x (λ e. ne (ap (λ k. Some k) e))

pub put_back_same : {X : Type 0} (xs ys : List X) (object : Option ℕ) (value : Option X) (o : ℕ) → slice_get xs o ≡ slice_get ys o
    → slice_get (put_back xs object value) o ≡ slice_get (put_back ys object value) o
put_back_same xs ys None value o same = same
put_back_same xs ys (Some p) None o same = same
put_back_same {X} xs ys (Some p) (Some x) o same =
    elim (eqb_tells p o) [
      | inl t ↦
          subst (λ k. slice_get (set xs p x) k ≡ slice_get (set ys p x) k) t.1
          (get-set_own xs p x ∙ (ap (option_map (λ (old : X). x)) (ap (slice_get xs) t.1 ∙ (same ∙ sym (ap (slice_get ys) t.1))) ∙ sym (get-set_own ys p x)))
      | inr n ↦ get-set_other xs p o x n.1 ∙ (same ∙ sym (get-set_other ys p o x n.1))
    ]

length-put_back : {X : Type 0} (objects : List X) (object : Option ℕ) (value : Option X) → length (put_back objects object value) ≡ length objects
length-put_back objects None value = refl
length-put_back objects (Some p) None = refl
length-put_back objects (Some p) (Some x) = length-set objects p x

-- the object that requests ask to write is one that they ask to write
pub written_asks : (requests : List Request) (o : ℕ) → written_object requests ≡ Some o → asks_to_write requests o ≡ true
written_asks [] o e = absurd (cc e)
written_asks (r ∷ rs) o e = by (written_asks rs o) (is_write r.mode) refl
  where
    by : (written_object rs ≡ Some o → asks_to_write rs o ≡ true) → (b : Bool) → is_write r.mode ≡ b → asks_to_write (r ∷ rs) o ≡ true
    by again true t =
        let both : Some r.object ≡ Some o = rw t at e in
        let same : r.object ≡ o = cc in
        elim (eqb_tells r.object o) [ inl s ↦ rw (t, s.0) refl | inr n ↦ absurd (n.1 same) ]
    by again false t = rw t (again (rw t at e))

-- what an entry of the plan asks for
pub asks_at : {W X O S : Type 0} (m : Meaning W X O S) (plan : List W) (j : ℕ) (work : W) → slice_get plan j ≡ Some work → requests_of (asks_of m plan) j ≡ m.requests work
asks_at m plan j work at = get_or_from_slice_get (map m.requests plan) j (m.requests work) [] (slice_get-map m.requests plan j ∙ ap (option_map m.requests) at)

module _ {W X O S : Type 0} (m : Meaning W X O S) where
  -- the outcomes of works that were done before stand in front, and the objects know nothing of them
  from_objects : (works : List W) (objects : List X) (outcomes : List O) → (fold (with_work m) (record { objects = objects; outcomes = outcomes }) works).objects ≡ (ser m works objects).objects
  from_objects [] objects outcomes = refl
  from_objects (w ∷ ws) objects outcomes =
      let lent = lent_by objects (m.requests w) in
      let next = put_back objects (written_object (m.requests w)) (new_value_of m w lent) in
      let answer = outcome_of m w lent in
      from_objects ws next (outcomes ++ answer ∷ []) ∙ sym (from_objects ws next (answer ∷ []))

  from_outcomes : (works : List W) (objects : List X) (outcomes : List O) → (fold (with_work m) (record { objects = objects; outcomes = outcomes }) works).outcomes ≡ outcomes ++ (ser m works objects).outcomes
  from_outcomes [] objects outcomes = sym (append-nil outcomes)
  from_outcomes (w ∷ ws) objects outcomes =
      let lent = lent_by objects (m.requests w) in
      let next = put_back objects (written_object (m.requests w)) (new_value_of m w lent) in
      let answer = outcome_of m w lent in
      from_outcomes ws next (outcomes ++ answer ∷ []) ∙ (append_assoc outcomes (answer ∷ []) (ser m ws next).outcomes ∙ ap (λ zs. outcomes ++ zs) (sym (from_outcomes ws next (answer ∷ []))))

  -- a front and then the rest
  pub ser_objects : (front rest : List W) (opening : List X) → (ser m (front ++ rest) opening).objects ≡ (ser m rest (ser m front opening).objects).objects
  ser_objects front rest opening =
      ap (λ (r : Results X O). r.objects) (fold-append (with_work m) (at_first opening) front rest)
      ∙ from_objects rest (ser m front opening).objects (ser m front opening).outcomes

  pub ser_outcomes : (front rest : List W) (opening : List X) → (ser m (front ++ rest) opening).outcomes ≡ (ser m front opening).outcomes ++ (ser m rest (ser m front opening).objects).outcomes
  ser_outcomes front rest opening =
      ap (λ (r : Results X O). r.outcomes) (fold-append (with_work m) (at_first opening) front rest)
      ∙ from_outcomes rest (ser m front opening).objects (ser m front opening).outcomes

  -- an outcome for each work, and no object more or less
  pub length-ser_outcomes : (plan : List W) (opening : List X) → length (ser m plan opening).outcomes ≡ length plan
  length-ser_outcomes [] opening = refl
  length-ser_outcomes (w ∷ ws) opening =
      let lent = lent_by opening (m.requests w) in
      let next = put_back opening (written_object (m.requests w)) (new_value_of m w lent) in
      ap length (from_outcomes ws next (outcome_of m w lent ∷ [])) ∙ ap suc (length-ser_outcomes ws next)

  pub length-ser_objects : (plan : List W) (opening : List X) → length (ser m plan opening).objects ≡ length opening
  length-ser_objects [] opening = refl
  length-ser_objects (w ∷ ws) opening =
      let lent = lent_by opening (m.requests w) in
      let next = put_back opening (written_object (m.requests w)) (new_value_of m w lent) in
      ap length (from_objects ws next (outcome_of m w lent ∷ [])) ∙ (length-ser_objects ws next ∙ length-put_back opening (written_object (m.requests w)) (new_value_of m w lent))

module _ {W X O S : Type 0} (m : Meaning W X O S) (plan : List W) (opening : List X) where
  -- one entry more
  pub ser_further : (j : ℕ) (work : W) → slice_get plan j ≡ Some work → ser m (take (suc j) plan) opening ≡ with_work m (ser m (take j plan) opening) work
  ser_further j work at = ap (λ p. ser m p opening) (take_further plan j work at) ∙ fold-append (with_work m) (at_first opening) (take j plan) (work ∷ [])

  -- an entry's outcome, from what the entries before it leave
  pub outcome_at : (j : ℕ) (work : W) → slice_get plan j ≡ Some work
      → slice_get (ser m plan opening).outcomes j ≡ Some (outcome_of m work (lent_by (ser m (take j plan) opening).objects (m.requests work)))
  outcome_at j work at =
      let before = ser m (take j plan) opening in
      let lent = lent_by before.objects (m.requests work) in
      let answer = outcome_of m work lent in
      let rest = (ser m (drop (suc j) plan) (ser m (take (suc j) plan) opening).objects).outcomes in
      let within : j < length plan = slice_get_within plan j work at in
      let long : length before.outcomes ≡ j = length-ser_outcomes m (take j plan) opening ∙ length-take-le j plan (omega arith) in
      let whole : (ser m plan opening).outcomes ≡ (ser m (take (suc j) plan) opening).outcomes ++ rest =
      ap (λ p. (ser m p opening).outcomes) (sym (take-append-drop (suc j) plan)) ∙ ser_outcomes m (take (suc j) plan) (drop (suc j) plan) opening in
      let front : (ser m (take (suc j) plan) opening).outcomes ≡ before.outcomes ++ answer ∷ [] = ap (λ (r : Results X O). r.outcomes) (ser_further j work at) in
      ap (λ zs. slice_get zs j) (whole ∙ (ap (λ zs. zs ++ rest) front ∙ append_assoc before.outcomes (answer ∷ []) rest))
      ∙ subst (λ k. slice_get (before.outcomes ++ answer ∷ rest) k ≡ Some answer) long (get_middle before.outcomes answer rest)

  -- entries that do not ask to write an object leave it
  left : (k o : ℕ) → (asks_to_write (requests_of (asks_of m plan) k) o ≡ true → ⊥) → (at : Option W) → slice_get plan k ≡ at
      → slice_get (ser m (take (suc k) plan) opening).objects o ≡ slice_get (ser m (take k plan) opening).objects o
  left k o free None at = ap (λ p. slice_get (ser m p opening).objects o) (take_past plan k at)
  left k o free (Some work) at =
      let before = ser m (take k plan) opening in
      ap (λ (r : Results X O). slice_get r.objects o) (ser_further k work at)
      ∙ put_back_other before.objects (written_object (m.requests work)) (new_value_of m work (lent_by before.objects (m.requests work))) o
      (λ e. free (rw (asks_at m plan k work at) (written_asks (m.requests work) o e)))

  pub unwritten : (o j k : ℕ) → j ≤ k → ((i : ℕ) → j ≤ i → i < k → asks_to_write (requests_of (asks_of m plan) i) o ≡ true → ⊥)
      → slice_get (ser m (take k plan) opening).objects o ≡ slice_get (ser m (take j plan) opening).objects o
  unwritten o j zero h free = let e : j ≡ 0 = omega arith in rw e refl
  unwritten o j (suc k) h free =
      elim (leb_tells j k) [
        | inl t ↦ left k o (free k t.1 (omega arith)) (slice_get plan k) refl ∙ unwritten o j k t.1 (λ i from below. free i from (omega arith))
        | inr f ↦ let e : j ≡ suc k = omega (arith, f.1) in rw e refl
      ]

  -- an object that no work asks to write
  pub untouched : (o : ℕ) → All (λ work. asks_to_write (m.requests work) o ≡ false) plan → slice_get (ser m plan opening).objects o ≡ slice_get opening o
  untouched o none =
      ap (λ p. slice_get (ser m p opening).objects o) (sym (take_all (length plan) plan (omega arith)))
      ∙ unwritten o 0 (length plan) (omega arith) (λ i from within writes.
      let work = there plan i within in
      let free : asks_to_write (m.requests work.0) o ≡ false = subst (λ w. asks_to_write (m.requests w) o ≡ false) (get_or_from_slice_get plan i work.0 work.0 work.1) (none i work.0 within) in
      absurd (cc (sym free ∙ (ap (λ rs. asks_to_write rs o) (sym (asks_at m plan i work.0 work.1)) ∙ writes))))
