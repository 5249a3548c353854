-- Lists of what happened, fronts of them, and the calls of some seats among them.
use Rattle.std.proofs.Common.{◌≡◌, ◌≤◌, ◌==◌, ℕ, Bool, true, false, List, [], ◌∷◌, ◌++◌, length, Contains, cond, eq-eqb, ltb, ltb-true, ltb-false, le-ltb, refl, sym, ap, ◌∙◌, subst, ◌⊎◌, inl, inr, arith, append_assoc, append-nil}
use Rattle.std.proofs.lemmas.Bool.{or_from}
use Rattle.std.proofs.lemmas.Bool.Decides.{nat_tests}
use Rattle.std.proofs.lemmas.List.Elements.{filter-append, Contains-append_left, Contains-append_right, Contains-push_cases}
use Rattle.std.proofs.lemmas.List.Folds.{list_any-append}
use Rattle.pooma_logic.proofs.Elements.{contains_none}
use Rattle.pooma_logic.proofs.Tested.{any_of_both, any_of_first, any_of_left, any_of_right, none_kept}
use Rattle.pooma_desk.specs.declared.sight.Noted.{Noted}
use Rattle.pooma_desk.specs.Seen.{is_one_of, calls_under, longer, HasSeen}

-- two fronts of one list: the longer goes on from the shorter
pub record GoesOn {X : Type 0} (one low other high : List X) : Type 0 where
  pub mid : List X
  pub on : other ≡ one ++ mid
  pub rest : low ≡ mid ++ high

pub two_fronts : {X : Type 0} (one low other high : List X) → one ++ low ≡ other ++ high → length one ≤ length other → GoesOn one low other high
two_fronts [] low other high same short = record { mid = other; on = refl; rest = same }
two_fronts (x ∷ one) low [] high same short = absurd (omega arith)
two_fronts (x ∷ one) low (y ∷ other) high same short =
    let heads : x ≡ y = cc in
    let tails : one ++ low ≡ other ++ high = cc in
    let r = two_fronts one low other high tails (omega arith) in
    record { mid = r.mid; on = ap (λ z. z ∷ other) (sym heads) ∙ ap (λ zs. x ∷ zs) r.on; rest = r.rest }

-- nothing is longer than no list
pub longer_alone : {X : Type 0} (xs : List X) → longer xs [] ≡ xs
longer_alone xs = rw (le-ltb (length xs) 0 (omega arith)) refl

-- whether a number is one of two rows of seats
pub one_of_both : (xs ys : List ℕ) (s : ℕ) → is_one_of (xs ++ ys) s ≡ true → (is_one_of xs s ≡ true) ⊎ (is_one_of ys s ≡ true)
one_of_both xs ys s is = any_of_both (λ x. x == s) xs ys is

pub one_of_left : (xs ys : List ℕ) (s : ℕ) → is_one_of xs s ≡ true → is_one_of (xs ++ ys) s ≡ true
one_of_left xs ys s is = any_of_left (λ x. x == s) xs ys is

pub one_of_right : (xs ys : List ℕ) (s : ℕ) → is_one_of ys s ≡ true → is_one_of (xs ++ ys) s ≡ true
one_of_right xs ys s is = any_of_right (λ x. x == s) xs ys is

pub one_of_neither : (xs ys : List ℕ) (s : ℕ) → is_one_of xs s ≡ false → is_one_of ys s ≡ false → is_one_of (xs ++ ys) s ≡ false
one_of_neither xs ys s first second = list_any-append (λ x. x == s) xs ys ∙ or_from (is_one_of xs s) (is_one_of ys s) first second

pub one_of_one : (a s : ℕ) → is_one_of (a ∷ []) s ≡ true → s ≡ a
one_of_one a s is = grind (arith, nat_tests)

pub one_of_first : (a : ℕ) (xs : List ℕ) → is_one_of (a ∷ xs) a ≡ true
one_of_first a xs = any_of_first (λ x. x == a) a xs (eq-eqb a a refl)

module _ {W : Type 0} where
  -- what was seen stays seen as the list grows by what is called elsewhere
  pub seen_grows : (seats : List ℕ) (seen log : List (Noted W)) (n : Noted W) → HasSeen seats seen log → is_one_of seats n.event.seat ≡ false → HasSeen seats seen (log ++ n ∷ [])
  seen_grows seats seen log n h apart = record {
    rest = h.rest ++ n ∷ [];
    begins = ap (λ l. l ++ n ∷ []) h.begins ∙ append_assoc seen h.rest (n ∷ []);
    others = λ m there.
        elim (Contains-push_cases h.rest n m there) [
          | inl old ↦ h.others m old
          | inr is ↦ subst (λ (z : Noted W). is_one_of seats z.event.seat ≡ false) is apart
        ];
  }

  pub seen_all : (seats : List ℕ) (log : List (Noted W)) → HasSeen seats log log
  seen_all seats log = record { rest = []; begins = sym (append-nil log); others = λ n there. absurd (contains_none n there) }

  -- with no seat and nothing seen
  pub seen_none : (log : List (Noted W)) → HasSeen [] [] log
  seen_none log = record { rest = log; begins = refl; others = λ n there. refl }

  -- two fronts of one list, the shorter of which goes on to the longer
  pub seen_between : (seats : List ℕ) (short long log : List (Noted W)) → HasSeen seats short log → (rest : List (Noted W)) → log ≡ long ++ rest → length short ≤ length long
      → HasSeen seats short long × ((n : Noted W) → Contains rest n → is_one_of seats n.event.seat ≡ false)
  seen_between seats short long log h rest begins less =
      let r = two_fronts short h.rest long rest (sym h.begins ∙ begins) less in (
        record { rest = r.mid; begins = r.on; others = λ n there. h.others n (subst (λ l. Contains l n) (sym r.rest) (Contains-append_left r.mid rest n there)) },
        λ n there. h.others n (subst (λ l. Contains l n) (sym r.rest) (Contains-append_right r.mid rest n there)),
      )

  -- what two fronts and the longer of them have to do with one another
  pub record AreMerged (xs ys : List ℕ) (one other log : List (Noted W)) : Type 0 where
    pub first : HasSeen xs one (longer one other)
    pub second : HasSeen ys other (longer one other)
    pub both : HasSeen (xs ++ ys) (longer one other) log

  pub merged : (xs ys : List ℕ) (one other log : List (Noted W)) → HasSeen xs one log → HasSeen ys other log → AreMerged xs ys one other log
  merged xs ys one other log h k = by (ltb (length one) (length other)) refl
    where
      longest : Bool → List (Noted W)
      longest b = cond b other one

      by : (b : Bool) → ltb (length one) (length other) ≡ b → AreMerged xs ys one other log
      by true t =
          let is : longer one other ≡ other = rw t refl in
          let r = seen_between xs one other log h k.rest k.begins (let less = ltb-true (length one) (length other) t in omega arith) in
          record {
            first = subst (λ l. HasSeen xs one l) (sym is) r.0;
            second = subst (λ l. HasSeen ys other l) (sym is) (seen_all ys other);
            both = subst (λ l. HasSeen (xs ++ ys) l log) (sym is) (record {
              rest = k.rest;
              begins = k.begins;
              others = λ n there. one_of_neither xs ys n.event.seat (r.1 n there) (k.others n there);
            });
          }
      by false t =
          let is : longer one other ≡ one = rw t refl in
          let r = seen_between ys other one log k h.rest h.begins (ltb-false (length one) (length other) t) in
          record {
            first = subst (λ l. HasSeen xs one l) (sym is) (seen_all xs one);
            second = subst (λ l. HasSeen ys other l) (sym is) r.0;
            both = subst (λ l. HasSeen (xs ++ ys) l log) (sym is) (record {
              rest = h.rest;
              begins = h.begins;
              others = λ n there. one_of_neither xs ys n.event.seat (h.others n there) (r.1 n there);
            });
          }

  -- the calls of some seats, as the list grows
  pub calls_stay : (seats : List ℕ) (seen log : List (Noted W)) → HasSeen seats seen log → calls_under seats log ≡ calls_under seats seen
  calls_stay seats seen log h =
      ap (calls_under seats) h.begins
      ∙ (filter-append (λ (n : Noted W). is_one_of seats n.event.seat) seen h.rest
      ∙ (ap (λ l. calls_under seats seen ++ l) (none_kept (λ (n : Noted W). is_one_of seats n.event.seat) h.rest h.others) ∙ append-nil (calls_under seats seen)))

  pub calls_more : (seats : List ℕ) (log : List (Noted W)) (n : Noted W) → is_one_of seats n.event.seat ≡ true → calls_under seats (log ++ n ∷ []) ≡ calls_under seats log ++ n ∷ []
  calls_more seats log n is = filter-append (λ (m : Noted W). is_one_of seats m.event.seat) log (n ∷ []) ∙ rw is refl
