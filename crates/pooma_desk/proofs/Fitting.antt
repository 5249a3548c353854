-- What a pass knows still fits as it changes and as the history grows.
use Rattle.std.proofs.Common.{◌≡◌, ◌<◌, ℕ, true, false, List, [], ◌∷◌, ◌++◌, Contains, min, refl, sym, ap, ◌∙◌, subst, inl, inr, arith}
use Rattle.std.proofs.lemmas.Bool.{false_from_ne_true}
use Rattle.std.proofs.lemmas.List.Elements.{Contains-append_left, Contains-append_right, Contains-push_cases}
use Rattle.pooma_logic.proofs.Elements.{contains_none}
use Rattle.pooma_machine.specs.declared.step.EventKind.TheVariants as kind
use Rattle.pooma_desk.specs.declared.sight.Noted.{Noted}
use Rattle.pooma_desk.specs.Sight.{Began}
use Rattle.pooma_desk.specs.Sight.{Sight}
use Rattle.pooma_desk.specs.Seen.{is_one_of, HasSeen}
use Rattle.pooma_desk.specs.Rule.{IsSeatOf, IsPair, Fits, AreApart, MayNote}
use Rattle.pooma_desk.specs.Steps.{first_sight, given_away, newcomer, joining, joined, taking, noting, leaving}
use Rattle.pooma_desk.proofs.Fronts.{one_of_both, one_of_left, one_of_right, one_of_one, seen_grows, seen_all, seen_none, merged}

module _ {W : Type 0} where
  -- no event is a dispatch and a release
  pub no_pair : (n : Noted W) → IsPair n n → ⊥
  no_pair n p = off (sym p.lent ∙ p.back)
    where
      off : kind.Dispatch ≡ kind.Release → ⊥
      off e = cc

  named_more : (next : ℕ) (log : List (Noted W)) (n : Noted W) → ((m : Noted W) → Contains log m → m.event.seat < next) → n.event.seat < next → (m : Noted W) → Contains (log ++ n ∷ []) m → m.event.seat < next
  named_more next log n old new m there =
      elim (Contains-push_cases log n m there) [
        | inl before ↦ old m before
        | inr is ↦ subst (λ (z : Noted W). z.event.seat < next) is new
      ]

module _ {W V : Type 0} where
  -- a number that is no seat of one is none of either row
  pub no_seat : (v : Sight W V) (s : ℕ) → (IsSeatOf v s → ⊥) → (is_one_of v.seats s ≡ false) × (is_one_of v.others s ≡ false)
  no_seat v s not = (false_from_ne_true (is_one_of v.seats s) (λ is. not (inl is)), false_from_ne_true (is_one_of v.others s) (λ is. not (inr is)))

  -- where nothing is being joined, the seats are its own
  pub own_seat : (v : Sight W V) (s : ℕ) → v.others ≡ [] → IsSeatOf v s → is_one_of v.seats s ≡ true
  own_seat v s none (inl is) = is
  own_seat v s none (inr is) = absurd (off (sym is ∙ ap (λ xs. is_one_of xs s) none))
    where
      off : true ≡ false → ⊥
      off e = cc

  -- the newcomer's only seat is the least number that was left
  pub newcomer_seat : (v : Sight W V) (s : ℕ) → IsSeatOf (newcomer v) s → s ≡ v.next
  newcomer_seat v s (inl is) = one_of_one v.next s is
  newcomer_seat v s (inr is) = absurd (cc)

  -- the seats of one who has joined are those that it had and was told of
  pub joined_seat : (v : Sight W V) (s : ℕ) → IsSeatOf (joined v) s → IsSeatOf v s
  joined_seat v s (inl is) = one_of_both v.seats v.others s is
  joined_seat v s (inr is) = absurd (cc)

  pub seat_joined : (v : Sight W V) (s : ℕ) → IsSeatOf v s → IsSeatOf (joined v) s
  seat_joined v s (inl is) = inl (one_of_left v.seats v.others s is)
  seat_joined v s (inr is) = inl (one_of_right v.seats v.others s is)

  abbrev Pairs : Sight W V → List (Noted W) → Type 0
  Pairs v log = (d r : Noted W) → Contains log d → Contains log r → IsPair d r → IsSeatOf v d.event.seat → IsSeatOf v r.event.seat

  pairs_more : (v : Sight W V) (log : List (Noted W)) (n : Noted W) → Pairs v log
      → ((d : Noted W) → Contains log d → IsPair d n → IsSeatOf v d.event.seat → IsSeatOf v n.event.seat)
      → ((r : Noted W) → Contains log r → IsPair n r → ⊥)
      → Pairs v (log ++ n ∷ [])
  pairs_more v log n old back lent d r at_d at_r pair mine =
      elim (Contains-push_cases log n d at_d) [
        | inl d_old ↦
            elim (Contains-push_cases log n r at_r) [
              | inl r_old ↦ old d r d_old r_old pair mine
              | inr r_is ↦ subst (λ (z : Noted W). IsSeatOf v z.event.seat) r_is (back d d_old (subst (λ (z : Noted W). IsPair d z) (sym r_is) pair) mine)
            ]
        | inr d_is ↦
            let from_n : IsPair n r = subst (λ (z : Noted W). IsPair z r) (sym d_is) pair in
            elim (Contains-push_cases log n r at_r) [
              | inl r_old ↦ absurd (lent r r_old from_n)
              | inr r_is ↦ absurd (no_pair n (subst (λ (z : Noted W). IsPair n z) (sym r_is) from_n))
            ]
      ]

  module _ (start : Began W V) where
    -- the first one, before anything happened
    pub fits_first : 0 < start.seats → Fits start [] (first_sight start)
    fits_first some_seat = record {
      same = refl;
      seen = seen_all (0 ∷ []) [];
      told = seen_none [];
      next = omega arith;
      given = λ s is. first s is;
      named = λ n there. absurd (contains_none n there);
      more = omega arith;
      pairs = λ d r at_d at_r pair mine. absurd (contains_none d at_d);
    }
      where
        first : (s : ℕ) → IsSeatOf (first_sight start) s → s < 1
        first s (inl is) = let zero_is = one_of_one 0 s is in omega arith
        first s (inr is) = absurd (cc)

    -- of another, an event that is not its own
    pub fits_beside : (log : List (Noted W)) (n : Noted W) (u : Sight W V) → Fits start log u → (IsSeatOf u n.event.seat → ⊥) → n.event.seat < u.next
        → ((d : Noted W) → Contains log d → IsPair d n → IsSeatOf u d.event.seat → ⊥)
        → ((r : Noted W) → Contains log r → IsPair n r → ⊥)
        → Fits start (log ++ n ∷ []) u
    fits_beside log n u h apart below back lent = record {
      same = h.same;
      seen = seen_grows u.seats u.seen log n h.seen (no_seat u n.event.seat apart).0;
      told = seen_grows u.others u.told log n h.told (no_seat u n.event.seat apart).1;
      next = h.next;
      given = h.given;
      named = named_more u.next log n h.named below;
      more = h.more;
      pairs = pairs_more u log n h.pairs (λ d at_d pair mine. absurd (back d at_d pair mine)) lent;
    }

    -- of the one who notes it
    pub fits_noting : (log : List (Noted W)) (n : Noted W) (v : Sight W V) → Fits start log v → v.seen ≡ log → v.others ≡ [] → MayNote v n → Fits start (log ++ n ∷ []) (noting v n)
    fits_noting log n v h all alone may = record {
      same = h.same;
      seen = subst (λ l. HasSeen v.seats (l ++ n ∷ []) (log ++ n ∷ [])) (sym all) (seen_all v.seats (log ++ n ∷ []));
      told = seen_grows v.others v.told log n h.told (ap (λ xs. is_one_of xs n.event.seat) alone);
      next = h.next;
      given = h.given;
      named = named_more v.next log n h.named (h.given n.event.seat (inl may.mine));
      more = h.more;
      pairs = pairs_more v log n h.pairs (λ d at_d pair mine. inl may.mine) (λ r at_r. may.lent r (subst (λ l. Contains l r) (sym all) at_r));
    }

    -- of one who has seen all, and of one who has left the turn
    pub fits_taking : (log : List (Noted W)) (v : Sight W V) → Fits start log v → Fits start log (taking v log)
    fits_taking log v h = record {
      same = h.same;
      seen = seen_all v.seats log;
      told = h.told;
      next = h.next;
      given = h.given;
      named = h.named;
      more = h.more;
      pairs = h.pairs;
    }

    pub fits_leaving : (log : List (Noted W)) (v : Sight W V) → Fits start log v → Fits start log (leaving v)
    fits_leaving log v h = record {
      same = h.same;
      seen = h.seen;
      told = h.told;
      next = h.next;
      given = h.given;
      named = h.named;
      more = h.more;
      pairs = h.pairs;
    }

    -- of the front that one has seen
    pub fits_front : (log : List (Noted W)) (v : Sight W V) → Fits start log v → v.others ≡ [] → v.told ≡ [] → Fits start v.seen v
    fits_front log v h alone quiet =
        let within : (n : Noted W) → Contains v.seen n → Contains log n = λ n there. subst (λ l. Contains l n) (sym h.seen.begins) (Contains-append_left v.seen h.seen.rest n there) in
        record {
          same = h.same;
          seen = seen_all v.seats v.seen;
          told = subst (λ xs. HasSeen xs v.told v.seen) (sym alone) (subst (λ l. HasSeen [] l v.seen) (sym quiet) (seen_none v.seen));
          next = h.next;
          given = h.given;
          named = λ n there. h.named n (within n there);
          more = h.more;
          pairs = λ d r at_d at_r. h.pairs d r (within d at_d) (within r at_r);
        }

    -- of one who gives a number and a share away, and of the newcomer who gets them
    pub fits_given_away : (log : List (Noted W)) (v : Sight W V) → Fits start log v → v.next < start.seats → Fits start log (given_away v)
    fits_given_away log v h left =
        let more = h.more in
        record {
          same = h.same;
          seen = h.seen;
          told = h.told;
          next = omega arith;
          given = λ s is. let below : s < v.next = h.given s is in omega arith;
          named = λ n there. let below : n.event.seat < v.next = h.named n there in omega arith;
          more = omega arith;
          pairs = h.pairs;
        }

    pub fits_newcomer : (log : List (Noted W)) (v : Sight W V) → Fits start log v → v.next < start.seats → Fits start log (newcomer v)
    fits_newcomer log v h left =
        let count : v.start.seats ≡ start.seats = ap (λ (s : Began W V). s.seats) h.same in
        record {
          same = h.same;
          seen = record {
            rest = h.seen.rest;
            begins = h.seen.begins;
            others = λ n there. false_from_ne_true (is_one_of (v.next ∷ []) n.event.seat) (λ is. not_named n (subst (λ l. Contains l n) (sym h.seen.begins) (Contains-append_right v.seen h.seen.rest n there)) (one_of_one v.next n.event.seat is));
          };
          told = seen_none log;
          next = omega (arith, count);
          given = λ s is. let e = newcomer_seat v s is in omega (arith, count, e, left);
          named = λ n there. let below : n.event.seat < v.next = h.named n there in omega (arith, count, below, left);
          more = omega (arith, count);
          pairs = λ d r at_d at_r pair mine. absurd (not_named d at_d (newcomer_seat v d.event.seat mine));
        }
      where
        not_named : (n : Noted W) → Contains log n → n.event.seat ≡ v.next → ⊥
        not_named n there is = let below : n.event.seat < v.next = h.named n there in omega (arith, below, is)

    -- of one who takes in another
    pub fits_joining : (log : List (Noted W)) (v w : Sight W V) → Fits start log v → Fits start log w → AreApart start.seats v w → AreApart start.seats w v → v.others ≡ [] → w.others ≡ [] → Fits start log (joining v w)
    fits_joining log v w h k there back alone lone =
        record {
          same = h.same;
          seen = h.seen;
          told = k.seen;
          next = let a = h.next in omega arith;
          given = λ s is. given s is;
          named = λ n at. let a : n.event.seat < v.next = h.named n at in let b : n.event.seat < w.next = k.named n at in omega (arith, a, b);
          more = let a = h.more in let b = k.more in omega (arith, a, b);
          pairs = λ d r at_d at_r pair mine. pairs d r at_d at_r pair mine;
        }
      where
        given : (s : ℕ) → IsSeatOf (joining v w) s → s < min v.next w.next
        given s (inl is) = let a : s < v.next = h.given s (inl is) in let b : s < w.next = there.given s (inl is) in omega (arith, a, b)
        given s (inr is) = let a : s < w.next = k.given s (inl is) in let b : s < v.next = back.given s (inl is) in omega (arith, a, b)

        pairs : Pairs (joining v w) log
        pairs d r at_d at_r pair (inl is) = inl (own_seat v r.event.seat alone (h.pairs d r at_d at_r pair (inl is)))
        pairs d r at_d at_r pair (inr is) = inr (own_seat w r.event.seat lone (k.pairs d r at_d at_r pair (inl is)))

    pub fits_joined : (log : List (Noted W)) (v : Sight W V) → Fits start log v → Fits start log (joined v)
    fits_joined log v h = record {
      same = h.same;
      seen = (merged v.seats v.others v.seen v.told log h.seen h.told).both;
      told = seen_none log;
      next = h.next;
      given = λ s is. h.given s (joined_seat v s is);
      named = h.named;
      more = h.more;
      pairs = λ d r at_d at_r pair mine. seat_joined v r.event.seat (h.pairs d r at_d at_r pair (joined_seat v d.event.seat mine));
    }
