-- Which entry holds another one back, by the queues and by the table of steps.
use Rattle.std.proofs.Common.{◌≡◌, ◌<◌, ◌≤◌, ℕ, suc, Bool, true, false, List, [], ◌∷◌, Option, Some, None, Contains, refl, sym, ◌∙◌, ap, subst, arith, inl, inr, ◌⊎◌, ◌&&◌, not, fold, nat_lt}
use Rattle.std.proofs.lemmas.Bool.Decides.{leb_tells}
use Rattle.pooma_queue.specs.declared.queue.Mode.{Mode}
use Rattle.pooma_queue.specs.declared.queue.Asked.{Asked}
use Rattle.pooma_queue.specs.Requests.{Waiting, IsInOrder, conflicts, holds_back, holder_of}
use Rattle.pooma_machine.specs.declared.step.Request.{Request}
use Rattle.pooma_machine.specs.declared.lines.Holder.{Holder}
use Rattle.pooma_machine.specs.Steps.{IsRequestList, requests_of, ConflictOver, Conflict}
use Rattle.pooma_machine.specs.Lines.{line, IsTied, holder_over, lesser, held_by}
use Rattle.pooma_logic.proofs.Elements.{contains_cases, contains_first, contains_rest, contains_none}
use Rattle.pooma_machine.proofs.Ties.{request_of, asked_of, form_rest}

abbrev pub holder_at : ℕ → ℕ → Holder
holder_at object by = record { object = object; by = by }

-- whether a request holds back one of this mode by this entry
abbrev pub is_holder : ℕ → Mode → Asked → Bool
is_holder entry mode earlier = nat_lt earlier.entry entry && holds_back mode earlier

-- the rest of a queue in order is in order
pub order_rest : (x : Asked) (xs : List Asked) → IsInOrder (x ∷ xs) → IsInOrder xs
order_rest x xs order i j d lt within = order (suc i) (suc j) d (omega arith) (omega arith)

-- the first is the earliest
pub order_first : (x : Asked) (xs : List Asked) (b : Asked) → IsInOrder (x ∷ xs) → Contains xs b → x.entry < b.entry
order_first x xs b order (k, h, e) = subst (λ (a : Asked). x.entry < a.entry) e (order 0 (suc k) b (omega arith) (omega arith))

-- what the search finds is in the queue, and passes
pub holder_found : (xs : List Asked) (entry : ℕ) (mode : Mode) (a : Asked) → holder_of xs entry mode ≡ Some a → Contains xs a × (is_holder entry mode a ≡ true)
holder_found [] entry mode a e = absurd (cc e)
holder_found (x ∷ xs) entry mode a e = by_test (holder_found xs entry mode a) (is_holder entry mode x) refl
  where
    by_test : (holder_of xs entry mode ≡ Some a → Contains xs a × (is_holder entry mode a ≡ true)) → (b : Bool) → is_holder entry mode x ≡ b → Contains (x ∷ xs) a × (is_holder entry mode a ≡ true)
    by_test again true t =
        let found : Some x ≡ Some a = rw t at e in
        let same : x ≡ a = cc in
        subst (λ (y : Asked). Contains (x ∷ xs) y × (is_holder entry mode y ≡ true)) same (contains_first x xs, t)
    by_test again false t = let rest = again (rw t at e) in (contains_rest x xs a rest.0, rest.1)

-- whatever passes is not before what it finds
pub holder_least : (xs : List Asked) (entry : ℕ) (mode : Mode) (b : Asked) → IsInOrder xs → Contains xs b → is_holder entry mode b ≡ true
    → (a : Asked) × (holder_of xs entry mode ≡ Some a) × (a.entry ≤ b.entry)
holder_least [] entry mode b order h passes = absurd (contains_none b h)
holder_least (x ∷ xs) entry mode b order h passes = by_test (λ more. holder_least xs entry mode b (order_rest x xs order) more passes) (is_holder entry mode x) refl
  where
    at_first : (b ≡ x) ⊎ Contains xs b → x.entry ≤ b.entry
    at_first (inl e) = let same : b.entry ≡ x.entry = ap (λ a. a.entry) e in omega arith
    at_first (inr more) = let lt : x.entry < b.entry = order_first x xs b order more in omega arith

    behind : is_holder entry mode x ≡ false → (b ≡ x) ⊎ Contains xs b → Contains xs b
    behind f (inl e) = absurd (cc (sym f ∙ (ap (is_holder entry mode) (sym e) ∙ passes)))
    behind f (inr more) = more

    by_test : (Contains xs b → (a : Asked) × (holder_of xs entry mode ≡ Some a) × (a.entry ≤ b.entry)) → (t : Bool) → is_holder entry mode x ≡ t → (a : Asked) × (holder_of (x ∷ xs) entry mode ≡ Some a) × (a.entry ≤ b.entry)
    by_test again true t = (x, rw t refl, at_first (contains_cases x xs b h))
    by_test again false f =
        let rest = again (behind f (contains_cases x xs b h)) in
        (rest.0, rw f rest.1, rest.2)

-- what holds a request back was not released, and conflicts with it
pub holding_says : (mode : Mode) (a : Asked) → holds_back mode a ≡ true → (a.released ≡ false) × (conflicts a.mode mode ≡ true)
holding_says mode a e = parts a.released (conflicts a.mode mode) e
  where
    parts : (r c : Bool) → (not r && c) ≡ true → (r ≡ false) × (c ≡ true)
    parts true c e = absurd (cc e)
    parts false c e = (refl, e)

-- what a test says, and what makes it pass
pub holder_says : (entry : ℕ) (mode : Mode) (a : Asked) → is_holder entry mode a ≡ true → (a.entry < entry) × (a.released ≡ false) × (conflicts a.mode mode ≡ true)
holder_says entry mode a e =
    elim (leb_tells (suc a.entry) entry) [
      | inl t ↦ let both = holding_says mode a (rw t.0 at e) in (t.1, both.0, both.1)
      | inr f ↦ absurd (cc (rw f.0 at e))
    ]

pub holder_passes : (entry : ℕ) (mode : Mode) (a : Asked) → a.entry < entry → a.released ≡ false → conflicts a.mode mode ≡ true → is_holder entry mode a ≡ true
holder_passes entry mode a lt unreleased conflict =
    elim (leb_tells (suc a.entry) entry) [
      | inl t ↦ rw (t.0, unreleased, conflict) refl
      | inr f ↦ let le : entry < suc a.entry = f.1 in absurd (omega arith)
    ]

-- an entry that holds this one back by the queues conflicts with it, is earlier, and was not released
pub holder_conflicts : (plan : List (List Request)) (f : ℕ → Bool) (queues : List Waiting) (j by : ℕ) (r : Request) → IsTied plan f queues
    → Contains (requests_of plan j) r → holder_over queues j r ≡ Some by
    → (by < j) × ConflictOver plan by j r.object × (f by ≡ false)
holder_conflicts plan f queues j by r tied asks found = at (holder_of (line queues r.object) j r.mode) refl
  where
    at : (o : Option Asked) → holder_of (line queues r.object) j r.mode ≡ o → (by < j) × ConflictOver plan by j r.object × (f by ≡ false)
    at None e = absurd (cc (rw e at found))
    at (Some a) e =
        let here : Some a.entry ≡ Some by = rw e at found in
        let same : a.entry ≡ by = cc in
        let there = holder_found (line queues r.object) j r.mode a e in
        let says = holder_says j r.mode a there.1 in
        let stands = tied.stands r.object a there.0 in
        subst (λ i. (i < j) × ConflictOver plan i j r.object × (f i ≡ false)) same (
          says.0,
          record { one = a.mode; other = r.mode; asks_one = stands.0; asks_other = asks; conflicting = says.2 },
          sym stands.1 ∙ says.1,
        )

-- and each that does so by the table is not before the one that the queues name
pub conflicts_held : (plan : List (List Request)) (f : ℕ → Bool) (queues : List Waiting) (i j object : ℕ) → IsTied plan f queues → i < j → f i ≡ false → ConflictOver plan i j object
    → (r : Request) × Contains (requests_of plan j) r × (r.object ≡ object) × ((by : ℕ) × (holder_over queues j r ≡ Some by) × (by ≤ i))
conflicts_held plan f queues i j object tied earlier unreleased over =
    let least = holder_least (line queues object) j over.other (asked_of i over.one (f i)) (tied.order object) (tied.there i object over.one over.asks_one) (holder_passes j over.other (asked_of i over.one (f i)) earlier unreleased over.conflicting) in
    (request_of object over.other, over.asks_other, refl, (least.0.entry, rw least.1 refl, least.2))

-- the search over all requests of an entry, from what was found before
abbrev pub search_from : List Waiting → ℕ → Option Holder → List Request → Option Holder
search_from queues j found requests = fold (λ found r. lesser found r.object (holder_over queues j r)) found requests

-- it finds nothing only where there is nothing
pub found_none : (queues : List Waiting) (j : ℕ) (found : Option Holder) (requests : List Request) → search_from queues j found requests ≡ None
    → (found ≡ None) × ((r : Request) → Contains requests r → holder_over queues j r ≡ None)
found_none queues j found [] e = (e, λ r h. absurd (contains_none r h))
found_none queues j found (x ∷ xs) e =
    let rest = found_none queues j (lesser found x.object (holder_over queues j x)) xs e in
    let first = both found (holder_over queues j x) rest.0 in
    (first.0, λ r h. elim (contains_cases x xs r h) [ inl same ↦ ap (holder_over queues j) same ∙ first.1 | inr more ↦ rest.1 r more ])
  where
    both : (f : Option Holder) (h : Option ℕ) → lesser f x.object h ≡ None → (f ≡ None) × (h ≡ None)
    both f None e = (e, refl)
    both None (Some by) e = absurd (cc e)
    both (Some held) (Some by) e = elim (leb_tells (suc by) held.by) [ inl t ↦ absurd (cc (rw t.0 at e)) | inr n ↦ absurd (cc (rw n.0 at e)) ]

-- what it found is the least, and over the first object
pub record IsLeast (queues : List Waiting) (j : ℕ) (found : Option Holder) (requests : List Request) (held : Holder) : Type 0 where
  pub from : (found ≡ Some held) ⊎ ((r : Request) × Contains requests r × (r.object ≡ held.object) × (holder_over queues j r ≡ Some held.by))
  pub below_found : (h : Holder) → found ≡ Some h → (held.by ≤ h.by) × (h.by ≡ held.by → held.object ≤ h.object)
  pub below : (r : Request) (by : ℕ) → Contains requests r → holder_over queues j r ≡ Some by → (held.by ≤ by) × (by ≡ held.by → held.object ≤ r.object)

-- what is found is what was found before, or is over this object
pub lesser_from : (found : Option Holder) (object : ℕ) (holder : Option ℕ) (h : Holder) → lesser found object holder ≡ Some h → (found ≡ Some h) ⊎ (h.object ≡ object)
lesser_from found object None h e = inl e
lesser_from None object (Some by) h e = let same : record { object = object; by = by } ≡ h = cc in inr (ap (λ (g : Holder). g.object) (sym same))
lesser_from (Some g) object (Some by) h e =
    elim (leb_tells (suc by) g.by) [
      | inl t ↦ let new : Some (holder_at object by) ≡ Some h = rw t.0 at e in let same : holder_at object by ≡ h = cc in inr (ap (λ (k : Holder). k.object) (sym same))
      | inr n ↦ inl (rw n.0 at e)
    ]

-- the requests behind the first are for greater objects
pub form_below : (x : Request) (xs : List Request) (r : Request) → IsRequestList (x ∷ xs) → Contains xs r → x.object < r.object
form_below x xs r form (k, h, e) = subst (λ (q : Request). x.object < q.object) e (form 0 (suc k) r (omega arith) (omega arith)).0

pub found_some : (queues : List Waiting) (j : ℕ) (found : Option Holder) (requests : List Request) (held : Holder) → IsRequestList requests
    → ((h : Holder) → found ≡ Some h → (r : Request) → Contains requests r → h.object < r.object)
    → search_from queues j found requests ≡ Some held → IsLeast queues j found requests held
found_some queues j found [] held form before e =
    record {
      from = inl e;
      below_found = λ h is. let same : h ≡ held = injected h is in let by : h.by ≡ held.by = ap (λ (g : Holder). g.by) same in let o : h.object ≡ held.object = ap (λ (g : Holder). g.object) same in (omega arith, λ b. omega arith);
      below = λ r by h is. absurd (contains_none r h);
    }
  where
    injected : (h : Holder) → found ≡ Some h → h ≡ held
    injected h is = let both : Some h ≡ Some held = sym is ∙ e in cc
found_some queues j found (x ∷ xs) held form before e =
    step (found_some queues j (lesser found x.object (holder_over queues j x)) xs held (form_rest x xs form) later e) found (holder_over queues j x) refl refl
  where
    later : (h : Holder) → lesser found x.object (holder_over queues j x) ≡ Some h → (r : Request) → Contains xs r → h.object < r.object
    later h is r more =
        elim (lesser_from found x.object (holder_over queues j x) h is) [
          | inl old ↦ before h old r (contains_rest x xs r more)
          | inr new ↦ let lt : x.object < r.object = form_below x xs r form more in omega arith
        ]

    further : (r : Request) × Contains xs r × (r.object ≡ held.object) × (holder_over queues j r ≡ Some held.by)
        → (r : Request) × Contains (x ∷ xs) r × (r.object ≡ held.object) × (holder_over queues j r ≡ Some held.by)
    further (r, more, o, is) = (r, contains_rest x xs r more, o, is)

    named : (b : ℕ) → holder_over queues j x ≡ Some b → (r : Request) (by : ℕ) → r ≡ x → holder_over queues j r ≡ Some by → b ≡ by
    named b is r by same q = let both : Some b ≡ Some by = sym is ∙ (ap (holder_over queues j) (sym same) ∙ q) in cc

    new_from : (b : ℕ) → holder_over queues j x ≡ Some b → IsLeast queues j (Some (holder_at x.object b)) xs held
        → (r : Request) × Contains (x ∷ xs) r × (r.object ≡ held.object) × (holder_over queues j r ≡ Some held.by)
    new_from b is l =
        elim l.from [
          | inl same ↦
              let h : holder_at x.object b ≡ held = cc in
              (x, contains_first x xs, ap (λ (g : Holder). g.object) h, is ∙ ap (λ (g : Holder). Some g.by) h)
          | inr more ↦ further more
        ]

    new_below : (b : ℕ) → holder_over queues j x ≡ Some b → IsLeast queues j (Some (holder_at x.object b)) xs held
        → (r : Request) (by : ℕ) → Contains (x ∷ xs) r → holder_over queues j r ≡ Some by → (held.by ≤ by) × (by ≡ held.by → held.object ≤ r.object)
    new_below b is l r by h q =
        elim (contains_cases x xs r h) [
          | inl same ↦
              let b_is : b ≡ by = named b is r by same q in
              let first = l.below_found (holder_at x.object b) refl in
              let le : held.by ≤ b = first.0 in
              (omega arith, λ e. let o : r.object ≡ x.object = ap (λ (p : Request). p.object) same in let low : held.object ≤ x.object = first.1 (b_is ∙ e) in omega arith)
          | inr more ↦ l.below r by more q
        ]

    step : IsLeast queues j (lesser found x.object (holder_over queues j x)) xs held → (f : Option Holder) (w : Option ℕ) → found ≡ f → holder_over queues j x ≡ w → IsLeast queues j found (x ∷ xs) held
    step rest f None was is =
        let l : IsLeast queues j found xs held = rw is at rest in
        record {
          from = elim l.from [ inl same ↦ inl same | inr more ↦ inr (further more) ];
          below_found = l.below_found;
          below = λ r by h q. elim (contains_cases x xs r h) [
            | inl same ↦ absurd (cc (sym is ∙ (ap (holder_over queues j) (sym same) ∙ q)))
            | inr more ↦ l.below r by more q
          ];
        }
    step rest None (Some b) was is =
        let l : IsLeast queues j (Some (holder_at x.object b)) xs held = rw (was, is) at rest in
        record { from = inr (new_from b is l); below_found = λ h old. absurd (cc (sym was ∙ old)); below = new_below b is l }
    step rest (Some g) (Some b) was is =
        let lessened : IsLeast queues j (lesser (Some g) x.object (Some b)) xs held = rw (was, is) at rest in
        elim (leb_tells (suc b) g.by) [
          | inl t ↦
              let l : IsLeast queues j (Some (holder_at x.object b)) xs held = rw t.0 at lessened in
              let first = l.below_found (holder_at x.object b) refl in
              let le : held.by ≤ b = first.0 in
              let lt : b < g.by = t.1 in
              record {
                from = inr (new_from b is l);
                below_found = λ h old. let same : Some g ≡ Some h = sym was ∙ old in let g_is : g ≡ h = cc in let by : g.by ≡ h.by = ap (λ (k : Holder). k.by) g_is in (omega arith, λ e. absurd (omega arith));
                below = new_below b is l;
              }
          | inr n ↦
              let l : IsLeast queues j (Some g) xs held = rw n.0 at lessened in
              let le : g.by ≤ b = omega (arith, n.1) in
              record {
                from = elim l.from [ inl same ↦ inl (was ∙ same) | inr more ↦ inr (further more) ];
                below_found = λ h old. l.below_found h (sym was ∙ old);
                below = λ r by h q. elim (contains_cases x xs r h) [
                  | inl same ↦
                      let b_is : b ≡ by = named b is r by same q in
                      let first = l.below_found g refl in
                      let low : held.by ≤ g.by = first.0 in (
                        omega arith,
                        λ e.
                            let g_is : g.by ≡ held.by = omega arith in
                            let o : r.object ≡ x.object = ap (λ (p : Request). p.object) same in
                            let held_low : held.object ≤ g.object = first.1 g_is in
                            let lt : g.object < x.object = before g was x (contains_first x xs) in
                            omega arith,
                      )
                  | inr more ↦ l.below r by more q
                ];
              }
        ]

-- the search over all of an entry's requests
pub held_by_none : (plan : List (List Request)) (f : ℕ → Bool) (queues : List Waiting) (j : ℕ) → IsTied plan f queues → held_by queues j (requests_of plan j) ≡ None
    → (i : ℕ) → i < j → Conflict plan i j → f i ≡ true
held_by_none plan f queues j tied none i earlier (object, over) = at (f i) refl
  where
    at : (b : Bool) → f i ≡ b → f i ≡ true
    at true is = is
    at false is =
        let h = conflicts_held plan f queues i j object tied earlier is over in
        absurd (cc (sym ((found_none queues j None (requests_of plan j) none).1 h.0 h.1) ∙ h.3.1))

pub held_by_some : (plan : List (List Request)) (f : ℕ → Bool) (queues : List Waiting) (j : ℕ) (held : Holder) → IsTied plan f queues → IsRequestList (requests_of plan j)
    → held_by queues j (requests_of plan j) ≡ Some held
    → (held.by < j) × ConflictOver plan held.by j held.object × (f held.by ≡ false)
    × ((i object : ℕ) → i < j → f i ≡ false → ConflictOver plan i j object → (held.by ≤ i) × (i ≡ held.by → held.object ≤ object))
held_by_some plan f queues j held tied form some =
    let least : IsLeast queues j None (requests_of plan j) held = found_some queues j None (requests_of plan j) held form (λ h e. absurd (cc e)) some in
    elim least.from [
      | inl e ↦ absurd (cc e)
      | inr (r, asks, object, is) ↦
          let c = holder_conflicts plan f queues j held.by r tied asks is in (
            c.0,
            subst (λ o. ConflictOver plan held.by j o) object c.1,
            c.2,
            λ i o earlier unreleased over.
                let h = conflicts_held plan f queues i j o tied earlier unreleased over in
                let b = least.below h.0 h.3.0 h.1 h.3.1 in
                let low : held.by ≤ h.3.0 = b.0 in
                let le : h.3.0 ≤ i = h.3.2 in
                (omega arith, λ e. let same : h.3.0 ≡ held.by = omega arith in let first : held.object ≤ h.0.object = b.1 same in let there : h.0.object ≡ o = h.2 in omega arith),
          )
    ]
