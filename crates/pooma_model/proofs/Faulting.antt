-- The first of positions that has a fault, and that of parts.
use Rattle.std.proofs.Common.{refl, sym, ap, ◌∙◌, subst, inl, inr, ⊎_elim, arith, get_or}
use Rattle.std.proofs.lemmas.Bool.{cases_lt}
use Rattle.std.proofs.lemmas.Int.{ints}
use Rattle.std.proofs.lemmas.Option.{same_Some, get_or_from_slice_get, slice_get_within}
use Rattle.std.proofs.lemmas.List.Elements.{All-contains}
use Rattle.std.specs.Prelude.{◌≡◌, ◌≢◌, ◌⊎◌, ℕ, zero, suc, ◌<◌, ◌≤◌, ℤ, ◌<ℤ◌, Option, Some, None, IfSome, List, [], ◌∷◌, slice_get, All, Any}
use Rattle.pooma_logic.proofs.Members.{Member, all_members, any_of, contains_of, member_at, of_any, stands_at}
use Rattle.pooma_num.specs.declared.fault.FaultKind.{FaultKind}
use Rattle.pooma_domain.specs.Cells.{Interval, cells_of, IsBefore}
use Rattle.pooma_model.specs.Assigning.{Fault, Given, Number, Nothing, Fails, Position, fault_of, found_or}
use Rattle.pooma_model.specs.Partitions.{IsFirstFault, IsLeastFault, IsNotEarlier, IsPartition, fault_at}
use Rattle.pooma_model.proofs.Partitioning.{OfCells, is_in, is_cell, part_with, within}

-- where in the order of the positions the fault is, and that none before it has one
record FoundAt (given : List ℤ → Given) (ps : List (List ℤ)) (fault : Fault) : Type 0 where
  number : ℕ
  position : List ℤ
  stands : slice_get ps number ≡ Some position
  place : fault.place ≡ Position position
  fails : given position ≡ Fails fault.kind
  first : (j : ℕ) (q : List ℤ) (kind : FaultKind) → slice_get ps j ≡ Some q → given q ≡ Fails kind → number ≤ j

further : (given : List ℤ → Given) (p : List ℤ) (ps : List (List ℤ)) (fault : Fault) → ((kind : FaultKind) → given p ≢ Fails kind) → FoundAt given ps fault → FoundAt given (p ∷ ps) fault
further given p ps fault fine found = record {
  number = suc found.number;
  position = found.position;
  stands = found.stands;
  place = found.place;
  fails = found.fails;
  first = not_before;
}
  where
    not_before : (j : ℕ) (q : List ℤ) (kind : FaultKind) → slice_get (p ∷ ps) j ≡ Some q → given q ≡ Fails kind → suc found.number ≤ j
    not_before zero q kind at fails = absurd (fine kind (ap given (same_Some p q at) ∙ fails))
    not_before (suc j) q kind at fails = let earlier : found.number ≤ j = found.first j q kind at fails in omega arith

found_in : (given : List ℤ → Given) (ps : List (List ℤ)) (fault : Fault) → fault_at given ps ≡ Some fault → FoundAt given ps fault
found_in given [] fault e = cc
found_in given (p ∷ ps) fault e = by (found_in given ps fault) (given p) refl e
  where
    by : (fault_at given ps ≡ Some fault → FoundAt given ps fault) → (g : Given) → given p ≡ g → found_or (fault_of p g) (fault_at given ps) ≡ Some fault → FoundAt given (p ∷ ps) fault
    by later (Number n) is e = further given p ps fault (λ kind fails. let differ : Number n ≡ Fails kind = sym is ∙ fails in cc) (later e)
    by later Nothing is e = further given p ps fault (λ kind fails. let differ : Nothing ≡ Fails kind = sym is ∙ fails in cc) (later e)
    by later (Fails kind) is e =
        let same : record { place = Position p; kind = kind } ≡ fault = same_Some _ _ e in
        record {
          number = zero;
          position = p;
          stands = refl;
          place = ap (λ (f : Fault). f.place) (sym same);
          fails = is ∙ ap (λ (f : Fault). Fails f.kind) same;
          first = λ j q other at fails. omega arith;
        }

none_fails : (given : List ℤ → Given) (ps : List (List ℤ)) → fault_at given ps ≡ None → (q : List ℤ) (kind : FaultKind) → Member ps q → given q ≢ Fails kind
none_fails given [] e q kind m fails = absurd m
none_fails given (p ∷ ps) e q kind m fails = by (none_fails given ps) (given p) refl e
  where
    by : (fault_at given ps ≡ None → (q : List ℤ) (kind : FaultKind) → Member ps q → given q ≢ Fails kind) → (g : Given) → given p ≡ g → found_or (fault_of p g) (fault_at given ps) ≡ None → ⊥
    by later (Number n) is e = ⊎_elim (λ here. let differ : Number n ≡ Fails kind = sym is ∙ ap given here ∙ fails in cc) (λ there. later e q kind there fails) m
    by later Nothing is e = ⊎_elim (λ here. let differ : Nothing ≡ Fails kind = sym is ∙ ap given here ∙ fails in cc) (λ there. later e q kind there fails) m
    by later (Fails other) is e = cc

all_fine : (given : List ℤ → Given) (ps : List (List ℤ)) → ((q : List ℤ) (kind : FaultKind) → Member ps q → given q ≢ Fails kind) → fault_at given ps ≡ None
all_fine given [] fine = refl
all_fine given (p ∷ ps) fine = by (given p) refl (all_fine given ps (λ q kind m. fine q kind (inr m)))
  where
    by : (g : Given) → given p ≡ g → fault_at given ps ≡ None → found_or (fault_of p g) (fault_at given ps) ≡ None
    by (Number n) is later = later
    by Nothing is later = later
    by (Fails kind) is later = absurd (fine p kind (inl refl) is)

pub same_faults : (given other : List ℤ → Given) (ps : List (List ℤ)) → ((p : List ℤ) → Member ps p → given p ≡ other p) → fault_at given ps ≡ fault_at other ps
same_faults given other [] same = refl
same_faults given other (p ∷ ps) same =
    ap (λ (g : Given). found_or (fault_of p g) (fault_at given ps)) (same p (inl refl))
    ∙ ap (found_or (fault_of p (other p))) (same_faults given other ps (λ q m. same q (inr m)))

some_or_none : (o : Option Fault) → ((f : Fault) × (o ≡ Some f)) ⊎ (o ≡ None)
some_or_none (Some f) = inl (f, refl)
some_or_none None = inr refl

-- ---- the order of cells

not_before_itself : (p : List ℤ) → IsBefore p p → ⊥
not_before_itself [] h = h
not_before_itself (x ∷ xs) h = ⊎_elim (not_before_itself xs) (λ e. let less : x <ℤ x = e.1 in omega (arith, ints)) h

before_before : (p q r : List ℤ) → IsBefore p q → IsBefore q r → IsBefore p r
before_before [] q r h k = absurd h
before_before (x ∷ xs) [] r h k = absurd h
before_before (x ∷ xs) (y ∷ ys) [] h k = absurd k
before_before (x ∷ xs) (y ∷ ys) (z ∷ zs) h k =
    ⊎_elim
    (λ less. ⊎_elim (λ more. inl (before_before xs ys zs less more)) (λ e. inl (subst (IsBefore xs) e.0 less)) k)
    (λ e. ⊎_elim (λ more. inl (subst (λ l. IsBefore l zs) (sym e.0) more))
    (λ f. let one : x <ℤ y = e.1 in let two : y <ℤ z = f.1 in inr (e.0 ∙ f.0, omega (arith, ints))) k)
    h

-- this or later, and then this or later
reaches : (p q r : List ℤ) → (p ≡ q) ⊎ IsBefore p q → (q ≡ r) ⊎ IsBefore q r → (p ≡ r) ⊎ IsBefore p r
reaches p q r h k =
    ⊎_elim
    (λ e. subst (λ s. (s ≡ r) ⊎ IsBefore s r) (sym e) k)
    (λ less. ⊎_elim (λ e. inr (subst (IsBefore p) e less)) (λ more. inr (before_before p q r less more)) k)
    h

in_order : OfCells → (box : List Interval) (j k : ℕ) (p q : List ℤ) → slice_get (cells_of box) j ≡ Some p → slice_get (cells_of box) k ≡ Some q → j ≤ k → (p ≡ q) ⊎ IsBefore p q
in_order known box j k p q at_j at_k h =
    ⊎_elim
    (λ less. inr (
    subst (IsBefore p) (get_or_from_slice_get (cells_of box) k q p at_k)
    (subst (λ x. IsBefore x (get_or (cells_of box) k p)) (get_or_from_slice_get (cells_of box) j p p at_j)
    (known.ascending box j k p less (slice_get_within (cells_of box) k q at_k)))))
    (λ more. let same : j ≡ k = omega arith in inl (same_Some p q (sym at_j ∙ ap (slice_get (cells_of box)) same ∙ at_k)))
    (cases_lt j k)

-- ---- the fault of a box

pub box_found : OfCells → (given : List ℤ → Given) (box : List Interval) (fault : Fault) → fault_at given (cells_of box) ≡ Some fault → IsFirstFault given box fault
box_found known given box fault e =
    let found = found_in given (cells_of box) fault e in
    record {
      position = found.position;
      place = found.place;
      inside = is_in known box found.position (member_at (cells_of box) found.number found.position found.stands);
      fails = found.fails;
      first = λ q h fails.
          let at = stands_at (cells_of box) q (is_cell known box q h) in
          in_order known box found.number at.0 found.position q found.stands at.1 (found.first at.0 q fails.0 at.1 fails.1);
    }

-- two first faults are one
one_first : (given : List ℤ → Given) (box : List Interval) (one other : Fault) → IsFirstFault given box one → IsFirstFault given box other → other ≡ one
one_first given box one other f g =
    let same : g.position ≡ f.position =
    ⊎_elim (λ e. sym e)
    (λ less. ⊎_elim (λ e. e) (λ more. absurd (not_before_itself f.position (before_before f.position g.position f.position less more)))
    (g.first f.position f.inside (one.kind, f.fails)))
    (f.first g.position g.inside (other.kind, g.fails)) in
    let place : other.place ≡ one.place = g.place ∙ ap Position same ∙ sym f.place in
    let fails : Fails other.kind ≡ Fails one.kind = sym g.fails ∙ ap given same ∙ f.fails in
    let kind : other.kind ≡ one.kind = cc in
    λ i. record { place = place i; kind = kind i }

pub box_is : OfCells → (given : List ℤ → Given) (box : List Interval) (fault : Fault) → IsFirstFault given box fault → fault_at given (cells_of box) ≡ Some fault
box_is known given box fault f =
    ⊎_elim
    (λ some. some.1 ∙ ap Some (one_first given box fault some.0 f (box_found known given box some.0 some.1)))
    (λ none. absurd (none_fails given (cells_of box) none f.position fault.kind (is_cell known box f.position f.inside) f.fails))
    (some_or_none (fault_at given (cells_of box)))

-- ---- the faults of parts

if_some : {X : Type 0} (o : Option X) (P : X → Type 0) → ((x : X) → o ≡ Some x → P x) → IfSome o P
if_some None P holds = tt
if_some (Some x) P holds = holds x refl

at_some : {X : Type 0} (o : Option X) (P : X → Type 0) (x : X) → o ≡ Some x → IfSome o P → P x
at_some o P x is h = subst (λ q. IfSome q P) is h

module _ (known : OfCells) (given : List ℤ → Given) (whole : List Interval) (boxes : List (List Interval)) (parts : IsPartition whole boxes) where
  pub none_whole : fault_at given (cells_of whole) ≡ None → All (λ box. fault_at given (cells_of box) ≡ None) boxes
  none_whole e = all_members (λ box. fault_at given (cells_of box) ≡ None) boxes
      (λ box m. all_fine given (cells_of box) (λ q kind l. none_fails given (cells_of whole) e q kind
      (is_cell known whole q (within known whole boxes parts box q m (is_in known box q l)))))

  pub none_parts : All (λ box. fault_at given (cells_of box) ≡ None) boxes → fault_at given (cells_of whole) ≡ None
  none_parts none = all_fine given (cells_of whole)
      (λ q kind m. let part = part_with known whole boxes parts q (is_in known whole q m) in
      none_fails given (cells_of part.0) (All-contains (λ box. fault_at given (cells_of box) ≡ None) boxes part.0 none (contains_of boxes part.0 part.1)) q kind (is_cell known part.0 q part.2))

  -- the part with the position of the fault has the fault
  least_there : (fault : Fault) → fault_at given (cells_of whole) ≡ Some fault → Any (λ box. fault_at given (cells_of box) ≡ Some fault) boxes
  least_there fault e =
      let f = box_found known given whole fault e in
      let part = part_with known whole boxes parts f.position f.inside in
      let there : IsFirstFault given part.0 fault = record {
        position = f.position;
        place = f.place;
        inside = part.2;
        fails = f.fails;
        first = λ q h fails. f.first q (within known whole boxes parts part.0 q part.1 h) fails;
      } in
      of_any (λ box. fault_at given (cells_of box) ≡ Some fault) boxes part.0 part.1 (box_is known given part.0 fault there)

  none_earlier : (fault : Fault) (p : List ℤ) → fault.place ≡ Position p → fault_at given (cells_of whole) ≡ Some fault
      → (box : List Interval) → Member boxes box → (other : Fault) → fault_at given (cells_of box) ≡ Some other → IsNotEarlier p other
  none_earlier fault p at e box m other o q there =
      let f = box_found known given whole fault e in
      let g = box_found known given box other o in
      let places_p : Position f.position ≡ Position p = sym f.place ∙ at in
      let places_q : Position g.position ≡ Position q = sym g.place ∙ there in
      let same_p : f.position ≡ p = cc in
      let same_q : g.position ≡ q = cc in
      subst (λ x. (x ≡ q) ⊎ IsBefore x q) same_p (subst (λ y. (f.position ≡ y) ⊎ IsBefore f.position y) same_q
      (f.first g.position (within known whole boxes parts box g.position m g.inside) (other.kind, g.fails)))

  pub is_least : (fault : Fault) → fault_at given (cells_of whole) ≡ Some fault → IsLeastFault given boxes fault
  is_least fault e =
      let f = box_found known given whole fault e in
      record {
        position = f.position;
        place = f.place;
        has = least_there fault e;
        least = all_members (λ box. IfSome (fault_at given (cells_of box)) (IsNotEarlier f.position)) boxes
            (λ box m. if_some (fault_at given (cells_of box)) (IsNotEarlier f.position) (none_earlier fault f.position f.place e box m));
      }

  pub least_is : (fault : Fault) → IsLeastFault given boxes fault → fault_at given (cells_of whole) ≡ Some fault
  least_is fault l =
      let there = any_of (λ box. fault_at given (cells_of box) ≡ Some fault) boxes l.has in
      let f = box_found known given there.0 fault there.2 in
      let places : Position f.position ≡ Position l.position = sym f.place ∙ l.place in
      let same : f.position ≡ l.position = cc in
      box_is known given whole fault (record {
        position = f.position;
        place = f.place;
        inside = within known whole boxes parts there.0 f.position there.1 f.inside;
        fails = f.fails;
        first = λ q h fails.
            let part = part_with known whole boxes parts q h in
            ⊎_elim
            (λ some. let g = box_found known given part.0 some.0 some.1 in
            reaches f.position g.position q
            (subst (λ x. (x ≡ g.position) ⊎ IsBefore x g.position) (sym same)
            (at_some (fault_at given (cells_of part.0)) (IsNotEarlier l.position) some.0 some.1
            (All-contains (λ box. IfSome (fault_at given (cells_of box)) (IsNotEarlier l.position)) boxes part.0 l.least (contains_of boxes part.0 part.1)) g.position g.place))
            (g.first q part.2 fails))
            (λ none. absurd (none_fails given (cells_of part.0) none q fails.0 (is_cell known part.0 q part.2) fails.1))
            (some_or_none (fault_at given (cells_of part.0)));
      })
