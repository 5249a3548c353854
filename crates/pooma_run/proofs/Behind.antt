-- Works behind works that are pending: what they leave, what they answer, and which fault is the first.
use Rattle.std.proofs.Common.{◌≡◌, ◌∙◌, sym, ap, subst, ℕ, ◌+◌, ◌<◌, ◌≤◌, Option, None, Some, List, [], ◌∷◌, ◌++◌, length, map, drop, arith}
use Rattle.std.specs.List.{cons_option}
use Rattle.std.specs.Prelude.{All, Bool, true, false, fold, if◌then◌else◌}
use Rattle.std.proofs.Math.Seq.{drop-append-add, drop-append_seam}
use Rattle.std.proofs.lemmas.List.{length-map, map-append}
use Rattle.std.proofs.lemmas.List.Elements.{All-cons, All-head, All-map, All-tail}
use Rattle.pooma_field.specs.Numbered.{Numbered}
use Rattle.pooma_piece.specs.declared.outcome.Outcome.{Outcome}
use Rattle.pooma_piece.specs.declared.outcome.Outcome.TheVariants.{Done, Fault, Value}
use Rattle.pooma_piece.specs.Pieces.{Pieced}
use Rattle.pooma_piece.specs.Plans.{Faulted, fault_in, faults_of, is_earlier, or_earlier, plan_fault}
use Rattle.pooma_split.specs.Statements.{done_in_order, fault_among}
use Rattle.pooma_run.proofs.Earliest.{fault_behind, faults_behind, first_stays, none_of_done}
use Rattle.pooma_run.specs.Gathered.{OfWorks}

-- the first fault is that of one of the statements
abbrev OfOne : (ℕ → Type 0) → Option Faulted → Type 0
OfOne P None = Unit {0}
OfOne P (Some f) = P f.statement

none_of : (P : Faulted → Type 0) → All P []
none_of P k d within = absurd (omega arith)

one_more : (P : ℕ → Type 0) (s : ℕ) (o : Outcome) (fs : List Faulted) → P s → All (λ g. P g.statement) fs → All (λ g. P g.statement) (cons_option (fault_in s o) fs)
one_more P s Done fs here later = later
one_more P s (Value kept) fs here later = later
one_more P s (Fault position kind) fs here later =
    All-cons (λ (g : Faulted). P g.statement) (record { statement = s; position = position; kind = kind }) fs here later

faults_each : (P : ℕ → Type 0) (statements : List ℕ) (outcomes : List Outcome) → All P statements → All (λ g. P g.statement) (faults_of statements outcomes)
faults_each P [] outcomes each = none_of (λ g. P g.statement)
faults_each P (s ∷ statements) [] each = none_of (λ g. P g.statement)
faults_each P (s ∷ statements) (o ∷ outcomes) each =
    one_more P s o (faults_of statements outcomes) (All-head P s statements each) (faults_each P statements outcomes (All-tail P s statements each))

earliest_of : (P : ℕ → Type 0) (known : Option Faulted) (fs : List Faulted) → OfOne P known → All (λ g. P g.statement) fs → OfOne P (fold or_earlier known fs)
earliest_of P known [] here each = here
earliest_of P None (f ∷ fs) here each = earliest_of P (Some f) fs (All-head (λ g. P g.statement) f fs each) (All-tail (λ g. P g.statement) f fs each)
earliest_of P (Some first) (f ∷ fs) here each =
    earliest_of P (Some (if is_earlier f first then f else first)) fs (by (is_earlier f first)) (All-tail (λ g. P g.statement) f fs each)
  where
    by : (earlier : Bool) → P (if earlier then f else first).statement
    by true = All-head (λ g. P g.statement) f fs each
    by false = here

fault_of_one : (P : ℕ → Type 0) (statements : List ℕ) (outcomes : List Outcome) (f : Faulted) → plan_fault statements outcomes ≡ Some f → All P statements → P f.statement
fault_of_one P statements outcomes f is each = subst (OfOne P) is (earliest_of P None (faults_of statements outcomes) tt (faults_each P statements outcomes each))

-- works behind others
abbrev statement_of : Pieced → ℕ
statement_of piece = piece.statement

statements_behind : (pending works : List Pieced) → map statement_of (pending ++ works) ≡ map statement_of pending ++ map statement_of works
statements_behind pending works = map-append statement_of pending works

same_count : OfWorks → (plan : List Pieced) (objects : List Numbered) → length (map statement_of plan) ≡ length (done_in_order plan objects).outcomes
same_count laws plan objects = length-map plan statement_of ∙ sym (laws.count plan objects)

faults_then : OfWorks → (front rest : List Pieced) (objects : List Numbered)
    → faults_of (map statement_of (front ++ rest)) (done_in_order (front ++ rest) objects).outcomes
    ≡ faults_of (map statement_of front) (done_in_order front objects).outcomes ++ faults_of (map statement_of rest) (done_in_order rest (done_in_order front objects).objects).outcomes
faults_then laws front rest objects =
    ap (faults_of (map statement_of (front ++ rest))) (laws.outcomes front rest objects)
    ∙ ap (λ ns. faults_of ns ((done_in_order front objects).outcomes ++ (done_in_order rest (done_in_order front objects).objects).outcomes)) (statements_behind front rest)
    ∙ faults_behind (map statement_of front) (done_in_order front objects).outcomes (map statement_of rest) (done_in_order rest (done_in_order front objects).objects).outcomes
    (same_count laws front objects)

first_then : OfWorks → (front rest : List Pieced) (objects : List Numbered)
    → fault_among (front ++ rest) (done_in_order (front ++ rest) objects)
    ≡ fold or_earlier (fault_among front (done_in_order front objects)) (faults_of (map statement_of rest) (done_in_order rest (done_in_order front objects).objects).outcomes)
first_then laws front rest objects =
    ap (plan_fault (map statement_of (front ++ rest))) (laws.outcomes front rest objects)
    ∙ ap (λ ns. plan_fault ns ((done_in_order front objects).outcomes ++ (done_in_order rest (done_in_order front objects).objects).outcomes)) (statements_behind front rest)
    ∙ fault_behind (map statement_of front) (done_in_order front objects).outcomes (map statement_of rest) (done_in_order rest (done_in_order front objects).objects).outcomes
    (same_count laws front objects)

-- a fault of the pending works stays the first
pub pending_first : OfWorks → (pending works : List Pieced) (objects : List Numbered) (number : ℕ) (f : Faulted) → fault_among pending (done_in_order pending objects) ≡ Some f
    → All (λ piece. piece.statement < number) pending → All (λ piece. piece.statement ≡ number) works
    → fault_among (pending ++ works) (done_in_order (pending ++ works) objects) ≡ Some f
pending_first laws pending works objects number f is before behind =
    let later : List Faulted = faults_of (map statement_of works) (done_in_order works (done_in_order pending objects).objects).outcomes in
    first_then laws pending works objects
    ∙ ap (λ known. fold or_earlier known later) is
    ∙ first_stays f number later
    (fault_of_one (λ n. n < number) (map statement_of pending) (done_in_order pending objects).outcomes f is (All-map (λ n. n < number) statement_of pending before))
    (faults_each (λ n. number ≤ n) (map statement_of works) (done_in_order works (done_in_order pending objects).objects).outcomes
    (All-map (λ n. number ≤ n) statement_of works (λ k d within. let same = behind k d within in omega arith)))

-- and where they have none, behind fills that are done the first is that of the pieces
pub pieces_first : OfWorks → (pending fills made : List Pieced) (objects : List Numbered) → fault_among pending (done_in_order pending objects) ≡ None
    → All (λ o. o ≡ Done) (done_in_order fills (done_in_order pending objects).objects).outcomes
    → fault_among (pending ++ (fills ++ made)) (done_in_order (pending ++ (fills ++ made)) objects)
    ≡ fault_among made (done_in_order made (done_in_order fills (done_in_order pending objects).objects).objects)
pieces_first laws pending fills made objects none done =
    let here : List Numbered = (done_in_order pending objects).objects in
    let filled : List Numbered = (done_in_order fills here).objects in
    let answers : List Outcome = (done_in_order made filled).outcomes in
    first_then laws pending (fills ++ made) objects
    ∙ ap (λ known. fold or_earlier known (faults_of (map statement_of (fills ++ made)) (done_in_order (fills ++ made) here).outcomes)) none
    ∙ ap (fold or_earlier None) (faults_then laws fills made here)
    ∙ ap (λ fs. fold or_earlier None (fs ++ faults_of (map statement_of made) answers)) (none_of_done (map statement_of fills) (done_in_order fills here).outcomes done)

-- what all of them leave, and where the answers of the pieces stand
pub objects_behind : OfWorks → (pending fills made : List Pieced) (objects : List Numbered)
    → (done_in_order (pending ++ (fills ++ made)) objects).objects ≡ (done_in_order made (done_in_order fills (done_in_order pending objects).objects).objects).objects
objects_behind laws pending fills made objects = laws.objects pending (fills ++ made) objects ∙ laws.objects fills made (done_in_order pending objects).objects

drop_both : {X : Type 0} (xs ys zs : List X) (a b : ℕ) → length xs ≡ a → length ys ≡ b → drop (a + b) (xs ++ (ys ++ zs)) ≡ zs
drop_both xs ys zs a b one two =
    ap (λ n. drop (n + b) (xs ++ (ys ++ zs))) (sym one) ∙ ap (λ n. drop (length xs + n) (xs ++ (ys ++ zs))) (sym two)
    ∙ drop-append-add xs (ys ++ zs) (length ys) ∙ drop-append_seam ys zs

pub answers_behind : OfWorks → (pending fills made : List Pieced) (objects : List Numbered)
    → drop (length pending + length fills) (done_in_order (pending ++ (fills ++ made)) objects).outcomes
    ≡ (done_in_order made (done_in_order fills (done_in_order pending objects).objects).objects).outcomes
answers_behind laws pending fills made objects =
    let here : List Numbered = (done_in_order pending objects).objects in
    ap (drop (length pending + length fills))
    (laws.outcomes pending (fills ++ made) objects ∙ ap (λ os. (done_in_order pending objects).outcomes ++ os) (laws.outcomes fills made here))
    ∙ drop_both (done_in_order pending objects).outcomes (done_in_order fills here).outcomes (done_in_order made (done_in_order fills here).objects).outcomes (length pending) (length fills)
    (laws.count pending objects) (laws.count fills here)
