-- How many statements are executed, line after line.
use Rattle.std.proofs.Common.{◌≡◌, ℕ, zero, suc, ◌+◌, ◌*◌, List, [], ◌∷◌, ◌++◌, length, refl, sym, ap, ◌∙◌, arith}
use Rattle.std.proofs.Math.Nat.{mul_assoc, mul_comm}
use Rattle.std.proofs.lemmas.List.{length-append}
use Rattle.pooma_model.specs.Declarations.{Declared}
use Rattle.pooma_model.specs.declared.statement.Statement.{Statement}
use Rattle.pooma_model.specs.Order.{Drafted, Frame, end_frames, into_frames, times, with_end, with_repeat, with_statements}
use Rattle.pooma_check.specs.Kept.{executed_in, turns_kept, turns_of}

-- the executed statements of a draft
abbrev pub executed_of : Drafted → ℕ
executed_of draft = length draft.statements + executed_in draft.open_repeats

times_more : (p a b : ℕ) → p * (a + b) ≡ p * a + p * b
times_more zero a b = omega arith
times_more (suc p) a b = omega (arith, times_more p a b)

length_of_times : (n : ℕ) (statements : List Statement) → length (times n statements) ≡ n * length statements
length_of_times zero statements = omega arith
length_of_times (suc n) statements =
    let both = length-append statements (times n statements) in let later = length_of_times n statements in omega (arith, both, later)

-- statements at the end count as often as all open repeats are done
executed_into : (more statements : List Statement) (frames : List Frame) (declared : Declared)
    → executed_of (into_frames more statements frames declared) ≡ (length statements + executed_in frames) + turns_of frames * length more
executed_into more statements [] declared = omega (arith, length-append statements more)
executed_into more statements (frame ∷ frames) declared =
    let whole = turns_of (frame ∷ frames) in
    let longer : whole * length (frame.statements ++ more) ≡ whole * length frame.statements + whole * length more =
    ap (λ k. whole * k) (length-append frame.statements more) ∙ times_more whole (length frame.statements) (length more) in
    omega (arith, longer)

pub executed_with : (more : List Statement) (draft : Drafted) → executed_of (with_statements more draft) ≡ executed_of draft + turns_of draft.open_repeats * length more
executed_with more draft = executed_into more draft.statements draft.open_repeats draft.declared

-- a repeat that begins has none yet
pub executed_repeat : (turns : ℕ) (draft : Drafted) → executed_of (with_repeat turns draft) ≡ executed_of draft
executed_repeat turns draft = let none = mul_comm (turns_of (record { turns = turns; statements = [] } ∷ draft.open_repeats)) 0 in omega (arith, none)

-- a repeat that ends is written out
executed_end_frames : (draft : Drafted) (frames : List Frame) → draft.open_repeats ≡ frames → executed_of (end_frames draft frames) ≡ executed_of draft
executed_end_frames draft [] is = refl
executed_end_frames draft (frame ∷ frames) is =
    let out = turns_of frames in
    let all : executed_of (end_frames draft (frame ∷ frames)) ≡ (length draft.statements + executed_in frames) + out * length (times frame.turns frame.statements) =
    executed_into (times frame.turns frame.statements) draft.statements frames draft.declared in
    let each : out * length (times frame.turns frame.statements) ≡ turns_of (frame ∷ frames) * length frame.statements =
    ap (λ k. out * k) (length_of_times frame.turns frame.statements)
    ∙ (sym (mul_assoc out frame.turns (length frame.statements)) ∙ ap (λ k. k * length frame.statements) (mul_comm out frame.turns)) in
    let before : executed_in draft.open_repeats ≡ executed_in (frame ∷ frames) = ap executed_in is in
    omega (arith, all, each, before)

pub executed_end : (draft : Drafted) → executed_of (with_end draft) ≡ executed_of draft
executed_end draft = executed_end_frames draft draft.open_repeats refl

-- what is declared stays
pub declared_with : (more statements : List Statement) (frames : List Frame) (declared : Declared) → (into_frames more statements frames declared).declared ≡ declared
declared_with more statements [] declared = refl
declared_with more statements (frame ∷ frames) declared = refl

declared_end_frames : (draft : Drafted) (frames : List Frame) → (end_frames draft frames).declared ≡ draft.declared
declared_end_frames draft [] = refl
declared_end_frames draft (frame ∷ frames) = declared_with (times frame.turns frame.statements) draft.statements frames draft.declared

pub declared_end : (draft : Drafted) → (with_end draft).declared ≡ draft.declared
declared_end draft = declared_end_frames draft draft.open_repeats

-- open repeats but for their statements
pub turns_with : (more statements : List Statement) (frames : List Frame) (declared : Declared)
    → turns_kept (into_frames more statements frames declared).open_repeats ≡ turns_kept frames
turns_with more statements [] declared = refl
turns_with more statements (frame ∷ frames) declared = refl
