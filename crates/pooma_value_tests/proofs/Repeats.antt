-- Repeats around nothing, and a statement behind them.
use Rattle.std.proofs.Common.{◌≤◌, ◌≡◌, ℕ, zero, suc, List, [], ◌∷◌, length, refl, ap, ◌∙◌, arith}
use Rattle.std.proofs.lemmas.List.{append-nil}
use Rattle.pooma_model.specs.declared.statement.Statement.{Statement}
use Rattle.pooma_model.specs.Declarations.{Declared}
use Rattle.pooma_model.specs.Order.{Drafted, Frame, empty_draft, into_frames, times, with_end, with_repeat, with_statements}

times-nil : (n : ℕ) → times n [] ≡ []
times-nil zero = refl
times-nil (suc n) = times-nil n

nothing_more : (statements : List Statement) (frames : List Frame) (declared : Declared) →
    into_frames [] statements frames declared ≡ record { declared = declared; statements = statements; open_repeats = frames }
nothing_more statements [] declared =
    ap (λ xs. record { declared = declared; statements = xs; open_repeats = [] }) (append-nil statements)
nothing_more statements (frame ∷ frames) declared =
    ap
    (λ xs. record { declared = declared; statements = statements; open_repeats = record { turns = frame.turns; statements = xs } ∷ frames })
    (append-nil frame.statements)

-- a repeat that is begun and ended leaves a draft as it was
begun_and_ended : (turns : ℕ) (old begun same ended : Drafted) → begun ≡ with_repeat turns old → same ≡ begun → ended ≡ with_end same → ended ≡ old
begun_and_ended turns old begun same ended b s e =
    e ∙ ap with_end (s ∙ b)
    ∙ ap (λ xs. into_frames xs old.statements old.open_repeats old.declared) (times-nil turns)
    ∙ nothing_more old.statements old.open_repeats old.declared

pub one_statement : (turns : ℕ) (s : Statement) (a b c d e f g h i all : Drafted) →
    a ≡ empty_draft → b ≡ with_repeat turns a → c ≡ with_repeat turns b → d ≡ with_repeat turns c → e ≡ with_repeat turns d →
    f ≡ with_end e → g ≡ with_end f → h ≡ with_end g → i ≡ with_end h → all ≡ with_statements (s ∷ []) i → length all.statements ≤ 1048576
one_statement turns s a b c d e f g h i all is-a is-b is-c is-d is-e is-f is-g is-h is-i is-all =
    let three : f ≡ d = begun_and_ended turns d e e f is-e refl is-f in
    let two : g ≡ c = begun_and_ended turns c d f g is-d three is-g in
    let one : h ≡ b = begun_and_ended turns b c g h is-c two is-h in
    let none : i ≡ a = begun_and_ended turns a b h i is-b one is-i in
    let count : length all.statements ≡ 1 =
    ap (λ draft. length draft.statements) (is-all ∙ ap (with_statements (s ∷ [])) (none ∙ is-a)) in
    omega arith
