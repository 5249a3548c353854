-- The statements that a program executes, in order, with its repeats written out.
use Rattle.std.specs.Prelude.{ℕ, zero, suc, List, [], ◌∷◌, ◌++◌}
use Rattle.pooma_model.specs.declared.statement.Statement.{Statement}
use Rattle.pooma_model.specs.Declarations.{Declared, no_declarations}

-- a repeat that has no end yet: how often it is done, and the statements in it so far
pub record Frame : Type 0 where
  pub turns : ℕ
  pub statements : List Statement

-- a program that is being made: what is declared, the statements outside of open repeats, and these, the innermost first
pub record Drafted : Type 0 where
  pub declared : Declared
  pub statements : List Statement
  pub open_repeats : List Frame

-- a program: what is declared, and the statements that are executed, in order
pub record Programmed : Type 0 where
  pub declared : Declared
  pub order : List Statement

-- no declarations and no lines
abbrev pub empty_draft : Drafted
empty_draft = record { declared = no_declarations; statements = []; open_repeats = [] }

-- the list, so many times
abbrev pub times : ℕ → List Statement → List Statement
times zero statements = []
times (suc n) statements = statements ++ times n statements

abbrev pub into_frames : List Statement → List Statement → List Frame → Declared → Drafted
into_frames more statements [] declared = record { declared = declared; statements = statements ++ more; open_repeats = [] }
into_frames more statements (frame ∷ frames) declared =
    record { declared = declared; statements = statements; open_repeats = record frame { statements = frame.statements ++ more } ∷ frames }

-- the draft with these statements at its end: in the innermost repeat, where one is open
abbrev pub with_statements : List Statement → Drafted → Drafted
with_statements more draft = into_frames more draft.statements draft.open_repeats draft.declared

-- the draft in which a repeat of so many turns was begun
abbrev pub with_repeat : ℕ → Drafted → Drafted
with_repeat turns draft = record draft { open_repeats = record { turns = turns; statements = [] } ∷ draft.open_repeats }

abbrev pub end_frames : Drafted → List Frame → Drafted
end_frames draft [] = draft
end_frames draft (frame ∷ frames) =
    with_statements (times frame.turns frame.statements) (record draft { open_repeats = frames })

-- the draft in which the innermost repeat was ended: its statements stand behind those around it as often as it has turns
abbrev pub with_end : Drafted → Drafted
with_end draft = end_frames draft draft.open_repeats
