use Rattle.std.proofs.Common.{[], map, subst}
use Rattle.pooma_parse.specs.Forms.{LINE}
use Rattle.pooma_parse.specs.Tokens.{lexeme_of}
use Rattle.pooma_parse.proofs.Readings.{blank_spells_none, says_one}
use Rattle.pooma_parse.proofs.law.one_form.Goals as goal

pub returns-clause-one : goal.returns-clause-one
returns-clause-one c = λ line a b x y.
    let same = c.one_reading.ensures.tokens line y.tokens x.tokens y.whole x.whole in
    says_one (map (lexeme_of line) x.tokens) a b x.says (subst (λ t. LINE b (map (lexeme_of line) t)) same y.says)

pub returns-clause-blank : goal.returns-clause-blank
returns-clause-blank c = λ line form blank s.
    blank_spells_none line (λ all has few. c.one_reading.ensures.tokens line [] all blank has) form s
