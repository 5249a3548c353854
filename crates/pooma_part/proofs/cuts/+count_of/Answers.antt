use Rattle.std.proofs.Common.{arith, rules, sym, subst, ◌≤◌, ◌*◌, ◌-◌, length, take, drop}
use Rattle.std.specs.Prelude.{List}
use Rattle.pooma_domain.specs.Cells.{cells_of}
use Rattle.pooma_part.specs.CutLines.{CutLine, AreCutLines}
use Rattle.pooma_part.proofs.Dividing.{first_and_later, few_choices, later_lines, wholes}
use Rattle.pooma_part.proofs.cuts.+count_of.Goals as goal

pub count_of-requires : goal.count_of-requires
count_of-requires t c =
    let split = first_and_later c.args.lines.now c.first-item.result c.in-len1-up.len_at_least c.first-item.is in
    (search rules, later_lines c.first-item.result _ (subst AreCutLines split c.requires))

few : (t : _) (c : goal.After-count_of t) → c.parts.result * c.count_of.result ≤ length (cells_of (wholes c.args.lines.now))
few t c =
    let split = first_and_later c.args.lines.now c.first-item.result c.in-len1-up.len_at_least c.first-item.is in
    subst (λ (lines : List CutLine). c.parts.result * c.count_of.result ≤ length (cells_of (wholes lines))) (sym split)
    (few_choices c.first-item.result (take (length c.args.lines.now - 1) (drop 1 c.args.lines.now)) c.parts.result c.count_of.result c.parts.ensures.valid c.parts.ensures.value c.count_of.ensures.few)

pub overflow_mul-result : goal.overflow_mul-result
overflow_mul-result t c = omega (arith, few t c, c.requires.box.countable)

pub returns-in-len1-up-clause-few : goal.returns-in-len1-up-clause-few
returns-in-len1-up-clause-few t c = few t c
