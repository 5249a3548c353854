use Rattle.std.proofs.Common.{◌≡◌, ℕ, ◌+◌, ◌-◌, ◌*◌}
use Rattle.pooma_parse.specs.declared.expression.Chained.{Chained}
use Rattle.pooma_parse.specs.declared.expression.Chained.TheVariants as chained
use Rattle.pooma_parse.specs.Reader.{level_of, read_level, read_operand, read_operands, unary_within}
use Rattle.pooma_parse.proofs.expression.+expression.Given as goal

-- a level calls what stands below it
abbrev rank : Chained → ℕ
rank chained.Expr = 10
rank chained.And = 8
rank chained.Add = 5
rank chained.Mul = 3

abbrev pub decreases-chain : goal.decreases-chain
decreases-chain l = 16 * l.depth + rank l.level

abbrev pub decreases-operand : goal.decreases-operand
decreases-operand l = 16 * l.depth + rank l.level - 1

abbrev pub decreases-compared : goal.decreases-compared
decreases-compared l = 16 * l.depth + 6

abbrev pub decreases-unary : goal.decreases-unary
decreases-unary l = 16 * l.depth + 1

abbrev pub decreases-primary : goal.decreases-primary
decreases-primary l = 16 * l.depth

abbrev pub decreases-nested : goal.decreases-nested
decreases-nested l = 16 * l.depth + 13

abbrev pub decreases-group : goal.decreases-group
decreases-group l = 16 * l.depth + 11

abbrev pub decreases-closed : goal.decreases-closed
decreases-closed l = 16 * l.depth + 11

abbrev pub decreases-both : goal.decreases-both
decreases-both l = 16 * l.depth + 12

abbrev pub decreases-choice : goal.decreases-choice
decreases-choice l = 16 * l.depth + 12

abbrev pub invariant-chain-loop-turn : goal.invariant-chain-loop-turn
invariant-chain-loop-turn l = read_level l.level (unary_within l.place l.depth) l.fn.cursor
    ≡ read_operands (level_of l.level) (read_operand l.level (unary_within l.place l.depth)) (l._turn-end - l._turn) l.whole l.cursor
