use Rattle.std.proofs.Common.{◌≡◌, ◌∙◌, ap, ◌++◌, List, map, ℕ, arith}
use Rattle.std.specs.List.{range_with_len}
use Rattle.pooma_text.specs.Lines.{ended}
use Rattle.pooma_maker.specs.Script.{drawn_line, foot, head, made_script}
use Rattle.pooma_maker.proofs.Drawn.{one_line_more, three_texts, two_draws_more}
use Rattle.pooma_maker.proofs.made.script.Goals as goal

pub loop-line-preserved : goal.loop-line-preserved
loop-line-preserved c =
    let drawn = two_draws_more c.args.seed c.loop-line._line _ _ _ _ _ c.loop-line.invariant.drawn
    c.choice-kind.ensures.last c.choice-constant.ensures.last c.choice-kind.ensures.choice c.choice-constant.ensures.choice in
    record {
      made = one_line_more (drawn_line c.args.seed) c.loop-line._line (ended head) _ _ _ c.loop-line.invariant.made drawn.line c.in_ok-push_line.ensures;
      drawn = drawn.at;
    }

pub returns : goal.returns
unfolding made_script
returns c =
    let lines = map (drawn_line c.args.seed) (range_with_len 0 c.args.lines) in
    let all : c.loop-line._line ≡ c.args.lines = omega (arith, c.loop-line-test.false, c.loop-line.auto._line-end) in
    let text : c.loop-line.text.items ≡ ended head ++ ended lines =
    c.loop-line.invariant.made ∙ ap (λ (n : ℕ). ended head ++ ended (map (drawn_line c.args.seed) (range_with_len 0 n))) all in
    c.in_ok-extend_from_slice-2.ensures.items
    ∙ ap (λ (t : List ℕ). c.loop-line.text.items ++ t) c.foot-2.ensures
    ∙ ap (λ (t : List ℕ). t ++ ended foot) text
    ∙ three_texts head lines foot
