use Rattle.std.proofs.Common.{rules, arith, ap, ⊎_elim, sym, ◌∙◌, ◌≡◌, ◌+◌, ◌-◌, pos, ℤ, length}
use Rattle.std.proofs.lemmas.Bool.{cases_lt}
use Rattle.std.proofs.lemmas.Int.{ints}
use Rattle.std.proofs.lemmas.List.{places}
use Rattle.pooma_compress.specs.Rows.{row_place}
use Rattle.pooma_compress.proofs.RowPlaces.{place_in_line}
use Rattle.pooma_compress.proofs.rows.write_row.Goals as goal

pub returns-then-stride-eq1-clause-beside : goal.returns-then-stride-eq1-clause-beside
returns-then-stride-eq1-clause-beside c j none =
    ⊎_elim
    (λ before. search (rules, places))
    (λ from.
    ⊎_elim
    (λ inside.
    let one : c.args.stride ≡ pos 1 = omega (arith, ints) in
    let here : c.args.first + (j - c.args.first) ≡ j = omega (arith, from) in
    absurd (none (j - c.args.first) (omega (arith, from, inside))
    (sym (ap (λ (s : ℤ). row_place c.args.first s (j - c.args.first)) one ∙ place_in_line c.args.first (j - c.args.first) ∙ ap pos here))))
    (λ after. search (rules, places))
    (cases_lt j (c.args.first + length c.args.row.now)))
    (cases_lt j c.args.first)
