use Rattle.pooma_fill.specs.Marks.{fills_before}
use Rattle.pooma_fill.proofs.Freshening.{freshened}
use Rattle.pooma_fill.proofs.Making.{fills_make}
use Rattle.pooma_fill.proofs.ReadFields.{all_fresh, whole_fresh}
use Rattle.pooma_fill.proofs.laws.fills_make_fresh.Goals as goal

pub returns : goal.returns
returns c = record {
  objects = λ store stale number does objects world can. (freshened c.gathered.ensures store stale number does objects world can).are;
  stands = λ store stale number does objects world can. (freshened c.gathered.ensures store stale number does objects world can).stands;
  fresh = λ store stale number does objects world can fit. all_fresh c.gathered.ensures store stale number objects world can does fit;
  whole = λ store stale number target value mask objects world can fit. whole_fresh c.gathered.ensures store stale number objects world can target value mask fit;
  kept = λ store stale number does objects world array can fresh. (freshened c.gathered.ensures store stale number does objects world can).kept array fresh;
  done = λ store stale number does objects world can. (freshened c.gathered.ensures store stale number does objects world can).done;
  words = λ store stale number does objects words constants.
      c.gathered.ensures.words (fills_before store.layouts stale number does) objects (fills_make store.layouts number does stale.shapes stale.marks 0 constants) words;
}
