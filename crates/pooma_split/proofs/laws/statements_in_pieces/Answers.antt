use Rattle.pooma_expr.specs.Trees.{bound, views_of}
use Rattle.pooma_law.specs.Ser.{at_first}
use Rattle.pooma_model.specs.Parts.{parts_of}
use Rattle.pooma_split.proofs.Asking.{reduce_leaves}
use Rattle.pooma_split.proofs.Ending.{assign_comes, stay_fresh}
use Rattle.pooma_split.proofs.Gathering.{all_counted, order_words, reduce_gathers}
use Rattle.pooma_split.specs.Splits.{pieces_of}
use Rattle.pooma_split.proofs.Making.{pieces_make}
use Rattle.pooma_split.proofs.laws.statements_in_pieces.Goals as goal

pub returns : goal.returns
returns c = record {
  assigns = λ declared objects world number target value mask fit standing full.
      assign_comes c.gathered.ensures declared number target value mask world fit objects standing full;
  fresh = λ declared objects world new number target value mask other fit standing full faultless becomes apart fresh.
      stay_fresh c.gathered.ensures declared number target value mask world fit objects standing full faultless new becomes other apart fresh;
  reduces = λ declared objects world number scalar reduction positions value fit standing.
      reduce_gathers c.gathered.ensures declared number scalar reduction positions value world fit objects standing;
  counted = λ declared objects world number scalar reduction positions value fit standing faultless.
      all_counted c.gathered.ensures declared number scalar reduction positions value world fit objects standing faultless;
  leaves = λ declared scalars objects number scalar reduction positions value.
      reduce_leaves declared number reduction (bound scalars value) (parts_of declared (views_of (bound scalars value)) positions) (at_first objects);
  words = λ declared objects world scalar reduction positions value fit standing words few literals order moved.
      order_words c.gathered.ensures declared 0 scalar reduction positions value world fit objects standing words few literals order moved;
  stay_words = λ declared scalars objects number does fit few literals words.
      c.gathered.ensures.words (pieces_of declared scalars number does) objects (pieces_make declared scalars number does c.gathered.ensures.partition fit few literals) words;
}
