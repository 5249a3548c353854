use Rattle.std.proofs.Common.{sym, nat_lt, rules, of_calls}
use Rattle.std.proofs.lemmas.List.Sorted.{IsPartitionPoint-from_clause}
use Rattle.pooma_queue.specs.declared.queue.Asked.{Asked}
use Rattle.pooma_queue.proofs.Order.{order_parts, earlier_end}
use Rattle.pooma_queue.proofs.queue.count_before.Goals as goal

pub returns : goal.returns
returns c =
    let point = IsPartitionPoint-from_clause (λ (asked : Asked). nat_lt asked.entry c.args.entry) c.args.requests.now c.partition_point.result c.partition_point.ensures.partitioned (order_parts c.args.requests.now c.args.entry c.requires) (λ a r f k. search (rules, of_calls)) in
    sym (earlier_end c.args.requests.now c.args.entry c.partition_point.result c.partition_point.ensures.bound point)
