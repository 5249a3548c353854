use Rattle.std.proofs.Common.{nat_lt, rules, of_calls}
use Rattle.std.proofs.lemmas.List.{take_rest}
use Rattle.std.proofs.lemmas.List.Sorted.{IsPartitionPoint-from_clause}
use Rattle.pooma_queue.specs.declared.queue.Asked.{Asked}
use Rattle.pooma_queue.proofs.Order.{order_parts}
use Rattle.pooma_machine.proofs.Awaited.{later_all, later_only}
use Rattle.pooma_machine.proofs.table.not_earlier_than.Goals as goal

pub returns-clause-of_these : goal.returns-clause-of_these
returns-clause-of_these c =
    let point = IsPartitionPoint-from_clause (λ (asked : Asked). nat_lt asked.entry c.args.entry) c.args.requests.now c.partition_point.result c.partition_point.ensures.partitioned (order_parts c.args.requests.now c.args.entry c.requires) (λ a r f k. search (rules, of_calls)) in
    rw (take_rest c.args.requests.now c.partition_point.result) (later_only c.args.requests.now c.args.entry c.partition_point.result point)

pub returns-clause-all : goal.returns-clause-all
returns-clause-all c =
    let point = IsPartitionPoint-from_clause (λ (asked : Asked). nat_lt asked.entry c.args.entry) c.args.requests.now c.partition_point.result c.partition_point.ensures.partitioned (order_parts c.args.requests.now c.args.entry c.requires) (λ a r f k. search (rules, of_calls)) in
    rw (take_rest c.args.requests.now c.partition_point.result) (later_all c.args.requests.now c.args.entry c.partition_point.result point)
