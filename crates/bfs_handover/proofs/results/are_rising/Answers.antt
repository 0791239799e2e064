-- The closure compares the numbers of neighbours.
use Rattle.std.proofs.Common.{rules, tests, nat_lt}
use Rattle.std.proofs.lemmas.List.Sorted.{answers_always}
use Rattle.bfs_handover.proofs.NumberLemmas.{keys_rise}
use Rattle.bfs_handover.proofs.results.are_rising.Goals as goal

pub returns : goal.returns
returns c = keys_rise (λ done. done.number) _ _ (c.is_sorted_by.ensures.cases (λ done next. nat_lt done.number next.number) (answers_always _ _ _ (λ f a r q k. search (rules, tests))))
