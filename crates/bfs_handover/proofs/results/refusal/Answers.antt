-- Just these numbers are not refused; else, in order, results whose numbers don't rise are double; and of those that rise, some are missing just
-- where they are fewer.
use Rattle.std.proofs.Common.{sym, subst, ◌∙◌, true≢false}
use Rattle.std.specs.List.Sorted.{IsPermutation}
use Rattle.std.proofs.lemmas.List.Sorted.{IsPermutation-refl}
use Rattle.bfs_handover.proofs.NumberLemmas.{complete_results_are_taken, is_double, is_missing, is_none}
use Rattle.bfs_handover.proofs.results.refusal.Goals as goal

pub returns-then-are_numbers : goal.returns-then-are_numbers
returns-then-are_numbers c =
    let numbers = c.args.numbers.now in
    sym (complete_results_are_taken numbers c.args.dones.now c.requires.rising (subst (IsPermutation numbers) (sym (c.are_numbers.ensures.0 c.if-are_numbers.true)) (IsPermutation-refl numbers)))

pub returns-then-not-are_rising : goal.returns-then-not-are_rising
returns-then-not-are_rising c =
    is_double c.args.numbers.now c.args.dones.now c.requires.rising c.requires.sorted (sym c.has_stranger.ensures ∙ c.if-has_stranger.false)
    (λ rise. true≢false (sym (c.are_rising.ensures.1 rise) ∙ c.if-not-are_rising.true))

pub returns-then-dones-numbers : goal.returns-then-dones-numbers
returns-then-dones-numbers c =
    is_missing c.args.numbers.now c.args.dones.now c.requires.rising c.requires.sorted (sym c.has_stranger.ensures ∙ c.if-has_stranger.false)
    (c.are_rising.ensures.0 c.if-not-are_rising.false) c.if-dones-numbers.true

pub returns-else-dones-numbers : goal.returns-else-dones-numbers
returns-else-dones-numbers c =
    is_none c.args.numbers.now c.args.dones.now c.requires.rising c.requires.sorted (sym c.has_stranger.ensures ∙ c.if-has_stranger.false)
    (c.are_rising.ensures.0 c.if-not-are_rising.false) c.if-dones-numbers.false
