-- All requests of a run may be split off.
use Rattle.std.proofs.Common.{◌≡◌, ap, length, sym, ◌∙◌}
use Rattle.std.specs.Prelude.{vec_len}
use Rattle.std.specs.List.{range_with_len}
use Rattle.tests_jobs.proofs.Parts.{apart, are_found, are_split, can_be_split}
use Rattle.tests_jobs.proofs.splits.all_split.Goals as goal

pub split-requires-clause-footprints : goal.split-requires-clause-footprints
split-requires-clause-footprints c =
    let long : vec_len c.in_ok-footprints.footprints ≡ length c.in_ok-footprints.footprints.items = sym (ap length (sym c.as_slice.ensures.value) ∙ c.as_slice.ensures.len) in
    rw (c.as_slice.ensures.value, c.as_slice-2.ensures.value, c.in_ok-numbers.ensures, c.len.ensures, long)
    (are_found c.args.tree.now c.args.ordinal c.args.time c.args.batch.now.requests c.in_ok-footprints.footprints.items c.in_ok-footprints.ensures c.requires.formed)

pub split-requires-clause-numbers : goal.split-requires-clause-numbers
split-requires-clause-numbers c =
    let long : vec_len c.in_ok-footprints.footprints ≡ length c.in_ok-footprints.footprints.items = sym (ap length (sym c.as_slice.ensures.value) ∙ c.as_slice.ensures.len) in
    rw (c.as_slice.ensures.value, c.as_slice-2.ensures.value, c.in_ok-numbers.ensures, c.len.ensures, long)
    (can_be_split c.args.tree.now c.args.ordinal c.args.time c.args.batch.now.requests c.in_ok-footprints.footprints.items c.in_ok-footprints.ensures c.requires.formed)

pub split-requires-clause-disjoint : goal.split-requires-clause-disjoint
split-requires-clause-disjoint c =
    let long : vec_len c.in_ok-footprints.footprints ≡ length c.in_ok-footprints.footprints.items = sym (ap length (sym c.as_slice.ensures.value) ∙ c.as_slice.ensures.len) in
    rw (c.as_slice.ensures.value, c.as_slice-2.ensures.value, c.in_ok-numbers.ensures, c.len.ensures, long)
    (apart c.args.tree.now c.args.ordinal c.args.time c.args.batch.now.requests c.in_ok-footprints.footprints.items c.in_ok-footprints.ensures)

pub returns-in-Ok : goal.returns-in-Ok
returns-in-Ok c =
    let long : vec_len c.in_ok-footprints.footprints ≡ length c.in_ok-footprints.footprints.items = sym (ap length (sym c.as_slice.ensures.value) ∙ c.as_slice.ensures.len) in
    are_split c.args.tree.now c.args.ordinal c.args.time c.args.batch.now.requests c.in_ok-footprints.footprints.items c.in_ok-footprints.ensures c.split.new.tree c.in_ok-numbers.numbers.items c.in-Ok.jobs.items
    (c.in_ok-numbers.ensures ∙ ap (λ n. range_with_len 0 n) (c.len.ensures ∙ long)) (rw (c.as_slice.ensures.value, c.as_slice-2.ensures.value) at c.in-Ok.ensures.split)
