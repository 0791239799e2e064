-- One that is not in order is one of all.
use Rattle.std.proofs.Common.{true≢false, IsTrue, sym, subst, ◌∙◌}
use Rattle.std.specs.List.{AllByRecursion}
use Rattle.std.specs.FinMap.{entries}
use Rattle.bfs_tree.specs.Inside.WellFormed.{is_in_place, IsInOrder}
use Rattle.bfs_tree.proofs.WellFormed.Loops.{all_further, not_all, all_at_end}
use Rattle.bfs_tree.specs.Tree.{at_home}
use Rattle.bfs_tree.proofs.well_formed.are_in_order.Goals as goal
use Rattle.bfs_tree.proofs.well_formed.are_in_order.Goals.{then-not-is_limited-via-then-not-is_limited, then-not-is_limited-via-else-not-is_limited+then-not-is_in_place}

pub loop-id-init : goal.loop-id-init
loop-id-init c =
    let all = c.into_iter-id-iterator.ensures.into_iter_gives ∙ c.iter-id-items.ensures in
    (subst (AllByRecursion (IsInOrder (at_home c.args.tree.now))) all, subst (AllByRecursion (IsInOrder (at_home c.args.tree.now))) (sym all))

pub returns-then-not-is_limited : goal.returns-then-not-is_limited
returns-then-not-is_limited c =
    let fails = not_all (IsInOrder (at_home c.args.tree.now)) (entries (at_home c.args.tree.now)) _ _ (c.in-Some.id.now, c.in-Some.inode.now) c.in-Some.ensures.steps in
    elim c.then-not-is_limited.branch [
      | then-not-is_limited-via-then-not-is_limited w ↦ fails (λ order. true≢false (sym (c.is_limited.ensures.1 order.0) ∙ w.if-not-is_limited.true)) c.loop-id.invariant
      | then-not-is_limited-via-else-not-is_limited+then-not-is_in_place w ↦
          fails (λ order. true≢false (sym (subst (λ id. IsTrue (is_in_place (at_home c.args.tree.now) id c.in-Some.inode.now.links c.in-Some.inode.now.body)) (sym w.new.ensures) order.1) ∙ sym w.is_in_place.ensures ∙ w.if-not-is_in_place.true)) c.loop-id.invariant
    ]

pub loop-id-preserved : goal.loop-id-preserved
loop-id-preserved c =
    let place : IsTrue (is_in_place (at_home c.args.tree.now) c.in-Some.id.now c.in-Some.inode.now.links c.in-Some.inode.now.body) =
    subst (λ id. IsTrue (is_in_place (at_home c.args.tree.now) id c.in-Some.inode.now.links c.in-Some.inode.now.body)) c.new.ensures (sym c.is_in_place.ensures ∙ c.if-not-is_in_place.false) in
    all_further (IsInOrder (at_home c.args.tree.now)) (entries (at_home c.args.tree.now)) _ _ (c.in-Some.id.now, c.in-Some.inode.now) c.in-Some.ensures.steps (c.is_limited.ensures.0 c.if-not-is_limited.false, place) c.loop-id.invariant

pub returns : goal.returns
returns c = all_at_end (IsInOrder (at_home c.args.tree.now)) (entries (at_home c.args.tree.now)) _ c.in-None.ensures.steps.0 c.loop-id.invariant
