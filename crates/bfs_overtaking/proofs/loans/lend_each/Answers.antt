-- What stands there the first time leaves the tree; what stands there again has left it.
use Rattle.std.proofs.Common.{◌≡◌, ◌+◌, ◌++◌, ◌∷◌, [], ℕ, take, true, not, is_some, ap, sym, subst, ◌∙◌}
use Rattle.std.specs.FinMap.{get, contains_key}
use Rattle.std.proofs.lemmas.List.{take_more}
use Rattle.bfs_tree.specs.Slots.{Slots}
use Rattle.bfs_tree.specs.Tree.{lent}
use Rattle.bfs_overtaking.specs.Inside.Lent.{AreLentOut}
use Rattle.bfs_overtaking.proofs.Leaving.{at_home_before, has_reserved, none_yet, passed_over, still_there, left_tree}
use Rattle.bfs_overtaking.proofs.loans.lend_each.Goals.{then-not-owns+in_ok-reserve+in_ok-push, else-not-owns}
use Rattle.bfs_overtaking.proofs.loans.lend_each.Goals as goal

pub loop-id-init : goal.loop-id-init
loop-id-init c = subst (AreLentOut c.args.tree.now c.args.tree.now []) (sym c.new-loans.ensures) (none_yet c.args.tree.now)

pub lend_out-inode-requires-clause-place : goal.lend_out-inode-requires-clause-place
lend_out-inode-requires-clause-place c = subst (λ (s : Slots). contains_key s c.id-item.result ≡ true) (sym c.in_ok-reserve.ensures.ok) (has_reserved c.loop-id.tree c.id-item.result)

pub lend_out-inode-requires-clause-home : goal.lend_out-inode-requires-clause-home
lend_out-inode-requires-clause-home c =
    let id = c.id-item.result in
    let ids = c.args.ids.now in
    ap (λ (s : Slots). not (is_some (get (lent s) id))) c.in_ok-reserve.ensures.ok
    ∙ ap not (still_there c.args.tree.now c.loop-id.tree (take c.loop-id.id-index ids) c.loop-id.loans c.loop-id.invariant id (sym c.owns.ensures ∙ c.if-not-owns.true) (at_home_before ids c.loop-id.id-index id c.loop-id-test.true c.id-item.is c.args.tree.now c.requires))

pub loop-id-preserved : goal.loop-id-preserved
loop-id-preserved c =
    let ids = c.args.ids.now in
    let at = c.loop-id.id-index in
    let id = c.id-item.result in
    let more : take at ids ++ id ∷ [] ≡ take (at + 1) ids = ap (λ (x : ℕ). take at ids ++ x ∷ []) c.id-item.is ∙ sym (take_more ids at id c.loop-id-test.true) in
    subst (λ xs. AreLentOut c.args.tree.now c.if-not-owns.tree xs c.if-not-owns.loans) more (elim c.if-not-owns.branch [
      | then-not-owns+in_ok-reserve+in_ok-push w ↦
          left_tree c.args.tree.now c.loop-id.tree (take at ids) c.loop-id.loans c.loop-id.invariant id (sym c.owns.ensures ∙ w.if-not-owns.true) w.reserve.new.self c.if-not-owns.tree c.if-not-owns.loans w.lend_out-inode.result
          w.in_ok-reserve.ensures.ok (w.tree-is ∙ w.lend_out-inode.ensures.lent) w.lend_out-inode.ensures.value (w.loans-is ∙ w.in_ok-push.ensures.ok)
      | else-not-owns w ↦
          subst (λ (s : Slots). AreLentOut c.args.tree.now s (take at ids ++ id ∷ []) c.if-not-owns.loans) (sym w.tree-is)
          (subst (λ loans. AreLentOut c.args.tree.now c.loop-id.tree (take at ids ++ id ∷ []) loans) (sym w.loans-is) (passed_over c.args.tree.now c.loop-id.tree (take at ids) c.loop-id.loans c.loop-id.invariant id (sym w.if-not-owns.ensures)))
    ])
