use Rattle.std.proofs.Common.{◌≡◌, ◌^◌, ℕ, List, length, take, sym, ap, ◌∙◌, subst, arith}
use Rattle.bfs_signatures.specs.Signature.{most_height}
use Rattle.bfs_signatures.specs.Signing.{height_of}
use Rattle.bfs_signatures.specs.Nodes.{HasNodes}
use Rattle.bfs_signatures.proofs.Heights.{is_least}
use Rattle.bfs_signatures.proofs.tree.Tree.over.Goals as goal

pub nodes_over-requires-clause-height : goal.nodes_over-requires-clause-height
nodes_over-requires-clause-height c =
    let least = is_least most_height (length c.args.leaves.now) c.requires in
    omega (arith, c.height_for-height.ensures, least.few)

pub nodes_over-requires-clause-room : goal.nodes_over-requires-clause-room
nodes_over-requires-clause-room c =
    let least = is_least most_height (length c.args.leaves.now) c.requires in
    omega (arith, ap (λ n. 2 ^ n) c.height_for-height.ensures, least.room)

pub invariant_of-result : goal.invariant_of-result
invariant_of-result c =
    let leaves = c.args.leaves.now in
    let nodes = c.in_ok-nodes_over.field-0.items in
    let height = c.height_for-height.result in
    let least = is_least most_height (length leaves) c.requires in
    let is : take (length leaves) nodes ≡ leaves = c.in_ok-nodes_over.ensures.leaves in (
      omega (arith, ap (λ n. 2 ^ n) c.height_for-height.ensures, least.room),
      (
        omega (arith, c.height_for-height.ensures, least.few),
        c.height_for-height.ensures ∙ ap height_of (sym is),
        c.in_ok-nodes_over.ensures.whole,
        subst (λ (l : List (List ℕ)). HasNodes l height nodes) (sym is) c.in_ok-nodes_over.ensures.made,
      ),
    )
