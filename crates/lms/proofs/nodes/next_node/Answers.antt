use Rattle.std.proofs.Common.{◌≡◌, ◌-◌, ◌≤◌, ◌<◌, List, ℕ, length, ap, ◌∙◌, arith}
use Rattle.lms.specs.Types.{leaf_count}
use Rattle.lms.specs.Trees.{leaf_node}
use Rattle.lms.specs.Nodes.{node_count}
use Rattle.lms.specs.Secrets.{one_time_key}
use Rattle.lms.proofs.Kept.{is_inner, is_leaf, one_more}
use Rattle.lms.proofs.nodes.next_node.Goals as goal

pub returns-then-number-leaves : goal.returns-then-number-leaves
returns-then-number-leaves c =
    let key = c.args.key.now in
    let nodes = c.args.nodes.now in
    let number = c.node_count.result - length nodes in
    let here : number ≡ node_count key - length nodes = ap (λ k. k - length nodes) c.node_count.ensures in
    let inner : number < leaf_count key.lms = omega arith in
    one_more key nodes c.inner_node.result c.requires.made
    (λ level other at place. c.inner_node.ensures ∙ is_inner key nodes number level other c.node_at-left.result.now c.node_at-right.result.now c.requires.made c.requires.room here inner
    c.node_at-left.ensures c.node_at-right.ensures at place)

pub returns-else-number-leaves : goal.returns-else-number-leaves
returns-else-number-leaves c =
    let key = c.args.key.now in
    let nodes = c.args.nodes.now in
    let number = c.node_count.result - length nodes in
    let here : number ≡ node_count key - length nodes = ap (λ k. k - length nodes) c.node_count.ensures in
    let leaf : leaf_count key.lms ≤ number = omega arith in
    let signs = c.one_time_key.ensures ∙ ap (λ k. one_time_key key (number - k)) c.leaf_count-leaves.ensures in
    one_more key nodes c.leaf_node.result c.requires.made
    (λ level other at place. c.leaf_node.ensures ∙ ap (λ (k : List ℕ). leaf_node key.id number k) signs ∙ is_leaf key (length nodes) number level other c.requires.room here leaf at place)
