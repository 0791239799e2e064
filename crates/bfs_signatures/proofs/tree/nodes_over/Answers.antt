use Rattle.std.proofs.Common.{◌≡◌, ◌<◌, ◌-◌, ◌^◌, ◌+◌, ◌*◌, ◌∷◌, [], ◌++◌, ℕ, List, length, take, refl, sym, ap, ◌∙◌, subst, arith}
use Rattle.std.specs.Prelude.{replicate, slice_index_or}
use Rattle.std.proofs.lemmas.List.{get_or_read, length_push, take-append-le, take_at}
use Rattle.bfs_signatures.specs.Hashes.{node_hash}
use Rattle.bfs_signatures.specs.Nodes.{HasNodes}
use Rattle.bfs_signatures.proofs.Places.{width_fits}
use Rattle.bfs_signatures.proofs.Kept.{leaves_first, one_more, padded_long}
use Rattle.bfs_signatures.proofs.tree.nodes_over.Goals as goal

pub overflow_sub-number-end : goal.overflow_sub-number-end
overflow_sub-number-end c =
    let long = padded_long c.args.leaves.now (replicate 32 0) (2 ^ c.args.height) c.requires.room in
    let is = ap length c.in_ok-nodes.ensures in
    omega (arith, long, is, width_fits c.args.height c.requires.height)

pub loop-number-init : goal.loop-number-init
loop-number-init c =
    let leaves = c.args.leaves.now in
    let height = c.args.height in
    let missing = replicate (2 ^ height - length leaves) (replicate 32 0) in
    let is : c.in_ok-nodes.nodes.items ≡ leaves ++ missing = c.in_ok-nodes.ensures in
    let long = padded_long leaves (replicate 32 0) (2 ^ height) c.requires.room in
    record {
      long = ap length is ∙ omega (arith, long);
      leaves = ap (take (length leaves)) is ∙ take_at leaves missing (length leaves) refl;
      made = subst (λ (l : List (List ℕ)). HasNodes leaves height l) (sym is) (leaves_first leaves height c.requires.room);
    }

pub loop-number-preserved : goal.loop-number-preserved
loop-number-preserved c =
    let leaves = c.args.leaves.now in
    let height = c.args.height in
    let l = c.loop-number in
    let nodes = l.nodes.items in
    let x = c.node_hash-node.result in
    let pushed : c.push.new.self.items ≡ nodes ++ x ∷ [] = c.in_ok-push.ensures.items in
    let long = padded_long leaves (replicate 32 0) (2 ^ height) c.requires.room in
    let first = ap length c.in_ok-nodes.ensures in
    let more : l.number + 1 < 2 ^ height = omega (arith, long, first) in
    let over : x ≡ node_hash (slice_index_or nodes (2 * l.number) []) (slice_index_or nodes (2 * l.number + 1) []) =
    c.node_hash-node.ensures
    ∙ ap (λ (k : List ℕ). node_hash k c.index-in-loop-number.result.now) (get_or_read nodes (2 * l.number) c.index.result.now (omega (arith, l.invariant.long, more)) c.index.ensures [])
    ∙ ap (λ (k : List ℕ). node_hash (slice_index_or nodes (2 * l.number) []) k)
    (get_or_read nodes (2 * l.number + 1) c.index-in-loop-number.result.now (omega (arith, l.invariant.long, more)) c.index-in-loop-number.ensures []) in
    record {
      long = ap length pushed ∙ length_push nodes x ∙ omega (arith, l.invariant.long);
      leaves = ap (take (length leaves)) pushed ∙ take-append-le (length leaves) nodes (x ∷ []) (omega (arith, c.requires.room, l.invariant.long)) ∙ l.invariant.leaves;
      made = subst (λ (k : List (List ℕ)). HasNodes leaves height k) (sym pushed) (one_more leaves nodes x height l.number l.invariant.made l.invariant.long more over);
    }
