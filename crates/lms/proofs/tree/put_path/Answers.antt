use Rattle.std.proofs.Common.{◌≡◌, ◌+◌, ◌-◌, ◌/◌, ◌^◌, ℕ, List, [], ◌++◌, sym, ap, ◌∙◌, arith}
use Rattle.std.proofs.lemmas.List.{append-nil}
use Rattle.std.proofs.lemmas.Nat.{shr_le}
use Rattle.lms.specs.Types.{leaf_count}
use Rattle.lms.specs.Chains.{joined}
use Rattle.lms.specs.Nodes.{node_count}
use Rattle.std.specs.Prelude.{slice_index_or}
use Rattle.lms.specs.Secrets.{beside, sibling}
use Rattle.lms.proofs.Kept.{at_most, leaves_fit, not_below}
use Rattle.lms.proofs.Paths.{beside_at}
use Rattle.lms.proofs.Steps.{halved, joined_more, joined_none}
use Rattle.lms.proofs.tree.put_path.Goals as goal

pub loop-level-init : goal.loop-level-init
loop-level-init c = record {
  number = omega arith;
  path = sym (append-nil c.args.out.now.items) ∙ ap (λ (l : List ℕ). c.args.out.now.items ++ l) (sym (joined_none (beside c.args.key.now c.args.leaf)));
}

pub sibling-requires : goal.sibling-requires
sibling-requires c =
    let lms = c.args.key.now.lms in
    let level = c.loop-level._level in
    omega (arith, c.loop-level.invariant.number, shr_le (leaf_count lms + c.args.leaf) level, leaves_fit lms, c.requires.leaf)

pub node_at-requires : goal.node_at-requires
node_at-requires c =
    let lms = c.args.key.now.lms in
    let level = c.loop-level._level in
    let there = c.sibling.ensures ∙ ap sibling c.loop-level.invariant.number in
    let at = beside_at lms level c.args.leaf (omega arith) c.requires.leaf in
    let number = sibling ((leaf_count lms + c.args.leaf) / 2 ^ level) in
    let most = at_most (leaf_count lms) level number at in
    let least = not_below (leaf_count lms) level number (leaves_fit lms).0 at in
    record {
      within = omega (arith, there, most);
      made = omega (arith, there, most, least, c.requires.whole);
    }

pub loop-level-preserved : goal.loop-level-preserved
loop-level-preserved c =
    let key = c.args.key.now in
    let lms = key.lms in
    let leaf = c.args.leaf in
    let level = c.loop-level._level in
    let f : ℕ → List ℕ = beside key leaf in
    let there = c.sibling.ensures ∙ ap sibling c.loop-level.invariant.number in
    let at = beside_at lms level leaf (omega arith) c.requires.leaf in
    let number = sibling ((leaf_count lms + leaf) / 2 ^ level) in
    let most = at_most (leaf_count lms) level number at in
    let least = not_below (leaf_count lms) level number (leaves_fit lms).0 at in
    let held : c.node_at.result.now ≡ f level =
    c.node_at.ensures ∙ ap (λ k. slice_index_or c.args.nodes.now (node_count key - k) []) there ∙ c.requires.made level number at (omega (arith, most, least, c.requires.whole)) in
    record {
      number = ap (λ k. k / 2) c.loop-level.invariant.number ∙ halved (leaf_count lms + leaf) level;
      path = c.in_ok-extend_from_slice.ensures.items ∙ ap (λ (l : List ℕ). l ++ c.node_at.result.now) c.loop-level.invariant.path
          ∙ ap (λ (l : List ℕ). (c.args.out.now.items ++ joined f level) ++ l) held ∙ joined_more c.args.out.now.items f level;
    }
