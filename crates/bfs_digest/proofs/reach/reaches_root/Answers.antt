-- The walk goes on from what is not reached, and ends at what is.
use Rattle.std.proofs.Common.{◌≡◌, ℕ, ◌-◌, true, false, sym, ap, ◌∙◌, arith, ne_eqb}
use Rattle.std.specs.BTreeSet.{contains}
use Rattle.std.specs.FinMap.{len}
use Rattle.std.specs.Ordering.{nat_cmp}
use Rattle.bfs_model.specs.Server.Tree.{root_id}
use Rattle.bfs_model.specs.Server.Procedures.Renaming.{is_within}
use Rattle.bfs_tree.specs.Tree.{at_home}
use Rattle.bfs_tree.proofs.Public.{one_up}
use Rattle.bfs_digest.proofs.Reached.{found, ended, further, walked, apart_from_root}
use Rattle.bfs_digest.proofs.reach.reaches_root.Goals as goal

pub returns-then-contains : goal.returns-then-contains
returns-then-contains c =
    let is : contains nat_cmp c.args.reached.now c.loop-step.at ≡ true = ap (contains nat_cmp c.args.reached.now) (sym c.number.ensures) ∙ sym c.contains.ensures ∙ c.if-contains.true in
    found (at_home c.args.tree.now) (contains nat_cmp c.args.reached.now) c.args.id c.loop-step.at c.requires.reached is c.loop-step.invariant.way

pub returns-in-None : goal.returns-in-None
returns-in-None c =
    let out : contains nat_cmp c.args.reached.now c.loop-step.at ≡ false = ap (contains nat_cmp c.args.reached.now) (sym c.number.ensures) ∙ sym c.contains.ensures ∙ c.if-contains.false in
    ended (at_home c.args.tree.now) (contains nat_cmp c.args.reached.now) c.args.id c.loop-step.at c.requires.reached out (sym c.parent_of.ensures ∙ c.in-None.is) c.loop-step.invariant.way

pub loop-step-preserved : goal.loop-step-preserved
loop-step-preserved c =
    let m = at_home c.args.tree.now in
    let has = contains nat_cmp c.args.reached.now in
    let out : contains nat_cmp c.args.reached.now c.loop-step.at ≡ false = ap (contains nat_cmp c.args.reached.now) (sym c.number.ensures) ∙ sym c.contains.ensures ∙ c.if-contains.false in
    let up = sym c.parent_of.ensures ∙ c.in-Some.is in
    record {
      end = c.loop-step.invariant.end;
      way = further m has c.args.id c.loop-step.at _ c.requires.reached out up c.loop-step.invariant.way;
      left = sym (one_up m _ _ _ _ _ (omega arith) (ne_eqb c.loop-step.at root_id (apart_from_root m has c.loop-step.at c.requires.reached out)) up) ∙ c.loop-step.invariant.left;
    }

pub returns : goal.returns
returns c =
    let is : contains nat_cmp c.args.reached.now c.loop-step.at ≡ c.contains-2.result = ap (contains nat_cmp c.args.reached.now) (sym c.number-2.ensures) ∙ sym c.contains-2.ensures in
    walked (at_home c.args.tree.now) (contains nat_cmp c.args.reached.now) c.args.id c.loop-step.at _ c.contains-2.result (omega arith) c.requires.reached is c.loop-step.invariant.way c.loop-step.invariant.left

pub loop-step-init : goal.loop-step-init
loop-step-init c =
    let count = c.count-step-end.ensures c.requires.whole in
    let all : c.count-step-end.result - 0 ≡ len (at_home c.args.tree.now) = omega (arith, count) in
    record {
      end = count;
      way = (λ way. way, λ way. way);
      left = ap (λ (n : ℕ). is_within (at_home c.args.tree.now) n c.args.id root_id) all;
    }
