use Rattle.std.proofs.Common.{◌≡◌, ◌+◌, ◌/◌, ◌^◌, ◌++◌}
use Rattle.lms.specs.Types.{leaf_count}
use Rattle.lms.specs.Chains.{joined}
use Rattle.lms.specs.Secrets.{beside}
use Rattle.lms.proofs.tree.put_path.Given as goal

abbrev pub invariant-loop-level : goal.invariant-loop-level
invariant-loop-level l = record {
  number : l.number ≡ (leaf_count l.key.lms + l.leaf) / 2 ^ l._level;
  path : l.out.items ≡ l.fn.out.items ++ joined (beside l.key l.leaf) l._level;
}
