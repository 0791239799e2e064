use Rattle.std.proofs.Common.{◌≡◌, ◌≤◌, ◌*◌, take}
use Rattle.std.specs.Prelude.{sum_by}
use Rattle.lms.specs.Types.{height}
use Rattle.bfs_auth.proofs.replica_signer.height_below.Given as goal

abbrev pub invariant-loop-types : goal.invariant-loop-types
invariant-loop-types l = record {
  height : l.height ≡ sum_by (λ types. height types.lms) (take l.types-index l.below);
  few : l.height ≤ 25 * l.types-index;
}
