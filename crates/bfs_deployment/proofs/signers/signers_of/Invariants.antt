use Rattle.std.proofs.Common.{◌≡◌, ◌++◌, drop, Ok}
use Rattle.toml.specs.View.{items_view}
use Rattle.bfs_model.specs.Bytes.Items.{◌>>=◌}
use Rattle.bfs_deployment.specs.Signers.{signers_of}
use Rattle.bfs_deployment.proofs.signers.signers_of.Given as goal

abbrev pub invariant-loop-value : goal.invariant-loop-value
invariant-loop-value l =
    let left = drop l.value-index l.values in
    signers_of l.key (items_view l.values) ≡ (signers_of l.key (items_view left) >>= (λ more. Ok (l.signers.items ++ more)))
