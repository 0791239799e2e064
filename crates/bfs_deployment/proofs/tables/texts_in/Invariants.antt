use Rattle.std.proofs.Common.{◌≡◌, ◌++◌, drop, Ok}
use Rattle.toml.specs.View.{items_view}
use Rattle.bfs_model.specs.Bytes.Items.{◌>>=◌}
use Rattle.bfs_deployment.specs.Tables.{texts_in}
use Rattle.bfs_deployment.proofs.tables.texts_in.Given as goal

abbrev pub invariant-loop-value : goal.invariant-loop-value
invariant-loop-value l =
    let left = drop l.value-index l.values in
    texts_in l.key (items_view l.values) ≡ (texts_in l.key (items_view left) >>= (λ more. Ok (l.texts.items ++ more)))
