use Rattle.std.proofs.Common.{◌≡◌, ◌++◌, drop, option_map}
use Rattle.toml.specs.View.{items_view}
use Rattle.bfs_settings.specs.KeysDocument.{pairs_of}
use Rattle.bfs_settings.proofs.keys_document.pairs_in.Given as goal

abbrev pub invariant-loop-value : goal.invariant-loop-value
invariant-loop-value l = pairs_of (items_view l.value-items) ≡ option_map (λ more. l.pairs.items ++ more) (pairs_of (items_view (drop l.value-index l.value-items)))
