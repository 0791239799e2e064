use Rattle.std.proofs.Common.{◌≡◌, ◌++◌, drop, option_map}
use Rattle.toml.specs.View.{items_view}
use Rattle.bfs_settings.specs.SigningDocument.{levels_of}
use Rattle.bfs_settings.proofs.signing_key.levels_in.Given as goal

abbrev pub invariant-loop-value : goal.invariant-loop-value
invariant-loop-value l = levels_of (items_view l.value-items) ≡ option_map (λ more. l.levels.items ++ more) (levels_of (items_view (drop l.value-index l.value-items)))
