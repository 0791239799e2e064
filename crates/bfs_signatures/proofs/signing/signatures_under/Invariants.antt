use Rattle.std.proofs.Common.{◌≡◌}
use Rattle.std.specs.Prelude.{map}
use Rattle.std.specs.List.{range_with_len}
use Rattle.bfs_signatures.specs.Signing.{signature_under}
use Rattle.bfs_signatures.proofs.signing.signatures_under.Given as goal

abbrev pub invariant-loop-leaf : goal.invariant-loop-leaf
invariant-loop-leaf l = map (λ bytes. bytes.items) l.signatures.items ≡ map (signature_under l.root_signature l.tree) (range_with_len 0 l.leaf)
