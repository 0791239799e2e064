use Rattle.std.proofs.Common.{◌≡◌, map, take}
use Rattle.bfs_auth.specs.Hmac.{hmac_sha256}
use Rattle.bfs_auth.proofs.signing.hash_text.Given as goal

abbrev pub invariant-loop-shared : goal.invariant-loop-shared
invariant-loop-shared g l = l.hashes ≡ map (λ shared. hmac_sha256 shared.sending (g.T.Text.text l.text)) (take l.shared-index l.keys.replicas)
