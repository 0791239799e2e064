use Rattle.std.proofs.Common.{◌≡◌, length, take}
use Rattle.bfs_auth.specs.Hmac.{masked}
use Rattle.bfs_auth.proofs.keyed_hash.mask.Given as goal

abbrev pub invariant-loop-i : goal.invariant-loop-i
invariant-loop-i l = (length l.out ≡ 64) × (take l.i l.out ≡ masked l.mask (take l.i l.block))
