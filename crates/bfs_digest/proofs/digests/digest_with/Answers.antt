-- What was hashed is the header and the digests of all inodes.
use Rattle.std.proofs.Common.{[]}
use Rattle.bfs_digest.proofs.digests.digest_with.Goals as goal

pub returns : goal.returns
returns c = c.finalize.ensures _ (c.hash_digests.ensures _ (c.hash_header.ensures [] c.new-hasher.ensures))
