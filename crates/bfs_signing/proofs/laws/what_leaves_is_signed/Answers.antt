use Rattle.bfs_signing.proofs.Leaving.{leaves_signed}
use Rattle.bfs_signing.proofs.laws.what_leaves_is_signed.Goals as goal

pub returns : goal.returns
returns c = leaves_signed c.what_is_told_has_its_origin.ensures c.what_is_signed_verifies.ensures
