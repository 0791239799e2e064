use Rattle.bfs_auth.proofs.SignedTexts.{signed_passes, signed_where_not_spent}
use Rattle.bfs_auth.proofs.laws.what_a_key_signs_passes.Goals as goal

pub returns : goal.returns
returns c = record { passes = signed_passes; signed = signed_where_not_spent }
