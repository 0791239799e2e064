use Rattle.bfs_auth.proofs.SignedTexts.{signed_alone}
use Rattle.bfs_auth.proofs.laws.signed_alone_as_among_many.Goals as goal

pub returns : goal.returns
returns c = signed_alone
