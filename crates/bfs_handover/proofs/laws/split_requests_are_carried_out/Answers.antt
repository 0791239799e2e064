-- By the lemma of that name.
use Rattle.bfs_handover.proofs.Carrying.{split_requests_are_carried_out}
use Rattle.bfs_handover.proofs.laws.split_requests_are_carried_out.Goals as goal

pub returns : goal.returns
returns c = split_requests_are_carried_out
