use Rattle.bfs_passing.proofs.Heard.{signers_are_heard}
use Rattle.bfs_passing.proofs.laws.signers_are_heard.Goals as goal

pub returns : goal.returns
returns c = signers_are_heard c.signed_passes_alike.ensures c.what_is_below.ensures c.what_is_resent_was_sent.ensures.fair c.slots_differ.ensures.kept c.the_stable_checkpoint_has_its_certificate.ensures.kept
