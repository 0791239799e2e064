use Rattle.std.proofs.Common.{length}
use Rattle.bfs_log.proofs.senders.+do_senders_differ.Given as goal

abbrev pub decreases-do_senders_differ : goal.decreases-do_senders_differ
decreases-do_senders_differ g l = length l.messages.now
