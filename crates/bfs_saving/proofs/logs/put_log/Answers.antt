use Rattle.bfs_saving.proofs.Apart.{log_fits}
use Rattle.bfs_saving.proofs.logs.put_log.Goals as goal

pub returns-clause-fits : goal.returns-clause-fits
returns-clause-fits c = log_fits c.put_many.result c.args.log.now c.messages.result.now c.messages.ensures c.messages_differ.ensures.differ c.messages_differ.ensures.senders c.put_many.ensures.fits
