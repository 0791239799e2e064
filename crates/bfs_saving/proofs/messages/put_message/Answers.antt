use Rattle.bfs_saving.proofs.Carrying.{text_fits}
use Rattle.bfs_saving.proofs.messages.put_message.Goals as goal

pub returns-clause-fits : goal.returns-clause-fits
returns-clause-fits c = text_fits c.put_long.result c.args.signed.now c.deref.result.now c.in_ok-bytes.bytes.items c.deref.ensures.value c.in_ok-bytes.ensures.again c.put_long.ensures.fits
