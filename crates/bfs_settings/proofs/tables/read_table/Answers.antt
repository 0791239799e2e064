use Rattle.std.proofs.Common.{rules}
use Rattle.bfs_settings.proofs.Documents.{spelled_in, spelled_nowhere}
use Rattle.bfs_settings.proofs.tables.read_table.Goals as goal

pub returns-in-Ok : goal.returns-in-Ok
returns-in-Ok c = spelled_in _ _ c.in-Ok.ensures.ok.0 c.in-Ok.ensures.ok.1

pub returns-in-Err-2 : goal.returns-in-Err-2
returns-in-Err-2 c = spelled_nowhere c.args.document.now (c.in-Err-2.ensures.refused (search rules))
