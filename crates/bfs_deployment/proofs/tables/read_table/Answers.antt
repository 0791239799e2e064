use Rattle.std.proofs.Common.{rules}
use Rattle.bfs_deployment.proofs.Documents.{spelled_in, spelled_nowhere, spelled_otherwise}
use Rattle.bfs_deployment.proofs.tables.read_table.Goals as goal

pub returns-in_default : goal.returns-in_default
returns-in_default c = spelled_nowhere _ c.in_default.ensures.cases.0

pub returns-in-Ok-table_from_str : goal.returns-in-Ok-table_from_str
returns-in-Ok-table_from_str c = spelled_in _ _ c.in-Ok.ensures.cases.1 (rw (← c.in-Ok.ensures.cases.0) c.in-Ok-table_from_str.ensures.ok)

pub returns-in-Err-2 : goal.returns-in-Err-2
returns-in-Err-2 c = spelled_otherwise c.args.document.now c.in-Ok.ensures.cases.1 (rw (← c.in-Ok.ensures.cases.0) (c.in-Err-2.ensures.refused (search rules)))
