use Rattle.std.proofs.Common.{rules}
use Rattle.bfs_filter.proofs.Written.{front_behind, written_kept, written_more}
use Rattle.bfs_filter.proofs.output.write_bytes.Goals.{in-Ok, in-Err+else-ne}
use Rattle.bfs_filter.proofs.output.write_bytes.Goals as goal

pub loop-preserved : goal.loop-preserved
loop-preserved g c = elim c.match-write.branch [
  | in-Ok w ↦ rw w.at-is (record {
    within = search rules;
    written = written_more _ _ _ c.loop.at w.in-Ok.count c.args.bytes.now c.loop.invariant.written w.in-Ok.ensures.bytes;
  })
  | in-Err+else-ne w ↦ rw w.at-is (record {
    within = search rules;
    written = written_kept _ _ _ _ c.loop.invariant.written w.in-Err.ensures.bytes;
  })
]

pub returns-in-Ok-eq0-clause-front : goal.returns-in-Ok-eq0-clause-front
returns-in-Ok-eq0-clause-front g c =
    front_behind _ _ _ c.loop.at c.in-Ok-eq0.field-0 c.args.bytes.now c.loop.invariant.written c.in-Ok-eq0.ensures.bytes
