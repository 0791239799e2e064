-- Each entry goes behind those before it.
use Rattle.std.proofs.Common.{◌∙◌}
use Rattle.bfs_inode.specs.Records.{entry_text}
use Rattle.bfs_digest.proofs.Pieces.{fed_none, fed_more, fed_all}
use Rattle.bfs_digest.proofs.listings.put_entries.Goals as goal

pub loop-entry-init : goal.loop-entry-init
loop-entry-init g c = fed_none g.S.Sink.holds entry_text c.args.out.now c.args.directory.now.entries _ (c.into_iter-entry-iterator.ensures.into_iter_gives ∙ c.iter-entry-items.ensures.value)

pub loop-entry-preserved : goal.loop-entry-preserved
loop-entry-preserved g c = fed_more g.S.Sink.holds entry_text c.args.out.now c.loop-entry.out c.put_entry.new.out _ _ c.args.directory.now.entries c.in-Some.entry.now c.in-Some.ensures.steps c.in_ok-put_entry.ensures.ok c.loop-entry.invariant

pub returns-clause-ok : goal.returns-clause-ok
returns-clause-ok g c = fed_all g.S.Sink.holds entry_text c.args.out.now c.loop-entry.out _ c.args.directory.now.entries c.in-None.ensures.steps.0 c.loop-entry.invariant
