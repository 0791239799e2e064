-- Each record is put behind those before it.
use Rattle.std.proofs.Common.{◌≡◌, ◌++◌, ap, subst, ◌∙◌}
use Rattle.bfs_inode.specs.Records.{record_text}
use Rattle.bfs_digest.specs.Text.{records_text}
use Rattle.bfs_digest.proofs.Records.{record_of}
use Rattle.bfs_digest.proofs.Fronts.{begins, begins_itself, begins_through}
use Rattle.bfs_digest.proofs.Pieces.{put_more, put_all}
use Rattle.bfs_digest.proofs.writers.put_records.Goals as goal

pub loop-id-init : goal.loop-id-init
loop-id-init c = (begins_itself c.args.out.now.items, ap (λ inodes. c.args.out.now.items ++ records_text inodes) (c.into_iter-id-iterator.ensures.into_iter_gives ∙ c.iter-id-items.ensures))

pub loop-id-preserved : goal.loop-id-preserved
loop-id-preserved c =
    let own : c.put_record.new.out.items ≡ c.loop-id.out.items ++ record_of (c.in-Some.id.now, c.in-Some.inode.now) =
    subst (λ id. c.put_record.new.out.items ≡ c.loop-id.out.items ++ record_text id c.in-Some.inode.now) c.new.ensures c.in_ok-put_record.ensures.ok in
    (begins_through c.args.out.now.items c.loop-id.out.items c.put_record.new.out.items c.loop-id.invariant.0 (begins c.loop-id.out.items _ c.put_record.new.out.items own), put_more record_of c.loop-id.out.items c.put_record.new.out.items _ _ _ (c.in-Some.id.now, c.in-Some.inode.now) c.in-Some.ensures.steps own c.loop-id.invariant.1)

pub returns-clause-ok : goal.returns-clause-ok
returns-clause-ok c = put_all record_of c.loop-id.out.items _ _ c.in-None.ensures.steps.0 c.loop-id.invariant.1
