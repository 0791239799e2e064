use Rattle.std.proofs.Common.{refl}
use Rattle.bfs_digest.proofs.Fronts.{still_refused}
use Rattle.bfs_digest.proofs.snapshots.put_parts.Goals as goal

pub returns-clause-err : goal.returns-clause-err
returns-clause-err c =
    let front = c.args.out.now.items in
    still_refused c.put_records.result front _ c.put_header.new.out.items c.put_records.new.out.items (c.in_ok-put_header.ensures.ok front refl) c.put_records.ensures.err
