use Rattle.std.proofs.Common.{refl}
use Rattle.bfs_digest.proofs.Fronts.{still_refused}
use Rattle.bfs_digest.proofs.freezing.FrozenFiles.put_text.Goals as goal

pub returns-clause-err : goal.returns-clause-err
returns-clause-err c =
    let front = c.args.out.now.items in
    still_refused c.put_inodes.result front _ c.put_header.new.out.items c.put_inodes.new.out.items (c.in_ok-put_header.ensures.ok front refl) c.put_inodes.ensures.err
