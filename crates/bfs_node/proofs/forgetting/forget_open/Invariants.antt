use Rattle.std.proofs.Common.{◌≡◌, take}
use Rattle.std.specs.List.{flat_map}
use Rattle.bfs_auth.specs.Keys.{Keys}
use Rattle.bfs_node.specs.Forgetting.{open_in}
use Rattle.bfs_pending.specs.Passed.{HavePassed}
use Rattle.bfs_pending.specs.Requests.{without_named}
use Rattle.bfs_node.proofs.forgetting.forget_open.Given as goal

-- those wait no longer that the messages so far propose
abbrev pub invariant-loop-signed : goal.invariant-loop-signed
invariant-loop-signed l =
    (l.pending ≡ without_named l.fn.pending (flat_map (open_in l.order) (take l.signed-index l.log)))
    × ((keys : Keys) → HavePassed keys l.fn.pending → HavePassed keys l.pending)
