-- The entry that comes before takes no link away.
use Rattle.std.proofs.Common.{◌≡◌, ◌<◌, Some, arith}
use Rattle.std.specs.FinMap.{get}
use Rattle.std.proofs.lemmas.Grind.{common_steps}
use Rattle.bfs_model.specs.Server.Limits.{most_links}
use Rattle.bfs_procs.proofs.Links.{few_links}
use Rattle.bfs_procs.proofs.making.link.Goals as goal

pub add_link-requires-clause-few : goal.add_link-requires-clause-few
add_link-requires-clause-few g c =
    let there : get (g.S.Store.inodes c.args.store.now) c.in_ok-id.id ≡ Some c.in_ok-linked.linked.now = grind (arith, common_steps) in
    let few : c.in_ok-linked.linked.now.links < most_links = rw (← c.links.ensures.value) c.in_ok-takes_link.ensures.few in
    rw c.in_ok-add_entry.ensures.done (few_links _ c.args.context.now c.args.name.now c.in_ok-id.id c.in-Ok.found.id _ _ there few)
