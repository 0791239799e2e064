-- Whether the call is refused or not, the store knows both directories, and the one that something comes to keeps its limits.
use Rattle.std.proofs.Common.{◌≡◌, ◌≤◌, ◌∙◌, subst}
use Rattle.bfs_model.specs.Server.Limits.{most_entries, most_links}
use Rattle.bfs_procs.specs.Borrowed.{found_seen}
use Rattle.bfs_procs.specs.Renaming.{IsWithin}
use Rattle.bfs_procs.proofs.Reached.{renamed_from, renamed_to}
use Rattle.bfs_procs.proofs.renaming.plans.found.Goals as goal

pub found_directory-requires : goal.found_directory-requires
found_directory-requires g c = λ id led.
    renamed_from (g.S.Store.reach c.args.store.now) (g.met.S.Store.knows_owned c.args.store.now) (g.S.Store.inodes c.args.store.now) c.args.context.now c.args.from c.args.from_name.now c.args.to c.args.to_name.now id
    (g.met.S.Store.knows_all c.args.store.now) c.requires led

pub found_directory-requires-2 : goal.found_directory-requires-2
found_directory-requires-2 g c = λ id led.
    renamed_to (g.S.Store.reach c.args.store.now) (g.met.S.Store.knows_owned c.args.store.now) (g.S.Store.inodes c.args.store.now) c.args.context.now c.args.from c.args.from_name.now c.args.to c.args.to_name.now id
    (g.met.S.Store.knows_all c.args.store.now) c.requires led

pub returns-clause-within : goal.returns-clause-within
returns-clause-within g c = λ found is.
    let to = c.in-Ok-found_directory in
    let both = to.ensures.found ∙ is in
    let few = subst (λ n. n ≤ most_entries) c.len.ensures.value c.len.ensures.within in
    let links = subst (λ n. n ≤ most_links) c.links.ensures.value c.links.ensures.within in
    let same : found_seen to.found ≡ found = cc in
    subst IsWithin same (record { few = few; differ = to.ensures.differ; links = links })
