-- A chunk that is whole is shared, and so is the last one.
use Rattle.std.proofs.Common.{◌≡◌, [], ◌∷◌, ◌++◌, map, ap, ◌∙◌}
use Rattle.std.proofs.lemmas.List.{map-append}
use Rattle.std.specs.Arc.{arc_value}
use Rattle.std.specs.FinMap.{entries}
use Rattle.sha2.specs.Hashers.{Holds256}
use Rattle.bfs_inode.specs.Records.{frozen_of}
use Rattle.bfs_tree.specs.Tree.{at_home}
use Rattle.bfs_digest.specs.Frozen.{frozen_inodes}
use Rattle.bfs_digest.specs.Inside.Sharing.{all_frozen, shared_frozen}
use Rattle.bfs_digest.proofs.Chunks.{one_waits, more_shared}
use Rattle.bfs_digest.proofs.sharing.freeze_inodes.Goals as goal

pub loop-id-preserved-in-Continue-branch-6 : goal.loop-id-preserved-in-Continue-branch-6
loop-id-preserved-in-Continue-branch-6 c =
    let all = frozen_inodes (entries (at_home c.args.tree.now)) in
    let waiting = c.loop-id.chunk.items in
    let own : shared_frozen c.in_ok-shared.shared ≡ frozen_of c.in-Some.id.now c.in-Some.inode.now = c.in_ok-shared.ensures ∙ ap (λ id. frozen_of id c.in-Some.inode.now) c.new.ensures in
    let put = ap all_frozen c.in_ok-push.ensures.items ∙ map-append shared_frozen waiting (c.in_ok-shared.shared ∷ []) ∙ ap (λ x. all_frozen waiting ++ (x ∷ [])) own in
    more_shared Holds256 c.args.hasher.now c.loop-id.hasher c.share.new.hasher (map arc_value c.loop-id.inodes.items) (all_frozen c.push.new.self.items) _ _ (frozen_inodes c.next.new.self) all c.in_ok-share.ensures.shared (ap all_frozen c.in_ok-share.ensures.taken) c.in_ok-share.ensures.hashed
    (one_waits Holds256 c.args.hasher.now c.loop-id.hasher (map arc_value c.loop-id.inodes.items) (all_frozen waiting) _ (frozen_inodes c.loop-id.id-iterator) (frozen_inodes c.next.new.self) all (frozen_of c.in-Some.id.now c.in-Some.inode.now) (ap frozen_inodes c.in-Some.ensures.steps) put c.loop-id.invariant)

pub returns-clause-hashed : goal.returns-clause-hashed
returns-clause-hashed c =
    (more_shared Holds256 c.args.hasher.now c.loop-id.hasher c.share-2.new.hasher (map arc_value c.loop-id.inodes.items) (all_frozen c.loop-id.chunk.items) _ _ (frozen_inodes c.loop-id.id-iterator) _ c.in_ok-share-2.ensures.shared (ap all_frozen c.in_ok-share-2.ensures.taken) c.in_ok-share-2.ensures.hashed c.loop-id.invariant).hashed
