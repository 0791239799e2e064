-- The digest of each inode is fed behind those before it.
use Rattle.std.proofs.Common.{◌++◌, ℕ, ap, subst, ◌∙◌}
use Rattle.std.specs.FinMap.{get, entries}
use Rattle.sha2.specs.Hashers.{Holds256}
use Rattle.bfs_model.specs.Bytes.Items.{word}
use Rattle.bfs_model.specs.Server.Tree.{Inode}
use Rattle.bfs_inode.specs.Records.{record_digest}
use Rattle.bfs_tree.specs.Tree.{at_home}
use Rattle.bfs_digest.specs.Digests.{digest_text}
use Rattle.bfs_digest.proofs.Hashed.{all_of_inode, all_there, first_there}
use Rattle.bfs_digest.proofs.Pieces.{Takes, fed_none, fed_more, fed_all}
use Rattle.bfs_digest.proofs.digests.hash_digests.Goals as goal

pub loop-id-init : goal.loop-id-init
loop-id-init c =
    let is = c.into_iter-id-iterator.ensures.into_iter_gives ∙ c.boxes-id-items.ensures in
    record { fed = fed_none Holds256 digest_text c.args.hasher.now (entries (at_home c.args.tree.now)) _ is; there = all_there (at_home c.args.tree.now) _ is }

pub digest_at-digest-requires : goal.digest_at-digest-requires
digest_at-digest-requires c =
    let inodes = at_home c.args.tree.now in
    let there = first_there inodes _ _ (c.in-Some.id.now, c.in-Some.inode.now) c.in-Some.ensures.steps c.loop-id.invariant.there in
    all_of_inode inodes c.args.made.now _ c.in-Some.inode.now (ap (get inodes) c.new-id.ensures ∙ there.0) c.requires

pub loop-id-preserved : goal.loop-id-preserved
loop-id-preserved c =
    let inodes = at_home c.args.tree.now in
    let entry : ℕ × Inode = (c.in-Some.id.now, c.in-Some.inode.now) in
    let text = ap (λ digest. word c.new-id.result ++ digest) c.digest_at-digest.ensures ∙ ap (λ id. word id ++ record_digest id c.in-Some.inode.now) c.new-id.ensures in
    let own : Takes Holds256 c.loop-id.hasher c.hash_digest.new.hasher (digest_text entry) = subst (λ bytes. Takes Holds256 c.loop-id.hasher c.hash_digest.new.hasher bytes) text c.hash_digest.ensures in
    record {
      fed = fed_more Holds256 digest_text c.args.hasher.now c.loop-id.hasher c.hash_digest.new.hasher _ _ (entries inodes) entry c.in-Some.ensures.steps own c.loop-id.invariant.fed;
      there = (first_there inodes _ _ entry c.in-Some.ensures.steps c.loop-id.invariant.there).1;
    }

pub returns : goal.returns
returns c = fed_all Holds256 digest_text c.args.hasher.now c.loop-id.hasher _ (entries (at_home c.args.tree.now)) c.in-None.ensures.steps.0 c.loop-id.invariant.fed
