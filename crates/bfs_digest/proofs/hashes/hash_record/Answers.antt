-- The words in front, and then what the inode holds.
use Rattle.std.proofs.Common.{◌++◌, [], ap, ◌∙◌}
use Rattle.sha2.specs.Sha256.{sha256}
use Rattle.bfs_model.specs.Bytes.Items.{words}
use Rattle.bfs_model.specs.Server.Tree.{Body}
use Rattle.bfs_inode.specs.Inodes.{body_seen}
use Rattle.bfs_inode.specs.Records.{head_words, hashed_body, hashed_record}
use Rattle.bfs_digest.proofs.hashes.hash_record.Goals as goal

pub returns : goal.returns
unfolding hashed_record
returns c =
    let held = hashed_body (body_seen c.body.result.now) in
    c.finalize.ensures _ (c.hash_body.ensures _ (c.hash_words.ensures [] c.new-hasher.ensures))
    ∙ ap (λ front. sha256 (words front ++ held)) c.head_words.ensures
    ∙ ap (λ (body : Body). sha256 (words (head_words c.args.id c.args.inode.now) ++ hashed_body body)) c.body.ensures
