-- What is left of a file system once it is frozen: its text and its digest.
use Rattle.std.specs.Prelude.{ℕ, List, ◌++◌, map}
use Rattle.std.specs.List.{flat_map}
use Rattle.sha2.specs.Sha256.{sha256}
use Rattle.bfs_model.specs.Bytes.Items.{word}
use Rattle.bfs_model.specs.Server.Tree.{Inode, FileSystem}
use Rattle.bfs_inode.specs.Records.{Frozen, frozen_of}
use Rattle.bfs_digest.specs.Digests.{digest_of}
use Rattle.bfs_digest.specs.Text.{Header, header_text, latest_version, snapshot_text}

pub record FrozenFiles : Type 0 where
  pub text : List ℕ
  pub digest : List ℕ

abbrev pub frozen_files : FileSystem → FrozenFiles
frozen_files files = record { text = snapshot_text files; digest = digest_of files }

-- The same of inodes that are frozen ---------------------------------------------------------------------------------

-- each inode under its fileid
abbrev pub frozen_inodes : List (ℕ × Inode) → List Frozen
frozen_inodes inodes = map (λ inode. frozen_of inode.0 inode.1) inodes

abbrev pub texts_of : List Frozen → List ℕ
texts_of frozen = flat_map (λ inode. inode.text) frozen

abbrev pub digests_of : List Frozen → List ℕ
digests_of frozen = flat_map (λ inode. word inode.id ++ inode.digest) frozen

abbrev pub frozen_with : Header → List Frozen → FrozenFiles
frozen_with header inodes = record {
  text = header_text latest_version header ++ texts_of inodes;
  digest = sha256 (header_text latest_version header ++ digests_of inodes);
}
