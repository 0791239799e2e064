-- The digest of a file system (FIPS 180-4, SHA-256; this file system's profile).
use Rattle.std.specs.Prelude.{ℕ, List, ◌++◌}
use Rattle.std.specs.List.{flat_map}
use Rattle.std.specs.FinMap.{entries}
use Rattle.sha2.specs.Sha256.{sha256}
use Rattle.bfs_model.specs.Bytes.Items.{word}
use Rattle.bfs_model.specs.Server.Tree.{Inode, Inodes, FileSystem}
use Rattle.bfs_inode.specs.Records.{record_digest}
use Rattle.bfs_digest.specs.Text.{Header, header_of, header_text, latest_version}

-- the fileid of an inode, and the digest of its record
abbrev pub digest_text : ℕ × Inode → List ℕ
digest_text inode = word inode.0 ++ record_digest inode.0 inode.1

-- of each inode, by rising fileid
abbrev pub digests_text : List (ℕ × Inode) → List ℕ
digests_text inodes = flat_map digest_text inodes

-- of the header of the latest version, followed by these
abbrev pub digest_with : Header → Inodes → List ℕ
digest_with header inodes = sha256 (header_text latest_version header ++ digests_text (entries inodes))

unfoldable pub digest_of : FileSystem → List ℕ
digest_of files = digest_with (header_of files) files.tree
