-- The text and the digest of a replica's state: its file system and the last replies (this project's profile; OSDI 1999 section 4.3).
use Rattle.std.specs.Prelude.{◌≡◌, ℕ, List, ◌++◌, length}
use Rattle.sha2.specs.Sha256.{sha256}
use Rattle.bfs_model.specs.Server.Tree.{FileSystem}
use Rattle.bfs_digest.specs.Digests.{digest_of}
use Rattle.bfs_digest.specs.Text.{IsSpellable, latest_version, snapshot_text}
use Rattle.bfs_replies.specs.Tables.{Table, IsKept}
use Rattle.bfs_replies.specs.Texts.{table_text}

-- SHA-256 (FIPS 180-4) of the digest of the file system, followed by the text of the table
unfoldable pub node_digest : FileSystem → Table → List ℕ
node_digest files table = sha256 (digest_of files ++ table_text table)

-- the text of the table, followed by that of the file system
unfoldable pub node_text : FileSystem → Table → List ℕ
node_text files table = table_text table ++ snapshot_text files

-- the bytes are the text of a file system, well formed or not, and of a table of so many clients
pub record SpellsNode (clients : ℕ) (bytes : List ℕ) (files : FileSystem) (table : Table) : Type 0 where
  pub clients_are : length table ≡ clients
  pub kept : IsKept table
  pub spellable : IsSpellable latest_version files
  pub spelled : bytes ≡ node_text files table
