-- The digests of blocks and of records, as they are made apart from one another.
use Rattle.std.specs.Prelude.{◌≡◌, ℕ, List, [], Option, Some, None}
use Rattle.std.specs.FinMap.{get}
use Rattle.sha2.specs.Sha256.{sha256}
use Rattle.bfs_model.specs.Server.Tree.{Inode, Inodes}
use Rattle.bfs_blocks.specs.Bytes.{block_at}
use Rattle.bfs_inode.specs.Inodes.{bytes_in}
use Rattle.bfs_inode.specs.Records.{record_digest}
use Rattle.bfs_inode.specs.declared.inodes.kept.RecordDigest.{RecordDigest}
use Rattle.bfs_digest.specs.declared.blocks.Block.{Block}
use Rattle.bfs_digest.specs.declared.blocks.BlockDigest.{BlockDigest}

-- Blocks -------------------------------------------------------------------------------------------------------------

-- of the inode that is there
abbrev pub bytes_of : Option Inode → List ℕ
bytes_of None = []
bytes_of (Some inode) = bytes_in inode.body

abbrev pub hashed_block : Inodes → Block → BlockDigest
hashed_block inodes block = record { block = block; digest = sha256 (block_at (bytes_of (get inodes block.id)) block.number) }

-- the digest of the block of the file of its fileid
abbrev pub IsBlockHashed : Inodes → BlockDigest → Type 0
IsBlockHashed inodes hashed = hashed ≡ hashed_block inodes hashed.block

-- the same, if it is of the file of that fileid, of which these are the bytes
abbrev pub IsBlockOf : (id : ℕ) (bytes : List ℕ) → BlockDigest → Type 0
IsBlockOf id bytes hashed = hashed.block.id ≡ id → hashed.digest ≡ sha256 (block_at bytes hashed.block.number)

-- Records ------------------------------------------------------------------------------------------------------------

abbrev pub digest_in : (id : ℕ) → Option Inode → List ℕ
digest_in id None = sha256 []
digest_in id (Some inode) = record_digest id inode

abbrev pub hashed_at : Inodes → (id : ℕ) → RecordDigest
hashed_at inodes id = record { id = id; digest = digest_in id (get inodes id) }

-- the digest of the record of the inode of its fileid, if there is one
abbrev pub IsHashed : Inodes → RecordDigest → Type 0
IsHashed inodes hashed = hashed ≡ hashed_at inodes hashed.id

-- the same, if it is of that inode
abbrev pub IsRecordOf : (id : ℕ) → Inode → RecordDigest → Type 0
IsRecordOf id inode hashed = hashed.id ≡ id → hashed.digest ≡ record_digest id inode
