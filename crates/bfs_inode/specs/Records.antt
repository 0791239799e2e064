-- The record of an inode that is hashed (this file system's profile), in the items of XDR (RFC 4506 section 4), and its digest
-- (FIPS 180-4, SHA-256). What a text has of an inode is another record, which has the bytes of a file and not their digests.
use Rattle.std.specs.Prelude.{ℕ, List, [], ◌∷◌, ◌++◌, length}
use Rattle.std.specs.List.{flat_map, range_with_len}
use Rattle.sha2.specs.Sha256.{sha256}
use Rattle.bfs_blocks.specs.Bytes.{block_at, block_count}
use Rattle.bfs_model.specs.Bytes.Attributes.{type_of}
use Rattle.bfs_model.specs.Bytes.Items.{word, words, counted}
use Rattle.bfs_model.specs.Bytes.Replies.{type_number}
use Rattle.bfs_model.specs.Server.Tree.{Entry, Listing, Body, file, directory, link, Inode}

-- Blocks of a file ---------------------------------------------------------------------------------------------------

-- the digest of each block, in order
unfoldable pub blocks_text : List ℕ → List ℕ
blocks_text bytes = flat_map (λ n. sha256 (block_at bytes n)) (range_with_len 0 (block_count (length bytes)))

-- Records ------------------------------------------------------------------------------------------------------------

abbrev pub entry_text : Entry → List ℕ
entry_text entry = word entry.cookie ++ counted entry.name ++ word entry.child

abbrev pub entries_text : List Entry → List ℕ
entries_text entries = flat_map entry_text entries

-- a directory's parent, the number of its entries, and these by rising cookie
abbrev pub listing_text : Listing → List ℕ
listing_text listing = word listing.parent ++ word (length listing.entries) ++ entries_text listing.entries

-- the fileid, the type, the attributes that are stored, and the times as timevals (RFC 1094 sections 2.3.2 to 2.3.5)
abbrev pub head_words : (id : ℕ) → Inode → List ℕ
head_words id inode =
    id ∷ type_number (type_of inode.body) ∷ inode.permissions ∷ inode.links ∷ inode.uid ∷ inode.gid
    ∷ inode.atime.seconds ∷ inode.atime.useconds ∷ inode.mtime.seconds ∷ inode.mtime.useconds ∷ inode.ctime.seconds ∷ inode.ctime.useconds ∷ []

-- a file's size and the digests of its blocks; a directory's listing; a symbolic link's path
abbrev pub hashed_body : Body → List ℕ
hashed_body (file bytes) = word (length bytes) ++ blocks_text bytes
hashed_body (directory listing) = listing_text listing
hashed_body (link path) = counted path

-- what is hashed of the inode of that fileid
unfoldable pub hashed_record : (id : ℕ) → Inode → List ℕ
hashed_record id inode = words (head_words id inode) ++ hashed_body inode.body

-- the digest of that record
abbrev pub record_digest : (id : ℕ) → Inode → List ℕ
record_digest id inode = sha256 (hashed_record id inode)

-- Records of a text --------------------------------------------------------------------------------------------------

-- a file's bytes; a directory's listing; a symbolic link's path
abbrev pub body_text : Body → List ℕ
body_text (file bytes) = counted bytes
body_text (directory listing) = listing_text listing
body_text (link path) = counted path

-- what a text has of the inode of that fileid
unfoldable pub record_text : (id : ℕ) → Inode → List ℕ
record_text id inode = words (head_words id inode) ++ body_text inode.body

-- both of the inode of that fileid
pub record Frozen : Type 0 where
  pub id : ℕ
  pub text : List ℕ
  pub digest : List ℕ

abbrev pub frozen_of : (id : ℕ) → Inode → Frozen
frozen_of id inode = record { id = id; text = record_text id inode; digest = record_digest id inode }
