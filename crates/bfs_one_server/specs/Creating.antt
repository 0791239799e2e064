-- What a CREATE makes.
use Rattle.std.specs.Prelude.{◌≡◌, ℕ, List, [], ◌∷◌, ◌++◌, Some, None}
use Rattle.std.specs.FinMap.{get}
use Rattle.bfs_model.specs.Bytes.Arguments.{Settings, create}
use Rattle.bfs_model.specs.Bytes.Attributes.{attributes_of, regular, type_of}
use Rattle.bfs_model.specs.Bytes.Call as rpc
use Rattle.bfs_model.specs.Bytes.Replies.{found, results, success}
use Rattle.bfs_model.specs.Server.Footprints.{child_at}
use Rattle.bfs_model.specs.Server.Tree.{FileSystem, Inode, Inodes}
use Rattle.bfs_model.specs.Server.WellFormed.{IsWellFormed}
use Rattle.bfs_one_server.specs.Serving.{Effect, Serves}
use Rattle.bfs_one_server.specs.Reading.{IsDone, Spells, inodes_by}

-- one file, of a fileid that was none's, which has that name in a directory, and whose handle and attributes the reply has (RFC 1094
-- sections 2.2.10 and 2.3.12)
pub record IsMade (before after : Inodes) (e : Effect) (xid dir : ℕ) (name : List ℕ) : Type 0 where
  pub id : ℕ
  pub file : Inode
  pub was_none : get before id ≡ None
  pub is_there : get after id ≡ Some file
  pub is_regular : type_of file.body ≡ regular
  pub is_one : (other : ℕ) (inode : Inode) → get before other ≡ None → get after other ≡ Some inode → other ≡ id
  pub is_named : child_at after (Some dir) name ≡ Some id
  pub is_told : e.reply ≡ success xid (results (found id (attributes_of id file)))

-- a CREATE that is done makes such a file
abbrev pub CreatesMakeFiles : Type 0
CreatesMakeFiles = (files : FileSystem) (front : List Effect) (creating : Effect) (back : List Effect) (one : rpc.Request) (dir : ℕ) (name : List ℕ) (settings : Settings)
    → IsWellFormed files → Serves files.tree files.next_ordinal (front ++ creating ∷ back)
    → Spells creating one (create (Some dir) name settings) → IsDone creating
    → let before = inodes_by files.tree files.next_ordinal front in
    let after = inodes_by files.tree files.next_ordinal (front ++ creating ∷ []) in
    IsMade before after creating one.xid dir name
