-- What a page of READDIR has yet to list of a directory (RFC 1094 section 2.2.17).
use Rattle.std.specs.Prelude.{ℕ, ◌==◌, Bool, List, length}
use Rattle.bfs_model.specs.Server.Tree as model
use Rattle.bfs_model.specs.Server.Directories.{held_by}
use Rattle.bfs_inode.specs.declared.directories.pages.Listed.{Listed}
use Rattle.bfs_inode.specs.declared.directories.pages.Page.TheInside.{Inside}

pub record Page : Type 0 where
  -- the entries that are yet to be listed
  pub listed : List model.Entry
  -- whether none is left behind the page
  pub all : Bool

-- the page that so many bytes hold of entries
abbrev pub page_left : (room : ℕ) → List model.Entry → Page
page_left room entries = record { listed = held_by room entries; all = length (held_by room entries) == length entries }

abbrev pub seen : Inside → Page
seen page = page_left page.room page.rest

abbrev pub listed_seen : Listed → model.Entry
listed_seen listed = record { cookie = listed.cookie; name = listed.name.now; child = listed.child }
