-- The table of procedures (RFC 1094 section 2.2), each defined on every finite map of inodes.
pub mod Attributes
pub mod Names
pub mod Data
pub mod Making
pub mod Removing
pub mod Renaming
pub mod Status
use Rattle.std.specs.Prelude.{Result, Ok, Err}
use Rattle.bfs_model.specs.Server.Tree.{Inodes}
use Rattle.bfs_model.specs.Server.Context.{Context}
use Rattle.bfs_model.specs.Bytes.Arguments.{Call, null, get_attributes, set_attributes, root, look_up, read_link, read, write_cache, write, create, remove, rename, make_link, make_symbolic_link, make_directory, remove_directory, read_directory, file_system_status}
use Rattle.bfs_model.specs.Bytes.Replies as replies
use Rattle.bfs_model.specs.Bytes.Replies.{void, refused}
use Rattle.bfs_model.specs.Server.Refusals.{Outcome}
use Rattle.bfs_model.specs.Server.Procedures.Attributes.{attributes_got, attributes_set}
use Rattle.bfs_model.specs.Server.Procedures.Names.{looked_up, directory_read}
use Rattle.bfs_model.specs.Server.Procedures.Data.{file_read, link_read, file_written}
use Rattle.bfs_model.specs.Server.Procedures.Making.{file_created, directory_made, symbolic_link_made, link_made}
use Rattle.bfs_model.specs.Server.Procedures.Removing.{file_removed, directory_removed}
use Rattle.bfs_model.specs.Server.Procedures.Renaming.{entry_renamed}
use Rattle.bfs_model.specs.Server.Procedures.Status.{status_got}

-- what a call does to the inodes, and its reply, or why it is refused
abbrev pub attempted : Inodes → Context → Call → Result Outcome replies.Status
attempted inodes context null = Ok (inodes, void)
attempted inodes context (get_attributes file) = attributes_got inodes context file
attempted inodes context (set_attributes file settings) = attributes_set inodes context file settings
attempted inodes context root = Ok (inodes, void)
attempted inodes context (look_up dir name) = looked_up inodes context dir name
attempted inodes context (read_link file) = link_read inodes context file
attempted inodes context (read file offset count) = file_read inodes context file offset count
attempted inodes context write_cache = Ok (inodes, void)
attempted inodes context (write file offset bytes) = file_written inodes context file offset bytes
attempted inodes context (create dir name settings) = file_created inodes context dir name settings
attempted inodes context (remove dir name) = file_removed inodes context dir name
attempted inodes context (rename from from_name to to_name) = entry_renamed inodes context from from_name to to_name
attempted inodes context (make_link file dir name) = link_made inodes context file dir name
attempted inodes context (make_symbolic_link dir name target settings) = symbolic_link_made inodes context dir name target settings
attempted inodes context (make_directory dir name settings) = directory_made inodes context dir name settings
attempted inodes context (remove_directory dir name) = directory_removed inodes context dir name
attempted inodes context (read_directory dir cookie count) = directory_read inodes context dir cookie count
attempted inodes context (file_system_status file) = status_got inodes context file

-- a refused call leaves the inodes as they were
abbrev pub or_refused : Inodes → Result Outcome replies.Status → Outcome
or_refused inodes (Ok outcome) = outcome
or_refused inodes (Err status) = (inodes, refused status)

-- the inodes after a call, and its reply
abbrev pub procedure : Inodes → Context → Call → Outcome
procedure inodes context call = or_refused inodes (attempted inodes context call)
