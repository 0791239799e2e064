-- What borrows from a store, as the model has it: what READ and READDIR give, before it is spelled, and the directory that a handle leads to.
use Rattle.std.specs.Prelude.{Result, Ok, Err}
use Rattle.bfs_model.specs.Bytes.Replies as model
use Rattle.bfs_model.specs.Server.FileBytes.{bytes_from}
use Rattle.bfs_model.specs.Server.Refusals as refusals
use Rattle.bfs_inode.specs.Pages.{Page}
use Rattle.bfs_procs.specs.declared.data.Contents.{Contents}
use Rattle.bfs_procs.specs.declared.found.FoundDirectory.{FoundDirectory}
use Rattle.bfs_wire.specs.declared.status.Status.{Status}
use Rattle.bfs_wire.specs.Replies.{status_seen}

abbrev pub found_seen : FoundDirectory → refusals.FoundDirectory
found_seen found = record { id = found.id; inode = found.inode.now; listing = found.directory.now }

abbrev pub contents_seen : Contents → model.Reply
contents_seen contents = model.contents contents.attributes (bytes_from contents.offset contents.count contents.file.now)

abbrev pub page_seen : Page → model.Reply
page_seen page = model.listed page.listed page.all

-- what was found, or the status of a refusal
abbrev pub found_or_refused : {Found : Type 0} → (seen : Found → model.Reply) → Result Found Status → model.Reply
found_or_refused seen (Ok found) = seen found
found_or_refused seen (Err status) = model.refused (status_seen status)
