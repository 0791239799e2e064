-- What a procedure of the code answers, beside the model's.
use Rattle.std.specs.Prelude.{◌≡◌, ℕ, not, List, [], ◌∷◌, Result, Ok, Err}
use Rattle.std.specs.Option.{ok_or}
use Rattle.bfs_model.specs.Bytes.Items.{◌>>=◌}
use Rattle.bfs_model.specs.Server.Directories.{is_bad_name, entry_named}
use Rattle.bfs_model.specs.Server.Access.{may_change_entries}
use Rattle.bfs_model.specs.Server.Context.{Context}
use Rattle.bfs_model.specs.Server.Tree.{Inodes}
use Rattle.bfs_model.specs.Bytes.Replies.{Status, perm, noent, acces}
use Rattle.bfs_model.specs.Server.Refusals.{Outcome, FoundDirectory, checked}
use Rattle.bfs_procs.specs.declared.not_done.NotDone.{NotDone}
use Rattle.bfs_procs.specs.declared.not_done.NotDone.TheVariants.{Refused, Memory}
use Rattle.bfs_wire.specs.declared.reply.NfsReply.{NfsReply}
use Rattle.bfs_wire.specs.Replies.{reply_seen, status_seen}

-- it is done as the model does it, or refused as the model refuses it, with nothing changed; if memory ran out, nothing is said
abbrev pub Answers : (before after : Inodes) → Result NfsReply NotDone → Result Outcome Status → Type 0
Answers before after (Ok reply) attempted = attempted ≡ Ok (after, reply_seen reply)
Answers before after (Err (Refused status)) attempted = (attempted ≡ Err (status_seen status)) × (after ≡ before)
Answers before after (Err Memory) attempted = Unit {0}

-- the fileid of what a name that may go leads to, in a directory
abbrev pub name_leads : Context → FoundDirectory → (name : List ℕ) → Result ℕ Status
name_leads context dir name = do
  allowed ← checked ((not (may_change_entries context.caller dir.inode), acces) ∷ (is_bad_name name, perm) ∷ [])
  entry ← ok_or (entry_named name dir.listing.entries) noent
  Ok entry.child
