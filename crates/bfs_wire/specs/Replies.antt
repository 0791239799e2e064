-- The statuses and replies of the code as those of the model.
use Rattle.std.specs.Prelude.{ℕ, List, [], ◌∷◌, ◌++◌}
use Rattle.bfs_model.specs.Bytes.Attributes as attributes
use Rattle.bfs_model.specs.Bytes.Items.{word, words}
use Rattle.bfs_model.specs.Bytes.Replies as model
use Rattle.bfs_wire.specs.declared.status.Status.{Status}
use Rattle.bfs_wire.specs.declared.status.Status.TheVariants.{Perm, NoEnt, Acces, Exist, NotDir, IsDir, FBig, NoSpc, NotEmpty, Stale}
use Rattle.bfs_wire.specs.declared.reply.NfsReply.{NfsReply}
use Rattle.bfs_wire.specs.declared.reply.NfsReply.TheVariants.{Void, Refused, Done, Attributes, Found, Contents, Path, Listed, FreeBlocks}

abbrev pub status_seen : Status → model.Status
status_seen Perm = model.perm
status_seen NoEnt = model.noent
status_seen Acces = model.acces
status_seen Exist = model.exist
status_seen NotDir = model.notdir
status_seen IsDir = model.isdir
status_seen FBig = model.fbig
status_seen NoSpc = model.nospc
status_seen NotEmpty = model.notempty
status_seen Stale = model.stale

abbrev pub reply_seen : NfsReply → model.Reply
reply_seen Void = model.void
reply_seen (Refused status) = model.refused (status_seen status)
reply_seen Done = model.done
reply_seen (Attributes attributes) = model.attributes attributes
reply_seen (Found file attributes) = model.found file attributes
reply_seen (Contents attributes bytes) = model.contents attributes bytes
reply_seen (Path bytes) = model.path bytes
reply_seen (Listed entries all) = model.listed entries all
reply_seen (FreeBlocks free) = model.free_blocks free

-- the results of a READ that was done, up to its bytes: so many follow
abbrev pub contents_front : attributes.Attributes → (count : ℕ) → List ℕ
contents_front of count = words (0 ∷ []) ++ words (model.attribute_words of) ++ word count
