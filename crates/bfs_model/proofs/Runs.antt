-- How worked examples spell requests and replies as words, and how a batch is followed request by request.
use Rattle.std.proofs.Common.{◌≡◌, ℕ, List, [], ◌∷◌, ◌++◌, length, Some, None, Ok, refl}
use Rattle.std.specs.FinMap.{from_entries}
use Rattle.bfs_model.specs.Bytes.Items.{words}
use Rattle.bfs_model.specs.Server.Tree.{Time, Entry, Inode, Inodes, FileSystem, file, directory}
use Rattle.bfs_model.specs.Server.Context.{Context}
use Rattle.bfs_model.specs.Bytes.Call.{Credential, call_of, nobody}
use Rattle.bfs_model.specs.Bytes.Arguments.{Settings, Call, arguments_of}
use Rattle.bfs_model.specs.Bytes.Replies.{Reply, results, success}
use Rattle.bfs_model.specs.Server.Refusals.{Outcome}
use Rattle.bfs_model.specs.Server.Procedures.{procedure}
use Rattle.bfs_model.specs.Server.Serial.{Batch, answer, inodes_after, replies_to, ordinal_after, effective_time, execute}

-- Requests -----------------------------------------------------------------------------------------------------------

-- the first words of a call of version 2 with no credential and no verifier, up to its arguments
abbrev pub calls : (xid procedure : ℕ) (arguments : List ℕ) → List ℕ
calls xid procedure arguments = words ((xid ∷ 0 ∷ 2 ∷ 100003 ∷ 2 ∷ procedure ∷ 0 ∷ 0 ∷ 0 ∷ 0 ∷ []) ++ arguments)

-- the words of a handle
abbrev pub of_file : ℕ → List ℕ
of_file id = 0x42465332 ∷ 1 ∷ id ∷ 0 ∷ 0 ∷ 0 ∷ 0 ∷ 0 ∷ []

-- the words of settings that set nothing, and what they are read as
abbrev pub unset_words : List ℕ
unset_words = 0xffffffff ∷ 0xffffffff ∷ 0xffffffff ∷ 0xffffffff ∷ 0xffffffff ∷ 0xffffffff ∷ 0xffffffff ∷ 0xffffffff ∷ []

abbrev pub unset : Settings
unset = record { mode = None; uid = None; gid = None; size = None; atime = None; mtime = None }

-- Replies ------------------------------------------------------------------------------------------------------------

-- the words of an accepted call's reply, up to its results
abbrev pub succeeds : (xid : ℕ) (after : List ℕ) → List ℕ
succeeds xid after = words ((xid ∷ 1 ∷ 0 ∷ 0 ∷ 0 ∷ 0 ∷ []) ++ after)

-- the words of attributes, with times in whole seconds
abbrev pub told : (type mode nlink uid gid size blocks fileid a m c : ℕ) → List ℕ
told type mode nlink uid gid size blocks fileid a m c = type ∷ mode ∷ nlink ∷ uid ∷ gid ∷ size ∷ 4096 ∷ 0 ∷ blocks ∷ 1 ∷ fileid ∷ a ∷ 0 ∷ m ∷ 0 ∷ c ∷ 0 ∷ []

-- Contexts -----------------------------------------------------------------------------------------------------------

-- of a call of nobody's
abbrev pub under : (ordinal : ℕ) → Time → Context
under ordinal time = record { ordinal = ordinal; time = time; caller = nobody }

-- Inodes -------------------------------------------------------------------------------------------------------------

abbrev pub at : (seconds : ℕ) → Time
at seconds = record { seconds = seconds; useconds = 0 }

-- a file of nobody's, last changed at so many seconds
abbrev pub a_file : (links a m c : ℕ) (bytes : List ℕ) → Inode
a_file links a m c bytes = record { permissions = 0o644; links = links; uid = 65534; gid = 65534; atime = at a; mtime = at m; ctime = at c; body = file bytes }

-- a directory of nobody's
abbrev pub a_directory : (links a m c parent : ℕ) (entries : List Entry) → Inode
a_directory links a m c parent entries = record { permissions = 0o755; links = links; uid = 65534; gid = 65534; atime = at a; mtime = at m; ctime = at c; body = directory (record { parent = parent; entries = entries }) }

-- the root, last changed at so many seconds
abbrev pub the_root : (links m c : ℕ) (entries : List Entry) → Inode
the_root links m c entries = record { permissions = 0o777; links = links; uid = 0; gid = 0; atime = at 0; mtime = at m; ctime = at c; body = directory (record { parent = 2; entries = entries }) }

abbrev pub entry : (cookie : ℕ) (name : List ℕ) (child : ℕ) → Entry
entry cookie name child = record { cookie = cookie; name = name; child = child }

-- Batches ------------------------------------------------------------------------------------------------------------

-- requests one after another lead from inodes to inodes, with these replies
pub record Runs (m : Inodes) (o : ℕ) (t : Time) (requests : List (List ℕ)) (after : Inodes) (replies : List (List ℕ)) : Type 0 where
  pub leads : inodes_after m o t requests ≡ after
  pub replied : replies_to m o t requests ≡ replies

pub ends : (m : Inodes) (o : ℕ) (t : Time) → Runs m o t [] m []
ends m o t = record { leads = refl; replied = refl }

followed : {m n after : Inodes} {o : ℕ} {t : Time} {request reply : List ℕ} {requests replies : List (List ℕ)}
    → answer m o t request ≡ (n, reply) → Runs n (ordinal_after o 1) t requests after replies → Runs m o t (request ∷ requests) after (reply ∷ replies)
followed {o = o} {t = t} {requests = requests} e r = record {
  leads = rw e r.leads;
  replied = rw (e, r.replied) refl;
}

-- a request that spells a call is answered as its procedure says
pub next : {m n after : Inodes} {o : ℕ} {t : Time} {request arguments : List ℕ} {requests replies : List (List ℕ)} {xid number : ℕ} {credential : Credential} {call : Call} {reply : Reply}
    → call_of request ≡ Ok (record { xid = xid; procedure = number; credential = credential; arguments = arguments })
    → arguments_of number arguments ≡ Some call
    → ◌≡◌ {A = Outcome} (procedure m (record { ordinal = o; time = t; caller = credential }) call) (n, reply)
    → Runs n (ordinal_after o 1) t requests after replies
    → Runs m o t (request ∷ requests) after (success xid (results reply) ∷ replies)
unfolding answer
next spelled wanted done rest = followed (rw (spelled, wanted, done) refl) rest

pub executed : (files : FileSystem) (batch : Batch) {after : Inodes} {replies : List (List ℕ)}
    → Runs files.tree files.next_ordinal (effective_time files.last_time batch.time) batch.requests after replies
    → execute files batch ≡ (record { tree = after; next_ordinal = ordinal_after files.next_ordinal (length batch.requests); last_time = effective_time files.last_time batch.time }, replies)
unfolding execute
executed files batch r = rw (r.leads, r.replied) refl

-- Requests of each form ------------------------------------------------------------------------------------------------

-- of a name of one byte, which is the word's first
abbrev pub names : (xid procedure dir letter : ℕ) → List ℕ
names xid procedure dir letter = calls xid procedure (of_file dir ++ 1 ∷ letter ∷ [])

abbrev pub names_unset : (xid procedure dir letter : ℕ) → List ℕ
names_unset xid procedure dir letter = calls xid procedure (of_file dir ++ (1 ∷ letter ∷ []) ++ unset_words)

-- WRITE of so many bytes, at most four, which are those of a word
abbrev pub writes : (xid id offset length bytes : ℕ) → List ℕ
writes xid id offset length bytes = calls xid 8 (of_file id ++ 0 ∷ offset ∷ 0 ∷ length ∷ bytes ∷ [])

abbrev pub renames : (xid from from_letter to to_letter : ℕ) → List ℕ
renames xid from from_letter to to_letter = calls xid 11 (of_file from ++ (1 ∷ from_letter ∷ []) ++ of_file to ++ 1 ∷ to_letter ∷ [])

abbrev pub lists : (xid dir cookie count : ℕ) → List ℕ
lists xid dir cookie count = calls xid 16 (of_file dir ++ cookie ∷ count ∷ [])

-- the inodes that a list has by their fileids
abbrev pub holding : List (ℕ × Inode) → Inodes
holding inodes = from_entries inodes
