-- How a whole reply is read, strictly, by the grammars of RFC 5531 section 9 and of RFC 1094 section 2.2, and what that says of
-- the replies that are spelled.
use Rattle.std.specs.Prelude.{ℕ, zero, suc, ◌-◌, ◌%◌, ◌==◌, ◌<◌, ◌≤◌, ◌&&◌, Bool, true, List, [], ◌∷◌, length, All, Option, Some, None, Result, Ok, Err, if◌then◌else◌}
use Rattle.std.specs.Option.{ok_or}
use Rattle.bfs_model.specs.Bytes.Items.{Fault, ◌>>=◌, word_at, boolean_at, fixed_at, opaque_at}
use Rattle.bfs_model.specs.Server.Limits.{most_name_bytes, most_path_bytes, most_data_bytes}
use Rattle.bfs_model.specs.Server.Tree.{Time, Entry}
use Rattle.bfs_model.specs.Bytes.Attributes.{FileType, regular, directory_type, symbolic_link, Attributes, block_size, blocks_of, transfer_size, total_blocks}
use Rattle.bfs_model.specs.Bytes.Arguments.{handle_id}
use Rattle.bfs_model.specs.Bytes.Call.{Refusal, silent, rpc_mismatch, bad_credential, program_unavailable, program_mismatch, procedure_unavailable}
use Rattle.bfs_model.specs.Bytes.Replies.{Status, perm, noent, acces, exist, notdir, isdir, fbig, nospc, notempty, stale, Reply, void, refused, done, attributes, found, path, contents, listed, free_blocks, results}
use Rattle.bfs_model.specs.Server.Stored.{IsWord, TimeIsSpellable}

-- why bytes are no reply of this server
pub data Misread : Type 0 where
  -- no item is spelled there
  misspelled : (fault : Fault) → Misread
  -- an item is none of those that may stand there
  unknown : Misread
  -- bytes are left after the end
  left_over : Misread

-- a value, and the bytes after it
abbrev pub Reading : Type 0 → Type 0
Reading A = Result (A × List ℕ) Misread

-- Items --------------------------------------------------------------------------------------------------------------

abbrev pub spelled : {A : Type 0} → Result A Fault → Result A Misread
spelled (Ok x) = Ok x
spelled (Err fault) = Err (misspelled fault)

abbrev pub number_at : List ℕ → Reading ℕ
number_at bytes = spelled (word_at bytes)

abbrev pub truth_at : List ℕ → Reading Bool
truth_at bytes = spelled (boolean_at bytes)

abbrev pub text_at : (most : ℕ) → List ℕ → Reading (List ℕ)
text_at most bytes = spelled (opaque_at true most bytes)

-- the bytes after a word that is this number
unfoldable pub after_number : ℕ → List ℕ → Result (List ℕ) Misread
after_number n bytes = do
  (number, rest) ← number_at bytes
  if number == n then Ok rest else Err unknown

-- what was read, if nothing is left
unfoldable pub at_end : {A : Type 0} → A → List ℕ → Result A Misread
at_end x rest = if length rest == 0 then Ok x else Err left_over

-- Messages (RFC 5531 section 9) ----------------------------------------------------------------------------------------

-- what a reply says of its call
pub data Verdict : Type 0 where
  -- SUCCESS, with the bytes of the results
  succeeded : (results : List ℕ) → Verdict
  -- PROG_UNAVAIL
  no_program : Verdict
  -- PROG_MISMATCH, with the versions of the program that there are
  program_versions : (low high : ℕ) → Verdict
  -- PROC_UNAVAIL
  no_procedure : Verdict
  -- GARBAGE_ARGS
  garbage_arguments : Verdict
  -- RPC_MISMATCH, with the versions of RPC that there are
  rpc_versions : (low high : ℕ) → Verdict
  -- AUTH_ERROR, AUTH_BADCRED
  refused_credential : Verdict

-- the bytes after an opaque_auth of AUTH_NONE, which is flavor 0 with no body (sections 8.2 and 10.1)
unfoldable pub after_no_verifier : List ℕ → Result (List ℕ) Misread
after_no_verifier bytes = do
  rest ← after_number 0 bytes
  (body, rest) ← text_at 400 rest
  if length body == 0 then Ok rest else Err unknown

-- a mismatch_info, which ends the message
unfoldable pub versions_of : ((low high : ℕ) → Verdict) → List ℕ → Result Verdict Misread
versions_of verdict bytes = do
  (low, rest) ← number_at bytes
  (high, rest) ← number_at rest
  at_end (verdict low high) rest

-- by accept_stat: SUCCESS is 0, PROG_UNAVAIL 1, PROG_MISMATCH 2, PROC_UNAVAIL 3, GARBAGE_ARGS 4
abbrev pub accepted_by : (status : ℕ) → List ℕ → Result Verdict Misread
accepted_by status rest =
    if status == 0 then Ok (succeeded rest) else (
    if status == 1 then at_end no_program rest else (
    if status == 2 then versions_of program_versions rest else (
    if status == 3 then at_end no_procedure rest else (
    if status == 4 then at_end garbage_arguments rest else Err unknown))))

-- an accepted_reply
unfoldable pub accepted_of : List ℕ → Result Verdict Misread
accepted_of bytes = do
  rest ← after_no_verifier bytes
  (status, rest) ← number_at rest
  accepted_by status rest

-- an auth_stat that is AUTH_BADCRED, 1, and ends the message
unfoldable pub bad_credential_of : List ℕ → Result Verdict Misread
bad_credential_of bytes = do
  rest ← after_number 1 bytes
  at_end refused_credential rest

-- a rejected_reply, by reject_stat: RPC_MISMATCH is 0, AUTH_ERROR 1
unfoldable pub denied_of : List ℕ → Result Verdict Misread
denied_of bytes = do
  (status, rest) ← number_at bytes
  if status == 0 then versions_of rpc_versions rest else (if status == 1 then bad_credential_of rest else Err unknown)

-- a reply_body, by reply_stat: MSG_ACCEPTED is 0, MSG_DENIED 1
unfoldable pub reply_body_of : List ℕ → Result Verdict Misread
reply_body_of bytes = do
  (status, rest) ← number_at bytes
  if status == 0 then accepted_of rest else (if status == 1 then denied_of rest else Err unknown)

-- an rpc_msg of type REPLY, 1: the xid, and what the reply says
unfoldable pub reply_of : List ℕ → Result (ℕ × Verdict) Misread
reply_of bytes = do
  (xid, rest) ← number_at bytes
  rest ← after_number 1 rest
  verdict ← reply_body_of rest
  Ok (xid, verdict)

-- Parts of results (RFC 1094 section 2.3) --------------------------------------------------------------------------------

-- a stat but NFS_OK (section 2.3.1), of those that this server tells
abbrev pub status_of : ℕ → Option Status
status_of number =
    if number == 1 then Some perm else (
    if number == 2 then Some noent else (
    if number == 13 then Some acces else (
    if number == 17 then Some exist else (
    if number == 20 then Some notdir else (
    if number == 21 then Some isdir else (
    if number == 27 then Some fbig else (
    if number == 28 then Some nospc else (
    if number == 66 then Some notempty else (
    if number == 70 then Some stale else None)))))))))

-- an fhandle (section 2.3.3) of ours
unfoldable pub handle_told_at : List ℕ → Reading ℕ
handle_told_at bytes = do
  (item, rest) ← spelled (fixed_at true 32 bytes)
  id ← ok_or (handle_id item) unknown
  Ok (id, rest)

-- a timeval (section 2.3.4)
unfoldable pub time_told_at : List ℕ → Reading Time
time_told_at bytes = do
  (seconds, rest) ← number_at bytes
  (useconds, rest) ← number_at rest
  Ok (record { seconds = seconds; useconds = useconds }, rest)

-- the type that an ftype names (section 2.3.2), where the mode's bits above the permissions name it too (section 2.3.5)
abbrev pub type_told : (type type_bits : ℕ) → Option FileType
type_told type type_bits =
    if type == 1 && type_bits == 0o100000 then Some regular else (
    if type == 2 && type_bits == 0o040000 then Some directory_type else (
    if type == 5 && type_bits == 0o120000 then Some symbolic_link else None))

-- the twelve low bits of a mode are the permissions (section 2.3.5)
abbrev pub permissions_told : (mode : ℕ) → ℕ
permissions_told mode = mode % 4096

-- an fattr (section 2.3.5), with the blocksize, rdev and fsid that all inodes have, and as many blocks as the size takes
unfoldable pub attributes_told_at : List ℕ → Reading Attributes
attributes_told_at bytes = do
  (type, rest) ← number_at bytes
  (mode, rest) ← number_at rest
  (links, rest) ← number_at rest
  (uid, rest) ← number_at rest
  (gid, rest) ← number_at rest
  (size, rest) ← number_at rest
  rest ← after_number block_size rest
  rest ← after_number 0 rest
  rest ← after_number (blocks_of size) rest
  rest ← after_number 1 rest
  (fileid, rest) ← number_at rest
  (atime, rest) ← time_told_at rest
  (mtime, rest) ← time_told_at rest
  (ctime, rest) ← time_told_at rest
  file_type ← ok_or (type_told type (mode - permissions_told mode)) unknown
  Ok (record { file_type = file_type; permissions = permissions_told mode; links = links; uid = uid; gid = gid; size = size; fileid = fileid; atime = atime; mtime = mtime; ctime = ctime }, rest)

-- Results (RFC 1094 section 2.2) -------------------------------------------------------------------------------------------

-- a procedure's type of results
pub data ResultsForm : Type 0 where
  -- void
  void_form : ResultsForm
  -- stat
  status_form : ResultsForm
  -- attrstat
  attributes_form : ResultsForm
  -- diropres
  found_form : ResultsForm
  -- readlinkres
  path_form : ResultsForm
  -- readres
  contents_form : ResultsForm
  -- readdirres
  listed_form : ResultsForm
  -- statfsres
  blocks_form : ResultsForm

-- of the procedure of each number
abbrev pub form_of : (procedure : ℕ) → Option ResultsForm
form_of procedure =
    if procedure == 0 then Some void_form else (
    if procedure == 1 then Some attributes_form else (
    if procedure == 2 then Some attributes_form else (
    if procedure == 3 then Some void_form else (
    if procedure == 4 then Some found_form else (
    if procedure == 5 then Some path_form else (
    if procedure == 6 then Some contents_form else (
    if procedure == 7 then Some void_form else (
    if procedure == 8 then Some attributes_form else (
    if procedure == 9 then Some found_form else (
    if procedure == 10 then Some status_form else (
    if procedure == 11 then Some status_form else (
    if procedure == 12 then Some status_form else (
    if procedure == 13 then Some status_form else (
    if procedure == 14 then Some found_form else (
    if procedure == 15 then Some status_form else (
    if procedure == 16 then Some listed_form else (
    if procedure == 17 then Some blocks_form else None)))))))))))))))))

-- what stands behind NFS_OK, 0, or the other status alone
unfoldable pub by_status : (List ℕ → Reading Reply) → List ℕ → Reading Reply
by_status arm bytes = do
  (number, rest) ← number_at bytes
  if number == 0 then arm rest else (do
    status ← ok_or (status_of number) unknown
    Ok (refused status, rest))

unfoldable pub attributes_arm : List ℕ → Reading Reply
attributes_arm bytes = do
  (of, rest) ← attributes_told_at bytes
  Ok (attributes of, rest)

unfoldable pub found_arm : List ℕ → Reading Reply
found_arm bytes = do
  (file, rest) ← handle_told_at bytes
  (of, rest) ← attributes_told_at rest
  Ok (found file of, rest)

unfoldable pub path_arm : List ℕ → Reading Reply
path_arm bytes = do
  (target, rest) ← text_at most_path_bytes bytes
  Ok (path target, rest)

unfoldable pub contents_arm : List ℕ → Reading Reply
contents_arm bytes = do
  (of, rest) ← attributes_told_at bytes
  (read, rest) ← text_at most_data_bytes rest
  Ok (contents of read, rest)

-- an entry of a chain: fileid, name, and the four bytes of its cookie, as a number
unfoldable pub entry_told_at : List ℕ → Reading Entry
entry_told_at bytes = do
  (child, rest) ← number_at bytes
  (name, rest) ← text_at most_name_bytes rest
  (cookie, rest) ← number_at rest
  Ok (record { cookie = cookie; name = name; child = child }, rest)

-- a chain of at most so many entries: before each stands true, and false after the last
unfoldable pub chain_at : (most : ℕ) → List ℕ → Reading (List Entry)
chain_at zero bytes = Err unknown
chain_at (suc most) bytes = do
  (more, rest) ← truth_at bytes
  if more then (do
    (entry, rest) ← entry_told_at rest
    (entries, rest) ← chain_at most rest
    Ok (entry ∷ entries, rest)) else Ok ([], rest)

-- the chain, which has no more entries than bytes, and eof
unfoldable pub listed_arm : List ℕ → Reading Reply
listed_arm bytes = do
  (entries, rest) ← chain_at (length bytes) bytes
  (all, rest) ← truth_at rest
  Ok (listed entries all, rest)

-- tsize, bsize and blocks, which are always the same, bfree, and as many in bavail
unfoldable pub blocks_arm : List ℕ → Reading Reply
blocks_arm bytes = do
  rest ← after_number transfer_size bytes
  rest ← after_number block_size rest
  rest ← after_number total_blocks rest
  (free, rest) ← number_at rest
  rest ← after_number free rest
  Ok (free_blocks free, rest)

abbrev pub results_at : ResultsForm → List ℕ → Reading Reply
results_at void_form bytes = Ok (void, bytes)
results_at status_form bytes = by_status (λ rest. Ok (done, rest)) bytes
results_at attributes_form bytes = by_status attributes_arm bytes
results_at found_form bytes = by_status found_arm bytes
results_at path_form bytes = by_status path_arm bytes
results_at contents_form bytes = by_status contents_arm bytes
results_at listed_form bytes = by_status listed_arm bytes
results_at blocks_form bytes = by_status blocks_arm bytes

-- the reply that a procedure's results spell, with nothing after them
unfoldable pub results_of : (procedure : ℕ) → List ℕ → Result Reply Misread
results_of procedure bytes = do
  form ← ok_or (form_of procedure) unknown
  (reply, rest) ← results_at form bytes
  at_end reply rest

-- What can be spelled ------------------------------------------------------------------------------------------------------

pub record AttributesAreSpellable (of : Attributes) : Type 0 where
  pub permissions : of.permissions < 4096
  pub links : IsWord of.links
  pub uid : IsWord of.uid
  pub gid : IsWord of.gid
  pub size : IsWord of.size
  pub fileid : IsWord of.fileid
  pub atime : TimeIsSpellable of.atime
  pub mtime : TimeIsSpellable of.mtime
  pub ctime : TimeIsSpellable of.ctime

pub record EntryIsSpellable (entry : Entry) : Type 0 where
  pub child : IsWord entry.child
  pub name : length entry.name ≤ most_name_bytes
  pub cookie : IsWord entry.cookie

-- a reply's numbers, names, path and data are within what its items hold
abbrev pub FitsItems : Reply → Type 0
FitsItems void = Unit {0}
FitsItems (refused status) = Unit {0}
FitsItems done = Unit {0}
FitsItems (attributes of) = AttributesAreSpellable of
FitsItems (found file of) = IsWord file × AttributesAreSpellable of
FitsItems (path target) = length target ≤ most_path_bytes
FitsItems (contents of read) = AttributesAreSpellable of × (length read ≤ most_data_bytes)
FitsItems (listed entries all) = All EntryIsSpellable entries
FitsItems (free_blocks free) = IsWord free

-- a form has a reply: all but void have every status
abbrev pub HasForm : ResultsForm → Reply → Type 0
HasForm void_form void = Unit {0}
HasForm void_form other = ⊥
HasForm form (refused status) = Unit {0}
HasForm status_form done = Unit {0}
HasForm attributes_form (attributes of) = Unit {0}
HasForm found_form (found file of) = Unit {0}
HasForm path_form (path target) = Unit {0}
HasForm contents_form (contents of read) = Unit {0}
HasForm listed_form (listed entries all) = Unit {0}
HasForm blocks_form (free_blocks free) = Unit {0}
HasForm form other = ⊥

pub record IsSpellable (form : ResultsForm) (reply : Reply) : Type 0 where
  pub has_form : HasForm form reply
  pub items : FitsItems reply

-- the xid and the words of a refusal that is answered: version 2 of RPC and of the program is all that there is
abbrev pub refusal_told : Refusal → Option (ℕ × Verdict)
refusal_told silent = None
refusal_told (rpc_mismatch xid) = Some (xid, rpc_versions 2 2)
refusal_told (bad_credential xid) = Some (xid, refused_credential)
refusal_told (program_unavailable xid) = Some (xid, no_program)
refusal_told (program_mismatch xid) = Some (xid, program_versions 2 2)
refusal_told (procedure_unavailable xid) = Some (xid, no_procedure)
