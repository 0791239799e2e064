-- How long a reply is at most.
use Rattle.std.proofs.Common.{◌≡◌, ℕ, ◌+◌, ◌-◌, ◌≤◌, Bool, true, false, cond, nat_le, min, List, [], ◌∷◌, ◌++◌, length, drop, replicate, Option, None, Some, Result, Ok, Err, refl, subst, lit≤, arith}
use Rattle.std.specs.FinMap.{get}
use Rattle.std.specs.List.{flat_map}
use Rattle.std.proofs.lemmas.List.{length-append, length-take, length-replicate}
use Rattle.std.proofs.lemmas.Bool.{leb-true}
use Rattle.bfs_model.specs.Bytes.Items.{padding_of, word, boolean, fixed, counted}
use Rattle.bfs_model.specs.Server.Limits.{most_data_bytes, most_path_bytes, most_reply_bytes}
use Rattle.bfs_model.specs.Server.Tree.{Time, Entry, Body, file, directory, link, Inode, Inodes}
use Rattle.bfs_model.specs.Server.Context.{Context}
use Rattle.bfs_model.specs.Bytes.Attributes.{Attributes}
use Rattle.bfs_model.specs.Server.FileBytes.{bytes_from}
use Rattle.bfs_model.specs.Server.Directories.{listed_size, held_by}
use Rattle.bfs_model.specs.Bytes.Call.{Refusal, silent, rpc_mismatch, bad_credential, program_unavailable, program_mismatch, procedure_unavailable, Request, call_of}
use Rattle.bfs_model.specs.Bytes.Arguments.{Call, null, get_attributes, set_attributes, root, look_up, read_link, read, write_cache, write, create, remove, rename, make_link, make_symbolic_link, make_directory, remove_directory, read_directory, file_system_status, handle, arguments_of}
use Rattle.bfs_model.specs.Bytes.Replies.{Status, Reply, void, refused, done, attributes, found, path, contents, listed, free_blocks, entry_item, results, success, garbage, refusal}
use Rattle.bfs_model.specs.Server.Procedures.{procedure}
use Rattle.bfs_model.specs.Server.Procedures.Names.{page_listed}
use Rattle.bfs_model.specs.Server.Procedures.Data.{path_in}
use Rattle.bfs_model.specs.Server.Serial.{answer, answer_call, answer_arguments}
use Rattle.bfs_model.specs.Server.WellFormed.{BodyIsLimited, IsLimited}
use Rattle.bfs_model.specs.Laws.ReplyLengths.{RepliesAreShort}
use Rattle.bfs_model.proofs.Found.{inode_at}
use Rattle.bfs_model.proofs.Attempts.{IfItIsDone, procedure_holds}

-- Parts of replies -----------------------------------------------------------------------------------------------------------

pub padding_is_short : (n : ℕ) → padding_of n ≤ 3
padding_is_short n = omega arith

pub length-counted : (bytes : List ℕ) → length (counted bytes) ≡ 4 + length bytes + padding_of (length bytes)
unfolding counted fixed word
length-counted bytes = omega (arith, length-append bytes (replicate (padding_of (length bytes)) 0), length-replicate {A = ℕ} (padding_of (length bytes)) 0)

pub length-entry_item : (entry : Entry) → length (entry_item entry) ≡ listed_size entry
unfolding boolean word
length-entry_item entry = omega (arith, length-append (counted entry.name) (word entry.cookie), length-counted entry.name)

held_fit : (fits : Bool) (room : ℕ) (entry : Entry) (entries : List Entry) → nat_le (listed_size entry) room ≡ fits
    → length (flat_map entry_item (held_by (room - listed_size entry) entries)) ≤ room - listed_size entry
    → length (flat_map entry_item (cond fits (entry ∷ held_by (room - listed_size entry) entries) [])) ≤ room
held_fit true room entry entries is rest =
    let held : listed_size entry ≤ room = leb-true _ _ is in
    omega (arith, length-append (entry_item entry) (flat_map entry_item (held_by (room - listed_size entry) entries)), length-entry_item entry)
held_fit false room entry entries is rest = omega arith

-- the entries that so many bytes hold take no more
pub entries_fit : (room : ℕ) (entries : List Entry) → length (flat_map entry_item (held_by room entries)) ≤ room
entries_fit room [] = omega arith
entries_fit room (entry ∷ entries) = held_fit (nat_le (listed_size entry) room) room entry entries refl (entries_fit (room - listed_size entry) entries)

-- Results --------------------------------------------------------------------------------------------------------------------

-- room is left for the 24 bytes before the results
abbrev IsShort : Reply → Type 0
IsShort reply = length (results reply) ≤ 16360

void_is_short : IsShort void
unfolding results
void_is_short = lit≤ tt

refused_is_short : (status : Status) → IsShort (refused status)
unfolding results word
refused_is_short status = lit≤ tt

done_is_short : IsShort done
unfolding results word
done_is_short = lit≤ tt

attributes_are_short : (of : Attributes) → IsShort (attributes of)
unfolding results word
attributes_are_short of = lit≤ tt

found_is_short : (id : ℕ) (of : Attributes) → IsShort (found id of)
unfolding results word handle
found_is_short id of = lit≤ tt

free_is_short : (free : ℕ) → IsShort (free_blocks free)
unfolding results word
free_is_short free = lit≤ tt

path_is_short : (target : List ℕ) → length target ≤ most_path_bytes → IsShort (path target)
unfolding results word
path_is_short target short = omega (arith, length-counted target, padding_is_short (length target))

contents_are_short : (of : Attributes) (offset count : ℕ) (bytes : List ℕ) → IsShort (contents of (bytes_from offset count bytes))
unfolding results word
contents_are_short of offset count bytes =
    omega (arith, length-counted (bytes_from offset count bytes), padding_is_short (length (bytes_from offset count bytes)), length-take (min count most_data_bytes) (drop offset bytes))

page_is_short : (room : ℕ) (entries : List Entry) (all : Bool) → room ≤ 8180 → IsShort (listed (held_by room entries) all)
unfolding results word boolean
page_is_short room entries all most =
    let items = flat_map entry_item (held_by room entries) in
    omega (arith, length-append items (boolean false), length-append (items ++ boolean false) (boolean all), entries_fit room entries)

listing_is_short : (count : ℕ) (entries : List Entry) → IsShort (page_listed count entries)
listing_is_short count entries = page_is_short (min count most_data_bytes - 12) entries _ (omega arith)

-- Procedures -----------------------------------------------------------------------------------------------------------------

pub short_path : (links : ℕ) (body : Body) (target : List ℕ) → BodyIsLimited links body → path_in body ≡ Some target → length target ≤ most_path_bytes
short_path links (file bytes) target limited is = absurd cc
short_path links (directory listing) target limited is = absurd cc
short_path links (link held) target limited is = let same : held ≡ target = cc in subst (λ path. length path ≤ most_path_bytes) same limited.1

-- each inode is within the limits
abbrev pub AreLimited : Inodes → Type 0
AreLimited m = (id : ℕ) (inode : Inode) → get m id ≡ Some inode → IsLimited inode

module _ (m : Inodes) (c : Context) (limited : AreLimited m) where
  call_is_short : (call : Call) → IfItIsDone m c (λ outcome. IsShort outcome.1) call
  call_is_short null = void_is_short
  call_is_short (get_attributes handle) = λ x found. attributes_are_short _
  call_is_short (set_attributes handle settings) = λ x allowed found passed. attributes_are_short _
  call_is_short root = void_is_short
  call_is_short (look_up handle name) = λ x there. found_is_short x.id _
  call_is_short (read_link handle) = λ x target found holds. path_is_short target (short_path x.inode.links x.inode.body target (limited x.id x.inode (inode_at m handle x found).there).body holds)
  call_is_short (read handle offset count) = λ x found. contents_are_short _ offset count x.bytes
  call_is_short write_cache = void_is_short
  call_is_short (write handle offset written) = λ x small found passed. attributes_are_short _
  call_is_short (create handle name settings) = λ dir allowed found passed. found_is_short c.ordinal _
  call_is_short (remove handle name) = λ dir entry child plain at passed. done_is_short
  call_is_short (rename from from_name to to_name) = λ a b entry moved at. (done_is_short, λ replaced allowed onto passed. done_is_short)
  call_is_short (make_link handle in_directory name) = λ x plain dir allowed found no_directory dir_is passed. done_is_short
  call_is_short (make_symbolic_link handle name target settings) = λ dir allowed found passed. done_is_short
  call_is_short (make_directory handle name settings) = λ dir allowed found passed. found_is_short c.ordinal _
  call_is_short (remove_directory handle name) = λ dir entry child empty at passed. done_is_short
  call_is_short (read_directory handle cookie count) = λ dir found. listing_is_short count _
  call_is_short (file_system_status handle) = λ x found. free_is_short _

  procedure_is_short : (call : Call) → IsShort (procedure m c call).1
  procedure_is_short call = procedure_holds m c (λ outcome. IsShort outcome.1) refused_is_short call (call_is_short call)

-- Requests -------------------------------------------------------------------------------------------------------------------

success_is_short : (xid : ℕ) (bytes : List ℕ) → length bytes ≤ 16360 → length (success xid bytes) ≤ most_reply_bytes
unfolding success word
success_is_short xid bytes short = omega arith

garbage_is_short : (xid : ℕ) → length (garbage xid) ≤ most_reply_bytes
unfolding garbage word
garbage_is_short xid = lit≤ tt

refusal_is_short : (reason : Refusal) → length (refusal reason) ≤ most_reply_bytes
unfolding refusal word
refusal_is_short silent = lit≤ tt
refusal_is_short (rpc_mismatch xid) = lit≤ tt
refusal_is_short (bad_credential xid) = lit≤ tt
refusal_is_short (program_unavailable xid) = lit≤ tt
refusal_is_short (program_mismatch xid) = lit≤ tt
refusal_is_short (procedure_unavailable xid) = lit≤ tt

module _ (m : Inodes) (ordinal : ℕ) (time : Time) (limited : AreLimited m) where
  arguments_answer : (request : Request) (call : Option Call) → length (answer_arguments m ordinal time request call).1 ≤ most_reply_bytes
  arguments_answer request None = garbage_is_short request.xid
  arguments_answer request (Some call) = success_is_short request.xid _ (procedure_is_short m _ limited call)

  call_answer : (call : Result Request Refusal) → length (answer_call m ordinal time call).1 ≤ most_reply_bytes
  call_answer (Ok request) = arguments_answer request (arguments_of request.procedure request.arguments)
  call_answer (Err reason) = refusal_is_short reason

pub short_replies : RepliesAreShort
unfolding answer
short_replies m ordinal time request limited = call_answer m ordinal time limited (call_of request)
