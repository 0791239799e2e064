-- Every reply is bytes.
use Rattle.std.proofs.Common.{◌≡◌, ℕ, zero, suc, ◌-◌, Bool, true, false, cond, nat_lt, nat_le, List, [], ◌∷◌, ◌++◌, All, length, drop, min, replicate, Option, None, Some, Result, Ok, Err, subst, lit<, arith}
use Rattle.std.specs.Int.{byte_at, bytes_high_first}
use Rattle.std.specs.FinMap.{get}
use Rattle.std.specs.List.{flat_map, AllByRecursion}
use Rattle.std.proofs.lemmas.List.Elements.{All-nil, All-cons, All-head, All-tail, All-append, All-replicate, All-take, All-drop, All-filter, All-weaker, All-from_recursion}
use Rattle.bfs_model.specs.Bytes.Arguments.{Call, null, get_attributes, set_attributes, root, look_up, read_link, read, write_cache, write, create, remove, rename, make_link, make_symbolic_link, make_directory, remove_directory, read_directory, file_system_status, handle, arguments_of}
use Rattle.bfs_model.specs.Bytes.Attributes.{Attributes, block_size, transfer_size, total_blocks}
use Rattle.bfs_model.specs.Server.FileBytes.{bytes_from}
use Rattle.bfs_model.specs.Bytes.Call.{Refusal, silent, rpc_mismatch, bad_credential, program_unavailable, program_mismatch, procedure_unavailable, Request, call_of}
use Rattle.bfs_model.specs.Server.Context.{Context}
use Rattle.bfs_model.specs.Server.Directories.{dot, dot_dot, all_listed, listed_behind, held_by}
use Rattle.bfs_model.specs.Bytes.Items.{padding_of, word, words, boolean, fixed, counted}
use Rattle.bfs_model.specs.Server.Limits.{most_data_bytes}
use Rattle.bfs_model.specs.Server.Procedures.{procedure}
use Rattle.bfs_model.specs.Server.Procedures.Data.{path_in}
use Rattle.bfs_model.specs.Server.Procedures.Names.{page_listed}
use Rattle.bfs_model.specs.Bytes.Replies.{Status, Reply, void, refused, done, attributes, found, path, contents, listed, free_blocks, status_number, attribute_words, entry_item, results, success, garbage, refusal}
use Rattle.bfs_model.specs.Laws.ReplyLengths.{RepliesAreBytes}
use Rattle.bfs_model.specs.Server.Serial.{answer, answer_call, answer_arguments}
use Rattle.bfs_model.specs.Server.Stored.{IsByte, AreBytes, EntryIsStorable, BodyIsStorable, AreStorable}
use Rattle.bfs_model.specs.Server.Tree.{Time, Entry, Listing, Body, file, directory, link, Inode, Inodes}
use Rattle.bfs_model.proofs.Attempts.{IfItIsDone, procedure_holds}
use Rattle.bfs_model.proofs.Found.{inode_at, directory_at, file_at}
use Rattle.bfs_model.proofs.ReplyFits.{all_held}

-- Items ----------------------------------------------------------------------------------------------------------------------

-- `AreBytes`, from which the list can be told
record Bytes (bytes : List ℕ) : Type 0 where
  are : AreBytes bytes

closed : (bytes : List ℕ) → AreBytes bytes → Bytes bytes
closed bytes are = record { are = are }

none : Bytes []
none = closed [] (All-nil IsByte)

one_more : {byte : ℕ} {bytes : List ℕ} → IsByte byte → Bytes bytes → Bytes (byte ∷ bytes)
one_more is are = closed _ (All-cons IsByte _ _ is are.are)

infixr 20 ◌then◌
◌then◌ : {one other : List ℕ} → Bytes one → Bytes other → Bytes (one ++ other)
are then is = closed _ (All-append IsByte _ _ are.are is.are)

zeros : (count : ℕ) → Bytes (replicate count 0)
zeros count = closed (replicate count 0) (All-replicate IsByte count 0 (lit< tt))

byte_is_one : (i n : ℕ) → IsByte (byte_at i n)
byte_is_one zero n = omega arith
byte_is_one (suc i) n = omega arith

number_is_bytes : (count n : ℕ) → Bytes (bytes_high_first count n)
number_is_bytes zero n = none
number_is_bytes (suc count) n = one_more (byte_is_one count n) (number_is_bytes count n)

word_is_bytes : (n : ℕ) → Bytes (word n)
unfolding word
word_is_bytes n = number_is_bytes 4 n

words_are_bytes : (ns : List ℕ) → Bytes (words ns)
words_are_bytes [] = none
words_are_bytes (n ∷ ns) = word_is_bytes n then words_are_bytes ns

boolean_is_bytes : (b : Bool) → Bytes (boolean b)
unfolding boolean
boolean_is_bytes b = word_is_bytes (cond b 1 0)

counted_are_bytes : (bytes : List ℕ) → Bytes bytes → Bytes (counted bytes)
unfolding counted fixed
counted_are_bytes bytes are = word_is_bytes (length bytes) then (are then zeros (padding_of (length bytes)))

handle_is_bytes : (id : ℕ) → Bytes (handle id)
unfolding handle
handle_is_bytes id =
    let letters = one_more {byte = 0x42} (lit< tt) (one_more {byte = 0x46} (lit< tt) (one_more {byte = 0x53} (lit< tt) (one_more {byte = 0x32} (lit< tt) none))) in
    ((letters then word_is_bytes 1) then word_is_bytes id) then zeros 20

-- Entries --------------------------------------------------------------------------------------------------------------------

abbrev NameIsBytes : Entry → Type 0
NameIsBytes entry = Bytes entry.name

item_is_bytes : (entry : Entry) → NameIsBytes entry → Bytes (entry_item entry)
item_is_bytes entry is = ((boolean_is_bytes true then word_is_bytes entry.child) then counted_are_bytes entry.name is) then word_is_bytes entry.cookie

items_are_bytes : (entries : List Entry) → All NameIsBytes entries → Bytes (flat_map entry_item entries)
items_are_bytes [] are = none
items_are_bytes (entry ∷ entries) are = item_is_bytes entry (All-head NameIsBytes entry entries are) then items_are_bytes entries (All-tail NameIsBytes entry entries are)

listing_is_bytes : (id : ℕ) (listing : Listing) → AllByRecursion EntryIsStorable listing.entries → All NameIsBytes (all_listed id listing)
listing_is_bytes id listing are =
    let spelled = one_more {byte = 0x2E} (lit< tt) none in
    let names = All-weaker EntryIsStorable NameIsBytes (λ entry is. closed entry.name is.name) listing.entries (All-from_recursion EntryIsStorable listing.entries are) in
    let parent : Entry = record { cookie = 2; name = dot_dot; child = listing.parent } in
    All-cons NameIsBytes (record { cookie = 1; name = dot; child = id }) (parent ∷ listing.entries) spelled (All-cons NameIsBytes parent listing.entries (one_more {byte = 0x2E} (lit< tt) spelled) names)

-- Results --------------------------------------------------------------------------------------------------------------------

abbrev IsBytes : Reply → Type 0
IsBytes reply = Bytes (results reply)

void_is_bytes : IsBytes void
unfolding results
void_is_bytes = none

refused_is_bytes : (status : Status) → IsBytes (refused status)
unfolding results
refused_is_bytes status = words_are_bytes (status_number status ∷ [])

-- the status of what is done
abbrev ok : Bytes (words (0 ∷ []))
ok = words_are_bytes (0 ∷ [])

done_is_bytes : IsBytes done
unfolding results
done_is_bytes = ok

attributes_are_bytes : (of : Attributes) → IsBytes (attributes of)
unfolding results
attributes_are_bytes of = ok then words_are_bytes (attribute_words of)

found_is_bytes : (id : ℕ) (of : Attributes) → IsBytes (found id of)
unfolding results
found_is_bytes id of = (ok then handle_is_bytes id) then words_are_bytes (attribute_words of)

path_is_bytes : (target : List ℕ) → Bytes target → IsBytes (path target)
unfolding results
path_is_bytes target are = ok then counted_are_bytes target are

contents_are_bytes : (of : Attributes) (offset count : ℕ) (bytes : List ℕ) → AreBytes bytes → IsBytes (contents of (bytes_from offset count bytes))
unfolding results
contents_are_bytes of offset count bytes are =
    let some = closed (bytes_from offset count bytes) (All-take IsByte (min count most_data_bytes) (drop offset bytes) (All-drop IsByte offset bytes are)) in
    (ok then words_are_bytes (attribute_words of)) then counted_are_bytes (bytes_from offset count bytes) some

listed_are_bytes : (entries : List Entry) (all : Bool) → All NameIsBytes entries → IsBytes (listed entries all)
unfolding results
listed_are_bytes entries all are = ((ok then items_are_bytes entries are) then boolean_is_bytes false) then boolean_is_bytes all

free_is_bytes : (free : ℕ) → IsBytes (free_blocks free)
unfolding results
free_is_bytes free = words_are_bytes (0 ∷ transfer_size ∷ block_size ∷ total_blocks ∷ free ∷ free ∷ [])

-- Procedures -----------------------------------------------------------------------------------------------------------------

target_is_bytes : (body : Body) (target : List ℕ) → BodyIsStorable body → path_in body ≡ Some target → Bytes target
target_is_bytes (file bytes) target is holds = absurd cc
target_is_bytes (directory listing) target is holds = absurd cc
target_is_bytes (link held) target is holds = let same : held ≡ target = cc in subst Bytes same (closed held is)

page_is_bytes : (cookie count id : ℕ) (listing : Listing) → AllByRecursion EntryIsStorable listing.entries → IsBytes (page_listed count (listed_behind cookie (all_listed id listing)))
page_is_bytes cookie count id listing are =
    listed_are_bytes _ _ (all_held NameIsBytes (min count most_data_bytes - 12) _ (All-filter (λ entry. nat_lt cookie entry.cookie) NameIsBytes (all_listed id listing) (listing_is_bytes id listing are)))

module _ (m : Inodes) (c : Context) (storable : AreStorable m) where
  call_is_bytes : (call : Call) → IfItIsDone m c (λ outcome. IsBytes outcome.1) call
  call_is_bytes null = void_is_bytes
  call_is_bytes (get_attributes handle) = λ x found. attributes_are_bytes _
  call_is_bytes (set_attributes handle settings) = λ x allowed found passed. attributes_are_bytes _
  call_is_bytes root = void_is_bytes
  call_is_bytes (look_up handle name) = λ x there. found_is_bytes x.id _
  call_is_bytes (read_link handle) = λ x target found holds. path_is_bytes target (target_is_bytes x.inode.body target (storable x.id x.inode (inode_at m handle x found).there).body holds)
  call_is_bytes (read handle offset count) = λ x found.
      let at = file_at m handle x found in
      contents_are_bytes _ offset count x.bytes (subst BodyIsStorable at.holds (storable x.id x.inode at.there).body)
  call_is_bytes write_cache = void_is_bytes
  call_is_bytes (write handle offset written) = λ x small found passed. attributes_are_bytes _
  call_is_bytes (create handle name settings) = λ dir allowed found passed. found_is_bytes c.ordinal _
  call_is_bytes (remove handle name) = λ dir entry child plain at passed. done_is_bytes
  call_is_bytes (rename from from_name to to_name) = λ a b entry moved at. (done_is_bytes, λ replaced allowed onto passed. done_is_bytes)
  call_is_bytes (make_link handle in_directory name) = λ x plain dir allowed found no_directory dir_is passed. done_is_bytes
  call_is_bytes (make_symbolic_link handle name target settings) = λ dir allowed found passed. done_is_bytes
  call_is_bytes (make_directory handle name settings) = λ dir allowed found passed. found_is_bytes c.ordinal _
  call_is_bytes (remove_directory handle name) = λ dir entry child empty at passed. done_is_bytes
  call_is_bytes (read_directory handle cookie count) = λ dir found.
      let at = directory_at m handle dir found in
      let body : BodyIsStorable (directory dir.listing) = subst BodyIsStorable at.holds (storable dir.id dir.inode at.there).body in
      page_is_bytes cookie count dir.id dir.listing body.1
  call_is_bytes (file_system_status handle) = λ x found. free_is_bytes _

  procedure_is_bytes : (call : Call) → IsBytes (procedure m c call).1
  procedure_is_bytes call = procedure_holds m c (λ outcome. IsBytes outcome.1) refused_is_bytes call (call_is_bytes call)

-- Requests -------------------------------------------------------------------------------------------------------------------

success_is_bytes : (xid : ℕ) (bytes : List ℕ) → Bytes bytes → Bytes (success xid bytes)
unfolding success
success_is_bytes xid bytes are = words_are_bytes (xid ∷ 1 ∷ 0 ∷ 0 ∷ 0 ∷ 0 ∷ []) then are

garbage_is_bytes : (xid : ℕ) → Bytes (garbage xid)
unfolding garbage
garbage_is_bytes xid = words_are_bytes (xid ∷ 1 ∷ 0 ∷ 0 ∷ 0 ∷ 4 ∷ [])

refusal_is_bytes : (reason : Refusal) → Bytes (refusal reason)
unfolding refusal
refusal_is_bytes silent = none
refusal_is_bytes (rpc_mismatch xid) = words_are_bytes (xid ∷ 1 ∷ 1 ∷ 0 ∷ 2 ∷ 2 ∷ [])
refusal_is_bytes (bad_credential xid) = words_are_bytes (xid ∷ 1 ∷ 1 ∷ 1 ∷ 1 ∷ [])
refusal_is_bytes (program_unavailable xid) = words_are_bytes (xid ∷ 1 ∷ 0 ∷ 0 ∷ 0 ∷ 1 ∷ [])
refusal_is_bytes (program_mismatch xid) = words_are_bytes (xid ∷ 1 ∷ 0 ∷ 0 ∷ 0 ∷ 2 ∷ 2 ∷ 2 ∷ [])
refusal_is_bytes (procedure_unavailable xid) = words_are_bytes (xid ∷ 1 ∷ 0 ∷ 0 ∷ 0 ∷ 3 ∷ [])

module _ (m : Inodes) (ordinal : ℕ) (time : Time) (storable : AreStorable m) where
  arguments_answer : (request : Request) (call : Option Call) → Bytes (answer_arguments m ordinal time request call).1
  arguments_answer request None = garbage_is_bytes request.xid
  arguments_answer request (Some call) = success_is_bytes request.xid _ (procedure_is_bytes m _ storable call)

  call_answer : (call : Result Request Refusal) → Bytes (answer_call m ordinal time call).1
  call_answer (Ok request) = arguments_answer request (arguments_of request.procedure request.arguments)
  call_answer (Err reason) = refusal_is_bytes reason

pub replies_of_bytes : RepliesAreBytes
unfolding answer
replies_of_bytes m ordinal time request storable = (call_answer m ordinal time storable (call_of request)).are
