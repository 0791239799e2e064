-- Where the inodes after a call can be stored, and are within the limits, its reply's items hold what it tells.
use Rattle.std.proofs.Common.{◌≡◌, ℕ, ◌-◌, ◌≤◌, Bool, true, false, cond, min, nat_le, nat_lt, List, [], ◌∷◌, length, drop, All, Some, subst, arith}
use Rattle.std.specs.List.{AllByRecursion}
use Rattle.std.specs.FinMap.{get}
use Rattle.std.proofs.lemmas.List.{length-take}
use Rattle.std.proofs.lemmas.List.Elements.{All-nil, All-cons, All-head, All-tail, All-filter}
use Rattle.bfs_model.specs.Server.Limits.{most_data_bytes, most_file_bytes, most_path_bytes, most_entries, most_links}
use Rattle.bfs_model.specs.Server.Tree.{Time, Entry, Listing, Body, file, directory, link, Inode, Inodes}
use Rattle.bfs_model.specs.Server.Context.{Context}
use Rattle.bfs_model.specs.Bytes.Attributes.{size_of, attributes_of}
use Rattle.bfs_model.specs.Server.Directories.{dot, dot_dot, all_listed, listed_size, held_by}
use Rattle.bfs_model.specs.Bytes.Arguments.{Call, null, get_attributes, set_attributes, root, look_up, read_link, read, write_cache, write, create, remove, rename, make_link, make_symbolic_link, make_directory, remove_directory, read_directory, file_system_status}
use Rattle.bfs_model.specs.Server.Refusals.{Outcome}
use Rattle.bfs_model.specs.Server.Procedures.{procedure}
use Rattle.bfs_model.specs.Server.WellFormed.{BodyIsLimited, HasNames}
use Rattle.bfs_model.specs.Server.Stored.{IsWord, TimeIsSpellable, IsTime, EntryIsStorable, BodyIsStorable, AreStorable}
use Rattle.bfs_model.specs.Bytes.ReplyReading.{AttributesAreSpellable, EntryIsSpellable, FitsItems}
use Rattle.bfs_model.proofs.Found.{inode_at, directory_at, file_at}
use Rattle.bfs_model.proofs.Attempts.{IfItIsDone, procedure_holds}
use Rattle.bfs_model.proofs.Maps.{got_put}
use Rattle.bfs_model.proofs.ReplyLengths.{AreLimited, short_path}

-- Attributes -----------------------------------------------------------------------------------------------------------------

size_is_word : (links : ℕ) (body : Body) → BodyIsLimited links body → IsWord (size_of body)
size_is_word links (file bytes) limited = let few : length bytes ≤ most_file_bytes = limited.1 in omega arith
size_is_word links (directory listing) limited = let few : length listing.entries ≤ most_entries = limited.0 in omega arith
size_is_word links (link path) limited = let few : length path ≤ most_path_bytes = limited.1 in omega arith

time_fits : (time : Time) → IsTime time → TimeIsSpellable time
time_fits time is = let few = is.useconds in record { seconds = is.seconds; useconds = omega arith }

attributes_fit : (n : Inodes) (id : ℕ) (inode : Inode) → get n id ≡ Some inode → AreStorable n → AreLimited n → AttributesAreSpellable (attributes_of id inode)
attributes_fit n id inode there storable limited =
    let is = storable id inode there in
    let within = limited id inode there in
    let permissions : inode.permissions ≤ 4095 = is.permissions in
    let links : inode.links ≤ most_links = within.links in record {
      permissions = omega arith;
      links = omega arith;
      uid = is.uid;
      gid = is.gid;
      size = size_is_word inode.links inode.body within.body;
      fileid = is.fileid;
      atime = time_fits inode.atime is.atime;
      mtime = time_fits inode.mtime is.mtime;
      ctime = time_fits inode.ctime is.ctime;
    }

-- Entries --------------------------------------------------------------------------------------------------------------------

entries_fit : (entries : List Entry) → AllByRecursion EntryIsStorable entries → HasNames entries → All EntryIsSpellable entries
entries_fit [] are named = All-nil EntryIsSpellable
entries_fit (entry ∷ entries) are named =
    All-cons EntryIsSpellable entry entries (record { child = are.0.child; name = named.1; cookie = are.0.cookie }) (entries_fit entries are.1 named.3)

held_by_test : (P : Entry → Type 0) (test : Bool) (entry : Entry) (entries : List Entry) → P entry → All P entries → All P (cond test (entry ∷ entries) [])
held_by_test P true entry entries is are = All-cons P entry entries is are
held_by_test P false entry entries is are = All-nil P

-- what holds of all entries holds of those that a page holds
pub all_held : (P : Entry → Type 0) (room : ℕ) (entries : List Entry) → All P entries → All P (held_by room entries)
all_held P room [] are = are
all_held P room (entry ∷ entries) are =
    held_by_test P (nat_le (listed_size entry) room) entry (held_by (room - listed_size entry) entries) (All-head P entry entries are) (all_held P (room - listed_size entry) entries (All-tail P entry entries are))

listing_fits : (links id : ℕ) (body : Body) (listing : Listing) → body ≡ directory listing → IsWord id → BodyIsStorable body → BodyIsLimited links body → All EntryIsSpellable (all_listed id listing)
listing_fits links id (file bytes) listing holds is are limited = absurd cc
listing_fits links id (link target) listing holds is are limited = absurd cc
listing_fits links id (directory held) listing holds is are limited = let same : held ≡ listing = cc in subst (λ l. All EntryIsSpellable (all_listed id l)) same
    (All-cons EntryIsSpellable (record { cookie = 1; name = dot; child = id }) (record { cookie = 2; name = dot_dot; child = held.parent } ∷ held.entries) (record { child = is; name = omega arith; cookie = omega arith })
    (All-cons EntryIsSpellable (record { cookie = 2; name = dot_dot; child = held.parent }) held.entries (record { child = are.0; name = omega arith; cookie = omega arith }) (entries_fit held.entries are.1 limited.2)))

-- Every call -------------------------------------------------------------------------------------------------------------------

module _ (m : Inodes) (c : Context) where
  abbrev Fits : Outcome → Type 0
  Fits outcome = AreStorable outcome.0 → AreLimited outcome.0 → FitsItems outcome.1

  call_fits : (call : Call) → IfItIsDone m c Fits call
  call_fits null = λ storable limited. tt
  call_fits (get_attributes handle) = λ x found. attributes_fit m x.id x.inode (inode_at m handle x found).there
  call_fits (set_attributes handle settings) = λ x allowed found passed. attributes_fit _ x.id _ (got_put m x.id _)
  call_fits root = λ storable limited. tt
  call_fits (look_up handle name) = λ x there storable limited. ((storable x.id x.inode there).fileid, attributes_fit m x.id x.inode there storable limited)
  call_fits (read_link handle) = λ x target found holds storable limited. short_path x.inode.links x.inode.body target (limited x.id x.inode (inode_at m handle x found).there).body holds
  call_fits (read handle offset count) = λ x found storable limited.
      (attributes_fit m x.id x.inode (file_at m handle x found).there storable limited, omega (arith, length-take (min count most_data_bytes) (drop offset x.bytes)))
  call_fits write_cache = λ storable limited. tt
  call_fits (write handle offset written) = λ x small found passed. attributes_fit _ x.id _ (got_put m x.id _)
  call_fits (create handle name settings) = λ dir allowed found passed storable limited.
      let there = got_put _ c.ordinal _ in ((storable c.ordinal _ there).fileid, attributes_fit _ c.ordinal _ there storable limited)
  call_fits (remove handle name) = λ dir entry child plain at passed storable limited. tt
  call_fits (rename from from_name to to_name) = λ a b entry moved at. (λ storable limited. tt, λ replaced allowed onto passed storable limited. tt)
  call_fits (make_link handle in_directory name) = λ x plain dir allowed found no_directory dir_is passed storable limited. tt
  call_fits (make_symbolic_link handle name target settings) = λ dir allowed found passed storable limited. tt
  call_fits (make_directory handle name settings) = λ dir allowed found passed storable limited.
      let there = got_put _ c.ordinal _ in ((storable c.ordinal _ there).fileid, attributes_fit _ c.ordinal _ there storable limited)
  call_fits (remove_directory handle name) = λ dir entry child empty at passed storable limited. tt
  call_fits (read_directory handle cookie count) = λ dir found storable limited.
      let at = directory_at m handle dir found in
      let is = storable dir.id dir.inode at.there in
      all_held EntryIsSpellable (min count most_data_bytes - 12) _ (All-filter (λ entry. nat_lt cookie entry.cookie) EntryIsSpellable (all_listed dir.id dir.listing) (listing_fits dir.inode.links dir.id dir.inode.body dir.listing at.holds is.fileid is.body (limited dir.id dir.inode at.there).body))
  call_fits (file_system_status handle) = λ x found storable limited. omega arith

  pub reply_fits : (call : Call) → AreStorable (procedure m c call).0 → AreLimited (procedure m c call).0 → FitsItems (procedure m c call).1
  reply_fits call = procedure_holds m c Fits (λ status storable limited. tt) call (call_fits call)
