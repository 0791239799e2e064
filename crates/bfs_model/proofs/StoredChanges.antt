-- Changes of one inode leave one that can be stored.
use Rattle.std.proofs.Common.{◌≡◌, ℕ, ◌-◌, ◌+◌, ◌≤◌, Bool, true, false, cond, List, [], ◌∷◌, ◌++◌, length, take, drop, replicate, Option, Some, None, unwrap_or, refl, arith}
use Rattle.std.specs.Prelude.{◌==◌, nat_lt, bytes_eq, IfSome}
use Rattle.std.specs.Option.{option_map_or}
use Rattle.std.specs.List.{AllByRecursion}
use Rattle.std.proofs.lemmas.Bool.{ltb-true}
use Rattle.std.proofs.lemmas.List.Elements.{All-append, All-take, All-drop, All-replicate}
use Rattle.bfs_model.specs.Server.Tree.{Time, Entry, Body, file, directory, link, Inode}
use Rattle.bfs_model.specs.Server.FileBytes.{filled_to}
use Rattle.bfs_model.specs.Server.Directories.{without_name}
use Rattle.bfs_model.specs.Server.Context.{Context}
use Rattle.bfs_model.specs.Bytes.Arguments.{Settings}
use Rattle.bfs_model.specs.Server.Changes.{permission_bits, time_or, touched, resized_body, with_size, with_settings, overwritten_body, with_bytes, with_listing, with_entry, without_entry, with_parent, new_inode}
use Rattle.bfs_model.specs.Server.Stored.{IsWord, IsByte, AreBytes, TimeIsSpellable, IsTime, EntryIsStorable, BodyIsStorable, IsStorable, ContextIsStorable, SettingsAreStorable}

-- Parts ----------------------------------------------------------------------------------------------------------------

pub zeros_are_bytes : (n : ℕ) → AreBytes (replicate n 0)
zeros_are_bytes n = All-replicate IsByte n 0 (omega arith)

filled_are_bytes : (size : ℕ) (bytes : List ℕ) → AreBytes bytes → AreBytes (filled_to size bytes)
filled_are_bytes size bytes are = All-append IsByte bytes (replicate (size - length bytes) 0) are (zeros_are_bytes (size - length bytes))

overwritten_by : (test : Bool) (offset : ℕ) (written bytes : List ℕ) → AreBytes written → AreBytes bytes → AreBytes (cond test bytes (take offset (filled_to offset bytes) ++ written ++ drop (offset + length written) bytes))
overwritten_by true offset written bytes new old = old
overwritten_by false offset written bytes new old =
    let front : List ℕ = take offset (filled_to offset bytes) in
    All-append IsByte (front ++ written) (drop (offset + length written) bytes) (All-append IsByte front written (All-take IsByte offset (filled_to offset bytes) (filled_are_bytes offset bytes old)) new) (All-drop IsByte (offset + length written) bytes old)

entry_added : (entries : List Entry) (entry : Entry) → AllByRecursion EntryIsStorable entries → EntryIsStorable entry → AllByRecursion EntryIsStorable (entries ++ entry ∷ [])
entry_added [] entry are is = (is, tt)
entry_added (first ∷ entries) entry are is = (are.0, entry_added entries entry are.1 is)

entry_gone_by : (test : Bool) (first : Entry) (entries others : List Entry) → EntryIsStorable first → AllByRecursion EntryIsStorable entries → AllByRecursion EntryIsStorable others → AllByRecursion EntryIsStorable (cond test entries (first ∷ others))
entry_gone_by true first entries others is are left = are
entry_gone_by false first entries others is are left = (is, left)

entry_gone : (name : List ℕ) (entries : List Entry) → AllByRecursion EntryIsStorable entries → AllByRecursion EntryIsStorable (without_name name entries)
entry_gone name [] are = tt
entry_gone name (first ∷ entries) are = entry_gone_by (bytes_eq first.name name) first entries (without_name name entries) are.0 are.1 (entry_gone name entries are.1)

-- Bodies ---------------------------------------------------------------------------------------------------------------

resized_stored : (size : ℕ) (body : Body) → BodyIsStorable body → BodyIsStorable (resized_body size body)
resized_stored size (file bytes) are = All-take IsByte size (filled_to size bytes) (filled_are_bytes size bytes are)
resized_stored size (directory listing) are = are
resized_stored size (link path) are = are

overwritten_stored : (offset : ℕ) (written : List ℕ) (body : Body) → AreBytes written → BodyIsStorable body → BodyIsStorable (overwritten_body offset written body)
overwritten_stored offset written (file bytes) new are = overwritten_by (length written == 0) offset written bytes new are
overwritten_stored offset written (directory listing) new are = are
overwritten_stored offset written (link path) new are = are

with_entry_stored : (entry : Entry) (body : Body) → EntryIsStorable entry → BodyIsStorable body → BodyIsStorable (with_listing (λ listing. record listing { entries = listing.entries ++ entry ∷ [] }) body)
with_entry_stored entry (file bytes) is are = are
with_entry_stored entry (directory listing) is are = (are.0, entry_added listing.entries entry are.1 is)
with_entry_stored entry (link path) is are = are

without_entry_stored : (name : List ℕ) (body : Body) → BodyIsStorable body → BodyIsStorable (with_listing (λ listing. record listing { entries = without_name name listing.entries }) body)
without_entry_stored name (file bytes) are = are
without_entry_stored name (directory listing) are = (are.0, entry_gone name listing.entries are.1)
without_entry_stored name (link path) are = are

with_parent_stored : (parent : ℕ) (body : Body) → IsWord parent → BodyIsStorable body → BodyIsStorable (with_listing (λ listing. record listing { parent = parent }) body)
with_parent_stored parent (file bytes) is are = are
with_parent_stored parent (directory listing) is are = (is, are.1)
with_parent_stored parent (link path) is are = are

-- What settings set ----------------------------------------------------------------------------------------------------

word_stored : (set : Option ℕ) (other : ℕ) → IfSome set IsWord → IsWord other → IsWord (unwrap_or set other)
word_stored None other given is = is
word_stored (Some w) other given is = given

pub mode_stored : (mode : Option ℕ) (other : ℕ) → other ≤ 4095 → option_map_or permission_bits mode other ≤ 4095
mode_stored None other most = most
mode_stored (Some mode) other most = omega arith

module _ (now : Time) (now_is : IsTime now) where
  given_by : (test : Bool) (set : Time) → nat_lt set.useconds 1000000 ≡ test → TimeIsSpellable set → IsTime (cond test set now)
  given_by true set few is = record { seconds = is.seconds; useconds = ltb-true set.useconds 1000000 few }
  given_by false set few is = now_is

  time_stored : (set : Option Time) (other : Time) → IfSome set TimeIsSpellable → IsTime other → IsTime (time_or now set other)
  time_stored None other given is = is
  time_stored (Some set) other given is = given_by (nat_lt set.useconds 1000000) set refl given

  -- One inode ------------------------------------------------------------------------------------------------------------

  module _ (id : ℕ) (inode : Inode) (is : IsStorable id inode) where
    pub touched_stored : (body : Body) → BodyIsStorable body → IsStorable id (touched now (record inode { body = body }))
    touched_stored body are = record { fileid = is.fileid; permissions = is.permissions; uid = is.uid; gid = is.gid; atime = is.atime; mtime = now_is; ctime = now_is; body = are }

    pub linked_stored : (links : ℕ) → IsStorable id (record inode { links = links; ctime = now })
    linked_stored links = record { fileid = is.fileid; permissions = is.permissions; uid = is.uid; gid = is.gid; atime = is.atime; mtime = is.mtime; ctime = now_is; body = is.body }

    pub bytes_stored : (offset : ℕ) (written : List ℕ) → AreBytes written → IsStorable id (with_bytes now offset written inode)
    bytes_stored offset written new = touched_stored _ (overwritten_stored offset written inode.body new is.body)

    pub entry_stored : (entry : Entry) → EntryIsStorable entry → IsStorable id (with_entry now entry inode)
    entry_stored entry new = touched_stored _ (with_entry_stored entry inode.body new is.body)

    pub no_entry_stored : (name : List ℕ) → IsStorable id (without_entry now name inode)
    no_entry_stored name = touched_stored _ (without_entry_stored name inode.body is.body)

    pub parent_stored : (parent : ℕ) → IsWord parent → IsStorable id (with_parent parent inode)
    parent_stored parent new = record { fileid = is.fileid; permissions = is.permissions; uid = is.uid; gid = is.gid; atime = is.atime; mtime = is.mtime; ctime = is.ctime; body = with_parent_stored parent inode.body new is.body }

    size_stored : (size : Option ℕ) → IsStorable id (with_size now size inode)
    size_stored None = is
    size_stored (Some size) = record { fileid = is.fileid; permissions = is.permissions; uid = is.uid; gid = is.gid; atime = is.atime; mtime = now_is; ctime = is.ctime; body = resized_stored size inode.body is.body }

    pub settings_stored : (settings : Settings) → SettingsAreStorable settings → IsStorable id (with_settings now settings inode)
    settings_stored settings set =
        let sized = size_stored settings.size in record {
          fileid = is.fileid;
          permissions = mode_stored settings.mode inode.permissions is.permissions;
          uid = word_stored settings.uid inode.uid set.uid is.uid;
          gid = word_stored settings.gid inode.gid set.gid is.gid;
          atime = time_stored settings.atime inode.atime set.atime is.atime;
          mtime = time_stored settings.mtime (with_size now settings.size inode).mtime set.mtime sized.mtime;
          ctime = now_is;
          body = sized.body;
        }

-- A new inode, of the caller
pub new_stored : (c : Context) → ContextIsStorable c → (id : ℕ) → IsWord id → (settings : Settings) → SettingsAreStorable settings → (permissions links : ℕ) (body : Body) → permissions ≤ 4095 → BodyIsStorable body
    → IsStorable id (new_inode c.time c.caller settings permissions links body)
new_stored c storable id is settings set permissions links body few are = record {
  fileid = is;
  permissions = few;
  uid = word_stored settings.uid c.caller.uid set.uid storable.caller.uid;
  gid = word_stored settings.gid c.caller.gid set.gid storable.caller.gid;
  atime = time_stored c.time storable.time settings.atime c.time set.atime storable.time;
  mtime = time_stored c.time storable.time settings.mtime c.time set.mtime storable.time;
  ctime = storable.time;
  body = are;
}
