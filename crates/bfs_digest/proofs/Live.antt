-- Every live file system can be spelled, and what is spelled and well formed is live.
use Rattle.std.proofs.Common.{◌≡◌, ℕ, ◌<◌, ◌≤◌, ◌^◌, List, [], ◌∷◌, ◌++◌, Option, Some, None, refl, sym, ap, ◌∙◌, append_assoc, arith}
use Rattle.std.specs.List.{AllByRecursion}
use Rattle.std.specs.FinMap.{entries, len, len-entries}
use Rattle.std.specs.Option.{option_map, ForSome}
use Rattle.bfs_model.specs.Bytes.Items.{word}
use Rattle.bfs_model.specs.Server.Limits.{most_links}
use Rattle.bfs_model.specs.Server.Stored.{BodyIsStorable, EntryIsStorable, IsLive}
use Rattle.bfs_model.specs.Server.Tree.{Entry, Body, file, directory, link, Inodes, FileSystem, root_id, first_ordinal, spent_ordinal, entries_in}
use Rattle.bfs_model.specs.Server.WellFormed.{IsRising, HasNames, BodyIsLimited, IsWellFormed}
use Rattle.bfs_digest.specs.Records.{EntryIsRecordable, BodyIsRecordable}
use Rattle.bfs_digest.specs.Text.{magic, latest_version, text_in, IsSpellable, SpellsIn}
use Rattle.bfs_digest.proofs.Records.{later_recordable}
use Rattle.bfs_digest.proofs.Texts.{behind_version, few, tree_rises}

-- From a live file system ------------------------------------------------------------------------------------------------

-- cookies that rise and are ordinals rise from the first ordinal on
cookies_rise : (entries : List Entry) (ordinal : ℕ) → IsRising 0 entries spent_ordinal → AllByRecursion (λ entry. (first_ordinal ≤ entry.cookie) × (entry.cookie < ordinal)) entries → IsRising first_ordinal entries spent_ordinal
cookies_rise [] ordinal h all = tt
cookies_rise (entry ∷ entries) ordinal h all = (all.0.0, h.1, h.2)

entries_are : (entries : List Entry) → HasNames entries → AllByRecursion EntryIsStorable entries → AllByRecursion EntryIsRecordable entries
entries_are [] names all = tt
entries_are (entry ∷ entries) names all = (record { storable = all.0; name = names.1 }, entries_are entries names.3 all.1)

body_is : (links ordinal : ℕ) (body : Body) → BodyIsLimited links body → BodyIsStorable body → AllByRecursion (λ entry. (first_ordinal ≤ entry.cookie) × (entry.cookie < ordinal)) (entries_in body) → BodyIsRecordable latest_version body
body_is links ordinal (file bytes) limited storable cookies = (storable, limited.1)
body_is links ordinal (directory listing) limited storable cookies =
    (storable.0, limited.0, cookies_rise listing.entries ordinal limited.1 cookies, entries_are listing.entries limited.2 storable.1)
body_is links ordinal (link path) limited storable cookies = (storable, limited.1)

pub live_is_spellable : (files : FileSystem) → IsLive files → IsSpellable latest_version files
live_is_spellable files live = record {
  inodes = λ id inode is.
      let limited = live.formed.tree.limited id inode is in
      let storable = live.storable id inode is in
      let numbered = live.formed.numbered id inode is in
      let few : inode.links ≤ most_links = limited.links in
      record {
        fileid = (numbered.fileid.0, storable.fileid);
        permissions = storable.permissions;
        links = omega (arith, few);
        uid = storable.uid;
        gid = storable.gid;
        atime = storable.atime;
        mtime = storable.mtime;
        ctime = storable.ctime;
        body = body_is inode.links files.next_ordinal inode.body limited.body storable.body numbered.cookies;
      };
  ordinal = live.formed.ordinal;
  last_time = live.last_time;
}

-- To a live file system --------------------------------------------------------------------------------------------------

entries_storable : (entries : List Entry) → AllByRecursion EntryIsRecordable entries → AllByRecursion EntryIsStorable entries
entries_storable [] all = tt
entries_storable (entry ∷ entries) all = (all.0.storable, entries_storable entries all.1)

body_storable : (version : ℕ) (body : Body) → BodyIsRecordable version body → BodyIsStorable body
body_storable version (file bytes) h = h.0
body_storable version (directory listing) h = (h.0, entries_storable listing.entries h.3)
body_storable version (link path) h = h.0

pub spelled_is_live : (files : FileSystem) → IsSpellable latest_version files → IsWellFormed files → IsLive files
spelled_is_live files spelled formed = record {
  formed = formed;
  storable = λ id inode is.
      let h = spelled.inodes id inode is in
      record {
        fileid = h.fileid.1;
        permissions = h.permissions;
        uid = h.uid;
        gid = h.gid;
        atime = h.atime;
        mtime = h.mtime;
        ctime = h.ctime;
        body = body_storable latest_version inode.body h.body;
      };
  last_time = spelled.last_time;
}

-- One text, one file system ------------------------------------------------------------------------------------------------

abbrev pub beginning : (version : ℕ) → List ℕ
beginning version = word magic ++ word version

pub text_split : (version : ℕ) (files : FileSystem) → text_in version files ≡ beginning version ++ behind_version files
unfolding text_in
text_split version files = simp append_assoc

pub one_text : (version : ℕ) (files : FileSystem) (one other : List ℕ) → SpellsIn version one files → SpellsIn version other files → one ≡ other
one_text version files one other a b = a.spelled ∙ sym b.spelled

-- what an older version spells the latest spells too
pub later_spellable : (version : ℕ) (files : FileSystem) → IsSpellable version files → IsSpellable latest_version files
later_spellable version files h = record {
  inodes = λ id inode is. later_recordable version id inode (h.inodes id inode is);
  ordinal = h.ordinal;
  last_time = h.last_time;
}

-- The inodes of a live file system are fewer than fileids ------------------------------------------------------------------

pub few_inodes : (files : Option FileSystem) (m : Inodes) → Some m ≡ option_map (λ f. f.tree) files → ForSome files IsLive → len m < 2 ^ 32
few_inodes None m is live = absurd cc
few_inodes (Some files) m is live =
    let spelled = live_is_spellable files (live files refl) in
    let tree : m ≡ files.tree = cc in
    let count = few latest_version root_id (entries files.tree) (omega arith) (tree_rises latest_version files.tree spelled.inodes) in
    omega (arith, ap len tree, len-entries files.tree)
