-- The limits of one inode, and how they go through what procedures do to it.
use Rattle.std.proofs.Common.{◌≡◌, ℕ, ◌+◌, ◌-◌, ◌<◌, ◌≤◌, Bool, true, false, cond, IsFalse, List, [], ◌∷◌, ◌++◌, length, take, drop, replicate, Option, Some, None, Ok, inl, inr, refl, arith}
use Rattle.std.specs.Bool.{⊤}
use Rattle.std.specs.Prelude.{◌==◌, nat_lt}
use Rattle.std.specs.FinMap.{get, empty}
use Rattle.std.proofs.lemmas.Bool.{ltb-false, leb-false}
use Rattle.std.proofs.lemmas.List.{length-append, length-take, length-drop}
use Rattle.bfs_model.specs.Server.Limits.{most_file_bytes, most_name_bytes, most_entries, most_links}
use Rattle.bfs_model.specs.Server.Tree.{Time, Body, file, directory, link, Inode, Inodes, root_id, spent_ordinal, new_root, new_tree, is_directory_body, entries_in}
use Rattle.bfs_model.specs.Server.Context.{Context}
use Rattle.bfs_model.specs.Bytes.Call.{Credential}
use Rattle.bfs_model.specs.Bytes.Arguments.{Settings}
use Rattle.bfs_model.specs.Bytes.Replies.{Status}
use Rattle.bfs_model.specs.Server.FileBytes.{filled_to, resized, overwritten}
use Rattle.bfs_model.specs.Server.Directories.{is_bad_name, without_name}
use Rattle.bfs_model.specs.Server.Changes.{with_settings, with_bytes, with_size, resized_body, overwritten_body, with_listing, without_entry, with_parent, with_link, with_link_less, with_ctime}
use Rattle.bfs_model.specs.Server.Refusals.{checked, is_spent}
use Rattle.bfs_model.specs.Server.Procedures.Attributes.{setting_refusals, size_refusals, set_refusals}
use Rattle.bfs_model.specs.Server.Procedures.Making.{entry_made, with_name}
use Rattle.bfs_model.specs.Server.WellFormed.{BodyIsLimited, IsLimited}
use Rattle.bfs_model.proofs.Maps.{got_of_none}
use Rattle.bfs_model.proofs.Found.{fails}
use Rattle.bfs_model.proofs.WellFormed.Each.{each_inserted}
use Rattle.bfs_model.proofs.WellFormed.Entries.{rising_pushed, rising_without, names_pushed, names_without, no_longer}
use Rattle.bfs_model.proofs.WellFormed.NewNames.{behind}
use Rattle.bfs_model.proofs.WellFormed.RenamingRoom.{HasRoomIn, HasRoomFor}

-- each inode is
abbrev pub AreLimited : Inodes → Type 0
AreLimited m = (id : ℕ) (inode : Inode) → get m id ≡ Some inode → IsLimited inode

-- Entries ------------------------------------------------------------------------------------------------------------------

entry_body : (c : Context) (name : List ℕ) (child links : ℕ) (body : Body) → is_spent c.ordinal ≡ false → IsFalse (is_bad_name name) → length name ≤ most_name_bytes → HasRoomIn c.ordinal name (entries_in body)
    → BodyIsLimited links body → BodyIsLimited links (with_listing (λ listing. record listing { entries = listing.entries ++ entry_made c name child ∷ [] }) body)
entry_body c name child links (file bytes) left good short room h = h
entry_body c name child links (directory listing) left good short room h =
    let few : length listing.entries < most_entries = room.fewer in
    let unspent : c.ordinal < spent_ordinal = leb-false spent_ordinal c.ordinal left in (
      omega (arith, length-append listing.entries (entry_made c name child ∷ [])),
      rising_pushed 0 listing.entries (entry_made c name child) spent_ordinal (omega arith) unspent room.below h.1,
      names_pushed listing.entries (entry_made c name child) good short room.free h.2,
    )
entry_body c name child links (link path) left good short room h = h

pub entry_limited : (c : Context) (name : List ℕ) (child : ℕ) (x : Inode) → is_spent c.ordinal ≡ false → IsFalse (is_bad_name name) → length name ≤ most_name_bytes → HasRoomFor c.ordinal name x
    → IsLimited x → IsLimited (with_name c name child x)
entry_limited c name child x left good short room h = record { links = h.links; body = entry_body c name child x.links x.body left good short room h.body }

without_body : (links : ℕ) (name : List ℕ) (body : Body) → BodyIsLimited links body → BodyIsLimited links (with_listing (λ listing. record listing { entries = without_name name listing.entries }) body)
without_body links name (file bytes) h = h
without_body links name (directory listing) h =
    let most : length listing.entries ≤ most_entries = h.0 in
    (omega (arith, no_longer name listing.entries), rising_without 0 name listing.entries spent_ordinal h.1, names_without name listing.entries h.2)
without_body links name (link path) h = h

pub without_limited : (now : Time) (name : List ℕ) (x : Inode) → IsLimited x → IsLimited (without_entry now name x)
without_limited now name x h = record { links = h.links; body = without_body x.links name x.body h.body }

parent_body : (links parent : ℕ) (body : Body) → BodyIsLimited links body → BodyIsLimited links (with_listing (λ listing. record listing { parent = parent }) body)
parent_body links parent (file bytes) h = h
parent_body links parent (directory listing) h = h
parent_body links parent (link path) h = h

pub parent_limited : (parent : ℕ) (x : Inode) → IsLimited x → IsLimited (with_parent parent x)
parent_limited parent x h = record { links = h.links; body = parent_body x.links parent x.body h.body }

-- Links --------------------------------------------------------------------------------------------------------------------

links_body : (links other : ℕ) (body : Body) → (IsFalse (is_directory_body body) → 1 ≤ links → 1 ≤ other) → BodyIsLimited links body → BodyIsLimited other body
links_body links other (file bytes) least h = (least refl h.0, h.1)
links_body links other (directory listing) least h = h
links_body links other (link path) least h = (least refl h.0, h.1)

pub link_limited : (now : Time) (x : Inode) → x.links < most_links → IsLimited x → IsLimited (with_link now x)
link_limited now x lt h = record { links = omega arith; body = links_body x.links (x.links + 1) x.body (λ is least. omega arith) h.body }

-- of a directory, or of what has a link left
pub link_less_limited : (now : Time) (x : Inode) → (IsFalse (is_directory_body x.body) → 2 ≤ x.links) → IsLimited x → IsLimited (with_link_less now x)
link_less_limited now x many h = let most : x.links ≤ most_links = h.links in record {
  links = omega arith;
  body = links_body x.links (x.links - 1) x.body (λ is least. let more : 2 ≤ x.links = many is in omega arith) h.body;
}

pub ctime_limited : (now : Time) (x : Inode) → IsLimited x → IsLimited (with_ctime now x)
ctime_limited now x h = record { links = h.links; body = h.body }

-- Bytes --------------------------------------------------------------------------------------------------------------------

resized_most : (size : ℕ) (bytes : List ℕ) → length (resized size bytes) ≤ size
resized_most size bytes = omega (arith, length-take size (bytes ++ replicate (size - length bytes) 0))

overwritten_by : (test : Bool) (front written back bytes : List ℕ) (offset : ℕ) → length front ≤ offset → length back ≡ length bytes - (offset + length written) → length bytes ≤ most_file_bytes → offset + length written ≤ most_file_bytes
    → length (cond test bytes (front ++ written ++ back)) ≤ most_file_bytes
overwritten_by true front written back bytes offset before after most end = most
overwritten_by false front written back bytes offset before after most end = simp (length-append {A = ℕ}) (omega arith)

overwritten_most : (offset : ℕ) (written bytes : List ℕ) → length bytes ≤ most_file_bytes → offset + length written ≤ most_file_bytes → length (overwritten offset written bytes) ≤ most_file_bytes
overwritten_most offset written bytes most end =
    overwritten_by (length written == 0) (take offset (filled_to offset bytes)) written (drop (offset + length written) bytes) bytes offset
    (omega (arith, length-take offset (filled_to offset bytes))) (length-drop (offset + length written) bytes) most end

bytes_body : (links offset : ℕ) (written : List ℕ) (body : Body) → offset + length written ≤ most_file_bytes → BodyIsLimited links body → BodyIsLimited links (overwritten_body offset written body)
bytes_body links offset written (file bytes) end h = (h.0, overwritten_most offset written bytes h.1 end)
bytes_body links offset written (directory listing) end h = h
bytes_body links offset written (link path) end h = h

pub bytes_limited : (now : Time) (offset : ℕ) (written : List ℕ) (x : Inode) → offset + length written ≤ most_file_bytes → IsLimited x → IsLimited (with_bytes now offset written x)
bytes_limited now offset written x end h = record { links = h.links; body = bytes_body x.links offset written x.body end h.body }

module _ (caller : Credential) (before : List (Bool × Status)) (allowed : ⊤) where
  resized_limited : (x : Inode) (links size : ℕ) (body : Body) → checked (before ++ size_refusals caller x (Some size) body) ≡ Ok allowed → BodyIsLimited links body → BodyIsLimited links (resized_body size body)
  resized_limited x links size (file bytes) passed h =
      let rows : List (Bool × Status) = size_refusals caller x (Some size) (file bytes) in
      let most : size ≤ most_file_bytes = ltb-false most_file_bytes size (fails (nat_lt most_file_bytes size) (before ++ rows) allowed passed (behind (nat_lt most_file_bytes size) before rows (inr (inl refl)))) in
      (h.0, omega (arith, resized_most size bytes))
  resized_limited x links size (directory listing) passed h = h
  resized_limited x links size (link path) passed h = h

  sized_limited : (now : Time) (size : Option ℕ) (x : Inode) → checked (before ++ size_refusals caller x size x.body) ≡ Ok allowed → IsLimited x → IsLimited (with_size now size x)
  sized_limited now None x passed h = h
  sized_limited now (Some size) x passed h = record { links = h.links; body = resized_limited x x.links size x.body passed h.body }

pub settings_limited : (c : Context) (settings : Settings) (x : Inode) (allowed : ⊤) → checked (set_refusals c x settings) ≡ Ok allowed → IsLimited x → IsLimited (with_settings c.time settings x)
settings_limited c settings x allowed passed h =
    let sized = sized_limited c.caller (setting_refusals c.caller x settings) allowed c.time settings.size x passed h in
    record { links = sized.links; body = sized.body }

-- A new tree ---------------------------------------------------------------------------------------------------------------

pub new_is_limited : AreLimited new_tree
new_is_limited = each_inserted (λ id x. IsLimited x) empty (λ id inode there. absurd (cc (got_of_none id))) root_id new_root (record { links = omega arith; body = (omega arith, tt, tt) })
