-- Each inode stays numbered by ordinals, the call's among them; and under the next ordinal every call is fresh.
use Rattle.std.proofs.Common.{◌≡◌, ℕ, ◌<◌, ◌≤◌, false, List, [], ◌∷◌, ◌++◌, Option, Some, None, inr, refl, ap, ◌∙◌, arith}
use Rattle.std.specs.Prelude.{All, bytes_eq}
use Rattle.std.specs.List.{AllByRecursion}
use Rattle.std.specs.FinMap.{get, empty}
use Rattle.std.proofs.lemmas.Bool.{leb-false}
use Rattle.std.proofs.lemmas.List.Elements.{All-nil, All-weaker, All-from_recursion}
use Rattle.bfs_model.specs.Server.Tree.{Entry, Listing, Body, file, directory, link, Inode, Inodes, root_id, first_ordinal, spent_ordinal, new_root, new_tree, entries_in, entries_at, parent_in}
use Rattle.bfs_model.specs.Server.Context.{Context}
use Rattle.bfs_model.specs.Server.Directories.{without_name}
use Rattle.bfs_model.specs.Bytes.Arguments.{Call}
use Rattle.bfs_model.specs.Server.Changes.{with_listing, without_entry, with_parent}
use Rattle.bfs_model.specs.Server.Refusals.{is_spent}
use Rattle.bfs_model.specs.Server.Procedures.{procedure}
use Rattle.bfs_model.specs.Server.Procedures.Making.{entry_made, with_name}
use Rattle.bfs_model.specs.Server.Footprints.{Footprint, footprint, known, whole, IsNewAt, IsNewIn, IsFreshFor}
use Rattle.bfs_model.specs.Server.Serial.{ordinal_after}
use Rattle.bfs_model.specs.Server.WellFormed.{IsWellFormedTree, IsNumbered}
use Rattle.bfs_model.specs.Server.Short.{IsShort}
use Rattle.bfs_model.proofs.Maps.{got_of_none}
use Rattle.bfs_model.proofs.WellFormed.Each.{each_inserted}
use Rattle.bfs_model.proofs.WellFormed.Entries.{either_by}
use Rattle.bfs_model.proofs.WellFormed.KeptEach.{IsKeptBy, each_kept}

-- each inode is
abbrev pub AreNumbered : Inodes → (ordinal : ℕ) → Type 0
AreNumbered m o = (id : ℕ) (inode : Inode) → get m id ≡ Some inode → IsNumbered o id inode

abbrev IsCookie : (ordinal : ℕ) → Entry → Type 0
IsCookie o entry = (first_ordinal ≤ entry.cookie) × (entry.cookie < o)

-- Freshness ----------------------------------------------------------------------------------------------------------------

none_there : (m : Inodes) (o : ℕ) → AreNumbered m o → (id : ℕ) (found : Option Inode) → get m id ≡ found → id ≡ o → found ≡ None
none_there m o numbered id None there is = refl
none_there m o numbered id (Some inode) there is = let below : id < o = (numbered id inode there).fileid.1 in absurd (omega arith)

below_in : (m : Inodes) (o : ℕ) → AreNumbered m o → (id : ℕ) (found : Option Inode) → get m id ≡ found → All (λ entry. entry.cookie < o) (entries_at found)
below_in m o numbered id None there = All-nil (λ (entry : Entry). entry.cookie < o)
below_in m o numbered id (Some inode) there = All-weaker (IsCookie o) (λ entry. entry.cookie < o) (λ entry h. h.1) (entries_in inode.body) (All-from_recursion (IsCookie o) (entries_in inode.body) (numbered id inode there).cookies)

new_at : (m : Inodes) (o : ℕ) → AreNumbered m o → (id : ℕ) → IsNewAt m o id
new_at m o numbered id = (none_there m o numbered id (get m id) refl, below_in m o numbered id (get m id) refl)

new_at_each : (m : Inodes) (o : ℕ) → AreNumbered m o → (ids : List ℕ) → AllByRecursion (IsNewAt m o) ids
new_at_each m o numbered [] = tt
new_at_each m o numbered (id ∷ ids) = (new_at m o numbered id, new_at_each m o numbered ids)

new_in : (m : Inodes) (o : ℕ) → AreNumbered m o → (footprint : Footprint) → IsNewIn m o footprint
new_in m o numbered (known reads writes) = new_at_each m o numbered writes
new_in m o numbered whole = new_at m o numbered

-- the next ordinal is fresh, whatever is touched
pub fresh_where_numbered : (m : Inodes) (o : ℕ) (footprint : Footprint) → AreNumbered m o → IsFreshFor m o footprint
fresh_where_numbered m o footprint numbered = inr (new_in m o numbered footprint)

-- Of one inode -------------------------------------------------------------------------------------------------------------

cookies_older : (o n : ℕ) (entries : List Entry) → o ≤ n → AllByRecursion (IsCookie o) entries → AllByRecursion (IsCookie n) entries
cookies_older o n [] le h = tt
cookies_older o n (entry ∷ entries) le h = let below : entry.cookie < o = h.0.1 in ((h.0.0, omega arith), cookies_older o n entries le h.1)

pub numbered_older : (m : Inodes) (o n : ℕ) → o ≤ n → AreNumbered m o → AreNumbered m n
numbered_older m o n le numbered id x there = let h = numbered id x there in let below : id < o = h.fileid.1 in
    record { fileid = (h.fileid.0, omega arith); cookies = cookies_older o n (entries_in x.body) le h.cookies; root_parent = h.root_parent }

cookies_pushed : (n : ℕ) (entries : List Entry) (last : Entry) → IsCookie n last → AllByRecursion (IsCookie n) entries → AllByRecursion (IsCookie n) (entries ++ last ∷ [])
cookies_pushed n [] last is h = (is, tt)
cookies_pushed n (entry ∷ entries) last is h = (h.0, cookies_pushed n entries last is h.1)

cookies_without : (n : ℕ) (name : List ℕ) (entries : List Entry) → AllByRecursion (IsCookie n) entries → AllByRecursion (IsCookie n) (without_name name entries)
cookies_without n name [] h = tt
cookies_without n name (entry ∷ entries) h = either_by (AllByRecursion (IsCookie n)) (bytes_eq entry.name name) entries (entry ∷ without_name name entries) h.1 (h.0, cookies_without n name entries h.1)

-- what is numbered stays so with another listing
listed : (n id : ℕ) (change : Listing → Listing) (x y : Inode) → y.body ≡ with_listing change x.body → ((listing : Listing) → AllByRecursion (IsCookie n) listing.entries → AllByRecursion (IsCookie n) (change listing).entries)
    → (id ≡ root_id → (listing : Listing) → (change listing).parent ≡ listing.parent) → IsNumbered n id x → IsNumbered n id y
listed n id change x y is entries parent h = record { fileid = h.fileid; cookies = rw is (cookies x.body h.cookies); root_parent = λ top. rw is (parents x.body top (h.root_parent top)) }
  where
    cookies : (body : Body) → AllByRecursion (IsCookie n) (entries_in body) → AllByRecursion (IsCookie n) (entries_in (with_listing change body))
    cookies (file bytes) own = own
    cookies (directory listing) own = entries listing own
    cookies (link path) own = own

    parents : (body : Body) → id ≡ root_id → parent_in body ≡ Some root_id → parent_in (with_listing change body) ≡ Some root_id
    parents (file bytes) top own = own
    parents (directory listing) top own = ap Some (parent top listing) ∙ own
    parents (link path) top own = own

-- .. and where it has the same one
numbered_as : (n id : ℕ) (x y : Inode) → (entries_in y.body ≡ entries_in x.body) × (parent_in y.body ≡ parent_in x.body) → IsNumbered n id x → IsNumbered n id y
numbered_as n id x y same h = record { fileid = h.fileid; cookies = rw same.0 h.cookies; root_parent = λ top. same.1 ∙ h.root_parent top }

-- The calls ----------------------------------------------------------------------------------------------------------------

module _ (m : Inodes) (c : Context) (first : first_ordinal ≤ c.ordinal) (most : c.ordinal ≤ spent_ordinal) where
  abbrev next : ℕ
  next = ordinal_after c.ordinal 1

  cookie : (name : List ℕ) (child : ℕ) → is_spent c.ordinal ≡ false → IsCookie next (entry_made c name child)
  cookie name child left = let less : c.ordinal < spent_ordinal = leb-false spent_ordinal c.ordinal left in (first, omega arith)

  -- an inode that is made has no entries, and is not the root
  made : is_spent c.ordinal ≡ false → (x : Inode) → entries_in x.body ≡ [] → IsNumbered next c.ordinal x
  made left x bare = record { fileid = (omega arith, (cookie [] 0 left).1); cookies = rw bare tt; root_parent = λ top. absurd (omega arith) }

  numbered_by : IsKeptBy c (IsNumbered next)
  numbered_by = record {
    alike = λ id x y same h. numbered_as next id x y same h;
    entered = λ left id name child x h. listed next id _ x (with_name c name child x) refl (λ listing. cookies_pushed next listing.entries (entry_made c name child) (cookie name child left)) (λ top listing. refl) h;
    without = λ id name x h. listed next id _ x (without_entry c.time name x) refl (λ listing. cookies_without next name listing.entries) (λ top listing. refl) h;
    hung = λ id parent x not_root h. listed next id _ x (with_parent parent x) refl (λ listing own. own) (λ top. absurd (not_root top)) h;
    made = made;
  }

  pub numbered_kept : AreNumbered m c.ordinal → IsWellFormedTree m → (call : Call) → IsShort call → AreNumbered (procedure m c call).0 next
  numbered_kept numbered formed call short =
      (each_kept m c (IsNumbered next) numbered_by formed.limited (numbered_older m c.ordinal next (omega arith) numbered) formed.tree call (fresh_where_numbered m c.ordinal (footprint m c call) numbered) short).1

pub new_is_numbered : AreNumbered new_tree first_ordinal
new_is_numbered = each_inserted (IsNumbered first_ordinal) empty (λ id inode there. absurd (cc (got_of_none id))) root_id new_root (record { fileid = (omega arith, omega arith); cookies = tt; root_parent = λ is. refl })
