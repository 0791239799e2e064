-- What follows the inodes before a call: none where there was none, and where there is one still, it is of the same type.
use Rattle.std.proofs.Common.{◌≡◌, ℕ, Bool, true, false, cond, ◌⊎◌, inl, inr, List, Option, Some, None, nat_le, refl, ◌∙◌}
use Rattle.std.specs.Ordering.{nat_cmp, eq_by_cmp}
use Rattle.std.specs.FinMap.{get, insert, remove, nat_cmp-IsAntisymmetric}
use Rattle.std.proofs.lemmas.Map.Views.{tells_apart}
use Rattle.bfs_model.specs.Server.Tree.{Time, Entry, Listing, Body, file, directory, link, Inode, Inodes}
use Rattle.bfs_model.specs.Bytes.Attributes.{type_of}
use Rattle.bfs_model.specs.Bytes.Arguments.{Settings}
use Rattle.bfs_model.specs.Server.Changes.{resized_body, with_size, with_settings, overwritten_body, with_bytes, with_listing, with_entry, without_entry, with_parent, with_link_less, changed, link_lost}
use Rattle.bfs_model.proofs.Maps.{got, got_removed}

-- One fileid ---------------------------------------------------------------------------------------------------------------

abbrev pub IsFollowed : (before after : Option Inode) → Type 0
IsFollowed before None = Unit {0}
IsFollowed None (Some after) = ⊥
IsFollowed (Some before) (Some after) = type_of after.body ≡ type_of before.body

followed_by_itself : (there : Option Inode) → IsFollowed there there
followed_by_itself None = tt
followed_by_itself (Some inode) = refl

followed_then : (before between after : Option Inode) → IsFollowed before between → IsFollowed between after → IsFollowed before after
followed_then before between None first next = tt
followed_then before None (Some after) first next = absurd next
followed_then None (Some between) (Some after) first next = absurd first
followed_then (Some before) (Some between) (Some after) first next = next ∙ first

-- All of them --------------------------------------------------------------------------------------------------------------

abbrev pub Follows : (m n : Inodes) → Type 0
Follows m n = (id : ℕ) → IsFollowed (get m id) (get n id)

pub follows_itself : (m : Inodes) → Follows m m
follows_itself m id = followed_by_itself (get m id)

pub follows_then : (m n p : Inodes) → Follows m n → Follows n p → Follows m p
follows_then m n p first next id = followed_then (get m id) (get n id) (get p id) (first id) (next id)

inserted_at : (b : Bool) (m : Inodes) (k : ℕ) (old new : Inode) (q : ℕ) → eq_by_cmp nat_cmp q k ≡ b → get m k ≡ Some old → type_of new.body ≡ type_of old.body
    → IsFollowed (get m q) (cond b (Some new) (get m q))
inserted_at true m k old new q is there same = rw (tells_apart nat_cmp-IsAntisymmetric q k is, there) same
inserted_at false m k old new q is there same = followed_by_itself (get m q)

pub insert_follows : (m : Inodes) (k : ℕ) (old new : Inode) → get m k ≡ Some old → type_of new.body ≡ type_of old.body → Follows m (insert m k new)
insert_follows m k old new there same id = rw (got m k new id) (inserted_at (eq_by_cmp nat_cmp id k) m k old new id refl there same)

removed_at : (b : Bool) (there : Option Inode) → IsFollowed there (cond b None there)
removed_at true there = tt
removed_at false there = followed_by_itself there

pub remove_follows : (m : Inodes) (k : ℕ) → Follows m (remove m k)
remove_follows m k id = rw (got_removed m k id) (removed_at (eq_by_cmp nat_cmp id k) (get m id))

made_at : (b : Bool) (m n : Inodes) (o : ℕ) (new : Inode) (q : ℕ) → eq_by_cmp nat_cmp q o ≡ b → Follows m n → (q ≡ o) ⊎ IsFollowed (get m q) (cond b (Some new) (get n q))
made_at true m n o new q is follows = inl (tells_apart nat_cmp-IsAntisymmetric q o is)
made_at false m n o new q is follows = inr (follows q)

pub made_follows : (m n : Inodes) (o : ℕ) (new : Inode) → Follows m n → (id : ℕ) → (id ≡ o) ⊎ IsFollowed (get m id) (get (insert n o new) id)
made_follows m n o new follows id = rw (got n o new id) (made_at (eq_by_cmp nat_cmp id o) m n o new id refl follows)

-- Changes of one inode ---------------------------------------------------------------------------------------------------

changed_of : (m : Inodes) (id : ℕ) (change : Inode → Inode) → ((inode : Inode) → type_of (change inode).body ≡ type_of inode.body) → (there : Option Inode) → get m id ≡ there → Follows m (changed m id change)
unfolding changed
changed_of m id change same None is = rw is (follows_itself m)
changed_of m id change same (Some inode) is = rw is (insert_follows m id inode (change inode) is (same inode))

pub changed_follows : (m : Inodes) (id : ℕ) (change : Inode → Inode) → ((inode : Inode) → type_of (change inode).body ≡ type_of inode.body) → Follows m (changed m id change)
changed_follows m id change same = changed_of m id change same (get m id) refl

lost_by : (last : Bool) (m : Inodes) (now : Time) (id : ℕ) (inode : Inode) → get m id ≡ Some inode → Follows m (cond last (remove m id) (insert m id (with_link_less now inode)))
lost_by true m now id inode is = remove_follows m id
lost_by false m now id inode is = insert_follows m id inode (with_link_less now inode) is refl

lost_of : (m : Inodes) (now : Time) (id : ℕ) (there : Option Inode) → get m id ≡ there → Follows m (link_lost m now id)
unfolding link_lost
lost_of m now id None is = rw is (follows_itself m)
lost_of m now id (Some inode) is = rw is (lost_by (nat_le inode.links 1) m now id inode is)

pub link_lost_follows : (m : Inodes) (now : Time) (id : ℕ) → Follows m (link_lost m now id)
link_lost_follows m now id = lost_of m now id (get m id) refl

-- The type stays -------------------------------------------------------------------------------------------------------------

type_resized : (size : ℕ) (body : Body) → type_of (resized_body size body) ≡ type_of body
type_resized size (file bytes) = refl
type_resized size (directory listing) = refl
type_resized size (link path) = refl

type_with_size : (now : Time) (size : Option ℕ) (inode : Inode) → type_of (with_size now size inode).body ≡ type_of inode.body
type_with_size now None inode = refl
type_with_size now (Some size) inode = type_resized size inode.body

pub type_with_settings : (now : Time) (settings : Settings) (inode : Inode) → type_of (with_settings now settings inode).body ≡ type_of inode.body
type_with_settings now settings inode = type_with_size now settings.size inode

type_overwritten : (offset : ℕ) (written : List ℕ) (body : Body) → type_of (overwritten_body offset written body) ≡ type_of body
type_overwritten offset written (file bytes) = refl
type_overwritten offset written (directory listing) = refl
type_overwritten offset written (link path) = refl

pub type_with_bytes : (now : Time) (offset : ℕ) (written : List ℕ) (inode : Inode) → type_of (with_bytes now offset written inode).body ≡ type_of inode.body
type_with_bytes now offset written inode = type_overwritten offset written inode.body

type_with_listing : (change : Listing → Listing) (body : Body) → type_of (with_listing change body) ≡ type_of body
type_with_listing change (file bytes) = refl
type_with_listing change (directory listing) = refl
type_with_listing change (link path) = refl

pub type_with_entry : (now : Time) (entry : Entry) (inode : Inode) → type_of (with_entry now entry inode).body ≡ type_of inode.body
type_with_entry now entry inode = type_with_listing _ inode.body

pub type_without_entry : (now : Time) (name : List ℕ) (inode : Inode) → type_of (without_entry now name inode).body ≡ type_of inode.body
type_without_entry now name inode = type_with_listing _ inode.body

pub type_with_parent : (parent : ℕ) (inode : Inode) → type_of (with_parent parent inode).body ≡ type_of inode.body
type_with_parent parent inode = type_with_listing _ inode.body
