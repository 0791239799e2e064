-- What the tests of a new name say, and what a fresh ordinal says of the directories that are written.
use Rattle.std.proofs.Common.{◌≡◌, ℕ, ◌<◌, Bool, false, IsFalse, List, [], ◌∷◌, ◌++◌, length, Option, Some, None, is_some, Ok, inl, inr, refl, subst}
use Rattle.std.specs.Bool.{⊤}
use Rattle.std.specs.Prelude.{All}
use Rattle.std.specs.List.{AllByRecursion}
use Rattle.std.proofs.lemmas.Bool.{both_ways, leb-false}
use Rattle.bfs_model.specs.Server.Limits.{most_entries}
use Rattle.bfs_model.specs.Server.Tree.{Listing, Body, Inode, Inodes, entries_in, entries_at}
use Rattle.bfs_model.specs.Server.Context.{Context}
use Rattle.bfs_model.specs.Bytes.Replies.{Status, nospc}
use Rattle.bfs_model.specs.Server.Directories.{is_bad_name, entry_named}
use Rattle.bfs_model.specs.Server.Refusals.{FoundDirectory, checked, is_spent, is_full}
use Rattle.bfs_model.specs.Server.Procedures.Making.{new_name_refusals}
use Rattle.bfs_model.specs.Server.Footprints.{Footprint, ids_in, IsNewAt, IsNewIn, IsFreshFor}
use Rattle.bfs_model.proofs.Found.{IsAmong, fails, IsDirectoryAt}

-- What the tests say -------------------------------------------------------------------------------------------------------

pub none_from : {X : Type 0} (found : Option X) → is_some found ≡ false → found ≡ None
none_from None e = refl
none_from (Some x) e = absurd cc

-- a name that may come to a directory
pub record IsNewName (c : Context) (listing : Listing) (name : List ℕ) : Type 0 where
  pub good : IsFalse (is_bad_name name)
  pub free : entry_named name listing.entries ≡ None
  pub left : is_spent c.ordinal ≡ false
  pub fewer : length listing.entries < most_entries

-- a test of one of two lists is one of both
ahead : (test : Bool) (rows more : List (Bool × Status)) → IsAmong test rows → IsAmong test (rows ++ more)
ahead test [] more among = absurd among
ahead test (row ∷ rows) more (inl here) = inl here
ahead test (row ∷ rows) more (inr further) = inr (ahead test rows more further)

pub behind : (test : Bool) (rows more : List (Bool × Status)) → IsAmong test more → IsAmong test (rows ++ more)
behind test [] more among = among
behind test (row ∷ rows) more among = inr (behind test rows more among)

pub new_name : (c : Context) (dir : FoundDirectory) (name : List ℕ) (of_owners more : List (Bool × Status)) (allowed : ⊤) → checked (new_name_refusals c dir name of_owners ++ more) ≡ Ok allowed → IsNewName c dir.listing name
new_name c dir name of_owners more allowed passed =
    let rows : List (Bool × Status) = new_name_refusals c dir name of_owners ++ more in
    let entries = dir.listing.entries in
    let last : (test : Bool) → IsAmong test ((is_spent c.ordinal, nospc) ∷ (is_full (length entries), nospc) ∷ []) → IsAmong test rows =
    λ test among. inr (inr (inr (ahead test (of_owners ++ (is_spent c.ordinal, nospc) ∷ (is_full (length entries), nospc) ∷ []) more (behind test of_owners _ among)))) in
    record {
      good = fails (is_bad_name name) rows allowed passed (inr (inl refl));
      free = none_from (entry_named name entries) (fails (is_some (entry_named name entries)) rows allowed passed (inr (inr (inl refl))));
      left = fails (is_spent c.ordinal) rows allowed passed (last (is_spent c.ordinal) (inl refl));
      fewer = leb-false most_entries (length entries) (fails (is_full (length entries)) rows allowed passed (last (is_full (length entries)) (inr (inl refl))));
    }

-- What a fresh ordinal says ------------------------------------------------------------------------------------------------

pub front_of : (P : ℕ → Type 0) (xs ys : List ℕ) → AllByRecursion P (xs ++ ys) → AllByRecursion P xs
front_of P [] ys each = tt
front_of P (x ∷ xs) ys each = (each.0, front_of P xs ys each.1)

pub back_of : (P : ℕ → Type 0) (xs ys : List ℕ) → AllByRecursion P (xs ++ ys) → AllByRecursion P ys
back_of P [] ys each = each
back_of P (x ∷ xs) ys each = back_of P xs ys each.1

pub led_of : (P : ℕ → Type 0) (handle : Option ℕ) (id : ℕ) → handle ≡ Some id → AllByRecursion P (ids_in handle) → P id
led_of P handle id is each = (subst (λ h. AllByRecursion P (ids_in h)) is each).0

pub new_where_left : (m : Inodes) (o : ℕ) (footprint : Footprint) → is_spent o ≡ false → IsFreshFor m o footprint → IsNewIn m o footprint
new_where_left m o footprint left (inl spent) = absurd (both_ways (is_spent o) left spent)
new_where_left m o footprint left (inr new) = new

-- the cookies of a directory that is written are below a new ordinal
pub cookies_below : (m : Inodes) (o : ℕ) (handle : Option ℕ) (dir : FoundDirectory) → IsDirectoryAt m handle dir → IsNewAt m o dir.id → All (λ entry. entry.cookie < o) dir.listing.entries
cookies_below m o handle dir at new =
    subst (λ (body : Body). All (λ entry. entry.cookie < o) (entries_in body)) at.holds (subst (λ (found : Option Inode). All (λ entry. entry.cookie < o) (entries_at found)) at.there new.1)
