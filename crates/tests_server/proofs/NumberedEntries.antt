-- A directory takes the entry of a number behind those of lower numbers.
use Rattle.std.proofs.Common.{◌≡◌, ℕ, ◌+◌, ◌<◌, ◌≤◌, ◌%◌, Bool, true, false, cond, List, [], ◌∷◌, ◌++◌, Option, Some, None, length, refl, sym, ap, ◌∙◌, arith}
use Rattle.std.specs.Prelude.{All, bytes_eq}
use Rattle.std.specs.List.{AllByRecursion}
use Rattle.std.proofs.lemmas.List.Elements.{All-weaker, All-from_recursion}
use Rattle.std.proofs.lemmas.List.{length-append}
use Rattle.std.proofs.lemmas.Slice.Eq.{bytes_eq-Decides}
use Rattle.bfs_model.specs.Server.Limits.{most_entries}
use Rattle.bfs_model.specs.Server.Tree.{Time, Entry, Body, file, directory, link, Inode, entries_in}
use Rattle.bfs_model.specs.Server.Changes.{with_entry}
use Rattle.bfs_model.specs.Server.Directories.{entry_named}
use Rattle.bfs_testing.specs.Letters.{number_of}
use Rattle.tests_server.specs.Entries.{IsBelow, AreNumbered}

pub above_numbered : (number : ℕ) (entries : List Entry) → AreNumbered number entries → All (λ entry. entry.cookie < 4 + number) entries
above_numbered number entries numbered = All-weaker (IsBelow number) (λ entry. entry.cookie < 4 + number) (λ entry h. h.1) entries (All-from_recursion (IsBelow number) entries numbered.1)

other_name : (number : ℕ) (name : List ℕ) (entry : Entry) → number_of name ≡ number → number_of entry.name < number → (b : Bool) → bytes_eq entry.name name ≡ b → b ≡ false
other_name number name entry is lower true same = let spelled : number_of entry.name ≡ number_of name = ap number_of ((bytes_eq-Decides entry.name name).0 same) in absurd (omega arith)
other_name number name entry is lower false other = refl

free_each : (number : ℕ) (name : List ℕ) (entries : List Entry) → number_of name ≡ number → AllByRecursion (IsBelow number) entries → entry_named name entries ≡ None
free_each number name [] is each = refl
free_each number name (entry ∷ entries) is each = rw (other_name number name entry is each.0.0 (bytes_eq entry.name name) refl) (free_each number name entries is each.1)

-- of the number that it spells
spells : (number : ℕ) (name : List ℕ) → number < most_entries → number_of name ≡ number % 65536 → number_of name ≡ number
spells number name few is = omega arith

pub free_numbered : (number : ℕ) (name : List ℕ) (entries : List Entry) → number < most_entries → number_of name ≡ number % 65536 → AreNumbered number entries → entry_named name entries ≡ None
free_numbered number name entries few is numbered = free_each number name entries (spells number name few is) numbered.1

each_further : (number : ℕ) (entry : Entry) (entries : List Entry) → IsBelow (number + 1) entry → AllByRecursion (IsBelow number) entries → AllByRecursion (IsBelow (number + 1)) (entries ++ entry ∷ [])
each_further number entry [] last each = (last, tt)
each_further number entry (first ∷ entries) last each =
    let low : number_of first.name < number = each.0.0 in
    let early : first.cookie < 4 + number = each.0.1 in
    ((omega arith, omega arith), each_further number entry entries last each.1)

body_further : (number : ℕ) (entry : Entry) (now : Time) (inode : Inode) (body : Body) → inode.body ≡ body → IsBelow (number + 1) entry → AreNumbered number (entries_in body) → AreNumbered (number + 1) (entries_in (with_entry now entry inode).body)
body_further number entry now inode (file bytes) is last numbered = rw is (omega arith, tt)
body_further number entry now inode (directory listing) is last numbered =
    let most : length listing.entries ≤ number = numbered.0 in
    let count : length (listing.entries ++ entry ∷ []) ≡ length listing.entries + 1 = length-append listing.entries (entry ∷ []) in
    rw is (omega arith, each_further number entry listing.entries last numbered.1)
body_further number entry now inode (link path) is last numbered = rw is (omega arith, tt)

pub numbered_further : (number : ℕ) (name : List ℕ) (child : ℕ) (now : Time) (inode : Inode) → number < most_entries → number_of name ≡ number % 65536 → AreNumbered number (entries_in inode.body)
    → AreNumbered (number + 1) (entries_in (with_entry now (record { cookie = 4 + number; name = name; child = child }) inode).body)
numbered_further number name child now inode few is numbered =
    let spelled = spells number name few is in
    body_further number (record { cookie = 4 + number; name = name; child = child }) now inode inode.body refl (omega arith, omega arith) numbered

pub none_numbered : (entries : List Entry) → entries ≡ [] → AreNumbered 0 entries
none_numbered entries none = rw none (omega arith, tt)
