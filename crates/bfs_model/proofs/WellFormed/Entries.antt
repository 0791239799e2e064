-- The limits of a directory's entries, when one is put at their end or the one of a name is taken out.
use Rattle.std.proofs.Common.{◌≡◌, ℕ, ◌+◌, ◌<◌, ◌≤◌, Bool, true, false, cond, IsFalse, List, [], ◌∷◌, ◌++◌, length, Option, Some, None, refl, sym, subst, ◌∙◌, arith}
use Rattle.std.specs.Prelude.{bytes_eq, All}
use Rattle.std.proofs.lemmas.Bool.{both_ways, false_from_ne_true}
use Rattle.std.proofs.lemmas.List.Elements.{All-cons, All-head, All-tail}
use Rattle.std.proofs.lemmas.List.Folds.{find-append}
use Rattle.std.proofs.lemmas.Slice.Eq.{bytes_eq-Decides}
use Rattle.bfs_model.specs.Server.Tree.{Entry}
use Rattle.bfs_model.specs.Server.Limits.{most_name_bytes}
use Rattle.bfs_model.specs.Server.Directories.{is_bad_name, entry_named, without_name}
use Rattle.bfs_model.specs.Server.WellFormed.{IsRising, HasNames, NamesDiffer}

-- Each of them ----------------------------------------------------------------------------------------------------------

without_by : (P : Entry → Type 0) (test : Bool) (entry : Entry) (entries without : List Entry) → All P (entry ∷ entries) → All P without → All P (cond test entries (entry ∷ without))
without_by P true entry entries without h further = All-tail P entry entries h
without_by P false entry entries without h further = All-cons P entry without (All-head P entry entries h) further

-- what holds of each entry, holds of those that are left
pub all_without : (P : Entry → Type 0) (name : List ℕ) (entries : List Entry) → All P entries → All P (without_name name entries)
all_without P name [] h = h
all_without P name (entry ∷ entries) h = without_by P (bytes_eq entry.name name) entry entries (without_name name entries) h (all_without P name entries (All-tail P entry entries h))

-- Cookies ------------------------------------------------------------------------------------------------------------

-- where they rise from one number on, they do from a lower one
rising_from : (least lower : ℕ) (entries : List Entry) (o : ℕ) → lower ≤ least → IsRising least entries o → IsRising lower entries o
rising_from least lower [] o le h = tt
rising_from least lower (entry ∷ entries) o le h = let low : least ≤ entry.cookie = h.0 in (omega arith, h.1, h.2)

-- an entry comes last whose cookie is above the others'
pub rising_pushed : (least : ℕ) (entries : List Entry) (last : Entry) (o : ℕ) → least ≤ last.cookie → last.cookie < o → All (λ entry. entry.cookie < last.cookie) entries → IsRising least entries o → IsRising least (entries ++ last ∷ []) o
rising_pushed least [] last o low lt below h = (low, lt, tt)
rising_pushed least (entry ∷ entries) last o low lt below h =
    let first : entry.cookie < last.cookie = All-head (λ (entry : Entry). entry.cookie < last.cookie) entry entries below in
    (h.0, h.1, rising_pushed (entry.cookie + 1) entries last o (omega arith) lt (All-tail (λ (entry : Entry). entry.cookie < last.cookie) entry entries below) h.2)

rising_by : (test : Bool) (least : ℕ) (entry : Entry) (entries without : List Entry) (o : ℕ)
    → IsRising least (entry ∷ entries) o → IsRising (entry.cookie + 1) without o → IsRising least (cond test entries (entry ∷ without)) o
rising_by true least entry entries without o h further = let low : least ≤ entry.cookie = h.0 in rising_from (entry.cookie + 1) least entries o (omega arith) h.2
rising_by false least entry entries without o h further = (h.0, h.1, further)

pub rising_without : (least : ℕ) (name : List ℕ) (entries : List Entry) (o : ℕ) → IsRising least entries o → IsRising least (without_name name entries) o
rising_without least name [] o h = tt
rising_without least name (entry ∷ entries) o h = rising_by (bytes_eq entry.name name) least entry entries (without_name name entries) o h (rising_without (entry.cookie + 1) name entries o h.2)

-- Names --------------------------------------------------------------------------------------------------------------

same_name : (a b : List ℕ) → bytes_eq a b ≡ true → a ≡ b
same_name a b e = (bytes_eq-Decides a b).0 e

other_name : (a b : List ℕ) → bytes_eq a b ≡ false → bytes_eq b a ≡ false
other_name a b e = false_from_ne_true (bytes_eq b a) (λ is. both_ways (bytes_eq a b) e ((bytes_eq-Decides a b).1 (sym (same_name b a is))))

-- where none is found in a list, its first isn't it, and none is in the rest
none_further : (test : Bool) (entry : Entry) (found : Option Entry) → cond test (Some entry) found ≡ None → (test ≡ false) × (found ≡ None)
none_further true entry found e = absurd cc
none_further false entry found e = (refl, e)

none_named : (name : List ℕ) (entry : Entry) (entries : List Entry) → entry_named name (entry ∷ entries) ≡ None → (bytes_eq entry.name name ≡ false) × (entry_named name entries ≡ None)
none_named name entry entries e = none_further (bytes_eq entry.name name) entry (entry_named name entries) e

named_pushed : (name : List ℕ) (entries : List Entry) (last : Entry) → entry_named name entries ≡ None → bytes_eq last.name name ≡ false → entry_named name (entries ++ last ∷ []) ≡ None
named_pushed name entries last none other = find-append (λ (entry : Entry). bytes_eq entry.name name) entries (last ∷ []) ∙ rw (none, other) refl

pub names_pushed : (entries : List Entry) (last : Entry) → IsFalse (is_bad_name last.name) → length last.name ≤ most_name_bytes → entry_named last.name entries ≡ None → HasNames entries → HasNames (entries ++ last ∷ [])
names_pushed [] last good short none h = (good, short, refl, tt)
names_pushed (entry ∷ entries) last good short none h =
    let parts = none_named last.name entry entries none in
    (h.0, h.1, named_pushed entry.name entries last h.2 (other_name entry.name last.name parts.0), names_pushed entries last good short parts.1 h.3)

none_by : (test other : Bool) (entry : Entry) (found without : Option Entry) → (other ≡ false) × (found ≡ None) → without ≡ None → cond test found (cond other (Some entry) without) ≡ None
none_by true other entry found without parts e = parts.1
none_by false other entry found without parts e = rw (parts.0, e) refl

-- `entry_named` goes into the two lists that a name's removal chooses from
named_in : (name : List ℕ) (test : Bool) (left right : List Entry) → entry_named name (cond test left right) ≡ cond test (entry_named name left) (entry_named name right)
named_in name true left right = refl
named_in name false left right = refl

pub none_without : (name other : List ℕ) (entries : List Entry) → entry_named name entries ≡ None → entry_named name (without_name other entries) ≡ None
none_without name other [] e = refl
none_without name other (entry ∷ entries) e =
    let parts = none_named name entry entries e in
    named_in name (bytes_eq entry.name other) entries (entry ∷ without_name other entries)
    ∙ none_by (bytes_eq entry.name other) (bytes_eq entry.name name) entry (entry_named name entries) (entry_named name (without_name other entries)) parts (none_without name other entries parts.1)

pub either_by : (P : List Entry → Type 0) (test : Bool) (entries without : List Entry) → P entries → P without → P (cond test entries without)
either_by P true entries without h further = h
either_by P false entries without h further = further

pub names_without : (name : List ℕ) (entries : List Entry) → HasNames entries → HasNames (without_name name entries)
names_without name [] h = tt
names_without name (entry ∷ entries) h =
    either_by HasNames (bytes_eq entry.name name) entries (entry ∷ without_name name entries) h.3 (h.0, h.1, none_without entry.name name entries h.2, names_without name entries h.3)

pub differ_without : (name : List ℕ) (entries : List Entry) → NamesDiffer entries → NamesDiffer (without_name name entries)
differ_without name [] h = tt
differ_without name (entry ∷ entries) h =
    either_by NamesDiffer (bytes_eq entry.name name) entries (entry ∷ without_name name entries) h.1 (none_without entry.name name entries h.0, differ_without name entries h.1)

pub names_differ : (entries : List Entry) → HasNames entries → NamesDiffer entries
names_differ [] h = tt
names_differ (entry ∷ entries) h = (h.2, names_differ entries h.3)

gone_by : (test : Bool) (entry : Entry) (found without : Option Entry) → (test ≡ true → found ≡ None) → without ≡ None → cond test found (cond test (Some entry) without) ≡ None
gone_by true entry found without e f = e refl
gone_by false entry found without e f = f

pub gone_named : (name : List ℕ) (entries : List Entry) → NamesDiffer entries → entry_named name (without_name name entries) ≡ None
gone_named name [] h = refl
gone_named name (entry ∷ entries) h =
    named_in name (bytes_eq entry.name name) entries (entry ∷ without_name name entries)
    ∙ gone_by (bytes_eq entry.name name) entry (entry_named name entries) (entry_named name (without_name name entries))
    (λ is. subst (λ (other : List ℕ). entry_named other entries ≡ None) (same_name entry.name name is) h.0)
    (gone_named name entries h.1)

-- How many -----------------------------------------------------------------------------------------------------------

shorter_by : (test : Bool) (first entry : Entry) (found : Option Entry) (entries without : List Entry) → cond test (Some first) found ≡ Some entry → (found ≡ Some entry → length without + 1 ≡ length entries)
    → length (cond test entries (first ∷ without)) + 1 ≡ length entries + 1
shorter_by true first entry found entries without e further = refl
shorter_by false first entry found entries without e further = omega (arith, further e)

pub shorter : (name : List ℕ) (entries : List Entry) (entry : Entry) → entry_named name entries ≡ Some entry → length (without_name name entries) + 1 ≡ length entries
shorter name [] entry e = absurd cc
shorter name (first ∷ entries) entry e = omega (arith, shorter_by (bytes_eq first.name name) first entry (entry_named name entries) entries (without_name name entries) e (shorter name entries entry))

no_longer_by : (test : Bool) (first : Entry) (entries without : List Entry) → length without ≤ length entries → length (cond test entries (first ∷ without)) ≤ length entries + 1
no_longer_by true first entries without le = omega arith
no_longer_by false first entries without le = omega arith

pub no_longer : (name : List ℕ) (entries : List Entry) → length (without_name name entries) ≤ length entries
no_longer name [] = omega arith
no_longer name (first ∷ entries) = omega (arith, no_longer_by (bytes_eq first.name name) first entries (without_name name entries) (no_longer name entries))
