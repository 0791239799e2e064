-- The entries by cookie and the index of their names: what a look-up finds, and what is left when an entry comes or goes.
use Rattle.std.proofs.Common.{◌≡◌, ℕ, ◌+◌, ◌<◌, ◌≤◌, ◌==◌, ◌&&◌, Bool, true, false, cond, List, [], ◌∷◌, ◌++◌, Option, Some, None, bytes_eq, nat_lt, refl, sym, ap, subst, ◌∙◌, arith}
use Rattle.std.specs.Option.{option_map, option_or}
use Rattle.std.specs.List.{All, AllByRecursion}
use Rattle.std.specs.Global.{Vec}
use Rattle.std.specs.Map.{keys_of, lookup, remove_entry, values_of, KeepsOthers}
use Rattle.std.specs.BTreeMap.{BTreeMap, is_at, insert_entry, UpdatesBy}
use Rattle.std.specs.BTreeMap.Range.{entries_between, range_contains}
use Rattle.std.specs.declared.ops.Bound.TheVariants.{Excluded, Unbounded}
use Rattle.std.specs.Ordering.{nat_cmp, is_eq, is_lt, match_ordering}
use Rattle.std.proofs.Common.{Less, Equal, Greater}
use Rattle.std.specs.Cmp.{nat_cmp_is}
use Rattle.std.specs.Cmp.Lexicographic.{slice_cmp}
use Rattle.std.proofs.lemmas.Bool.{both_ways, false_from_ne_true}
use Rattle.std.proofs.lemmas.Cmp.{nat_cmp_total, nat_list_cmp_total, eq_by_cmp_equiv}
use Rattle.std.proofs.lemmas.List.{map-append}
use Rattle.std.proofs.lemmas.List.Elements.{All-head, All-tail}
use Rattle.std.proofs.lemmas.List.Folds.{find-append}
use Rattle.std.proofs.lemmas.Map.Text.{is_eq-slice_cmp}
use Rattle.std.proofs.lemmas.Slice.Eq.{bytes_eq-Decides}
use Rattle.bfs_model.specs.Server.Directories.{entry_named, listed_behind, without_name}
use Rattle.bfs_model.specs.Server.Tree.{Entry, spent_ordinal}
use Rattle.bfs_model.specs.Server.WellFormed.{IsRising, NamesDiffer}
use Rattle.bfs_inode.specs.Directories.{AreEntries, AreIndexed, cookie_of}
use Rattle.bfs_inode.proofs.DirectoryLemmas.{name_gone}

abbrev Pairs : Type 0
Pairs = List (ℕ × Entry)

abbrev AreOwn : Pairs → Type 0
AreOwn pairs = AllByRecursion (λ pair. pair.0 ≡ pair.1.cookie) pairs

abbrev cookie_in : Option Entry → Option ℕ
cookie_in found = option_map (λ entry. entry.cookie) found

abbrev AreBelow : ℕ → Pairs → Type 0
AreBelow cookie pairs = All (λ entry. entry.cookie < cookie) (values_of pairs)

-- Cookies ---------------------------------------------------------------------------------------------------------------

same_cookie : (x : ℕ) → is_eq (nat_cmp x x) ≡ true
same_cookie x = (eq_by_cmp_equiv nat_cmp_total).refl x

above : (x y : ℕ) → y < x → Greater ≡ nat_cmp x y
above x y lt = nat_cmp_is x y Greater lt

other_cookie : (x y : ℕ) → y < x → is_eq (nat_cmp x y) ≡ false
other_cookie x y lt = ap is_eq (sym (above x y lt))

-- the cookie of a name is no less than the least
least_cookie : (least : ℕ) (name : List ℕ) (es : List Entry) (cookie : ℕ) → IsRising least es spent_ordinal → cookie_in (entry_named name es) ≡ Some cookie → least ≤ cookie
least_cookie least name [] cookie h is = absurd cc
least_cookie least name (e ∷ es) cookie h is = by (bytes_eq e.name name) is (least_cookie (e.cookie + 1) name es cookie h.2)
  where
    by : (test : Bool) → cookie_in (cond test (Some e) (entry_named name es)) ≡ Some cookie → (cookie_in (entry_named name es) ≡ Some cookie → e.cookie + 1 ≤ cookie) → least ≤ cookie
    by true is further = let same : e.cookie ≡ cookie = cc in let low : least ≤ e.cookie = h.0 in omega arith
    by false is further = let low : least ≤ e.cookie = h.0 in let more : e.cookie + 1 ≤ cookie = further is in omega arith

-- Looked for by the cookie of a name, the first entry is told as it is by the name
same_test : (name : List ℕ) (pair : ℕ × Entry) (pairs : Pairs) (cookie : ℕ) → pair.0 ≡ pair.1.cookie → IsRising (pair.1.cookie + 1) (values_of pairs) spent_ordinal
    → cookie_in (cond (bytes_eq pair.1.name name) (Some pair.1) (entry_named name (values_of pairs))) ≡ Some cookie → is_eq (nat_cmp cookie pair.0) ≡ bytes_eq pair.1.name name
same_test name pair pairs cookie own h is = by (bytes_eq pair.1.name name) is
  where
    by : (test : Bool) → cookie_in (cond test (Some pair.1) (entry_named name (values_of pairs))) ≡ Some cookie → is_eq (nat_cmp cookie pair.0) ≡ test
    by true is = let same : pair.1.cookie ≡ cookie = cc in ap (λ x. is_eq (nat_cmp cookie x)) (own ∙ same) ∙ same_cookie cookie
    by false is =
        let further : pair.1.cookie + 1 ≤ cookie = least_cookie (pair.1.cookie + 1) name (values_of pairs) cookie h is in
        other_cookie cookie pair.0 (omega arith)

pub found : (name : List ℕ) (least : ℕ) (pairs : Pairs) (cookie : ℕ) → AreOwn pairs → IsRising least (values_of pairs) spent_ordinal → cookie_in (entry_named name (values_of pairs)) ≡ Some cookie
    → lookup (is_at (nat_cmp cookie)) pairs ≡ entry_named name (values_of pairs)
found name least [] cookie own h is = absurd cc
found name least (pair ∷ pairs) cookie own h is =
    ap (λ test. cond test (Some pair.1) (lookup (is_at (nat_cmp cookie)) pairs)) (same_test name pair pairs cookie own.0 h.2 is) ∙ by (bytes_eq pair.1.name name) is (found name (pair.1.cookie + 1) pairs cookie own.1 h.2)
  where
    by : (test : Bool) → cookie_in (cond test (Some pair.1) (entry_named name (values_of pairs))) ≡ Some cookie
        → (cookie_in (entry_named name (values_of pairs)) ≡ Some cookie → lookup (is_at (nat_cmp cookie)) pairs ≡ entry_named name (values_of pairs))
        → cond test (Some pair.1) (lookup (is_at (nat_cmp cookie)) pairs) ≡ cond test (Some pair.1) (entry_named name (values_of pairs))
    by true is further = refl
    by false is further = further is

left : (name : List ℕ) (least : ℕ) (pairs : Pairs) (cookie : ℕ) → AreOwn pairs → IsRising least (values_of pairs) spent_ordinal → cookie_in (entry_named name (values_of pairs)) ≡ Some cookie
    → values_of (remove_entry (is_at (nat_cmp cookie)) pairs) ≡ without_name name (values_of pairs)
left name least [] cookie own h is = refl
left name least (pair ∷ pairs) cookie own h is =
    ap (λ test. values_of (cond test pairs (pair ∷ remove_entry (is_at (nat_cmp cookie)) pairs))) (same_test name pair pairs cookie own.0 h.2 is) ∙ by (bytes_eq pair.1.name name) is (left name (pair.1.cookie + 1) pairs cookie own.1 h.2)
  where
    by : (test : Bool) → cookie_in (cond test (Some pair.1) (entry_named name (values_of pairs))) ≡ Some cookie
        → (cookie_in (entry_named name (values_of pairs)) ≡ Some cookie → values_of (remove_entry (is_at (nat_cmp cookie)) pairs) ≡ without_name name (values_of pairs))
        → values_of (cond test pairs (pair ∷ remove_entry (is_at (nat_cmp cookie)) pairs)) ≡ cond test (values_of pairs) (pair.1 ∷ without_name name (values_of pairs))
    by true is further = refl
    by false is further = ap (λ es. pair.1 ∷ es) (further is)

-- Those that are left stand at their own cookies
left_own : (test : ℕ → Bool) (pairs : Pairs) → AreOwn pairs → AreOwn (remove_entry test pairs)
left_own test [] own = tt
left_own test (pair ∷ pairs) own = by (test pair.0) (left_own test pairs own.1)
  where
    by : (b : Bool) → AreOwn (remove_entry test pairs) → AreOwn (cond b pairs (pair ∷ remove_entry test pairs))
    by true further = own.1
    by false further = (own.0, further)

-- One more comes last
added_last : (pairs : Pairs) (cookie : ℕ) (entry : Entry) → AreOwn pairs → AreBelow cookie pairs → insert_entry nat_cmp pairs cookie entry ≡ pairs ++ (cookie, entry) ∷ []
added_last [] cookie entry own below = refl
added_last (pair ∷ pairs) cookie entry own below =
    let first : pair.1.cookie < cookie = All-head (λ (e : Entry). e.cookie < cookie) pair.1 (values_of pairs) below in
    let is : pair.0 ≡ pair.1.cookie = own.0 in
    ap (λ order. match_ordering order ((cookie, entry) ∷ pair ∷ pairs) ((pair.0, entry) ∷ pairs) (pair ∷ insert_entry nat_cmp pairs cookie entry)) (sym (above cookie pair.0 (omega arith)))
    ∙ ap (λ further. pair ∷ further) (added_last pairs cookie entry own.1 (All-tail (λ (e : Entry). e.cookie < cookie) pair.1 (values_of pairs) below))

added_own : (pairs : Pairs) (entry : Entry) → AreOwn pairs → AreOwn (pairs ++ (entry.cookie, entry) ∷ [])
added_own [] entry own = (refl, tt)
added_own (pair ∷ pairs) entry own = (own.0, added_own pairs entry own.1)

-- and can be taken out again
taken_back : (pairs : Pairs) (cookie : ℕ) (entry : Entry) → AreOwn pairs → AreBelow cookie pairs → remove_entry (is_at (nat_cmp cookie)) (pairs ++ (cookie, entry) ∷ []) ≡ pairs
taken_back [] cookie entry own below = rw (same_cookie cookie) refl
taken_back (pair ∷ pairs) cookie entry own below =
    let first : pair.1.cookie < cookie = All-head (λ (e : Entry). e.cookie < cookie) pair.1 (values_of pairs) below in
    let is : pair.0 ≡ pair.1.cookie = own.0 in
    ap (λ test. cond test (pairs ++ (cookie, entry) ∷ []) (pair ∷ remove_entry (is_at (nat_cmp cookie)) (pairs ++ (cookie, entry) ∷ []))) (other_cookie cookie pair.0 (omega arith))
    ∙ ap (λ further. pair ∷ further) (taken_back pairs cookie entry own.1 (All-tail (λ (e : Entry). e.cookie < cookie) pair.1 (values_of pairs) below))

-- The index -------------------------------------------------------------------------------------------------------------

abbrev at_name : List ℕ → Vec ℕ → Bool
at_name name = is_at (λ key. slice_cmp nat_cmp name key.items)

-- an index that was changed at one name is as it was at the others
changed : (before after : BTreeMap (Vec ℕ) ℕ) (own : List ℕ) (cookie : Option ℕ)
    → UpdatesBy (λ x y. slice_cmp nat_cmp x.items y.items) (λ key. slice_cmp nat_cmp own key.items) before after cookie
    → (name : List ℕ) → cookie_of name after.entries ≡ cond (bytes_eq own name) cookie (cookie_of name before.entries)
unfolding KeepsOthers
changed before after own cookie updates name = by (bytes_eq own name) refl
  where
    apart : (test : bytes_eq own name ≡ false) (key : Vec ℕ) → at_name own key ≡ true → at_name name key ≡ false
    apart test key is =
        let same : own ≡ key.items = (bytes_eq-Decides own key.items).0 (sym (is_eq-slice_cmp own key.items) ∙ is) in
        is_eq-slice_cmp name key.items ∙ false_from_ne_true (bytes_eq name key.items) (λ e. both_ways (bytes_eq own name) test ((bytes_eq-Decides own name).1 (same ∙ sym ((bytes_eq-Decides name key.items).0 e))))

    by : (test : Bool) → bytes_eq own name ≡ test → cookie_of name after.entries ≡ cond test cookie (cookie_of name before.entries)
    by true is = ap (λ n. cookie_of n after.entries) (sym ((bytes_eq-Decides own name).0 is)) ∙ updates.1
    by false is = updates.3 (at_name name) (λ x y. (eq_by_cmp_equiv nat_list_cmp_total).congr name x.items y.items) (apart is)

-- What is named when an entry comes or goes ---------------------------------------------------------------------------

either : (test : Bool) (e : Entry) (before : Option Entry) → (test ≡ true → before ≡ None) → cond test (Some e.cookie) (cookie_in before) ≡ cookie_in (option_or before (cond test (Some e) None))
either true e before free = rw (free refl) refl
either false e None free = refl
either false e (Some x) free = refl

named_added : (es : List Entry) (e : Entry) (name : List ℕ) → entry_named e.name es ≡ None → cond (bytes_eq e.name name) (Some e.cookie) (cookie_in (entry_named name es)) ≡ cookie_in (entry_named name (es ++ e ∷ []))
named_added es e name free =
    either (bytes_eq e.name name) e (entry_named name es) (λ is. subst (λ n. entry_named n es ≡ None) ((bytes_eq-Decides e.name name).0 is) free)
    ∙ ap cookie_in (sym (find-append (λ (x : Entry). bytes_eq x.name name) es (e ∷ [])))

-- another name is found as before
other_named : (name other : List ℕ) (es : List Entry) → bytes_eq name other ≡ false → entry_named other (without_name name es) ≡ entry_named other es
other_named name other [] apart = refl
other_named name other (e ∷ es) apart = by (bytes_eq e.name name) refl (other_named name other es apart)
  where
    by : (test : Bool) → bytes_eq e.name name ≡ test → entry_named other (without_name name es) ≡ entry_named other es
        → entry_named other (cond test es (e ∷ without_name name es)) ≡ cond (bytes_eq e.name other) (Some e) (entry_named other es)
    by true is further = rw (ap (λ n. bytes_eq n other) ((bytes_eq-Decides e.name name).0 is) ∙ apart) refl
    by false is further = ap (cond (bytes_eq e.name other) (Some e)) further

named_left : (es : List Entry) (name other : List ℕ) → NamesDiffer es → cond (bytes_eq name other) None (cookie_in (entry_named other es)) ≡ cookie_in (entry_named other (without_name name es))
named_left es name other differ = by (bytes_eq name other) refl
  where
    by : (test : Bool) → bytes_eq name other ≡ test → cond test None (cookie_in (entry_named other es)) ≡ cookie_in (entry_named other (without_name name es))
    by true is = ap cookie_in (sym (subst (λ n. entry_named n (without_name name es) ≡ None) ((bytes_eq-Decides name other).0 is) (name_gone name es differ)))
    by false is = ap cookie_in (sym (other_named name other es is))

-- The two maps together -------------------------------------------------------------------------------------------------

pub pushed : (pairs after : Pairs) (index indexed : BTreeMap (Vec ℕ) ℕ) (own : List ℕ) (entry : Entry) → own ≡ entry.name → AreBelow entry.cookie pairs → entry_named entry.name (values_of pairs) ≡ None
    → after ≡ insert_entry nat_cmp pairs entry.cookie entry → UpdatesBy (λ x y. slice_cmp nat_cmp x.items y.items) (λ key. slice_cmp nat_cmp own key.items) index indexed (Some entry.cookie)
    → AreIndexed pairs index.entries → (values_of after ≡ values_of pairs ++ entry ∷ []) × AreIndexed after indexed.entries
pushed pairs after index indexed own entry is below free inserted updates h =
    let last = inserted ∙ added_last pairs entry.cookie entry h.own below in
    let more = ap values_of last ∙ map-append (λ (pair : ℕ × Entry). pair.1) pairs ((entry.cookie, entry) ∷ []) in (
      more,
      record {
        own = subst AreOwn (sym last) (added_own pairs entry h.own);
        named = λ name.
            changed index indexed own (Some entry.cookie) updates name
            ∙ ap (λ n. cond (bytes_eq n name) (Some entry.cookie) (cookie_of name index.entries)) is
            ∙ ap (cond (bytes_eq entry.name name) (Some entry.cookie)) (h.named name)
            ∙ named_added (values_of pairs) entry name free
            ∙ ap (λ es. cookie_in (entry_named name es)) (sym more);
      },
    )

pub back : (pairs after again : Pairs) (index indexed : List (Vec ℕ × ℕ)) (entry : Entry) → AreBelow entry.cookie pairs → after ≡ insert_entry nat_cmp pairs entry.cookie entry
    → again ≡ remove_entry (is_at (nat_cmp entry.cookie)) after → indexed ≡ index → AreIndexed pairs index → (values_of again ≡ values_of pairs) × AreIndexed again indexed
back pairs after again index indexed entry below inserted removed same h =
    let as_before : again ≡ pairs = removed ∙ ap (remove_entry (is_at (nat_cmp entry.cookie))) (inserted ∙ added_last pairs entry.cookie entry h.own below) ∙ taken_back pairs entry.cookie entry h.own below in
    rw (as_before, same) (refl, h)

pub dropped : (pairs after : Pairs) (index indexed : BTreeMap (Vec ℕ) ℕ) (name : List ℕ) (cookie : ℕ) → Some cookie ≡ cookie_of name index.entries
    → after ≡ remove_entry (is_at (nat_cmp cookie)) pairs → UpdatesBy (λ x y. slice_cmp nat_cmp x.items y.items) (λ key. slice_cmp nat_cmp name key.items) index indexed None
    → AreEntries (values_of pairs) → AreIndexed pairs index.entries → (values_of after ≡ without_name name (values_of pairs)) × AreIndexed after indexed.entries
dropped pairs after index indexed name cookie is removed updates h indexes =
    let without = ap values_of removed ∙ left name 0 pairs cookie indexes.own h.rising (sym (is ∙ indexes.named name)) in (
      without,
      record {
        own = subst AreOwn (sym removed) (left_own (is_at (nat_cmp cookie)) pairs indexes.own);
        named = λ other.
            changed index indexed name None updates other
            ∙ ap (cond (bytes_eq name other) None) (indexes.named other)
            ∙ named_left (values_of pairs) name other h.differ
            ∙ ap (λ es. cookie_in (entry_named other es)) (sym without);
      },
    )

none_in : (found : Option Entry) → None ≡ cookie_in found → None ≡ found
none_in None is = refl
none_in (Some x) is = absurd cc

pub none_found : (pairs : Pairs) (index : List (Vec ℕ × ℕ)) (name : List ℕ) → AreIndexed pairs index → None ≡ cookie_of name index → None ≡ entry_named name (values_of pairs)
none_found pairs index name h is = none_in (entry_named name (values_of pairs)) (is ∙ h.named name)

-- a name behind the last of an index is none of its names
pub behind_last : (name last : List ℕ) (index : List (Vec ℕ × ℕ)) → is_lt (slice_cmp nat_cmp last name) ≡ true → All (λ (key : Vec ℕ). is_lt (slice_cmp nat_cmp last key.items) ≡ false) (keys_of index) → cookie_of name index ≡ None
behind_last name last [] behind up_to = refl
behind_last name last (pair ∷ index) behind up_to =
    rw (is_eq-slice_cmp name pair.0.items ∙ other, behind_last name last index behind (All-tail (λ (key : Vec ℕ). is_lt (slice_cmp nat_cmp last key.items) ≡ false) pair.0 (keys_of index) up_to)) refl
  where
    first : is_lt (slice_cmp nat_cmp last pair.0.items) ≡ false
    first = All-head (λ (key : Vec ℕ). is_lt (slice_cmp nat_cmp last key.items) ≡ false) pair.0 (keys_of index) up_to

    other : bytes_eq name pair.0.items ≡ false
    other = false_from_ne_true (bytes_eq name pair.0.items) (λ same. both_ways (is_lt (slice_cmp nat_cmp last name)) (ap (λ n. is_lt (slice_cmp nat_cmp last n)) ((bytes_eq-Decides name pair.0.items).0 same) ∙ first) behind)

-- without an entry of a name all are left
pub all_left : (name : List ℕ) (es : List Entry) → None ≡ entry_named name es → es ≡ without_name name es
all_left name [] none = refl
all_left name (e ∷ es) none = by (bytes_eq e.name name) none (all_left name es)
  where
    by : (test : Bool) → None ≡ cond test (Some e) (entry_named name es) → (None ≡ entry_named name es → es ≡ without_name name es) → e ∷ es ≡ cond test es (e ∷ without_name name es)
    by true none further = absurd cc
    by false none further = ap (λ left. e ∷ left) (further none)

-- Those behind a cookie -------------------------------------------------------------------------------------------------

is_behind : (cookie : ℕ) (x : ℕ) → range_contains nat_cmp (Excluded cookie) Unbounded x ≡ nat_lt cookie x
is_behind cookie x = by (nat_lt cookie x) (cookie == x)
  where
    by : (less same : Bool) → (is_lt (cond less Less (cond same Equal Greater)) && true) ≡ less
    by true same = refl
    by false true = refl
    by false false = refl

pub all_behind : (cookie : ℕ) (pairs : Pairs) → AreOwn pairs → values_of (entries_between nat_cmp (Excluded cookie) Unbounded pairs) ≡ listed_behind cookie (values_of pairs)
all_behind cookie [] own = refl
all_behind cookie (pair ∷ pairs) own =
    ap (λ test. values_of (cond test (pair ∷ entries_between nat_cmp (Excluded cookie) Unbounded pairs) (entries_between nat_cmp (Excluded cookie) Unbounded pairs))) (is_behind cookie pair.0 ∙ ap (nat_lt cookie) own.0)
    ∙ by (nat_lt cookie pair.1.cookie) (all_behind cookie pairs own.1)
  where
    by : (test : Bool) → values_of (entries_between nat_cmp (Excluded cookie) Unbounded pairs) ≡ listed_behind cookie (values_of pairs)
        → values_of (cond test (pair ∷ entries_between nat_cmp (Excluded cookie) Unbounded pairs) (entries_between nat_cmp (Excluded cookie) Unbounded pairs))
        ≡ cond test (pair.1 ∷ listed_behind cookie (values_of pairs)) (listed_behind cookie (values_of pairs))
    by true further = ap (λ es. pair.1 ∷ es) further
    by false further = further
