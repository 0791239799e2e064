-- What is executed level after level: a group as it was planned, and a run, of which all requests stand at one level.
use Rattle.std.proofs.Common.{◌≡◌, ℕ, zero, suc, ◌+◌, ◌-◌, ◌<◌, ◌≤◌, Bool, true, false, ◌||◌, true≢false, List, [], ◌∷◌, ◌++◌, length, take, drop, map, refl, ap, sym, subst, ◌∙◌, arith}
use Rattle.std.specs.Prelude.{IfOk, Result, Ok, Err, if◌then◌else◌, max, min, replicate}
use Rattle.std.specs.Global.{Global}
use Rattle.std.specs.List.{AllByRecursion, list_any}
use Rattle.std.specs.declared.vec.Vec.{Vec}
use Rattle.std.proofs.lemmas.Bool.{false_from_ne_true}
use Rattle.std.proofs.lemmas.List.{length-drop, length-map, length-take, length-take-le}
use Rattle.bfs_model.specs.Server.Tree.{Time, Inodes}
use Rattle.bfs_model.specs.Server.Limits.{most_reply_bytes}
use Rattle.bfs_model.specs.Server.Serial.{ordinal_after, answer, replies_to}
use Rattle.bfs_model.specs.Server.Footprints.{Footprint, known, whole, footprint_of}
use Rattle.bfs_model.specs.Server.Conflicts.{conflict, is_whole, is_written}
use Rattle.bfs_model.specs.Server.Groups.{AreDisjoint, IsCut, IsCutBefore, footprints_at}
use Rattle.bfs_model.specs.Server.WellFormed.{IsWellFormed}
use Rattle.bfs_model.proofs.Public.{answer_keeps, apart, formed_again, reply_is_short, resolved_is_touched_by_requests, servable}
use Rattle.bfs_footprint.specs.Seen.{footprint_seen}
use Rattle.bfs_footprint.specs.declared.footprints.Footprint as declared
use Rattle.bfs_levels.specs.Laws.{AreJoined}
use Rattle.bfs_levels.specs.Planning.{Touch, count_joined, level_behind, levels_behind, levels_of, parts_groups, parts_runs, touches_at}
use Rattle.bfs_levels.specs.Requests.{requests_from}
use Rattle.bfs_levels.proofs.Public.{joined_cut, joined_just_if, runs_are_longest}
use Rattle.bfs_levels.specs.declared.group.Group.{Group}
use Rattle.bfs_levels.specs.declared.run.Run.{Run}
use Rattle.bfs_parallel.specs.Levels.{IsGroupOf, IsPlanned}

-- The longest ones ----------------------------------------------------------------------------------------------------------

length-touches_at : (m : Inodes) (o : ℕ) (t : Time) (requests : List (List ℕ)) → length (touches_at m o t requests) ≡ length requests
length-touches_at m o t [] = refl
length-touches_at m o t (request ∷ requests) = ap suc (length-touches_at m (ordinal_after o 1) t requests)

-- where a list is cut behind them, they are the same
cut_short : {X : Type 0} (k first end : ℕ) (xs : List X) → k ≤ length (drop first (take end xs)) → take k (drop first (take end xs)) ≡ take k (drop first xs)
cut_short zero first end xs few = refl
cut_short (suc k) zero zero xs few = absurd (omega (arith, few))
cut_short (suc k) zero (suc end) [] few = refl
cut_short (suc k) zero (suc end) (x ∷ xs) few = ap (λ rest. x ∷ rest) (cut_short k zero end xs (omega (arith, few)))
cut_short (suc k) (suc first) zero xs few = absurd (omega (arith, few))
cut_short (suc k) (suc first) (suc end) [] few = refl
cut_short (suc k) (suc first) (suc end) (x ∷ xs) few = cut_short (suc k) first end xs few

module _ (parts_by : Footprint → Touch → Bool) where
  within_touches : (earlier : List Footprint) (calls : List Touch) → count_joined parts_by earlier calls ≤ length calls
  within_touches earlier [] = omega arith
  within_touches earlier (call ∷ calls) = by_test (list_any (λ other. parts_by other call) earlier) (within_touches (earlier ++ call.footprint ∷ []) calls)
    where
      by_test : (b : Bool) → count_joined parts_by (earlier ++ call.footprint ∷ []) calls ≤ length calls
          → if◌then◌else◌ b 0 (count_joined parts_by (earlier ++ call.footprint ∷ []) calls + 1) ≤ suc (length calls)
      by_test true few = omega arith
      by_test false few = omega arith

  first_counted : (m : Inodes) (o : ℕ) (t : Time) (requests : List (List ℕ)) → 0 < length requests → 0 < count_joined parts_by [] (touches_at m o t requests)
  first_counted m o t [] some = absurd (omega arith)
  first_counted m o t (request ∷ requests) some = omega arith

  -- the footprints of the longest run, or group, from a place on and before an end
  pub record AreLongest (m : Inodes) (o : ℕ) (t : Time) (batch : List (List ℕ)) (first end : ℕ) (items : List declared.Footprint) : Type 0 where
    pub more : first < length batch
    pub before : first < end
    pub longest : map footprint_seen items ≡ footprints_at m o t (take (count_joined parts_by [] (touches_at m o t (drop first (take end batch)))) (drop first (take end batch)))
    pub count : length items ≡ count_joined parts_by [] (touches_at m o t (drop first (take end batch)))

  module _ (m : Inodes) (o : ℕ) (t : Time) (batch : List (List ℕ)) (first end : ℕ) (items : List declared.Footprint) (are : AreLongest m o t batch first end items) where
    abbrev left : List (List ℕ)
    left = drop first (take end batch)

    left_long : length left ≡ min end (length batch) - first
    left_long = length-drop first (take end batch) ∙ ap (λ n. n - first) (length-take end batch)

    pub few : length items ≤ length left
    few = let within = within_touches [] (touches_at m o t left) in let all = length-touches_at m o t left in let count = are.count in omega arith

    pub some : 0 < length items
    some = let long = left_long in let more = are.more in let before = are.before in let count = are.count in let one = first_counted m o t left (omega arith) in omega arith

    pub fits : first + length items ≤ length batch
    fits = let within = few in let long = left_long in let more = are.more in let before = are.before in omega arith

    pub behind : length items ≤ length (drop first batch)
    behind = let within = fits in let long = length-drop first batch in omega arith

    pub are_they : take (length items) left ≡ requests_from first (length items) batch
    are_they = cut_short (length items) first end batch few

    pub found : map footprint_seen items ≡ footprints_at m o t (requests_from first (length items) batch)
    found = subst (λ k. map footprint_seen items ≡ footprints_at m o t (take k left)) (sym are.count) are.longest ∙ ap (footprints_at m o t) are_they

-- What results are ------------------------------------------------------------------------------------------------------------

pub three_ok : {A E : Type 0} {P Q R S : A → Type 0} (result : Result A E) → ((x : A) → P x → Q x → R x → S x) → IfOk result P → IfOk result Q → IfOk result R → IfOk result S
three_ok (Ok x) gives p q r = gives x p q r
three_ok (Err e) gives p q r = tt

pub four_ok : {A E : Type 0} {P Q R S U : A → Type 0} (result : Result A E) → ((x : A) → P x → Q x → R x → S x → U x) → IfOk result P → IfOk result Q → IfOk result R → IfOk result S → IfOk result U
four_ok (Ok x) gives p q r s = gives x p q r s
four_ok (Err e) gives p q r s = tt

-- As groups -------------------------------------------------------------------------------------------------------------------

module _ (m : Inodes) (o : ℕ) (t : Time) (batch : List (List ℕ)) (first : ℕ) (items : List declared.Footprint) (levels : List ℕ) where
  abbrev its_requests : List (List ℕ)
  its_requests = requests_from first (length items) batch

  abbrev its_footprints : List Footprint
  its_footprints = map footprint_seen items

  as_group : IsWellFormed (record { tree = m; next_ordinal = o; last_time = t }) → its_footprints ≡ footprints_at m o t its_requests → first + length items ≤ length batch → AllByRecursion (λ g. is_whole g ≡ false) (footprints_at m o t its_requests)
      → IsCut (footprints_at m o t its_requests) its_requests → levels ≡ levels_of its_footprints → IsGroupOf m first o t batch its_footprints levels
  as_group formed are fit certain cut levelled =
      let long : length its_footprints ≡ length items = length-map items footprint_seen in record {
        formed = formed;
        found = subst (λ n. its_footprints ≡ footprints_at m o t (requests_from first n batch)) (sym long) are;
        within = omega arith;
        known = subst (AllByRecursion (λ g. is_whole g ≡ false)) (sym are) certain;
        cut = subst (λ n. IsCut (footprints_at m o t (requests_from first n batch)) (requests_from first n batch)) (sym long) cut;
        levelled = levelled;
      }

-- Groups ----------------------------------------------------------------------------------------------------------------------

both_false : (a b : Bool) → (a || b) ≡ false → (a ≡ false) × (b ≡ false)
both_false true b is = absurd (true≢false is)
both_false false b is = (refl, is)

-- where one is in a group with another, it is known of both what they touch
both_known : (f : Footprint) (call : Touch) → parts_groups f call ≡ false → (is_whole f ≡ false) × (is_whole call.footprint ≡ false)
both_known f call is = both_false (is_whole f) (is_whole call.footprint) (both_false (is_whole f || is_whole call.footprint) (list_any (is_written f) call.resolved) is).0

known_behind : (f : Footprint) (m : Inodes) (o : ℕ) (t : Time) (requests : List (List ℕ)) → AllByRecursion (λ later. parts_groups f later ≡ false) (touches_at m o t requests) → AllByRecursion (λ g. is_whole g ≡ false) (footprints_at m o t requests)
known_behind f m o t [] all = tt
known_behind f m o t (request ∷ requests) all = ((both_known f _ all.0).1, known_behind f m (ordinal_after o 1) t requests all.1)

known_in_group : (m : Inodes) (o : ℕ) (t : Time) (requests : List (List ℕ)) → 1 < length requests → AreJoined parts_groups (touches_at m o t requests) → AllByRecursion (λ g. is_whole g ≡ false) (footprints_at m o t requests)
known_in_group m o t [] more joined = tt
known_in_group m o t (request ∷ []) more joined = absurd (omega arith)
known_in_group m o t (request ∷ other ∷ requests) more joined = ((both_known (footprint_of m o t request) _ joined.0.0).0, known_behind (footprint_of m o t request) m (ordinal_after o 1) t (other ∷ requests) joined.0)

are_joined : (m : Inodes) (o : ℕ) (t : Time) (batch : List (List ℕ)) (first end : ℕ) (items : List declared.Footprint) → AreLongest parts_groups m o t batch first end items
    → AreJoined parts_groups (touches_at m o t (requests_from first (length items) batch))
are_joined m o t batch first end items are =
    subst (λ requests. AreJoined parts_groups (touches_at m o t requests)) (are_they parts_groups m o t batch first end items are)
    ((joined_just_if parts_groups m o t (drop first (take end batch)) (length items) (few parts_groups m o t batch first end items are)).1 (let count = are.count in omega arith))

-- of two requests and more
is_group : (m : Inodes) (o : ℕ) (t : Time) (batch : List (List ℕ)) (first end : ℕ) (items : List declared.Footprint) (levels : List ℕ) → IsWellFormed (record { tree = m; next_ordinal = o; last_time = t })
    → AreLongest parts_groups m o t batch first end items → (length items ≡ 1 → ⊥) → levels ≡ levels_of (map footprint_seen items) → IsGroupOf m first o t batch (map footprint_seen items) levels
is_group m o t batch first end items levels formed are two levelled =
    let long : length (requests_from first (length items) batch) ≡ length items = length-take-le (length items) (drop first batch) (behind parts_groups m o t batch first end items are) in
    let joined = are_joined m o t batch first end items are in
    let one = some parts_groups m o t batch first end items are in
    as_group m o t batch first items levels formed (found parts_groups m o t batch first end items are) (fits parts_groups m o t batch first end items are)
    (known_in_group m o t (requests_from first (length items) batch) (more (length items) one two (omega arith)) joined)
    (joined_cut m o t (requests_from first (length items) batch) joined) levelled
  where
    more : (n : ℕ) → 0 < n → (n ≡ 1 → ⊥) → n ≤ length (requests_from first (length items) batch) → 1 < length (requests_from first (length items) batch)
    more zero some two within = absurd (omega arith)
    more (suc zero) some two within = absurd (two refl)
    more (suc (suc n)) some two within = omega arith

pub group_is_planned : (m : Inodes) (o : ℕ) (t : Time) (batch : List (List ℕ)) (first end : ℕ) (group : Group) → IsWellFormed (record { tree = m; next_ordinal = o; last_time = t })
    → AreLongest parts_groups m o t batch first end group.footprints.items → group.first ≡ first → group.level_of.items ≡ levels_of (map footprint_seen group.footprints.items) → IsPlanned m o t batch first group
group_is_planned m o t batch first end group formed are there levelled =
    let items = group.footprints.items in
    let joined = are_joined m o t batch first end items are in
    record {
      first = there;
      some = some parts_groups m o t batch first end items are;
      within = fits parts_groups m o t batch first end items are;
      together = λ two. is_group m o t batch first end items group.level_of.items formed are two levelled;
    }

-- Runs ------------------------------------------------------------------------------------------------------------------------

known_apart : (f g : Footprint) → conflict f g ≡ false → (is_whole f ≡ false) × (is_whole g ≡ false)
known_apart (known reads writes) (known others theirs) none = (refl, refl)
known_apart (known reads writes) whole none = absurd (true≢false none)
known_apart whole g none = absurd (true≢false none)

known_beside : (f : Footprint) (fs : List Footprint) → AllByRecursion (λ other. conflict f other ≡ false) fs → AllByRecursion (λ g. is_whole g ≡ false) fs
known_beside f [] all = tt
known_beside f (g ∷ fs) all = ((known_apart f g all.0).1, known_beside f fs all.1)

known_in_run : (fs : List Footprint) → 1 < length fs → AreDisjoint fs → AllByRecursion (λ g. is_whole g ≡ false) fs
known_in_run [] more disjoint = tt
known_in_run (f ∷ []) more disjoint = absurd (omega arith)
known_in_run (f ∷ g ∷ fs) more disjoint = ((known_apart f g disjoint.0.0).0, known_beside f (g ∷ fs) disjoint.0)

-- where a request resolves names is what it touches, so no request of a run writes it
cut_behind : (f : Footprint) (m : Inodes) (o : ℕ) (t : Time) (requests : List (List ℕ)) → AllByRecursion (λ other. conflict f other ≡ false) (footprints_at m o t requests) → IsCutBefore f requests
cut_behind f m o t [] all = tt
cut_behind f m o t (request ∷ requests) all = (
  (λ id resolved. false_from_ne_true (is_written f id) (λ written. true≢false (sym (resolved_is_touched_by_requests m o t request id resolved) ∙ (apart f (footprint_of m o t request) all.0).first id written))),
  cut_behind f m (ordinal_after o 1) t requests all.1,
)

disjoint_cut : (m : Inodes) (o : ℕ) (t : Time) (requests : List (List ℕ)) → AreDisjoint (footprints_at m o t requests) → IsCut (footprints_at m o t requests) requests
disjoint_cut m o t [] disjoint = tt
disjoint_cut m o t (request ∷ requests) disjoint = (cut_behind (footprint_of m o t request) m (ordinal_after o 1) t requests disjoint.0, disjoint_cut m (ordinal_after o 1) t requests disjoint.1)

-- none of these earlier ones conflicts with any of them
abbrev AreFree : List (Footprint × ℕ) → List Footprint → Type 0
AreFree [] fs = Unit {0}
AreFree (earlier ∷ others) fs = AllByRecursion (λ f. conflict earlier.0 f ≡ false) fs × AreFree others fs

lowest : (earlier : List (Footprint × ℕ)) (f : Footprint) (fs : List Footprint) → AreFree earlier (f ∷ fs) → level_behind earlier f ≡ 0
lowest [] f fs free = refl
lowest (earlier ∷ others) f fs free = rw free.0.0 (ap (max 0) (lowest others f fs free.1))

fewer_free : (earlier : List (Footprint × ℕ)) (f : Footprint) (fs : List Footprint) → AreFree earlier (f ∷ fs) → AreFree earlier fs
fewer_free [] f fs free = tt
fewer_free (earlier ∷ others) f fs free = (free.0.1, fewer_free others f fs free.1)

all_lowest : (earlier : List (Footprint × ℕ)) (fs : List Footprint) → AreFree earlier fs → AreDisjoint fs → levels_behind earlier fs ≡ replicate (length fs) 0
all_lowest earlier [] free disjoint = refl
all_lowest earlier (f ∷ fs) free disjoint =
    λ i. lowest earlier f fs free i ∷ all_lowest ((f, level_behind earlier f) ∷ earlier) fs (disjoint.0, fewer_free earlier f fs free) disjoint.1 i

are_disjoint : (m : Inodes) (o : ℕ) (t : Time) (batch : List (List ℕ)) (first end : ℕ) (items : List declared.Footprint) → AreLongest parts_runs m o t batch first end items
    → AreDisjoint (footprints_at m o t (requests_from first (length items) batch))
are_disjoint m o t batch first end items are =
    subst (λ requests. AreDisjoint (footprints_at m o t requests)) (are_they parts_runs m o t batch first end items are)
    ((runs_are_longest m o t (drop first (take end batch)) (length items) (few parts_runs m o t batch first end items are)).1 (let count = are.count in omega arith))

run_is_group : (m : Inodes) (o : ℕ) (t : Time) (batch : List (List ℕ)) (first end : ℕ) (items : List declared.Footprint) (levels : List ℕ) → IsWellFormed (record { tree = m; next_ordinal = o; last_time = t })
    → AreLongest parts_runs m o t batch first end items → 1 < length items → levels ≡ replicate (length items) 0 → IsGroupOf m first o t batch (map footprint_seen items) levels
run_is_group m o t batch first end items levels formed are two level =
    let all = found parts_runs m o t batch first end items are in
    let long : length (map footprint_seen items) ≡ length items = length-map items footprint_seen in
    let disjoint = are_disjoint m o t batch first end items are in
    as_group m o t batch first items levels formed all (fits parts_runs m o t batch first end items are)
    (subst (AllByRecursion (λ g. is_whole g ≡ false)) all (known_in_run (map footprint_seen items) (omega arith) (subst AreDisjoint (sym all) disjoint)))
    (disjoint_cut m o t (requests_from first (length items) batch) disjoint)
    (level ∙ ap (λ n. replicate n 0) (sym long) ∙ sym (all_lowest [] (map footprint_seen items) tt (subst AreDisjoint (sym all) disjoint)))

pub run_is_planned : (m : Inodes) (o : ℕ) (t : Time) (batch : List (List ℕ)) (first end : ℕ) (run : Run) (group : Group) → IsWellFormed (record { tree = m; next_ordinal = o; last_time = t })
    → AreLongest parts_runs m o t batch first end run.footprints.items → group.first ≡ first → group.footprints ≡ run.footprints → group.level_of.items ≡ replicate (length run.footprints.items) 0 → IsPlanned m o t batch first group
run_is_planned m o t batch first end run group formed of_run there same level_of_run =
    let items = group.footprints.items in
    let are : AreLongest parts_runs m o t batch first end items = subst (λ (footprints : Vec declared.Footprint Global). AreLongest parts_runs m o t batch first end footprints.items) (sym same) of_run in
    let level : group.level_of.items ≡ replicate (length items) 0 = level_of_run ∙ ap (λ (footprints : Vec declared.Footprint Global). replicate (length footprints.items) 0) (sym same) in
    let one = some parts_runs m o t batch first end items are in
    record {
      first = there;
      some = one;
      within = fits parts_runs m o t batch first end items are;
      together = λ two. run_is_group m o t batch first end items group.level_of.items formed are (more (length items) one two) level;
    }
  where
    more : (n : ℕ) → 0 < n → (n ≡ 1 → ⊥) → 1 < n
    more zero some two = absurd (omega (arith, some))
    more (suc zero) some two = absurd (two refl)
    more (suc (suc n)) some two = omega arith

-- Replies ---------------------------------------------------------------------------------------------------------------------

pub replies_are_short : (m : Inodes) (o : ℕ) (t : Time) (requests : List (List ℕ)) → IsWellFormed (record { tree = m; next_ordinal = o; last_time = t })
    → AllByRecursion (λ reply. length reply ≤ most_reply_bytes) (replies_to m o t requests)
replies_are_short m o t [] formed = tt
replies_are_short m o t (request ∷ requests) formed = (
  reply_is_short m (answer m o t request).0 o t request (answer m o t request).1 formed refl,
  replies_are_short (answer m o t request).0 (ordinal_after o 1) t requests
      (formed_again (answer m o t request).0 (ordinal_after o 1) t (answer_keeps m o t request (servable (record { tree = m; next_ordinal = o; last_time = t }) formed))),
)
