-- The first calls are without a parted one just if they are no more than are counted.
use Rattle.std.proofs.Common.{◌≡◌, ℕ, ◌+◌, ◌≤◌, ◌↔◌, ◌||◌, Bool, true, false, if◌then◌else◌, IsFalse, List, [], ◌∷◌, ◌++◌, zero, suc, length, take, refl, ap, sym, subst, ◌∙◌, arith}
use Rattle.std.specs.List.{AllByRecursion, list_any}
use Rattle.std.proofs.lemmas.List.Folds.{list_any-append}
use Rattle.bfs_model.specs.Server.Conflicts.{conflict, is_written, resolved_of}
use Rattle.bfs_model.specs.Server.Groups.{footprints_at, AreDisjoint, IsCut, IsCutBefore}
use Rattle.bfs_model.specs.Server.Serial.{ordinal_after}
use Rattle.bfs_model.specs.Server.Footprints.{Footprint, footprint_of}
use Rattle.bfs_model.specs.Server.Tree.{Time, Inodes}
use Rattle.bfs_model.specs.Server.Conflicts.{is_whole}
use Rattle.bfs_model.proofs.Public.{none_hit}
use Rattle.bfs_levels.specs.Laws.{AreJoined}
use Rattle.bfs_levels.specs.Planning.{Touch, count_joined, group_length, parts_groups, parts_runs, run_length, touch_by, touches_at}

-- none of the calls is parted from these earlier ones
abbrev pub AreBehind : (Footprint → Touch → Bool) → List Footprint → List Touch → Type 0
AreBehind parts_by earlier calls = AllByRecursion (λ call. IsFalse (list_any (λ other. parts_by other call) earlier)) calls

or_both : (a b : Bool) → IsFalse a → IsFalse b → IsFalse (a || (b || false))
or_both true b first second = first
or_both false true first second = second
or_both false false first second = refl

or_first : (a b : Bool) → IsFalse (a || b) → IsFalse a
or_first true b both = both
or_first false b both = refl

or_second : (a b : Bool) → IsFalse (a || b) → IsFalse b
or_second true b both = absurd (let h : true ≡ false = both in cc)
or_second false b both = both

module _ (parts_by : Footprint → Touch → Bool) where
  behind_more : (earlier : List Footprint) (footprint : Footprint) (calls : List Touch) → AreBehind parts_by earlier calls
      → AllByRecursion (λ later. IsFalse (parts_by footprint later)) calls → AreBehind parts_by (earlier ++ footprint ∷ []) calls
  behind_more earlier footprint [] behind joined = tt
  behind_more earlier footprint (call ∷ calls) behind joined =
      (list_any-append (λ other. parts_by other call) earlier (footprint ∷ []) ∙ or_both (list_any (λ other. parts_by other call) earlier) (parts_by footprint call) behind.0 joined.0, behind_more earlier footprint calls behind.1 joined.1)

  behind_fewer : (earlier : List Footprint) (footprint : Footprint) (calls : List Touch) → AreBehind parts_by (earlier ++ footprint ∷ []) calls
      → AreBehind parts_by earlier calls × AllByRecursion (λ later. IsFalse (parts_by footprint later)) calls
  behind_fewer earlier footprint [] behind = (tt, tt)
  behind_fewer earlier footprint (call ∷ calls) behind =
      let both = sym (list_any-append (λ other. parts_by other call) earlier (footprint ∷ [])) ∙ behind.0 in
      let rest = behind_fewer earlier footprint calls behind.1 in
      ((or_first (list_any (λ other. parts_by other call) earlier) (parts_by footprint call || false) both, rest.0), (or_first (parts_by footprint call) false (or_second (list_any (λ other. parts_by other call) earlier) (parts_by footprint call || false) both), rest.1))

  pub no_longer : (earlier : List Footprint) (calls : List Touch) (n : ℕ) → n ≤ length calls → AreBehind parts_by earlier (take n calls) → AreJoined parts_by (take n calls) → n ≤ count_joined parts_by earlier calls
  no_longer earlier calls zero within behind joined = omega arith
  no_longer earlier [] (suc n) within behind joined = omega arith
  no_longer earlier (call ∷ calls) (suc n) within behind joined =
      let more = no_longer (earlier ++ call.footprint ∷ []) calls n (omega arith) (behind_more earlier call.footprint (take n calls) behind.1 joined.0) joined.1 in
      rw behind.0 (omega arith)

  pub as_long : (earlier : List Footprint) (calls : List Touch) (n : ℕ) → n ≤ count_joined parts_by earlier calls → AreBehind parts_by earlier (take n calls) × AreJoined parts_by (take n calls)
  as_long earlier calls zero within = (tt, tt)
  as_long earlier [] (suc n) within = absurd (let no : ⊥ = omega arith in no)
  as_long earlier (call ∷ calls) (suc n) within = go (list_any (λ other. parts_by other call) earlier) refl (λ few. as_long (earlier ++ call.footprint ∷ []) calls n few) within
    where
      go : (parted : Bool) → list_any (λ other. parts_by other call) earlier ≡ parted
          → (n ≤ count_joined parts_by (earlier ++ call.footprint ∷ []) calls → AreBehind parts_by (earlier ++ call.footprint ∷ []) (take n calls) × AreJoined parts_by (take n calls)) → suc n ≤ (if parted then 0 else count_joined parts_by (earlier ++ call.footprint ∷ []) calls + 1)
          → AreBehind parts_by earlier (take (suc n) (call ∷ calls)) × AreJoined parts_by (take (suc n) (call ∷ calls))
      go true is more few = absurd (let no : ⊥ = omega arith in no)
      go false is more few =
          let rest = more (omega arith) in
          let fewer = behind_fewer earlier call.footprint (take n calls) rest.0 in
          ((is, fewer.0), (fewer.1, rest.1))

none_before : (parts_by : Footprint → Touch → Bool) (calls : List Touch) → AreBehind parts_by [] calls
none_before parts_by [] = tt
none_before parts_by (call ∷ calls) = (refl, none_before parts_by calls)

take-touches : (inodes : Inodes) (ordinal : ℕ) (time : Time) (requests : List (List ℕ)) (n : ℕ) → take n (touches_at inodes ordinal time requests) ≡ touches_at inodes ordinal time (take n requests)
take-touches inodes ordinal time requests zero = refl
take-touches inodes ordinal time [] (suc n) = refl
take-touches inodes ordinal time (request ∷ requests) (suc n) = ap (λ rest. touch_by inodes ordinal time request ∷ rest) (take-touches inodes (ordinal_after ordinal 1) time requests n)

length-touches : (inodes : Inodes) (ordinal : ℕ) (time : Time) (requests : List (List ℕ)) → length (touches_at inodes ordinal time requests) ≡ length requests
length-touches inodes ordinal time [] = refl
length-touches inodes ordinal time (request ∷ requests) = ap suc (length-touches inodes (ordinal_after ordinal 1) time requests)

pub joined_just_if : (parts_by : Footprint → Touch → Bool) (inodes : Inodes) (ordinal : ℕ) (time : Time) (requests : List (List ℕ)) (n : ℕ) → n ≤ length requests
    → AreJoined parts_by (touches_at inodes ordinal time (take n requests)) ↔ (n ≤ count_joined parts_by [] (touches_at inodes ordinal time requests))
joined_just_if parts_by inodes ordinal time requests n within =
    let P : List Touch → Type 0 = λ calls. AreJoined parts_by calls in
    let count = length-touches inodes ordinal time requests in
    let same = take-touches inodes ordinal time requests n in (
      λ joined. no_longer parts_by [] (touches_at inodes ordinal time requests) n (omega arith) (none_before parts_by _) (subst P (sym same) joined),
      λ few. subst P same (as_long parts_by [] (touches_at inodes ordinal time requests) n few).1,
    )

-- Runs ---------------------------------------------------------------------------------------------------------------------

disjoint_all : (footprint : Footprint) (inodes : Inodes) (ordinal : ℕ) (time : Time) (requests : List (List ℕ)) → AllByRecursion (λ other. IsFalse (conflict footprint other)) (footprints_at inodes ordinal time requests)
    ↔ AllByRecursion (λ later. IsFalse (parts_runs footprint later)) (touches_at inodes ordinal time requests)
disjoint_all footprint inodes ordinal time [] = (λ all. tt, λ all. tt)
disjoint_all footprint inodes ordinal time (request ∷ requests) =
    let rest = disjoint_all footprint inodes (ordinal_after ordinal 1) time requests in
    (λ all. (all.0, rest.0 all.1), λ all. (all.0, rest.1 all.1))

disjoint_joined : (inodes : Inodes) (ordinal : ℕ) (time : Time) (requests : List (List ℕ)) → AreDisjoint (footprints_at inodes ordinal time requests) ↔ AreJoined parts_runs (touches_at inodes ordinal time requests)
disjoint_joined inodes ordinal time [] = (λ all. tt, λ all. tt)
disjoint_joined inodes ordinal time (request ∷ requests) =
    let first = disjoint_all (footprint_of inodes ordinal time request) inodes (ordinal_after ordinal 1) time requests in
    let rest = disjoint_joined inodes (ordinal_after ordinal 1) time requests in
    (λ all. (first.0 all.0, rest.0 all.1), λ all. (first.1 all.0, rest.1 all.1))

pub runs_are_longest : (inodes : Inodes) (ordinal : ℕ) (time : Time) (requests : List (List ℕ)) (n : ℕ) → n ≤ length requests → AreDisjoint (footprints_at inodes ordinal time (take n requests)) ↔ (n ≤ run_length inodes ordinal time requests)
runs_are_longest inodes ordinal time requests n within =
    let same = disjoint_joined inodes ordinal time (take n requests) in
    let count = joined_just_if parts_runs inodes ordinal time requests n within in
    (λ all. count.0 (same.0 all), λ few. same.1 (count.1 few))

-- Groups --------------------------------------------------------------------------------------------------------------------

cut_before : (footprint : Footprint) (inodes : Inodes) (ordinal : ℕ) (time : Time) (requests : List (List ℕ)) → AllByRecursion (λ later. IsFalse (parts_groups footprint later)) (touches_at inodes ordinal time requests) → IsCutBefore footprint requests
cut_before footprint inodes ordinal time [] all = tt
cut_before footprint inodes ordinal time (request ∷ requests) all =
    (none_hit (is_written footprint) (resolved_of request) (or_second (is_whole footprint || is_whole (footprint_of inodes ordinal time request)) (list_any (is_written footprint) (resolved_of request)) all.0), cut_before footprint inodes (ordinal_after ordinal 1) time requests all.1)

pub joined_cut : (inodes : Inodes) (ordinal : ℕ) (time : Time) (requests : List (List ℕ)) → AreJoined parts_groups (touches_at inodes ordinal time requests) → IsCut (footprints_at inodes ordinal time requests) requests
joined_cut inodes ordinal time [] joined = tt
joined_cut inodes ordinal time (request ∷ requests) joined = (cut_before (footprint_of inodes ordinal time request) inodes (ordinal_after ordinal 1) time requests joined.0, joined_cut inodes (ordinal_after ordinal 1) time requests joined.1)

pub groups_are_cut : (inodes : Inodes) (ordinal : ℕ) (time : Time) (requests : List (List ℕ)) → IsCut (footprints_at inodes ordinal time (take (group_length inodes ordinal time requests) requests)) (take (group_length inodes ordinal time requests) requests)
groups_are_cut inodes ordinal time requests =
    let P : List Touch → Type 0 = λ calls. AreJoined parts_groups calls in
    joined_cut inodes ordinal time _ (subst P (take-touches inodes ordinal time requests (group_length inodes ordinal time requests)) (as_long parts_groups [] (touches_at inodes ordinal time requests) (group_length inodes ordinal time requests) (omega arith)).1)
