-- The requests that are left, one fewer.
use Rattle.std.proofs.Common.{◌≡◌, ℕ, ◌+◌, ◌<◌, ◌≤◌, Bool, if◌then◌else◌, List, [], ◌∷◌, ◌++◌, Some, slice_get, length, take, drop, append_assoc, ap, sym, ◌∙◌, arith, zero, suc, refl}
use Rattle.std.specs.List.{list_any}
use Rattle.std.proofs.Math.Seq.{take-append_seam}
use Rattle.std.proofs.lemmas.List.{drop_more, at_drop_all}
use Rattle.std.proofs.lemmas.Option.{slice_get_within, get_or_from_slice_get}
use Rattle.bfs_model.specs.Server.Groups.{footprints_at}
use Rattle.bfs_model.specs.Server.Serial.{ordinal_after}
use Rattle.bfs_model.specs.Server.Footprints.{Footprint, footprint_of}
use Rattle.bfs_model.specs.Server.Tree.{Time, Inodes}
use Rattle.bfs_levels.specs.Planning.{Touch, count_joined, touch_by, touches_at}

one_left : {X : Type 0} (xs : List X) (index : ℕ) (x : X) → slice_get xs index ≡ Some x → drop index xs ≡ x ∷ drop (index + 1) xs
one_left xs index x is = drop_more xs index x (slice_get_within xs index x is) ∙ ap (λ first. first ∷ drop (index + 1) xs) (get_or_from_slice_get xs index x x is)

-- what stands before an end is there, too, where the list ends there
pub before : {X : Type 0} (xs : List X) (index end : ℕ) (x : X) → index < end → slice_get xs index ≡ Some x → slice_get (take end xs) index ≡ Some x
before xs index zero x less is = absurd (omega (arith, less))
before [] index (suc end) x less is = is
before (y ∷ ys) zero (suc end) x less is = is
before (y ∷ ys) (suc index) (suc end) x less is = before ys index end x (omega (arith, less)) is

pub all_before : {X : Type 0} (xs : List X) → take (length xs) xs ≡ xs
all_before [] = refl
all_before (x ∷ xs) = ap (λ rest. x ∷ rest) (all_before xs)

pub footprints_left : (inodes : Inodes) (ordinal : ℕ) (time : Time) (requests : List (List ℕ)) (index : ℕ) (request : List ℕ) → slice_get requests index ≡ Some request
    → footprints_at inodes ordinal time (drop index requests) ≡ footprint_of inodes ordinal time request ∷ footprints_at inodes (ordinal_after ordinal 1) time (drop (index + 1) requests)
footprints_left inodes ordinal time requests index request is = ap (footprints_at inodes ordinal time) (one_left requests index request is)

-- whether the next call joins
pub count_left : (parts_by : Footprint → Touch → Bool) (inodes : Inodes) (ordinal : ℕ) (time : Time) (requests : List (List ℕ)) (index : ℕ) (request : List ℕ) (plan : List Footprint) (touch : Touch) (parted : Bool)
    → slice_get requests index ≡ Some request → touch ≡ touch_by inodes ordinal time request → parted ≡ list_any (λ other. parts_by other touch) plan
    → count_joined parts_by plan (touches_at inodes ordinal time (drop index requests))
    ≡ (if parted then 0 else count_joined parts_by (plan ++ touch.footprint ∷ []) (touches_at inodes (ordinal_after ordinal 1) time (drop (index + 1) requests)) + 1)
count_left parts_by inodes ordinal time requests index request plan touch parted is same told =
    ap (λ left. count_joined parts_by plan (touches_at inodes ordinal time left)) (one_left requests index request is)
    ∙ ap (λ call. count_joined parts_by plan (call ∷ touches_at inodes (ordinal_after ordinal 1) time (drop (index + 1) requests))) (sym same)
    ∙ ap (λ b. if b then 0 else count_joined parts_by (plan ++ touch.footprint ∷ []) (touches_at inodes (ordinal_after ordinal 1) time (drop (index + 1) requests)) + 1) (sym told)

pub none_left : (parts_by : Footprint → Touch → Bool) (inodes : Inodes) (ordinal : ℕ) (time : Time) (requests : List (List ℕ)) (index : ℕ) (plan : List Footprint) → length requests ≤ index
    → count_joined parts_by plan (touches_at inodes ordinal time (drop index requests)) ≡ 0
none_left parts_by inodes ordinal time requests index plan past = at_drop_all (λ left. count_joined parts_by plan (touches_at inodes ordinal time left)) requests index past

-- a plan to which no call that is left joins has just so many of all as join
pub all_joined : (plan left all : List Footprint) (more count : ℕ) → plan ++ left ≡ all → more + length plan ≡ count → more ≡ 0 → plan ≡ take count all
all_joined plan left all more count kept joined none =
    sym (take-append_seam plan left) ∙ ap (λ n. take n (plan ++ left)) (omega arith) ∙ ap (take count) kept

pub kept_more : (plan left rest all : List Footprint) (footprint next : Footprint) → plan ++ left ≡ all → left ≡ next ∷ rest → footprint ≡ next → (plan ++ footprint ∷ []) ++ rest ≡ all
kept_more plan left rest all footprint next kept is same =
    append_assoc plan (footprint ∷ []) rest ∙ ap (λ first. plan ++ first ∷ rest) same ∙ ap (λ more. plan ++ more) (sym is) ∙ kept

pub take-footprints : (inodes : Inodes) (ordinal : ℕ) (time : Time) (requests : List (List ℕ)) (n : ℕ) → take n (footprints_at inodes ordinal time requests) ≡ footprints_at inodes ordinal time (take n requests)
take-footprints inodes ordinal time requests zero = refl
take-footprints inodes ordinal time [] (suc n) = refl
take-footprints inodes ordinal time (request ∷ requests) (suc n) = ap (λ rest. footprint_of inodes ordinal time request ∷ rest) (take-footprints inodes (ordinal_after ordinal 1) time requests n)
