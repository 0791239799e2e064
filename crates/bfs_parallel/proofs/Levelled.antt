-- A group whose levels are carried out one after another, by the law on levels.
use Rattle.std.proofs.Common.{◌≡◌, ℕ, zero, suc, ◌+◌, ◌-◌, ◌<◌, ◌≤◌, Bool, true, false, cond, not, ◌||◌, List, [], ◌∷◌, length, map, drop, get_or, None, refl, ap, sym, subst, ◌∙◌, arith, eqb, eqb-true, true≢false, inl, inr, ◌⊎◌}
use Rattle.std.specs.Global.{Global}
use Rattle.std.specs.List.{All, AllByRecursion}
use Rattle.std.specs.FinMap.{get}
use Rattle.std.specs.List.Sorted.{IsStrictlyIncreasing}
use Rattle.std.specs.declared.vec.Vec.{Vec}
use Rattle.std.proofs.lemmas.Bool.{false_from_ne_true, cases_lt}
use Rattle.std.proofs.lemmas.List.{get_or-take, length-take}
use Rattle.std.proofs.lemmas.List.Elements.{All-from_recursion, recursion_from_All}
use Rattle.bfs_model.specs.Server.Tree.{Time, Inodes, spent_ordinal}
use Rattle.bfs_model.specs.Server.Limits.{most_reply_bytes}
use Rattle.bfs_model.specs.Server.Serial.{ordinal_after, answer, inodes_after, replies_to}
use Rattle.bfs_model.specs.Server.Footprints.{Footprint, IsFreshFor, footprint_of}
use Rattle.bfs_model.specs.Server.Conflicts.{among, is_whole, is_touched, conflict, AgreeOn, closed}
use Rattle.bfs_model.specs.Server.Shares.{all_moved, without, share_of, is_there}
use Rattle.bfs_model.specs.Server.Groups.{AreDisjoint, footprints_at, footprints_in_order}
use Rattle.bfs_model.specs.Server.Events.{Slot, waiting, taken, finished, is_done, World}
use Rattle.bfs_model.specs.Laws.Overtaking.{Asked, answered, asked_at, footprint_at, slots_of, plan, calls, at_first, MayBeTaken, IsAsInOrder}
use Rattle.bfs_model.proofs.Public.{get-without, groups_keep_footprints, levels_follow, servable, shares_know}
use Rattle.bfs_levels.specs.Planning.{level_behind, levels_behind}
use Rattle.bfs_levels.specs.Requests.{requests_from}
use Rattle.bfs_levels.proofs.Public.{levels_rise}
use Rattle.bfs_handover.specs.Laws.Carrying.{AreCarriedOut, all_back, outcome_for, stays}
use Rattle.bfs_handover.specs.Splitting.{CanBeSplit, IsFoundOn, PlannedPart, footprint_for, footprints_for, ordinal_of, part_of, request_of}
use Rattle.bfs_handover.specs.declared.results.NumberedReply.{NumberedReply}
use Rattle.bfs_handover.proofs.Public.{length-footprints_at, share_seen}
use Rattle.bfs_parallel.specs.Levels.{AreInLevels, IsGroupOf, places_from}
use Rattle.bfs_parallel.specs.Ran.{AllRan}
use Rattle.bfs_parallel.proofs.Places.{AreFor, all_said, all_told, are_places, is_there as is_among, length-put_from, numbers_rise, places_differ, Climb, climb, put_elsewhere, put_from, put_there}
use Rattle.bfs_parallel.proofs.Standing.{Stand, Together, at_start, back, its_footprint, its_ordinal_is_fresh, same_back, together, told, told_is_short}

-- Requests by their places ----------------------------------------------------------------------------------------------------

pub asked_is : (o : ℕ) (t : Time) (requests : List (List ℕ)) (k : ℕ) → o ≤ spent_ordinal → k < length requests
    → asked_at o t requests k ≡ record { ordinal = ordinal_after o k; time = t; bytes = get_or requests k [] }
asked_is o t [] k most less = absurd (omega arith)
asked_is o t (request ∷ requests) zero most less = ap (λ p. record { ordinal = p; time = t; bytes = request }) (let same : o ≡ ordinal_after o 0 = omega arith in same)
asked_is o t (request ∷ requests) (suc k) most less =
    asked_is (ordinal_after o 1) t requests k (omega arith) (omega arith) ∙ ap (λ p. record { ordinal = p; time = t; bytes = get_or requests k [] }) (let same : ordinal_after (ordinal_after o 1) k ≡ ordinal_after o (suc k) = omega arith in same)

length-levels_behind : (earlier : List (Footprint × ℕ)) (fs : List Footprint) → length (levels_behind earlier fs) ≡ length fs
length-levels_behind earlier [] = refl
length-levels_behind earlier (f ∷ fs) = ap suc (length-levels_behind ((f, level_behind earlier f) ∷ earlier) fs)

known_at : (fs : List Footprint) (k : ℕ) → AllByRecursion (λ g. is_whole g ≡ false) fs → is_whole (footprint_at fs k) ≡ false
known_at [] k all = refl
known_at (f ∷ fs) zero all = all.0
known_at (f ∷ fs) (suc k) all = known_at fs k all.1

at_place : (P : ℕ → Type 0) (ks : List ℕ) (k : ℕ) → AllByRecursion P ks → among ks k ≡ true → P k
at_place P [] k all is = absurd (true≢false (sym is))
at_place P (j ∷ ks) k all is = by_head (eqb j k) refl is (at_place P ks k all.1)
  where
    by_head : (b : Bool) → eqb j k ≡ b → (b || among ks k) ≡ true → (among ks k ≡ true → P k) → P k
    by_head true same is later = subst P (eqb-true j k same) all.0
    by_head false same is later = later is

each_of : (P Q : ℕ → Type 0) → ((k : ℕ) → P k → Q k) → (ks : List ℕ) → AllByRecursion P ks → AllByRecursion Q ks
each_of P Q f [] all = tt
each_of P Q f (k ∷ ks) all = (f k all.0, each_of P Q f ks all.1)

all_numbered : (P : ℕ → Type 0) (first : ℕ) (ks : List ℕ) → AllByRecursion (λ k. P (first + k)) ks → AllByRecursion P (map (λ k. first + k) ks)
all_numbered P first [] all = tt
all_numbered P first (k ∷ ks) all = (all.0, all_numbered P first ks all.1)

-- Slots of a group that is over --------------------------------------------------------------------------------------------

abbrev reply_of : Slot (List ℕ) → List ℕ
reply_of waiting = []
reply_of (taken away) = []
reply_of (finished reply) = reply

abbrev first_of : List (Slot (List ℕ)) → List ℕ
first_of [] = []
first_of (slot ∷ slots) = reply_of slot

abbrev rest_of : List (Slot (List ℕ)) → List (Slot (List ℕ))
rest_of [] = []
rest_of (slot ∷ slots) = slots

texts_are : (count : ℕ) (slots : ℕ → Slot (List ℕ)) (texts replies : List (List ℕ)) → length texts ≡ count → ((k : ℕ) → k < count → slots k ≡ finished (get_or texts k [])) → slots_of count slots ≡ map finished replies → texts ≡ replies
texts_are zero slots [] [] long each are = refl
texts_are zero slots [] (reply ∷ replies) long each are = absurd (let wrong : 0 ≡ suc (length (map finished replies)) = ap length are in omega arith)
texts_are zero slots (text ∷ texts) replies long each are = absurd (omega arith)
texts_are (suc count) slots [] replies long each are = absurd (omega arith)
texts_are (suc count) slots (text ∷ texts) [] long each are = absurd (let wrong : suc (length (slots_of count (λ k. slots (suc k)))) ≡ 0 = ap length are in omega arith)
texts_are (suc count) slots (text ∷ texts) (reply ∷ replies) long each are = λ i.
    (sym (ap reply_of (each 0 (omega arith))) ∙ ap first_of are) i ∷ texts_are count (λ k. slots (suc k)) texts replies (omega arith) (λ k less. each (suc k) (omega arith)) (ap rest_of are) i

each_ran : (ran : ℕ → List ℕ → Type 0) (number : ℕ) (requests texts : List (List ℕ)) → length texts ≡ length requests → ((k : ℕ) → k < length requests → ran (number + k) (get_or texts k [])) → AllRan ran number requests texts
each_ran ran number [] texts long each = tt
each_ran ran number (request ∷ requests) [] long each = tt
each_ran ran number (request ∷ requests) (text ∷ texts) long each = (
  (λ _. subst (λ k. ran k text) (let same : number + 0 ≡ number = omega arith in same) (each 0 (omega arith))),
  each_ran ran (number + 1) requests texts (omega arith) (λ k less. subst (λ p. ran p (get_or texts k [])) (let same : number + suc k ≡ (number + 1) + k = omega arith in same) (each (suc k) (omega arith))),
)

-- a reply of a group of so many requests, of which the first has that number
abbrev pub IsPlaced : (first n : ℕ) → NumberedReply → Type 0
IsPlaced first n reply = (first ≤ reply.number) × (reply.number < first + n) × (length reply.bytes.items ≤ most_reply_bytes)

-- A group on a tree ----------------------------------------------------------------------------------------------------------

pub as_many_levels : (m : Inodes) (first o : ℕ) (t : Time) (batch : List (List ℕ)) (fs : List Footprint) (levels : List ℕ) → IsGroupOf m first o t batch fs levels → length levels ≡ length fs
as_many_levels m first o t batch fs levels group = ap length group.levelled ∙ length-levels_behind [] fs

module _ (m : Inodes) (first o : ℕ) (t : Time) (batch : List (List ℕ)) (fs : List Footprint) (levels : List ℕ) (group : IsGroupOf m first o t batch fs levels) where
  abbrev n : ℕ
  n = length fs

  abbrev requests : List (List ℕ)
  requests = requests_from first (length fs) batch

  abbrev part : PlannedPart
  part = part_of first o t batch fs

  abbrev own : footprints_in_order m o t requests ≡ footprints_at m o t requests
  own = groups_keep_footprints (record { tree = m; next_ordinal = o; last_time = t }) t requests group.formed group.cut

  abbrev asked : ℕ → Asked
  asked = calls m o t requests

  abbrev feet : ℕ → Footprint
  feet = plan m o t requests

  abbrev Standing : World (List ℕ) → Type 0
  Standing w = Stand m o t requests own w

  many : length requests ≡ n
  many = sym (length-footprints_at m t o requests) ∙ sym (ap length group.found)

  most : o ≤ spent_ordinal
  most = group.formed.ordinal.1

  long : length levels ≡ n
  long = as_many_levels m first o t batch fs levels group

  back_at : (k : ℕ) → (first + k) - first ≡ k
  back_at k = omega arith

  -- what the part has of a number is what the group has at its place
  foot_is : (k : ℕ) → footprint_for part (first + k) ≡ feet k
  foot_is k = ap (footprint_at fs) (back_at k) ∙ ap (λ gs. footprint_at gs k) group.found

  call_is : (k : ℕ) → k < n → (inodes : Inodes) → answered (asked k) inodes ≡ answer inodes (ordinal_of part (first + k)) t (request_of part (first + k))
  call_is k less inodes =
      let ordinal : ordinal_after o k ≡ ordinal_of part (first + k) = ap (ordinal_after o) (sym (back_at k)) in
      let request : get_or requests k [] ≡ request_of part (first + k) = get_or-take n (drop first batch) k [] less ∙ ap (λ j. get_or (drop first batch) j []) (sym (back_at k)) in
      ap (λ (a : Asked). answered a inodes) (asked_is o t requests k most (subst (λ l. k < l) (sym many) less)) ∙ (λ i. answer inodes (ordinal i) t (request i))

  touch_is : (k : ℕ) → k < n → (inodes : Inodes) → footprint_of inodes (asked k).ordinal (asked k).time (asked k).bytes ≡ footprint_of inodes (ordinal_of part (first + k)) t (request_of part (first + k))
  touch_is k less inodes =
      let ordinal : ordinal_after o k ≡ ordinal_of part (first + k) = ap (ordinal_after o) (sym (back_at k)) in
      let request : get_or requests k [] ≡ request_of part (first + k) = get_or-take n (drop first batch) k [] less ∙ ap (λ j. get_or (drop first batch) j []) (sym (back_at k)) in
      ap (λ (a : Asked). footprint_of inodes a.ordinal a.time a.bytes) (asked_is o t requests k most (subst (λ l. k < l) (sym many) less)) ∙ (λ i. footprint_of inodes (ordinal i) t (request i))

  ordinal_is : (k : ℕ) → k < n → (asked k).ordinal ≡ ordinal_of part (first + k)
  ordinal_is k less = ap (λ (a : Asked). a.ordinal) (asked_is o t requests k most (subst (λ l. k < l) (sym many) less)) ∙ ap (ordinal_after o) (sym (back_at k))

  feet_are : (ks : List ℕ) → footprints_for part (map (λ k. first + k) ks) ≡ map feet ks
  feet_are [] = refl
  feet_are (k ∷ ks) = λ i. foot_is k i ∷ feet_are ks i

  -- each is carried out on its share
  abbrev shares : (inodes home : Inodes) → ℕ → Inodes
  shares inodes home k = share_of inodes home (feet k)

  outcome_is : (k : ℕ) → k < n → (inodes home : Inodes) → outcome_for inodes home part (first + k) ≡ answered (asked k) (shares inodes home k)
  outcome_is k less inodes home =
      ap (λ f. answer (share_of inodes home f) (ordinal_of part (first + k)) t (request_of part (first + k))) (foot_is k) ∙ sym (call_is k less (shares inodes home k))

  backs : (ks : List ℕ) → AllByRecursion (λ k. k < n) ks → (inodes home left : Inodes) → all_back inodes home part (map (λ k. first + k) ks) left ≡ back m o t requests own (shares inodes home) ks left
  backs [] all inodes home left = refl
  backs (k ∷ ks) all inodes home left =
      ap (all_back inodes home part (map (λ j. first + j) ks)) (λ i. closed (foot_is k i) (outcome_is k all.0 inodes home i).0 left)
      ∙ backs ks all.1 inodes home (closed (feet k) (answered (asked k) (shares inodes home k)).0 left)

  answers_are : (ks : List ℕ) → AllByRecursion (λ k. k < n) ks → (inodes home : Inodes)
      → map (λ number. (outcome_for inodes home part number).1) (map (λ k. first + k) ks) ≡ map (told m o t requests own (shares inodes home)) ks
  answers_are [] all inodes home = refl
  answers_are (k ∷ ks) all inodes home = λ i. (outcome_is k all.0 inodes home i).1 ∷ answers_are ks all.1 inodes home i

  module _ (ran : ℕ → List ℕ → Type 0) where
    -- the lower levels are carried out, and the others wait
    pub record IsUnder (home : Inodes) (texts : List (List ℕ)) (left : List (Vec ℕ Global)) : Type 0 where
      pub level : ℕ
      pub leave : AreInLevels first levels level left
      pub world : World (List ℕ)
      pub stand : Standing world
      pub at_home : world.home ≡ home
      pub many_texts : length texts ≡ n
      pub done : (k : ℕ) → k < n → get_or levels k 0 < level → (world.slots k ≡ finished (get_or texts k [])) × ran (first + k) (get_or texts k [])
      pub waits : (k : ℕ) → k < n → level ≤ get_or levels k 0 → world.slots k ≡ waiting

    pub begins : (texts : List (List ℕ)) (left : List (Vec ℕ Global)) → AreInLevels first levels 0 left → length texts ≡ n → IsUnder m texts left
    begins texts left leave count = record {
      level = 0;
      leave = leave;
      world = at_first m o t requests;
      stand = at_start m o t requests own;
      at_home = refl;
      many_texts = count;
      done = λ k less below. absurd (omega arith);
      waits = λ k less above. refl;
    }

    module _ (home : Inodes) (texts : List (List ℕ)) (numbers : Vec ℕ Global) (left : List (Vec ℕ Global)) (under : IsUnder home texts (numbers ∷ left)) where
      abbrev ks : List ℕ
      ks = places_from 0 levels under.level

      abbrev w : World (List ℕ)
      w = under.world

      numbers_are : numbers.items ≡ map (λ k. first + k) ks
      numbers_are = under.leave.0

      here : AllByRecursion (λ k. (k < n) × (get_or levels k 0 ≡ under.level)) ks
      here = each_of (λ k. (k < length levels) × (get_or levels k 0 ≡ under.level)) (λ k. (k < n) × (get_or levels k 0 ≡ under.level)) (λ k is. (subst (λ l. k < l) long is.0, is.1)) ks (are_places levels under.level)

      within_group : AllByRecursion (λ k. k < n) ks
      within_group = each_of (λ k. (k < n) × (get_or levels k 0 ≡ under.level)) (λ k. k < n) (λ k is. is.0) ks here

      -- conflicting ones stand at levels that rise
      no_conflict : (j k : ℕ) → j < k → k < n → get_or levels k 0 ≤ get_or levels j 0 → conflict (feet j) (feet k) ≡ false
      no_conflict j k before less high = false_from_ne_true (conflict (feet j) (feet k)) (λ meets.
          let meets_there : conflict (footprint_at fs j) (footprint_at fs k) ≡ true = subst (λ gs. conflict (footprint_at gs j) (footprint_at gs k) ≡ true) (sym group.found) meets in
          let rise : get_or levels j 0 < get_or levels k 0 = subst (λ ls. get_or ls j 0 < get_or ls k 0) (sym group.levelled) (levels_rise fs j k before less meets_there) in
          absurd (omega arith))

      free : (k : ℕ) → k < n → get_or levels k 0 ≡ under.level → (j : ℕ) → j < k → is_done (w.slots j) ≡ false → conflict (feet j) (feet k) ≡ false
      free k less at j before undone =
          no_conflict j k before less (by_level (cases_lt (get_or levels j 0) under.level))
        where
          by_level : (get_or levels j 0 < under.level) ⊎ (under.level ≤ get_or levels j 0) → get_or levels k 0 ≤ get_or levels j 0
          by_level (inl low) = absurd (true≢false (sym (ap is_done (under.done j (omega arith) low).0) ∙ undone))
          by_level (inr high) = omega arith

      may : (k : ℕ) → (k < n) × (get_or levels k 0 ≡ under.level) → MayBeTaken m o t requests w k
      may k is = (subst (λ l. k < l) (sym many) is.0, under.waits k is.0 (let at = is.1 in omega arith), free k is.0 is.1)

      all_may : AllByRecursion (MayBeTaken m o t requests w) ks
      all_may = each_of (λ k. (k < n) × (get_or levels k 0 ≡ under.level)) (MayBeTaken m o t requests w) may ks here

      -- Conditions -----------------------------------------------------------------------------------------------------------

      found_here : (k : ℕ) → (k < n) × (get_or levels k 0 ≡ under.level) → IsFoundOn home part (first + k)
      found_here k is = record {
        requested = let less = is.0 in let all = many in let few : length requests ≤ length (drop first batch) = short in omega arith;
        own = subst (λ h. footprint_of h (ordinal_of part (first + k)) t (request_of part (first + k)) ≡ footprint_for part (first + k)) under.at_home
            (sym (touch_is k is.0 w.home) ∙ its_footprint m o t requests own w under.stand k (may k is) ∙ sym (foot_is k));
      }
        where
          short : length requests ≤ length (drop first batch)
          short = let cut = length-take n (drop first batch) in omega arith

      can_here : (k : ℕ) → (k < n) × (get_or levels k 0 ≡ under.level) → CanBeSplit home part (first + k)
      can_here k is = record {
        from = omega arith;
        within = let less = is.0 in omega arith;
        known = known_at fs ((first + k) - first) group.known;
        fresh = subst (λ f. IsFreshFor home (ordinal_of part (first + k)) f) (sym (foot_is k)) (subst (λ p. IsFreshFor home p (feet k)) (ordinal_is k is.0)
            (subst (λ h. IsFreshFor h (asked k).ordinal (feet k)) under.at_home
            (its_ordinal_is_fresh m o t requests own w under.stand k (may k is) (servable (record { tree = m; next_ordinal = o; last_time = t }) group.formed))));
      }

      pub all_found : All (IsFoundOn home part) numbers.items
      all_found = subst (All (IsFoundOn home part)) (sym numbers_are) (All-from_recursion (IsFoundOn home part) (map (λ k. first + k) ks)
          (all_numbered (IsFoundOn home part) first ks (each_of (λ k. (k < n) × (get_or levels k 0 ≡ under.level)) (λ k. IsFoundOn home part (first + k)) found_here ks here)))

      pub all_can : All (CanBeSplit home part) numbers.items
      all_can = subst (All (CanBeSplit home part)) (sym numbers_are) (All-from_recursion (CanBeSplit home part) (map (λ k. first + k) ks)
          (all_numbered (CanBeSplit home part) first ks (each_of (λ k. (k < n) × (get_or levels k 0 ≡ under.level)) (λ k. CanBeSplit home part (first + k)) can_here ks here)))

      apart_here : (js : List ℕ) → AllByRecursion (λ k. (k < n) × (get_or levels k 0 ≡ under.level)) js → Climb js → AreDisjoint (map feet js)
      apart_here [] all up = tt
      apart_here (j ∷ js) all up = (others js all.1 up.0, apart_here js all.1 up.1)
        where
          others : (is : List ℕ) → AllByRecursion (λ k. (k < n) × (get_or levels k 0 ≡ under.level)) is → AllByRecursion (λ k. j < k) is → AllByRecursion (λ other. conflict (feet j) other ≡ false) (map feet is)
          others [] here above = tt
          others (k ∷ is) here above = (no_conflict j k above.0 here.0.0 (let one = here.0.1 in let two = all.0.1 in omega arith), others is here.1 above.1)

      disjoint_here : AreDisjoint (map feet ks)
      disjoint_here = apart_here ks here (climb levels under.level)

      pub are_apart : AreDisjoint (footprints_for part numbers.items)
      are_apart = subst (λ ns. AreDisjoint (footprints_for part ns)) (sym numbers_are) (subst AreDisjoint (sym (feet_are ks)) disjoint_here)

      pub rising : IsStrictlyIncreasing numbers.items
      rising = subst IsStrictlyIncreasing (sym numbers_are) (numbers_rise first levels under.level)

      -- What comes of it -----------------------------------------------------------------------------------------------------

      module _ (after : Inodes) (replies : List NumberedReply) (carried : AreCarriedOut home after part numbers.items replies) (gated : All (λ (reply : NumberedReply). ran reply.number reply.bytes.items) replies) where
        abbrev stay : Inodes
        stay = without (all_moved (map feet ks)) w.home

        abbrev owns : ℕ → Inodes
        owns = shares w.home stay

        abbrev telling : ℕ → List ℕ
        telling = told m o t requests own owns

        there_each : (js : List ℕ) → AllByRecursion (λ f. (id : ℕ) → is_touched f id ≡ true → is_there (map feet ks) f id ≡ true) (map feet js) → AllByRecursion (λ k. AgreeOn (feet k) w.home (owns k)) js
        there_each [] all = tt
        there_each (k ∷ js) all = (share_seen w.home (feet k) (map feet ks) all.0, there_each js all.1)

        done_now : Together m o t requests own owns w ks
        done_now = together m o t requests own owns w under.stand ks (places_differ levels under.level) all_may (there_each ks (shares_know (map feet ks) disjoint_here))

        carried_here : AreCarriedOut w.home after part (map (λ k. first + k) ks) replies
        carried_here = subst (λ h. AreCarriedOut h after part (map (λ k. first + k) ks) replies) (sym under.at_home) (subst (λ ns. AreCarriedOut home after part ns replies) numbers_are carried)

        stays_same : stays w.home part (map (λ k. first + k) ks) ≡ stay
        stays_same = ap (λ gs. without (all_moved gs) w.home) (feet_are ks)

        for_these : AreFor first telling ks replies
        for_these = record {
          numbered = carried_here.numbered;
          answers = carried_here.answers ∙ ap (λ h. map (λ number. (outcome_for w.home h part number).1) (map (λ k. first + k) ks)) stays_same ∙ answers_are ks within_group w.home stay;
        }

        -- what was moved away is what comes back, so it is as if it had stayed
        home_after : after ≡ back m o t requests own owns ks stay
        home_after = carried_here.home ∙ ap (λ h. all_back w.home h part (map (λ k. first + k) ks) h) stays_same ∙ backs ks within_group w.home stay stay

        within_texts : AllByRecursion (λ k. k < length texts) ks
        within_texts = each_of (λ k. k < n) (λ k. k < length texts) (λ k less. subst (λ l. k < l) (sym under.many_texts) less) ks within_group

        gated_each : AllByRecursion (λ k. ran (first + k) (telling k)) ks
        gated_each = all_told first telling ran ks replies for_these (recursion_from_All (λ (reply : NumberedReply). ran reply.number reply.bytes.items) replies gated)

        put_here : (k : ℕ) → among ks k ≡ true → get_or (put_from first replies texts) k [] ≡ telling k
        put_here = put_there first telling ks replies texts for_these (places_differ levels under.level) within_texts

        put_other : (k : ℕ) → among ks k ≡ false → get_or (put_from first replies texts) k [] ≡ get_or texts k []
        put_other = put_elsewhere first telling ks replies texts for_these (places_differ levels under.level) within_texts

        not_here : (k : ℕ) → (get_or levels k 0 ≡ under.level → ⊥) → among ks k ≡ false
        not_here k other = false_from_ne_true (among ks k) (λ is. other (at_place (λ j. (j < n) × (get_or levels j 0 ≡ under.level)) ks k here is).1)

        done_then : (k : ℕ) → k < n → get_or levels k 0 < under.level + 1
            → (done_now.world.slots k ≡ finished (get_or (put_from first replies texts) k [])) × ran (first + k) (get_or (put_from first replies texts) k [])
        done_then k less below = by_level (cases_lt (get_or levels k 0) under.level)
          where
            by_level : (get_or levels k 0 < under.level) ⊎ (under.level ≤ get_or levels k 0) → (done_now.world.slots k ≡ finished (get_or (put_from first replies texts) k [])) × ran (first + k) (get_or (put_from first replies texts) k [])
            by_level (inl low) =
                let none = not_here k (λ same. absurd (omega arith)) in (
                  done_now.others k none ∙ (under.done k less low).0 ∙ ap finished (sym (put_other k none)),
                  subst (ran (first + k)) (sym (put_other k none)) (under.done k less low).1,
                )
            by_level (inr high) =
                let is : among ks k ≡ true = is_among levels under.level k (subst (λ l. k < l) (sym long) less) (omega arith) in (
                  done_now.these k is ∙ ap finished (sym (put_here k is)),
                  subst (ran (first + k)) (sym (put_here k is)) (at_place (λ j. ran (first + j) (telling j)) ks k gated_each is),
                )

        pub all_placed : All (IsPlaced first n) replies
        all_placed = All-from_recursion (IsPlaced first n) replies (all_said first telling (λ number bytes. (first ≤ number) × (number < first + n) × (length bytes ≤ most_reply_bytes)) ks replies for_these
            (each_of (λ k. (k < n) × (get_or levels k 0 ≡ under.level)) (λ k. (first ≤ first + k) × (first + k < first + n) × (length (telling k) ≤ most_reply_bytes)) (λ k is. (
              omega arith,
              (let less = is.0 in omega arith),
              told_is_short m o t requests own done_now.world done_now.stand k (telling k) (servable (record { tree = m; next_ordinal = o; last_time = t }) group.formed) (subst (λ l. k < l) (sym many) is.0)
                  (done_now.these k (is_among levels under.level k (subst (λ l. k < l) (sym long) is.0) is.1)),
            )) ks here))

        home_is : done_now.world.home ≡ after
        home_is = done_now.at_home ∙ same_back m o t requests own owns ks w.home stay (λ id free. sym (get-without (all_moved (map feet ks)) w.home id ∙ ap (λ b. cond (not b) (get w.home id) None) free)) ∙ sym home_after

        pub goes_on : IsUnder after (put_from first replies texts) left
        goes_on = record {
          level = under.level + 1;
          leave = under.leave.1;
          world = done_now.world;
          stand = done_now.stand;
          at_home = home_is;
          many_texts = length-put_from first replies texts ∙ under.many_texts;
          done = done_then;
          waits = λ k less high. done_now.others k (not_here k (λ same. absurd (omega arith))) ∙ under.waits k less (omega arith);
        }

    -- all levels are carried out
    pub record IsOver (home : Inodes) (texts : List (List ℕ)) : Type 0 where
      pub inodes : home ≡ inodes_after m o t requests
      pub replies : texts ≡ replies_to m o t requests
      pub gated : AllRan ran first requests texts

    pub ends : (home : Inodes) (texts : List (List ℕ)) → IsUnder home texts [] → IsOver home texts
    ends home texts under = record {
      inodes = sym under.at_home ∙ law.0;
      replies = texts_are (length requests) under.world.slots texts (replies_to m o t requests) (under.many_texts ∙ sym many) (λ k less. (all k less).0) law.1;
      gated = each_ran ran first requests texts (under.many_texts ∙ sym many) (λ k less. (all k less).1);
    }
      where
        all : (k : ℕ) → k < length requests → (under.world.slots k ≡ finished (get_or texts k [])) × ran (first + k) (get_or texts k [])
        all k less = let few : k < n = subst (λ l. k < l) many less in under.done k few (under.leave k (subst (λ l. k < l) (sym long) few))

        law : IsAsInOrder m o t requests under.world
        law = levels_follow (record { tree = m; next_ordinal = o; last_time = t }) t requests (group.formed, group.cut) under.stand.levels under.world under.stand.lead (λ k less. ap is_done (all k less).0)

-- of an iterator that is at its end
pub none_left : {X : Type 0} (left : List X) (len : ℕ) → len ≡ length left → len ≡ 0 → left ≡ []
none_left [] len long none = refl
none_left (x ∷ left) len long none = absurd (omega arith)

-- On its way -------------------------------------------------------------------------------------------------------------------

module _ (ran : ℕ → List ℕ → Type 0) (m : Inodes) (first o : ℕ) (t : Time) (batch : List (List ℕ)) (fs : List Footprint) (levels : List ℕ) where
  -- a group of which some levels are left
  pub record IsOnItsWay (home : Inodes) (texts : List (List ℕ)) (left : List (Vec ℕ Global)) : Type 0 where
    pub group : IsGroupOf m first o t batch fs levels
    pub under : IsUnder m first o t batch fs levels group ran home texts left

  pub sets_out : (texts : List (List ℕ)) (left : List (Vec ℕ Global)) → IsGroupOf m first o t batch fs levels → AreInLevels first levels 0 left → length texts ≡ length fs → IsOnItsWay m texts left
  sets_out texts left group leave count = record { group = group; under = begins m first o t batch fs levels group ran texts left leave count }

  -- what the next level asks for
  pub record IsReady (home : Inodes) (texts : List (List ℕ)) (numbers : List ℕ) : Type 0 where
    pub found : All (IsFoundOn home (part_of first o t batch fs)) numbers
    pub can : All (CanBeSplit home (part_of first o t batch fs)) numbers
    pub apart : AreDisjoint (footprints_for (part_of first o t batch fs) numbers)
    pub rise : IsStrictlyIncreasing numbers

  pub ready : (home : Inodes) (texts : List (List ℕ)) (numbers : Vec ℕ Global) (left : List (Vec ℕ Global)) → IsOnItsWay home texts (numbers ∷ left) → IsReady home texts numbers.items
  ready home texts numbers left way = record {
    found = all_found m first o t batch fs levels way.group ran home texts numbers left way.under;
    can = all_can m first o t batch fs levels way.group ran home texts numbers left way.under;
    apart = are_apart m first o t batch fs levels way.group ran home texts numbers left way.under;
    rise = rising m first o t batch fs levels way.group ran home texts numbers left way.under;
  }

  pub further : (home : Inodes) (texts : List (List ℕ)) (numbers : Vec ℕ Global) (left : List (Vec ℕ Global)) → IsOnItsWay home texts (numbers ∷ left)
      → (after : Inodes) (replies : List NumberedReply) → AreCarriedOut home after (part_of first o t batch fs) numbers.items replies → All (λ (reply : NumberedReply). ran reply.number reply.bytes.items) replies
      → IsOnItsWay after (put_from first replies texts) left
  further home texts numbers left way after replies carried gated =
      record { group = way.group; under = goes_on m first o t batch fs levels way.group ran home texts numbers left way.under after replies carried gated }

  -- each reply of the next level has its place
  pub placed : (home : Inodes) (texts : List (List ℕ)) (numbers : Vec ℕ Global) (left : List (Vec ℕ Global)) → IsOnItsWay home texts (numbers ∷ left)
      → (after : Inodes) (replies : List NumberedReply) → AreCarriedOut home after (part_of first o t batch fs) numbers.items replies → All (λ (reply : NumberedReply). ran reply.number reply.bytes.items) replies
      → All (IsPlaced first (length fs)) replies
  placed home texts numbers left way after replies carried gated = all_placed m first o t batch fs levels way.group ran home texts numbers left way.under after replies carried gated

  pub arrives : (home : Inodes) (texts : List (List ℕ)) → IsOnItsWay home texts [] → (home ≡ inodes_after m o t (requests_from first (length fs) batch)) × (texts ≡ replies_to m o t (requests_from first (length fs) batch)) × AllRan ran first (requests_from first (length fs) batch) texts
  arrives home texts way = let over = ends m first o t batch fs levels way.group ran home texts way.under in (over.inodes, over.replies, over.gated)
