-- A core none of whose calls is taken.
use Rattle.std.proofs.Common.{◌≡◌, ℕ, Bool, true, false, not, true≢false, List, [], ◌∷◌, length, map, take, drop, is_some, refl, ap, sym, subst, ◌∙◌}
use Rattle.std.specs.List.{All, AllByRecursion, list_any}
use Rattle.std.specs.FinMap.{get}
use Rattle.std.proofs.lemmas.List.{length-map}
use Rattle.std.proofs.lemmas.List.Elements.{All-from_recursion}
use Rattle.bfs_model.specs.Server.Tree.{Time}
use Rattle.bfs_model.specs.Server.Footprints.{Footprint}
use Rattle.bfs_model.specs.Server.Events.{waiting}
use Rattle.bfs_model.specs.Server.Groups.{footprints_at, IsCut}
use Rattle.bfs_model.specs.Laws.Overtaking.{IsGroup}
use Rattle.bfs_model.specs.Server.Stored.{IsLive}
use Rattle.bfs_levels.specs.Planning.{group_length}
use Rattle.bfs_levels.proofs.Public.{groups_are_cut}
use Rattle.bfs_serial.specs.Parts.{file_system_of}
use Rattle.bfs_footprint.specs.Seen.{footprint_seen}
use Rattle.bfs_footprint.specs.declared.footprints.Footprint as declared
use Rattle.bfs_tree.specs.Laws.Knowing.{knows_all}
use Rattle.bfs_tree.specs.Slots.{Slots}
use Rattle.bfs_tree.specs.Tree.{at_home, lent, reach_of}
use Rattle.bfs_overtaking.specs.declared.calls.Call.{Call}
use Rattle.bfs_overtaking.specs.declared.calls.State.TheVariants.{Waiting}
use Rattle.bfs_overtaking.specs.declared.claims.Claims.{Claims}
use Rattle.bfs_overtaking.specs.Inside.Claims.{AreClaimed, all_wait}
use Rattle.bfs_overtaking.specs.Laws.Overtaking.{PlansAreGroups}
use Rattle.bfs_overtaking.specs.Machine.{Standing}
use Rattle.bfs_overtaking.specs.Laws.Reached.{IsReached}
use Rattle.bfs_levels.specs.Parts.{first_requests}
use Rattle.bfs_levels.specs.Requests.{requests_from}
use Rattle.bfs_levels.specs.declared.part.Part.{Part}
use Rattle.bfs_overtaking.specs.Seen.{standing_seen, machine_seen, start_of}
use Rattle.bfs_overtaking.specs.Inside.Running.{OwnsWritten, IsRunning}
use Rattle.bfs_overtaking.proofs.Stepping.{start_reached}
use Rattle.bfs_overtaking.proofs.Owning.{has}

abbrev waits : declared.Footprint → Call
waits footprint = record { footprint = footprint; state = Waiting }

abbrev waits_there : Footprint → Standing
waits_there footprint = record { footprint = footprint; slot = waiting }

standings_seen : (fs : List declared.Footprint) → map standing_seen (map waits fs) ≡ map waits_there (map footprint_seen fs)
standings_seen [] = refl
standings_seen (f ∷ fs) = ap (λ xs. waits_there (footprint_seen f) ∷ xs) (standings_seen fs)

none_has : (fs : List declared.Footprint) (q : ℕ) → list_any (has q) (map waits fs) ≡ false
none_has [] q = refl
none_has (f ∷ fs) q = none_has fs q

all_own : (fs : List declared.Footprint) → AllByRecursion OwnsWritten (map waits fs)
all_own [] = tt
all_own (f ∷ fs) = (tt, all_own fs)

module _ (part : Part) (tree : Slots) (fs : List declared.Footprint) (calls : List Call) (are : calls ≡ map waits fs)
    (planned : map footprint_seen fs ≡ footprints_at (at_home tree) part.ordinal part.time (first_requests part (length fs))) where
  pub new_seen : machine_seen part tree calls ≡ start_of part (length fs) (at_home tree)
  new_seen = λ i. record {
    first = part.first;
    ordinal = part.ordinal;
    time = part.time;
    requests = first_requests part ((ap length are ∙ length-map fs waits) i);
    home = at_home tree;
    standings = (ap (map standing_seen) are ∙ standings_seen fs ∙ ap (map waits_there) planned) i;
  }

  pub new_claimed : (claims : Claims) → AreClaimed claims (all_wait (map footprint_seen fs)) → AreClaimed claims (map standing_seen calls)
  new_claimed claims claimed = subst (AreClaimed claims) (sym (ap (map standing_seen) are ∙ standings_seen fs)) claimed

  pub new_running : (reach_of tree).whole ≡ true → IsGroup (file_system_of tree part.ordinal part.time) part.time (first_requests part (length fs)) → IsRunning tree calls (machine_seen part tree calls)
  new_running whole group = record {
    reached = subst IsReached (sym new_seen) (start_reached part.first part.ordinal part.time (first_requests part (length fs)) (at_home tree) group);
    out = λ q. not_true (is_some (get (lent tree) q)) (knows_all (lent tree) whole q) ∙ sym (ap (list_any (has q)) are ∙ none_has fs q);
    own = subst (All OwnsWritten) (sym are) (All-from_recursion OwnsWritten (map waits fs) (all_own fs));
  }
    where
      not_true : (b : Bool) → not b ≡ true → b ≡ false
      not_true true it = absurd (true≢false (sym it))
      not_true false it = refl

pub plans_are_groups : PlansAreGroups
plans_are_groups files t batch first count formed is =
    (formed, subst (λ n. IsCut (footprints_at files.tree files.next_ordinal t (take n (drop first batch))) (take n (drop first batch))) (sym is) (groups_are_cut files.tree files.next_ordinal t (drop first batch)))

-- For callers: a group that was planned on the tree of a live file system ------------------------------------------------------

module _ (tree : Slots) (o : ℕ) (last t : Time) (batch : List (List ℕ)) (first at : ℕ) (at_is : at ≡ first) (fs : List declared.Footprint) (count : length fs ≡ group_length (at_home tree) o t (drop first batch)) where
  pub live_group : IsLive (file_system_of tree o last) → IsGroup (file_system_of tree o t) t (requests_from at (length fs) batch)
  live_group live =
      subst (λ k. IsGroup (file_system_of tree o t) t (requests_from k (length fs) batch)) (sym at_is)
      (plans_are_groups (file_system_of tree o t) t batch first (length fs) (record { tree = live.formed.tree; numbered = live.formed.numbered; ordinal = live.formed.ordinal }) count)

  pub planned_footprints : map footprint_seen fs ≡ footprints_at (at_home tree) o t (take (group_length (at_home tree) o t (drop first batch)) (drop first batch)) → map footprint_seen fs ≡ footprints_at (at_home tree) o t (requests_from at (length fs) batch)
  planned_footprints are =
      are ∙ ap (λ n. footprints_at (at_home tree) o t (take n (drop first batch))) (sym count)
      ∙ ap (λ k. footprints_at (at_home tree) o t (requests_from k (length fs) batch)) (sym at_is)
