-- The footprints of requests that are carried out together.
use Rattle.std.proofs.Common.{◌≡◌, ℕ, List, [], ◌∷◌, IsFalse, refl, sym, ap, subst, ◌∙◌}
use Rattle.std.specs.List.{AllByRecursion}
use Rattle.std.specs.FinMap.{get}
use Rattle.std.proofs.lemmas.Bool.{cond_both}
use Rattle.bfs_model.specs.Server.Tree.{Time, Inodes}
use Rattle.bfs_model.specs.Server.Serial.{ordinal_after, answer, inodes_after, replies_to}
use Rattle.bfs_model.specs.Server.Footprints.{footprint_of}
use Rattle.bfs_model.specs.Server.Conflicts.{is_written, conflict, AgreeOn, closed}
use Rattle.bfs_model.specs.Laws.Groups.{RunsKeepFootprints, RunsAreMerged, GroupsKeepFootprints}
use Rattle.bfs_model.specs.Server.Groups.{footprints_at, footprints_in_order, AreDisjoint, IsCut, AreSeen, all_closed, all_replies}
use Rattle.bfs_model.specs.Laws.Overtaking.{Asked, answered}
use Rattle.bfs_model.proofs.Kept.{IsServable, servable, fresh_for_request, answer_keeps}
use Rattle.bfs_model.proofs.Footprints.Agreement.{same_inodes, get-closed}
use Rattle.bfs_model.proofs.Footprints.Apart as apart
use Rattle.bfs_model.proofs.Footprints.Requests.{feet, sound, request_footprints_agree, request_footprints_stay}

-- Lists ----------------------------------------------------------------------------------------------------------------------

abbrev asked : ℕ → Time → List ℕ → Asked
asked o t request = record { ordinal = o; time = t; bytes = request }

-- footprints after a call that keeps each
plan_stays : (m n : Inodes) (t : Time) (P : List ℕ → Type 0) → ((o : ℕ) (request : List ℕ) → P request → footprint_of n o t request ≡ footprint_of m o t request)
    → (o : ℕ) (requests : List (List ℕ)) → AllByRecursion P requests → footprints_at n o t requests ≡ footprints_at m o t requests
plan_stays m n t P stay o [] all = refl
plan_stays m n t P stay o (request ∷ requests) all = λ i. stay o request all.0 i ∷ plan_stays m n t P stay (ordinal_after o 1) requests all.1 i

-- Groups ----------------------------------------------------------------------------------------------------------------------

module _ (t : Time) where
  group_keeps : (m : Inodes) (o : ℕ) (requests : List (List ℕ)) → IsServable m o → IsCut (footprints_at m o t requests) requests → footprints_in_order m o t requests ≡ footprints_at m o t requests
  group_keeps m o [] good cut = refl
  group_keeps m o (request ∷ requests) good cut =
      let n = (answer m o t request).0 in
      let later = ordinal_after o 1 in
      let same : footprints_at n later t requests ≡ footprints_at m later t requests =
      plan_stays m n t _ (λ further other leaves. request_footprints_stay m o t request further t other good.tree.tree (fresh_for_request m o t request good) leaves) later requests cut.0 in
      ap (λ rest. footprint_of m o t request ∷ rest) (group_keeps n later requests (answer_keeps m o t request good) (subst (λ plan. IsCut plan requests) (sym same) cut.1) ∙ same)

pub groups_keep_footprints : GroupsKeepFootprints
groups_keep_footprints files t requests formed cut =
    group_keeps t files.tree files.next_ordinal requests (servable files formed) cut

-- Runs --------------------------------------------------------------------------------------------------------------------------

module _ (t : Time) (m : Inodes) (c : Asked) where
  disjoint_stay : (o : ℕ) (requests : List (List ℕ)) → AllByRecursion (λ other. IsFalse (conflict (feet c m) other)) (footprints_at m o t requests) → footprints_at (answered c m).0 o t requests ≡ footprints_at m o t requests
  disjoint_stay o [] all = refl
  disjoint_stay o (request ∷ requests) all =
      λ i. request_footprints_agree m (answered c m).0 o t request (apart.seen_after answered feet sound c (asked o t request) m (apart.apart (feet c m) (footprint_of m o t request) all.0)) i ∷ disjoint_stay (ordinal_after o 1) requests all.1 i

  -- what is seen of inodes is so after another call
  seen_on : (o : ℕ) (requests : List (List ℕ)) (owns : List Inodes) → AllByRecursion (λ other. IsFalse (conflict (feet c m) other)) (footprints_at m o t requests) → AreSeen m (footprints_at m o t requests) owns → AreSeen (answered c m).0 (footprints_at m o t requests) owns
  seen_on o [] [] all seen = tt
  seen_on o [] (own ∷ owns) all seen = seen
  seen_on o (request ∷ requests) [] all seen = seen
  seen_on o (request ∷ requests) (own ∷ owns) all seen = (
    (λ id touched. seen.0 id touched ∙ sym (apart.seen_after answered feet sound c (asked o t request) m (apart.apart (feet c m) (footprint_of m o t request) all.0) id touched)),
    seen_on (ordinal_after o 1) requests owns all.1 seen.1,
  )

module _ (t : Time) where
  run_keeps : (m : Inodes) (o : ℕ) (requests : List (List ℕ)) → AreDisjoint (footprints_at m o t requests) → footprints_in_order m o t requests ≡ footprints_at m o t requests
  run_keeps m o [] disjoint = refl
  run_keeps m o (request ∷ requests) disjoint =
      let n = (answer m o t request).0 in
      let later = ordinal_after o 1 in
      let same : footprints_at n later t requests ≡ footprints_at m later t requests = disjoint_stay t m (asked o t request) later requests disjoint.0 in
      ap (λ rest. footprint_of m o t request ∷ rest) (run_keeps n later requests (subst AreDisjoint (sym same) disjoint.1) ∙ same)

  -- what a call leaves where it writes, put into the inodes, is what it does there
  put_in : (c : Asked) (m own : Inodes) → AgreeOn (feet c m) m own → closed (feet c m) (answered c own).0 m ≡ (answered c m).0
  put_in c m own agree = same_inodes _ _ (λ id.
      get-closed (feet c m) (answered c own).0 m id
      ∙ cond_both (is_written (feet c m) id) _ _ (λ there. there ≡ get (answered c m).0 id) (apart.inside answered feet sound c m own agree id) (λ is. sym (apart.stays answered feet sound c m id is)))

  merged : (m : Inodes) (o : ℕ) (requests : List (List ℕ)) (owns : List Inodes) → AreDisjoint (footprints_at m o t requests) → AreSeen m (footprints_at m o t requests) owns
      → (all_closed o t requests (footprints_at m o t requests) owns m ≡ inodes_after m o t requests) × (all_replies o t requests owns ≡ replies_to m o t requests)
  merged m o [] [] disjoint seen = (refl, refl)
  merged m o [] (own ∷ owns) disjoint seen = absurd seen
  merged m o (request ∷ requests) [] disjoint seen = absurd seen
  merged m o (request ∷ requests) (own ∷ owns) disjoint seen =
      let n = (answer m o t request).0 in
      let later = ordinal_after o 1 in
      let c = asked o t request in
      let same : footprints_at n later t requests ≡ footprints_at m later t requests = disjoint_stay t m c later requests disjoint.0 in
      let rest = merged n later requests owns (subst AreDisjoint (sym same) disjoint.1) (subst (λ plan. AreSeen n plan owns) (sym same) (seen_on t m c later requests owns disjoint.0 seen.1)) in (
        ap (all_closed later t requests (footprints_at m later t requests) owns) (put_in c m own seen.0) ∙ ap (λ plan. all_closed later t requests plan owns n) (sym same) ∙ rest.0,
        (λ i. (ap (λ (outcome : Inodes × List ℕ). outcome.1) (sound c m own seen.0)) i ∷ rest.1 i),
      )

pub runs_keep_footprints : RunsKeepFootprints
runs_keep_footprints m o t requests disjoint = run_keeps t m o requests disjoint

pub runs_are_merged : RunsAreMerged
runs_are_merged m o t requests owns disjoint seen = merged t m o requests owns disjoint seen
