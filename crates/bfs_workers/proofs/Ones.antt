-- A request that is answered alone, on the whole tree or on its share.
use Rattle.std.proofs.Common.{◌≡◌, ℕ, zero, suc, ◌-◌, ◌<◌, ◌≤◌, false, true, true≢false, List, [], ◌∷◌, Some, is_some, length, map, take, drop, get_or, refl, ap, sym, subst, ◌∙◌, arith, unwrap_or}
use Rattle.std.specs.List.{All, slice_get}
use Rattle.std.specs.Prelude.{IsTrue}
use Rattle.std.proofs.lemmas.List.Elements.{All-from_recursion, All-head}
use Rattle.std.proofs.lemmas.List.Sorted.{All-permutation, IsPermutation-refl}
use Rattle.bfs_model.specs.Server.Tree.{Time, Inodes, spent_ordinal}
use Rattle.bfs_model.specs.Server.Serial.{answer, inodes_after, ordinal_after, replies_to}
use Rattle.bfs_model.specs.Server.Footprints.{footprint_of}
use Rattle.bfs_model.specs.Server.Conflicts.{is_whole}
use Rattle.bfs_model.specs.Server.Groups.{footprints_at}
use Rattle.bfs_model.specs.Laws.Overtaking.{footprint_at}
use Rattle.bfs_model.specs.Server.WellFormed.{IsWellFormed}
use Rattle.bfs_model.proofs.Public.{fresh_where_numbered, numbered_older}
use Rattle.bfs_footprint.specs.Seen.{footprint_seen}
use Rattle.bfs_footprint.specs.declared.footprints.Footprint as declared
use Rattle.bfs_tree.specs.Slots.{Slots}
use Rattle.bfs_tree.specs.Tree.{at_home, reach_of}
use Rattle.bfs_handover.specs.Jobs.{CanRun}
use Rattle.bfs_handover.specs.Splitting.{CanBeSplit, IsFoundOn, IsSplit, PlannedPart, part_of}
use Rattle.bfs_handover.specs.Merging.{AreOut, IsMerged, numbers_in, reply_in}
use Rattle.bfs_handover.specs.declared.job.Job.{Job}
use Rattle.bfs_handover.specs.declared.job.Done.{Done}
use Rattle.bfs_handover.specs.declared.results.NumberedReply.{NumberedReply}
use Rattle.bfs_handover.proofs.Public.{found, results_are_out, results_come_home}
use Rattle.bfs_workers.specs.Answered.{IsAnswered}
use Rattle.bfs_workers.proofs.Alone.{alone}
use Rattle.bfs_workers.specs.Results.{Gives}

pub one_there : (xs : List (List ℕ)) (k : ℕ) → k < length xs → take 1 (drop k xs) ≡ get_or xs k [] ∷ []
one_there [] k within = absurd (omega arith)
one_there (x ∷ xs) zero within = refl
one_there (x ∷ xs) (suc k) within = one_there xs k (omega arith)

pub get_or_there : (xs : List (List ℕ)) (k : ℕ) (x : List ℕ) → slice_get xs k ≡ Some x → x ≡ get_or xs k []
get_or_there [] zero x is = absurd (true≢false (sym (ap is_some is)))
get_or_there [] (suc k) x is = absurd (true≢false (sym (ap is_some is)))
get_or_there (y ∷ ys) zero x is = sym (ap (λ o. unwrap_or o x) is)
get_or_there (y ∷ ys) (suc k) x is = get_or_there ys k x is

pub can_run_one : (tree : Slots) (job : Job) → All (CanRun tree) (job ∷ []) → CanRun tree job
can_run_one tree job all = All-head (CanRun tree) job [] all

module _ (ran : ℕ → List ℕ → Type 0) (old : Slots) (o : ℕ) (t : Time) (batch : List (List ℕ)) (place : ℕ) (formed : IsWellFormed (record { tree = at_home old; next_ordinal = o; last_time = t })) (within : place < length batch)
    (asked : List ℕ) (f : declared.Footprint) (there : slice_get batch place ≡ Some asked) (touched : footprint_seen f ≡ footprint_of (at_home old) o t asked) where
  abbrev m : Inodes
  m = at_home old

  abbrev part : PlannedPart
  part = part_of place o t batch (footprint_seen f ∷ [])

  abbrev request : List ℕ
  request = get_or batch place []

  same : asked ≡ request
  same = get_or_there batch place asked there

  own : footprint_seen f ≡ footprint_of m o t request
  own = touched ∙ ap (footprint_of m o t) same

  here : take 1 (drop place batch) ≡ request ∷ []
  here = one_there batch place within

  only : footprint_seen f ∷ [] ≡ footprints_at m o t (take 1 (drop place batch))
  only = ap (λ g. g ∷ []) own ∙ ap (footprints_at m o t) (sym here)

  -- On the whole tree --------------------------------------------------------------------------------------------------------

  pub answered_here : (new : Slots) → is_whole (footprint_seen f) ≡ true → IsTrue ((reach_of new).whole) → (reply : List ℕ) → ◌≡◌ {A = Inodes × List ℕ} (at_home new, reply) (answer m o t asked)
      → IsAnswered ran old new place o t request reply
  answered_here new every whole reply done = record {
    done = done ∙ ap (answer m o t) same;
    whole = whole;
    gated = λ plain. absurd (true≢false (sym (alone m o t request (ap is_whole (sym own) ∙ every)) ∙ plain));
  }

  -- On its share -------------------------------------------------------------------------------------------------------------

  pub found_one : IsFoundOn m part place
  found_one = found m t place o 1 place (drop place batch) (footprint_seen f ∷ []) formed.ordinal.1 only (omega arith) (omega arith)

  pub can_one : is_whole (footprint_seen f) ≡ false → CanBeSplit m part place
  can_one known =
      let first : place - place ≡ 0 = omega arith in
      let most : o ≤ spent_ordinal = formed.ordinal.1 in record {
        from = omega arith;
        within = omega arith;
        known = ap (λ k. is_whole (footprint_at (footprint_seen f ∷ []) k)) first ∙ known;
        fresh = fresh_where_numbered m (ordinal_after o (place - place)) (footprint_at (footprint_seen f ∷ []) (place - place)) (numbered_older m o (ordinal_after o (place - place)) (omega arith) formed.numbered);
      }

  module _ (new : Slots) (job : Job) (done : Done) (split : IsSplit old new part (place ∷ []) (job ∷ [])) (gives : Gives ran new job done) where
    pub out_one : AreOut new (done ∷ [])
    out_one = results_are_out old new part (place ∷ []) (job ∷ []) (job ∷ []) (done ∷ []) (tt, tt) split (IsPermutation-refl (job ∷ [])) (gives.result, tt)

    has_run : (dones : List Done) (reply : NumberedReply) → reply ∷ [] ≡ map reply_in dones → numbers_in dones ≡ place ∷ [] → All (λ (done : Done). ran done.number done.reply.items) dones → ran place reply.bytes.items
    has_run [] reply are numbers all = absurd (let wrong : 1 ≡ 0 = ap length are in omega arith)
    has_run (done ∷ dones) reply are numbers all =
        subst (λ n. ran n reply.bytes.items) (ap (λ ns. get_or ns 0 0) numbers)
        (subst (λ (r : NumberedReply). ran done.number r.bytes.items) (sym (ap (λ rs. get_or rs 0 reply) are)) (All-head (λ (done : Done). ran done.number done.reply.items) done dones all))

    pub answered_one : (after : Slots) (reply : NumberedReply) → IsMerged new after (done.number ∷ []) (done ∷ []) (reply ∷ []) → IsAnswered ran old after place o t request reply.bytes.items
    answered_one after reply merged =
        let merged_there = subst (λ n. IsMerged new after (n ∷ []) (done ∷ []) (reply ∷ [])) (gives.result.number ∙ split.each.0.number_is) merged in
        let come = results_come_home old new after part (job ∷ []) (job ∷ []) (done ∷ []) (reply ∷ []) formed.ordinal.1 only (tt, tt) split (IsPermutation-refl (job ∷ [])) (gives.result, tt) merged_there in
        let each = All-permutation (λ (done : Done). ran done.number done.reply.items) (done ∷ []) merged_there.order merged_there.each (All-from_recursion (λ (done : Done). ran done.number done.reply.items) (done ∷ []) (gives.gated, tt)) in
        let moved : at_home after ≡ (answer m o t request).0 = come.0 ∙ ap (inodes_after m o t) here in
        let said : reply.bytes.items ≡ (answer m o t request).1 = ap (λ rs. get_or rs 0 []) (come.1 ∙ ap (replies_to m o t) here) in
        record { done = λ i. (moved i, said i); whole = come.2; gated = λ _. has_run merged_there.order reply merged_there.replies_are merged_there.numbers_are each }
