-- A request that the gate has answered is a part of the batch.
use Rattle.std.proofs.Common.{◌≡◌, ℕ, ◌<◌, ◌≤◌, List, [], ◌∷◌, ◌++◌, length, get_or, ap, sym, subst, ◌∙◌, arith}
use Rattle.bfs_model.specs.Server.Tree.{Time, Inodes}
use Rattle.bfs_model.specs.Server.Serial.{inodes_after, replies_to}
use Rattle.bfs_model.specs.Server.Limits.{most_reply_bytes}
use Rattle.bfs_model.specs.Server.WellFormed.{IsWellFormed}
use Rattle.bfs_levels.specs.Requests.{requests_from}
use Rattle.bfs_tree.specs.Slots.{Slots}
use Rattle.bfs_tree.specs.Tree.{at_home}
use Rattle.bfs_workers.specs.Answered.{IsAnswered}
use Rattle.bfs_workers.proofs.Public.{one_there}
use Rattle.bfs_parallel.specs.Parts.{IsPartExecuted}
use Rattle.bfs_parallel.specs.Ran.{AllRan}
use Rattle.bfs_parallel.proofs.Groups.{replies_are_short}

module _ (ran : ℕ → List ℕ → Type 0) (old new : Slots) (o : ℕ) (t : Time) (batch : List (List ℕ)) (place : ℕ) (reply : List ℕ) (within : place < length batch)
    (answered : IsAnswered ran old new place o t (get_or batch place []) reply) where
  abbrev m : Inodes
  m = at_home old

  abbrev request : List ℕ
  request = get_or batch place []

  here : requests_from place 1 batch ≡ request ∷ []
  here = one_there batch place within

  said : reply ∷ [] ≡ replies_to m o t (requests_from place 1 batch)
  said = ap (λ (end : Inodes × List ℕ). end.1 ∷ []) answered.done ∙ sym (ap (replies_to m o t) here)

  pub short_one : IsWellFormed (record { tree = m; next_ordinal = o; last_time = t }) → length reply ≤ most_reply_bytes
  short_one formed = subst (λ bytes. length bytes ≤ most_reply_bytes) (sym (ap (λ (end : Inodes × List ℕ). end.1) answered.done)) (replies_are_short m o t (request ∷ []) formed).0

  pub executed_one : (before : List (List ℕ)) → IsPartExecuted ran old new o t batch place 1 before (before ++ reply ∷ [])
  executed_one before = record {
    some = omega arith;
    within = omega arith;
    inodes = ap (λ (end : Inodes × List ℕ). end.0) answered.done ∙ ap (inodes_after m o t) (sym here);
    whole = answered.whole;
    replies = ap (λ rs. before ++ rs) said;
    gated = subst (AllRan ran place (requests_from place 1 batch)) said (subst (λ rs. AllRan ran place rs (reply ∷ [])) (sym here) (answered.gated, tt));
  }
