-- A batch of words and bytes leaves a state that can be stored, where it found one.
use Rattle.std.proofs.Common.{ℕ, List, [], ◌∷◌, Some, None, inl, inr, refl, arith}
use Rattle.std.proofs.lemmas.List.{length-set}
use Rattle.std.proofs.lemmas.List.Elements.{All-cons, All-nil, All-set}
use Rattle.bfs_agreement.specs.Histories.{IsIn}
use Rattle.bfs_messages.specs.Messages as model
use Rattle.bfs_messages.specs.declared.signed.Signed.{Signed}
use Rattle.bfs_model.proofs.Public.{formed_again, servable}
use Rattle.bfs_model.specs.Laws.ReplyLengths.{RepliesAreBytes, RepliesAreShort}
use Rattle.bfs_model.specs.Laws.Stored.{BatchesKeepFilesLive}
use Rattle.bfs_model.specs.Server.Serial.{effective_time, execute}
use Rattle.bfs_model.specs.Server.Stored.{AreBytes, IsLive, IsTime}
use Rattle.bfs_model.specs.Server.Tree.{FileSystem, Time}
use Rattle.bfs_outcome.specs.Outcome as results
use Rattle.bfs_outcome.specs.Outcome.{at_start, class_at, executed, outcome, standing_after, standing_as, stands}
use Rattle.bfs_replies.specs.Tables.{IsKept, Last, LastIsKept, Table, recorded}
use Rattle.bfs_replies.specs.declared.tables.Class.{Class}
use Rattle.bfs_replies.specs.declared.tables.Class.TheVariants.{New, Repeat, Old, Unknown}
use Rattle.bfs_nodes_progress.specs.Living.{Asks, BatchIsOfBytes, RequestIsOfBytes}

-- laws of the file system
pub record Storing : Type 0 where
  pub live : BatchesKeepFilesLive
  pub bytes : RepliesAreBytes
  pub short : RepliesAreShort

-- it can be stored
pub record Holds (files : FileSystem) (table : Table) : Type 0 where
  pub live : IsLive files
  pub kept : IsKept table

recorded_kept : (table : Table) (client : ℕ) (last : Last) → IsKept table → LastIsKept (Some last) → IsKept (recorded table client last.timestamp last.reply)
recorded_kept table client last kept is =
    let few = kept.clients in
    record { clients = omega (arith, length-set table client (Some last), few); lasts = All-set LastIsKept table client (Some last) is kept.lasts }

module _ (laws : Storing) (last proposed : Time) (last_is : IsTime last) (is : IsTime proposed) where
  -- as behind the last batch
  abbrev files_at : results.Standing → FileSystem
  files_at s = record { tree = s.inodes; next_ordinal = s.ordinal; last_time = last }

  abbrev Stands : results.Standing → Type 0
  Stands s = Holds (files_at s) s.table

  new_stands : (s : results.Standing) (request : model.Request) → RequestIsOfBytes request → Stands s → Stands (standing_as New s (effective_time last proposed) request)
  unfolding execute
  new_stands s request of holds =
      let done = laws.live (files_at s) (record { time = proposed; requests = request.call ∷ [] }) is (All-cons AreBytes request.call [] of.call (All-nil AreBytes)) holds.live in
      let after = standing_as New s (effective_time last proposed) request in
      let reply = (executed s (effective_time last proposed) request).1 in
      record {
        live = record { formed = formed_again after.inodes after.ordinal last (servable (execute (files_at s) (record { time = proposed; requests = request.call ∷ [] })).0 done.formed); storable = done.storable; last_time = last_is };
        kept = recorded_kept s.table request.client (record { timestamp = request.timestamp; reply = reply }) holds.kept (
          of.timestamp,
          laws.bytes s.inodes s.ordinal (effective_time last proposed) request.call holds.live.storable,
          laws.short s.inodes s.ordinal (effective_time last proposed) request.call holds.live.formed.tree.limited,
        );
      }

  one_stands : (s : results.Standing) (class : Class) (request : model.Request) → RequestIsOfBytes request → Stands s → Stands (standing_as class s (effective_time last proposed) request)
  one_stands s New request of holds = new_stands s request of holds
  one_stands s Repeat request of holds = holds
  one_stands s Old request of holds = holds
  one_stands s Unknown request of holds = holds

  all_stand : (requests : List (Signed model.Request)) (s : results.Standing) → ((x : Signed model.Request) → IsIn x requests → Asks x) → Stands s → Stands (standing_after s (effective_time last proposed) requests)
  all_stand [] s of holds = holds
  all_stand (x ∷ rest) s of holds =
      all_stand rest (stands s (effective_time last proposed) x.message) (λ y i. of y (inr i)) (one_stands s (class_at s x.message) x.message (of x (inl refl)) holds)

-- of its own time
timed : BatchesKeepFilesLive → (files : FileSystem) (proposed : Time) → IsTime proposed → IsLive files → IsTime (effective_time files.last_time proposed)
unfolding execute
timed keeps files proposed is live = (keeps files (record { time = proposed; requests = [] }) is (All-nil AreBytes) live).last_time

pub outcome_holds : Storing → (files : FileSystem) (table : Table) (batch : model.Batch) → BatchIsOfBytes batch → Holds files table → Holds (outcome files table batch).files (outcome files table batch).table
unfolding outcome
outcome_holds laws files table None of holds = holds
outcome_holds laws files table (Some batch) of holds =
    let time = effective_time files.last_time batch.time in
    let after = standing_after (at_start files table) time batch.requests in
    let all = all_stand laws files.last_time batch.time holds.live.last_time of.0 batch.requests (at_start files table) of.1 holds in
    record {
      live = record { formed = formed_again after.inodes after.ordinal time (servable _ all.live.formed); storable = all.live.storable; last_time = timed laws.live files batch.time of.0 holds.live };
      kept = all.kept;
    }
