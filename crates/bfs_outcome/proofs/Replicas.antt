-- Replicas that execute the same batches.
use Rattle.std.proofs.Common.{◌≡◌, ◌∙◌, List, [], ◌∷◌, Option, Some, None, refl, sym, ap, ap₂, subst}
use Rattle.bfs_model.specs.Server.Tree.{FileSystem}
use Rattle.bfs_messages.specs.Messages.{Batch}
use Rattle.bfs_replies.specs.Answers.{Answer}
use Rattle.bfs_replies.specs.Tables.{Table}
use Rattle.bfs_outcome.specs.Executed.{ComesTo}
use Rattle.bfs_outcome.specs.Outcome.{outcome}
use Rattle.bfs_outcome.specs.Laws.Replicas.{Executes, ExecutesAll, EqualReplicasStayEqual, Replica, ReplicasComeToTheOutcomes, live}

one_batch : (files : FileSystem) (table : Table) (batch : Batch) (new : Replica) (answers : List Answer) → Executes (live files table) batch new answers
    → (new ≡ live (outcome files table batch).files (outcome files table batch).table) × (answers ≡ (outcome files table batch).answers)
one_batch files table batch new answers does =
    (ap₂ (λ (f : Option FileSystem) (t : Table). let all : Replica = record { files = f; table = t } in all) does.executed.0 (does.recorded ∙ does.executed.1), does.executed.2)

pub come_to_the_outcomes : ReplicasComeToTheOutcomes
come_to_the_outcomes files table [] new answers does = does
come_to_the_outcomes files table (batch ∷ rest) new answers does =
    let next = does.0 in
    let first = one_batch files table batch next does.1 does.3 in
    let after = (outcome files table batch) in
    let later = come_to_the_outcomes after.files after.table rest new does.2 (subst (λ from. ExecutesAll from rest new does.2) first.0 does.4) in
    (later.0, does.5 ∙ ap₂ (λ (a : List Answer) (b : List (List Answer)). a ∷ b) first.1 later.1)

-- a failed file system executes no batch
from_one : (from one other : Replica) (batches : List Batch) (one_answers other_answers : List (List Answer))
    → (files : Option FileSystem) → from.files ≡ files → ExecutesAll from batches one one_answers → ExecutesAll from batches other other_answers → (one ≡ other) × (one_answers ≡ other_answers)
from_one from one other [] one_answers other_answers files is does other_does = (does.0 ∙ sym other_does.0, does.1 ∙ sym other_does.1)
from_one from one other (batch ∷ rest) one_answers other_answers None is does other_does = absurd (nothing from.files is does.3.executed)
  where
    nothing : (files : Option FileSystem) → files ≡ None → ComesTo files from.table batch (does.0).files (does.3).to_record does.1 → ⊥
    nothing None is done = done
    nothing (Some live) is done = absurd cc
from_one from one other (batch ∷ rest) one_answers other_answers (Some files) is does other_does =
    let same : from ≡ live files from.table = ap (λ (f : Option FileSystem). let all : Replica = record { files = f; table = from.table } in all) is in
    let a = come_to_the_outcomes files from.table (batch ∷ rest) one one_answers (subst (λ start. ExecutesAll start (batch ∷ rest) one one_answers) same does) in
    let b = come_to_the_outcomes files from.table (batch ∷ rest) other other_answers (subst (λ start. ExecutesAll start (batch ∷ rest) other other_answers) same other_does) in
    (a.0 ∙ sym b.0, a.1 ∙ sym b.1)

pub stay_equal : EqualReplicasStayEqual
stay_equal one other one_new other_new batches one_answers other_answers same does other_does =
    from_one other one_new other_new batches one_answers other_answers other.files refl (subst (λ start. ExecutesAll start batches one_new one_answers) same does) other_does
