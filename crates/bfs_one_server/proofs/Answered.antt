-- The last replies of a state were answers of the batches up to it.
use Rattle.std.proofs.Common.{◌≡◌, ◌∙◌, ℕ, zero, suc, ◌<◌, Bool, false, List, [], ◌∷◌, ◌++◌, ◌⊎◌, inl, inr, Some, None, refl, sym, ap, subst, arith}
use Rattle.std.proofs.lemmas.Bool.{cases_eq}
use Rattle.bfs_model.specs.Server.Tree.{Time, FileSystem}
use Rattle.bfs_model.specs.Server.Serial.{effective_time}
use Rattle.bfs_messages.specs.Messages.{Request, Batch}
use Rattle.bfs_messages.specs.declared.signed.Signed.{Signed}
use Rattle.bfs_replies.specs.Answers.{Answer, last_answer}
use Rattle.bfs_replies.specs.Tables.{Last, Table, last_of, recorded}
use Rattle.bfs_replies.specs.declared.tables.Class.{Class}
use Rattle.bfs_replies.specs.declared.tables.Class.TheVariants.{New, Repeat, Old, Unknown}
use Rattle.bfs_outcome.specs.Outcome.{Standing, answers_as, answers_to, at_start, class_at, executed, outcome, standing_after, standing_as, stands}
use Rattle.bfs_agreement.specs.Histories.{IsIn}
use Rattle.bfs_nodes_agree.proofs.Public.{left_in, right_in}
use Rattle.bfs_nodes_agree.specs.Nodes.Laws.{ComesOfBatches}
use Rattle.bfs_nodes_agree.specs.Nodes.Replicas.{Beginning, NodeReplicas}
use Rattle.bfs_one_server.specs.Lasts.{LastRepliesWereAnswered, WasAnswered}
use Rattle.bfs_one_server.proofs.Tables.{new_known, recorded_elsewhere, recorded_here}

-- it is an answer among these, or was there before
abbrev IsGivenOr : List Answer → Table → (client : ℕ) → Last → Type 0
IsGivenOr answers before client last = IsIn (last_answer client last) answers ⊎ (last_of before client ≡ Some last)

given_as : (class : Class) (s : Standing) (time : Time) (request : Request) → class_at s request ≡ class → (client : ℕ) (last : Last)
    → last_of (standing_as class s time request).table client ≡ Some last → IsGivenOr (answers_as class s time request) s.table client last
given_as New s time request is client last e =
    let reply = (executed s time request).1 in
    elim (cases_eq client request.client) [
      | inl same ↦
          let new : Last = record { timestamp = request.timestamp; reply = reply } in
          let now = recorded s.table request.client request.timestamp reply in
          let it : Some new ≡ Some last = sym (recorded_here s.table request.client request.timestamp reply (new_known s.table request.client request.timestamp is)) ∙ sym (ap (last_of now) same) ∙ e in
          let one : new ≡ last = cc in
          inl (inl (ap (λ (l : Last). last_answer client l) (sym one) ∙ ap (λ (c : ℕ). last_answer c new) same))
      | inr differ ↦ inr (sym (recorded_elsewhere s.table client request.client request.timestamp reply differ) ∙ e)
    ]
given_as other s time request is client last e = inr e

given_to : (s : Standing) (time : Time) (requests : List (Signed Request)) (client : ℕ) (last : Last)
    → last_of (standing_after s time requests).table client ≡ Some last → IsGivenOr (answers_to s time requests) s.table client last
given_to s time [] client last e = inr e
given_to s time (signed ∷ rest) client last e =
    let class = class_at s signed.message in
    let next = stands s time signed.message in
    let first = answers_as class s time signed.message in
    elim (given_to next time rest client last e) [
      | inl later ↦ inl (right_in first (answers_to next time rest) (last_answer client last) later)
      | inr here ↦ elim (given_as class s time signed.message refl client last here) [
        | inl now ↦ inl (left_in first (answers_to next time rest) (last_answer client last) now)
        | inr before ↦ inr before
      ]
    ]

given_in : (files : FileSystem) (table : Table) (batch : Batch) (client : ℕ) (last : Last) → last_of (outcome files table batch).table client ≡ Some last
    → IsGivenOr (outcome files table batch).answers table client last
unfolding outcome
given_in files table None client last e = inr e
given_in files table (Some requests) client last e = given_to (at_start files table) (effective_time files.last_time requests.time) requests.requests client last e

pub last_replies_were_answered : LastRepliesWereAnswered
last_replies_were_answered start faulty w zero files table comes client last e = inr (ap (λ (t : Table). last_of t client) (sym comes.1) ∙ e)
last_replies_were_answered start faulty w (suc number) files table comes client last e =
    elim (given_in comes.0 comes.1 comes.5 client last (ap (λ (t : Table). last_of t client) (sym comes.8) ∙ e)) [
      | inl now ↦ inl (record {
        before = number;
        below = omega arith;
        files = comes.0;
        table = comes.1;
        comes = comes.2;
        who = comes.3;
        correct = comes.4;
        batch = comes.5;
        executed = comes.6;
        given = now;
      })
      | inr before ↦ elim (last_replies_were_answered start faulty w number comes.0 comes.1 comes.2 client last before) [
        | inl was ↦
            let low = was.below in
            inl (record {
              before = was.before;
              below = omega (arith, low);
              files = was.files;
              table = was.table;
              comes = was.comes;
              who = was.who;
              correct = was.correct;
              batch = was.batch;
              executed = was.executed;
              given = was.given;
            })
        | inr first ↦ inr first
      ]
    ]
