-- Clients see one server.
use Rattle.std.proofs.Common.{◌≡◌, ◌∙◌, ℕ, suc, false, true, List, [], ◌∷◌, ◌++◌, length, Some, inl, inr, refl, sym, ap, ap₂, subst, append_assoc, append-nil}
use Rattle.std.specs.Prelude.{◌==◌}
use Rattle.std.specs.List.{slice_get}
use Rattle.std.proofs.lemmas.Bool.{cond_both, eqb-true}
use Rattle.bfs_model.specs.Server.Tree.{FileSystem}
use Rattle.bfs_votes.specs.Votes.{replicas}
use Rattle.bfs_auth.specs.Keys.{Keys}
use Rattle.bfs_log.specs.Batches.{Committed}
use Rattle.bfs_log.specs.Logs.{batch_in}
use Rattle.bfs_messages.specs.Messages as model
use Rattle.bfs_messages.specs.Messages.{Batch, Request, requests_of}
use Rattle.bfs_messages.specs.Signing.{request_is_signed, sender_of}
use Rattle.bfs_messages.specs.declared.signed.Signed.{Signed}
use Rattle.bfs_messages.specs.declared.message.Message.{Message}
use Rattle.bfs_messages.specs.declared.message.Message.TheVariants.{Order, Reply}
use Rattle.bfs_messages.specs.declared.order_messages.OrderMessage.{OrderMessage}
use Rattle.bfs_outcome.specs.Outcome as outcome
use Rattle.bfs_replies.specs.Tables.{Table, last_of}
use Rattle.bfs_agreement.specs.Histories.{IsIn}
use Rattle.bfs_clients.specs.Clients.{keys_at}
use Rattle.bfs_nodes_agree.proofs.Public.{AllIn, both_at, either_in, here_after, left_in}
use Rattle.bfs_nodes_agree.specs.Nodes.Answers.{Answers, AnswersAgain, AnswersFor, AnswersNow, NodesAnswer}
use Rattle.bfs_nodes_agree.specs.Nodes.Laws.{Agree, BatchesDontCollide, NodesAgree}
use Rattle.bfs_nodes_agree.specs.Nodes.Premises.{HasSaid, IsAuthentic, StatesDontCollide, order_signed_part, signed_part}
use Rattle.bfs_nodes_agree.specs.Nodes.Replicas.{NodeReplica, NodeReplicas, NodeTurn, after_node_turn}
use Rattle.bfs_nodes_agree.specs.Nodes.Steps.{executed_by}
use Rattle.bfs_node.specs.Nodes.{Messages}
use Rattle.bfs_one_server.specs.Laws.{AreAll, ClientsSeeOneServer, HasAccepted, client_after, history}
use Rattle.bfs_one_server.specs.Premises.{IsARun, MayAct, MayActSo, WasSigned}
use Rattle.bfs_one_server.specs.Serving.{Effect, IsBefore, IsOf, effects, effects_in, files_after, table_after}
use Rattle.bfs_one_server.specs.Worlds.{Act, Steps, Signs, Hears, Client, Deployment, World, after_act, after_acts, beginning, new_world, turns_in, with_heard, with_signed}
use Rattle.bfs_one_server.proofs.Batches.{Highest, all_of, at_more, begins_with, earlier_first, highest, highest_at_first, listed, only_one, placed}
use Rattle.bfs_one_server.proofs.Counting.{from_correct}
use Rattle.bfs_one_server.proofs.Growing.{grows_acts, grows_then, grows_turn, may_both, nodes_are, run_first, signed_on}
use Rattle.bfs_one_server.proofs.Serving.{Tells, answered_in, effects_append, from_batches, known_all, none_known, rises, same_effect, serves, timely}

-- What was said under a replica's name ------------------------------------------------------------------------------------------

whole_reply : (m : Message) (reply : model.Reply) → signed_part m ≡ Reply reply → m ≡ Reply reply
whole_reply (Order m) reply e = absurd cc
whole_reply other reply e = e

reply_said : (sent : Messages) (reply : model.Reply) → HasSaid sent (Reply reply) → (s : Signed Message) × IsIn s sent × (s.message ≡ Reply reply)
reply_said sent reply said = elim said.2 [
  | inl e ↦ (said.0, said.1, whole_reply said.0.message reply e)
  | inr offer ↦ let no : Order (order_signed_part offer.0.message) ≡ Reply reply = offer.2 in absurd cc
]

-- Places in a history -----------------------------------------------------------------------------------------------------------

in_parts : (list : List Effect) (e : Effect) → IsIn e list → (front back : List Effect) × (list ≡ front ++ e ∷ back)
in_parts [] e i = absurd i
in_parts (x ∷ list) e i = elim i [
  | inl same ↦ ([], list, ap (λ (y : Effect). y ∷ list) (sym same))
  | inr j ↦ let rest = in_parts list e j in (x ∷ rest.0, rest.1, ap (λ (l : List Effect). x ∷ l) rest.2)
]

is_before : (one other : Effect) (front back whole : List Effect) → whole ≡ front ++ back → IsIn one front → IsIn other back → IsBefore one other whole
is_before one other front back whole is i j =
    let a = in_parts front one i in
    let b = in_parts back other j in (
      a.0,
      a.1 ++ b.0,
      b.1,
      is ∙ ap₂ (λ (x y : List Effect). x ++ y) a.2 b.2 ∙ append_assoc a.0 (one ∷ a.1) (b.0 ++ other ∷ b.1)
          ∙ ap (λ (l : List Effect). a.0 ++ one ∷ l) (sym (append_assoc a.1 b.0 (other ∷ b.1))),
    )

-- What clients have heard and signed, and what replicas have executed -------------------------------------------------------------

module _ (d : Deployment) where
  record Sound (w : World) : Type 0 where
    heard : (c : ℕ) (keys : Keys) → d.liar c ≡ false → keys_at d.clients c ≡ Some keys → AllIn (IsAuthentic d.faulty w.nodes keys) (w.clients c).heard
    asked : (i : ℕ) (m : Signed OrderMessage) (next : Committed) (s : Signed Request) → d.faulty i ≡ false → IsIn m (w.nodes i).executed → batch_in m.message ≡ Some next → IsIn s (requests_of next.batch)
        → WasSigned d.liar w s.message
    once : (c : ℕ) → d.liar c ≡ false → (q p : Request) → IsIn q (w.clients c).signed → IsIn p (w.clients c).signed → q.timestamp ≡ p.timestamp → q ≡ p

  -- each request that is executed passes by the replica's keys
  abbrev ArePassed : World → Type 0
  ArePassed w = (i : ℕ) (m : Signed OrderMessage) (next : Committed) (s : Signed Request) → IsIn m (w.nodes i).executed → batch_in m.message ≡ Some next → IsIn s (requests_of next.batch) → request_is_signed (d.keys i) s ≡ true

  was_signed_on : (w : World) (act : Act) (request : Request) → WasSigned d.liar w request → WasSigned d.liar (after_act w act) request
  was_signed_on w act request was honest = signed_on w act request.client request (was honest)

  steps_sound : (w : World) (turn : NodeTurn) → ArePassed (after_act w (Steps turn)) → MayAct d w (Steps turn) → Sound w → Sound (after_act w (Steps turn))
  steps_sound w turn pass may sound =
      let who = turn.who in
      let next = after_node_turn w.nodes turn in
      let new = executed_by (w.nodes who).node turn.step in
      record {
        heard = λ c keys honest held m i k sender signed correct. let said = sound.heard c keys honest held m i k sender signed correct in (said.0, (grows_turn w.nodes turn k).sent said.0 said.1, said.2);
        asked = both_at w.nodes turn (λ i r. (m : Signed OrderMessage) (next : Committed) (s : Signed Request) → d.faulty i ≡ false → IsIn m r.executed → batch_in m.message ≡ Some next → IsIn s (requests_of next.batch)
            → WasSigned d.liar w s.message)
            (λ m next s correct i b j. elim (either_in new (w.nodes who).executed m i) [
              | inl k ↦ may correct m next s k b j (pass who m next s (subst (λ (r : NodeReplica). IsIn m r.executed) (sym (here_after w.nodes turn)) i) b j)
              | inr k ↦ sound.asked who m next s correct k b j
            ])
            sound.asked;
        once = sound.once;
      }

  signs_sound : (w : World) (request : Request) → MayAct d w (Signs request) → Sound w → Sound (after_act w (Signs request))
  signs_sound w request may sound = record {
    heard = λ c keys honest held. cond_both (c == request.client) (with_signed (w.clients c) request) (w.clients c) (λ (it : Client). AllIn (IsAuthentic d.faulty w.nodes keys) it.heard)
        (λ _. sound.heard c keys honest held) (λ _. sound.heard c keys honest held);
    asked = λ i m next s correct j b k. was_signed_on w (Signs request) s.message (sound.asked i m next s correct j b k);
    once = λ c honest. cond_both (c == request.client) (with_signed (w.clients c) request) (w.clients c)
        (λ (it : Client). (q p : Request) → IsIn q it.signed → IsIn p it.signed → q.timestamp ≡ p.timestamp → q ≡ p)
        (λ e q p i j same.
        let is = eqb-true c request.client e in
        let fresh : (o : Request) → IsIn o (w.clients c).signed → o.timestamp ≡ request.timestamp → ⊥ =
        λ o k at. may (subst (λ (n : ℕ). d.liar n ≡ false) is honest) o (subst (λ (n : ℕ). IsIn o (w.clients n).signed) is k) at in
        elim i [
          | inl q_is ↦ elim j [
            | inl p_is ↦ q_is ∙ sym p_is
            | inr k ↦ absurd (fresh p k (sym same ∙ ap (λ (x : Request). x.timestamp) q_is))
          ]
          | inr h ↦ elim j [
            | inl p_is ↦ absurd (fresh q h (same ∙ ap (λ (x : Request). x.timestamp) p_is))
            | inr k ↦ sound.once c honest q p h k same
          ]
        ])
        (λ _. sound.once c honest);
  }

  hears_sound : (w : World) (client : ℕ) (message : Signed Message) → MayAct d w (Hears client message) → Sound w → Sound (after_act w (Hears client message))
  hears_sound w client message may sound = record {
    heard = λ c keys honest held. cond_both (c == client) (with_heard (w.clients c) message) (w.clients c) (λ (it : Client). AllIn (IsAuthentic d.faulty w.nodes keys) it.heard)
        (λ e m i. elim i [
          | inl same ↦
              let is = eqb-true c client e in
              subst (IsAuthentic d.faulty w.nodes keys) (sym same) (may (subst (λ (n : ℕ). d.liar n ≡ false) is honest) keys (ap (keys_at d.clients) (sym is) ∙ held))
          | inr j ↦ sound.heard c keys honest held m j
        ])
        (λ _. sound.heard c keys honest held);
    asked = λ i m next s correct j b k. was_signed_on w (Hears client message) s.message (sound.asked i m next s correct j b k);
    once = λ c honest. cond_both (c == client) (with_heard (w.clients c) message) (w.clients c)
        (λ (it : Client). (q p : Request) → IsIn q it.signed → IsIn p it.signed → q.timestamp ≡ p.timestamp → q ≡ p) (λ _. sound.once c honest) (λ _. sound.once c honest);
  }

  act_sound : (w : World) (act : Act) → ArePassed (after_act w act) → MayAct d w act → Sound w → Sound (after_act w act)
  act_sound w (Steps turn) pass = steps_sound w turn pass
  act_sound w (Signs request) pass = signs_sound w request
  act_sound w (Hears client message) pass = hears_sound w client message

  sound_all : (acts : List Act) (w : World) → ArePassed (after_acts w acts) → MayActSo d w acts → Sound w → Sound (after_acts w acts)
  sound_all [] w pass may sound = sound
  sound_all (act ∷ acts) w pass may sound =
      let next = after_act w act in
      sound_all acts next pass may.1 (act_sound w act (λ i m it s j b k. pass i m it s ((grows_acts acts next i).executed m j) b k) may.0 sound)

-- The law -------------------------------------------------------------------------------------------------------------------------

module _ (agree : NodesAgree) (answer : NodesAnswer) (d : Deployment) where
  abbrev After : List Act → World
  After acts = after_acts (new_world d) acts

  abbrev start : Table
  start = (beginning d).table

  agrees : (acts : List Act) → IsARun d acts → Agree (beginning d) d.faulty (After acts).nodes
  agrees acts run =
      let same = nodes_are acts (new_world d) in
      subst (Agree (beginning d) d.faulty) (sym same)
      (agree d.clients.f d.keys (beginning d) d.faulty (turns_in acts) run.shared run.few run.authentic
      (subst (BatchesDontCollide d.faulty) same run.batches_differ) (subst (StatesDontCollide d.faulty) same run.states_differ))

  answers : (acts : List Act) → IsARun d acts → (i : ℕ) → AnswersFor (d.keys i) ((After acts).nodes i)
  answers acts run i = subst (λ (w : NodeReplicas). AnswersFor (d.keys i) (w i)) (sym (nodes_are acts (new_world d))) (answer d.clients.f d.keys (beginning d) d.faulty (turns_in acts) run.shared run.authentic i)

  sound : (acts : List Act) → IsARun d acts → Sound d (After acts)
  sound acts run =
      sound_all d acts (new_world d) (λ i m next s j b k. (answers acts run i).signed next.number next.batch s (m, j, b) k) run.honest
      (record { heard = λ c keys honest held m i. absurd i; asked = λ i m next s correct j. absurd j; once = λ c honest q p i. absurd i })

  all : (acts : List Act) → IsARun d acts → (batches : List Batch) × AreAll d.faulty (After acts).nodes batches
  all acts run = all_of (beginning d) d.faulty (After acts).nodes (λ i. (answers acts run i).comes) (agrees acts run)
      (subst (Highest d.faulty) (sym (nodes_are acts (new_world d))) (highest d.faulty (turns_in acts) (new_world d).nodes (highest_at_first d.faulty d.clients.f d.keys (beginning d))))

  module _ (acts : List Act) (run : IsARun d acts) (batches : List Batch) (are : AreAll d.faulty (After acts).nodes batches) where
    -- what a correct replica answers once it has executed a batch is the reply of an effect
    answer_now : (k : ℕ) → d.faulty k ≡ false → (reply : model.Reply) → AnswersNow ((After acts).nodes k) reply → Tells (history d batches) reply.client reply.timestamp reply.result
    answer_now k correct reply a =
        let s = a.before in
        let list = listed (beginning d) d.faulty (After acts).nodes s.number s.files s.table ((agrees acts run).comes k s correct a.reached) in
        let one : List Batch = a.batch ∷ [] in
        let files_then = files_after d.files start list.batches in
        let table_then = table_after d.files start list.batches in
        let past = effects d.files start list.batches in
        let first = begins_with (list.batches ++ one) batches (λ n b e. elim (at_more list.batches a.batch n b e) [
          | inl there ↦ let x = list.executed n b there in placed d.faulty (After acts).nodes batches are x.0 n b x.1 x.2
          | inr new ↦
              subst (λ (m : ℕ). slice_get batches m ≡ Some b) (sym (new.0 ∙ list.long))
              (placed d.faulty (After acts).nodes batches are k s.number a.batch correct a.executed ∙ ap (λ (x : Batch). Some x) (sym new.1))
        ]) in
        let given = subst (λ (x : Table). IsIn a.answer (outcome.outcome files_then x a.batch).answers) list.table_is
        (subst (λ (x : FileSystem). IsIn a.answer (outcome.outcome x s.table a.batch).answers) list.files_are a.given) in
        let told = answered_in files_then table_then a.batch past (known_all d.files start list.batches [] (none_known (length d.clients.keys))) a.answer given in
        let joined : past ++ effects_in files_then table_then a.batch ≡ effects d.files start (list.batches ++ one) =
        ap (λ (l : List Effect). past ++ l) (sym (append-nil (effects_in files_then table_then a.batch))) ∙ sym (effects_append d.files start list.batches one) in
        let rest = effects (files_after d.files start (list.batches ++ one)) (table_after d.files start (list.batches ++ one)) first.0 in
        let whole : history d batches ≡ effects d.files start (list.batches ++ one) ++ rest = ap (history d) first.1 ∙ effects_append d.files start (list.batches ++ one) first.0 in (
          told.0,
          subst (λ (l : List Effect). IsIn told.0 l) (sym whole) (left_in (effects d.files start (list.batches ++ one)) rest told.0 (subst (λ (l : List Effect). IsIn told.0 l) joined told.1)),
          record { client_is = told.2.client_is ∙ sym a.client; timestamp_is = told.2.timestamp_is ∙ sym a.timestamp; reply_is = told.2.reply_is ∙ sym a.result },
        )

    -- so is what it answers once more
    answer_again : (k : ℕ) → d.faulty k ≡ false → (reply : model.Reply) → AnswersAgain ((After acts).nodes k) reply → Tells (history d batches) reply.client reply.timestamp reply.result
    answer_again k correct reply a =
        let s = a.standing in
        let list = listed (beginning d) d.faulty (After acts).nodes s.number s.files s.table ((agrees acts run).comes k s correct a.reached) in
        let past = effects d.files start list.batches in
        let first = begins_with list.batches batches (λ n b e. let x = list.executed n b e in placed d.faulty (After acts).nodes batches are x.0 n b x.1 x.2) in
        let known = known_all d.files start list.batches [] (none_known (length d.clients.keys)) in
        let told = known reply.client a.last (ap (λ (t : Table). last_of t reply.client) (sym list.table_is) ∙ a.found) in
        let rest = effects (files_after d.files start list.batches) (table_after d.files start list.batches) first.0 in
        let whole : history d batches ≡ past ++ rest = ap (history d) first.1 ∙ effects_append d.files start list.batches first.0 in (
          told.0,
          subst (λ (l : List Effect). IsIn told.0 l) (sym whole) (left_in past rest told.0 told.1),
          record { client_is = told.2.client_is; timestamp_is = told.2.timestamp_is ∙ sym a.timestamp; reply_is = told.2.reply_is ∙ sym a.result },
        )

    answer_told : (k : ℕ) → d.faulty k ≡ false → (reply : model.Reply) → Answers ((After acts).nodes k) reply → Tells (history d batches) reply.client reply.timestamp reply.result
    answer_told k correct reply a = elim a [ inl now ↦ answer_now k correct reply now | inr again ↦ answer_again k correct reply again ]

    -- so is a result that is accepted
    accepted_at : (c t : ℕ) (r : List ℕ) → d.liar c ≡ false → HasAccepted d acts c t r → Tells (history d batches) c t r
    accepted_at c t r honest accepts =
        let found = from_correct d.faulty d.clients (replicas d.clients.f) c t r accepts.counted run.few (run.shared_by_clients c) accepts.agreed in
        let k = found.reply.sender in
        let heard = (sound acts run).heard c found.keys honest found.held found.message (accepts.came found.message found.there) in
        let said = heard k (ap sender_of found.is) found.signed found.correct in
        let sent = reply_said ((After acts).nodes k).sent found.reply (subst (HasSaid ((After acts).nodes k).sent) found.is said) in
        let told = answer_told k found.correct found.reply ((answers acts run k).replies sent.0 found.reply sent.1 sent.2) in
        (told.0, told.1, record { client_is = told.2.client_is ∙ found.client; timestamp_is = told.2.timestamp_is ∙ found.timestamp; reply_is = told.2.reply_is ∙ found.result })

    -- what takes effect was signed
    signed_at : (e : Effect) → IsIn e (history d batches) → WasSigned d.liar (After acts) e.request
    signed_at e i =
        let from = from_batches d.files start batches e i in
        let x = are.executed from.place from.batch from.there in
        subst (WasSigned d.liar (After acts)) (sym from.is)
        ((sound acts run).asked x.0 x.2.0 (record { number = suc from.place; batch = from.batch }) from.signed x.1 x.2.1 x.2.2 from.among)

    -- a result that is accepted is that of the request which the client signed
    accepted_whole : (c t : ℕ) (r : List ℕ) → d.liar c ≡ false → HasAccepted d acts c t r
        → (e : Effect) × IsIn e (history d batches) × IsOf e c t r × ((q : Request) → IsIn q (client_after d acts c).signed → q.timestamp ≡ t → e.request ≡ q)
    accepted_whole c t r honest accepts =
        let told = accepted_at c t r honest accepts in
        let is = told.2.client_is in
        let was = signed_at told.0 told.1 (subst (λ (k : ℕ). d.liar k ≡ false) (sym is) honest) in
        let mine = subst (λ (k : ℕ). IsIn told.0.request (client_after d acts k).signed) is was in
        (told.0, told.1, told.2, λ q i at. (sound acts run).once c honest told.0.request q mine i (told.2.timestamp_is ∙ sym at))

    one_result_at : (c t : ℕ) (r other : List ℕ) → d.liar c ≡ false → HasAccepted d acts c t r → HasAccepted d acts c t other → r ≡ other
    one_result_at c t r other honest one two =
        let a = accepted_at c t r honest one in
        let b = accepted_at c t other honest two in
        let same = same_effect (history d batches) a.0 b.0 (rises d.files start batches) a.1 b.1 (a.2.client_is ∙ sym b.2.client_is) (a.2.timestamp_is ∙ sym b.2.timestamp_is) in
        sym a.2.reply_is ∙ ap (λ (e : Effect). e.reply) same ∙ b.2.reply_is

  order_at : (before after : List Act) (later : Request) (run : IsARun d (before ++ Signs later ∷ after)) (batches : List Batch) → AreAll d.faulty (After (before ++ Signs later ∷ after)).nodes batches
      → (c t : ℕ) (r : List ℕ) → d.liar c ≡ false → d.liar later.client ≡ false → HasAccepted d before c t r
      → (one other : Effect) → IsIn one (history d batches) → IsIn other (history d batches) → IsOf one c t r → other.request ≡ later → IsBefore one other (history d batches)
  order_at before after later run batches are c t r honest honest_later accepts one other i j is same =
      let rest : List Act = Signs later ∷ after in
      let first = run_first d before rest run in
      let then = all before first in
      let past = history d then.0 in
      let more = earlier_first d.faulty (After before).nodes (After (before ++ rest)).nodes then.0 batches (grows_then d before rest) then.1 are in
      let back = effects (files_after d.files start then.0) (table_after d.files start then.0) more.0 in
      let whole : history d batches ≡ past ++ back = ap (history d) more.1 ∙ effects_append d.files start then.0 more.0 in
      let told = accepted_at before first then.0 then.1 c t r honest accepts in
      let there = subst (λ (l : List Effect). IsIn told.0 l) (sym whole) (left_in past back told.0 told.1) in
      let one_is = same_effect (history d batches) one told.0 (rises d.files start batches) i there (is.client_is ∙ sym told.2.client_is) (is.timestamp_is ∙ sym told.2.timestamp_is) in
      is_before one other past back (history d batches) whole (subst (λ (x : Effect). IsIn x past) (sym one_is) told.1)
      (elim (either_in past back other (subst (λ (l : List Effect). IsIn other l) whole j)) [
        | inl early ↦
            let was = subst (WasSigned d.liar (After before)) same (signed_at before first then.0 then.1 other early) in
            absurd ((may_both d before rest (new_world d) run.honest).1.0 honest_later later (was honest_later) refl)
        | inr late ↦ late
      ])

pub clients_see_one_server : NodesAgree → NodesAnswer → ClientsSeeOneServer
clients_see_one_server agree answer d acts run =
    let got = all agree answer d acts run in (
      got.0,
      got.1,
      λ others are. only_one d.faulty (after_acts (new_world d) acts).nodes got.0 others got.1 are,
      record {
        serves = serves d.files (beginning d).table got.0;
        timely = timely d.files (beginning d).table got.0;
        once = rises d.files (beginning d).table got.0;
        signed = signed_at agree answer d acts run got.0 got.1;
        accepted = accepted_whole agree answer d acts run got.0 got.1;
        one_result = one_result_at agree answer d acts run got.0 got.1;
        order = λ before after later c t r same. order_at agree answer d before after later (subst (IsARun d) same run) got.0
            (subst (λ (l : List Act). AreAll d.faulty (after_acts (new_world d) l).nodes got.0) same got.1) c t r;
      },
    )
