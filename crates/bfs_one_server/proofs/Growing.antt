-- What has been done stays done, and what is asked of a run is asked of its beginnings.
use Rattle.std.proofs.Common.{◌≡◌, ℕ, Bool, List, [], ◌∷◌, ◌++◌, inr, refl, sym, ap, subst}
use Rattle.std.specs.Prelude.{◌==◌}
use Rattle.std.proofs.lemmas.Bool.{cond_both}
use Rattle.bfs_messages.specs.Messages.{Batch, Request}
use Rattle.bfs_messages.specs.declared.signed.Signed.{Signed}
use Rattle.bfs_messages.specs.declared.message.Message.{Message}
use Rattle.bfs_messages.specs.declared.order_messages.OrderMessage.{OrderMessage}
use Rattle.bfs_agreement.specs.Histories.{IsIn}
use Rattle.bfs_nodes_agree.proofs.Public.{both_at, right_in}
use Rattle.bfs_nodes_agree.specs.Nodes.Laws.{Executed}
use Rattle.bfs_nodes_agree.specs.Nodes.Premises.{AreAuthentic}
use Rattle.bfs_nodes_agree.specs.Nodes.Replicas.{NodeReplica, NodeReplicas, NodeTurn, Standing, after_node_step, after_node_turn, after_node_turns, new_node_replicas, standing_of}
use Rattle.bfs_nodes_agree.specs.Nodes.Steps.{NodeStep, executed_by, outcome}
use Rattle.bfs_one_server.specs.Premises.{IsARun, MayActSo}
use Rattle.bfs_one_server.specs.Worlds.{Act, Steps, Signs, Hears, Client, Deployment, World, after_act, after_acts, beginning, new_world, turns_in, with_heard, with_signed}

-- Lists of acts ---------------------------------------------------------------------------------------------------------------

pub nodes_are : (acts : List Act) (w : World) → (after_acts w acts).nodes ≡ after_node_turns w.nodes (turns_in acts)
nodes_are [] w = refl
nodes_are (Steps turn ∷ acts) w = nodes_are acts (after_act w (Steps turn))
nodes_are (act ∷ acts) w = nodes_are acts (after_act w act)

pub acts_append : (one other : List Act) (w : World) → after_acts w (one ++ other) ≡ after_acts (after_acts w one) other
acts_append [] other w = refl
acts_append (act ∷ one) other w = acts_append one other (after_act w act)

turns_append : (one other : List Act) → turns_in (one ++ other) ≡ turns_in one ++ turns_in other
turns_append [] other = refl
turns_append (Steps turn ∷ one) other = ap (λ (l : List NodeTurn). turn ∷ l) (turns_append one other)
turns_append (act ∷ one) other = turns_append one other

authentic_first : (faulty : ℕ → Bool) (one other : List NodeTurn) (w : NodeReplicas) → AreAuthentic faulty w (one ++ other) → AreAuthentic faulty w one
authentic_first faulty [] other w all = tt
authentic_first faulty (turn ∷ one) other w all = (all.0, authentic_first faulty one other (after_node_turn w turn) all.1)

pub may_both : (d : Deployment) (one other : List Act) (w : World) → MayActSo d w (one ++ other) → MayActSo d w one × MayActSo d (after_acts w one) other
may_both d [] other w all = (tt, all)
may_both d (act ∷ one) other w all = let rest = may_both d one other (after_act w act) all.1 in ((all.0, rest.0), rest.1)

-- What grows ------------------------------------------------------------------------------------------------------------------

pub record GrowsTo (r q : NodeReplica) : Type 0 where
  pub sent : (m : Signed Message) → IsIn m r.sent → IsIn m q.sent
  pub executed : (m : Signed OrderMessage) → IsIn m r.executed → IsIn m q.executed
  pub reached : (s : Standing) → IsIn s r.reached → IsIn s q.reached

pub stays : (r : NodeReplica) → GrowsTo r r
stays r = record { sent = λ m i. i; executed = λ m i. i; reached = λ s i. i }

pub grows_step : (r : NodeReplica) (step : NodeStep) → GrowsTo r (after_node_step r step)
grows_step r step = record {
  sent = right_in (outcome r.node step).sent r.sent;
  executed = right_in (executed_by r.node step) r.executed;
  reached = right_in (standing_of (outcome r.node step).now) r.reached;
}

pub grows_turn : (w : NodeReplicas) (turn : NodeTurn) (i : ℕ) → GrowsTo (w i) (after_node_turn w turn i)
grows_turn w turn = both_at w turn (λ i r. GrowsTo (w i) r) (grows_step (w turn.who) turn.step) (λ i. stays (w i))

pub grows_act : (w : World) (act : Act) (i : ℕ) → GrowsTo (w.nodes i) ((after_act w act).nodes i)
grows_act w (Steps turn) i = grows_turn w.nodes turn i
grows_act w act i = stays (w.nodes i)

pub grows_acts : (acts : List Act) (w : World) (i : ℕ) → GrowsTo (w.nodes i) ((after_acts w acts).nodes i)
grows_acts [] w i = stays (w.nodes i)
grows_acts (act ∷ acts) w i =
    let one = grows_act w act i in
    let more = grows_acts acts (after_act w act) i in
    record { sent = λ m j. more.sent m (one.sent m j); executed = λ m j. more.executed m (one.executed m j); reached = λ s j. more.reached s (one.reached s j) }

pub executed_grows : (r q : NodeReplica) → GrowsTo r q → (n : ℕ) (batch : Batch) → Executed r n batch → Executed q n batch
executed_grows r q on n batch x = (x.0, on.executed x.0 x.1, x.2)

-- what a client has signed
pub signed_on : (w : World) (act : Act) (c : ℕ) (request : Request) → IsIn request (w.clients c).signed → IsIn request ((after_act w act).clients c).signed
signed_on w (Steps turn) c request i = i
signed_on w (Signs new) c request i = cond_both (c == new.client) (with_signed (w.clients c) new) (w.clients c) (λ (it : Client). IsIn request it.signed) (λ _. inr i) (λ _. i)
signed_on w (Hears client message) c request i = cond_both (c == client) (with_heard (w.clients c) message) (w.clients c) (λ (it : Client). IsIn request it.signed) (λ _. i) (λ _. i)

-- Beginnings of runs ------------------------------------------------------------------------------------------------------------

pub grows_then : (d : Deployment) (one other : List Act) (i : ℕ) → GrowsTo ((after_acts (new_world d) one).nodes i) ((after_acts (new_world d) (one ++ other)).nodes i)
grows_then d one other i =
    subst (λ (v : World). GrowsTo ((after_acts (new_world d) one).nodes i) (v.nodes i)) (sym (acts_append one other (new_world d))) (grows_acts other (after_acts (new_world d) one) i)

pub run_first : (d : Deployment) (one other : List Act) → IsARun d (one ++ other) → IsARun d one
run_first d one other run =
    let w = (after_acts (new_world d) one).nodes in
    let v = (after_acts (new_world d) (one ++ other)).nodes in
    let on = grows_then d one other in
    record {
      shared = run.shared;
      shared_by_clients = run.shared_by_clients;
      few = run.few;
      authentic = authentic_first d.faulty (turns_in one) (turns_in other) (new_node_replicas d.clients.f d.keys (beginning d))
          (subst (AreAuthentic d.faulty (new_node_replicas d.clients.f d.keys (beginning d))) (turns_append one other) run.authentic);
      honest = (may_both d one other (new_world d) run.honest).0;
      batches_differ = λ i j number b c a e x y. run.batches_differ i j number b c a e (executed_grows (w i) (v i) (on i) number b x) (executed_grows (w j) (v j) (on j) number c y);
      states_differ = λ i j s t a e x y. run.states_differ i j s t a e ((on i).reached s x) ((on j).reached t y);
    }
