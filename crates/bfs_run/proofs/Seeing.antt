-- The run of a trace is a run of replicas and clients, who see one server.
use Rattle.std.proofs.Common.{◌≡◌, ℕ, zero, suc, ◌<◌, Bool, true, false, List, [], ◌∷◌, length, map, replicate, Option, Some, None, option_map, inl, inr, refl, sym, ap, ap₂, subst, ◌∙◌, arith, append_assoc, append-nil, ◌++◌, ◌==◌, ◌⊎◌}
use Rattle.std.specs.List.{filter, range_with_len, slice_get}
use Rattle.std.proofs.lemmas.Bool.{cond_both, eqb-true}
use Rattle.std.proofs.lemmas.List.FromFn.{get_or-range_with_len, length-map-range_with_len, length-range_with_len}
use Rattle.std.proofs.lemmas.Option.{get_or_from_slice_get, slice_get-map, slice_get_within}
use Rattle.bfs_model.specs.Server.Tree.{new_file_system}
use Rattle.bfs_auth.specs.Keys.{Keys, shared_keys}
use Rattle.bfs_auth.specs.declared.principals.Principal.TheVariants as principal
use Rattle.bfs_votes.specs.Votes.{count_below, replicas}
use Rattle.bfs_messages.specs.Messages as model
use Rattle.bfs_messages.specs.declared.signed.Signed.{Signed}
use Rattle.bfs_messages.specs.declared.message.Message.{Message}
use Rattle.bfs_messages.specs.declared.message.Message.TheVariants.{Reply}
use Rattle.bfs_settings.specs.Settings.{Settings}
use Rattle.bfs_order.specs.Laws.Calls.{CallsKeepTheReplica}
use Rattle.bfs_agreement.specs.Histories.{IsIn}
use Rattle.bfs_node.specs.Nodes.{Messages, Node, keys_of_replica, new_node, node_with}
use Rattle.bfs_node.specs.Receivers.{receivers_of}
use Rattle.bfs_node.specs.declared.receivers.Receivers.TheVariants.{Client}
use Rattle.bfs_clients.specs.Clients.{clients_of, keys_of_client}
use Rattle.bfs_clients.specs.Tallies.{agreed, no_replies}
use Rattle.bfs_cluster.specs.World as cluster
use Rattle.bfs_cluster.specs.World.{Replica, new_replica}
use Rattle.bfs_nodes_agree.specs.Nodes.Laws.{FairIsAuthentic, WhatIsSentIsFair}
use Rattle.bfs_one_server.specs.Laws.{ClientsSeeOneServer, client_after, history}
use Rattle.bfs_one_server.specs.Premises.{IsARun, MayActSo}
use Rattle.bfs_one_server.specs.Worlds.{Act, Steps, Signs, Hears, Client as ClientOf, Deployment, World, after_act, after_acts, beginning, new_world, turns_in, with_heard, with_signed}
use Rattle.bfs_replay.specs.Runs.{EventsRun, Run, new_run}
use Rattle.bfs_run.specs.Acts.{AreAccepted, AreOfRun, AskOnce, HaveTexts, Line, Result, WasSentTo, deployment, requests_in, world_after}
use Rattle.bfs_run.specs.Laws.{AreBefore, SeesOneServer}
use Rattle.bfs_run.proofs.Acting.{Reached, begins, heard_on}
use Rattle.bfs_run.proofs.Events.{AreMade, Counts, Prints, Runs, events_run, is_to, made_more, only_own}
use Rattle.bfs_trace.specs.declared.events.TraceEvent.{TraceEvent}
use Rattle.bfs_nodes_agree.proofs.Public.{either_in, left_in, none_in, right_in, some_is}
use Rattle.bfs_nodes_agree.specs.Nodes.Premises.{AreAuthentic}
use Rattle.bfs_run.proofs.Clusters.{Stands}

-- Lists -------------------------------------------------------------------------------------------------------------------------

at_range : {X : Type 0} (v : ℕ → X) (n k : ℕ) (x : X) → slice_get (map v (range_with_len 0 n)) k ≡ Some x → x ≡ v k
at_range {X} v n k x e = go (slice_get (range_with_len 0 n) k) refl (sym (slice_get-map v (range_with_len 0 n) k) ∙ e)
  where
    go : (o : Option ℕ) → slice_get (range_with_len 0 n) k ≡ o → option_map v o ≡ Some x → x ≡ v k
    go None is h = absurd cc
    go (Some j) is h =
        let within = slice_get_within (range_with_len 0 n) k j is in
        let many = length-range_with_len 0 n in
        let low : k < n = omega (arith, within, many) in
        let there = sym (get_or_from_slice_get (range_with_len 0 n) k j 0 is) ∙ get_or-range_with_len 0 n k 0 low in
        let same : j ≡ k = omega (arith, there) in
        sym (some_is (v j) x h) ∙ ap v same

in_filter : {X : Type 0} (p : X → Bool) (xs : List X) (x : X) → IsIn x (filter p xs) → IsIn x xs × (p x ≡ true)
in_filter p [] x i = absurd i
in_filter {X} p (y ∷ ys) x i =
    let later = in_filter p ys x in
    cond_both (p y) (y ∷ filter p ys) (filter p ys) (λ (l : List X). IsIn x l → IsIn x (y ∷ ys) × (p x ≡ true))
    (λ e j. elim j [ inl is ↦ (inl is, ap p is ∙ e) | inr k ↦ let got = later k in (inr got.0, got.1) ]) (λ _ j. let got = later j in (inr got.0, got.1)) i

none_faulty : (n : ℕ) → count_below (λ k. false) n ≡ 0
none_faulty zero = refl
none_faulty (suc n) = none_faulty n

module _ (settings : Settings) (liar : ℕ → Bool) where
  abbrev d : Deployment
  d = deployment settings liar

  shared : (k : ℕ) → length (keys_of_replica settings k).replicas ≡ replicas settings.f
  shared k = length-map-range_with_len (λ number. shared_keys settings.secret (principal.Replica k) (principal.Replica number)) 0 (replicas settings.f)

  shared_by_clients : (c : ℕ) (keys : Keys) → slice_get (clients_of settings).keys c ≡ Some keys → length keys.replicas ≡ replicas settings.f
  shared_by_clients c keys e =
      ap (λ (k : Keys). length k.replicas) (at_range (keys_of_client settings) settings.clients c keys e)
      ∙ length-map-range_with_len (λ number. shared_keys settings.secret (principal.Client c) (principal.Replica number)) 0 (replicas settings.f)

  node_is : (k : ℕ) → new_node (keys_of_replica settings k) ≡ node_with settings.f k (keys_of_replica settings k) new_file_system (beginning d).table
  node_is k =
      let many = shared k in
      let known = length-map-range_with_len (λ number. shared_keys settings.secret (principal.Replica k) (principal.Client number)) 0 settings.clients in
      let held = length-map-range_with_len (keys_of_client settings) 0 settings.clients in
      ap₂ (λ (f n : ℕ). node_with f k (keys_of_replica settings k) new_file_system (replicate n None)) (omega (arith, many)) (known ∙ sym held)

  start : (requests : List model.Request) (once : AskOnce liar requests) (same : CallsKeepTheReplica) (fair : WhatIsSentIsFair) → Runs settings liar requests [] once same fair [] [] (new_run settings)
  start requests once same fair = record {
    by = (
      new_world d,
      record { reached = begins settings liar requests [] refl; queue = λ b i. absurd i; replies = λ m i. absurd i; signed = λ q i. absurd i; came = λ c m i. absurd i },
      λ k r e. ap (λ (x : Replica). x.node) (at_range (new_replica settings) (replicas settings.f) k r e) ∙ node_is k,
    );
    waiting = none_in (Counts (clients_of settings) []);
  }

  -- from there on, with more requests
  again : (requests all : List model.Request) (once : AskOnce liar requests) (still : AskOnce liar all) (same : CallsKeepTheReplica) (fair : WhatIsSentIsFair) → ((q : model.Request) → IsIn q requests → IsIn q all)
      → (asked : List model.Request) (heard : Messages) (run : Run) (runs : Runs settings liar requests [] once same fair asked heard run) → Runs settings liar all runs.by.1.reached.acts still same fair asked heard run
  again requests all once still same fair more asked heard run runs =
      let past = runs.by.1 in
      let r = past.reached in
      let asked_so : (c : ℕ) (q : model.Request) → IsIn q (runs.by.0.clients c).signed → IsIn q all × (q.client ≡ c) = λ c q i. let was = r.asked c q i in (more q was.0, was.1) in
      let reached : Reached settings liar all r.acts runs.by.0 = record { acts = r.acts; goes_on = ([], sym (append-nil r.acts)); is = r.is; honest = r.honest; fair = r.fair; sound = r.sound; sent = r.sent; asked = asked_so; heard = r.heard } in
      record { by = (runs.by.0, record { reached = reached; queue = past.queue; replies = past.replies; signed = past.signed; came = past.came }, runs.by.2); waiting = runs.waiting }

  -- What is known in the end ----------------------------------------------------------------------------------------------------

  module _ (requests : List model.Request) (begun : List Act) (heard : Messages) (cw : cluster.World) (s : Stands settings liar requests begun (λ q. IsIn q requests) (λ m. IsIn m heard) cw)
      (acts : List Act) (is : s.0 ≡ world_after (deployment settings liar) acts) where
    of_run : AreOfRun d requests cw acts
    of_run = record {
      replicas = subst (λ (v : World). (k : ℕ) (r : Replica) → slice_get cw.replicas k ≡ Some r → r.node ≡ (v.nodes k).node) is s.2;
      signed = subst (λ (v : World). (q : model.Request) → IsIn q requests → IsIn q (v.clients q.client).signed) is s.1.signed;
      asked = subst (λ (v : World). (c : ℕ) (q : model.Request) → IsIn q (v.clients c).signed → IsIn q requests × (q.client ≡ c)) is s.1.reached.asked;
      heard = subst (λ (v : World). (c : ℕ) (m : Signed Message) → IsIn m (v.clients c).heard → WasSentTo v c m) is s.1.reached.heard;
    }

    accepted : (lines : List Line) → AreMade (clients_of settings) heard lines → AreAccepted d acts lines
    accepted lines made c t r i =
        let of = made c t r i in
        let came = subst (λ (v : World). (m : Signed Message) → IsIn m heard → receivers_of m.message ≡ Client c → IsIn m (v.clients c).heard) is (s.1.came c) in
        record {
          counted = filter (λ (m : Signed Message). is_to (clients_of settings) c m.message) of.0;
          came = λ m j. let got = in_filter (λ (x : Signed Message). is_to (clients_of settings) c x.message) of.0 m j in came m (of.1 m got.0) (to_client c m.message got.1);
          agreed = ap agreed (only_own (clients_of settings) c of.0 (no_replies settings.f c t) refl) ∙ of.2;
        }
      where
        to_client : (c : ℕ) (m : Message) → is_to (clients_of settings) c m ≡ true → receivers_of m ≡ Client c
        to_client c (Reply reply) e = ap (λ (n : ℕ). Client n) (eqb-true reply.client c e)
        to_client c other e = absurd cc

-- What comes later --------------------------------------------------------------------------------------------------------------

acts_append : (one other : List Act) (w : World) → after_acts w (one ++ other) ≡ after_acts (after_acts w one) other
acts_append [] other w = refl
acts_append (act ∷ one) other w = acts_append one other (after_act w act)

heard_later : (acts : List Act) (w : World) (c : ℕ) (m : Signed Message) → IsIn m (w.clients c).heard → IsIn m ((after_acts w acts).clients c).heard
heard_later [] w c m i = i
heard_later (act ∷ acts) w c m i = heard_later acts (after_act w act) c m (heard_on w act c m i)

-- it was signed before, or is by one of these
signed_by : (acts : List Act) (w : World) (c : ℕ) (q : model.Request) → IsIn q ((after_acts w acts).clients c).signed → IsIn q (w.clients c).signed ⊎ ((x y : List Act) × (acts ≡ x ++ Signs q ∷ y))
signed_by [] w c q i = inl i
signed_by (act ∷ acts) w c q i = elim (signed_by acts (after_act w act) c q i) [
  | inl now ↦ here act now
  | inr later ↦ inr (act ∷ later.0, later.1, ap (λ (l : List Act). act ∷ l) later.2)
]
  where
    here : (act : Act) → IsIn q ((after_act w act).clients c).signed → IsIn q (w.clients c).signed ⊎ ((x y : List Act) × (act ∷ acts ≡ x ++ Signs q ∷ y))
    here (Steps turn) j = inl j
    here (Signs new) j = cond_both (c == new.client) (with_signed (w.clients c) new) (w.clients c) (λ (it : ClientOf). IsIn q it.signed → IsIn q (w.clients c).signed ⊎ ((x y : List Act) × (Signs new ∷ acts ≡ x ++ Signs q ∷ y)))
        (λ _ k. elim k [ inl e ↦ inr ([], acts, ap (λ (p : model.Request). Signs p ∷ acts) (sym e)) | inr k ↦ inl k ]) (λ _ k. inl k) j
    here (Hears b m) j = cond_both (c == b) (with_heard (w.clients c) m) (w.clients c) (λ (it : ClientOf). IsIn q it.signed → IsIn q (w.clients c).signed ⊎ ((x y : List Act) × (Hears b m ∷ acts ≡ x ++ Signs q ∷ y)))
        (λ _ k. inl k) (λ _ k. inl k) j

module _ (sees : ClientsSeeOneServer) (fair_sent : WhatIsSentIsFair) (fair_run : FairIsAuthentic) (same : CallsKeepTheReplica) (settings : Settings) (liar : ℕ → Bool) where
  -- what comes of the two parts of a run
  cut : (asked later : List model.Request) (middle last : Run) (printed output : List ℕ) (once_so : AskOnce liar asked) (once : AskOnce liar (asked ++ later))
      → (one : Prints settings liar asked [] once_so same fair_sent asked [] middle printed)
      → (two : Prints settings liar (asked ++ later) one.runs.by.1.reached.acts once same fair_sent (asked ++ later) one.more last output)
      → SeesOneServer (deployment settings liar) asked (asked ++ later) middle.world last.world printed output
  cut asked later middle last printed output once_so once one two =
      let d = deployment settings liar in
      let all = asked ++ later in
      let begins = new_world d in
      let first = one.runs.by in
      let acts = first.1.reached.acts in
      let s = two.runs.by in
      let reached = s.1.reached in
      let more = reached.goes_on.0 in
      let so_far = sym first.1.reached.is in
      let is : s.0 ≡ world_after d (acts ++ more) = sym reached.is ∙ ap (λ (l : List Act). after_acts begins l) reached.goes_on.1 in
      let heard = one.more ++ two.more in
      let now = of_run settings liar asked [] one.more middle.world first acts so_far in
      let whole = of_run settings liar all acts heard last.world s (acts ++ more) is in
      let accepts = accepted settings liar asked [] one.more middle.world first acts so_far one.lines one.made in
      let accepts_all = accepted settings liar all acts heard last.world s (acts ++ more) is (one.lines ++ two.lines) (λ c t r i. elim (either_in one.lines two.lines (Result c t (Some r)) i) [
        | inl j ↦ made_more (clients_of settings) one.more two.more one.lines one.made c t r j
        | inr j ↦ two.made c t r j
      ]) in (
        acts,
        more,
        one.lines,
        two.lines,
        one.text,
        two.text,
        now,
        whole,
        accepts,
        λ c t r i. accepts_all c t r (right_in one.lines two.lines (Result c t (Some r)) i),
        λ texts apart.
            let a_run : IsARun d (acts ++ more) = record {
              shared = shared settings liar;
              shared_by_clients = shared_by_clients settings liar;
              few = let none = none_faulty (replicas settings.f) in omega (arith, none);
              authentic = subst (λ (l : List Act). AreAuthentic d.faulty begins.nodes (turns_in l)) reached.goes_on.1
                  (fair_run settings.f d.keys (beginning d) d.faulty (turns_in reached.acts) (shared settings liar) (reached.fair (subst HaveTexts (sym is) texts)));
              honest = subst (λ (l : List Act). MayActSo d begins l) reached.goes_on.1 reached.honest;
              batches_differ = apart.batches;
              states_differ = apart.states;
            } in
            let seen = sees d (acts ++ more) a_run in
            let before : AreBefore d asked one.lines (history d seen.0) = λ c t r e other i honest j of k correct new.
            let q = other.request in
            let signed = subst (λ (v : World). IsIn q (v.clients q.client).signed) (acts_append acts more begins) (seen.3.signed other k correct) in
            elim (signed_by more (world_after d acts) q.client q signed) [
              | inl old ↦ absurd (new (now.asked q.client q old).0)
              | inr at ↦
                  let result = accepts c t r i in
                  let came : (m : Signed Message) → IsIn m result.counted → IsIn m (client_after d (acts ++ at.0) c).heard = λ m l.
                  subst (λ (v : World). IsIn m (v.clients c).heard) (sym (acts_append acts at.0 begins)) (heard_later at.0 (world_after d acts) c m (result.came m l)) in
                  seen.3.order (acts ++ at.0) at.1 q c t r (ap (λ (l : List Act). acts ++ l) at.2 ∙ sym (append_assoc acts at.0 (Signs q ∷ at.1))) honest correct
                  (record { counted = result.counted; came = came; agreed = result.agreed }) e other j k of refl
            ] in (
              record {
                run = a_run;
                batches = seen.0;
                executed = seen.1;
                sees = seen.3;
                told = λ c t r i honest.
                    let e = seen.3.accepted c t r honest (accepts_all c t r i) in
                    (e.0, e.1, e.2, (whole.asked e.0.request.client e.0.request (seen.3.signed e.0 e.1 (ap d.liar e.2.client_is ∙ honest))).0);
              },
              before,
            ),
      )

  -- the first events, and then the others
  parts : (Executes : Node → Type 0) (earlier later : List TraceEvent) (run last : Run) (output : List ℕ) → EventsRun Executes (clients_of settings) (earlier ++ later) run last output
      → (middle : Run) × (printed rest : List ℕ) × EventsRun Executes (clients_of settings) earlier run middle printed × EventsRun Executes (clients_of settings) later middle last rest
      × (output ≡ printed ++ rest)
  parts Executes [] later run last output runs = (run, [], output, (refl, refl), runs, refl)
  parts Executes (event ∷ earlier) later run last output runs =
      let more = parts Executes earlier later runs.0 last runs.2 runs.4 in
      (more.0, runs.1 ++ more.1, more.2, (runs.0, runs.1, more.1, runs.3, more.3, refl), more.4, runs.5 ∙ ap (λ (l : List ℕ). runs.1 ++ l) more.5 ∙ sym (append_assoc runs.1 more.1 more.2))

  pub the_run : (Executes : Node → Type 0) → (earlier later : List TraceEvent) (last : Run) (output : List ℕ)
      → EventsRun Executes (clients_of settings) (earlier ++ later) (new_run settings) last output → AskOnce liar (requests_in earlier ++ requests_in later)
      → (middle : Run) × (printed rest : List ℕ) × EventsRun Executes (clients_of settings) earlier (new_run settings) middle printed × (output ≡ printed ++ rest)
      × SeesOneServer (deployment settings liar) (requests_in earlier) (requests_in earlier ++ requests_in later) middle.world last.world printed rest
  the_run Executes earlier later last output runs once =
      let asked = requests_in earlier in
      let more = requests_in later in
      let part = parts Executes earlier later (new_run settings) last output runs in
      let once_so : AskOnce liar asked = λ one other i j. once one other (left_in asked more one i) (left_in asked more other j) in
      let one = events_run settings liar asked [] once_so same fair_sent Executes earlier (new_run settings) part.0 part.1 [] [] (λ q i. i) part.3 (start settings liar asked once_so same fair_sent) in
      let two = events_run settings liar (asked ++ more) one.runs.by.1.reached.acts once same fair_sent Executes later part.0 last part.2 asked one.more (right_in asked more) part.4
      (again settings liar asked (asked ++ more) once_so once same fair_sent (left_in asked more) asked one.more part.0 one.runs) in
      (part.0, part.1, part.2, part.3, part.5, cut asked more part.0 last part.1 part.2 once_so once one two)
