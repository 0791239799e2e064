-- Acts one after another, and what is known once they are done.
use Rattle.std.proofs.Common.{◌≡◌, ℕ, ◌==◌, Bool, false, List, [], ◌∷◌, ◌++◌, ◌⊎◌, Some, inl, inr, refl, sym, ap, subst, ◌∙◌, append_assoc}
use Rattle.std.proofs.lemmas.Bool.{cond_both, eqb-true}
use Rattle.bfs_auth.specs.Keys.{Keys}
use Rattle.bfs_auth.specs.declared.principals.Principal.TheVariants as principal
use Rattle.bfs_auth.specs.declared.authenticators.Authenticator.{Authenticator}
use Rattle.bfs_log.specs.Batches.{Committed}
use Rattle.bfs_log.specs.Certificates.{checkpoints_in}
use Rattle.bfs_log.specs.Logs.{batch_in}
use Rattle.bfs_messages.specs.Fits.{FitsMessage}
use Rattle.bfs_messages.specs.Messages as model
use Rattle.bfs_messages.specs.Messages.{requests_of}
use Rattle.bfs_messages.specs.Signing.{as_message, sender_of}
use Rattle.bfs_messages.specs.declared.signed.Signed.{Signed}
use Rattle.bfs_messages.specs.declared.message.Message.{Message}
use Rattle.bfs_messages.specs.declared.message.Message.TheVariants.{Request, Order, ViewChange, NewView, Reply}
use Rattle.bfs_messages.specs.declared.order_messages.OrderMessage.{OrderMessage}
use Rattle.bfs_messages.specs.declared.order_messages.OrderMessage.TheVariants.{PrePrepare, Checkpoint}
use Rattle.bfs_settings.specs.Settings.{Settings}
use Rattle.bfs_order.specs.Laws.Calls.{CallsKeepTheReplica}
use Rattle.bfs_agreement.specs.Histories.{IsIn}
use Rattle.bfs_node.specs.Receivers.{receivers_of}
use Rattle.bfs_node.specs.declared.receivers.Receivers.TheVariants.{Client}
use Rattle.bfs_nodes_agree.specs.Nodes.Laws.{WhatIsSentIsFair}
use Rattle.bfs_nodes_agree.specs.Nodes.Premises.{Comes, EachComes, IsFair, IsWithin}
use Rattle.bfs_nodes_agree.specs.Nodes.Replicas.{NodeReplica, NodeReplicas, NodeTurn}
use Rattle.bfs_nodes_agree.specs.Nodes.Steps.{NodeStep, Delivers, Takes, TakesRequests, TakesOffered, ForgetsAnswered, ForgetsProposed, Adopts, Settles, outcome}
use Rattle.bfs_nodes_agree.proofs.Public.{AllIn, both_at, both_in, executed_in, here_after, left_in, map_in, right_in, some_is}
use Rattle.bfs_one_server.specs.Premises.{MayAct, MayActSo}
use Rattle.bfs_one_server.specs.Worlds.{Act, Steps, Signs, Hears, Client as ClientOf, Deployment, World, after_act, after_acts, new_world, turns_in, with_heard, with_signed}
use Rattle.bfs_run.specs.Acts.{AskOnce, HaveTexts, WasSentTo, deployment}
use Rattle.bfs_run.proofs.Carrying.{Bears, Brought, IsBorne, OfOrder, Sound, bears_on, begins_sound, sound_on, step_leaves}

-- One act more ----------------------------------------------------------------------------------------------------------------

abbrev ComesBy : (NodeReplicas → Keys → Signed Message → Type 0) → World → Act → Type 0
ComesBy P w (Steps turn) = Comes (P w.nodes (w.nodes turn.who).node.keys) turn.step
ComesBy P w act = Unit {0}

comes_last : (P : NodeReplicas → Keys → Signed Message → Type 0) (acts : List Act) (act : Act) (w : World) → EachComes P w.nodes (turns_in acts) → ComesBy P (after_acts w acts) act
    → EachComes P w.nodes (turns_in (acts ++ act ∷ []))
comes_last P [] (Steps turn) w all here = (here, tt)
comes_last P [] (Signs q) w all here = tt
comes_last P [] (Hears c m) w all here = tt
comes_last P (Steps turn ∷ acts) act w all here = (all.0, comes_last P acts act (after_act w (Steps turn)) all.1 here)
comes_last P (Signs q ∷ acts) act w all here = comes_last P acts act (after_act w (Signs q)) all here
comes_last P (Hears c m ∷ acts) act w all here = comes_last P acts act (after_act w (Hears c m)) all here

may_last : (d : Deployment) (acts : List Act) (act : Act) (w : World) → MayActSo d w acts → MayAct d (after_acts w acts) act → MayActSo d w (acts ++ act ∷ [])
may_last d [] act w all here = (here, tt)
may_last d (first ∷ acts) act w all here = (all.0, may_last d acts act (after_act w first) all.1 here)

last_act : (acts : List Act) (act : Act) (w : World) → after_acts w (acts ++ act ∷ []) ≡ after_act (after_acts w acts) act
last_act [] act w = refl
last_act (first ∷ acts) act w = last_act acts act (after_act w first)

-- What grows ------------------------------------------------------------------------------------------------------------------

pub sent_on : (w : World) (act : Act) (k : ℕ) (m : Signed Message) → IsIn m (w.nodes k).sent → IsIn m ((after_act w act).nodes k).sent
sent_on w (Steps turn) k m =
    both_at w.nodes turn (λ i r. IsIn m (w.nodes i).sent → IsIn m r.sent) (right_in (outcome (w.nodes turn.who).node turn.step).sent (w.nodes turn.who).sent m) (λ i j. j) k
sent_on w act k m = λ i. i

pub signed_on : (w : World) (act : Act) (c : ℕ) (q : model.Request) → IsIn q (w.clients c).signed → IsIn q ((after_act w act).clients c).signed
signed_on w (Steps turn) c q i = i
signed_on w (Signs new) c q i = cond_both (c == new.client) (with_signed (w.clients c) new) (w.clients c) (λ (it : ClientOf). IsIn q it.signed) (λ _. inr i) (λ _. i)
signed_on w (Hears client m) c q i = cond_both (c == client) (with_heard (w.clients c) m) (w.clients c) (λ (it : ClientOf). IsIn q it.signed) (λ _. i) (λ _. i)

pub heard_on : (w : World) (act : Act) (c : ℕ) (m : Signed Message) → IsIn m (w.clients c).heard → IsIn m ((after_act w act).clients c).heard
heard_on w (Steps turn) c m i = i
heard_on w (Signs new) c m i = cond_both (c == new.client) (with_signed (w.clients c) new) (w.clients c) (λ (it : ClientOf). IsIn m it.heard) (λ _. i) (λ _. i)
heard_on w (Hears client new) c m i = cond_both (c == client) (with_heard (w.clients c) new) (w.clients c) (λ (it : ClientOf). IsIn m it.heard) (λ _. inr i) (λ _. i)

texts_before : (w : World) (act : Act) → HaveTexts (after_act w act) → HaveTexts w
texts_before w act texts = record { requests = λ c q i. texts.requests c q (signed_on w act c q i); messages = λ k m i. texts.messages k m (sent_on w act k m i) }

pub was_sent_on : (w : World) (act : Act) (c : ℕ) (m : Signed Message) → WasSentTo w c m → WasSentTo (after_act w act) c m
was_sent_on w act c m was = record { sender = was.sender; sent = sent_on w act was.sender m was.sent; receiver = was.receiver }

-- Who signed, and what was sent -------------------------------------------------------------------------------------------------

abbrev pub IsSigned : World → Signed model.Request → Type 0
IsSigned w s = IsIn s.message (w.clients s.message.client).signed

abbrev pub IsTold : World → Signed model.Checkpoint → Type 0
IsTold w c = (k : ℕ) × IsIn (as_message Order (as_message Checkpoint c)) (w.nodes k).sent

told_on : (w : World) (act : Act) (c : Signed model.Checkpoint) → IsTold w c → IsTold (after_act w act) c
told_on w act c told = (told.0, sent_on w act told.0 (as_message Order (as_message Checkpoint c)) told.1)

-- a replica has sent it, or it is a request that its client has signed
abbrev pub MayCome : World → Signed Message → Type 0
MayCome w m = ((k : ℕ) × IsIn m (w.nodes k).sent) ⊎ ((q : model.Request) × (m.message ≡ Request q) × IsIn q (w.clients q.client).signed)

abbrev pub Knows : World → NodeStep → Type 0
Knows w (Takes m) = MayCome w m
Knows w (Adopts c files table) = AllIn (IsTold w) c.checkpoints
Knows w (Delivers bytes) = ⊥
Knows w (TakesRequests messages) = ⊥
Knows w (TakesOffered request) = ⊥
Knows w ForgetsAnswered = ⊥
Knows w ForgetsProposed = ⊥
Knows w (Settles c) = ⊥
Knows w step = Unit {0}

carried : (w : World) (x : OrderMessage) (auth : Authenticator) (next : Committed) → batch_in x ≡ Some next → OfOrder (IsSigned w) (IsTold w) x auth → AllIn (IsSigned w) (requests_of next.batch)
carried w (PrePrepare proposal) auth next e is = subst (λ (n : Committed). AllIn (IsSigned w) (requests_of n.batch)) (some_is (record { number = proposal.vote.number; batch = proposal.batch }) next e) is
carried w other auth next e is = absurd cc

reply_in : (c : ℕ) (m : Message) → receivers_of m ≡ Client c → (reply : model.Reply) × (m ≡ Reply reply)
reply_in c (Reply reply) e = (reply, refl)
reply_in c (Request request) e = absurd cc
reply_in c (Order m) e = absurd cc
reply_in c (ViewChange change) e = absurd cc
reply_in c (NewView new) e = absurd cc

module _ (settings : Settings) (liar : ℕ → Bool) (requests : List model.Request) (begun : List Act) where
  abbrev d : Deployment
  d = deployment settings liar

  -- acts lead there, of which these are the first
  pub record Reached (w : World) : Type 0 where
    pub acts : List Act
    pub goes_on : (more : List Act) × (acts ≡ begun ++ more)
    pub is : after_acts (new_world (deployment settings liar)) acts ≡ w
    pub honest : MayActSo (deployment settings liar) (new_world (deployment settings liar)) acts
    pub fair : HaveTexts w → EachComes (IsFair (λ k. false)) (new_world (deployment settings liar)).nodes (turns_in acts)
    pub sound : (k : ℕ) → Sound (IsSigned w) (IsTold w) settings.f k (w.nodes k).node
    pub sent : (k : ℕ) (m : Signed Message) → IsIn m (w.nodes k).sent → IsBorne (IsSigned w) (IsTold w) k m
    pub asked : (c : ℕ) (q : model.Request) → IsIn q (w.clients c).signed → IsIn q requests × (q.client ≡ c)
    pub heard : (c : ℕ) (m : Signed Message) → IsIn m (w.clients c).heard → WasSentTo w c m

  pub begins : begun ≡ [] → Reached (new_world d)
  begins none = record {
    acts = [];
    goes_on = ([], sym (ap (λ (l : List Act). l ++ []) none));
    is = refl;
    honest = tt;
    fair = λ texts. tt;
    sound = λ k. begins_sound (IsSigned (new_world d)) (IsTold (new_world d)) settings.f k (d.keys k) _ _;
    sent = λ k m i. absurd i;
    asked = λ c q i. absurd i;
    heard = λ c m i. absurd i;
  }

  module _ (once : AskOnce liar requests) (same : CallsKeepTheReplica) (fair_sent : WhatIsSentIsFair) (w : World) (r : Reached w) where
    abbrev on : (act : Act) (k : ℕ) (m : Signed Message) → IsBorne (IsSigned w) (IsTold w) k m → IsBorne (IsSigned (after_act w act)) (IsTold (after_act w act)) k m
    on act k m = bears_on (IsSigned w) (IsSigned (after_act w act)) (IsTold w) (IsTold (after_act w act)) (λ s. signed_on w act s.message.client s.message) (told_on w act)
        (λ reply. reply.sender ≡ k) (λ reply. reply.sender ≡ k) (λ reply e. e) m.message m.auth

    abbrev sound_now : (act : Act) (k : ℕ) → Sound (IsSigned (after_act w act)) (IsTold (after_act w act)) settings.f k (w.nodes k).node
    sound_now act k = sound_on (IsSigned w) (IsSigned (after_act w act)) (IsTold w) (IsTold (after_act w act)) (λ s. signed_on w act s.message.client s.message) (told_on w act) settings.f k (w.nodes k).node (r.sound k)

    -- A step --------------------------------------------------------------------------------------------------------------------

    brought : (act : Act) (step : NodeStep) → Knows w step → Brought (IsSigned (after_act w act)) (IsTold (after_act w act)) step
    brought act (Takes m) knows = elim knows [
      | inl sent ↦ bears_on (IsSigned w) (IsSigned (after_act w act)) (IsTold w) (IsTold (after_act w act)) (λ s. signed_on w act s.message.client s.message) (told_on w act)
          (λ reply. reply.sender ≡ sent.0) (λ reply. Unit {0}) (λ reply e. tt) m.message m.auth (r.sent sent.0 m sent.1)
      | inr asked ↦ subst (λ (x : Message). Bears (IsSigned (after_act w act)) (IsTold (after_act w act)) (λ reply. Unit {0}) x m.auth) (sym asked.1) (signed_on w act asked.0.client asked.0 asked.2)
    ]
    brought act (Adopts c files table) knows = λ x i. told_on w act x (knows x i)
    brought act (Delivers bytes) knows = absurd knows
    brought act (TakesRequests messages) knows = absurd knows
    brought act (TakesOffered request) knows = absurd knows
    brought act ForgetsAnswered knows = absurd knows
    brought act ForgetsProposed knows = absurd knows
    brought act (Settles c) knows = absurd knows
    brought act step knows = tt

    comes : (keys : Keys) (step : NodeStep) → Knows w step → HaveTexts w → Comes (IsFair (λ k. false) w.nodes keys) step
    comes keys (Takes m) knows texts = elim knows [
      | inl sent ↦ (texts.messages sent.0 m sent.1, fair_sent (λ k. false) w.nodes keys sent.0 m refl sent.1)
      | inr asked ↦ (
        subst FitsMessage (sym asked.1) (texts.requests asked.0.client asked.0 asked.2),
        λ p of k e signed correct. elim of [
          | inl is ↦ let no : principal.Client asked.0.client ≡ principal.Replica k = ap sender_of (sym asked.1 ∙ ap (λ (x : Signed Message). x.message) (sym is)) ∙ e in absurd cc
          | inr within ↦ absurd (subst (IsWithin p) asked.1 within)
        ],
      )
    ]
    comes keys (Adopts c files table) knows texts =
        map_in (IsFair (λ k. false) w.nodes keys) (as_message Order) (checkpoints_in c) (map_in (λ x. IsFair (λ k. false) w.nodes keys (as_message Order x)) (as_message Checkpoint) c.checkpoints (λ x i k e signed correct.
        let told = knows x i in
        let m = as_message Order (as_message Checkpoint x) in
        record { who = told.0; correct = refl; sent = m; given = told.1; part = m; is = inl refl; same = refl }))
    comes keys (Delivers bytes) knows texts = absurd knows
    comes keys (TakesRequests messages) knows texts = absurd knows
    comes keys (Settles c) knows texts = absurd knows
    comes keys step knows texts = tt

    -- with what is known then
    add : (act : Act) → MayAct d w act → (HaveTexts w → ComesBy (IsFair (λ k. false)) w act)
        → ((k : ℕ) → Sound (IsSigned (after_act w act)) (IsTold (after_act w act)) settings.f k ((after_act w act).nodes k).node)
        → ((k : ℕ) (m : Signed Message) → IsIn m ((after_act w act).nodes k).sent → IsBorne (IsSigned (after_act w act)) (IsTold (after_act w act)) k m)
        → ((c : ℕ) (q : model.Request) → IsIn q ((after_act w act).clients c).signed → IsIn q requests × (q.client ≡ c))
        → ((c : ℕ) (m : Signed Message) → IsIn m ((after_act w act).clients c).heard → WasSentTo (after_act w act) c m) → Reached (after_act w act)
    add act may fair sound sent asked heard = record {
      acts = r.acts ++ act ∷ [];
      goes_on = (r.goes_on.0 ++ act ∷ [], ap (λ (l : List Act). l ++ act ∷ []) r.goes_on.1 ∙ append_assoc begun r.goes_on.0 (act ∷ []));
      is = last_act r.acts act (new_world d) ∙ ap (λ (v : World). after_act v act) r.is;
      honest = may_last d r.acts act (new_world d) r.honest (subst (λ (v : World). MayAct d v act) (sym r.is) may);
      fair = λ texts.
          let before = texts_before w act texts in
          comes_last (IsFair (λ k. false)) r.acts act (new_world d) (r.fair before) (subst (λ (v : World). ComesBy (IsFair (λ k. false)) v act) (sym r.is) (fair before));
      sound = sound;
      sent = sent;
      asked = asked;
      heard = heard;
    }

    pub steps : (turn : NodeTurn) → Knows w turn.step → Reached (after_act w (Steps turn))
    steps turn knows =
        let who = turn.who in
        let act = Steps turn in
        let node = (w.nodes who).node in
        let out = outcome node turn.step in
        let S = IsSigned (after_act w act) in
        let T = IsTold (after_act w act) in
        let here : (m : Signed Message) → IsIn m out.sent → IsIn m ((after_act w act).nodes who).sent =
        λ m i. subst (λ (x : NodeReplica). IsIn m x.sent) (sym (here_after w.nodes turn)) (left_in out.sent (w.nodes who).sent m i) in
        let done = step_leaves S T settings.f who same node (sound_now act who) turn.step (brought act turn.step knows) (λ c i. (who, here (as_message Order (as_message Checkpoint c)) i)) in
        add act (λ correct m next s i e j passes honest. carried w m.message m.auth next e ((r.sound who).log m (executed_in node turn.step m i)) s j)
        (comes node.keys turn.step knows)
        (both_at w.nodes turn (λ k x. Sound S T settings.f k x.node) done.sound (sound_now act))
        (both_at w.nodes turn (λ k x. (m : Signed Message) → IsIn m x.sent → IsBorne S T k m) (both_in (IsBorne S T who) out.sent (w.nodes who).sent done.sends (λ m i. on act who m (r.sent who m i))) (λ k m i. on act k m (r.sent k m i)))
        r.asked (λ c m i. was_sent_on w act c m (r.heard c m i))

    -- A client ------------------------------------------------------------------------------------------------------------------

    pub signs : (q : model.Request) → IsIn q requests → (liar q.client ≡ false → (other : model.Request) → IsIn other (w.clients q.client).signed → other.timestamp ≡ q.timestamp → ⊥)
        → Reached (after_act w (Signs q))
    signs q there new =
        let act = Signs q in
        add act new (λ texts. tt) (sound_now act) (λ k m i. on act k m (r.sent k m i))
        (λ c p. cond_both (c == q.client) (with_signed (w.clients c) q) (w.clients c) (λ (it : ClientOf). IsIn p it.signed → IsIn p requests × (p.client ≡ c))
        (λ e i. elim i [
          | inl is ↦ (subst (λ (x : model.Request). IsIn x requests) (sym is) there, ap (λ (x : model.Request). x.client) is ∙ sym (eqb-true c q.client e))
          | inr j ↦ r.asked c p j
        ])
        (λ _ i. r.asked c p i))
        (λ c m. cond_both (c == q.client) (with_signed (w.clients c) q) (w.clients c) (λ (it : ClientOf). IsIn m it.heard → WasSentTo (after_act w act) c m)
        (λ _ i. was_sent_on w act c m (r.heard c m i)) (λ _ i. was_sent_on w act c m (r.heard c m i)))

    pub hears : (c : ℕ) (m : Signed Message) → WasSentTo w c m → Reached (after_act w (Hears c m))
    hears c m was =
        let act = Hears c m in
        let reply = reply_in c m.message was.receiver in
        add act
        (λ honest keys held k e passes correct.
        let named : principal.Replica reply.0.sender ≡ principal.Replica k = ap sender_of (sym reply.1) ∙ e in
        let own : reply.0.sender ≡ was.sender = subst (λ (x : Message). Bears (IsSigned w) (IsTold w) (λ (p : model.Reply). p.sender ≡ was.sender) x m.auth) reply.1 (r.sent was.sender m was.sent) in
        let is : was.sender ≡ k = cc in
        (m, subst (λ (j : ℕ). IsIn m (w.nodes j).sent) is was.sent, inl refl))
        (λ texts. tt) (sound_now act) (λ k p i. on act k p (r.sent k p i))
        (λ b q. cond_both (b == c) (with_heard (w.clients b) m) (w.clients b) (λ (it : ClientOf). IsIn q it.signed → IsIn q requests × (q.client ≡ b)) (λ _ i. r.asked b q i) (λ _ i. r.asked b q i))
        (λ b p. cond_both (b == c) (with_heard (w.clients b) m) (w.clients b) (λ (it : ClientOf). IsIn p it.heard → WasSentTo (after_act w act) b p)
        (λ e i. elim i [
          | inl is ↦ subst (λ (x : Signed Message). WasSentTo (after_act w act) b x) (sym is) (subst (λ (n : ℕ). WasSentTo (after_act w act) n m) (sym (eqb-true b c e)) (was_sent_on w act c m was))
          | inr j ↦ was_sent_on w act b p (r.heard b p j)
        ])
        (λ _ i. was_sent_on w act b p (r.heard b p i)))
