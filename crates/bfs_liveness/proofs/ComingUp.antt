-- Members that are together in a view come up to the greatest number that one of them has stable.
use Rattle.std.proofs.Common.{◌≡◌, ℕ, zero, suc, ◌+◌, ◌*◌, ◌<◌, ◌≤◌, ◌==◌, Bool, true, false, cond, ◌&&◌, max, List, [], ◌∷◌, ◌++◌, length, Some, None, bytes_eq, inl, inr, refl, sym, ap, subst, ◌∙◌, append-nil, arith}
use Rattle.std.specs.Prelude.{is_some, nat_lt}
use Rattle.std.proofs.lemmas.Bool.{cases_Bool, cases_lt, cond_both, eqb-true, le-ltb, leb-true}
use Rattle.bfs_auth.specs.Keys.{Keys}
use Rattle.bfs_auth.specs.declared.principals.Principal.TheVariants as principal
use Rattle.bfs_checkpoints.specs.Keeping.{Keeping, Kept, settled, with_snapshot}
use Rattle.bfs_checkpoints.specs.Snapshots.{Snapshot, snapshot_of}
use Rattle.bfs_checkpoints.specs.Texts.{node_digest}
use Rattle.bfs_log.specs.Certificates.{StableCheckpoint, checkpoints_in, faults, is_shown}
use Rattle.bfs_log.specs.Headers.{header}
use Rattle.bfs_log.specs.Logs.{headers}
use Rattle.bfs_messages.specs.Messages as model
use Rattle.bfs_messages.specs.Signing.{as_message}
use Rattle.bfs_messages.specs.declared.message.Message.{Message}
use Rattle.bfs_messages.specs.declared.message.Message.TheVariants.{Order}
use Rattle.bfs_messages.specs.declared.order_messages.OrderMessage.{OrderMessage}
use Rattle.bfs_messages.specs.declared.order_messages.OrderMessage.TheVariants.{Checkpoint}
use Rattle.bfs_messages.specs.declared.signed.Signed.{Signed}
use Rattle.bfs_model.specs.Server.Tree.{FileSystem}
use Rattle.bfs_order.specs.Laws.Certificates.{CertificatesMakeStable}
use Rattle.bfs_order.specs.Replica.Installing.{certified, installed}
use Rattle.bfs_order.specs.Replica.Proposing.{next_number}
use Rattle.bfs_order.specs.Replica.States.{State}
use Rattle.bfs_replies.specs.Tables.{Table}
use Rattle.bfs_view_change.specs.Changes.Making.{change_of}
use Rattle.bfs_view_change.specs.Changes.ViewChanges.{has_stable, stable_in}
use Rattle.bfs_votes.specs.Laws.{QuorumsMeet}
use Rattle.bfs_votes.specs.Votes.{Header, Told, primary, replicas, tellers, told}
use Rattle.bfs_agreement.specs.Histories.{IsIn}
use Rattle.bfs_agreement.specs.Moves.{new_world}
use Rattle.bfs_agreement.proofs.Public.{Is}
use Rattle.bfs_node.specs.Adopting.{adopted, is_ahead, may_adopt}
use Rattle.bfs_node.specs.Nodes.{Messages, Node, Outcome}
use Rattle.bfs_node.specs.Settling.{settling, settling_refusal}
use Rattle.bfs_nodes_agree.specs.Nodes.Laws.{ViewsAreEnteredWhole}
use Rattle.bfs_nodes_agree.specs.Nodes.Premises.{HasSaid, SaysTheSame}
use Rattle.bfs_nodes_agree.specs.Nodes.Replicas.{Beginning, Keyring, NodeReplica, NodeReplicas, NodeTurn, after_node_turn, after_node_turns, new_node_replicas}
use Rattle.bfs_nodes_agree.specs.Nodes.Resending.{WhatIsResentIsFair}
use Rattle.bfs_nodes_agree.specs.Nodes.Steps.{Adopts, Settles, outcome, still, unless}
use Rattle.bfs_nodes_agree.proofs.Public.{IsSaid, both_at, here_after, left_in, offer_tag, out_of_map, same_header, stable_holds, told_in}
use Rattle.bfs_nodes_progress.specs.CatchingUp.{IsOfAState, all_catch_up, catching_turn, catching_up}
use Rattle.bfs_nodes_progress.specs.Following.{each_takes}
use Rattle.bfs_nodes_progress.specs.Inside.Below.{Below}
use Rattle.bfs_nodes_progress.specs.Members.{AreTogether}
use Rattle.bfs_nodes_progress.specs.Runs.{IsARun, order_of, reached}
use Rattle.bfs_nodes_progress.proofs.Public.{AreOf, Leads, after_join, always, each_once, installs, snapshots_are_of_states}
use Rattle.bfs_liveness.specs.Catching.{ComeUp, IsGreatestLow, StillKeeps}
use Rattle.bfs_liveness.specs.Even.{AreEven}
use Rattle.bfs_liveness.specs.LawsOfCatching.{MembersComeUp}
use Rattle.bfs_liveness.specs.Ways.{AreFairTo, IsWay, MayTake, stable_of}
use Rattle.bfs_liveness.proofs.Behind.{views_begin_behind}
use Rattle.bfs_liveness.proofs.Keeping.{settled_stays}
use Rattle.bfs_liveness.proofs.Leading.{latest_among}
use Rattle.bfs_liveness.proofs.Lists.{out_of_each, out_of_where}
use Rattle.bfs_liveness.proofs.ToldSnapshots.{told_snapshots_stay}
use Rattle.bfs_liveness.proofs.Turns.{kept_by}
use Rattle.bfs_liveness.proofs.Installing.{catching_up_proposes_nothing}
use Rattle.bfs_liveness.proofs.Ways.{fair_behind, goes_on, passes_now, ways_join}

-- Who told the checkpoint ---------------------------------------------------------------------------------------------

-- a CHECKPOINT is signed whole
whole_checkpoint : (m : Message) (c : model.Checkpoint) → SaysTheSame m (Order (Checkpoint c)) → m ≡ Order (Checkpoint c)
whole_checkpoint (Order (Checkpoint checkpoint)) c e = e
whole_checkpoint (Order other) c e = absurd cc
whole_checkpoint other c e = absurd cc

-- so who said it has sent it
pub said_sent : (sent : Messages) (c : model.Checkpoint) → HasSaid sent (Order (Checkpoint c)) → (s : Signed Message) × IsIn s sent × (s.message ≡ Order (Checkpoint c))
said_sent sent c said = elim said.2 [
  | inl same ↦ (said.0, said.1, whole_checkpoint said.0.message c same)
  | inr offer ↦
      let two = offer_tag said.0.message offer.0 offer.1 in
      let five : (header offer.0).tag ≡ 5 = ap (λ (h : Header). h.tag) (same_header offer.0.message (Checkpoint c) offer.2) in
      absurd (omega (arith, two, five))
]

told_by : (c : StableCheckpoint) (k : ℕ) → Told (headers (checkpoints_in c)) 5 k 0 c.number c.digest
    → (s : Signed model.Checkpoint) × IsIn (as_message Checkpoint s) (checkpoints_in c) × Is (header (as_message Checkpoint s)) 5 k 0 c.number c.digest
told_by c k x =
    let at = told_in (headers (checkpoints_in c)) 5 k 0 c.number c.digest x in
    let from = out_of_map header (checkpoints_in c) at.0 at.1 in
    let it = out_of_map (as_message Checkpoint) c.checkpoints from.0 from.1 in
    let is = subst (λ (h : Header). Is h 5 k 0 c.number c.digest) from.2 at.2 in
    (it.0, subst (λ (m : Signed OrderMessage). IsIn m (checkpoints_in c)) it.2 from.1, subst (λ (m : Signed OrderMessage). Is (header m) 5 k 0 c.number c.digest) it.2 is)

-- above 0, what a log has of its low mark shows it
shown_by : (keys : Keys) (change : model.ViewChange) → (change.stable == 0) ≡ false → has_stable keys change ≡ true → is_shown keys (faults keys) (stable_in change) ≡ true
shown_by keys change above has = subst (λ (b : Bool). cond b (length change.checkpoints == 0) (is_shown keys (faults keys) (stable_in change)) ≡ true) above has

-- A turn by it --------------------------------------------------------------------------------------------------------

-- what holds of a node, and of one that adopts or settles
by_catching : (P : Node → Type 0) (node : Node) (c : StableCheckpoint) (files : FileSystem) (table : Table) → P node → P (adopted node c files table) → P (settling node c)
    → (ahead : Bool) → P (outcome node (cond ahead (Adopts c files table) (Settles c))).now
by_catching P node c files table is by_adopting by_settling true =
    cond_both (may_adopt node c && bytes_eq (node_digest files table) c.digest) (still (adopted node c files table)) (still node) (λ (out : Outcome). P out.now) (λ _. by_adopting) (λ _. is)
by_catching P node c files table is by_adopting by_settling false =
    elim (settling_refusal node c) as (λ r. P (unless r node (still (settling node c))).now) [ None ↦ by_settling | Some refused ↦ is ]

-- where its number is stable already, what the log shows stays
same_stable : (s : State) (c : StableCheckpoint) → stable_in (change_of s 0) ≡ c → stable_in (change_of (installed s c).now 0) ≡ c
same_stable s c is =
    let number : c.number ≡ s.low = ap (λ (x : StableCheckpoint). x.number) (sym is) in
    let low : max s.low c.number ≡ s.low = omega (arith, number) in
    let stays : nat_lt s.low c.number ≡ false = elim (cases_lt s.low c.number) as (λ _. nat_lt s.low c.number ≡ false) [ inl lt ↦ absurd (omega (arith, lt, number)) | inr le ↦ le-ltb s.low c.number le ] in
    let last = max s.last c.number in
    ap (λ (n : ℕ). stable_in (change_of (record s { low = n; last = last; log = cond (nat_lt s.low c.number) (certified s.log c) s.log }) 0)) low
    ∙ ap (λ (b : Bool). stable_in (change_of (record s { last = last; log = cond b (certified s.log c) s.log }) 0)) stays ∙ is

settled_keeps : (c : StableCheckpoint) (keeping : Keeping) (x : Kept) → x.number ≡ c.number → IsIn x keeping.kept → IsIn x (settled c keeping).kept
settled_keeps c keeping x number i = elim (settled_stays c keeping x i) as (λ _. IsIn x (settled c keeping).kept) [ inl stays ↦ stays | inr lt ↦ absurd (omega (arith, lt, number)) ]

-- The way -------------------------------------------------------------------------------------------------------------

module _ (f : ℕ) (members : ℕ → Bool) (w : NodeReplicas) (j i : ℕ) (kept : Kept) (files : FileSystem) (table : Table) (j_is : members j ≡ true) (i_is : members i ≡ true)
    (number : kept.number ≡ (stable_of w j).number) (snapshot : kept.snapshot ≡ snapshot_of files table) where
  abbrev c : StableCheckpoint
  c = stable_of w j

  abbrev turns_of : (k : ℕ) → List NodeTurn
  turns_of k = cond (members k) (catching_turn w k c files table ∷ []) []

  -- the log of the one shows it, and the other keeps its snapshot
  record Offers (u : NodeReplicas) : Type 0 where
    shows : stable_of u j ≡ c
    keeps : IsIn kept (u i).node.snapshots.kept

  offers_on : (u : NodeReplicas) (k : ℕ) → Offers u → Offers (after_node_turn u (catching_turn w k c files table))
  offers_on u k offers =
      let turn = catching_turn w k c files table in
      let ahead = is_ahead (w k).node c.number in
      record {
        shows = both_at u turn (λ x r. x ≡ j → stable_in (change_of r.node.order 0) ≡ c)
            (λ same.
            let now = subst (λ (x : ℕ). stable_of u x ≡ c) (sym same) offers.shows in
            let node = (u k).node in
            by_catching (λ (n : Node). stable_in (change_of n.order 0) ≡ c) node c files table now (same_stable node.order c now) (same_stable node.order c now) ahead)
            (λ x same. subst (λ (y : ℕ). stable_of u y ≡ c) (sym same) offers.shows) j refl;
        keeps = both_at u turn (λ x r. x ≡ i → IsIn kept r.node.snapshots.kept)
            (λ same.
            let now = subst (λ (x : ℕ). IsIn kept (u x).node.snapshots.kept) (sym same) offers.keeps in
            let node = (u k).node in
            by_catching (λ (n : Node). IsIn kept n.snapshots.kept) node c files table now
            (settled_keeps c (with_snapshot node.snapshots c.number (snapshot_of files table)) kept number (left_in node.snapshots.kept _ kept now))
            (settled_keeps c node.snapshots kept number now) ahead)
            (λ x same. subst (λ (y : ℕ). IsIn kept (u y).node.snapshots.kept) (sym same) offers.keeps) i refl;
      }

  one_may : (u : NodeReplicas) (k : ℕ) → Offers u → MayTake members u k (catching_up (w k).node c files table)
  one_may u k offers = cond_both (is_ahead (w k).node c.number) (Adopts c files table) (Settles c) (MayTake members u k)
      (λ _. ((j, j_is, sym offers.shows), (i, kept, i_is, offers.keeps, number, snapshot))) (λ _. (j, j_is, sym offers.shows))

  one_way : (u : NodeReplicas) (k : ℕ) → Offers u → IsWay members u (turns_of k) × Offers (after_node_turns u (turns_of k))
  one_way u k offers = cond_both (members k) (catching_turn w k c files table ∷ []) [] (λ (turns : List NodeTurn). IsWay members u turns × Offers (after_node_turns u turns))
      (λ member. ((member, one_may u k offers, tt), offers_on u k offers)) (λ _. (tt, offers))

  all_may : (bound : ℕ) (u : NodeReplicas) → Offers u → IsWay members u (each_takes turns_of bound)
  all_may zero u offers = tt
  all_may (suc b) u offers =
      let first = one_way u b offers in
      ways_join members u (turns_of b) (each_takes turns_of b) first.0 (all_may b (after_node_turns u (turns_of b)) first.1)

  -- What it leaves ------------------------------------------------------------------------------------------------------

  own : (k : ℕ) → AreOf k (turns_of k)
  own k = cond_both (members k) (catching_turn w k c files table ∷ []) [] (AreOf k) (λ _ turn x. elim x [ inl e ↦ ap (λ (y : NodeTurn). y.who) e | inr none ↦ absurd none ]) (λ _ turn x. absurd x)

  abbrev after : NodeReplicas
  after = after_node_turns w (all_catch_up f members w (λ _. c) files table)

  after_is : (k : ℕ) → members k ≡ true → k < replicas f → (after k).node ≡ (outcome (w k).node (catching_up (w k).node c files table)).now
  after_is k member low =
      let turn = catching_turn w k c files table in
      ap (λ (r : NodeReplica). r.node) (each_once w turns_of own (replicas f) k low ∙ ap (λ (b : Bool). after_node_turns w (cond b (turn ∷ []) []) k) member ∙ here_after w turn)

  -- what waits stays
  pending_stays : (k : ℕ) → (after k).node.pending ≡ (w k).node.pending
  pending_stays k = kept_by (λ (n : Node). n.pending ≡ (w k).node.pending) (all_catch_up f members w (λ _. c) files table)
      (λ turn there node same.
      let from = out_of_each turns_of (replicas f) turn there in
      let x = from.0 in
      let here = out_of_where (members x) (catching_turn w x c files table ∷ []) turn from.2 in
      elim here.1 as (λ _. (outcome node turn.step).now.pending ≡ (w k).node.pending) [
        | inl is ↦ subst (λ (t : NodeTurn). (outcome node t.step).now.pending ≡ (w k).node.pending) (sym is)
            (by_catching (λ (n : Node). n.pending ≡ (w k).node.pending) node c files table same same same (is_ahead (w x).node c.number))
        | inr none ↦ absurd none
      ]) w k refl

-- Coming up -----------------------------------------------------------------------------------------------------------

module _ (laws : Below) (again : WhatIsResentIsFair) (whole : ViewsAreEnteredWhole) (meet : QuorumsMeet) (stable : CertificatesMakeStable)
    (f : ℕ) (keys : Keyring) (start : Beginning) (faulty members : ℕ → Bool) (turns : List NodeTurn) (view : ℕ)
    (run : IsARun f keys start faulty turns) (fair : AreFairTo f keys start faulty members turns) (together : AreTogether f faulty members (reached f keys start turns) view)
    (live : (k : ℕ) → members k ≡ true → is_some (reached f keys start turns k).node.files ≡ true) where
  abbrev before : NodeReplicas
  before = reached f keys start turns

  abbrev led : Leads f faulty (new_node_replicas f keys start) new_world before
  led = always laws f faulty run.others run.few keys start turns run.shared run.authentic

  highest : (j : ℕ) × (members j ≡ true) × ((k : ℕ) → k < replicas f → members k ≡ true → (order_of before k).low ≤ (order_of before j).low)
  highest = latest_among (λ k. (order_of before k).low) members (replicas f) (primary f view) together.quorum.leads

  abbrev number_of : ℕ
  number_of = (order_of before highest.0).low

  abbrev shown : StableCheckpoint
  shown = stable_of before highest.0

  most : (k : ℕ) → members k ≡ true → (order_of before k).low ≤ number_of
  most k member = highest.2 k (together.quorum.among k member) member

  behind : (k : ℕ) → (order_of before k).min_s ≤ (order_of before k).low
  behind k = views_begin_behind laws whole f keys start faulty turns k run

  -- it is shown to each member
  shown_to : (number_of == 0) ≡ false → (k : ℕ) → members k ≡ true → is_shown (keys k) f shown ≡ true
  shown_to above k member =
      let size = run.shared k in
      let fit : faults (keys k) ≡ f = omega (arith, size) in
      let has = (passes_now f keys start members faulty turns fair).stable highest.0 k highest.1 member in
      subst (λ (g : ℕ). is_shown (keys k) g shown ≡ true) fit (shown_by (keys k) (change_of (order_of before highest.0) 0) above has)

  -- a member keeps a snapshot of it
  record Keeper : Type 0 where
    who : ℕ
    member : members who ≡ true
    kept : Kept
    keeps : IsIn kept (before who).node.snapshots.kept
    number : kept.number ≡ shown.number
    digest : kept.snapshot.digest ≡ shown.digest

  -- who has told it does
  keeps_told : (i : ℕ) → members i ≡ true → (told : model.Checkpoint) → told.number ≡ number_of → told.digest ≡ shown.digest → StillKeeps (before i).node told → Keeper
  keeps_told i member told number digest (inl later) = let le = most i member in absurd (omega (arith, later, number, le))
  keeps_told i member told number digest (inr kept) = record { who = i; member = member; kept = kept.0; keeps = kept.1; number = kept.2 ∙ number; digest = kept.3 ∙ digest }

  keeper : (number_of == 0) ≡ false → Keeper
  keeper above =
      let hs = headers (checkpoints_in shown) in
      let right = led.facts.right highest.0 in
      let many = leb-true (2 * f + 1) (tellers f hs 5 0 shown.number shown.digest) (stable (keys highest.0) f shown (shown_to above highest.0 highest.1)).stable in
      let got = meet f (λ k. told hs 5 k 0 shown.number shown.digest) members faulty many together.quorum.enough run.few in
      let i = got.0 in
      let by = told_by shown i got.2 in
      let others : 0 < faults (before highest.0).node.keys = subst (λ (n : ℕ). 0 < n) (sym (right.fit ∙ right.same_f)) run.others in
      let said : IsSaid faulty before (Order (Checkpoint by.0.message)) =
      stable_holds (order_of before highest.0) (λ (p : Signed OrderMessage). IsSaid faulty before (Order p.message)) (λ p there. (right.log p there).said (λ _. others)) (as_message Checkpoint by.0) by.1 in
      let sent = said_sent (before i).sent by.0.message (said i (ap principal.Replica by.2.sender) got.4) in
      keeps_told i got.3 by.0.message by.2.number by.2.digest (told_snapshots_stay laws f keys start faulty turns i sent.0 by.0.message run sent.1 sent.2)

  comes : (number_of == 0) ≡ false → (way : List NodeTurn) × ComeUp f keys start faulty members turns way view number_of
  comes above = (
    way,
    record {
      is_way = is_way;
      run = goes_on laws again f keys start faulty members together.quorum.correct turns way run fair is_way;
      fair = fair_behind f keys start members faulty turns way fair is_way;
      even = record {
        together = record {
          quorum = together.quorum;
          entered = λ k member. ap (λ (s : State). s.view) (order_is k member) ∙ together.entered k member;
          asked = λ k member. ap (λ (s : State). s.asked) (order_is k member) ∙ together.asked k member;
        };
        low = λ k member. let low = ap (λ (s : State). s.low) (order_is k member) in let le = most k member in omega (arith, low, le);
        min_s = λ k member. let min_s = ap (λ (s : State). s.min_s) (order_is k member) in let low = behind k in let le = most k member in omega (arith, min_s, low, le);
        last = λ k member. let last = ap (λ (s : State). s.last) (order_is k member) in omega (arith, last);
        live = λ k member. subst (λ (n : Node). is_some n.files ≡ true) (sym (node_is k member))
            (by_catching (λ (n : Node). is_some n.files ≡ true) (before k).node shown files table (live k member) refl (live k member) (is_ahead (before k).node shown.number));
      };
      pending = λ k. ap (λ (u : NodeReplicas). (u k).node.pending) joined
          ∙ pending_stays f members before highest.0 got.who got.kept files table highest.1 got.member got.number of.snapshot k;
      next = λ k member. subst (λ (s : State). next_number s ≤ max (next_number (order_of before k)) (number_of + 1)) (sym (order_is k member))
          (catching_up_proposes_nothing (before k).node.keys (order_of before k) shown (by_keys k member));
    },
  )
    where
      got : Keeper
      got = keeper above

      of : IsOfAState (before got.who) got.kept
      of = snapshots_are_of_states laws f keys start faulty turns got.who got.kept run got.keeps

      files : FileSystem
      files = of.standing.files

      table : Table
      table = of.standing.table

      way : List NodeTurn
      way = all_catch_up f members before (λ _. shown) files table

      is_way : IsWay members before way
      is_way = all_may f members before highest.0 got.who got.kept files table highest.1 got.member got.number of.snapshot (replicas f) before (record { shows = refl; keeps = got.keeps })

      joined : reached f keys start (turns ++ way) ≡ after_node_turns before way
      joined = after_join (new_node_replicas f keys start) turns way

      node_is : (k : ℕ) → members k ≡ true → (reached f keys start (turns ++ way) k).node ≡ (outcome (before k).node (catching_up (before k).node shown files table)).now
      node_is k member = ap (λ (u : NodeReplicas). (u k).node) joined
          ∙ after_is f members before highest.0 got.who got.kept files table highest.1 got.member got.number of.snapshot k member (together.quorum.among k member)

      by_keys : (k : ℕ) → members k ≡ true → is_shown (before k).node.keys (order_of before k).f shown ≡ true
      by_keys k member = subst (λ (x : Keys). is_shown x (order_of before k).f shown ≡ true) (sym (led.keys k))
          (subst (λ (g : ℕ). is_shown (keys k) g shown ≡ true) (sym (led.facts.right k).same_f) (shown_to above k member))

      order_is : (k : ℕ) → members k ≡ true → order_of (reached f keys start (turns ++ way)) k ≡ (installed (order_of before k) shown).now
      order_is k member =
          let digest : node_digest files table ≡ shown.digest = sym (ap (λ (x : Snapshot). x.digest) of.snapshot) ∙ got.digest in
          ap (λ (n : Node). n.order) (node_is k member) ∙ (installs (before k).node shown files table (by_keys k member) digest).0

  -- nothing is stable at any of them
  stays : number_of ≡ 0 → ComeUp f keys start faulty members turns [] view number_of
  stays none = record {
    is_way = tt;
    run = goes_on laws again f keys start faulty members together.quorum.correct turns [] run fair tt;
    fair = fair_behind f keys start members faulty turns [] fair tt;
    even = subst (λ (x : List NodeTurn). AreEven f faulty members (reached f keys start x) view number_of) (sym (append-nil turns)) (record {
      together = together;
      low = λ k member. let le = most k member in omega (arith, none, le);
      min_s = λ k member. let low = behind k in let le = most k member in omega (arith, low, le);
      last = λ k member. omega (arith, none);
      live = live;
    });
    pending = λ k. ap (λ (x : List NodeTurn). (reached f keys start x k).node.pending) (append-nil turns);
    next = λ k member. let same = ap (λ (x : List NodeTurn). next_number (order_of (reached f keys start x) k)) (append-nil turns) in omega (arith, same);
  }

pub members_come_up : Below → WhatIsResentIsFair → ViewsAreEnteredWhole → QuorumsMeet → CertificatesMakeStable → MembersComeUp
members_come_up laws again whole meet stable f keys start faulty members turns view run fair together live =
    let j = highest laws again whole meet stable f keys start faulty members turns view run fair together live in
    let number = (order_of (reached f keys start turns) j.0).low in
    let greatest : IsGreatestLow members (reached f keys start turns) number =
    record { who = j.0; member = j.1; low = refl; greatest = most laws again whole meet stable f keys start faulty members turns view run fair together live } in
    elim (cases_Bool (number == 0)) [
      | inl none ↦ (number, greatest, [], stays laws again whole meet stable f keys start faulty members turns view run fair together live (eqb-true number 0 none))
      | inr above ↦ let came = comes laws again whole meet stable f keys start faulty members turns view run fair together live above in (number, greatest, came.0, came.1)
    ]
