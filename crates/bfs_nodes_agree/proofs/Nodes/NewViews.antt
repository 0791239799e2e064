-- A NEW-VIEW that a node begins, or takes, is right.
use Rattle.std.proofs.Common.{◌≡◌, ℕ, ◌+◌, ◌*◌, ◌==◌, Bool, true, false, cond, List, [], ◌∷◌, Option, Some, None, length, map, refl, sym, ap₂, subst, arith, ◌&&◌, option_map, inl, inr, ap, ◌∙◌}
use Rattle.std.specs.Prelude.{nat_lt, nat_le, filter_map, bytes_eq}
use Rattle.std.specs.List.{cons_option, AllByRecursion}
use Rattle.std.proofs.lemmas.Bool.{and_parts, and_from, cond_both, eqb-true, leb-true}
use Rattle.sha2.specs.Sha256.{sha256}
use Rattle.bfs_auth.specs.Keys.{Keys}
use Rattle.bfs_votes.specs.Votes.{Header, primary}
use Rattle.bfs_log.specs.Headers.{header}
use Rattle.bfs_log.specs.Logs.{headers}
use Rattle.bfs_messages.specs.Messages as model
use Rattle.bfs_messages.specs.Batches.{batch_text}
use Rattle.bfs_messages.specs.Signing.{as_message, is_signed, order_is_signed, requests_are_signed}
use Rattle.bfs_messages.specs.declared.signed.Signed.{Signed}
use Rattle.bfs_messages.specs.declared.order_messages.OrderMessage.{OrderMessage}
use Rattle.bfs_messages.specs.declared.order_messages.OrderMessage.TheVariants.{PrePrepare}
use Rattle.bfs_order.specs.Replica.Views.{as_proposals}
use Rattle.bfs_agreement.specs.Histories.{World, IsIn}
use Rattle.bfs_nodes_agree.proofs.Orders.Lists.{AllIn, at_place}
use Rattle.bfs_nodes_agree.proofs.Orders.Logs.{IsChecked, IsOwn}
use Rattle.bfs_view_change.specs.Changes.Choice.{Chosen, choice}
use Rattle.bfs_view_change.specs.Changes.Keeping.{changes_for, if_for}
use Rattle.bfs_view_change.specs.Changes.Making.{chosen_proposal, signed_proposal}
use Rattle.bfs_view_change.specs.Changes.NewViews.{are_for, are_chosen, choice_refusal, do_propose, proposes, ground_refusal}
use Rattle.bfs_view_change.specs.Changes.ViewChanges.{messages_of, valid_view_change}
use Rattle.bfs_nodes_agree.specs.Views.Changes.{proposal_of, HasProofs, IsGenuine}
use Rattle.bfs_nodes_agree.specs.Views.Replicas.{IsRightNewView}
use Rattle.bfs_nodes_agree.proofs.Views.Batches.{AreSo, chosen_so}
use Rattle.bfs_nodes_agree.proofs.Views.Lists.{map_in, in_map, passes_at}
use Rattle.bfs_node.specs.Changing.{leads, may_begin, own_new_view, entering_refusal, first_of, view_refusal}
use Rattle.bfs_node.specs.Nodes.{Node}
use Rattle.bfs_nodes_agree.specs.Nodes.Replicas.{NodeReplicas}
use Rattle.bfs_nodes_agree.proofs.Nodes.Hearing.{AreChecked, IsGood, IsHeard, IsSaid, IsSpoken, IsWhollySaid, change_signed, genuine_of, vote_heard}
use Rattle.bfs_nodes_agree.proofs.Nodes.Keeping.{AreKept, enough_for, good_for}
use Rattle.bfs_log.specs.Certificates.{faults}
use Rattle.std.proofs.lemmas.Slice.Eq.{bytes_eq-Decides}
use Rattle.bfs_codec.specs.Laws.{OneBatch}
use Rattle.bfs_messages.specs.Limits.{FitsBatch, FitsNewView, FitsPrePrepare, FitsPreparedBatch, FitsSigned, FitsViewChange}
use Rattle.bfs_messages.specs.declared.message.Message.{Message}
use Rattle.bfs_messages.specs.declared.message.Message.TheVariants.{NewView, Order, ViewChange}
use Rattle.bfs_nodes_agree.specs.Orders.Replicas as ordered
use Rattle.bfs_nodes_agree.specs.Orders.Replicas.{histories}
use Rattle.bfs_nodes_agree.proofs.Orders.Results.{passed}
use Rattle.bfs_view_change.specs.Changes.NewViews as views
use Rattle.bfs_view_change.specs.declared.error.ViewError.{ViewError}
use Rattle.bfs_view_change.specs.declared.error.ViewError.TheVariants.{BadAuthenticator, BadCertificate, WrongChoice}
use Rattle.bfs_nodes_agree.proofs.Views.Proved.{enough_senders, is_valid, valid_proves}
use Rattle.bfs_node.specs.Errors.{of_view}
use Rattle.bfs_node.specs.declared.error.NodeError.{NodeError}
use Rattle.bfs_nodes_agree.specs.Nodes.Premises.{IsAuthentic, IsWholly}

-- It begins it -------------------------------------------------------------------------------------------------------------

pub all_for : (view : ℕ) (kept : List (Option (Signed model.ViewChange))) → are_for view (filter_map (if_for view) kept) ≡ true
all_for view [] = refl
all_for view (None ∷ kept) = all_for view kept
all_for view (Some s ∷ kept) =
    let rest = all_for view kept in
    cond_both (s.message.view == view) (Some s) None (λ (o : Option (Signed model.ViewChange)). are_for view (cons_option o (filter_map (if_for view) kept)) ≡ true)
    (λ e. and_from (s.message.view == view) (are_for view (filter_map (if_for view) kept)) e rest) (λ _. rest)

pub own_proposals : (keys : Keys) (f me view : ℕ) → me ≡ primary f view → (chosen : List Chosen)
    → headers (as_proposals (map (λ (c : Chosen). signed_proposal keys (chosen_proposal me view c)) chosen)) ≡ map (proposal_of f view) chosen
own_proposals keys f me view led [] = refl
own_proposals keys f me view led (c ∷ chosen) =
    ap₂ (λ (k : ℕ) (hs : List Header). record { tag = 2; sender = k; view = view; number = c.number; digest = sha256 (batch_text c.batch) } ∷ hs) led (own_proposals keys f me view led chosen)

pub begun_right : (faulty : ℕ → Bool) (h : World) (w : NodeReplicas) (node : Node) → may_begin node ≡ true → AreKept (IsGood faulty node.keys node.order.f h w) node.order.f node.changes
    → IsRightNewView faulty h node.order node.order.asked (changes_for node.order.asked node.changes) (own_new_view node).proposals
begun_right faulty h w node may kept =
    let asked = node.order.asked in
    let f = node.order.f in
    let changes = changes_for asked node.changes in
    let a = and_parts (leads node asked) (nat_le (2 * f + 1) (length changes)) (and_parts (nat_lt node.order.view asked) _ may).1 in
    let many = leb-true (2 * f + 1) (length changes) a.1 in
    let pass = enough_for (IsGood faulty node.keys f h w) f asked node.changes kept in
    let good = good_for (IsGood faulty node.keys f h w) asked 0 node.changes.changes kept.1 in
    record {
      of_view = all_for asked node.changes.changes;
      enough = omega (arith, many, pass);
      proved = map_in (λ (x : model.ViewChange). HasProofs f asked x) (λ (s : Signed model.ViewChange). s.message) changes
          (λ s i. subst (λ (u : ℕ). HasProofs f u s.message) (good s i).0 (good s i).1.proved);
      genuine = map_in (λ (x : model.ViewChange). IsGenuine faulty h x) (λ (s : Signed model.ViewChange). s.message) changes (λ s i. (good s i).1.genuine);
      proposals = own_proposals node.keys f node.order.me asked (eqb-true node.order.me (primary f asked) a.0) _;
    }

-- each request in a batch passes by these keys
abbrev Pass : Keys → model.Batch → Type 0
Pass keys batch = requests_are_signed keys batch ≡ true

-- each of its PRE-PREPAREs is its own
pub own_handed : (node : Node) → AllIn (λ (m : Signed OrderMessage). ((header m).tag ≡ 2) × IsOwn node.order.me m) (as_proposals (own_new_view node).proposals)
own_handed node =
    let P = λ (m : Signed OrderMessage). ((header m).tag ≡ 2) × IsOwn node.order.me m in
    let chosen = (choice (messages_of (changes_for node.order.asked node.changes))).chosen in
    map_in P (as_message PrePrepare) (own_new_view node).proposals
    (map_in (λ (p : Signed model.PrePrepare). P (as_message PrePrepare p)) (λ (c : Chosen). signed_proposal node.keys (chosen_proposal node.order.me node.order.asked c)) chosen
    (λ c i. (refl, record { kind = omega arith; sender = refl; whole = refl })))

-- the requests in each pass, as they do in the certificates
pub own_checked : (faulty : ℕ → Bool) (h : World) (w : NodeReplicas) (node : Node) → AreKept (IsGood faulty node.keys node.order.f h w) node.order.f node.changes
    → AllIn (IsChecked node.keys) (as_proposals (own_new_view node).proposals)
own_checked faulty h w node kept =
    let asked = node.order.asked in
    let changes = changes_for asked node.changes in
    let good = good_for (IsGood faulty node.keys node.order.f h w) asked 0 node.changes.changes kept.1 in
    let chosen = chosen_so (Pass node.keys) refl (messages_of changes) (map_in (AreChecked node.keys) (λ (s : Signed model.ViewChange). s.message) changes (λ s i. (good s i).1.checked)) in
    map_in (IsChecked node.keys) (as_message PrePrepare) (own_new_view node).proposals
    (map_in (λ (p : Signed model.PrePrepare). Pass node.keys p.message.batch) (λ (c : Chosen). signed_proposal node.keys (chosen_proposal node.order.me asked c)) (choice (messages_of changes)).chosen chosen)

-- It takes it --------------------------------------------------------------------------------------------------------------

none_of_view : (r : Option ViewError) (rest : Option NodeError) → first_of (option_map of_view r) rest ≡ None → r ≡ None
none_of_view None rest e = refl
none_of_view (Some refused) rest e = absurd cc

both : (one other : Option ViewError) → views.first_of one other ≡ None → (one ≡ None) × (other ≡ None)
both None other e = (refl, e)
both (Some refused) other e = absurd cc

right_choice : (b : Bool) → cond b None (Some WrongChoice) ≡ None → b ≡ true
right_choice true e = refl
right_choice false e = absurd cc

module _ (keys : Keys) (f sender view : ℕ) (led : sender ≡ primary f view) where
  proposal_is : (p : Signed model.PrePrepare) (c : Chosen) → FitsPrePrepare p.message → proposes keys sender view p c ≡ true
      → (header (as_message PrePrepare p) ≡ proposal_of f view c) × (order_is_signed keys (as_message PrePrepare p) ≡ true) × (batch_text p.message.batch ≡ batch_text c.batch)
  proposal_is p c fits e =
      let vote = p.message.vote in
      let a = and_parts ((vote.sender == sender) && ((vote.view == view) && (vote.number == c.number))) (bytes_eq (batch_text p.message.batch) (batch_text c.batch) && order_is_signed keys (as_message PrePrepare p)) e in
      let b = and_parts (vote.sender == sender) ((vote.view == view) && (vote.number == c.number)) a.0 in
      let d = and_parts (vote.view == view) (vote.number == c.number) b.1 in
      let g = and_parts (bytes_eq (batch_text p.message.batch) (batch_text c.batch)) (order_is_signed keys (as_message PrePrepare p)) a.1 in
      let text = (bytes_eq-Decides (batch_text p.message.batch) (batch_text c.batch)).0 g.0 in (
        ap₂ (λ (k v : ℕ). record { tag = 2; sender = k; view = v; number = vote.number; digest = vote.digest }) (eqb-true vote.sender sender b.0 ∙ led) (eqb-true vote.view view d.0)
            ∙ ap₂ (λ (n : ℕ) (g : List ℕ). record { tag = 2; sender = primary f view; view = view; number = n; digest = g }) (eqb-true vote.number c.number d.1) (fits.digest ∙ ap sha256 text),
        g.1,
        text,
      )

  pub proposals_are : (ps : List (Signed model.PrePrepare)) (cs : List Chosen) → AllByRecursion (FitsSigned FitsPrePrepare) ps → do_propose keys sender view ps cs ≡ true
      → headers (as_proposals ps) ≡ map (proposal_of f view) cs
  proposals_are [] [] fit e = refl
  proposals_are [] (c ∷ cs) fit e = absurd cc
  proposals_are (p ∷ ps) [] fit e = absurd cc
  proposals_are (p ∷ ps) (c ∷ cs) fit e =
      let a = and_parts (proposes keys sender view p c) (do_propose keys sender view ps cs) e in
      ap₂ (λ (h : Header) (hs : List Header). h ∷ hs) (proposal_is p c fit.0.0 a.0).0 (proposals_are ps cs fit.1 a.1)

  -- each of them is signed, tells the digest of its batch, and has the text of a batch that was chosen
  pub proposals_signed : (ps : List (Signed model.PrePrepare)) (cs : List Chosen) → AllByRecursion (FitsSigned FitsPrePrepare) ps → do_propose keys sender view ps cs ≡ true
      → AllIn (λ (p : Signed model.PrePrepare). (order_is_signed keys (as_message PrePrepare p) ≡ true) × FitsPrePrepare p.message × ((c : Chosen) × IsIn c cs × (batch_text p.message.batch ≡ batch_text c.batch))) ps
  proposals_signed [] cs fit e p i = absurd i
  proposals_signed (q ∷ ps) [] fit e p i = absurd cc
  proposals_signed (q ∷ ps) (c ∷ cs) fit e p i =
      let a = and_parts (proposes keys sender view q c) (do_propose keys sender view ps cs) e in
      let first = proposal_is q c fit.0.0 a.0 in
      elim i [
        | inl same ↦
            subst (λ (x : Signed model.PrePrepare). (order_is_signed keys (as_message PrePrepare x) ≡ true) × FitsPrePrepare x.message × ((d : Chosen) × IsIn d (c ∷ cs) × (batch_text x.message.batch ≡ batch_text d.batch))) (sym same)
            (first.1, fit.0.0, (c, inl refl, first.2))
        | inr j ↦ let later = proposals_signed ps cs fit.1 a.1 p j in (later.0, later.1, (later.2.0, inr later.2.1, later.2.2))
      ]

-- what a node finds of a NEW-VIEW that it takes
pub record IsTaken (node : Node) (s : Signed model.NewView) : Type 0 where
  pub signed : is_signed node.keys (as_message NewView s) ≡ true
  pub led : s.message.sender ≡ primary node.order.f s.message.view
  pub of_view : are_for s.message.view s.message.changes ≡ true
  pub right : choice_refusal node.keys s.message.changes ≡ None
  pub proposed : do_propose node.keys s.message.sender s.message.view s.message.proposals (choice (messages_of s.message.changes)).chosen ≡ true

pub is_taken : (node : Node) (s : Signed model.NewView) → faults node.keys ≡ node.order.f → view_refusal node s ≡ None → IsTaken node s
is_taken node s keys_fit taken =
    let keys = node.keys in
    let new = s.message in
    let m = as_message NewView s in
    let a = both (ground_refusal keys s) (cond (are_chosen keys new) None (Some WrongChoice)) (none_of_view _ (entering_refusal node new) taken) in
    let b = passed ((new.sender == primary (faults keys) new.view) && is_signed keys m) BadAuthenticator _ a.0 in
    let d = passed (are_for new.view new.changes) BadCertificate (choice_refusal keys new.changes) b.1 in
    let own = and_parts (new.sender == primary (faults keys) new.view) (is_signed keys m) b.0 in
    let leads = eqb-true new.sender (primary (faults keys) new.view) own.0 in
    record { signed = own.1; led = leads ∙ ap (λ (f : ℕ). primary f new.view) keys_fit; of_view = d.0; right = d.1; proposed = right_choice _ a.1 }

module _ (node : Node) (s : Signed model.NewView) (keys_fit : faults node.keys ≡ node.order.f) (fits : FitsNewView s.message) (taken : view_refusal node s ≡ None) where
  abbrev new : model.NewView
  new = s.message

  is : IsTaken node s
  is = is_taken node s keys_fit taken

  module _ (faulty : ℕ → Bool) (w : NodeReplicas) (v : ordered.OrderReplicas) (spoken : (k : ℕ) → AllIn (IsSpoken (v k)) (w k).sent) (authentic : IsWholly (IsAuthentic faulty w node.keys) (as_message NewView s)) where
    -- so was each of its VIEW-CHANGEs, with all that is within it
    pub taken_said : AllIn (λ (c : Signed model.ViewChange). IsWhollySaid faulty w (as_message ViewChange c)) new.changes
    taken_said c i p of k e correct =
        let valid = (enough_senders node.keys node.order.f new.changes keys_fit is.right).1 in
        authentic p (inr (inr (c, i, of))) k e (change_signed node.keys c (passes_at (valid_view_change node.keys) new.changes c valid i) p of) correct

    pub taken_right : IsRightNewView faulty (histories v) node.order new.view new.changes new.proposals
    taken_right =
        let enough = enough_senders node.keys node.order.f new.changes keys_fit is.right in
        record {
          of_view = is.of_view;
          enough = enough.0;
          proved = map_in (λ (x : model.ViewChange). HasProofs node.order.f new.view x) (λ (c : Signed model.ViewChange). c.message) new.changes (λ c i.
              valid_proves node.keys node.order.f new.view c keys_fit
              (eqb-true c.message.view new.view (passes_at (λ (x : Signed model.ViewChange). x.message.view == new.view) new.changes c is.of_view i))
              (passes_at (valid_view_change node.keys) new.changes c enough.1 i));
          genuine = map_in (λ (x : model.ViewChange). IsGenuine faulty (histories v) x) (λ (c : Signed model.ViewChange). c.message) new.changes (λ c i.
              genuine_of faulty w v spoken c (taken_said c i)
              (at_place (FitsSigned FitsViewChange) new.changes fits.changes.1 c i).0);
          proposals = proposals_are node.keys node.order.f new.sender new.view is.led new.proposals (choice (messages_of new.changes)).chosen fits.proposals.1 is.proposed;
        }

    pub taken_heard : OneBatch → AllIn (IsHeard faulty node.keys (histories v) w) (as_proposals new.proposals)
    taken_heard one =
        let valid = (enough_senders node.keys node.order.f new.changes keys_fit is.right).1 in
        let in_all : (P : model.Batch → Type 0) → P None → AllIn (λ (c : Signed model.ViewChange). AreSo P c.message) new.changes → AllIn (λ (c : Chosen). P c.batch) (choice (messages_of new.changes)).chosen =
        λ P null all. chosen_so P null (messages_of new.changes) (map_in (AreSo P) (λ (c : Signed model.ViewChange). c.message) new.changes all) in
        let pass = in_all (Pass node.keys) refl (λ c i. (is_valid node.keys c (passes_at (valid_view_change node.keys) new.changes c valid i)).carried) in
        let fit = in_all FitsBatch tt (λ c i d j. (at_place FitsPreparedBatch c.message.certificates (at_place (FitsSigned FitsViewChange) new.changes fits.changes.1 c i).0.certificates.1 d j).proposal.0.batch) in
        map_in (IsHeard faulty node.keys (histories v) w) (as_message PrePrepare) new.proposals (λ p i.
        let m = as_message PrePrepare p in
        let good = proposals_signed node.keys node.order.f new.sender new.view is.led new.proposals (choice (messages_of new.changes)).chosen fits.proposals.1 is.proposed p i in
        let within = in_map (as_message Order) (as_proposals new.proposals) m (in_map (as_message PrePrepare) new.proposals p i) in
        let same = one p.message.batch good.2.0.batch good.1.batch (fit good.2.0 good.2.1) good.2.2 in
        vote_heard faulty w v spoken node.keys m (λ k e correct. authentic (as_message Order m) (inr (inl within)) k e good.0 correct) good.1.digest (subst (Pass node.keys) (sym same) (pass good.2.0 good.2.1)))

    -- all of it is signed, and was said by its senders
    pub taken_wholly_said : IsWhollySaid faulty w (as_message NewView s)
    taken_wholly_said p of = elim of as (λ _. IsSaid faulty w p.message) [
      | inl same ↦ λ k e correct. authentic p (inl same) k e (subst (λ (x : Signed Message). is_signed node.keys x ≡ true) (sym same) is.signed) correct
      | inr within ↦ elim within as (λ _. IsSaid faulty w p.message) [
        | inl proposal ↦ λ k e correct. authentic p (inr (inl proposal)) k e
            (map_in (λ (x : Signed Message). is_signed node.keys x ≡ true) (as_message Order) (as_proposals new.proposals)
            (map_in (λ (m : Signed OrderMessage). order_is_signed node.keys m ≡ true) (as_message PrePrepare) new.proposals
            (λ x i. (proposals_signed node.keys node.order.f new.sender new.view is.led new.proposals (choice (messages_of new.changes)).chosen fits.proposals.1 is.proposed x i).0)) p proposal) correct
        | inr change ↦ taken_said change.0 change.1 p change.2
      ]
    ]
