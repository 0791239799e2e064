-- What a node keeps of its view, and of the one that it has asked for, it gives again: it is right for whom all in it passes.
use Rattle.std.proofs.Common.{◌≡◌, ℕ, ◌+◌, ◌*◌, ◌<◌, ◌≤◌, ◌==◌, Bool, true, false, cond, ◌&&◌, not, List, [], ◌∷◌, ◌⊎◌, Option, Some, None, length, map, inr, refl, sym, ap, subst, ◌∙◌, arith, bytes_eq}
use Rattle.std.specs.Prelude.{nat_le, nat_lt}
use Rattle.std.specs.List.{list_all}
use Rattle.std.proofs.lemmas.Bool.{and_from, and_parts, eq-eqb, eqb-true, le-ltb, leb-true}
use Rattle.std.proofs.lemmas.Slice.Eq.{bytes_eq-Decides}
use Rattle.bfs_auth.specs.Keys.{Keys}
use Rattle.bfs_log.specs.Certificates.{faults}
use Rattle.bfs_messages.specs.Batches.{batch_text}
use Rattle.bfs_messages.specs.Messages as model
use Rattle.bfs_messages.specs.Signing.{as_message, is_signed, order_is_signed}
use Rattle.bfs_messages.specs.declared.signed.Signed.{Signed}
use Rattle.bfs_messages.specs.declared.message.Message.TheVariants.{NewView}
use Rattle.bfs_messages.specs.declared.order_messages.OrderMessage.TheVariants.{PrePrepare}
use Rattle.bfs_votes.specs.Votes.{primary}
use Rattle.bfs_order.specs.Replica.Views.{left}
use Rattle.bfs_view_change.specs.Changes.Choice.{Chosen, choice}
use Rattle.bfs_view_change.specs.Changes.Keeping.{Kept, changes_for, with_asked, with_change}
use Rattle.bfs_view_change.specs.Changes.Making.{chosen_proposal, signed_new_view, signed_proposal}
use Rattle.bfs_view_change.specs.Changes.NewViews.{are_for, do_agree, do_propose, first_of, new_view_refusal, proposes, senders}
use Rattle.bfs_view_change.specs.Changes.ViewChanges.{messages_of, valid_view_change}
use Rattle.bfs_view_change.specs.declared.error.ViewError.TheVariants.{BadAuthenticator, BadCertificate, TooFew, WrongChoice}
use Rattle.bfs_node.specs.Changing.{begun, begun_if_due, entered_by, leads, may_begin, own_change, own_new_view, view_refusal, with_new_view, with_view_change}
use Rattle.bfs_node.specs.Nodes.{Node, Outcome}
use Rattle.bfs_nodes_agree.specs.Nodes.Steps.{NodeStep, outcome, still}
use Rattle.bfs_nodes_agree.proofs.Public.{AreKept, Left, Rested, Rests, TookChange, TookNewView, all_for, change_keeps, enough_for, enough_senders, is_taken, kept_above, kept_with, step_kind}
use Rattle.bfs_nodes_progress.specs.Begun.{new_view_passes}
use Rattle.bfs_nodes_progress.proofs.Prompt.{asks_entered, entered_view}

-- Who finds a NEW-VIEW right ----------------------------------------------------------------------------------------------

module _ (keys : Keys) (sender view : ℕ) where
  abbrev Passes : Signed model.PrePrepare → Bool
  Passes p = order_is_signed keys (as_message PrePrepare p)

  same_text : (text : List ℕ) → bytes_eq text text ≡ true
  same_text text = (bytes_eq-Decides text text).1 refl

  -- what its maker proposes for what was chosen
  made_propose : (maker : Keys) (chosen : List Chosen) → list_all Passes (map (λ (c : Chosen). signed_proposal maker (chosen_proposal sender view c)) chosen) ≡ true
      → do_propose keys sender view (map (λ (c : Chosen). signed_proposal maker (chosen_proposal sender view c)) chosen) chosen ≡ true
  made_propose maker [] pass = refl
  made_propose maker (c ∷ chosen) pass =
      let p = signed_proposal maker (chosen_proposal sender view c) in
      let a = and_parts (Passes p) (list_all Passes (map (λ (c : Chosen). signed_proposal maker (chosen_proposal sender view c)) chosen)) pass in
      and_from (proposes keys sender view p c) _
      (and_from ((sender == sender) && ((view == view) && (c.number == c.number))) (bytes_eq (batch_text c.batch) (batch_text c.batch) && Passes p)
      (and_from (sender == sender) ((view == view) && (c.number == c.number)) (eq-eqb sender sender refl) (and_from (view == view) (c.number == c.number) (eq-eqb view view refl) (eq-eqb c.number c.number refl)))
      (and_from (bytes_eq (batch_text c.batch) (batch_text c.batch)) (Passes p) (same_text (batch_text c.batch)) a.0))
      (made_propose maker chosen a.1)

  -- what another one has found so
  taken_propose : (taker : Keys) (ps : List (Signed model.PrePrepare)) (chosen : List Chosen) → do_propose taker sender view ps chosen ≡ true → list_all Passes ps ≡ true → do_propose keys sender view ps chosen ≡ true
  taken_propose taker [] [] found pass = refl
  taken_propose taker [] (c ∷ chosen) found pass = absurd cc
  taken_propose taker (p ∷ ps) [] found pass = absurd cc
  taken_propose taker (p ∷ ps) (c ∷ chosen) found pass =
      let vote = p.message.vote in
      let place = (vote.sender == sender) && ((vote.view == view) && (vote.number == c.number)) in
      let text = bytes_eq (batch_text p.message.batch) (batch_text c.batch) in
      let a = and_parts (proposes taker sender view p c) (do_propose taker sender view ps chosen) found in
      let b = and_parts place (text && order_is_signed taker (as_message PrePrepare p)) a.0 in
      let d = and_parts text (order_is_signed taker (as_message PrePrepare p)) b.1 in
      let e = and_parts (Passes p) (list_all Passes ps) pass in
      and_from (proposes keys sender view p c) _ (and_from place (text && Passes p) b.0 (and_from text (Passes p) d.0 e.0)) (taken_propose taker ps chosen a.1 e.1)

agree_for : (view : ℕ) (changes : List (Signed model.ViewChange)) → are_for view changes ≡ true → do_agree changes ≡ true
agree_for view [] all = refl
agree_for view (first ∷ rest) all =
    let is = eqb-true first.message.view view (and_parts (first.message.view == view) (are_for view rest) all).0 in
    subst (λ (v : ℕ). are_for v (first ∷ rest) ≡ true) (sym is) all

no_refusal : (led of_view agree few chosen : Bool) → led ≡ true → of_view ≡ true → agree ≡ true → few ≡ false → chosen ≡ true
    → first_of (cond (not led) (Some BadAuthenticator) (cond (not of_view) (Some BadCertificate) (cond (not agree) (Some BadCertificate) (cond few (Some TooFew) None)))) (cond chosen None (Some WrongChoice)) ≡ None
no_refusal true true true false true a b c d e = refl
no_refusal led of_view agree few chosen a b c d e = absurd cc

-- it is right for each for whom it passes
abbrev pub IsRightFor : (f : ℕ) → Signed model.NewView → Type 0
IsRightFor f s = (keys : Keys) → faults keys ≡ f → new_view_passes keys s ≡ true → new_view_refusal keys s ≡ None

right_for : (f : ℕ) (s : Signed model.NewView) → s.message.sender ≡ primary f s.message.view → are_for s.message.view s.message.changes ≡ true → 2 * f + 1 ≤ senders f s.message.changes
    → ((keys : Keys) → list_all (λ p. order_is_signed keys (as_message PrePrepare p)) s.message.proposals ≡ true → do_propose keys s.message.sender s.message.view s.message.proposals (choice (messages_of s.message.changes)).chosen ≡ true)
    → IsRightFor f s
right_for f s led of_view enough proposed keys fit pass =
    let new = s.message in
    let m = as_message NewView s in
    let valid = list_all (valid_view_change keys) new.changes in
    let signed = list_all (λ p. order_is_signed keys (as_message PrePrepare p)) new.proposals in
    let a = and_parts (is_signed keys m) (valid && signed) pass in
    let b = and_parts valid signed a.1 in
    no_refusal ((new.sender == primary (faults keys) new.view) && is_signed keys m) (are_for new.view new.changes) (do_agree new.changes && valid) (nat_lt (senders (faults keys) new.changes) (2 * faults keys + 1))
    (do_propose keys new.sender new.view new.proposals (choice (messages_of new.changes)).chosen)
    (and_from (new.sender == primary (faults keys) new.view) (is_signed keys m) (eq-eqb new.sender (primary (faults keys) new.view) (led ∙ ap (λ (g : ℕ). primary g new.view) (sym fit))) a.0)
    of_view
    (and_from (do_agree new.changes) valid (agree_for new.view new.changes of_view) b.0)
    (le-ltb (senders (faults keys) new.changes) (2 * faults keys + 1) (subst (λ (g : ℕ). 2 * g + 1 ≤ senders g new.changes) (sym fit) enough))
    (proposed keys b.1)

-- What a node keeps -------------------------------------------------------------------------------------------------------

abbrev pub AnyChange : Signed model.ViewChange → Type 0
AnyChange s = Unit {0}

-- the NEW-VIEW of its view
pub record KeepsNewView (f view : ℕ) (kept : Option (Signed model.NewView)) : Type 0 where
  pub new : Signed model.NewView
  pub is : kept ≡ Some new
  pub of_view : new.message.view ≡ view
  pub led : new.message.sender ≡ primary f view
  pub right : IsRightFor f new

-- its VIEW-CHANGE
pub record KeepsChange (me asked : ℕ) (kept : Option (Signed model.ViewChange)) : Type 0 where
  pub change : Signed model.ViewChange
  pub is : kept ≡ Some change
  pub of_view : change.message.view ≡ asked
  pub from : change.message.sender ≡ me

pub record IsKeeping (f me view asked : ℕ) (kept : Kept) (new_view : Option (Signed model.NewView)) : Type 0 where
  pub places : AreKept AnyChange f kept
  pub entered : (view ≡ 0) ⊎ KeepsNewView f view new_view
  pub leaving : view < asked → KeepsChange me asked kept.own

abbrev pub Keeps : (f : ℕ) → Node → Type 0
Keeps f node = IsKeeping f node.order.me node.order.view node.order.asked node.changes node.new_view

-- its keys are of 3f + 1 replicas, as its order is
pub record Fits (f : ℕ) (node : Node) : Type 0 where
  pub keys : faults node.keys ≡ node.order.f
  pub same : node.order.f ≡ f

module _ (f : ℕ) where
  abbrev HasEntered : Outcome → Type 0
  HasEntered out = AreKept AnyChange f out.now.changes × ((out.now.order.view ≡ 0) ⊎ KeepsNewView f out.now.order.view out.now.new_view)

  -- by a NEW-VIEW
  enters : (node : Node) (s : Signed model.NewView) → AreKept AnyChange f node.changes → s.message.sender ≡ primary f s.message.view → IsRightFor f s → HasEntered (entered_by node s)
  enters node s places led right =
      let view = entered_view node s in (
        kept_above AnyChange f s.message.view node.changes places,
        inr (record { new = s; is = refl; of_view = sym view; led = subst (λ (v : ℕ). s.message.sender ≡ primary f v) (sym view) led; right = right }),
      )

  begins : (node : Node) → node.order.f ≡ f → HasEntered (still node) → HasEntered (begun_if_due node)
  begins node same is =
      let asked = node.order.asked in
      let me = node.order.me in
      let changes = changes_for asked node.changes in
      let own = signed_new_view node.keys (own_new_view node) in
      (elim (may_begin node) as (λ b. may_begin node ≡ b → HasEntered (cond b (begun node) (still node))) [
        | false ↦ λ _. is
        | true ↦ λ may.
            let a = and_parts (leads node asked) (nat_le (2 * node.order.f + 1) (length changes)) (and_parts (nat_lt node.order.view asked) _ may).1 in
            let led : me ≡ primary f asked = eqb-true me (primary node.order.f asked) a.0 ∙ ap (λ (g : ℕ). primary g asked) same in
            let many = leb-true (2 * node.order.f + 1) (length changes) a.1 in
            let pass = enough_for AnyChange f asked node.changes is.0 in
            enters node own is.0 led (right_for f own led (all_for asked node.changes.changes) (omega (arith, many, pass, same))
            (λ keys signed. made_propose keys me asked node.keys (choice (messages_of changes)).chosen signed))
      ]) refl

  change_enters : (node : Node) (s : Signed model.ViewChange) → node.order.f ≡ f → HasEntered (still node) → HasEntered (with_view_change node s)
  change_enters node s same is =
      let there = record node { changes = with_change node.changes s } in
      let noted = record node { changes = with_asked node.changes s.message } in
      elim (leads node s.message.view) as (λ b. HasEntered (cond b (begun_if_due there) (still noted))) [
        | true ↦ begins there same (kept_with AnyChange f node.changes s tt is.0, is.1)
        | false ↦ is
      ]

  takes_new : (node : Node) (s : Signed model.NewView) → Fits f node → AreKept AnyChange f node.changes → view_refusal node s ≡ None → HasEntered (with_new_view node s)
  takes_new node s fits places taken =
      let new = s.message in
      let is = is_taken node s fits.keys taken in
      let enough = (enough_senders node.keys node.order.f new.changes fits.keys is.right).0 in
      let same = fits.same in
      let led = is.led ∙ ap (λ (g : ℕ). primary g new.view) same in
      enters node s places led (right_for f s led is.of_view (subst (λ (g : ℕ). 2 * g + 1 ≤ senders g new.changes) same enough)
      (λ keys signed. taken_propose keys new.sender new.view node.keys new.proposals (choice (messages_of new.changes)).chosen is.proposed signed))

-- while it asks for a view
module _ (P : (me asked : ℕ) → Type 0) where
  abbrev IfLeaving : Outcome → Type 0
  IfLeaving out = out.now.order.view < out.now.order.asked → P out.now.order.me out.now.order.asked

  not_leaving : (node : Node) (s : Signed model.NewView) → IfLeaving (entered_by node s)
  not_leaving node s lt = let view = entered_view node s in let asked = asks_entered node s in absurd (omega (arith, lt, view, asked))

  change_leaving : (node : Node) (s : Signed model.ViewChange) → IfLeaving (still node) → IfLeaving (with_view_change node s)
  change_leaving node s is =
      let there = record node { changes = with_change node.changes s } in
      let noted = record node { changes = with_asked node.changes s.message } in
      elim (leads node s.message.view) as (λ b. IfLeaving (cond b (begun_if_due there) (still noted))) [
        | true ↦ elim (may_begin there) as (λ b. IfLeaving (cond b (begun there) (still there))) [ true ↦ not_leaving there (signed_new_view there.keys (own_new_view there)) | false ↦ is ]
        | false ↦ is
      ]

-- Each step ---------------------------------------------------------------------------------------------------------------

keeps_at : (f : ℕ) (node now : Node) → Rests node now → Keeps f node → Keeps f now
keeps_at f node now rests is =
    subst (λ (x : ℕ). IsKeeping f x now.order.view now.order.asked now.changes now.new_view) (sym rests.me) (subst (λ (x : ℕ). IsKeeping f node.order.me x now.order.asked now.changes now.new_view) (sym rests.view)
    (subst (λ (x : ℕ). IsKeeping f node.order.me node.order.view x now.changes now.new_view) (sym rests.asked)
    (subst (λ (x : Kept). IsKeeping f node.order.me node.order.view node.order.asked x now.new_view) (sym rests.changes)
    (subst (λ (x : Option (Signed model.NewView)). IsKeeping f node.order.me node.order.view node.order.asked node.changes x) (sym rests.new_view) is))))

pub keeps_step : (f : ℕ) (node : Node) (step : NodeStep) → Fits f node → Keeps f node → Keeps f (outcome node step).now
keeps_step f node step fits is = elim (step_kind node step) [
  | Rested rests ↦ keeps_at f node (outcome node step).now rests is
  | TookChange c ↦
      let entered = change_enters f node c.change fits.same (is.places, is.entered) in
      subst (λ (o : Outcome). Keeps f o.now) (sym c.is) (record {
        places = entered.0;
        entered = entered.1;
        leaving = subst (λ (own : Option (Signed model.ViewChange)). IfLeaving (λ (me asked : ℕ). KeepsChange me asked own) (with_view_change node c.change)) (sym (change_keeps node c.change))
            (change_leaving (λ (me asked : ℕ). KeepsChange me asked node.changes.own) node c.change is.leaving);
      })
  | TookNewView c ↦
      let entered = takes_new f node c.new fits is.places c.taken in
      subst (λ (o : Outcome). Keeps f o.now) (sym c.is) (record {
        places = entered.0;
        entered = entered.1;
        leaving = not_leaving (λ (me asked : ℕ). KeepsChange me asked node.changes.own) node c.new;
      })
  | Left l ↦
      let own = own_change node l.view in
      let gone = record node { order = (left node.order l.view).now } in
      let entered = change_enters f gone own fits.same (is.places, is.entered) in
      subst (λ (o : Outcome). Keeps f o.now) (sym l.is) (record {
        places = entered.0;
        entered = entered.1;
        leaving = change_leaving (λ (me asked : ℕ). KeepsChange me asked (Some own)) gone own (λ _. record { change = own; is = refl; of_view = refl; from = refl });
      })
]
