-- What a node keeps where it leaves a view, hears that others do, and enters one.
use Rattle.std.proofs.Common.{◌≡◌, ℕ, ◌<◌, ◌≤◌, Bool, ◌&&◌, true, false, cond, not, max, Option, Some, None, option_map, refl, sym, ap, ap₂, subst, ◌∙◌, arith}
use Rattle.std.specs.Prelude.{nat_le, nat_lt}
use Rattle.std.proofs.lemmas.Bool.{and_from, le-leb, lt-ltb}
use Rattle.bfs_messages.specs.Messages as model
use Rattle.bfs_messages.specs.Signing.{as_message}
use Rattle.bfs_messages.specs.declared.message.Message.TheVariants.{NewView, ViewChange}
use Rattle.bfs_messages.specs.declared.signed.Signed.{Signed}
use Rattle.bfs_model.specs.Server.Limits.{most_number}
use Rattle.bfs_order.specs.Replica.States.{State}
use Rattle.bfs_order.specs.Replica.Views.{left}
use Rattle.bfs_order.specs.declared.error.OrderError.{OrderError}
use Rattle.bfs_order.specs.declared.error.OrderError.TheVariants.{WrongView}
use Rattle.bfs_view_change.specs.Changes.Keeping.{with_asked, with_change}
use Rattle.bfs_view_change.specs.Changes.Making.{signed_new_view}
use Rattle.bfs_view_change.specs.Changes.NewViews.{latest_checkpoint, new_view_refusal}
use Rattle.bfs_view_change.specs.Changes.ViewChanges.{messages_of}
use Rattle.bfs_view_change.specs.declared.error.ViewError.{ViewError}
use Rattle.bfs_node.specs.Changing.{begun, begun_if_due, change_refusal, entered_by, first_of, leads, leaving_refusal, left_for, may_begin, own_change, own_new_view, view_refusal, with_view_change}
use Rattle.bfs_node.specs.Errors.{of_order, of_view}
use Rattle.bfs_node.specs.Nodes.{Node}
use Rattle.bfs_node.specs.declared.error.NodeError.{NodeError}
use Rattle.bfs_nodes_agree.specs.Nodes.Steps.{LeavesFor, Takes, outcome, still, unless}
use Rattle.bfs_nodes_agree.proofs.Public.{entered_same}
use Rattle.bfs_nodes_progress.proofs.Public.{asks_entered, entered_view, left_asks}
use Rattle.bfs_liveness.specs.Meeting.{KeepsWork}

-- What waits and what was executed ------------------------------------------------------------------------------------

pub work_itself : (node : Node) → KeepsWork node node
work_itself node = record { pending = refl; files = refl; table = refl; last = refl }

pub work_both : (one two three : Node) → KeepsWork one two → KeepsWork two three → KeepsWork one three
work_both one two three a b = record { pending = b.pending ∙ a.pending; files = b.files ∙ a.files; table = b.table ∙ a.table; last = b.last ∙ a.last }

entered_work : (node : Node) (s : Signed model.NewView) → KeepsWork node (entered_by node s).now
entered_work node s = record {
  pending = refl;
  files = refl;
  table = refl;
  last = entered_same (λ (u : State). u.last) (λ u low log. refl) node.keys node.order s.message.view (latest_checkpoint (messages_of s.message.changes)) s.message.proposals;
}

-- A VIEW-CHANGE comes -------------------------------------------------------------------------------------------------

-- and the view that it has asked for
pub record Waits (node now : Node) : Type 0 where
  pub work : KeepsWork node now
  pub asked : now.order.asked ≡ node.order.asked

pub waits_itself : (node : Node) → Waits node node
waits_itself node = record { work = work_itself node; asked = refl }

pub waits_both : (one two three : Node) → Waits one two → Waits two three → Waits one three
waits_both one two three a b = record { work = work_both one two three a.work b.work; asked = b.asked ∙ a.asked }

begun_waits : (node : Node) → Waits node (begun_if_due node).now
begun_waits node =
    let new = signed_new_view node.keys (own_new_view node) in
    elim (may_begin node) as (λ b. Waits node (cond b (begun node) (still node)).now) [
      | true ↦ record { work = entered_work node new; asked = asks_entered node new }
      | false ↦ waits_itself node
    ]

pub change_waits : (node : Node) (s : Signed model.ViewChange) → Waits node (with_view_change node s).now
change_waits node s =
    let there = record node { changes = with_change node.changes s } in
    let noted = record node { changes = with_asked node.changes s.message } in
    elim (leads node s.message.view) as (λ b. Waits node (cond b (begun_if_due there) (still noted)).now) [
      | true ↦
          let waits = begun_waits there in
          let work = waits.work in
          record { work = record { pending = work.pending; files = work.files; table = work.table; last = work.last }; asked = waits.asked }
      | false ↦ record { work = record { pending = refl; files = refl; table = refl; last = refl }; asked = refl }
    ]

pub takes_waits : (node : Node) (s : Signed model.ViewChange) → Waits node (outcome node (Takes (as_message ViewChange s))).now
takes_waits node s = elim (change_refusal node s) as (λ r. Waits node (unless r node (with_view_change node s)).now) [ None ↦ change_waits node s | Some refused ↦ waits_itself node ]

-- It leaves -----------------------------------------------------------------------------------------------------------

-- for the view; and it enters none that another one leads
pub record HasLeft (view : ℕ) (node now : Node) : Type 0 where
  pub work : KeepsWork node now
  pub asked : now.order.asked ≡ view
  pub before : leads node view ≡ false → now.order.view ≡ node.order.view

pub left_is : (node : Node) (view : ℕ) → HasLeft view node (left_for node view).now
left_is node view =
    let own = own_change node view in
    let gone = record node { order = (left node.order view).now } in
    let there = record gone { changes = with_change gone.changes own } in
    let noted = record gone { changes = with_asked gone.changes own.message } in
    let work = (change_waits gone own).work in
    record {
      work = record { pending = work.pending; files = work.files; table = work.table; last = work.last };
      asked = left_asks node view;
      before = λ other. ap (λ (b : Bool). (cond b (begun_if_due there) (still noted)).now.order.view) other;
    }

pub leaves : (node : Node) (view : ℕ) → node.order.view < view → node.order.asked < view → view ≤ most_number → HasLeft view node (outcome node (LeavesFor view)).now
leaves node view above asked number =
    let s = node.order in
    let may : leaving_refusal node view ≡ None = ap (λ (b : Bool). option_map of_order (cond (not b) (Some WrongView) None))
    (and_from (nat_lt (max s.view s.asked) view) (nat_le view most_number) (lt-ltb (max s.view s.asked) view (omega (arith, above, asked))) (le-leb view most_number number)) in
    subst (λ (r : Option NodeError). HasLeft view node (unless r node (left_for node view)).now) (sym may) (left_is node view)

-- It enters -----------------------------------------------------------------------------------------------------------

pub record HasEntered (view : ℕ) (node now : Node) : Type 0 where
  pub work : KeepsWork node now
  pub view_is : now.order.view ≡ view
  pub asked : now.order.asked ≡ view

pub enters : (node : Node) (s : Signed model.NewView) → new_view_refusal node.keys s ≡ None → node.order.view < s.message.view → node.order.asked ≤ s.message.view → s.message.view ≤ most_number
    → HasEntered s.message.view node (outcome node (Takes (as_message NewView s))).now
enters node s right above asked number =
    let view = s.message.view in
    let o = node.order in
    let opens : cond (not (nat_lt o.view view && (nat_le o.asked view && nat_le view most_number))) (Some WrongView) None ≡ None = ap (λ (b : Bool). cond (not b) (Some WrongView) None)
    (and_from (nat_lt o.view view) _ (lt-ltb o.view view above) (and_from (nat_le o.asked view) (nat_le view most_number) (le-leb o.asked view asked) (le-leb view most_number number))) in
    let taken : view_refusal node s ≡ None = ap₂ (λ (a : Option ViewError) (b : Option OrderError). first_of (option_map of_view a) (option_map of_order b)) right opens in
    subst (λ (r : Option NodeError). HasEntered view node (unless r node (entered_by node s)).now) (sym taken) (record {
      work = entered_work node s;
      view_is = entered_view node s;
      asked = asks_entered node s;
    })
