use Rattle.std.proofs.Common.{◌≡◌, ◌∙◌, ◌++◌, true, Bool, [], sym, ap, if◌then◌else◌}
use Rattle.bfs_messages.specs.Messages as model
use Rattle.bfs_messages.specs.declared.signed.Signed.{Signed}
use Rattle.bfs_view_change.specs.Changes.Keeping.{Kept, with_asked, with_change}
use Rattle.bfs_node.specs.Changing.{begun_if_due, leads, with_view_change}
use Rattle.bfs_node.specs.Inside.Asking.{asking}
use Rattle.bfs_node.specs.Nodes.{Node, Outcome}
use Rattle.bfs_node.proofs.node.Node.keep.Goals as goal

-- one for a view that the replica leads
counted : (node : Node) (s : Signed model.ViewChange) → leads node s.message.view ≡ true
    → with_view_change node s ≡ begun_if_due (record node { changes = with_change node.changes s })
counted node s is =
    ap (λ (b : Bool). if b then begun_if_due (record node { changes = with_change node.changes s }) else record { now = record node { changes = with_asked node.changes s.message }; sent = [] }) is

pub returns-in-Ok-clause-now : goal.returns-in-Ok-clause-now
returns-in-Ok-clause-now c =
    c.in-Ok.ensures.now
    ∙ ap (λ (kept : Kept). (begun_if_due (record { keys = c.self.inside.keys; order = record c.self.inside.order { asked = c.args.asked }; files = c.self.inside.files; table = c.self.inside.table; pending = c.self.inside.pending; changes = kept; snapshots = c.self.inside.snapshots; new_view = c.self.inside.new_view })).now) c.keep-replaced.ensures.now
    ∙ ap (λ (n : Node). (begun_if_due (record (asking n c.args.asked) { changes = with_change n.changes c.args.change })).now) c.self.view_is
    ∙ ap (λ (o : Outcome). o.now) (sym (counted (asking c.args.self.now c.args.asked) c.args.change (rw c.view.ensures.value at (sym c.leads_view.ensures ∙ c.if-not-leads_view.false))))

pub returns-in-Ok-clause-sent : goal.returns-in-Ok-clause-sent
returns-in-Ok-clause-sent c =
    c.in-Ok.ensures.sent
    ∙ ap (λ (kept : Kept). c.args.first.items ++ (begun_if_due (record { keys = c.self.inside.keys; order = record c.self.inside.order { asked = c.args.asked }; files = c.self.inside.files; table = c.self.inside.table; pending = c.self.inside.pending; changes = kept; snapshots = c.self.inside.snapshots; new_view = c.self.inside.new_view })).sent) c.keep-replaced.ensures.now
    ∙ ap (λ (n : Node). c.args.first.items ++ (begun_if_due (record (asking n c.args.asked) { changes = with_change n.changes c.args.change })).sent) c.self.view_is
    ∙ ap (λ (o : Outcome). c.args.first.items ++ o.sent) (sym (counted (asking c.args.self.now c.args.asked) c.args.change (rw c.view.ensures.value at (sym c.leads_view.ensures ∙ c.if-not-leads_view.false))))
