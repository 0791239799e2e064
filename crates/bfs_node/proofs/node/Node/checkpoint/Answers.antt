use Rattle.std.proofs.Common.{◌≡◌, ◌∙◌, Option, Some, None, sym, ap}
use Rattle.std.specs.Option.{option_map}
use Rattle.std.proofs.lemmas.Option.{same_Some}
use Rattle.std.proofs.lemmas.Result.{IfOk-weaker, on_ok_weaker}
use Rattle.bfs_model.specs.Server.Tree.{FileSystem}
use Rattle.bfs_checkpoints.specs.Snapshots.{Snapshot, snapshot_of}
use Rattle.bfs_node.specs.Checkpoints.{checkpoint, checkpointed, with_checkpoint}
use Rattle.bfs_node.specs.Nodes.{Messages, Node, Outcome}
use Rattle.bfs_node.proofs.node.Node.checkpoint.Goals as goal

-- the snapshot that was taken is that of its file system
told : (node other : Node) (snapshot : Snapshot) → other ≡ node → option_map (λ live. snapshot_of live node.table) node.files ≡ Some snapshot
    → checkpoint node ≡ Some (with_checkpoint other snapshot)
told node other snapshot same is = go node.files is ∙ ap (λ (n : Node). Some (with_checkpoint n snapshot)) (sym same)
  where
    go : (files : Option FileSystem) → option_map (λ live. snapshot_of live node.table) files ≡ Some snapshot → option_map (checkpointed node) files ≡ Some (with_checkpoint node snapshot)
    go None e = absurd cc
    go (Some live) e = ap (λ (taken : Snapshot). Some (with_checkpoint node taken)) (same_Some _ _ e)

pub returns-clause-now : goal.returns-clause-now
returns-clause-now g c =
    let node : Node = record { keys = c.self.inside.keys; order = c.self.inside.order; files = c.self.inside.files; table = c.self.inside.table; pending = c.self.inside.pending; changes = c.self.inside.changes; snapshots = c.self.inside.snapshots; new_view = c.self.inside.new_view } in
    let is = told node (record node { files = c.take_snapshot.new.files }) c.in_ok-snapshot.snapshot (ap (λ (files : Option FileSystem). record node { files = files }) c.in_ok-snapshot.ensures.stays) c.in_ok-snapshot.ensures.value in
    rw (← c.self.view_is) (on_ok_weaker c.tell.result (λ now. ap (option_map (λ (outcome : Outcome). outcome.now)) is ∙ ap (λ (n : Node). Some n) (sym now)) c.tell.ensures.now)

pub returns-clause-sent : goal.returns-clause-sent
returns-clause-sent g c =
    let node : Node = record { keys = c.self.inside.keys; order = c.self.inside.order; files = c.self.inside.files; table = c.self.inside.table; pending = c.self.inside.pending; changes = c.self.inside.changes; snapshots = c.self.inside.snapshots; new_view = c.self.inside.new_view } in
    let is = told node (record node { files = c.take_snapshot.new.files }) c.in_ok-snapshot.snapshot (ap (λ (files : Option FileSystem). record node { files = files }) c.in_ok-snapshot.ensures.stays) c.in_ok-snapshot.ensures.value in
    rw (← c.self.view_is) (IfOk-weaker c.tell.result _ _ (λ own sent. ap (option_map (λ (outcome : Outcome). outcome.sent)) is ∙ ap (λ (all : Messages). Some all) sent) c.tell.ensures.sent)
