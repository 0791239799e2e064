-- Where all pass, all that are in the batch wait.
use Rattle.std.proofs.Common.{◌≡◌, ◌∙◌, true, List, Some, sym, ap, rules}
use Rattle.std.specs.List.{list_all}
use Rattle.bfs_messages.specs.Messages as model
use Rattle.bfs_messages.specs.Signing.{is_signed}
use Rattle.bfs_messages.specs.declared.signed.Signed.{Signed}
use Rattle.bfs_node.specs.Delivering.{after_requests}
use Rattle.bfs_node.specs.Nodes.{Node}
use Rattle.bfs_node.proofs.Taking.{all_came}
use Rattle.bfs_node.proofs.node.Node.take_and_hash.Goals as goal

pub keep_hashed-requires : goal.keep_hashed-requires
keep_hashed-requires g c =
    let after : Node = record { keys = c.self.inside.keys; order = c.self.inside.order; files = c.self.inside.files; table = c.self.inside.table; pending = c.self.inside.pending; changes = c.self.inside.changes; snapshots = c.self.inside.snapshots; new_view = c.self.inside.new_view } in
    let came : after ≡ after_requests c.args.self.now c.args.messages.now = search rules in
    let passed : list_all (is_signed c.args.self.now.keys) c.args.messages.now ≡ true = search rules in
    rw c.with_digest.ensures
    (c.requires.0 ∙ ap (λ (waiting : List (Signed model.Request)). Some waiting) (sym (ap (λ (n : Node). n.pending) came ∙ all_came c.args.self.now c.args.messages.now passed c.requires.1)))
