-- A node that adopts does what the step of that file system and that table does.
use Rattle.std.proofs.Common.{ℕ, Bool, cond, List, Ok, bytes_eq, sym, ap, ◌∙◌}
use Rattle.std.proofs.lemmas.Bool.{and_from}
use Rattle.std.proofs.lemmas.Slice.Eq.{bytes_eq-Decides}
use Rattle.bfs_checkpoints.specs.Texts.{node_digest}
use Rattle.bfs_log.specs.Certificates.{StableCheckpoint}
use Rattle.bfs_node.specs.Adopting.{Adopts, adopted, may_adopt}
use Rattle.bfs_node.specs.Nodes.{Node}
use Rattle.bfs_nodes_agree.specs.Nodes.Performing.{AdoptsSpelled}
use Rattle.bfs_nodes_agree.specs.Nodes.Steps.{still}
use Rattle.bfs_nodes_agree.specs.declared.node_calls.performing.Sent.TheVariants.{Nothing}

pub adopts_spelled : (node now : Node) (text : List ℕ) (certificate : StableCheckpoint) → Adopts node text certificate now → AdoptsSpelled node text certificate (Ok Nothing) now
adopts_spelled node now text certificate did =
    let digest = node_digest did.files did.table in
    let right = and_from (may_adopt node certificate) (bytes_eq digest certificate.digest) did.may ((bytes_eq-Decides digest certificate.digest).1 did.digest) in
    (did.files, did.table, did.spells, ap (λ (b : Bool). cond b (still (adopted node certificate did.files did.table)) (still node)) right ∙ ap still (sym did.now_is))
