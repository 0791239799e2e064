use Rattle.std.proofs.Common.{◌≡◌, ◌∙◌, ap, sym, List, []}
use Rattle.std.specs.List.{list_all}
use Rattle.bfs_auth.specs.Keys.{Keys}
use Rattle.bfs_checkpoints.specs.Keeping.{Keeping}
use Rattle.bfs_messages.specs.Messages.{Request}
use Rattle.bfs_messages.specs.Signing.{request_is_signed}
use Rattle.bfs_messages.specs.declared.signed.Signed.{Signed}
use Rattle.bfs_order.specs.Replica.States.{State}
use Rattle.bfs_pending.specs.Passed.{HavePassed}
use Rattle.bfs_node.proofs.node.Node.with_state.Goals as goal

none_waits : (keys : Keys) (pending : List (Signed Request)) → pending ≡ [] → HavePassed keys pending
none_waits keys pending is = ap (list_all (request_is_signed keys)) is

pub invariant_of-result : goal.invariant_of-result
invariant_of-result c = record {
  faults = ap (λ (k : Keeping). k.f) c.new-4.ensures ∙ sym (ap (λ (s : State). s.f) c.new.ensures);
  clients = sym c.requires.clients;
  passed = none_waits c.args.keys _ c.new-2.ensures;
}
