use Rattle.std.proofs.Common.{◌≡◌, ◌∙◌, ◌<◌, ◌≤◌, ℕ, sym, ap, subst, length, arith}
use Rattle.std.proofs.lemmas.List.FromFn.{length-map-range_with_len}
use Rattle.bfs_model.specs.Server.Limits.{most_clients}
use Rattle.bfs_votes.specs.Votes.{replicas}
use Rattle.bfs_auth.specs.Keys.{Keys, keys_of}
use Rattle.bfs_auth.specs.Principals.{number_of}
use Rattle.bfs_auth.specs.Replicas.{AreOfReplica}
use Rattle.bfs_auth.specs.declared.principals.Principal.TheVariants.{Replica}
use Rattle.bfs_log.specs.Certificates.{faults}
use Rattle.bfs_node.proofs.node.Node.of_settings.Goals as goal

told_by_keys : (f me : ℕ) (keys : Keys) → AreOfReplica f me keys → AreOfReplica (faults keys) (number_of keys.me) keys
told_by_keys f me keys are =
    let same : faults keys ≡ f = let all = are.all in omega (arith, all) in
    let own : number_of keys.me ≡ me = ap number_of are.owner in
    record {
      owner = are.owner ∙ ap Replica (sym own);
      among = subst (λ n. n < replicas (faults keys)) (sym own) (subst (λ n. me < replicas n) (sym same) are.among);
      all = are.all ∙ ap replicas (sym same);
    }

pub new-requires-clause-replica : goal.new-requires-clause-replica
new-requires-clause-replica c =
    let f = c.args.settings.now.f in
    told_by_keys f c.args.me c.in_ok-keys.keys
    (subst (λ (keys : Keys). AreOfReplica f c.args.me keys)
    (sym (c.in_ok-keys.ensures ∙ ap (λ (n : ℕ). keys_of c.secret.result.now (Replica c.args.me) n c.clients.result) c.replicas.ensures.value))
    (c.derived_keys_are_of_replicas.ensures c.secret.result.now f c.args.me c.clients.result c.requires))

pub new-requires-clause-clients : goal.new-requires-clause-clients
new-requires-clause-clients c =
    subst (λ (n : ℕ). n ≤ most_clients) (sym (ap (λ (keys : Keys). length keys.clients) c.in_ok-keys.ensures ∙ length-map-range_with_len _ 0 _)) c.clients.ensures.most
