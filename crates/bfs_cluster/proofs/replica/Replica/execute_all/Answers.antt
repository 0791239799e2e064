use Rattle.std.proofs.Common.{ap, is_some, map, subst, sym, ◌++◌, ◌∷◌, ◌∙◌, ◌≡◌, []}
use Rattle.std.proofs.lemmas.List.{map-append}
use Rattle.std.specs.Option.{option_map}
use Rattle.bfs_cluster.specs.Inside.Acts.{Acts, doing}
use Rattle.bfs_cluster.specs.Inside.Aside.{Ran}
use Rattle.bfs_node.specs.Advancing.{advancing}
use Rattle.bfs_node.specs.Executing.{Runs}
use Rattle.bfs_cluster.proofs.Aside.{ran_more}
use Rattle.bfs_cluster.proofs.Turns.{first_ready, was_ready}
use Rattle.bfs_cluster.proofs.Wanting.{whatever}
use Rattle.bfs_cluster.proofs.replica.Replica.execute_all.Goals as goal

pub loop-preserved : goal.loop-preserved
loop-preserved g c =
    let Executes = Runs g.G.Gate.ran c.args.executor.now.engine in
    let pushed : c.push.new.self.items ≡ c.loop.all.items ++ c.in-Some-2.sent ∷ [] = c.in_ok-push-in-Some-2.ensures.items in
    subst (λ logs. Ran Executes logs c.args.self.now c.execute.new.self)
    (sym (ap (map (λ sent. sent.items)) pushed ∙ map-append (λ sent. sent.items) c.loop.all.items (c.in-Some-2.sent ∷ [])))
    (ran_more Executes (map (λ sent. sent.items) c.loop.all.items) c.in-Some-2.sent.items c.args.self.now c.loop.self c.execute.new.self c.loop.invariant
    (subst (λ given. Acts (doing advancing c.loop.self) c.loop.self c.execute.new.self (option_map (λ all. all.items) given)) c.in-Some-2.is c.in_ok-sent.ensures.done)
    (c.in_ok-sent.ensures.ran (ap is_some c.in-Some-2.is)))

pub returns-in_err-sent-clause-memory : goal.returns-in_err-sent-clause-memory
returns-in_err-sent-clause-memory g c =
    whatever c.from_residual.result _
    (first_ready (Runs g.G.Gate.ran c.args.executor.now.engine) (map (λ sent. sent.items) c.loop.all.items) c.args.self.now c.loop.self c.loop.invariant c.in_err-sent.ensures.memory)

pub returns-in_err-push-in-Some-2-clause-memory : goal.returns-in_err-push-in-Some-2-clause-memory
returns-in_err-push-in-Some-2-clause-memory g c =
    whatever c.from_residual-in_err-push-in-Some-2.result _
    (first_ready (Runs g.G.Gate.ran c.args.executor.now.engine) (map (λ sent. sent.items) c.loop.all.items) c.args.self.now c.loop.self c.loop.invariant
    (was_ready c.loop.self c.execute.new.self c.in-Some-2.sent.items
    (subst (λ given. Acts (doing advancing c.loop.self) c.loop.self c.execute.new.self (option_map (λ all. all.items) given)) c.in-Some-2.is c.in_ok-sent.ensures.done)))
