use Rattle.std.proofs.Common.{Ok, sym, subst, append-nil}
use Rattle.bfs_node.specs.Nodes.{Messages}
use Rattle.bfs_nodes_agree.specs.Nodes.Performing.{Performs}
use Rattle.bfs_nodes_agree.specs.declared.node_calls.performing.Sent.{Sent}
use Rattle.bfs_nodes_agree.specs.declared.node_calls.performing.Sent.TheVariants.{Nothing, One, All}
use Rattle.bfs_service.specs.Acting.{Acting, IsAfter}
use Rattle.bfs_service.proofs.Going.{refused, stays, taken}
use Rattle.bfs_service.proofs.acting.make.Goals as goal

pub returns-in-Ok-Nothing-clause-made : goal.returns-in-Ok-Nothing-clause-made
returns-in-Ok-Nothing-clause-made g c =
    let acting : Acting = record { node = c.args.node.now; sent = c.args.sent.now.items } in
    let now = c.perform.new.node in
    let is = subst (λ (s : Sent). Performs acting.node c.args.call (Ok s) now) c.in-Ok-Nothing.field-0-is (subst (λ r. Performs acting.node c.args.call r now) c.in-Ok-Nothing.is c.perform.ensures) in
    subst (λ (sent : Messages). IsAfter c.args.call acting (record { node = now; sent = sent })) (append-nil acting.sent) (taken acting c.args.call Nothing now is)

pub returns-in_ok-push-in-Ok-One-clause-made : goal.returns-in_ok-push-in-Ok-One-clause-made
returns-in_ok-push-in-Ok-One-clause-made g c =
    let acting : Acting = record { node = c.args.node.now; sent = c.args.sent.now.items } in
    let now = c.perform.new.node in
    let is = subst (λ (s : Sent). Performs acting.node c.args.call (Ok s) now) c.in-Ok-One.field-0-is (subst (λ r. Performs acting.node c.args.call r now) c.in-Ok-One.is c.perform.ensures) in
    subst (λ (sent : Messages). IsAfter c.args.call acting (record { node = now; sent = sent })) (sym (c.in_ok-push-in-Ok-One.ensures.items)) (taken acting c.args.call (One c.in-Ok-One.signed) now is)

pub returns-in_ok-append-in-Ok-All-clause-made : goal.returns-in_ok-append-in-Ok-All-clause-made
returns-in_ok-append-in-Ok-All-clause-made g c =
    let acting : Acting = record { node = c.args.node.now; sent = c.args.sent.now.items } in
    let now = c.perform.new.node in
    let is = subst (λ (s : Sent). Performs acting.node c.args.call (Ok s) now) c.in-Ok-All.field-0-is (subst (λ r. Performs acting.node c.args.call r now) c.in-Ok-All.is c.perform.ensures) in
    subst (λ (sent : Messages). IsAfter c.args.call acting (record { node = now; sent = sent })) (sym (c.in_ok-append-in-Ok-All.ensures.items)) (taken acting c.args.call (All c.in-Ok-All.all) now is)

pub returns-in_ok-unless_memory-in-Err : goal.returns-in_ok-unless_memory-in-Err
returns-in_ok-unless_memory-in-Err g c =
    let acting : Acting = record { node = c.args.node.now; sent = c.args.sent.now.items } in
    let now = c.perform.new.node in
    let is = subst (λ r. Performs acting.node c.args.call r now) c.in-Err.is c.perform.ensures in
    record {
      made = refused acting c.args.call c.in-Err.error now c.in_ok-unless_memory-in-Err.ensures is;
      refused = λ _. stays acting.node c.args.call c.in-Err.error now c.in_ok-unless_memory-in-Err.ensures is;
    }
