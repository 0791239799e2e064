-- What the gate has answered is a part of the batch.
use Rattle.bfs_parallel.proofs.Ones.{executed_one, short_one}
use Rattle.bfs_parallel.proofs.requests.execute_one.Goals as goal

pub push-requires : goal.push-requires
push-requires g c = short_one g.G.Gate.ran c.args.tree.now c.answer_one.new.tree c.args.part.now.ordinal c.args.part.now.time c.args.part.now.batch.now.requests c.args.part.now.first c.in_ok-reply.reply.items c.requires.within c.in_ok-reply.ensures c.requires.formed

pub returns : goal.returns
returns g c =
    rw c.in_ok-push.ensures.ok
    (executed_one g.G.Gate.ran c.args.tree.now c.answer_one.new.tree c.args.part.now.ordinal c.args.part.now.time c.args.part.now.batch.now.requests c.args.part.now.first c.in_ok-reply.reply.items c.requires.within c.in_ok-reply.ensures c.args.replies.now)
