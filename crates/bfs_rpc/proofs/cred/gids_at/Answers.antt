use Rattle.std.proofs.Common.{◌≡◌, None, Ok, arith}
use Rattle.std.proofs.lemmas.Grind.{common_steps}
use Rattle.std.specs.Result.{result_ok}
use Rattle.bfs_model.specs.Bytes.Items.{word_at}
use Rattle.bfs_rpc.proofs.Words.{ended, went_on, stopped}
use Rattle.bfs_rpc.proofs.cred.gids_at.Goals as goal

pub returns-in_err-ok : goal.returns-in_err-ok
returns-in_err-ok c =
    let found : result_ok (word_at c.loop-counter.reader.left) ≡ None = grind (arith, common_steps) in
    rw c.from_residual.ensures (stopped c.args.count c.args.reader.now.left c.loop-counter._counter c.loop-counter.gids c.loop-counter.reader.left c.loop-counter.invariant (omega arith) found)

pub loop-counter-preserved : goal.loop-counter-preserved
loop-counter-preserved c =
    let found : word_at c.loop-counter.reader.left ≡ Ok (c.in_ok-ok.field-0, c.u32.new.self.left) = grind (arith, common_steps) in
    rw c.push.ensures (went_on c.args.count c.args.reader.now.left c.loop-counter._counter c.loop-counter.gids c.loop-counter.reader.left c.in_ok-ok.field-0 c.u32.new.self.left c.loop-counter.invariant (omega arith) found)

pub returns : goal.returns
returns c = ended c.args.count c.args.reader.now.left c.loop-counter._counter c.loop-counter.gids c.loop-counter.reader.left c.loop-counter.invariant (omega arith)
