-- The client's reply is that of the answer at hand where it is the client's, else what it was.
use Rattle.std.proofs.Common.{◌≡◌, ◌∙◌, ◌<◌, length, take, sym, ap, arith, Some}
use Rattle.bfs_replies.specs.Answers.{recorded_all}
use Rattle.bfs_replies.specs.Tables.{last_of, recorded}
use Rattle.bfs_replies.proofs.Recording.{length-recorded_all, one_more, recorded_elsewhere, recorded_here, reply_in}
use Rattle.bfs_replies.proofs.tables.ReplyTable.last_after.Goals as goal
use Rattle.bfs_replies.proofs.tables.ReplyTable.last_after.Goals.{then-answer-client, else-answer-client}

pub loop-answer-preserved : goal.loop-answer-preserved
loop-answer-preserved c =
    let table = c.args.self.now in
    let answers = c.args.answers.now in
    let i = c.loop-answer.answer-index in
    let answer = c.answer-item.result in
    let before = recorded_all table (take i answers) in
    let more = one_more table answers i answer (omega arith) c.answer-item.is in
    let known : c.args.client < length before = omega (arith, length-recorded_all table (take i answers), ap length c.self.view_is) in
    rw more (elim c.if-answer-client.branch [
      | then-answer-client w ↦
          let mine : answer.client ≡ c.args.client = sym (ap (λ a. a.client) c.answer.view_is) ∙ w.if-answer-client.true in
          rw w.found-is (ap Some w.reply.ensures.value ∙ sym (ap (λ client. reply_in (last_of (recorded before client answer.timestamp answer.reply) c.args.client)) mine ∙ recorded_here before c.args.client answer.timestamp answer.reply known), w.reply.ensures.short)
      | else-answer-client w ↦
          let other = λ (is : c.args.client ≡ answer.client). w.if-answer-client.false (ap (λ a. a.client) c.answer.view_is ∙ sym is) in
          rw w.found-is (c.loop-answer.invariant.0 ∙ sym (recorded_elsewhere before c.args.client answer.client answer.timestamp answer.reply known other), c.loop-answer.invariant.1)
    ])
