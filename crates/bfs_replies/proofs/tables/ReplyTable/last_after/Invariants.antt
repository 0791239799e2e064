-- What was found is the client's reply after the answers so far.
use Rattle.std.proofs.Common.{◌≡◌, ◌≤◌, length, take}
use Rattle.std.specs.Prelude.{IfSome}
use Rattle.std.specs.Option.{option_map}
use Rattle.bfs_model.specs.Server.Limits.{most_reply_bytes}
use Rattle.bfs_replies.specs.Answers.{recorded_all}
use Rattle.bfs_replies.specs.Tables.{last_of}
use Rattle.bfs_replies.proofs.tables.ReplyTable.last_after.Given as goal

abbrev pub invariant-loop-answer : goal.invariant-loop-answer
invariant-loop-answer l =
    (option_map (λ reply. reply.now) l.found ≡ option_map (λ last. last.reply) (last_of (recorded_all l.self (take l.answer-index l.answers)) l.client))
    × IfSome l.found (λ reply. length reply.now ≤ most_reply_bytes)
