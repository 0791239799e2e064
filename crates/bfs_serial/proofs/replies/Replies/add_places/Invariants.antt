use Rattle.std.proofs.Common.{◌≡◌, ◌+◌, ◌≤◌, [], ◌++◌, replicate, vec_len, vec_capacity}
use Rattle.bfs_serial.proofs.replies.Replies.add_places.Given as goal

abbrev pub invariant-loop : goal.invariant-loop
invariant-loop l = record {
  made : l.self-inside.replies.items ≡ l.fn.self ++ replicate l.counter [];
  room : vec_len l.self-inside.replies + l.more ≤ vec_capacity l.self-inside.replies + l.counter;
}
