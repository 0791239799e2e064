use Rattle.std.proofs.Common.{◌≡◌, ◌++◌, drop}
use Rattle.bfs_model.specs.Bytes.Items.{words}
use Rattle.bfs_trace.proofs.buffer.Buffer.push_words.Given as goal

-- the bytes so far, with those of the words that are left
abbrev pub invariant-loop-number : goal.invariant-loop-number
invariant-loop-number l = l.self ++ words (drop l.number-index l.numbers) ≡ l.fn.self ++ words l.numbers
