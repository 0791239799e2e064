use Rattle.std.proofs.Common.{◌≡◌, ◌++◌, take}
use Rattle.bfs_model.specs.Bytes.Items.{words}
use Rattle.bfs_xdr.proofs.writer.put_words.Given as goal

abbrev pub invariant-loop-number : goal.invariant-loop-number
invariant-loop-number l = l.out.items ≡ l.fn.out.items ++ words (take l.number-index l.numbers)
