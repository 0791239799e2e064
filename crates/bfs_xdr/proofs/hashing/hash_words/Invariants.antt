use Rattle.std.proofs.Common.{ℕ, List, ◌++◌, take}
use Rattle.sha2.specs.Hashers.{Holds256}
use Rattle.bfs_model.specs.Bytes.Items.{words}
use Rattle.bfs_xdr.proofs.hashing.hash_words.Given as goal

abbrev pub invariant-loop-number : goal.invariant-loop-number
invariant-loop-number l = (m : List ℕ) → Holds256 l.fn.hasher m → Holds256 l.hasher (m ++ words (take l.number-index l.numbers))
