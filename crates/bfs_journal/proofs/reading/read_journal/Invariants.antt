use Rattle.std.proofs.Common.{◌≡◌, ◌++◌, length}
use Rattle.std.specs.Prelude.{All, map}
use Rattle.bfs_journal.specs.Records.{IsBody, journal_of}
use Rattle.bfs_journal.proofs.reading.read_journal.Given as goal

abbrev pub invariant-loop-body : goal.invariant-loop-body
invariant-loop-body l = record {
  whole : l.bytes ≡ journal_of (map (λ body. body.now) l.bodies.items) ++ l.left;
  each : All IsBody (map (λ body. body.now) l.bodies.items);
}

abbrev pub decreases-loop-body : goal.decreases-loop-body
decreases-loop-body l = length l.left
