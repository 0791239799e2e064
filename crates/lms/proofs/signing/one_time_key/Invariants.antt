use Rattle.std.proofs.Common.{◌++◌}
use Rattle.sha2.specs.Hashers.{Holds256}
use Rattle.lms.specs.Chains.{front, joined, one_time_key_kind}
use Rattle.lms.specs.Secrets.{end_of}
use Rattle.lms.proofs.signing.one_time_key.Given as goal

abbrev pub invariant-loop-chain : goal.invariant-loop-chain
invariant-loop-chain l = Holds256 l.hasher (front l.key.id l.leaf one_time_key_kind ++ joined (end_of l.key l.leaf) l.chain)
