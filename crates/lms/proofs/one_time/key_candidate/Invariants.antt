use Rattle.std.proofs.Common.{◌++◌}
use Rattle.sha2.specs.Hashers.{Holds256}
use Rattle.lms.specs.Chains.{front, joined, one_time_key_kind}
use Rattle.lms.specs.OneTime.{end_from}
use Rattle.lms.proofs.one_time.key_candidate.Given as goal

abbrev pub invariant-loop-chain : goal.invariant-loop-chain
invariant-loop-chain l = Holds256 l.hasher (front l.id l.leaf one_time_key_kind ++ joined (end_from l.ots l.id l.leaf l.hash l.values) l.chain)
