use Rattle.std.proofs.Common.{◌≡◌, ◌++◌}
use Rattle.lms.specs.Chains.{joined}
use Rattle.lms.specs.Secrets.{signed_value}
use Rattle.lms.proofs.signing.put_values.Given as goal

abbrev pub invariant-loop-chain : goal.invariant-loop-chain
invariant-loop-chain l = l.out.items ≡ l.fn.out.items ++ joined (signed_value l.key l.leaf l.hash) l.chain
