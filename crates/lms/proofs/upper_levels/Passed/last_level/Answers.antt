use Rattle.std.proofs.Common.{◌≡◌, ◌++◌, length, drop, sym, rules, arith}
use Rattle.std.proofs.lemmas.Bool.Decides.{Decides-eqb}
use Rattle.std.proofs.lemmas.Slice.Eq.{starts_is}
use Rattle.lms.proofs.Upper.{as_kept, same_key}
use Rattle.lms.proofs.upper_levels.Passed.last_level.Goals as goal

pub returns-then-starts_with-clause-some : goal.returns-then-starts_with-clause-some
returns-then-starts_with-clause-some c =
    let kept = c.args.self.now in
    let signature = c.args.signature.now in
    let same : kept.key ≡ c.args.key.now = same_key kept.key c.args.key.now (sym c.if-eq.ensures) in
    let begins : signature ≡ kept.front.items ++ drop (length kept.front.items) signature =
    (starts_is Decides-eqb signature kept.front.items c.starts_with.result (search rules)).0 (search rules) in
    as_kept kept.key c.args.key.now kept.last c.len.result kept.front.items signature kept.leads same (omega arith) begins
