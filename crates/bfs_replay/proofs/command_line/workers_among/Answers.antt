use Rattle.std.proofs.Common.{◌≡◌, ◌∙◌, None, Some, rules, sym}
use Rattle.std.specs.Str.Parse.{ExplainsUnsignedError, HasUnsignedDigitsIfOk, ParsesUnsigned}
use Rattle.clap.specs.Words.{found_of}
use Rattle.bfs_replay.proofs.Counts.{none_among, some_among}
use Rattle.bfs_replay.proofs.command_line.workers_among.Goals as goal

pub returns-in_err-count : goal.returns-in_err-count
returns-in_err-count c =
    let none : c.get_one.result ≡ None = search rules in
    let empty : c.from_residual.result ≡ None = search rules in
    empty ∙ sym (none_among (λ bs r. ParsesUnsigned 32 10 bs r × ExplainsUnsignedError 10 bs r × HasUnsignedDigitsIfOk bs r)
    (found_of c.args.found.now) c.get_one.result (λ u x g. g.0) none c.get_one.ensures.value)

pub returns : goal.returns
returns c =
    let some : c.get_one.result ≡ Some c.in_ok-count.count = search rules in
    some_among (λ bs r. ParsesUnsigned 32 10 bs r × ExplainsUnsignedError 10 bs r × HasUnsignedDigitsIfOk bs r)
    (found_of c.args.found.now) c.get_one.result c.in_ok-count.count c.new.result (λ u x g. g.0) some
    c.get_one.ensures.none c.get_one.ensures.value c.new.ensures
