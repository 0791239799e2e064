use Rattle.std.proofs.Common.{◌≡◌, ◌∙◌, ◌+◌, None, ap, get_or, arith}
use Rattle.std.specs.Prelude.{option_to_list}
use Rattle.std.specs.Option.{option_map}
use Rattle.std.proofs.lemmas.List.{get_or_default}
use Rattle.bfs_log.specs.Showing.{certificate_for, certificate_of}
use Rattle.bfs_log.proofs.Passed.{number_next, one_longer}
use Rattle.bfs_log.proofs.logs.Log.certificates.Goals as goal

pub loop-place-preserved : goal.loop-place-preserved
loop-place-preserved c =
    let table = c.in_ok-latest.latest.items in
    let place = c.loop-place.place in
    let many = c.in_ok-latest.ensures.as_many in
    let below = c.loop-place-test.true in
    let read : c.index.result.now ≡ get_or table place None = c.index.ensures ∙ get_or_default table place c.index.result.now None (omega arith) in
    let made = c.in_ok-certificate_of.ensures ∙ ap (option_map (certificate_of c.args.f c.args.self.now)) (read ∙ c.in_ok-latest.ensures.each place (omega arith)) in (
      number_next (certificate_for c.args.f c.args.me c.args.self.now) (c.args.low + 1) place _ _ _ c.in_ok-push_some.ensures c.loop-place.invariant.0 (ap option_to_list made),
      one_longer _ _ _ place c.in_ok-push_some.ensures c.loop-place.invariant.1,
    )
