use Rattle.std.proofs.Common.{◌∙◌, ◌++◌, sym, ap}
use Rattle.std.specs.Prelude.{option_to_list}
use Rattle.bfs_relay.specs.GivenKeys.{counter_for}
use Rattle.bfs_relay.proofs.Folding.{filter_map_more}
use Rattle.bfs_relay.proofs.given_keys.counters_of.Goals as goal

pub loop-keys-preserved : goal.loop-keys-preserved
loop-keys-preserved c =
    c.in_ok-add_counter.ensures ∙ ap (λ so_far. so_far ++ option_to_list (counter_for c.args.next c.keys-item.result)) c.loop-keys.invariant
    ∙ sym (filter_map_more (counter_for c.args.next) c.args.given.now c.loop-keys.keys-index c.keys-item.result c.loop-keys-test.true c.keys-item.is)
