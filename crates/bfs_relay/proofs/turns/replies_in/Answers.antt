use Rattle.std.proofs.Common.{◌∙◌, ◌++◌, sym, ap}
use Rattle.std.specs.Prelude.{option_to_list}
use Rattle.bfs_relay.specs.Turns.{reply_in}
use Rattle.bfs_relay.proofs.Folding.{filter_map_more}
use Rattle.bfs_relay.proofs.turns.replies_in.Goals as goal

pub loop-frame-preserved : goal.loop-frame-preserved
loop-frame-preserved c =
    c.in_ok-add_reply.ensures ∙ ap (λ so_far. so_far ++ option_to_list (reply_in c.frame-item.result)) c.loop-frame.invariant
    ∙ sym (filter_map_more reply_in c.args.frames.now c.loop-frame.frame-index c.frame-item.result c.loop-frame-test.true c.frame-item.is)
