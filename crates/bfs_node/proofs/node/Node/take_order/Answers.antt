-- The CHECKPOINTs that were copied are those that may make its number stable. No other message settles snapshots.
use Rattle.std.proofs.Common.{◌≡◌, ◌∙◌, ◌==◌, true, false, sym, rules}
use Rattle.bfs_log.specs.Headers.{header}
use Rattle.bfs_votes.specs.Tags.{checkpoint_tag}
use Rattle.bfs_node.specs.Nodes.{Node}
use Rattle.bfs_node.proofs.Stable.{accepted_checkpoint, certificate_at, checkpoint_now, news_taken, vote_now}
use Rattle.bfs_node.proofs.node.Node.take_order.Goals as goal

pub settle_at-requires : goal.settle_at-requires
settle_at-requires g c low =
    let order = c.self.inside.order in
    let signed = c.args.signed in
    let tag : ((header signed).tag == checkpoint_tag) ≡ true = search rules in
    let news = news_taken c.self.inside.keys order signed tag (sym c.refusal.ensures.value ∙ c.in_default.is) in
    certificate_at order signed c.accept.new.self c.number-number.result c.in_ok-stable.stable
    (c.in_ok-sent.ensures.now ∙ accepted_checkpoint c.self.inside.keys order signed news.checkpoint) news (rw (← c.self.view_is) at c.stable_if_due.ensures.differ)
    c.number-number.ensures.value
    (rw (← c.self.view_is) at c.in_ok-stable.ensures.made) low

pub returns-clause-now : goal.returns-clause-now
returns-clause-now g c =
    let node : Node = record { keys = c.self.inside.keys; order = c.self.inside.order; files = c.self.inside.files; table = c.self.inside.table; pending = c.self.inside.pending; changes = c.self.inside.changes; snapshots = c.self.inside.snapshots; new_view = c.self.inside.new_view } in
    let signed = c.args.signed in
    let tag : ((header signed).tag == checkpoint_tag) ≡ true = search rules in
    rw (← c.self.view_is)
    (c.settle_at.ensures
    ∙ checkpoint_now node signed c.accept.new.self c.number-number.result c.in_ok-stable.stable c.in_ok-sent.ensures.now
    (news_taken node.keys node.order signed tag (sym c.refusal.ensures.value ∙ c.in_default.is)) c.number-number.ensures.value
    (rw (← c.self.view_is) at c.in_ok-stable.ensures.made))

pub returns-then-tag-ne-CHECKPOINT_TAG-clause-now : goal.returns-then-tag-ne-CHECKPOINT_TAG-clause-now
returns-then-tag-ne-CHECKPOINT_TAG-clause-now g c =
    let node : Node = record { keys = c.self.inside.keys; order = c.self.inside.order; files = c.self.inside.files; table = c.self.inside.table; pending = c.self.inside.pending; changes = c.self.inside.changes; snapshots = c.self.inside.snapshots; new_view = c.self.inside.new_view } in
    let other : ((header c.args.signed).tag == checkpoint_tag) ≡ false = search rules in
    rw (← c.self.view_is) (vote_now node c.args.signed c.on_message.new.self c.in_ok-answers.ensures.now other)

pub returns-then-tag-ne-CHECKPOINT_TAG-clause-sent : goal.returns-then-tag-ne-CHECKPOINT_TAG-clause-sent
returns-then-tag-ne-CHECKPOINT_TAG-clause-sent g c = rw (← c.self.view_is) c.in_ok-answers.ensures.sent
