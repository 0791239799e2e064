use Rattle.std.proofs.Common.{◌∙◌, sym, arith}
use Rattle.bfs_pending.proofs.Counts.{counted_behind}
use Rattle.bfs_pending.proofs.Lasts.{pushed}
use Rattle.bfs_pending.proofs.waiting.PendingRequests.push.Goals as goal

pub invariant_of-self-in-Ok : goal.invariant_of-self-in-Ok
invariant_of-self-in-Ok c = (
  record {
    few = omega (arith, c.in_ok-push.ensures.len, rw (← c.self.view_is) at c.requires);
    lasts =
        rw c.in_ok-push.ensures.items
        (pushed c.self.inside.requests.items c.args.signed c.self.inside.last c.add_one.new.last c.self.invariant.0.lasts
        (rw (c.name_of-name.ensures, c.in_ok-copy.ensures) at c.in-Ok.ensures.found));
    counts_are =
        rw c.in_ok-push.ensures.items (λ client.
        c.in-Ok.ensures.more client
        ∙ rw c.name_of-name.ensures (rw (c.self.invariant.0.counts_are client) (sym (counted_behind client c.self.inside.requests.items c.args.signed))));
  },
  tt,
)
