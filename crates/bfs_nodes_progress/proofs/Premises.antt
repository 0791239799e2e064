-- The premises of the laws hold in a run.
use Rattle.std.proofs.Common.{◌≡◌, ◌+◌, ◌<◌, ◌≤◌, false, [], refl, arith}
use Rattle.bfs_votes.specs.Votes.{replicas}
use Rattle.bfs_agreement.specs.Examples.{silent}
use Rattle.bfs_progress.proofs.Public.{each_present, present_quorum}
use Rattle.bfs_nodes_progress.specs.Examples.{HoldBetweenViews, HoldInAView, HoldWhereAllAsk, one_proposal, three_timeouts}
use Rattle.bfs_nodes_progress.specs.Following.{asked_by}
use Rattle.bfs_nodes_progress.specs.Runs.{order_of, reached}
use Rattle.bfs_nodes_progress.proofs.Standing.{proposals_stand}

pub in_a_view : HoldInAView
in_a_view keys start time shared =
    let w = reached 1 keys start (one_proposal time) in (
      record { others = omega arith; shared = shared; few = omega arith; authentic = (tt, tt) },
      record {
        quorum = present_quorum 0 refl;
        entered = each_present (λ k. (order_of w k).view ≡ 0) refl refl refl;
        asked = each_present (λ k. (order_of w k).asked ≡ 0) refl refl refl;
      },
      record {
        low = each_present (λ k. (order_of w k).low < 1) (omega arith) (omega arith) (omega arith);
        min_s = each_present (λ k. (order_of w k).min_s < 1) (omega arith) (omega arith) (omega arith);
        high = each_present (λ k. 1 ≤ (order_of w k).low + 32) (omega arith) (omega arith) (omega arith);
      },
      proposals_stand (reached 1 keys start [] 0).node time refl,
    )

pub between_views : HoldBetweenViews
between_views keys start shared =
    let w = reached 1 keys start three_timeouts in (
      record { others = omega arith; shared = shared; few = omega arith; authentic = (tt, (tt, (tt, tt))) },
      record {
        quorum = present_quorum 1 refl;
        asked = each_present (λ k. (order_of w k).asked ≡ 1) refl refl refl;
        before = each_present (λ k. (order_of w k).view < 1) (omega arith) (omega arith) (omega arith);
      },
    )

pub where_all_ask : HoldWhereAllAsk
where_all_ask keys start shared =
    let w = reached 1 keys start three_timeouts in (
      record {
        enough = omega arith;
        correct = each_present (λ k. silent k ≡ false) refl refl refl;
        among = each_present (λ k. k < replicas 1) (omega arith) (omega arith) (omega arith);
      },
      record {
        enough = omega arith;
        among = λ k x. x;
        asked = each_present (λ k. 1 ≤ asked_by w k) (omega arith) (omega arith) (omega arith);
      },
      λ j k in_j _ less. let asked = each_present (λ k. asked_by w k ≡ 1) refl refl refl j in_j in absurd (omega (arith, asked, less)),
    )
