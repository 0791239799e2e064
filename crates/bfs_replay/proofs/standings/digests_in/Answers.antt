use Rattle.std.proofs.Common.{◌∙◌, ◌<◌, length, refl, ap, arith}
use Rattle.bfs_cluster.specs.declared.standings.Standing.TheVariants as standing
use Rattle.bfs_replay.specs.Runs.{digest_in}
use Rattle.bfs_replay.proofs.Telling.{none_given, one_given}
use Rattle.bfs_replay.proofs.standings.digests_in.Goals as goal
use Rattle.bfs_replay.proofs.standings.digests_in.Goals.{in-Digest+in_ok-push, in_default}

pub loop-standing-preserved : goal.loop-standing-preserved
loop-standing-preserved c =
    let within : c.loop-standing.standing-index < length c.args.standings.now = omega arith in
    elim c.match-standing.branch [
      | in-Digest+in_ok-push w ↦
          one_given digest_in c.args.standings.now c.loop-standing.standing-index _ (standing.Digest w.in-Digest.field-0 w.in-Digest.digest) w.in-Digest.digest
          c.loop-standing.digests.items c.match-standing.digests.items within w.in-Digest.is refl c.loop-standing.invariant
          (ap (λ all. all.items) w.digests-is ∙ w.in_ok-push.ensures.items)
      | in_default w ↦
          ap (λ all. all.items) w.digests-is
          ∙ none_given digest_in c.args.standings.now c.loop-standing.standing-index _ (standing.Behind w.in_default.field-0 w.in_default.field-1)
          c.loop-standing.digests.items within w.in_default.is refl c.loop-standing.invariant
    ]
