use Rattle.bfs_view_change.proofs.Made.{made_valid, made_valid_after}
use Rattle.bfs_view_change.proofs.laws.made_is_valid.Goals as goal

pub returns : goal.returns
returns c =
    let state = made_valid c.what_is_signed_passes.ensures.replicas in
    record {
      state = state;
      calls = made_valid_after state c.a_replica_stays_itself.ensures c.logs_are_clean.ensures.always c.slots_differ.ensures.always c.the_stable_checkpoint_has_its_certificate.ensures.always c.views_are_entered.ensures.always;
    }
