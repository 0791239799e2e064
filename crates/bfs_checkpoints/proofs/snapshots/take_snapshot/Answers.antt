-- Text and digest are of one state.
use Rattle.std.proofs.Common.{◌≡◌, ◌++◌, Some, ap, subst, ◌∙◌}
use Rattle.std.specs.Option.{ForSome, option_map}
use Rattle.bfs_model.specs.Server.Stored.{IsLive}
use Rattle.sha2.specs.Sha256.{sha256}
use Rattle.bfs_replies.specs.Texts.{table_text}
use Rattle.bfs_checkpoints.specs.Snapshots.{snapshot_of}
use Rattle.bfs_checkpoints.proofs.Taken.{is_taken, taken}
use Rattle.bfs_checkpoints.proofs.snapshots.take_snapshot.Goals as goal

pub invariant_of-result : goal.invariant_of-result
invariant_of-result g c =
    let hashed = c.digest_with-digest.ensures ∙ ap (λ digest. sha256 (digest ++ table_text c.in-Ok.table)) c.digest.ensures in
    is_taken c.args.files.now c.in-Ok.table _ (subst (λ files. ForSome files IsLive) c.freeze.ensures.stays c.are_live.ensures) c.is_kept.ensures (taken c.args.files.now c.in-Ok.table c.in_ok-frozen.frozen c.digest_with-digest.result c.in_ok-frozen.ensures.value hashed)

pub returns-clause-value : goal.returns-clause-value
returns-clause-value g c =
    let hashed = c.digest_with-digest.ensures ∙ ap (λ digest. sha256 (digest ++ table_text c.in-Ok.table)) c.digest.ensures in
    subst (λ table. option_map (λ live. snapshot_of live table) c.args.files.now ≡ Some (record { text = table_text c.in-Ok.table ++ c.in_ok-frozen.frozen.text; digest = c.digest_with-digest.result })) c.in-Ok.ensures
    (taken c.args.files.now c.in-Ok.table c.in_ok-frozen.frozen c.digest_with-digest.result c.in_ok-frozen.ensures.value hashed)
