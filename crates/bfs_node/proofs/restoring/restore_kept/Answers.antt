-- The state is read to the snapshot that was taken.
use Rattle.std.proofs.Common.{◌∙◌, ℕ, ap, ap₂}
use Rattle.bfs_checkpoints.specs.Keeping.{Kept}
use Rattle.bfs_checkpoints.specs.Snapshots.{Snapshot}
use Rattle.bfs_saving.specs.Saved.{SavedState}
use Rattle.bfs_node.proofs.restoring.restore_kept.Goals as goal

pub returns-in-Ok-clause-only : goal.returns-in-Ok-clause-only
returns-in-Ok-clause-only g c = λ kept taken is.
    let same = c.state.view_is ∙ is in
    let snapshot = c.in-Ok.ensures.only kept.snapshot taken (ap (λ (s : SavedState). s.text) same) in
    c.new.ensures ∙ ap₂ (λ (n : ℕ) (s : Snapshot). record { number = n; snapshot = s }) (ap (λ (s : SavedState). s.number) same) snapshot

pub returns-in-Err-clause-only : goal.returns-in-Err-clause-only
returns-in-Err-clause-only g c = λ kept taken is.
    let same = c.state.view_is ∙ is in
    c.in-Err.ensures.only kept.snapshot taken (ap (λ (s : SavedState). s.text) same)
