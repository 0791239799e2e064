-- VIEW-CHANGEs that choose no more batches than stand between the marks.
use Rattle.std.specs.Prelude.{◌+◌, ◌≤◌, List, length, All, Option, Some, None}
use Rattle.bfs_model.specs.Server.Limits.{most_replicas, log_size}
use Rattle.bfs_messages.specs.Messages.{ViewChange}
use Rattle.bfs_messages.specs.declared.signed.Signed.{Signed}
use Rattle.bfs_view_change.specs.Changes.Choice.{last_in}
use Rattle.bfs_view_change.specs.Changes.Keeping.{Kept}

-- it has no certificate beyond the window above its stable number
abbrev pub IsNear : ViewChange → Type 0
IsNear change = last_in change ≤ change.stable + log_size

abbrev pub AreNear : List (Signed ViewChange) → Type 0
AreNear changes = All (λ s. IsNear s.message) changes

abbrev pub IsNearIfKept : Option (Signed ViewChange) → Type 0
IsNearIfKept None = Unit {0}
IsNearIfKept (Some s) = IsNear s.message

-- at most one of each replica, and each near
pub record AreFew (kept : Kept) : Type 0 where
  pub few : length kept.changes ≤ most_replicas
  pub near : All IsNearIfKept kept.changes
