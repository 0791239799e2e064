-- Which VIEW-CHANGEs may be kept, as a test.
use Rattle.std.specs.Prelude.{◌+◌, Bool, true, ◌&&◌, List, length, Option, Some, None, nat_le}
use Rattle.std.specs.List.{list_all}
use Rattle.bfs_model.specs.Server.Limits.{most_replicas, log_size}
use Rattle.bfs_messages.specs.Messages.{ViewChange}
use Rattle.bfs_messages.specs.declared.signed.Signed.{Signed}
use Rattle.bfs_view_change.specs.Changes.Choice.{last_in}

-- it has no certificate beyond the window above its stable number
abbrev pub is_near : ViewChange → Bool
is_near change = nat_le (last_in change) (change.stable + log_size)

abbrev pub is_near_if_kept : Option (Signed ViewChange) → Bool
is_near_if_kept None = true
is_near_if_kept (Some s) = is_near s.message

-- at most one of each replica, and each near
abbrev pub are_few : List (Option (Signed ViewChange)) → Bool
are_few changes = nat_le (length changes) most_replicas && list_all is_near_if_kept changes
