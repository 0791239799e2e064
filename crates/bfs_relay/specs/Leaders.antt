-- Which replica is asked first: the one that leads the view in which the replicas are, as far as their replies tell (OSDI 1999 section 4.1).
use Rattle.std.specs.Prelude.{ℕ, Bool, true, false, List, Option, Some, None, count_by, filter, fold, max, nat_le, nat_lt, replicate, slice_get, slice_set, if◌then◌else◌}
use Rattle.bfs_model.specs.Server.Limits.{most_faults, most_replicas}
use Rattle.bfs_votes.specs.Votes.{primary}
use Rattle.bfs_clients.specs.Clients.{Clients}
use Rattle.bfs_clients.specs.Tallies.{is_signed_reply}
use Rattle.bfs_frames.specs.declared.parcels.To.{To}
use Rattle.bfs_frames.specs.declared.parcels.To.TheVariants.{Replica, Replicas}
use Rattle.bfs_messages.specs.declared.message.Message.{Message}
use Rattle.bfs_messages.specs.declared.message.Message.TheVariants.{Reply}
use Rattle.bfs_messages.specs.declared.signed.Signed.{Signed}

-- What replicas told ---------------------------------------------------------------------------------------------------

-- the latest view that each replica told, by its number; none has told one yet
abbrev pub no_views : List ℕ
no_views = replicate most_replicas 0

abbrev pub later_view : Option ℕ → (sender view : ℕ) → List ℕ → List ℕ
later_view None sender view views = views
later_view (Some told) sender view views = slice_set views sender (max told view)

-- a replica tells a view; one that comes late counts for nothing
abbrev pub with_view : (sender view : ℕ) → List ℕ → List ℕ
with_view sender view views = later_view (slice_get views sender) sender view views

abbrev pub views_as : Message → (is_signed : Bool) → List ℕ → List ℕ
views_as (Reply reply) true views = with_view reply.sender reply.view views
views_as (Reply reply) false views = views
views_as _ is_signed views = views

-- by a REPLY that its sender signed for its client
abbrev pub views_told : Clients → Signed Message → List ℕ → List ℕ
views_told clients signed views = views_as signed.message (is_signed_reply clients signed) views

-- Who leads ------------------------------------------------------------------------------------------------------------

-- so many replicas are in that view or a later one that one of them is correct
abbrev pub is_reached : (f : ℕ) → List ℕ → (view : ℕ) → Bool
is_reached f views view = nat_lt f (count_by (λ told. nat_le view told) views)

-- the latest of the views that f + 1 replicas have reached: f liars alone can't raise it, nor hold it down where the others tell a later one
abbrev pub view_reached : (f : ℕ) → List ℕ → ℕ
view_reached f views = fold max 0 (filter (is_reached f views) views)

-- it goes to one replica, or to all
abbrev pub IsToReplicas : To → Type 0
IsToReplicas Replicas = Unit {0}
IsToReplicas (Replica number) = Unit {0}
IsToReplicas _ = ⊥

-- the primary of that view; all replicas, where there are more of them than there can be
abbrev pub leader : (f : ℕ) → List ℕ → To
leader f views = if nat_le f most_faults then Replica (primary f (view_reached f views)) else Replicas
