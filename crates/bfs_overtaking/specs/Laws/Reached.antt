-- A machine as the world of the overtaking law, and that events of a group have led to it.
use Rattle.std.specs.Prelude.{◌≡◌, ℕ, ◌+◌, ◌-◌, List, map}
use Rattle.bfs_model.specs.Server.Tree.{Inodes}
use Rattle.bfs_model.specs.Server.Groups.{footprints_at}
use Rattle.bfs_model.specs.Server.Events.{World}
use Rattle.bfs_model.specs.Server.Events as model
use Rattle.bfs_model.specs.Laws.Overtaking.{EventsLead, IsGroup}
use Rattle.bfs_overtaking.specs.declared.events.Event.{Event}
use Rattle.bfs_overtaking.specs.declared.events.Event.TheVariants.{Take, Finish}
use Rattle.bfs_overtaking.specs.Machine.{Machine, standing_at}

abbrev pub world_of : Machine → World (List ℕ)
world_of machine = record { home = machine.home; slots = λ place. (standing_at machine.standings place).slot }

-- an event by the place of its call in the group
abbrev pub event_at : (first : ℕ) → Event → model.Event
event_at first (Take number) = model.Take (number - first)
event_at first (Finish number) = model.Finish (number - first)

-- and by the number of its call in the batch
abbrev pub event_from : (first : ℕ) → model.Event → Event
event_from first (model.Take place) = Take (first + place)
event_from first (model.Finish place) = Finish (first + place)

-- the calls are those of a group, planned on some inodes, and events have led from there to how they stand
pub record IsReached (machine : Machine) : Type 0 where
  pub start : Inodes
  pub events : List model.Event
  pub group : IsGroup (record { tree = start; next_ordinal = machine.ordinal; last_time = machine.time }) machine.time machine.requests
  pub footprints : map (λ standing. standing.footprint) machine.standings ≡ footprints_at start machine.ordinal machine.time machine.requests
  pub lead : EventsLead start machine.ordinal machine.time machine.requests events (world_of machine)
