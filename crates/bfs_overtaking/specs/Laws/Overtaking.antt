-- Calls of a group overtake each other as the model says, and leave and reply what they do in the batch's order.
use Rattle.std.specs.Prelude.{◌≡◌, ℕ, IsTrue, List, drop, map, Ok}
use Rattle.bfs_model.specs.Server.Tree.{Time, Inodes, FileSystem}
use Rattle.bfs_model.specs.Server.Serial.{inodes_after, replies_to}
use Rattle.bfs_model.specs.Server.Events.{finished, World}
use Rattle.bfs_model.specs.Server.Events as model
use Rattle.bfs_model.specs.Laws.Overtaking.{EventsLead, IsGroup}
use Rattle.bfs_model.specs.Server.WellFormed.{IsWellFormed}
use Rattle.bfs_levels.specs.Planning.{group_length}
use Rattle.bfs_overtaking.specs.declared.events.Event.{Event}
use Rattle.bfs_overtaking.specs.Machine.{Machine, at_start, played, is_complete}
use Rattle.bfs_overtaking.specs.Laws.Reached.{world_of, event_at, event_from}
use Rattle.bfs_levels.specs.Requests.{requests_from}

-- events that are accepted lead, in the model, to the world of the calls as they then stand
abbrev pub EventsAreSteps : Type 0
EventsAreSteps = (first ordinal : ℕ) (time : Time) (requests : List (List ℕ)) (inodes : Inodes) (events : List Event) (last : Machine)
    → played events (at_start first ordinal time requests inodes) ≡ Ok last → EventsLead inodes ordinal time requests (map (event_at first) events) (world_of last)

-- the requests that `plan_group` plans on a well-formed file system, from a place of a batch on, are a group
abbrev pub PlansAreGroups : Type 0
PlansAreGroups = (files : FileSystem) (time : Time) (batch : List (List ℕ)) (first count : ℕ) → IsWellFormed files → count ≡ group_length files.tree files.next_ordinal time (drop first batch)
    → IsGroup files time (requests_from first count batch)

-- and whatever events lead anywhere in the model are accepted, and lead to the same world
abbrev pub StepsAreAccepted : Type 0
StepsAreAccepted = (files : FileSystem) (time : Time) (requests : List (List ℕ)) → IsGroup files time requests
    → (first : ℕ) (events : List model.Event) (world : World (List ℕ)) → EventsLead files.tree files.next_ordinal time requests events world
    → (last : Machine) × (played (map (event_from first) events) (at_start first files.next_ordinal time requests files.tree) ≡ Ok last) × (world_of last ≡ world)

-- whatever the events by which all calls of a group are finished, the inodes and the replies are those of the batch's order
abbrev pub EventsOvertake : Type 0
EventsOvertake = (files : FileSystem) (time : Time) (requests : List (List ℕ)) → IsGroup files time requests
    → (first : ℕ) (events : List Event) (last : Machine) → played events (at_start first files.next_ordinal time requests files.tree) ≡ Ok last → IsTrue (is_complete last)
    → (last.home ≡ inodes_after files.tree files.next_ordinal time requests) × (map (λ standing. standing.slot) last.standings ≡ map finished (replies_to files.tree files.next_ordinal time requests))
