-- Calls of the code as they stand in the machine.
use Rattle.std.specs.Prelude.{ℕ, List, map, length}
use Rattle.std.specs.FinMap.{empty}
use Rattle.bfs_model.specs.Server.Tree.{Inodes}
use Rattle.bfs_model.specs.Server.Events.{Slot, waiting, taken, finished}
use Rattle.bfs_footprint.specs.Seen.{footprint_seen}
use Rattle.bfs_levels.specs.Parts.{first_requests}
use Rattle.bfs_levels.specs.declared.part.Part.{Part}
use Rattle.bfs_tree.specs.Slots.{Slots}
use Rattle.bfs_tree.specs.Tree.{at_home}
use Rattle.bfs_handover.specs.Loans.{put_in}
use Rattle.bfs_overtaking.specs.declared.calls.Call.{Call}
use Rattle.bfs_overtaking.specs.declared.calls.State.{State}
use Rattle.bfs_overtaking.specs.declared.calls.State.TheVariants.{Waiting, Taken, Finished}
use Rattle.bfs_overtaking.specs.Machine.{Machine, Standing, at_start}

abbrev pub slot_seen : State → Slot (List ℕ)
slot_seen Waiting = waiting
slot_seen (Taken loans) = taken (put_in loans empty)
slot_seen (Finished reply) = finished reply.items

abbrev pub standing_seen : Call → Standing
standing_seen call = record { footprint = footprint_seen call.footprint; slot = slot_seen call.state }

abbrev pub machine_seen : Part → Slots → List Call → Machine
machine_seen part tree calls = record {
  first = part.first;
  ordinal = part.ordinal;
  time = part.time;
  requests = first_requests part (length calls);
  home = at_home tree;
  standings = map standing_seen calls;
}

-- the machine of a part's first so many requests, all of which wait
abbrev pub start_of : Part → (count : ℕ) → Inodes → Machine
start_of part count inodes = at_start part.first part.ordinal part.time (first_requests part count) inodes
