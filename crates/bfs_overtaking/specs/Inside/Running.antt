-- What the core keeps of its tree and its calls.
use Rattle.std.specs.Prelude.{◌≡◌, ℕ, ⊤, List, [], is_some, All}
use Rattle.std.specs.List.{list_any}
use Rattle.std.specs.FinMap.{get}
use Rattle.bfs_model.specs.Server.Footprints.{Footprint}
use Rattle.bfs_model.specs.Server.Conflicts.{among}
use Rattle.bfs_model.specs.Server.Shares.{moved_for}
use Rattle.bfs_footprint.specs.Seen.{footprint_seen}
use Rattle.bfs_tree.specs.Slots.{Slots}
use Rattle.bfs_tree.specs.Tree.{lent}
use Rattle.bfs_handover.specs.Loans.{ids_of}
use Rattle.bfs_handover.specs.Moves.{AreDistinct}
use Rattle.bfs_overtaking.specs.declared.calls.Call.{Call}
use Rattle.bfs_overtaking.specs.declared.calls.State.{State}
use Rattle.bfs_overtaking.specs.declared.calls.State.TheVariants.{Waiting, Taken, Finished}
use Rattle.bfs_overtaking.specs.declared.claims.Claims.{Claims}
use Rattle.bfs_overtaking.specs.Inside.Claims.{AreClaimed}
use Rattle.bfs_overtaking.specs.Machine.{Machine}
use Rattle.bfs_overtaking.specs.Laws.Reached.{IsReached}

-- the fileids that are lent out for a call
abbrev pub lent_for : State → List ℕ
lent_for Waiting = []
lent_for (Taken loans) = ids_of loans
lent_for (Finished reply) = []

-- a call that is under way has the inodes that it writes
abbrev pub HasItsOwn : Footprint → State → Type 0
HasItsOwn footprint Waiting = ⊤
HasItsOwn footprint (Taken loans) = AreDistinct (ids_of loans) × ((id : ℕ) → among (ids_of loans) id ≡ among (moved_for footprint) id)
HasItsOwn footprint (Finished reply) = ⊤

abbrev pub OwnsWritten : Call → Type 0
OwnsWritten call = HasItsOwn (footprint_seen call.footprint) call.state

-- what is lent out is with the calls that are under way
pub record IsRunning (tree : Slots) (calls : List Call) (machine : Machine) : Type 0 where
  pub reached : IsReached machine
  pub out : (id : ℕ) → is_some (get (lent tree) id) ≡ list_any (λ (call : Call). among (lent_for call.state) id) calls
  pub own : All OwnsWritten calls

-- and the claims are those of the calls that are not finished
pub record IsKept (tree : Slots) (calls : List Call) (claims : Claims) (machine : Machine) : Type 0 where
  pub running : IsRunning tree calls machine
  pub claimed : AreClaimed claims machine.standings
