-- Inodes seen through a frame: a map of inodes to inodes that keeps what is there at some fileids, and lets through what is set at
-- some. What a step does to the inodes it does through every frame that is open where it writes.
use Rattle.std.proofs.Common.{◌≡◌, ℕ, Bool, true, false, List, Option, Some, None, Result, Ok, Err, if◌then◌else◌, refl, ap, ◌∙◌}
use Rattle.std.specs.Option.{option_map_or}
use Rattle.std.specs.FinMap.{get, insert, remove}
use Rattle.bfs_model.specs.Server.Tree.{Inode, Inodes}
use Rattle.bfs_model.specs.Server.Context.{Context}
use Rattle.bfs_model.specs.Bytes.Replies.{Status, refused}
use Rattle.bfs_model.specs.Server.Changes.{without_entry, with_parent, with_link, with_link_less, with_ctime, changed, link_lost_of, link_lost}
use Rattle.bfs_model.specs.Server.Refusals.{Outcome}
use Rattle.bfs_model.specs.Server.Procedures.{or_refused}
use Rattle.bfs_model.specs.Server.Procedures.Making.{with_name}
use Rattle.bfs_model.specs.Server.Procedures.Renaming.{Renaming, Replaced, moves_directory, name_lost, name_cleared, moved_below, renamed}
use Rattle.bfs_model.specs.Server.Conflicts.{set_at}
use Rattle.bfs_model.proofs.Attempts.{Alike}

-- a fileid at which a frame keeps what is there, and lets through what is set
pub record IsOpen (h : Inodes → Inodes) (id : ℕ) : Type 0 where
  pub gets : (m : Inodes) → get (h m) id ≡ get m id
  pub sets : (m : Inodes) (there : Option Inode) → set_at (h m) id there ≡ h (set_at m id there)

module _ (h : Inodes → Inodes) where
  abbrev pub framed : Outcome → Outcome
  framed outcome = (h outcome.0, outcome.1)

  -- what is refused alike, and else done through the frame, is so once refusals are replies
  pub alike_framed : (m : Inodes) (one other : Result Outcome Status) → Alike (λ outcome through. through ≡ framed outcome) one other → or_refused (h m) other ≡ framed (or_refused m one)
  alike_framed m (Ok outcome) (Ok through) alike = alike
  alike_framed m (Err status) (Err through) alike = ap (λ s. (h m, refused s)) alike
  alike_framed m (Ok outcome) (Err status) alike = absurd alike
  alike_framed m (Err status) (Ok outcome) alike = absurd alike

  -- Steps that are the same through the frame --------------------------------------------------------------------------

  abbrev pub IsFramed : (Inodes → Inodes) → Type 0
  IsFramed step = (m : Inodes) → step (h m) ≡ h (step m)

  pub then_framed : (first next : Inodes → Inodes) → IsFramed first → IsFramed next → IsFramed (λ m. next (first m))
  then_framed first next one two m = ap next (one m) ∙ two (first m)

  pub insert_framed : (id : ℕ) (inode : Inode) → IsOpen h id → IsFramed (λ m. insert m id inode)
  insert_framed id inode opens m = opens.sets m (Some inode)

  pub remove_framed : (id : ℕ) → IsOpen h id → IsFramed (λ m. remove m id)
  remove_framed id opens m = opens.sets m None

  -- what is done with the inode that is there, if there is one
  there_framed : (id : ℕ) (next : Inodes → Inode → Inodes) → ((inode : Inode) → IsFramed (λ m. next m inode)) → IsOpen h id → IsFramed (λ m. option_map_or (next m) (get m id) m)
  there_framed id next each opens m = ap (λ there. option_map_or (next (h m)) there (h m)) (opens.gets m) ∙ by_inode (get m id)
    where
      by_inode : (there : Option Inode) → option_map_or (next (h m)) there (h m) ≡ h (option_map_or (next m) there m)
      by_inode None = refl
      by_inode (Some inode) = each inode m

  pub changed_framed : (id : ℕ) (change : Inode → Inode) → IsOpen h id → IsFramed (λ m. changed m id change)
  unfolding changed
  changed_framed id change opens = there_framed id (λ m inode. insert m id (change inode)) (λ inode. insert_framed id (change inode) opens) opens

  lost_by : (c : Context) (id : ℕ) (inode : Inode) → IsOpen h id → (last : Bool) → IsFramed (λ m. if last then remove m id else insert m id (with_link_less c.time inode))
  lost_by c id inode opens true = remove_framed id opens
  lost_by c id inode opens false = insert_framed id (with_link_less c.time inode) opens

  pub link_lost_framed : (c : Context) (id : ℕ) → IsOpen h id → IsFramed (λ m. link_lost m c.time id)
  unfolding link_lost
  link_lost_framed c id opens = there_framed id (λ m inode. link_lost_of m c.time id inode) (λ inode. lost_by c id inode opens _) opens

  -- The steps of RENAME ------------------------------------------------------------------------------------------------

  name_lost_framed : (c : Context) (dir id : ℕ) → IsOpen h dir → IsOpen h id → (is_directory : Bool) → IsFramed (λ m. name_lost m c dir id is_directory)
  name_lost_framed c dir id opens goes true = then_framed _ _ (remove_framed id goes) (changed_framed dir (with_link_less c.time) opens)
  name_lost_framed c dir id opens goes false = link_lost_framed c id goes

  cleared_framed : (c : Context) (dir : ℕ) (name : List ℕ) (replaced : Option Replaced) → IsOpen h dir → ((x : Replaced) → replaced ≡ Some x → IsOpen h x.id) → IsFramed (λ m. name_cleared m c dir name replaced)
  cleared_framed c dir name None opens goes = λ m. refl
  cleared_framed c dir name (Some x) opens goes = then_framed _ _ (changed_framed dir (without_entry c.time name) opens) (name_lost_framed c dir x.id opens (goes x refl) x.is_directory)

  below_framed : (c : Context) (from to moved : ℕ) → IsOpen h from → IsOpen h to → IsOpen h moved → (moves : Bool) → IsFramed (λ m. moved_below m c from to moved moves)
  below_framed c from to moved open_from open_to goes false = λ m. refl
  below_framed c from to moved open_from open_to goes true =
      then_framed _ _ (changed_framed moved (with_parent to) goes) (then_framed _ _ (changed_framed to (with_link c.time) open_to) (changed_framed from (with_link_less c.time) open_from))

  pub renamed_framed : (c : Context) (from_name to_name : List ℕ) (r : Renaming) → IsOpen h r.from → IsOpen h r.to → IsOpen h r.moved → ((x : Replaced) → r.replaced ≡ Some x → IsOpen h x.id)
      → IsFramed (λ m. renamed m c from_name to_name r)
  renamed_framed c from_name to_name r open_from open_to goes replaced =
      then_framed _ _ (changed_framed r.from (without_entry c.time from_name) open_from)
      (then_framed _ _ (cleared_framed c r.to to_name r.replaced open_to replaced)
      (then_framed _ _ (below_framed c r.from r.to r.moved open_from open_to goes (moves_directory r))
      (then_framed _ _ (changed_framed r.to (with_name c to_name r.moved) open_to) (changed_framed r.moved (with_ctime c.time) goes))))
