-- What a replica keeps of the VIEW-CHANGEs that come to it, and its own last one (OSDI 1999 section 4.4). Of each sender there is at most one, for a view that the keeper
-- leads: a sender that asks for view after view takes no more room.
use Rattle.std.specs.Prelude.{ℕ, ◌==◌, Bool, List, [], ◌∷◌, filter, fold, length, map, min, replicate, get_or, slice_set, Option, Some, None, nat_le, nat_lt, if◌then◌else◌}
use Rattle.std.specs.List.{filter_map}
use Rattle.bfs_votes.specs.Votes.{replicas}
use Rattle.bfs_messages.specs.Messages as model
use Rattle.bfs_messages.specs.declared.signed.Signed.{Signed}

pub record Kept : Type 0 where
  -- by their senders: the highest view that one has asked for, 0 where it has asked for none
  pub asked : List ℕ
  -- by their senders: the last one for a view that the keeper leads
  pub changes : List (Option (Signed model.ViewChange))
  -- the one that the keeper has sent last
  pub own : Option (Signed model.ViewChange)

abbrev pub nothing_kept : (f : ℕ) → Kept
nothing_kept f = record { asked = replicate (replicas f) 0; changes = replicate (replicas f) None; own = None }

-- its sender has asked for that view, or for a later one
abbrev pub was_asked : Kept → model.ViewChange → Bool
was_asked kept change = nat_le change.view (get_or kept.asked change.sender 0)

-- the views above one that replicas have asked for
abbrev pub asked_above : Kept → (view : ℕ) → List ℕ
asked_above kept view = filter (nat_lt view) kept.asked

abbrev pub least_of : List ℕ → Option ℕ
least_of [] = None
least_of (view ∷ views) = Some (fold min view views)

-- the least view above one for which so many replicas ask, or for a later one (OSDI 1999 section 4.5.2)
abbrev pub least_asked : Kept → (view count : ℕ) → Option ℕ
least_asked kept view count = if nat_le count (length (asked_above kept view)) then least_of (asked_above kept view) else None

-- of a view that another replica leads
abbrev pub with_asked : Kept → model.ViewChange → Kept
with_asked kept change = record kept { asked = slice_set kept.asked change.sender change.view }

-- of a view that the keeper leads: in the place of its sender's last one
abbrev pub with_change : Kept → Signed model.ViewChange → Kept
with_change kept s = record (with_asked kept s.message) { changes = slice_set kept.changes s.message.sender (Some s) }

-- the keeper has sent it
abbrev pub with_own : Kept → Signed model.ViewChange → Kept
with_own kept s = record kept { own = Some s }

abbrev pub if_for : (view : ℕ) → Option (Signed model.ViewChange) → Option (Signed model.ViewChange)
if_for view None = None
if_for view (Some s) = if s.message.view == view then Some s else None

-- by rising senders
abbrev pub changes_for : (view : ℕ) → Kept → List (Signed model.ViewChange)
changes_for view kept = filter_map (if_for view) kept.changes

abbrev pub if_above : (view : ℕ) → Option (Signed model.ViewChange) → Option (Signed model.ViewChange)
if_above view None = None
if_above view (Some s) = if nat_lt view s.message.view then Some s else None

-- those for views that were entered or passed go
abbrev pub above_view : (view : ℕ) → Kept → Kept
above_view view kept = record kept { changes = map (if_above view) kept.changes }

-- what was kept of a sender before
abbrev pub put_back : Kept → (sender asked : ℕ) → Option (Signed model.ViewChange) → Kept
put_back kept sender asked change = record kept { asked = slice_set kept.asked sender asked; changes = slice_set kept.changes sender change }
