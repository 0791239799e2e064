-- The marks by which a call's level is found from its own fileids.
use Rattle.std.specs.Prelude.{◌≡◌, ℕ, nat_eq, Bool, true, false, ◌||◌, max, List, [], ◌∷◌, length, ◌≤◌, unwrap_or, if◌then◌else◌}
use Rattle.std.specs.HashMap.{HashMap, get}
use Rattle.bfs_model.specs.Server.Footprints.{Footprint, known, whole}
use Rattle.bfs_model.specs.Server.Conflicts.{among}
use Rattle.bfs_model.specs.Server.Conflicts.{is_whole}
use Rattle.bfs_levels.specs.Planning.{height, level_behind}
use Rattle.bfs_levels.specs.declared.marks.Mark.{Mark}
use Rattle.bfs_levels.specs.declared.marks.Marks.{Marks}

-- the calls of which the footprint is known, and holds that fileid
abbrev pub names_written : Footprint → ℕ → Bool
names_written (known reads writes) id = among writes id
names_written whole id = false

abbrev pub names_touched : Footprint → ℕ → Bool
names_touched (known reads writes) id = among reads id || among writes id
names_touched whole id = false

abbrev pub no_mark : Mark
no_mark = record { written = 0; touched = 0 }

abbrev pub mark_at : {S : Type 0} → HashMap ℕ Mark S → ℕ → Mark
mark_at marks id = unwrap_or (get nat_eq marks id) no_mark

abbrev pub higher : Mark → Mark → Mark
higher mark other = record { written = max mark.written other.written; touched = max mark.touched other.touched }

abbrev pub raised : Mark → Bool → Mark → Mark
raised by is_raised mark = if is_raised then higher mark by else mark

-- the highest of a mark and those at fileids
abbrev pub highest_at : {S : Type 0} → HashMap ℕ Mark S → Mark → List ℕ → Mark
highest_at marks mark [] = mark
highest_at marks mark (id ∷ ids) = highest_at marks (higher mark (mark_at marks id)) ids

-- the marks tell how high the calls so far stand that write, or touch, each inode
pub record IsMarked (marks : Marks) (earlier : List (Footprint × ℕ)) : Type 0 where
  pub written : (id : ℕ) → (mark_at marks.by_id id).written ≡ height (λ footprint. names_written footprint id) earlier
  pub touched : (id : ℕ) → (mark_at marks.by_id id).touched ≡ height (λ footprint. names_touched footprint id) earlier
  pub whole : marks.whole ≡ height is_whole earlier
  pub any : marks.any ≡ height (λ footprint. true) earlier
  pub low : height (λ footprint. true) earlier ≤ length earlier

-- calls with their levels, the last first
abbrev pub levelled_behind : (earlier : List (Footprint × ℕ)) → List Footprint → List (Footprint × ℕ)
levelled_behind earlier [] = earlier
levelled_behind earlier (footprint ∷ footprints) = levelled_behind ((footprint, level_behind earlier footprint) ∷ earlier) footprints

abbrev pub levelled : List Footprint → List (Footprint × ℕ)
levelled footprints = levelled_behind [] footprints
