-- What holds of the entries of every directory, and of the two maps that keep them.
use Rattle.std.specs.Prelude.{◌≡◌, ◌≤◌, ℕ, List, Option, length, option_map}
use Rattle.std.specs.List.{AllByRecursion}
use Rattle.std.specs.Global.{Vec}
use Rattle.std.specs.BTreeMap.{is_at}
use Rattle.std.specs.Map.{lookup, values_of}
use Rattle.std.specs.Ordering.{nat_cmp}
use Rattle.std.specs.Cmp.Lexicographic.{slice_cmp}
use Rattle.bfs_model.specs.Server.Directories.{entry_named}
use Rattle.bfs_model.specs.Server.Limits.{most_entries}
use Rattle.bfs_model.specs.Server.Tree.{Entry, spent_ordinal}
use Rattle.bfs_model.specs.Server.WellFormed.{IsRising, NamesDiffer}

pub record AreEntries (entries : List Entry) : Type 0 where
  pub few : length entries ≤ most_entries
  -- their cookies rise
  pub rising : IsRising 0 entries spent_ordinal
  -- no two have one name
  pub differ : NamesDiffer entries

-- the cookie of a name in an index
abbrev pub cookie_of : (name : List ℕ) → List (Vec ℕ × ℕ) → Option ℕ
cookie_of name index = lookup (is_at (λ key. slice_cmp nat_cmp name key.items)) index

-- each entry stands at its own cookie, and the index has the cookies of the names
pub record AreIndexed (entries : List (ℕ × Entry)) (index : List (Vec ℕ × ℕ)) : Type 0 where
  pub own : AllByRecursion (λ pair. pair.0 ≡ pair.1.cookie) entries
  pub named : (name : List ℕ) → cookie_of name index ≡ option_map (λ entry. entry.cookie) (entry_named name (values_of entries))
