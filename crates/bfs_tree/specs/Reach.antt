-- Which fileids a store knows, and which it may change.
use Rattle.std.specs.Prelude.{ℕ, Bool, List, IsTrue}
use Rattle.std.specs.List.{AllByRecursion}
use Rattle.bfs_model.specs.Server.Tree.{Inodes}
use Rattle.bfs_model.specs.Server.Footprints as model

pub record Reach : Type 0 where
  -- those that it answers for
  pub known : ℕ → Bool
  -- those of them that it may change
  pub owned : ℕ → Bool
  -- whether these are all
  pub whole : Bool
  -- the fileids whose inodes it was handed, and the inodes that it borrows for the others, where it is no tree: both stay
  pub handed : List ℕ
  pub borrowed : Inodes

-- the store answers for all that a call reads, and may change all that it writes
abbrev pub Knows : Reach → model.Footprint → Type 0
Knows reach (model.known reads writes) = AllByRecursion (λ id. IsTrue (reach.known id)) reads × AllByRecursion (λ id. IsTrue (reach.owned id)) writes
Knows reach model.whole = IsTrue reach.whole
