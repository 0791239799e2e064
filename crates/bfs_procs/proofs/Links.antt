-- How many links an inode has once a directory has an entry more.
use Rattle.std.proofs.Common.{◌≡◌, ℕ, ◌<◌, List, Some, refl}
use Rattle.std.specs.Option.{ForSome}
use Rattle.std.specs.FinMap.{get}
use Rattle.bfs_model.specs.Server.Limits.{most_links}
use Rattle.bfs_model.specs.Server.Tree.{Inode, Inodes}
use Rattle.bfs_model.specs.Server.Context.{Context}
use Rattle.bfs_model.specs.Server.Changes.{changed}
use Rattle.bfs_model.specs.Server.Procedures.Making.{with_name}
use Rattle.bfs_model.proofs.Public.{at_changed, at_found}

-- one that had fewer than the most still has
pub few_links : (m : Inodes) (c : Context) (name : List ℕ) (child dir id : ℕ) (x : Inode) → get m id ≡ Some x → x.links < most_links → ForSome (get (changed m dir (with_name c name child)) id) (λ inode. inode.links < most_links)
few_links m c name child dir id x there few =
    let HasLink : Inode → Type 0 = λ inode. inode.links < most_links in
    λ inode is. at_changed id HasLink m (at_found HasLink m id x there few) dir (with_name c name child) (λ y lt. lt) id inode is refl
