-- Footprints do not stay on inodes that are no tree: an entry that names nothing comes to name a new directory.
use Rattle.std.proofs.Common.{◌≡◌, [], ◌∷◌, Some, refl, codes}
use Rattle.bfs_model.specs.Server.Tree.{Inodes}
use Rattle.bfs_model.specs.Bytes.Arguments.{rename, make_directory}
use Rattle.bfs_model.specs.Server.Procedures.{procedure}
use Rattle.bfs_model.specs.Server.Footprints.{known, whole, footprint}
use Rattle.bfs_model.proofs.Maps.{inode_gets}
use Rattle.bfs_model.proofs.Runs.{under, unset, at, a_file, a_directory, the_root, entry, holding}

-- the root names `a`, an inode 9 that is not there, and two empty directories
abbrev dangling : Inodes
dangling = holding ((2, the_root 3 1 1 (entry 3 (codes "a") 9 ∷ [])) ∷ (3, a_directory 2 1 1 1 2 []) ∷ (4, a_directory 2 1 1 1 2 []) ∷ [])

before : footprint dangling (under 10 (at 1)) (rename (Some 2) (codes "a") (Some 3) (codes "b")) ≡ known [] (2 ∷ 3 ∷ 9 ∷ [])
before = simp inode_gets refl

-- MKDIR in 4 under the ordinal 9 writes 4 and 9, and neither 2 nor 3, in which RENAME resolves its names
written : footprint dangling (under 9 (at 1)) (make_directory (Some 4) (codes "x") unset) ≡ known [] (4 ∷ 9 ∷ [])
written = refl

after : footprint (procedure dangling (under 9 (at 1)) (make_directory (Some 4) (codes "x") unset)).0 (under 10 (at 1)) (rename (Some 2) (codes "a") (Some 3) (codes "b")) ≡ whole
after = simp inode_gets refl

-- nor where an ordinal is not fresh: MKDIR puts a directory in the place of a file
abbrev taken : Inodes
taken = holding ((2, the_root 4 1 1 (entry 3 (codes "c") 3 ∷ entry 4 (codes "d") 4 ∷ entry 5 (codes "a") 9 ∷ [])) ∷ (3, a_directory 2 1 1 1 2 []) ∷ (4, a_directory 2 1 1 1 2 []) ∷ (9, a_file 1 1 1 1 []) ∷ [])

before_it : footprint taken (under 10 (at 1)) (rename (Some 2) (codes "a") (Some 3) (codes "b")) ≡ known [] (2 ∷ 3 ∷ 9 ∷ [])
before_it = simp inode_gets refl

after_it : footprint (procedure taken (under 9 (at 1)) (make_directory (Some 4) (codes "x") unset)).0 (under 10 (at 1)) (rename (Some 2) (codes "a") (Some 3) (codes "b")) ≡ whole
after_it = simp inode_gets refl
