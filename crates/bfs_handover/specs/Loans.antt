-- Inodes on the way between a tree and the jobs that they are handed to.
use Rattle.std.specs.Prelude.{ℕ, false, not, ◌==◌, ◌||◌, ⊤, List, [], ◌∷◌, map, Option, None, is_some, if◌then◌else◌}
use Rattle.std.specs.Ordering.{nat_cmp}
use Rattle.std.specs.FinMap.{FinMap, get}
use Rattle.bfs_model.specs.Server.Tree.{Inode, Inodes}
use Rattle.bfs_model.specs.Server.Conflicts.{among, set_at}
use Rattle.bfs_tree.specs.Reach.{Reach}
use Rattle.bfs_handover.specs.declared.loans.Loan.{Loan}

-- the fileids that were handed out
abbrev pub ids_of : List Loan → List ℕ
ids_of loans = map (λ loan. loan.id) loans

-- what was handed out of a fileid
abbrev pub loaned : List Loan → (id : ℕ) → Option Inode
loaned [] id = None
loaned (loan ∷ loans) id = if loan.id == id then loan.inode else loaned loans id

-- with that at a fileid that was handed out
abbrev pub with_loan : List Loan → (id : ℕ) → Option Inode → List Loan
with_loan [] id inode = []
with_loan (loan ∷ loans) id inode = if loan.id == id then record loan { inode = inode } ∷ loans else loan ∷ with_loan loans id inode

-- the inodes with what was handed out in its places
abbrev pub put_in : List Loan → Inodes → Inodes
put_in [] inodes = inodes
put_in (loan ∷ loans) inodes = set_at (put_in loans inodes) loan.id loan.inode

-- a share owns what it was handed, and knows besides what is not lent out
abbrev pub reach_with : FinMap nat_cmp ⊤ → Inodes → List ℕ → Reach
reach_with lent home ids = record { known = λ id. among ids id || not (is_some (get lent id)); owned = among ids; whole = false; handed = ids; borrowed = home }
