-- What the loans are once the borrow of one of their inodes ends.
use Rattle.std.specs.Prelude.{◌≡◌, ℕ, List, Option, Some}
use Rattle.std.specs.Option.{ForSome, ForNone}
use Rattle.std.specs.Borrow.{Fml, MutBor, LendsSo}
use Rattle.bfs_model.specs.Server.Tree.{Inode}
use Rattle.bfs_inode.specs.contracts.inodes.Inode as inode
use Rattle.bfs_handover.specs.declared.loans.Loan.{Loan}
use Rattle.bfs_handover.specs.contracts.loans.Loan as loan
use Rattle.bfs_handover.specs.contracts.loans.Loans as loans
use Rattle.bfs_handover.specs.Loans.{with_loan}

abbrev pub LendsInode : MutBor Loan → Option (MutBor Inode) → Fml
LendsInode kept lent =
    LendsSo loan.the_row inode.the_row kept lent
    (λ after w. ForSome lent (λ _. after ≡ record kept.now { inode = Some w }) × ForNone lent (after ≡ kept.now))
    (λ after. after ≡ kept.now)

abbrev pub LendsLoan : MutBor (List Loan) → (id : ℕ) → Option (MutBor Inode) → Fml
LendsLoan kept id lent =
    LendsSo loans.the_row inode.the_row kept lent
    (λ after w. ForSome lent (λ _. after ≡ with_loan kept.now id (Some w)) × ForNone lent (after ≡ kept.now))
    (λ after. after ≡ kept.now)
