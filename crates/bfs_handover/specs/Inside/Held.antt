-- How loans are held, one after another.
use Rattle.std.specs.Prelude.{◌≡◌, ℕ, List, [], ◌∷◌, Option, Some}
use Rattle.std.specs.Option.{ForSome, ForNone}
use Rattle.std.specs.Borrow.{Fml, MutBor, LendsSo}
use Rattle.bfs_model.specs.Server.Tree.{Inode}
use Rattle.bfs_inode.specs.contracts.inodes.Inode as inode
use Rattle.bfs_handover.specs.declared.loans.Loan.{Loan}
use Rattle.bfs_handover.specs.declared.held.Held.{Held}
use Rattle.bfs_handover.specs.declared.held.Held.TheVariants.{One, Many}
use Rattle.bfs_handover.specs.contracts.held.Held as held
use Rattle.bfs_handover.specs.Loans.{with_loan}

abbrev pub loans_in : Held → List Loan
loans_in (One alloc loan) = loan ∷ []
loans_in (Many loans) = loans.items

-- what is held once the borrow of the inode of a fileid ends
abbrev pub LendsHeld : MutBor Held → (id : ℕ) → Option (MutBor Inode) → Fml
LendsHeld kept id lent =
    LendsSo held.the_row inode.the_row kept lent
    (λ after w. ForSome lent (λ _. loans_in after ≡ with_loan (loans_in kept.now) id (Some w)) × ForNone lent (loans_in after ≡ loans_in kept.now))
    (λ after. loans_in after ≡ loans_in kept.now)
