-- Where a fileid stands among the loans.
use Rattle.std.specs.Prelude.{◌≡◌, ℕ, ◌<◌, List, length, Option, None, slice_set, slice_index_or}
use Rattle.bfs_model.specs.Server.Tree.{Inode}
use Rattle.bfs_handover.specs.declared.loans.Loan.{Loan}
use Rattle.bfs_handover.specs.Loans.{loaned, with_loan}

pub record IsPlace (loans : List Loan) (id place : ℕ) : Type 0 where
  pub within : place < length loans
  pub value : (loan : Loan) → loan ≡ slice_index_or loans place loan → loan.inode ≡ loaned loans id
  pub put : (loan : Loan) (o : Option Inode) → loan ≡ slice_index_or loans place loan → slice_set loans place (record loan { inode = o }) ≡ with_loan loans id o

pub record IsNowhere (loans : List Loan) (id : ℕ) : Type 0 where
  pub value : loaned loans id ≡ None
  pub put : (o : Option Inode) → with_loan loans id o ≡ loans
