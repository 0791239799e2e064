-- What leaves a tree and comes home, one fileid after another.
use Rattle.std.specs.Prelude.{ℕ, ⊤, IsTrue, IsFalse, List, [], ◌∷◌}
use Rattle.std.specs.FinMap.{get, insert, contains_key}
use Rattle.bfs_model.specs.Server.Conflicts.{among}
use Rattle.bfs_tree.specs.Slots.{Slots}
use Rattle.bfs_tree.specs.Tree.{at_home, lent, reach_of, brought}
use Rattle.bfs_tree.specs.declared.slots.Slot.TheVariants as slot
use Rattle.bfs_handover.specs.declared.loans.Loan.{Loan}

-- none of these is lent out, when those before it are out
abbrev pub AreAtHome : Slots → List ℕ → Type 0
AreAtHome slots [] = ⊤
AreAtHome slots (id ∷ ids) = IsTrue ((reach_of slots).owned id) × AreAtHome (insert slots id slot.Lent) ids

-- the tree when these are out
abbrev pub lent_out : List ℕ → Slots → Slots
lent_out [] slots = slots
lent_out (id ∷ ids) slots = lent_out ids (insert slots id slot.Lent)

-- what was taken out
abbrev pub taken : List ℕ → Slots → List Loan
taken [] slots = []
taken (id ∷ ids) slots = record { id = id; inode = get (at_home slots) id } ∷ taken ids (insert slots id slot.Lent)

-- each is out, when those before it are home
abbrev pub AreLent : Slots → List Loan → Type 0
AreLent slots [] = ⊤
AreLent slots (loan ∷ loans) = IsTrue (contains_key (lent slots) loan.id) × AreLent (brought slots loan.id loan.inode) loans

-- the tree when these are home
abbrev pub brought_home : List Loan → Slots → Slots
brought_home [] slots = slots
brought_home (loan ∷ loans) slots = brought_home loans (brought slots loan.id loan.inode)

abbrev pub AreDistinct : List ℕ → Type 0
AreDistinct [] = ⊤
AreDistinct (id ∷ ids) = IsFalse (among ids id) × AreDistinct ids

-- none of these is lent out
abbrev pub AreOwned : Slots → List ℕ → Type 0
AreOwned slots ids = (id : ℕ) → IsTrue (among ids id) → IsTrue ((reach_of slots).owned id)
