-- How often the entries of all directories name an inode, counted entry by entry.
use Rattle.std.proofs.Common.{◌≡◌, ℕ, ◌+◌, ◌≤◌, Bool, true, false, cond, eqb, List, Some, min, sum_by, refl, ap, ◌∙◌, arith, eqb-true}
use Rattle.std.specs.Option.{unwrap_or}
use Rattle.std.specs.Ordering.{nat_cmp}
use Rattle.std.specs.FinMap.{get, insert, empty, get-empty}
use Rattle.bfs_model.specs.Server.Tree.{Entry, Inode}
use Rattle.bfs_model.specs.Server.WellFormed.{times}
use Rattle.bfs_model.proofs.Public.{get-set_at}
use Rattle.bfs_digest.specs.Inside.Names.{Counted, most_counted, counted_at, AreWithin, Adds}
use Rattle.bfs_tree.proofs.Public.{names_at}

pub none_counted_yet : (names : Counted) → names ≡ empty → (id : ℕ) → counted_at names id ≡ 0
none_counted_yet names is id = ap (λ m. counted_at m id) is ∙ ap (λ o. unwrap_or o 0) (get-empty nat_cmp id)

pub none_within : (names : Counted) → names ≡ empty → AreWithin names
none_within names is id = omega (arith, none_counted_yet names is id)

pub counted_one : (m n : Counted) (k v : ℕ) → v ≡ min (counted_at m k + 1) most_counted → n ≡ insert m k v → AreWithin m → Adds m (λ id. cond (eqb k id) 1 0) n
counted_one m n k v is inserted within id = go (eqb k id) refl (ap (λ o. unwrap_or o 0) (ap (λ x. get x id) inserted ∙ get-set_at m k (Some v) id))
  where
    go : (b : Bool) → eqb k id ≡ b → counted_at n id ≡ unwrap_or (cond b (Some v) (get m id)) 0 → counted_at n id ≡ min (counted_at m id + cond b 1 0) most_counted
    go true same e = e ∙ is ∙ ap (λ q. min (counted_at m q + 1) most_counted) (eqb-true k id same)
    go false apart e = let le : counted_at m id ≤ most_counted = within id in omega (arith, e)

-- What is still to be counted --------------------------------------------------------------------------------------------

-- entry by entry
abbrev pub EntriesCounted : (first now : Counted) → (rest all : List Entry) → Type 0
EntriesCounted first now rest all = AreWithin now × ((id : ℕ) → min (counted_at now id + times id rest) most_counted ≡ min (counted_at first id + times id all) most_counted)

-- inode by inode
abbrev pub InodesCounted : (now : Counted) → (rest all : List (ℕ × Inode)) → Type 0
InodesCounted now rest all = AreWithin now × ((id : ℕ) → min (counted_at now id + sum_by (names_at id) rest) most_counted ≡ min (sum_by (names_at id) all) most_counted)

pub inodes_begin : (now : Counted) (rest all : List (ℕ × Inode)) → now ≡ empty → rest ≡ all → InodesCounted now rest all
inodes_begin now rest all none is = (
  none_within now none,
  λ id.
      let zero_yet : counted_at now id ≡ 0 = none_counted_yet now none id in
      let same : sum_by (names_at id) rest ≡ sum_by (names_at id) all = ap (sum_by (names_at id)) is in
      omega arith,
)
