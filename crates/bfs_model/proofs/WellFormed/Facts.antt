-- What follows from the two equations: of what an entry names, where it is held, and what is below it.
use Rattle.std.proofs.Common.{◌≡◌, ℕ, ◌+◌, ◌≤◌, cond, eqb, IsTrue, [], Option, Some, None, inl, inr, refl, sym, ap, subst, ◌∙◌, arith}
use Rattle.std.specs.FinMap.{get}
use Rattle.std.proofs.lemmas.Bool.{cases_eq, ne_eqb, cond-false}
use Rattle.bfs_model.specs.Server.Tree.{Inode, Inodes, root_id, is_directory_body, is_directory, entries_at, parent_in, parent_of}
use Rattle.bfs_model.specs.Server.WellFormed.{times, named}
use Rattle.bfs_model.specs.Server.Conflicts.{set_at}
use Rattle.bfs_model.proofs.WellFormed.Sums.{above, hit, under, due, WellFormed, get-set_other, weigh_zero, named-set}
use Rattle.bfs_model.proofs.WellFormed.Changes.{parent_is_there, due_of_directory}

pub named_at_least : (m : Inodes) (d c : ℕ) → times c (entries_at (get m d)) ≤ named m c
named_at_least m d c = let law : named (set_at m d None) c + times c (entries_at (get m d)) ≡ named m c + 0 = named-set m d None c in omega arith

pub two_places : (m : Inodes) (p d c : ℕ) → (p ≡ d → ⊥) → times c (entries_at (get m p)) + times c (entries_at (get m d)) ≤ named m c
two_places m p d c apart =
    let law : named (set_at m d None) c + times c (entries_at (get m d)) ≡ named m c + 0 = named-set m d None c in
    let rest : times c (entries_at (get (set_at m d None) p)) ≤ named (set_at m d None) c = named_at_least (set_at m d None) p c in
    let same : times c (entries_at (get (set_at m d None) p)) ≡ times c (entries_at (get m p)) = ap (λ o. times c (entries_at o)) (get-set_other m d None p (λ is. apart (sym is))) in
    omega arith

not_hit : (p : Option ℕ) (k : ℕ) → (p ≡ Some k → ⊥) → hit p k ≡ 0
not_hit None k apart = refl
not_hit (Some q) k apart = let many : ℕ = 1 in let none : ℕ = 0 in cond-false (eqb q k) many none (ne_eqb q k (λ is. apart (ap Some is)))

-- of what is no directory's parent
pub childless_under : (m : Inodes) (k : ℕ) → ((c : ℕ) → parent_of m c ≡ Some k → ⊥) → under m k ≡ 0
childless_under m k childless = weigh_zero (λ q x. hit (above q (Some x)) k) m (λ q x there. not_hit (above q (Some x)) k (λ up. childless q (ap (above q) there ∙ up)))

-- In a tree ------------------------------------------------------------------------------------------------------------

-- no entry names the root
pub root_unnamed : (m : Inodes) → WellFormed m → (k : ℕ) → 1 ≤ named m k → k ≡ root_id → ⊥
root_unnamed m w k many is =
    let names : named m root_id + 0 ≡ due root_id (get m root_id) + 0 = w.names root_id in
    let none : due root_id (get m root_id) ≡ 0 = due_of_directory root_id (get m root_id) w.root in
    let many_root : 1 ≤ named m root_id = subst (λ q. 1 ≤ named m q) is many in
    omega arith

pub named_once : (m : Inodes) → WellFormed m → (k : ℕ) → IsTrue (is_directory (get m k)) → (k ≡ root_id → ⊥) → named m k ≡ 1
named_once m w k folder apart =
    let names : named m k + 0 ≡ due k (get m k) + 0 = w.names k in
    let dues : due k (get m k) ≡ cond (eqb k root_id) 0 1 = due_of_directory k (get m k) folder in
    let once : ◌≡◌ {A = ℕ} (cond (eqb k root_id) 0 1) 1 = ap (λ b. cond b 0 1) (ne_eqb k root_id apart) in
    omega arith

-- a directory is held by its parent alone
pub holder : (m : Inodes) → WellFormed m → (d k : ℕ) (y : Inode) → get m k ≡ Some y → IsTrue (is_directory_body y.body) → 1 ≤ times k (entries_at (get m d)) → parent_of m k ≡ Some d
holder m w d k y there folder held =
    let least : times k (entries_at (get m d)) ≤ named m k = named_at_least m d k in
    let apart : k ≡ root_id → ⊥ = root_unnamed m w k (omega arith) in
    let its = parent_is_there y.body folder in
    let up : parent_of m k ≡ Some its.0 = ap (above k) there ∙ cond-false (eqb k root_id) None (parent_in y.body) (ne_eqb k root_id apart) ∙ its.1 in
    elim (cases_eq its.0 d) [
      | inl is ↦ up ∙ ap Some is
      | inr other ↦ absurd (
          let both : times k (entries_at (get m its.0)) + times k (entries_at (get m d)) ≤ named m k = two_places m its.0 d k other in
          let there_too : 1 ≤ times k (entries_at (get m its.0)) = w.held k its.0 up refl in
          let once : named m k ≡ 1 = named_once m w k (ap is_directory there ∙ folder) apart in
          omega arith)
    ]

-- nothing is below an empty directory
pub childless : (m : Inodes) → WellFormed m → (k : ℕ) → entries_at (get m k) ≡ [] → (c : ℕ) → parent_of m c ≡ Some k → ⊥
childless m w k bare c up = let held : 1 ≤ times c (entries_at (get m k)) = w.held c k up refl in let none : times c (entries_at (get m k)) ≡ 0 = ap (times c) bare in omega arith
