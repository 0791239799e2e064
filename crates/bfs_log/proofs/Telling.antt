-- What a header says, field by field, and what messages that pass a test tell.
use Rattle.std.proofs.Common.{◌≡◌, ℕ, Bool, true, eqb, List, refl, sym, ◌∙◌}
use Rattle.std.specs.Prelude.{bytes_eq, filter}
use Rattle.std.specs.List.{list_any}
use Rattle.std.proofs.lemmas.Bool.{and_parts, and_from, eqb-true, eq-eqb}
use Rattle.std.proofs.lemmas.Map.Views.{any-filter_same}
use Rattle.std.proofs.lemmas.Slice.Eq.{bytes_eq-Decides}
use Rattle.bfs_votes.specs.Votes.{Header, is_slot, says}
use Rattle.bfs_log.specs.Headers.{header}
use Rattle.bfs_log.specs.Logs.{Log, headers}
use Rattle.bfs_log.proofs.Folds.{any_map}

pub record Is (h : Header) (t k v n : ℕ) (d : List ℕ) : Type 0 where
  pub tag : h.tag ≡ t
  pub sender : h.sender ≡ k
  pub view : h.view ≡ v
  pub number : h.number ≡ n
  pub digest : h.digest ≡ d

pub slot_is : (h : Header) (t k v n : ℕ) → is_slot t k v n h ≡ true → Is h t k v n h.digest
slot_is h t k v n e =
    let a = and_parts (eqb h.tag t) _ e in
    let b = and_parts (eqb h.sender k) _ a.1 in
    let c = and_parts (eqb h.view v) _ b.1 in
    record { tag = eqb-true h.tag t a.0; sender = eqb-true h.sender k b.0; view = eqb-true h.view v c.0; number = eqb-true h.number n c.1; digest = refl }

pub says_is : (h : Header) (t k v n : ℕ) (d : List ℕ) → says t k v n d h ≡ true → Is h t k v n d
says_is h t k v n d e =
    let p = and_parts (is_slot t k v n h) (bytes_eq h.digest d) e in
    let i = slot_is h t k v n p.0 in
    record { tag = i.tag; sender = i.sender; view = i.view; number = i.number; digest = (bytes_eq-Decides h.digest d).0 p.1 }

pub is_said : (h : Header) (t k v n : ℕ) (d : List ℕ) → Is h t k v n d → says t k v n d h ≡ true
is_said h t k v n d i =
    let slot : is_slot t k v n h ≡ true =
    and_from (eqb h.tag t) _ (eq-eqb h.tag t i.tag)
    (and_from (eqb h.sender k) _ (eq-eqb h.sender k i.sender) (and_from (eqb h.view v) (eqb h.number n) (eq-eqb h.view v i.view) (eq-eqb h.number n i.number))) in
    and_from (is_slot t k v n h) (bytes_eq h.digest d) slot ((bytes_eq-Decides h.digest d).1 i.digest)

-- what a test finds that passes another one, it finds among what passes that
pub told_kept : (test keep : Header → Bool) (xs : Log) → ((h : Header) → test h ≡ true → keep h ≡ true) → list_any test (headers (filter (λ m. keep (header m)) xs)) ≡ list_any test (headers xs)
told_kept test keep xs fits =
    any_map test header (filter (λ m. keep (header m)) xs)
    ∙ any-filter_same (λ m. test (header m)) (λ m. keep (header m)) true (λ m e. fits (header m) e) xs ∙ sym (any_map test header xs)
