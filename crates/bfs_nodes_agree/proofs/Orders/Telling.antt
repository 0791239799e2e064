-- What a log and the history's log both tell.
use Rattle.std.proofs.Common.{◌≡◌, ℕ, ◌<◌, ◌==◌, Bool, true, false, ◌&&◌, ◌||◌, List, [], ◌∷◌, ◌++◌, inl, inr, refl, sym, ap, ◌∙◌, arith}
use Rattle.std.specs.Prelude.{bytes_eq}
use Rattle.std.specs.List.{list_any}
use Rattle.std.proofs.lemmas.Bool.{and_parts, eqb-true, false_from_ne_true}
use Rattle.std.proofs.Math.Bool.{or_assoc, or_comm}
use Rattle.std.proofs.lemmas.List.{map-append}
use Rattle.std.proofs.lemmas.List.Folds.{list_any-append}
use Rattle.bfs_votes.specs.Votes.{Header, is_slot, has_slot, says, told}
use Rattle.bfs_log.specs.Headers.{header}
use Rattle.bfs_log.specs.Logs.{Log, headers}
use Rattle.bfs_agreement.specs.Histories.{IsIn}
use Rattle.bfs_agreement.specs.Calls.{with_said}
use Rattle.bfs_agreement.proofs.Public.{Is}
use Rattle.bfs_nodes_agree.specs.Orders.Following.{HaveTheSameVotes}

-- Choices -----------------------------------------------------------------------------------------------------------------

-- b said after a
pub said_behind : (a b c : Bool) → (a || (b || c)) ≡ ((b || a) || c)
said_behind a b c = sym (or_assoc a b c) ∙ ap (λ (x : Bool). x || c) (or_comm a b)

pub not_both : {b : Bool} → b ≡ true → b ≡ false → ⊥
not_both p q = absurd cc

pub or_moved : (a b c : Bool) → (a || (b || c)) ≡ (c || (a || b))
or_moved a b c = sym (or_assoc a b c) ∙ or_comm (a || b) c

pub not_equal : (a b : ℕ) → (a ≡ b → ⊥) → (a == b) ≡ false
not_equal a b differ = false_from_ne_true (a == b) (λ e. differ (eqb-true a b e))

-- Lists of messages -------------------------------------------------------------------------------------------------------

pub any_both : (test : Header → Bool) (xs ys : Log) → list_any test (headers (xs ++ ys)) ≡ (list_any test (headers xs) || list_any test (headers ys))
any_both test xs ys = ap (list_any test) (map-append header xs ys) ∙ list_any-append test (headers xs) (headers ys)

pub any_said : (test : Header → Bool) (hs log : List Header) → list_any test (with_said hs log) ≡ (list_any test hs || list_any test log)
any_said test [] log = refl
any_said test (h ∷ hs) log = any_said test hs (h ∷ log) ∙ said_behind (list_any test hs) (test h) (list_any test log)

-- a test that fails at each
pub finds_none : (test : Header → Bool) (hs : List Header) → ((h : Header) → IsIn h hs → test h ≡ false) → list_any test hs ≡ false
finds_none test [] none = refl
finds_none test (h ∷ hs) none = ap (λ (b : Bool). b || list_any test hs) (none h (inl refl)) ∙ finds_none test hs (λ x i. none x (inr i))

-- Votes -------------------------------------------------------------------------------------------------------------------

pub no_slot : (t k v n : ℕ) (h : Header) → (h.tag ≡ t → ⊥) → is_slot t k v n h ≡ false
no_slot t k v n h differ = ap (λ (b : Bool). b && ((h.sender == k) && ((h.view == v) && (h.number == n)))) (not_equal h.tag t differ)

pub slot_is : (t k v n : ℕ) (h : Header) → is_slot t k v n h ≡ true → Is h t k v n h.digest
slot_is t k v n h e =
    let a = and_parts (h.tag == t) ((h.sender == k) && ((h.view == v) && (h.number == n))) e in
    let b = and_parts (h.sender == k) ((h.view == v) && (h.number == n)) a.1 in
    let c = and_parts (h.view == v) (h.number == n) b.1 in
    record { tag = eqb-true h.tag t a.0; sender = eqb-true h.sender k b.0; view = eqb-true h.view v c.0; number = eqb-true h.number n c.1; digest = refl }

not_said : (t k v n : ℕ) (d : List ℕ) (h : Header) → (h.tag ≡ t → ⊥) → says t k v n d h ≡ false
not_said t k v n d h differ = ap (λ (b : Bool). b && bytes_eq h.digest d) (no_slot t k v n h differ)

no_five : (t : ℕ) (h : Header) → t < 5 → h.tag ≡ 5 → h.tag ≡ t → ⊥
no_five t h small five same = absurd (omega (arith, small, five, same))

pub slot_same : (one other : List Header) → HaveTheSameVotes one other → (t k v n : ℕ) → t < 5 → has_slot one t k v n ≡ has_slot other t k v n
slot_same one other same t k v n small = same (is_slot t k v n) (λ h five. no_slot t k v n h (no_five t h small five))

pub told_same : (one other : List Header) → HaveTheSameVotes one other → (t k v n : ℕ) (d : List ℕ) → t < 5 → told one t k v n d ≡ told other t k v n d
told_same one other same t k v n d small = same (says t k v n d) (λ h five. not_said t k v n d h (no_five t h small five))
