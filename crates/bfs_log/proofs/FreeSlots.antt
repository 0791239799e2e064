-- A slot of a log is free in what stands before it.
use Rattle.std.proofs.Common.{◌≡◌, ℕ, zero, suc, ◌<◌, Bool, true, false, ◌&&◌, ◌||◌, [], ◌∷◌, length, take, get_or, refl, sym, ap, subst, ◌∙◌, arith}
use Rattle.std.specs.Prelude.{◌==◌}
use Rattle.bfs_votes.specs.Votes.{Header, SlotsDiffer, is_slot, is_taken}
use Rattle.bfs_log.specs.Headers.{header}
use Rattle.bfs_log.specs.Logs.{Log, headers}
use Rattle.bfs_messages.specs.declared.signed.Signed.{Signed}
use Rattle.bfs_messages.specs.declared.order_messages.OrderMessage.{OrderMessage}

pub either_left : (a b : Bool) → (a || b) ≡ false → a ≡ false
either_left true b e = absurd cc
either_left false b e = refl

pub either_right : (a b : Bool) → (a || b) ≡ false → b ≡ false
either_right true b e = absurd cc
either_right false b e = e

pub neither : (a b : Bool) → a ≡ false → b ≡ false → (a || b) ≡ false
neither a b e d = ap (λ c. c || b) e ∙ d

swap : (a b : ℕ) → (a == b) ≡ (b == a)
swap a b = grind arith

abbrev pub same_slot : Header → Header → Bool
same_slot g h = is_slot h.tag h.sender h.view h.number g

pub same_again : (g h : Header) → same_slot g h ≡ same_slot h g
same_again g h =
    ap (λ a. a && ((g.sender == h.sender) && ((g.view == h.view) && (g.number == h.number)))) (swap g.tag h.tag)
    ∙ ap (λ a. (h.tag == g.tag) && (a && ((g.view == h.view) && (g.number == h.number)))) (swap g.sender h.sender)
    ∙ ap (λ a. (h.tag == g.tag) && ((h.sender == g.sender) && (a && (g.number == h.number)))) (swap g.view h.view)
    ∙ ap (λ a. (h.tag == g.tag) && ((h.sender == g.sender) && ((h.view == g.view) && a))) (swap g.number h.number)

-- who is not among a list is none of its items
none_at : (h : Header) (messages : Log) (i : ℕ) (d : Signed OrderMessage) → is_taken (headers messages) h ≡ false → i < length messages → same_slot (header (get_or messages i d)) h ≡ false
none_at h [] i d free lt = absurd (omega (arith, lt))
none_at h (m ∷ ms) zero d free lt = either_left (same_slot (header m) h) (is_taken (headers ms) h) free
none_at h (m ∷ ms) (suc i) d free lt = none_at h ms i d (either_right (same_slot (header m) h) (is_taken (headers ms) h) free) (omega (arith, lt))

pub free_before : (messages : Log) (i : ℕ) (d : Signed OrderMessage) → SlotsDiffer (headers messages) → i < length messages → is_taken (headers (take i messages)) (header (get_or messages i d)) ≡ false
free_before [] i d differ lt = absurd (omega (arith, lt))
free_before (m ∷ ms) zero d differ lt = refl
free_before (m ∷ ms) (suc i) d differ lt =
    neither (same_slot (header m) (header (get_or ms i d))) (is_taken (headers (take i ms)) (header (get_or ms i d)))
    (same_again (header m) (header (get_or ms i d)) ∙ none_at (header m) ms i d differ.0 (omega (arith, lt)))
    (free_before ms i d differ.1 (omega (arith, lt)))

pub free_in_copy : (messages copy : Log) (i : ℕ) (m d : Signed OrderMessage) → copy ≡ take i messages → m ≡ get_or messages i d → SlotsDiffer (headers messages) → i < length messages → is_taken (headers copy) (header m) ≡ false
free_in_copy messages copy i m d so_far is differ lt =
    subst (λ (l : Log). is_taken (headers l) (header m) ≡ false) (sym so_far)
    (subst (λ (n : Signed OrderMessage). is_taken (headers (take i messages)) (header n) ≡ false) (sym is) (free_before messages i d differ lt))
