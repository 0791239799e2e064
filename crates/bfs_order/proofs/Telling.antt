-- What a log tells: of logs put together, and of one message.
use Rattle.std.proofs.Common.{◌≡◌, ◌⊎◌, inl, inr, ℕ, Bool, true, false, ◌||◌, List, [], ◌∷◌, ◌++◌, refl, sym, ap, ◌∙◌}
use Rattle.std.specs.Prelude.{bytes_eq}
use Rattle.std.specs.List.{list_any}
use Rattle.std.proofs.lemmas.Bool.{and_parts, or_cases, or_left, or_right}
use Rattle.std.proofs.lemmas.List.{map-append}
use Rattle.std.proofs.lemmas.List.Folds.{list_any-append}
pub use Rattle.bfs_log.proofs.Public.{Is, is_said, says_is, slot_is, told_kept}
use Rattle.bfs_votes.specs.Votes.{Header, is_slot, has_slot, says, told, Told}
use Rattle.bfs_log.specs.Headers.{header}
use Rattle.bfs_log.specs.Logs.{Log, headers}
use Rattle.bfs_messages.specs.declared.signed.Signed.{Signed}
use Rattle.bfs_messages.specs.declared.order_messages.OrderMessage.{OrderMessage}

-- Logs put together ----------------------------------------------------------------------------------------------------

pub any_append : (p : Header → Bool) (xs ys : Log) → list_any p (headers (xs ++ ys)) ≡ (list_any p (headers xs) || list_any p (headers ys))
any_append p xs ys = ap (list_any p) (map-append header xs ys) ∙ list_any-append p (headers xs) (headers ys)

pub told_cases : (xs ys : Log) (t k v n : ℕ) (d : List ℕ) → Told (headers (xs ++ ys)) t k v n d → Told (headers xs) t k v n d ⊎ Told (headers ys) t k v n d
told_cases xs ys t k v n d e = or_cases (told (headers xs) t k v n d) (told (headers ys) t k v n d) (sym (any_append (says t k v n d) xs ys) ∙ e)

pub told_left : (xs ys : Log) (t k v n : ℕ) (d : List ℕ) → Told (headers xs) t k v n d → Told (headers (xs ++ ys)) t k v n d
told_left xs ys t k v n d e = any_append (says t k v n d) xs ys ∙ or_left (told (headers xs) t k v n d) (told (headers ys) t k v n d) e

pub told_right : (xs ys : Log) (t k v n : ℕ) (d : List ℕ) → Told (headers ys) t k v n d → Told (headers (xs ++ ys)) t k v n d
told_right xs ys t k v n d e = any_append (says t k v n d) xs ys ∙ or_right (told (headers xs) t k v n d) (told (headers ys) t k v n d) e

or_nothing : (b : Bool) → (b || false) ≡ b
or_nothing true = refl
or_nothing false = refl

-- one message
pub one_is : (m : Signed OrderMessage) (t k v n : ℕ) (d : List ℕ) → Told (headers (m ∷ [])) t k v n d → Is (header m) t k v n d
one_is m t k v n d e = says_is (header m) t k v n d (sym (or_nothing (says t k v n d (header m))) ∙ e)

pub is_one : (m : Signed OrderMessage) (t k v n : ℕ) (d : List ℕ) → Is (header m) t k v n d → Told (headers (m ∷ [])) t k v n d
is_one m t k v n d i = or_left (says t k v n d (header m)) false (is_said (header m) t k v n d i)

-- who tells a digest takes the place
pub takes_slot : (hs : List Header) (t k v n : ℕ) (d : List ℕ) → Told hs t k v n d → has_slot hs t k v n ≡ true
takes_slot [] t k v n d e = e
takes_slot (h ∷ hs) t k v n d e = go (takes_slot hs t k v n d) (or_cases (says t k v n d h) (told hs t k v n d) e)
  where
    go : (Told hs t k v n d → has_slot hs t k v n ≡ true) → (says t k v n d h ≡ true) ⊎ Told hs t k v n d → has_slot (h ∷ hs) t k v n ≡ true
    go later (inl here) = or_left (is_slot t k v n h) (has_slot hs t k v n) (and_parts (is_slot t k v n h) (bytes_eq h.digest d) here).0
    go later (inr there) = or_right (is_slot t k v n h) (has_slot hs t k v n) (later there)

pub slot_not_told : (hs : List Header) (t k v n : ℕ) (d : List ℕ) → has_slot hs t k v n ≡ false → Told hs t k v n d → ⊥
slot_not_told hs t k v n d free e = let taken = takes_slot hs t k v n d e in absurd (cc (free, taken))
