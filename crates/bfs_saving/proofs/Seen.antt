-- Senders that differ, found out by a set of those that were seen.
use Rattle.std.proofs.Common.{◌≡◌, ℕ, suc, ◌+◌, ◌<◌, Bool, true, false, cond, ◌&&◌, ◌||◌, not, eqb, List, [], ◌∷◌, ◌++◌, length, take, drop, get_or, drop-cons, map, refl, sym, ap, subst, ◌∙◌, arith}
use Rattle.std.specs.BTreeSet.{BTreeSet, Updates, contains}
use Rattle.std.specs.FinMap.{nat_cmp-IsAntisymmetric}
use Rattle.std.specs.Ordering.{is_eq, nat_cmp}
use Rattle.std.proofs.lemmas.Bool.{and_from, and_parts, eqb-true, eq-eqb}
use Rattle.std.proofs.lemmas.List.{map-append, take_more, take-append-drop}
use Rattle.std.proofs.lemmas.Map.Views.{tells_apart}
use Rattle.bfs_messages.specs.Messages as model
use Rattle.bfs_messages.specs.Signing.{as_message}
use Rattle.bfs_messages.specs.declared.signed.Signed.{Signed}
use Rattle.bfs_messages.specs.declared.order_messages.OrderMessage.{OrderMessage}
use Rattle.bfs_messages.specs.declared.order_messages.OrderMessage.TheVariants.{Checkpoint}
use Rattle.bfs_log.specs.Certificates.{as_checkpoints, has_sender, senders_differ}
use Rattle.bfs_log.specs.Headers.{header}
use Rattle.bfs_log.specs.Logs.{Log}

or_true : (a : Bool) → (a || true) ≡ true
or_true true = refl
or_true false = refl

or_false : (a : Bool) → (a || false) ≡ a
or_false true = refl
or_false false = refl

or_assoc : (a b c : Bool) → (a || (b || c)) ≡ ((a || b) || c)
or_assoc true b c = refl
or_assoc false b c = refl

-- The set ------------------------------------------------------------------------------------------------------------

seen_more : (before after : BTreeSet ℕ) (s k : ℕ) → Updates nat_cmp before after s true → contains nat_cmp after k ≡ (contains nat_cmp before k || eqb s k)
seen_more before after s k updates = by (eqb s k) refl (is_eq (nat_cmp s k)) refl
  where
    by : (e : Bool) → eqb s k ≡ e → (c : Bool) → is_eq (nat_cmp s k) ≡ c → contains nat_cmp after k ≡ (contains nat_cmp before k || e)
    by true is c d = subst (λ n. contains nat_cmp after n ≡ true) (eqb-true s k is) updates.1 ∙ sym (or_true (contains nat_cmp before k))
    by false is true d = let same = eq-eqb s k (tells_apart nat_cmp-IsAntisymmetric s k d) in absurd cc
    by false is false d = updates.0 k ∙ ap (λ c. cond c true (contains nat_cmp before k)) d ∙ sym (or_false (contains nat_cmp before k))

-- Lists --------------------------------------------------------------------------------------------------------------

sender_pushed : (xs : Log) (m : Signed OrderMessage) (k : ℕ) → has_sender (xs ++ m ∷ []) k ≡ (has_sender xs k || eqb (header m).sender k)
sender_pushed [] m k = or_false (eqb (header m).sender k)
sender_pushed (x ∷ xs) m k = ap (λ b. eqb (header x).sender k || b) (sender_pushed xs m k) ∙ or_assoc (eqb (header x).sender k) (has_sender xs k) (eqb (header m).sender k)

sender_there : (xs : Log) (m : Signed OrderMessage) (ys : Log) (k : ℕ) → eqb (header m).sender k ≡ true → has_sender (xs ++ m ∷ ys) k ≡ true
sender_there [] m ys k e = ap (λ b. b || has_sender ys k) e
sender_there (x ∷ xs) m ys k e = ap (λ b. eqb (header x).sender k || b) (sender_there xs m ys k e) ∙ or_true (eqb (header x).sender k)

swapped : (a b : ℕ) → eqb a b ≡ eqb b a
swapped a b = grind arith

-- one that was there before
repeated : (xs : Log) (m : Signed OrderMessage) (ys : Log) → has_sender xs (header m).sender ≡ true → senders_differ (xs ++ m ∷ ys) ≡ false
repeated [] m ys e = absurd cc
repeated (x ∷ xs) m ys e = by (eqb (header x).sender (header m).sender) refl (λ there. repeated xs m ys there)
  where
    gone : (a b : Bool) → a ≡ true → (not a && b) ≡ false
    gone a b e = ap (λ c. not c && b) e

    later : (a b : Bool) → b ≡ false → (a && b) ≡ false
    later true b e = e
    later false b e = refl

    by : (c : Bool) → eqb (header x).sender (header m).sender ≡ c → (has_sender xs (header m).sender ≡ true → senders_differ (xs ++ m ∷ ys) ≡ false) → senders_differ (x ∷ xs ++ m ∷ ys) ≡ false
    by true is rest = gone (has_sender (xs ++ m ∷ ys) (header x).sender) (senders_differ (xs ++ m ∷ ys)) (sender_there xs m ys (header x).sender (swapped (header m).sender (header x).sender ∙ is))
    by false is rest = later (not (has_sender (xs ++ m ∷ ys) (header x).sender)) (senders_differ (xs ++ m ∷ ys)) (rest (sym (ap (λ b. b || has_sender xs (header m).sender) is) ∙ e))

-- one that was not
pushed : (xs : Log) (m : Signed OrderMessage) → senders_differ xs ≡ true → has_sender xs (header m).sender ≡ false → senders_differ (xs ++ m ∷ []) ≡ true
pushed [] m differ free = refl
pushed (x ∷ xs) m differ free =
    let parts = and_parts (not (has_sender xs (header x).sender)) (senders_differ xs) differ in
    and_from (not (has_sender (xs ++ m ∷ []) (header x).sender)) (senders_differ (xs ++ m ∷ []))
    (still (has_sender xs (header x).sender) (eqb (header m).sender (header x).sender) (has_sender (xs ++ m ∷ []) (header x).sender) (sender_pushed xs m (header x).sender) parts.0 (swapped (header m).sender (header x).sender ∙ left (eqb (header x).sender (header m).sender) (has_sender xs (header m).sender) free))
    (pushed xs m parts.1 (right (eqb (header x).sender (header m).sender) (has_sender xs (header m).sender) free))
  where
    left : (a b : Bool) → (a || b) ≡ false → a ≡ false
    left true b e = absurd cc
    left false b e = refl

    right : (a b : Bool) → (a || b) ≡ false → b ≡ false
    right true b e = absurd cc
    right false b e = e

    still : (a b c : Bool) → c ≡ (a || b) → not a ≡ true → b ≡ false → not c ≡ true
    still true b c is none other = absurd cc
    still false b c is none other = ap not (is ∙ other)

-- At a place of a list -------------------------------------------------------------------------------------------------

module _ (cs : List (Signed model.Checkpoint)) (i : ℕ) (s : Signed model.Checkpoint) (lt : i < length cs) (at : s ≡ get_or cs i s) where
  taken : as_checkpoints (take (i + 1) cs) ≡ as_checkpoints (take i cs) ++ as_message Checkpoint s ∷ []
  taken =
      ap as_checkpoints (take_more cs i s lt ∙ ap (λ x. take i cs ++ x ∷ []) (sym at))
      ∙ map-append (as_message Checkpoint) (take i cs) (s ∷ [])

  split : as_checkpoints cs ≡ as_checkpoints (take i cs) ++ as_message Checkpoint s ∷ as_checkpoints (drop (suc i) cs)
  split =
      ap as_checkpoints (sym (take-append-drop i cs) ∙ ap (λ rest. take i cs ++ rest) (drop-cons cs i s lt ∙ ap (λ x. x ∷ drop (suc i) cs) (sym at)))
      ∙ map-append (as_message Checkpoint) (take i cs) (s ∷ drop (suc i) cs)

  pub seen_next : (before after : BTreeSet ℕ) → ((k : ℕ) → contains nat_cmp before k ≡ has_sender (as_checkpoints (take i cs)) k) → Updates nat_cmp before after s.message.sender true
      → (k : ℕ) → contains nat_cmp after k ≡ has_sender (as_checkpoints (take (i + 1) cs)) k
  seen_next before after so_far updates k =
      seen_more before after s.message.sender k updates
      ∙ ap (λ b. b || eqb s.message.sender k) (so_far k)
      ∙ sym (ap (λ log. has_sender log k) taken ∙ sender_pushed (as_checkpoints (take i cs)) (as_message Checkpoint s) k)

  pub differ_next : senders_differ (as_checkpoints (take i cs)) ≡ true → has_sender (as_checkpoints (take i cs)) s.message.sender ≡ false → senders_differ (as_checkpoints (take (i + 1) cs)) ≡ true
  differ_next differ free = ap senders_differ taken ∙ pushed (as_checkpoints (take i cs)) (as_message Checkpoint s) differ free

  pub no_more : has_sender (as_checkpoints (take i cs)) s.message.sender ≡ true → senders_differ (as_checkpoints cs) ≡ false
  no_more there = ap senders_differ split ∙ repeated (as_checkpoints (take i cs)) (as_message Checkpoint s) (as_checkpoints (drop (suc i) cs)) there

-- What an insertion tells ------------------------------------------------------------------------------------------------

tells_not : (added there : Bool) → added ≡ not there → added ≡ true → there ≡ false
tells_not added true is e = absurd cc
tells_not added false is e = refl

tells_so : (added there : Bool) → added ≡ not there → added ≡ false → there ≡ true
tells_so added true is e = refl
tells_so added false is e = absurd cc

module _ (cs : List (Signed model.Checkpoint)) (i : ℕ) (s : Signed model.Checkpoint) (lt : i < length cs) (at : s ≡ get_or cs i s) (before : BTreeSet ℕ)
    (so_far : (k : ℕ) → contains nat_cmp before k ≡ has_sender (as_checkpoints (take i cs)) k) (sender : ℕ) (sender_is : sender ≡ s.message.sender) (added : Bool)
    (told : added ≡ not (contains nat_cmp before sender)) where
  at_sender : contains nat_cmp before sender ≡ has_sender (as_checkpoints (take i cs)) s.message.sender
  at_sender = so_far sender ∙ ap (has_sender (as_checkpoints (take i cs))) sender_is

  pub goes_on : (after : BTreeSet ℕ) → senders_differ (as_checkpoints (take i cs)) ≡ true → Updates nat_cmp before after sender true → added ≡ true
      → ((k : ℕ) → contains nat_cmp after k ≡ has_sender (as_checkpoints (take (i + 1) cs)) k) × (senders_differ (as_checkpoints (take (i + 1) cs)) ≡ true)
  goes_on after differ updates new = (
    seen_next cs i s lt at before after so_far (subst (λ k. Updates nat_cmp before after k true) sender_is updates),
    differ_next cs i s lt at differ (sym at_sender ∙ tells_not added (contains nat_cmp before sender) told new),
  )

  pub ends : added ≡ false → false ≡ senders_differ (as_checkpoints cs)
  ends old = sym (no_more cs i s lt at (sym at_sender ∙ tells_so added (contains nat_cmp before sender) told old))
