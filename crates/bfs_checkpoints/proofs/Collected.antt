-- What is collected of CHECKPOINTs.
use Rattle.std.proofs.Common.{◌≡◌, ◌∙◌, ◌⊎◌, inl, inr, ℕ, zero, suc, ◌+◌, ◌*◌, Bool, true, false, ◌&&◌, ◌||◌, ◌==◌, cond, eqb, not, List, [], ◌∷◌, ◌++◌, length, take, get_or, map, fold, Option, Some, None, refl, sym, ap, subst, ◌<◌, ◌≤◌, arith}
use Rattle.std.specs.Prelude.{nat_le}
use Rattle.std.specs.List.{Contains, list_all, list_any}
use Rattle.std.proofs.lemmas.Bool.{and_from, and_parts, eqb-true, eq-eqb, false_from_ne_true, le-leb, not-true, or_cases, or_left, or_right}
use Rattle.std.proofs.lemmas.List.{map-append}
use Rattle.std.proofs.lemmas.List.Elements.{Contains-append_cases, Contains-append_left, Contains-append_right}
use Rattle.std.proofs.lemmas.List.Folds.{list_all-append, list_any-append}
use Rattle.bfs_auth.specs.Keys.{Keys}
use Rattle.bfs_log.specs.Certificates.{StableCheckpoint, as_checkpoints, has_sender, is_shown, senders_differ, vouches}
use Rattle.bfs_log.specs.Headers.{header}
use Rattle.bfs_log.specs.Logs.{Log}
use Rattle.bfs_messages.specs.Messages.{Checkpoint}
use Rattle.bfs_messages.specs.Signing.{as_message}
use Rattle.bfs_messages.specs.declared.signed.Signed.{Signed}
use Rattle.bfs_messages.specs.declared.order_messages.OrderMessage.{OrderMessage}
use Rattle.bfs_messages.specs.declared.order_messages.OrderMessage.TheVariants as order
use Rattle.bfs_checkpoints.specs.Collecting.{right_checkpoints, with_right}
use Rattle.bfs_checkpoints.specs.Laws.{AreTheRightOnes, RightCheckpointsAreCollected}

pub any_sender : (sender : ℕ) (found : List (Signed Checkpoint)) → has_sender (as_checkpoints found) sender ≡ list_any (λ s. s.message.sender == sender) found
any_sender sender [] = refl
any_sender sender (c ∷ found) = ap (λ b. (c.message.sender == sender) || b) (any_sender sender found)

-- One more ------------------------------------------------------------------------------------------------------------------

one_more : (found : List (Signed Checkpoint)) (c : Signed Checkpoint) → as_checkpoints (found ++ c ∷ []) ≡ as_checkpoints found ++ as_message order.Checkpoint c ∷ []
one_more found c = map-append (as_message order.Checkpoint) found (c ∷ [])

sender_there : (ms more : Log) (k : ℕ) → has_sender (ms ++ more) k ≡ (has_sender ms k || has_sender more k)
sender_there ms more k = list_any-append (λ m. (header m).sender == k) ms more

or_none : (a b : Bool) → a ≡ false → b ≡ false → (a || b) ≡ false
or_none false b e h = h
or_none true b e h = absurd cc

apart_too : (a b : ℕ) → eqb a b ≡ false → eqb b a ≡ false
apart_too a b e = false_from_ne_true (eqb b a) (λ same. let is = eq-eqb a b (sym (eqb-true b a same)) in absurd (cc (e, is)))

or_parts : (a b : Bool) → (a || b) ≡ false → (a ≡ false) × (b ≡ false)
or_parts false b e = (refl, e)
or_parts true b e = absurd cc

still_differ : (ms : Log) (m : Signed OrderMessage) → senders_differ ms ≡ true → has_sender ms (header m).sender ≡ false → senders_differ (ms ++ m ∷ []) ≡ true
still_differ [] m differ none = refl
still_differ (x ∷ ms) m differ none =
    let k = (header x).sender in
    let parts = and_parts (not (has_sender ms k)) (senders_differ ms) differ in
    let others = or_parts (eqb k (header m).sender) (has_sender ms (header m).sender) none in
    let apart : eqb (header m).sender k ≡ false = apart_too k (header m).sender others.0 in
    let free : has_sender (ms ++ m ∷ []) k ≡ false =
    sender_there ms (m ∷ []) k ∙ or_none (has_sender ms k) (eqb (header m).sender k || false) (not-true (has_sender ms k) parts.0) (or_none (eqb (header m).sender k) false apart refl) in
    and_from (not (has_sender (ms ++ m ∷ []) k)) (senders_differ (ms ++ m ∷ [])) (ap not free) (still_differ ms m parts.1 others.1)

module _ (keys : Keys) (f number : ℕ) (digest : List ℕ) where
  abbrev passes : Signed Checkpoint → Bool
  passes c = vouches keys f number digest (as_message order.Checkpoint c)

  abbrev more : List (Signed Checkpoint) → Signed Checkpoint → List (Signed Checkpoint)
  more found c = with_right keys f number digest found c

  -- each is right, and no two are of one sender
  abbrev Right : List (Signed Checkpoint) → Type 0
  Right found = (list_all (vouches keys f number digest) (as_checkpoints found) ≡ true) × (senders_differ (as_checkpoints found) ≡ true)

  right_more : (found : List (Signed Checkpoint)) (c : Signed Checkpoint) → Right found → Right (more found c)
  right_more found c right = go (not (has_sender (as_checkpoints found) c.message.sender) && passes c) refl
    where
      m : Signed OrderMessage
      m = as_message order.Checkpoint c

      go : (b : Bool) → (not (has_sender (as_checkpoints found) c.message.sender) && passes c) ≡ b → Right (cond b (found ++ c ∷ []) found)
      go false e = right
      go true e =
          let parts = and_parts (not (has_sender (as_checkpoints found) c.message.sender)) (passes c) e in
          let each = list_all-append (vouches keys f number digest) (as_checkpoints found) (m ∷ []) in
          let both = and_from (list_all (vouches keys f number digest) (as_checkpoints found)) (passes c && true) right.0 (and_from (passes c) true parts.1 refl) in
          subst (λ (ms : Log). (list_all (vouches keys f number digest) ms ≡ true) × (senders_differ ms ≡ true)) (sym (one_more found c))
          (each ∙ both, still_differ (as_checkpoints found) m right.1 (not-true (has_sender (as_checkpoints found) c.message.sender) parts.0))

  pub right_all : (told found : List (Signed Checkpoint)) → Right found → Right (fold more found told)
  right_all [] found right = right
  right_all (c ∷ told) found right = right_all told (more found c) (right_more found c right)

  -- Where they come from ----------------------------------------------------------------------------------------------------

  only : (x c : Signed Checkpoint) → Contains (c ∷ []) x → c ≡ x
  only x c (zero, small, is) = is
  only x c (suc k, small, is) = absurd (omega (arith, small))

  from_more : (found : List (Signed Checkpoint)) (c x : Signed Checkpoint) → Contains (more found c) x → Contains found x ⊎ (c ≡ x)
  from_more found c x = go (not (has_sender (as_checkpoints found) c.message.sender) && passes c)
    where
      go : (b : Bool) → Contains (cond b (found ++ c ∷ []) found) x → Contains found x ⊎ (c ≡ x)
      go false i = inl i
      go true i = elim (Contains-append_cases found (c ∷ []) x i) [ inl j ↦ inl j | inr j ↦ inr (only x c j) ]

  first_in : (c : Signed Checkpoint) (told : List (Signed Checkpoint)) → Contains (c ∷ told) c
  first_in c told = (0, omega arith, refl)

  pub told_from : (told found : List (Signed Checkpoint)) (x : Signed Checkpoint) → Contains (fold more found told) x → Contains found x ⊎ Contains told x
  told_from [] found x i = inl i
  told_from (c ∷ told) found x i = elim (told_from told (more found c) x i) [
    | inl j ↦ elim (from_more found c x j) [
      | inl there ↦ inl there
      | inr same ↦ inr (subst (Contains (c ∷ told)) same (first_in c told))
    ]
    | inr later ↦ inr (Contains-append_right (c ∷ []) told x later)
  ]

  none_in : (x : Signed Checkpoint) → Contains [] x → ⊥
  none_in x (k, small, is) = omega (arith, small)

  -- Who is there ------------------------------------------------------------------------------------------------------------

  abbrev Has : List (Signed Checkpoint) → ℕ → Type 0
  Has found k = has_sender (as_checkpoints found) k ≡ true

  stays_more : (found : List (Signed Checkpoint)) (c : Signed Checkpoint) (k : ℕ) → Has found k → Has (more found c) k
  stays_more found c k has = go (not (has_sender (as_checkpoints found) c.message.sender) && passes c)
    where
      go : (b : Bool) → Has (cond b (found ++ c ∷ []) found) k
      go false = has
      go true = subst (λ (ms : Log). has_sender ms k ≡ true) (sym (one_more found c))
          (sender_there (as_checkpoints found) (as_message order.Checkpoint c ∷ []) k ∙ or_left (has_sender (as_checkpoints found) k) (has_sender (as_message order.Checkpoint c ∷ []) k) has)

  stays_all : (told found : List (Signed Checkpoint)) (k : ℕ) → Has found k → Has (fold more found told) k
  stays_all [] found k has = has
  stays_all (c ∷ told) found k has = stays_all told (more found c) k (stays_more found c k has)

  -- one that is right is there then, or its sender was
  comes_in : (found : List (Signed Checkpoint)) (c : Signed Checkpoint) → passes c ≡ true → Has (more found c) c.message.sender
  comes_in found c right = go (has_sender (as_checkpoints found) c.message.sender) (passes c) refl right
    where
      k : ℕ
      k = c.message.sender

      go : (there b : Bool) → has_sender (as_checkpoints found) k ≡ there → b ≡ true → Has (cond (not there && b) (found ++ c ∷ []) found) k
      go true b e h = e
      go false true e h = subst (λ (ms : Log). has_sender ms k ≡ true) (sym (one_more found c))
          (sender_there (as_checkpoints found) (as_message order.Checkpoint c ∷ []) k
          ∙ or_right (has_sender (as_checkpoints found) k) (has_sender (as_message order.Checkpoint c ∷ []) k) (or_left (eqb k k) false (eq-eqb k k refl)))
      go false false e h = absurd cc

  pub all_there : (told found : List (Signed Checkpoint)) (x : Signed Checkpoint) → Contains told x → passes x ≡ true → Has (fold more found told) x.message.sender
  all_there [] found x i right = absurd (none_in x i)
  all_there (c ∷ told) found x (zero, small, is) right =
      stays_all told (more found c) x.message.sender (subst (λ (y : Signed Checkpoint). Has (more found c) y.message.sender) is (comes_in found c (subst (λ (y : Signed Checkpoint). passes y ≡ true) (sym is) right)))
  all_there (c ∷ told) found x (suc k, small, is) right = all_there told (more found c) x (k, omega (arith, small), is) right

pub are_right : RightCheckpointsAreCollected
are_right keys f number digest told =
    let right = right_all keys f number digest told [] (refl, refl) in
    record {
      each = right.0;
      differ = right.1;
      were_told = λ c i. elim (told_from keys f number digest told [] c i) [ inl j ↦ absurd (none_in keys f number digest c j) | inr j ↦ j ];
      all = λ c i e. all_there keys f number digest told [] c i e;
    }

-- What is made of them ------------------------------------------------------------------------------------------------------

pub shown : (keys : Keys) (f number : ℕ) (digest : List ℕ) (told right : List (Signed Checkpoint)) (made : StableCheckpoint) → right ≡ right_checkpoints keys f number digest told
    → made ≡ record { number = number; digest = digest; checkpoints = right } → 2 * f + 1 ≤ length right → is_shown keys f made ≡ true
shown keys f number digest told right made same is enough =
    subst (λ (c : StableCheckpoint). is_shown keys f c ≡ true) (sym is)
    (subst (λ (cs : List (Signed Checkpoint)). is_shown keys f (record { number = number; digest = digest; checkpoints = cs }) ≡ true) (sym same)
    (and_from (list_all (vouches keys f number digest) (as_checkpoints all)) (senders_differ (as_checkpoints all) && nat_le (2 * f + 1) (length all)) ones.each
    (and_from (senders_differ (as_checkpoints all)) (nat_le (2 * f + 1) (length all)) ones.differ
    (le-leb (2 * f + 1) (length all) (subst (λ (cs : List (Signed Checkpoint)). 2 * f + 1 ≤ length cs) same enough)))))
  where
    all : List (Signed Checkpoint)
    all = right_checkpoints keys f number digest told

    ones : AreTheRightOnes keys f number digest told all
    ones = are_right keys f number digest told
