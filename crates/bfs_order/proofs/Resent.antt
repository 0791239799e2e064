-- What is given again stands in the log, and nothing of that is left out.
use Rattle.std.proofs.Common.{◌≡◌, ◌≤◌, ◌<◌, ℕ, zero, suc, ◌+◌, ◌-◌, Bool, true, false, ◌&&◌, cond, eqb, ltb, List, [], ◌∷◌, ◌++◌, inl, inr, ◌⊎◌, refl, sym, ap, ◌∙◌, subst, arith}
use Rattle.std.specs.Prelude.{◌||◌, Option, Some, None, option_to_list}
use Rattle.std.specs.List.{All, Contains, flat_map, range_with_len}
use Rattle.std.proofs.lemmas.Bool.{and_parts, and_from, eqb-true, eqb-false, eq-eqb, or_left, or_right}
use Rattle.std.proofs.lemmas.List.Elements.{All-contains, Contains-append_cases, Contains-append_left, Contains-append_right}
use Rattle.std.proofs.lemmas.List.{flat_map_more, map-append}
use Rattle.std.proofs.lemmas.List.Concat.{flat_map-cons}
use Rattle.bfs_log.specs.Headers.{header, message_header}
use Rattle.bfs_log.specs.Logs.{Log, as_messages, headers, message_at}
use Rattle.bfs_log.proofs.Public.{no_view, numbers_next}
use Rattle.bfs_messages.specs.Signing.{as_message}
use Rattle.bfs_messages.specs.declared.message.Message.{Message}
use Rattle.bfs_messages.specs.declared.message.Message.TheVariants.{Order}
use Rattle.bfs_messages.specs.declared.signed.Signed.{Signed}
use Rattle.bfs_messages.specs.declared.order_messages.OrderMessage.{OrderMessage}
use Rattle.bfs_messages.specs.declared.order_messages.OrderMessage.TheVariants.{PrePrepare, Prepare, Commit, Checkpoint}
use Rattle.bfs_votes.specs.Votes.{Header, SlotsDiffer, has_slot, is_slot, is_taken}
use Rattle.bfs_order.specs.Laws.Logs.{IsInWindow}
use Rattle.bfs_order.specs.Laws.Resent.{AllOfItIsResent, WhatIsResentIsOwn}
use Rattle.bfs_order.specs.Replica.Resending.{are_together, is_resent, needs_above, own_answers, own_message, resent, resent_of}
use Rattle.bfs_order.specs.Replica.States.{State}
use Rattle.bfs_order.specs.declared.resending.Lag.{Lag}
use Rattle.bfs_order.proofs.Executed.{found}
use Rattle.bfs_model.specs.Server.Limits.{log_size}

-- Each stands in the log --------------------------------------------------------------------------------------------------------

abbrev In : (P : Signed OrderMessage → Type 0) → Log → Type 0
In P log = (m : Signed OrderMessage) → Contains log m → P m

none : (P : Signed OrderMessage → Type 0) → In P []
none P m i = absurd (let small = i.1 in omega arith)

both : (P : Signed OrderMessage → Type 0) (xs ys : Log) → In P xs → In P ys → In P (xs ++ ys)
both P xs ys one other m i = elim (Contains-append_cases xs ys m i) [ inl j ↦ one m j | inr j ↦ other m j ]

if_so : (P : Signed OrderMessage → Type 0) (b : Bool) (xs : Log) → (b ≡ true → In P xs) → In P (cond b xs [])
if_so P true xs so = so refl
if_so P false xs so = none P

of_all : (P : Signed OrderMessage → Type 0) (f : ℕ → Log) → ((n : ℕ) → In P (f n)) → (ns : List ℕ) → In P (flat_map f ns)
of_all P f each [] = none P
of_all P f each (n ∷ ns) = subst (In P) (sym (flat_map-cons f n ns)) (both P (f n) (flat_map f ns) (each n) (of_all P f each ns))

only : (m x : Signed OrderMessage) → Contains (x ∷ []) m → x ≡ m
only m x (zero, small, is) = is
only m x (suc k, small, is) = absurd (omega (arith, small))

abbrev IsIt : State → Lag → Signed OrderMessage → Type 0
IsIt s to m = Contains s.log m × (is_resent s to (header m) ≡ true)

slot_of : (tag sender view number : ℕ) (h : Header) → is_slot tag sender view number h ≡ true → (h.tag ≡ tag) × (h.sender ≡ sender) × (h.view ≡ view) × (h.number ≡ number)
slot_of tag sender view number h e =
    let a = and_parts (eqb h.tag tag) _ e in
    let b = and_parts (eqb h.sender sender) _ a.1 in
    let c = and_parts (eqb h.view view) (eqb h.number number) b.1 in
    (eqb-true h.tag tag a.0, eqb-true h.sender sender b.0, eqb-true h.view view c.0, eqb-true h.number number c.1)

own_in : (P : Signed OrderMessage → Type 0) (s : State) (tag view number : ℕ)
    → ((m : Signed OrderMessage) → Contains s.log m → is_slot tag s.me view number (header m) ≡ true → P m) → In P (own_message s tag view number)
own_in P s tag view number each = go (message_at s.log tag s.me view number) refl
  where
    go : (o : Option (Signed OrderMessage)) → message_at s.log tag s.me view number ≡ o → In P (option_to_list o)
    go None e = none P
    go (Some x) e = λ m i.
        let it = found (λ m. is_slot tag s.me view number (header m)) s.log x e in
        subst P (only m x i) (each x it.there it.passes)

vote_is : (s : State) (to : Lag) (tag number : ℕ) → are_together s to ≡ true → ltb (needs_above to tag) number ≡ true
    → (m : Signed OrderMessage) → Contains s.log m → is_slot tag s.me s.view number (header m) ≡ true → IsIt s to m
vote_is s to tag number together above m i e =
    let h = header m in
    let at = slot_of tag s.me s.view number h e in
    let needed : ltb (needs_above to h.tag) h.number ≡ true = ap (λ t. ltb (needs_above to t) h.number) at.0 ∙ ap (ltb (needs_above to tag)) at.3 ∙ above in
    let there : (eqb h.tag 5 || (are_together s to && eqb h.view s.view)) ≡ true = or_right (eqb h.tag 5) _ (and_from _ _ together (eq-eqb h.view s.view at.2)) in
    (i, and_from _ _ (eq-eqb h.sender s.me at.1) (and_from _ _ needed there))

told_is : (s : State) (to : Lag) (number : ℕ) → ltb to.stable number ≡ true → (m : Signed OrderMessage) → Contains s.log m → is_slot 5 s.me 0 number (header m) ≡ true → IsIt s to m
told_is s to number above m i e =
    let h = header m in
    let at = slot_of 5 s.me 0 number h e in
    let needed : ltb (needs_above to h.tag) h.number ≡ true = ap (λ t. ltb (needs_above to t) h.number) at.0 ∙ ap (ltb to.stable) at.3 ∙ above in
    let there : (eqb h.tag 5 || (are_together s to && eqb h.view s.view)) ≡ true = or_left (eqb h.tag 5) _ (eq-eqb h.tag 5 at.0) in
    (i, and_from _ _ (eq-eqb h.sender s.me at.1) (and_from _ _ needed there))

pub what_is_resent_is_own : WhatIsResentIsOwn
what_is_resent_is_own s to m i = of_all P (resent_of s to) each (range_with_len s.low (log_size + 1)) m i
  where
    P : Signed OrderMessage → Type 0
    P = IsIt s to

    proposal : (number : ℕ) → (are_together s to && ltb to.last number) ≡ true → In P (own_message s 2 s.view number)
    proposal number e =
        let parts = and_parts (are_together s to) (ltb to.last number) e in
        own_in P s 2 s.view number (vote_is s to 2 number parts.0 parts.1)

    own : (number : ℕ) → (are_together s to && ltb to.stable number) ≡ true → In P (own_answers s number)
    own number e =
        let parts = and_parts (are_together s to) (ltb to.stable number) e in
        both P _ _ (own_in P s 3 s.view number (vote_is s to 3 number parts.0 parts.1)) (own_in P s 4 s.view number (vote_is s to 4 number parts.0 parts.1))

    each : (number : ℕ) → In P (resent_of s to number)
    each number =
        both P _ _ (if_so P (are_together s to && ltb to.last number) (own_message s 2 s.view number) (proposal number))
        (both P _ _ (if_so P (are_together s to && ltb to.stable number) (own_answers s number) (own number))
        (if_so P (ltb to.stable number) (own_message s 5 0 number) (λ e. own_in P s 5 0 number (told_is s to number e))))

-- Nothing is left out -----------------------------------------------------------------------------------------------------------

at_once : (x : Signed OrderMessage) → Contains (x ∷ []) x
at_once x = (0, omega arith, refl)

in_if : (b : Bool) (xs : Log) (m : Signed OrderMessage) → b ≡ true → Contains xs m → Contains (cond b xs []) m
in_if true xs m e i = i
in_if false xs m e i = absurd cc

in_either : (f : ℕ → Log) (m : Signed OrderMessage) (n a : ℕ) (rest : Log) (b : Bool) → eqb n a ≡ b → Contains (f n) m → (eqb n a ≡ false → Contains rest m) → Contains (f a ++ rest) m
in_either f m n a rest true e i later = Contains-append_left (f a) rest m (subst (λ k. Contains (f k) m) (eqb-true n a e) i)
in_either f m n a rest false e i later = Contains-append_right (f a) rest m (later e)

in_one : (f : ℕ → Log) (m : Signed OrderMessage) (n a count : ℕ) → a ≤ n → n < a + count → Contains (f n) m → Contains (flat_map f (range_with_len a count)) m
in_one f m n a zero from below i = absurd (omega arith)
in_one f m n a (suc count) from below i =
    subst (λ (l : Log). Contains l m) (sym (flat_map-cons f a (range_with_len (a + 1) count)))
    (in_either f m n a (flat_map f (range_with_len (a + 1) count)) (eqb n a) refl i (λ e. let ne = eqb-false n a e in in_one f m n (a + 1) count (omega arith) (omega arith) i))

-- who stands in a list has its slot there
taken_at : (tag sender view number : ℕ) (xs : Log) (m : Signed OrderMessage) → Contains xs m → is_slot tag sender view number (header m) ≡ true → has_slot (headers xs) tag sender view number ≡ true
taken_at tag sender view number [] m i e = absurd (let small = i.1 in omega arith)
taken_at tag sender view number (x ∷ xs) m (zero, small, is) e = or_left _ (has_slot (headers xs) tag sender view number) (subst (λ (y : Signed OrderMessage). is_slot tag sender view number (header y) ≡ true) (sym is) e)
taken_at tag sender view number (x ∷ xs) m (suc k, small, is) e = or_right (is_slot tag sender view number (header x)) _ (taken_at tag sender view number xs m (k, omega (arith, small), is) e)

found_later : (tag sender view number : ℕ) (x : Signed OrderMessage) (xs : Log) (m : Signed OrderMessage) → is_taken (headers xs) (header x) ≡ false → Contains xs m → is_slot tag sender view number (header m) ≡ true
    → (b : Bool) → is_slot tag sender view number (header x) ≡ b → message_at xs tag sender view number ≡ Some m → cond (is_slot tag sender view number (header x)) (Some x) (message_at xs tag sender view number) ≡ Some m
found_later tag sender view number x xs m free i e false other later = rw other later
found_later tag sender view number x xs m free i e true same later =
    let h = header x in
    let at = slot_of tag sender view number h same in
    let again : is_slot h.tag h.sender h.view h.number (header m) ≡ true = rw (at.0, at.1, at.2, at.3) e in
    absurd (let taken = taken_at h.tag h.sender h.view h.number xs m i again in cc)

-- and is found by it
found_by : (tag sender view number : ℕ) (xs : Log) (m : Signed OrderMessage) → SlotsDiffer (headers xs) → Contains xs m → is_slot tag sender view number (header m) ≡ true → message_at xs tag sender view number ≡ Some m
found_by tag sender view number [] m differ i e = absurd (let small = i.1 in omega arith)
found_by tag sender view number (x ∷ xs) m differ (zero, small, is) e =
    ap (λ (b : Bool). cond b (Some x) (message_at xs tag sender view number)) (subst (λ (y : Signed OrderMessage). is_slot tag sender view number (header y) ≡ true) (sym is) e) ∙ ap Some is
found_by tag sender view number (x ∷ xs) m differ (suc k, small, is) e =
    let rest : Contains xs m = (k, omega (arith, small), is) in
    found_later tag sender view number x xs m differ.0 rest e (is_slot tag sender view number (header x)) refl (found_by tag sender view number xs m differ.1 rest e)

window_of : (low : ℕ) (xs : Log) (m : Signed OrderMessage) → All (IsInWindow low) (headers xs) → Contains xs m → IsInWindow low (header m)
window_of low xs m all i = All-contains (IsInWindow low) (headers xs) (header m) all (there xs m i)
  where
    there : (xs : Log) (m : Signed OrderMessage) → Contains xs m → Contains (headers xs) (header m)
    there [] m i = absurd (let small = i.1 in omega arith)
    there (x ∷ xs) m (zero, small, is) = (0, omega arith, ap header is)
    there (x ∷ xs) m (suc k, small, is) = Contains-append_right (header x ∷ []) (headers xs) (header m) (there xs m (k, omega (arith, small), is))

vote_tag : (x : OrderMessage) → eqb (message_header x).tag 5 ≡ false → ((message_header x).tag ≡ 2) ⊎ (((message_header x).tag ≡ 3) ⊎ ((message_header x).tag ≡ 4))
vote_tag (PrePrepare proposal) other = inl refl
vote_tag (Prepare vote) other = inr (inl refl)
vote_tag (Commit vote) other = inr (inr refl)
vote_tag (Checkpoint checkpoint) other = absurd cc

pub all_of_it_is_resent : AllOfItIsResent
all_of_it_is_resent s to m differ windowed i e = go (eqb h.tag 5) refl
  where
    h : Header
    h = header m

    own : h.sender ≡ s.me
    own = eqb-true h.sender s.me (and_parts (eqb h.sender s.me) _ e).0

    rest : (ltb (needs_above to h.tag) h.number && (eqb h.tag 5 || (are_together s to && eqb h.view s.view))) ≡ true
    rest = (and_parts (eqb h.sender s.me) _ e).1

    needed : (tag : ℕ) → h.tag ≡ tag → ltb (needs_above to tag) h.number ≡ true
    needed tag t = ap (λ k. ltb (needs_above to k) h.number) (sym t) ∙ (and_parts (ltb (needs_above to h.tag) h.number) _ rest).0

    window : IsInWindow s.low h
    window = window_of s.low s.log m windowed i

    by_number : Contains (resent_of s to h.number) m → Contains (resent s to) m
    by_number j = let w = window in in_one (resent_of s to) m h.number s.low (log_size + 1) w.from (omega (arith, w.to)) j

    in_slot : (tag view : ℕ) → h.tag ≡ tag → h.view ≡ view → Contains (own_message s tag view h.number) m
    in_slot tag view t v =
        let is = and_from _ _ (eq-eqb h.tag tag t) (and_from _ _ (eq-eqb h.sender s.me own) (and_from _ _ (eq-eqb h.view view v) (eq-eqb h.number h.number refl))) in
        subst (λ (o : Option (Signed OrderMessage)). Contains (option_to_list o) m) (sym (found_by tag s.me view h.number s.log m differ i is)) (at_once m)

    first : List (Signed OrderMessage)
    first = cond (are_together s to && ltb to.last h.number) (own_message s 2 s.view h.number) []

    second : List (Signed OrderMessage)
    second = cond (are_together s to && ltb to.stable h.number) (own_answers s h.number) []

    third : List (Signed OrderMessage)
    third = cond (ltb to.stable h.number) (own_message s 5 0 h.number) []

    answered : are_together s to ≡ true → ltb to.stable h.number ≡ true → Contains (own_answers s h.number) m → Contains (resent s to) m
    answered together above j =
        by_number (Contains-append_right first (second ++ third) m (Contains-append_left second third m
        (in_if (are_together s to && ltb to.stable h.number) (own_answers s h.number) m (and_from _ _ together above) j)))

    go : (b : Bool) → eqb h.tag 5 ≡ b → Contains (resent s to) m
    go true told =
        let tag = eqb-true h.tag 5 told in
        by_number (Contains-append_right first (second ++ third) m (Contains-append_right second third m
        (in_if (ltb to.stable h.number) (own_message s 5 0 h.number) m (needed 5 tag) (in_slot 5 0 tag (no_view m.message tag)))))
    go false other =
        let right : (are_together s to && eqb h.view s.view) ≡ true = rw other at (and_parts (ltb (needs_above to h.tag) h.number) _ rest).1 in
        let a = and_parts (are_together s to) (eqb h.view s.view) right in
        let view = eqb-true h.view s.view a.1 in
        let p = own_message s 3 s.view h.number in
        let c = own_message s 4 s.view h.number in
        elim (vote_tag m.message other) [
          | inl t ↦ by_number (Contains-append_left first (second ++ third) m
              (in_if (are_together s to && ltb to.last h.number) (own_message s 2 s.view h.number) m (and_from _ _ a.0 (needed 2 t)) (in_slot 2 s.view t view)))
          | inr late ↦ elim late [
            | inl t ↦ answered a.0 (needed 3 t) (Contains-append_left p c m (in_slot 3 s.view t view))
            | inr t ↦ answered a.0 (needed 4 t) (Contains-append_right p c m (in_slot 4 s.view t view))
          ]
        ]

-- One number more -----------------------------------------------------------------------------------------------------------------

pub one_more : (s : State) (to : Lag) (n : ℕ) (old new : List (Signed Message)) → new ≡ old ++ as_messages (resent_of s to n) → old ≡ as_messages (flat_map (resent_of s to) (range_with_len s.low (n - s.low)))
    → s.low ≤ n → new ≡ as_messages (flat_map (resent_of s to) (range_with_len s.low (n + 1 - s.low)))
one_more s to n old new grown before from =
    let f = resent_of s to in
    let k = n - s.low in
    let next : n + 1 - s.low ≡ k + 1 = omega (arith, from) in
    grown ∙ ap (λ (l : List (Signed Message)). l ++ as_messages (f n)) before ∙ sym (map-append (as_message Order) (flat_map f (range_with_len s.low k)) (f n))
    ∙ ap as_messages (flat_map_more f [] (range_with_len s.low k) n)
    ∙ sym (ap (λ j. as_messages (flat_map f (range_with_len s.low j))) next ∙ ap (λ (l : List ℕ). as_messages (flat_map f l)) (numbers_next s.low k n (omega (arith, from))))
