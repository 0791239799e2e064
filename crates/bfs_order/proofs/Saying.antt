-- What a replica sends: in its own name, one digest for a number of a view, of what its log has.
use Rattle.std.proofs.Common.{◌≡◌, ◌⊎◌, inl, inr, ℕ, ◌<◌, ◌≤◌, true, false, ltb, List, [], ◌∷◌, ◌++◌, refl, sym, subst, ◌∙◌, append_assoc, arith}
use Rattle.std.proofs.lemmas.Bool.{or_cases, or_left, lt-ltb, cases_lt}
use Rattle.std.proofs.lemmas.List.{append-nil}
use Rattle.bfs_votes.specs.Votes.{Header, SlotsDiffer, is_taken, says, told, Told, primary}
use Rattle.bfs_log.specs.Headers.{header}
use Rattle.bfs_log.specs.Logs.{Log, headers, stays, kept_after}
use Rattle.bfs_log.proofs.Public.{differ_pushed, differ_kept}
use Rattle.bfs_messages.specs.declared.signed.Signed.{Signed}
use Rattle.bfs_messages.specs.declared.order_messages.OrderMessage.{OrderMessage}
use Rattle.bfs_log.specs.Certificates.{checkpoints_in}
use Rattle.bfs_order.specs.Replica.States.{State, fresh}
use Rattle.bfs_order.specs.Laws.Calls.{Call, outcome, after, sent_by, IsSameReplica}
use Rattle.bfs_order.specs.Laws.Sent.{SpeaksForItself, SaysOneDigest, KeepsWhatItSaid}
use Rattle.bfs_order.proofs.Telling.{says_is, told_cases, told_left, told_right, one_is, slot_not_told, told_kept}
use Rattle.bfs_order.proofs.Moving.{Fact, Moves, CanTake, IsOwn, call_goes}
use Rattle.bfs_order.proofs.Putting.{each_keeps}
use Rattle.bfs_order.proofs.KeptLogs.{Anything, fits_anything, same_replica}

record Said (f me low : ℕ) (log sent : Log) : Type 0 where
  slots : SlotsDiffer (headers log)
  -- it speaks in its own name alone
  names : (t k v n : ℕ) (d : List ℕ) → Told (headers sent) t k v n d → k ≡ me
  -- what it says stands in the log, and is of the PRE-PREPARE there, until that is dropped
  present : (t k v n : ℕ) (d : List ℕ) → t < 5 → Told (headers sent) t k v n d → (n ≤ low) ⊎ Told (headers log) t k v n d
  linked : (t k v n : ℕ) (d : List ℕ) → t < 5 → Told (headers sent) t k v n d → (n ≤ low) ⊎ Told (headers log) 2 (primary f v) v n d
  -- what it ever said for a number of a view has one digest
  one : (t u k j v n : ℕ) (d e : List ℕ) → t < 5 → u < 5 → Told (headers sent) t k v n d → Told (headers sent) u j v n e → d ≡ e

not_nothing : (t k v n : ℕ) (d : List ℕ) → Told [] t k v n d → ⊥
not_nothing t k v n d e = absurd cc

at_first : (f me : ℕ) → Said f me 0 [] []
at_first f me = record {
  slots = tt;
  names = λ t k v n d x. absurd (not_nothing t k v n d x);
  present = λ t k v n d lt x. absurd (not_nothing t k v n d x);
  linked = λ t k v n d lt x. absurd (not_nothing t k v n d x);
  one = λ t u k j v n d e lt gt x y. absurd (not_nothing t k v n d x);
}

-- where slots differ, one is told at a place
single : (hs : List Header) (t k v n : ℕ) (d e : List ℕ) → SlotsDiffer hs → Told hs t k v n d → Told hs t k v n e → d ≡ e
single [] t k v n d e differ x y = absurd cc
single (h ∷ hs) t k v n d e differ x y =
    go (single hs t k v n d e differ.1) (or_cases (says t k v n d h) (told hs t k v n d) x) (or_cases (says t k v n e h) (told hs t k v n e) y)
  where
    apart : (a b : List ℕ) → says t k v n a h ≡ true → Told hs t k v n b → ⊥
    apart a b here there =
        let i = says_is h t k v n a here in
        slot_not_told hs t k v n b (rw (i.tag, i.sender, i.view, i.number) at differ.0) there

    go : (Told hs t k v n d → Told hs t k v n e → d ≡ e) → (says t k v n d h ≡ true) ⊎ Told hs t k v n d → (says t k v n e h ≡ true) ⊎ Told hs t k v n e → d ≡ e
    go later (inl a) (inl b) = sym (says_is h t k v n d a).digest ∙ (says_is h t k v n e b).digest
    go later (inl a) (inr b) = absurd (apart d e a b)
    go later (inr a) (inl b) = absurd (apart e d b a)
    go later (inr a) (inr b) = later a b

-- what is told or no longer above the low mark, in a log that has more
still : (low : ℕ) (log : Log) (m : Signed OrderMessage) (t k v n : ℕ) (d : List ℕ) → (n ≤ low) ⊎ Told (headers log) t k v n d → (n ≤ low) ⊎ Told (headers (log ++ m ∷ [])) t k v n d
still low log m t k v n d (inl le) = inl le
still low log m t k v n d (inr x) = inr (told_left log (m ∷ []) t k v n d x)

-- and in one of which what stands up to a higher mark is dropped
left_over : (low number : ℕ) (digest : List ℕ) (log : Log) (t k v n : ℕ) (d : List ℕ) → low < number → (n ≤ low) ⊎ Told (headers log) t k v n d
    → (n ≤ number) ⊎ Told (headers (kept_after number digest log)) t k v n d
left_over low number digest log t k v n d rises (inl le) = inl (omega (arith, le, rises))
left_over low number digest log t k v n d rises (inr x) = go (cases_lt number n)
  where
    stay : (h : Header) → number < n → says t k v n d h ≡ true → stays number digest h ≡ true
    stay h lt e = or_left (ltb number h.number) _ (lt-ltb number h.number (omega (arith, lt, (says_is h t k v n d e).number)))

    go : (number < n) ⊎ (n ≤ number) → (n ≤ number) ⊎ Told (headers (kept_after number digest log)) t k v n d
    go (inl lt) = inr (told_kept (says t k v n d) (stays number digest) log (λ h e. stay h lt e) ∙ x)
    go (inr le) = inl le

-- a message of another sender
free_said : (f me low : ℕ) (sent log : Log) (m : Signed OrderMessage) → Said f me low log sent → is_taken (headers log) (header m) ≡ false → Said f me low (log ++ m ∷ []) sent
free_said f me low sent log m said free = record {
  slots = differ_pushed log m said.slots free;
  names = said.names;
  present = λ t k v n d lt x. still low log m t k v n d (said.present t k v n d lt x);
  linked = λ t k v n d lt x. still low log m 2 (primary f v) v n d (said.linked t k v n d lt x);
  one = said.one;
}

-- one of its own
say_said : (f me view low : ℕ) (log sent : Log) (m : Signed OrderMessage) → Said f me low log sent → CanTake f view low log m → IsOwn f me log m → Said f me low (log ++ m ∷ []) (sent ++ m ∷ [])
say_said f me view low log sent m said can own = record {
  slots = slots;
  names = λ t k v n d x. name t k v n d (told_cases sent (m ∷ []) t k v n d x);
  present = λ t k v n d lt x. here t k v n d lt (told_cases sent (m ∷ []) t k v n d x);
  linked = λ t k v n d lt x. link t k v n d lt (told_cases sent (m ∷ []) t k v n d x);
  one = λ t u k j v n d e lt gt x y. same t u k j v n d e lt gt (told_cases sent (m ∷ []) t k v n d x) (told_cases sent (m ∷ []) u j v n e y);
}
  where
    slots : SlotsDiffer (headers (log ++ m ∷ []))
    slots = differ_pushed log m said.slots can.free

    name : (t k v n : ℕ) (d : List ℕ) → Told (headers sent) t k v n d ⊎ Told (headers (m ∷ [])) t k v n d → k ≡ me
    name t k v n d (inl x) = said.names t k v n d x
    name t k v n d (inr x) = sym (one_is m t k v n d x).sender ∙ own.mine

    here : (t k v n : ℕ) (d : List ℕ) → t < 5 → Told (headers sent) t k v n d ⊎ Told (headers (m ∷ [])) t k v n d → (n ≤ low) ⊎ Told (headers (log ++ m ∷ [])) t k v n d
    here t k v n d lt (inl x) = still low log m t k v n d (said.present t k v n d lt x)
    here t k v n d lt (inr x) = inr (told_right log (m ∷ []) t k v n d x)

    own_link : (t k v n : ℕ) (d : List ℕ) → t < 5 → Told (headers (m ∷ [])) t k v n d → (low < n) × Told (headers (log ++ m ∷ [])) 2 (primary f v) v n d
    own_link t k v n d lt x =
        let i = one_is m t k v n d x in
        let small : (header m).tag < 5 = omega (arith, lt, i.tag) in
        (omega (arith, can.above, i.number), rw (i.view, i.number, i.digest) at (own.backed small))

    link : (t k v n : ℕ) (d : List ℕ) → t < 5 → Told (headers sent) t k v n d ⊎ Told (headers (m ∷ [])) t k v n d → (n ≤ low) ⊎ Told (headers (log ++ m ∷ [])) 2 (primary f v) v n d
    link t k v n d lt (inl x) = still low log m 2 (primary f v) v n d (said.linked t k v n d lt x)
    link t k v n d lt (inr x) = inr (own_link t k v n d lt x).1

    -- what it said before for the same number of the view
    before : (t k v n : ℕ) (d e : List ℕ) → t < 5 → low < n → Told (headers sent) t k v n d → Told (headers (log ++ m ∷ [])) 2 (primary f v) v n e → d ≡ e
    before t k v n d e lt above x y = old (still low log m 2 (primary f v) v n d (said.linked t k v n d lt x))
      where
        old : (n ≤ low) ⊎ Told (headers (log ++ m ∷ [])) 2 (primary f v) v n d → d ≡ e
        old (inl le) = absurd (omega (arith, le, above))
        old (inr z) = single (headers (log ++ m ∷ [])) 2 (primary f v) v n d e slots z y

    same : (t u k j v n : ℕ) (d e : List ℕ) → t < 5 → u < 5 → Told (headers sent) t k v n d ⊎ Told (headers (m ∷ [])) t k v n d
        → Told (headers sent) u j v n e ⊎ Told (headers (m ∷ [])) u j v n e → d ≡ e
    same t u k j v n d e lt gt (inl x) (inl y) = said.one t u k j v n d e lt gt x y
    same t u k j v n d e lt gt (inl x) (inr y) = let it = own_link u j v n e gt y in before t k v n d e lt it.0 x it.1
    same t u k j v n d e lt gt (inr x) (inl y) = let it = own_link t k v n d lt x in sym (before u j v n e d gt it.0 y it.1)
    same t u k j v n d e lt gt (inr x) (inr y) = sym (one_is m t k v n d x).digest ∙ (one_is m u j v n e y).digest

raise_said : (f me low : ℕ) (log sent : Log) (number : ℕ) (digest : List ℕ) → Said f me low log sent → low < number → Said f me number (kept_after number digest log) sent
raise_said f me low log sent number digest said rises = record {
  slots = differ_kept (stays number digest) log said.slots;
  names = said.names;
  present = λ t k v n d lt x. left_over low number digest log t k v n d rises (said.present t k v n d lt x);
  linked = λ t k v n d lt x. left_over low number digest log 2 (primary f v) v n d rises (said.linked t k v n d lt x);
  one = said.one;
}

abbrev SaidSo : Fact
SaidSo f me view low log sent = Said f me low log sent

said_move : Moves Anything SaidSo
said_move = record {
  take = λ f me view low log sent m said can good. free_said f me low sent log m said can.free;
  say = λ f me view low log sent m said can own good. say_said f me view low log sent m said can own;
  settle = λ f me view low log sent n d said above is. raise_said f me low log sent n d said above;
  enter = λ f me view later low log sent kept above. kept;
  install = λ keys f me view low log sent c said above is good.
      each_keeps (λ l. Said f me c.number l sent) Anything (λ l m kept any free. free_said f me c.number sent l m kept free) (kept_after c.number c.digest log) (checkpoints_in c) good
      (raise_said f me low log sent c.number c.digest said above);
}

abbrev SaidIn : State → Log → Type 0
SaidIn s sent = Said s.f s.me s.low s.log sent

said_after : (s : State) (sent : Log) (calls : List Call) → SaidIn s sent → SaidIn (after s calls) (sent ++ sent_by s calls)
said_after s sent [] said = subst (λ (l : Log). SaidIn s l) (sym (append-nil sent)) said
said_after s sent (call ∷ calls) said =
    let o = outcome s call in
    let goes = call_goes Anything SaidSo said_move s sent call said (fits_anything s call) in
    subst (λ (l : Log). SaidIn (after o.now calls) l) (append_assoc sent o.sent (sent_by o.now calls)) (said_after o.now (sent ++ o.sent) calls goes.kept)

begins : (f me : ℕ) (calls : List Call) → SaidIn (after (fresh f me) calls) (sent_by (fresh f me) calls)
begins f me calls = said_after (fresh f me) [] calls (at_first f me)

same_after : (s : State) (calls : List Call) → IsSameReplica (after s calls) s
same_after s [] = (refl, refl)
same_after s (call ∷ calls) =
    let later = same_after (outcome s call).now calls in
    let now = same_replica s call in
    (later.0 ∙ now.0, later.1 ∙ now.1)

pub speaks_for_itself : SpeaksForItself
speaks_for_itself f me calls t k v n d x = (begins f me calls).names t k v n d x ∙ (same_after (fresh f me) calls).1

pub says_one_digest : SaysOneDigest
says_one_digest f me calls t u v n d e lt gt x y = (begins f me calls).one t u me me v n d e lt gt x y

pub keeps_what_it_said : KeepsWhatItSaid
keeps_what_it_said f me calls t v n d lt x = (begins f me calls).present t me v n d lt x
