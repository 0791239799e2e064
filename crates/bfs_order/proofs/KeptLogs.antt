-- What calls keep of a log: one message a slot, the window, the certificate of the stable checkpoint.
use Rattle.std.proofs.Common.{◌≡◌, ◌⊎◌, inl, inr, ℕ, ◌+◌, ◌*◌, ◌<◌, Bool, true, false, cond, eqb, ltb, ◌&&◌, List, [], ◌∷◌, ◌++◌, refl, subst, ◌∙◌, arith}
use Rattle.std.specs.Prelude.{All, Option, Some, None, bytes_eq, filter}
use Rattle.std.proofs.lemmas.Bool.{and_parts, and_from, or_cases, or_left, or_right, eqb-true, eq-eqb, ltb-true, leb-true, le-leb}
use Rattle.std.proofs.lemmas.List.{map-append}
use Rattle.std.proofs.lemmas.List.Elements.{All-nil, All-cons, All-head, All-tail, All-push, All-same, All-weaker}
use Rattle.std.proofs.lemmas.Slice.Eq.{bytes_eq-Decides}
use Rattle.bfs_auth.specs.Keys.{Keys}
use Rattle.bfs_votes.specs.Votes.{Header, SlotsDiffer, is_slot, has_slot, is_taken, says, told, Told, tellers, is_stable, replicas}
use Rattle.bfs_log.specs.Headers.{header}
use Rattle.bfs_log.specs.Logs.{Log, headers, stays, kept_after}
use Rattle.bfs_messages.specs.declared.signed.Signed.{Signed}
use Rattle.bfs_messages.specs.declared.order_messages.OrderMessage.{OrderMessage}
use Rattle.bfs_log.specs.Certificates.{StableCheckpoint, checkpoints_in, has_sender}
use Rattle.bfs_order.specs.Replica.Installing.{with_new, with_each, certified}
use Rattle.bfs_order.specs.Replica.States.{State, fresh}
use Rattle.bfs_order.specs.Laws.Calls.{Call, Takes, Proposes, Executes, Checkpoints, Installs, Leaves, Enters, outcome, after, CallsKeepTheReplica, IsKept, IsAlways}
use Rattle.bfs_order.specs.Laws.Logs.{HasDistinctSlots, IsInWindow, IsWindowed, IsCertified, HasCertificate}
use Rattle.bfs_order.proofs.Telling.{says_is, is_said, slot_is, told_left, told_right, is_one, told_kept}
use Rattle.bfs_order.proofs.Moving.{Fact, Moves, Speaks, Shown, Fits, CanTake, call_goes}
use Rattle.bfs_log.proofs.Public.{IsVoucher, Vouched, differ_kept, differ_pushed, no_view, senders_counted, vouched}
use Rattle.bfs_order.proofs.Putting.{each_keeps}
use Rattle.bfs_votes.proofs.Public.{more}

-- Whatever is let in ------------------------------------------------------------------------------------------------------

abbrev pub Anything : Signed OrderMessage → Type 0
Anything m = Unit {0}

pub anything : (ms : Log) → All Anything ms
anything ms k d lt = tt

speaks_anything : (keys : Keys) (f me : ℕ) → Speaks Anything keys f me
speaks_anything keys f me = record { prepare = λ v n d e. tt; commit = λ v n d. tt; checkpoint = λ n d. tt }

shown_anything : (keys : Keys) (s : State) (stable : Option StableCheckpoint) → Shown Anything keys s stable
shown_anything keys s None = tt
shown_anything keys s (Some c) = λ is. anything (checkpoints_in c)

pub fits_anything : (s : State) (call : Call) → Fits Anything s call
fits_anything s (Takes keys m) = (λ none. tt, speaks_anything keys s.f s.me)
fits_anything s (Proposes keys batch) = (λ none. tt, speaks_anything keys s.f s.me)
fits_anything s Executes = tt
fits_anything s (Checkpoints keys n d) = speaks_anything keys s.f s.me
fits_anything s (Installs keys c) = λ is. anything (checkpoints_in c)
fits_anything s (Leaves v) = tt
fits_anything s (Enters keys v stable ms) = (λ k d lt two led. tt, speaks_anything keys s.f s.me, shown_anything keys s stable)

pub same_replica : CallsKeepTheReplica
same_replica s call =
    let goes = call_goes Anything (λ f me view low log sent. Unit {0}) (record {
      take = λ f me view low log sent m kept can good. tt;
      say = λ f me view low log sent m kept can own good. tt;
      settle = λ f me view low log sent n d kept above is. tt;
      enter = λ f me view later low log sent kept above. tt;
      install = λ keys f me view low log sent c kept above is good. tt;
    }) s [] call tt (fits_anything s call) in
    (goes.same_f, goes.same_me)

after_calls : (P : State → Type 0) → ((s : State) (call : Call) → P s → P (outcome s call).now) → (s : State) (calls : List Call) → P s → P (after s calls)
after_calls P keeps s [] holds = holds
after_calls P keeps s (call ∷ calls) holds = after_calls P keeps (outcome s call).now calls (keeps s call holds)

pub always : (P : State → Type 0) → IsKept P → IsAlways P
always P kept f me calls = after_calls P kept.1 (fresh f me) calls (kept.0 f me)

-- Headers of a log --------------------------------------------------------------------------------------------------------

pub all_more : (P : Header → Type 0) (log : Log) (m : Signed OrderMessage) → All P (headers log) → P (header m) → All P (headers (log ++ m ∷ []))
all_more P log m all one = All-same P (headers (log ++ m ∷ [])) (headers log ++ header m ∷ []) (map-append header log (m ∷ [])) (All-push P (headers log) (header m) all one)

pub all_kept : (P Q : Header → Type 0) (keep : Header → Bool) → ((h : Header) → keep h ≡ true → P h → Q h) → (log : Log) → All P (headers log) → All Q (headers (filter (λ m. keep (header m)) log))
all_kept P Q keep fits [] all = All-nil Q
all_kept P Q keep fits (m ∷ ms) all = go (keep (header m)) refl (all_kept P Q keep fits ms (All-tail P (header m) (headers ms) all))
  where
    rest : Log
    rest = filter (λ m. keep (header m)) ms

    go : (b : Bool) → keep (header m) ≡ b → All Q (headers rest) → All Q (headers (cond b (m ∷ rest) rest))
    go true is later = All-cons Q (header m) (headers rest) (fits (header m) is (All-head P (header m) (headers ms) all)) later
    go false is later = later

-- what stays is above a number, or a CHECKPOINT of that number and digest
stays_cases : (n : ℕ) (d : List ℕ) (h : Header) → stays n d h ≡ true → (n < h.number) ⊎ ((h.tag ≡ 5) × (h.number ≡ n) × (h.digest ≡ d))
stays_cases n d h e = go (or_cases (ltb n h.number) ((eqb h.tag 5) && ((eqb h.number n) && bytes_eq h.digest d)) e)
  where
    go : (ltb n h.number ≡ true) ⊎ (((eqb h.tag 5) && ((eqb h.number n) && bytes_eq h.digest d)) ≡ true) → (n < h.number) ⊎ ((h.tag ≡ 5) × (h.number ≡ n) × (h.digest ≡ d))
    go (inl lt) = inl (ltb-true n h.number lt)
    go (inr is) =
        let a = and_parts (eqb h.tag 5) _ is in
        let b = and_parts (eqb h.number n) (bytes_eq h.digest d) a.1 in
        inr (eqb-true h.tag 5 a.0, eqb-true h.number n b.0, (bytes_eq-Decides h.digest d).0 b.1)

-- One message a slot ------------------------------------------------------------------------------------------------------

abbrev Slots : Fact
Slots f me view low log sent = SlotsDiffer (headers log)

slots_move : Moves Anything Slots
slots_move = record {
  take = λ f me view low log sent m kept can good. differ_pushed log m kept can.free;
  say = λ f me view low log sent m kept can own good. differ_pushed log m kept can.free;
  settle = λ f me view low log sent n d kept above is. differ_kept (stays n d) log kept;
  enter = λ f me view later low log sent kept above. kept;
  install = λ keys f me view low log sent c kept above is good.
      each_keeps (λ l. SlotsDiffer (headers l)) Anything (λ l m differ good free. differ_pushed l m differ free) (kept_after c.number c.digest log) (checkpoints_in c) good
      (differ_kept (stays c.number c.digest) log kept);
}

pub slots_kept : IsKept HasDistinctSlots
slots_kept = (λ f me. tt, λ s call kept. (call_goes Anything Slots slots_move s [] call kept (fits_anything s call)).kept)

pub slots_always : IsAlways HasDistinctSlots
slots_always = always HasDistinctSlots slots_kept

-- The window --------------------------------------------------------------------------------------------------------------

abbrev Window : Fact
Window f me view low log sent = All (IsInWindow low) (headers log)

in_window : (f view low : ℕ) (log : Log) (m : Signed OrderMessage) → CanTake f view low log m → IsInWindow low (header m)
in_window f view low log m can = record { from = omega (arith, can.above); above = λ small. can.above; to = can.to }

risen : (low n : ℕ) (d : List ℕ) (h : Header) → low < n → stays n d h ≡ true → IsInWindow low h → IsInWindow n h
risen low n d h above e is = go (stays_cases n d h e)
  where
    go : (n < h.number) ⊎ ((h.tag ≡ 5) × (h.number ≡ n) × (h.digest ≡ d)) → IsInWindow n h
    go (inl lt) = record { from = omega (arith, lt); above = λ small. lt; to = omega (arith, is.to, above) }
    go (inr same) = record { from = omega (arith, same.1); above = λ small. absurd (omega (arith, small, same.0)); to = omega (arith, is.to, above) }

raised : (low : ℕ) (log : Log) (n : ℕ) (d : List ℕ) → low < n → All (IsInWindow low) (headers log) → All (IsInWindow n) (headers (kept_after n d log))
raised low log n d above kept = all_kept (IsInWindow low) (IsInWindow n) (stays n d) (λ h e is. risen low n d h above e is) log kept

voucher_in : (keys : Keys) (f n : ℕ) (d : List ℕ) (m : Signed OrderMessage) → IsVoucher keys f n d m → IsInWindow n (header m)
voucher_in keys f n d m is = record { from = omega (arith, is.number); above = λ small. absurd (omega (arith, small, is.tag)); to = omega (arith, is.number) }

window_move : Moves Anything Window
window_move = record {
  take = λ f me view low log sent m kept can good. all_more (IsInWindow low) log m kept (in_window f view low log m can);
  say = λ f me view low log sent m kept can own good. all_more (IsInWindow low) log m kept (in_window f view low log m can);
  settle = λ f me view low log sent n d kept above is. raised low log n d above kept;
  enter = λ f me view later low log sent kept above. kept;
  install = λ keys f me view low log sent c kept above is good.
      each_keeps (λ l. All (IsInWindow c.number) (headers l)) (IsVoucher keys f c.number c.digest)
      (λ l m all is free. all_more (IsInWindow c.number) l m all (voucher_in keys f c.number c.digest m is))
      (kept_after c.number c.digest log) (checkpoints_in c) (vouched keys f c is).each (raised low log c.number c.digest above kept);
}

pub window_kept : IsKept IsWindowed
window_kept = (λ f me. All-nil (IsInWindow 0), λ s call kept. (call_goes Anything Window window_move s [] call kept (fits_anything s call)).kept)

pub window_always : IsAlways IsWindowed
window_always = always IsWindowed window_kept

-- The certificate ---------------------------------------------------------------------------------------------------------

abbrev Certificate : Fact
Certificate f me view low log sent = (low ≡ 0) ⊎ ((digest : List ℕ) × IsCertified f (headers log) low digest)

abbrev TellsOne : (n : ℕ) (d : List ℕ) → Header → Type 0
TellsOne n d h = h.tag ≡ 5 → h.number ≡ n → h.digest ≡ d

stable_more : (f : ℕ) (hs later : List Header) (n : ℕ) (d : List ℕ) → ((k : ℕ) → Told hs 5 k 0 n d → Told later 5 k 0 n d) → is_stable f hs n d ≡ true → is_stable f later n d ≡ true
stable_more f hs later n d tells is =
    let enough = leb-true (2 * f + 1) (tellers f hs 5 0 n d) is in
    let most = more (λ k. told hs 5 k 0 n d) (λ k. told later 5 k 0 n d) (replicas f) tells in
    le-leb (2 * f + 1) (tellers f later 5 0 n d) (omega (arith, enough, most))

certificate_more : (f me view low : ℕ) (log sent : Log) (m : Signed OrderMessage) → Certificate f me view low log sent → low < (header m).number → Certificate f me view low (log ++ m ∷ []) sent
certificate_more f me view low log sent m (inl none) above = inl none
certificate_more f me view low log sent m (inr (d, is)) above = inr (
  d,
  record {
    stable = stable_more f (headers log) (headers (log ++ m ∷ [])) low d (λ k told_so. told_left log (m ∷ []) 5 k 0 low d told_so) is.stable;
    one = all_more (TellsOne low d) log m is.one (λ five same. absurd (omega (arith, above, same)));
  },
)

said_stays : (n k : ℕ) (d : List ℕ) (h : Header) → says 5 k 0 n d h ≡ true → stays n d h ≡ true
said_stays n k d h e =
    let i = says_is h 5 k 0 n d e in
    or_right (ltb n h.number) _ (and_from (eqb h.tag 5) _ (eq-eqb h.tag 5 i.tag) (and_from (eqb h.number n) (bytes_eq h.digest d) (eq-eqb h.number n i.number) ((bytes_eq-Decides h.digest d).1 i.digest)))

tells_one : (n : ℕ) (d : List ℕ) (h : Header) → stays n d h ≡ true → TellsOne n d h
tells_one n d h e five same = go (stays_cases n d h e)
  where
    go : (n < h.number) ⊎ ((h.tag ≡ 5) × (h.number ≡ n) × (h.digest ≡ d)) → h.digest ≡ d
    go (inl lt) = absurd (omega (arith, lt, same))
    go (inr is) = is.2

one_left : (n : ℕ) (d : List ℕ) (log : Log) → All (TellsOne n d) (headers (kept_after n d log))
one_left n d log = all_kept (λ h. Unit {0}) (TellsOne n d) (stays n d) (λ h e is. tells_one n d h e) log (λ k h lt. tt)

settled_certificate : (f : ℕ) (log : Log) (n : ℕ) (d : List ℕ) → is_stable f (headers log) n d ≡ true → IsCertified f (headers (kept_after n d log)) n d
settled_certificate f log n d is = record {
  stable = stable_more f (headers log) (headers (kept_after n d log)) n d (λ k told_so. told_kept (says 5 k 0 n d) (stays n d) log (λ h e. said_stays n k d h e) ∙ told_so) is;
  one = one_left n d log;
}

-- where no CHECKPOINT tells another digest, who has the place tells that one
slot_tells : (hs : List Header) (k v n : ℕ) (d : List ℕ) → All (TellsOne n d) hs → has_slot hs 5 k v n ≡ true → Told hs 5 k v n d
slot_tells [] k v n d one e = absurd cc
slot_tells (h ∷ hs) k v n d one e = go (slot_tells hs k v n d (All-tail (TellsOne n d) h hs one)) (or_cases (is_slot 5 k v n h) (has_slot hs 5 k v n) e)
  where
    go : (has_slot hs 5 k v n ≡ true → Told hs 5 k v n d) → (is_slot 5 k v n h ≡ true) ⊎ (has_slot hs 5 k v n ≡ true) → Told (h ∷ hs) 5 k v n d
    go later (inl here) =
        let i = slot_is h 5 k v n here in
        or_left (says 5 k v n d h) (told hs 5 k v n d)
        (is_said h 5 k v n d (record { tag = i.tag; sender = i.sender; view = i.view; number = i.number; digest = All-head (TellsOne n d) h hs one i.tag i.number }))
    go later (inr there) = or_right (says 5 k v n d h) (told hs 5 k v n d) (later there)

module _ (keys : Keys) (f n : ℕ) (d : List ℕ) where
  abbrev Vouches : Signed OrderMessage → Type 0
  Vouches = IsVoucher keys f n d

  voucher_one : (log : Log) (m : Signed OrderMessage) → All (TellsOne n d) (headers log) → Vouches m → is_taken (headers log) (header m) ≡ false → All (TellsOne n d) (headers (log ++ m ∷ []))
  voucher_one log m one is free = all_more (TellsOne n d) log m one (λ five same. is.digest)

  new_one : (log : Log) (m : Signed OrderMessage) → All (TellsOne n d) (headers log) → Vouches m → All (TellsOne n d) (headers (with_new log m))
  new_one log m one is = go (is_taken (headers log) (header m)) refl
    where
      go : (b : Bool) → is_taken (headers log) (header m) ≡ b → All (TellsOne n d) (headers (cond b log (log ++ m ∷ [])))
      go true e = one
      go false e = voucher_one log m one is e

  new_told : (log : Log) (m : Signed OrderMessage) → All (TellsOne n d) (headers log) → Vouches m → Told (headers (with_new log m)) 5 (header m).sender 0 n d
  new_told log m one is = go (is_taken (headers log) (header m)) refl
    where
      view : (header m).view ≡ 0
      view = no_view m.message is.tag

      slot : is_taken (headers log) (header m) ≡ true → has_slot (headers log) 5 (header m).sender 0 n ≡ true
      slot e = rw (is.tag, view, is.number) at e

      go : (b : Bool) → is_taken (headers log) (header m) ≡ b → Told (headers (cond b log (log ++ m ∷ []))) 5 (header m).sender 0 n d
      go true e = slot_tells (headers log) (header m).sender 0 n d one (slot e)
      go false e = told_right log (m ∷ []) 5 (header m).sender 0 n d (is_one m 5 (header m).sender 0 n d (record { tag = is.tag; sender = refl; view = view; number = is.number; digest = is.digest }))

  each_told : (log ms : Log) → All Vouches ms → All (TellsOne n d) (headers log) → (k : ℕ) → has_sender ms k ≡ true → Told (headers (with_each log ms)) 5 k 0 n d
  each_told log [] all one k e = absurd cc
  each_told log (m ∷ ms) all one k e =
      go (or_cases (eqb (header m).sender k) (has_sender ms k) e) (each_told (with_new log m) ms (All-tail Vouches m ms all) (new_one log m one (All-head Vouches m ms all)) k)
    where
      go : (eqb (header m).sender k ≡ true) ⊎ (has_sender ms k ≡ true) → (has_sender ms k ≡ true → Told (headers (with_each (with_new log m) ms)) 5 k 0 n d)
          → Told (headers (with_each (with_new log m) ms)) 5 k 0 n d
      go (inl same) later =
          each_keeps (λ l. Told (headers l) 5 k 0 n d) Vouches (λ l x told_so is free. told_left l (x ∷ []) 5 k 0 n d told_so) (with_new log m) ms (All-tail Vouches m ms all)
          (subst (λ (j : ℕ). Told (headers (with_new log m)) 5 j 0 n d) (eqb-true (header m).sender k same) (new_told log m one (All-head Vouches m ms all)))
      go (inr there) later = later there

installed_certificate : (keys : Keys) (f : ℕ) (log : Log) (c : StableCheckpoint) → Vouched keys f c → IsCertified f (headers (certified log c)) c.number c.digest
installed_certificate keys f log c is =
    let ms = checkpoints_in c in
    let n = c.number in
    let d = c.digest in
    let left = kept_after n d log in
    let enough = is.enough in
    let counted = senders_counted (replicas f) ms (All-weaker (IsVoucher keys f n d) (λ m. (header m).sender < replicas f) (λ m v. v.sender) ms is.each) is.differ in
    let most = more (has_sender ms) (λ k. told (headers (certified log c)) 5 k 0 n d) (replicas f) (λ k e. each_told keys f n d left ms is.each (one_left n d log) k e) in
    record {
      stable = le-leb (2 * f + 1) (tellers f (headers (certified log c)) 5 0 n d) (omega (arith, enough, counted, most));
      one = each_keeps (λ l. All (TellsOne n d) (headers l)) (IsVoucher keys f n d) (λ l m one v free. voucher_one keys f n d l m one v free) left ms is.each (one_left n d log);
    }

certificate_move : Moves Anything Certificate
certificate_move = record {
  take = λ f me view low log sent m kept can good. certificate_more f me view low log sent m kept can.above;
  say = λ f me view low log sent m kept can own good. certificate_more f me view low log sent m kept can.above;
  settle = λ f me view low log sent n d kept above is. inr (d, settled_certificate f log n d is);
  enter = λ f me view later low log sent kept above. kept;
  install = λ keys f me view low log sent c kept above is good. inr (c.digest, installed_certificate keys f log c (vouched keys f c is));
}

pub certificate_kept : IsKept HasCertificate
certificate_kept = (λ f me. inl refl, λ s call kept. (call_goes Anything Certificate certificate_move s [] call kept (fits_anything s call)).kept)

pub certificate_always : IsAlways HasCertificate
certificate_always = always HasCertificate certificate_kept
