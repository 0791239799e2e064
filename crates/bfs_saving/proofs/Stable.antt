-- What makes a number stable is what the test lets pass.
use Rattle.std.proofs.Common.{◌≡◌, ℕ, ◌+◌, ◌<◌, Bool, true, false, ◌&&◌, ◌||◌, not, eqb, List, [], ◌∷◌, ◌++◌, Option, Some, None, length, take, get_or, inl, inr, refl, sym, ap, subst, ◌∙◌, arith}
use Rattle.std.specs.Prelude.{All, IfSome, bytes_eq}
use Rattle.std.specs.List.{list_all}
use Rattle.std.proofs.lemmas.Bool.{and_from, and_parts, eqb-true, eq-eqb, false_from_ne_true, not_from_false, or_cases, or_left, or_right}
use Rattle.std.proofs.lemmas.List.Elements.{All-cons, All-head, All-nil, All-tail}
use Rattle.std.proofs.lemmas.Slice.Eq.{bytes_eq-Decides}
use Rattle.bfs_model.proofs.Public.{IsExact, as_exact, then_exact, where_exact}
use Rattle.bfs_votes.specs.Votes.{Header, SlotsDiffer, has_slot, is_slot, is_stable, is_taken}
use Rattle.bfs_messages.specs.Messages as model
use Rattle.bfs_messages.specs.Signing.{as_message}
use Rattle.bfs_messages.specs.declared.signed.Signed.{Signed}
use Rattle.bfs_messages.specs.declared.order_messages.OrderMessage.{OrderMessage}
use Rattle.bfs_messages.specs.declared.order_messages.OrderMessage.TheVariants.{Checkpoint}
use Rattle.bfs_codec.proofs.Public.{digest_exact, number_exact}
use Rattle.bfs_log.specs.Certificates.{IsCheckpointOf, MakesStable, StableCheckpoint, as_checkpoints, checkpoints_in, has_sender, senders_differ}
use Rattle.bfs_log.specs.Headers.{header}
use Rattle.bfs_log.specs.Logs.{Log, headers}
use Rattle.bfs_saving.specs.Certificates.{FitsCertificate, FitsStable, certificate_from, certificate_text, makes_stable, may_be_kept, stable_from, stable_text, tells}
use Rattle.bfs_saving.proofs.Carrying.{checkpoint_exact}
use Rattle.bfs_saving.proofs.Exact.{many_exact, optional_exact}

-- All tell it --------------------------------------------------------------------------------------------------------

tells_is : (number : ℕ) (digest : List ℕ) (s : Signed model.Checkpoint) → tells number digest s ≡ true → IsCheckpointOf number digest (as_message Checkpoint s)
tells_is number digest s e =
    let parts = and_parts (eqb s.message.number number) (bytes_eq s.message.digest digest) e in
    record { tag = refl; number_is = eqb-true s.message.number number parts.0; digest_is = (bytes_eq-Decides s.message.digest digest).0 parts.1 }

told : (number : ℕ) (digest : List ℕ) (s : Signed model.Checkpoint) → IsCheckpointOf number digest (as_message Checkpoint s) → tells number digest s ≡ true
told number digest s is = and_from (eqb s.message.number number) (bytes_eq s.message.digest digest) (eq-eqb s.message.number number is.number_is) ((bytes_eq-Decides s.message.digest digest).1 is.digest_is)

all_are : (number : ℕ) (digest : List ℕ) (cs : List (Signed model.Checkpoint)) → list_all (tells number digest) cs ≡ true → All (IsCheckpointOf number digest) (as_checkpoints cs)
all_are number digest [] e = All-nil (IsCheckpointOf number digest)
all_are number digest (s ∷ cs) e =
    let parts = and_parts (tells number digest s) (list_all (tells number digest) cs) e in
    All-cons (IsCheckpointOf number digest) (as_message Checkpoint s) (as_checkpoints cs) (tells_is number digest s parts.0) (all_are number digest cs parts.1)

all_told : (number : ℕ) (digest : List ℕ) (cs : List (Signed model.Checkpoint)) → All (IsCheckpointOf number digest) (as_checkpoints cs) → list_all (tells number digest) cs ≡ true
all_told number digest [] all = refl
all_told number digest (s ∷ cs) all =
    and_from (tells number digest s) (list_all (tells number digest) cs)
    (told number digest s (All-head (IsCheckpointOf number digest) (as_message Checkpoint s) (as_checkpoints cs) all))
    (all_told number digest cs (All-tail (IsCheckpointOf number digest) (as_message Checkpoint s) (as_checkpoints cs) all))

-- Senders ------------------------------------------------------------------------------------------------------------

-- who has the place sends one of them
sends : (t s v n : ℕ) (ms : Log) → has_slot (headers ms) t s v n ≡ true → has_sender ms s ≡ true
sends t s v n [] e = absurd cc
sends t s v n (m ∷ ms) e = elim (or_cases (is_slot t s v n (header m)) (has_slot (headers ms) t s v n) e) [
  | inl here ↦
      let slot = and_parts (eqb (header m).tag t) _ here in
      or_left (eqb (header m).sender s) (has_sender ms s) (and_parts (eqb (header m).sender s) _ slot.1).0
  | inr there ↦ or_right (eqb (header m).sender s) (has_sender ms s) (sends t s v n ms there)
]

true_not_false : (b : Bool) → not b ≡ true → b ≡ true → ⊥
true_not_false true e f = absurd cc
true_not_false false e f = absurd cc

slots_differ : (ms : Log) → senders_differ ms ≡ true → SlotsDiffer (headers ms)
slots_differ [] e = tt
slots_differ (m ∷ ms) e =
    let parts = and_parts (not (has_sender ms (header m).sender)) (senders_differ ms) e in
    let h = header m in
    (false_from_ne_true (is_taken (headers ms) h) (λ taken. true_not_false (has_sender ms h.sender) parts.0 (sends h.tag h.sender h.view h.number ms taken)), slots_differ ms parts.1)

-- of one number, who sends one of them has the place
slot_at : (s n : ℕ) (digest : List ℕ) (cs : List (Signed model.Checkpoint)) → All (IsCheckpointOf n digest) (as_checkpoints cs) → has_sender (as_checkpoints cs) s ≡ true → has_slot (headers (as_checkpoints cs)) 5 s 0 n ≡ true
slot_at s n digest [] all e = absurd cc
slot_at s n digest (c ∷ cs) all e = elim (or_cases (eqb c.message.sender s) (has_sender (as_checkpoints cs) s) e) [
  | inl same ↦
      let at = All-head (IsCheckpointOf n digest) (as_message Checkpoint c) (as_checkpoints cs) all in
      or_left (is_slot 5 s 0 n (header (as_message Checkpoint c))) (has_slot (headers (as_checkpoints cs)) 5 s 0 n) (and_from true _ refl (and_from (eqb c.message.sender s) _ same (and_from true _ refl (eq-eqb c.message.number n at.number_is))))
  | inr there ↦
      or_right (is_slot 5 s 0 n (header (as_message Checkpoint c))) (has_slot (headers (as_checkpoints cs)) 5 s 0 n)
      (slot_at s n digest cs (All-tail (IsCheckpointOf n digest) (as_message Checkpoint c) (as_checkpoints cs) all) there)
]

senders_apart : (n : ℕ) (digest : List ℕ) (cs : List (Signed model.Checkpoint)) → All (IsCheckpointOf n digest) (as_checkpoints cs) → SlotsDiffer (headers (as_checkpoints cs)) → senders_differ (as_checkpoints cs) ≡ true
senders_apart n digest [] all differ = refl
senders_apart n digest (c ∷ cs) all differ =
    let at = All-head (IsCheckpointOf n digest) (as_message Checkpoint c) (as_checkpoints cs) all in
    let rest = All-tail (IsCheckpointOf n digest) (as_message Checkpoint c) (as_checkpoints cs) all in
    let free = subst (λ (k : ℕ). has_slot (headers (as_checkpoints cs)) 5 c.message.sender 0 k ≡ false) at.number_is differ.0 in
    let none = false_from_ne_true (has_sender (as_checkpoints cs) c.message.sender) (λ sent. let taken = slot_at c.message.sender n digest cs rest sent in absurd (cc (free, taken))) in
    and_from (not (has_sender (as_checkpoints cs) c.message.sender)) (senders_differ (as_checkpoints cs)) (not_from_false _ none) (senders_apart n digest cs rest differ.1)

-- Both ways ----------------------------------------------------------------------------------------------------------

stable_is : (f : ℕ) (c : StableCheckpoint) → makes_stable f c ≡ true → MakesStable f c
stable_is f c e =
    let parts = and_parts (list_all (tells c.number c.digest) c.checkpoints) _ e in
    let rest = and_parts (is_stable f (headers (checkpoints_in c)) c.number c.digest) (senders_differ (checkpoints_in c)) parts.1 in
    record { stable = rest.0; all = all_are c.number c.digest c.checkpoints parts.0; differ = slots_differ (checkpoints_in c) rest.1 }

stable_told : (f : ℕ) (c : StableCheckpoint) → MakesStable f c → makes_stable f c ≡ true
stable_told f c is =
    and_from (list_all (tells c.number c.digest) c.checkpoints) _ (all_told c.number c.digest c.checkpoints is.all)
    (and_from (is_stable f (headers (checkpoints_in c)) c.number c.digest) (senders_differ (checkpoints_in c)) is.stable (senders_apart c.number c.digest c.checkpoints is.all is.differ))

pub kept_is : (f : ℕ) (stable : Option StableCheckpoint) → may_be_kept f stable ≡ true → IfSome stable (MakesStable f)
kept_is f None e = tt
kept_is f (Some c) e = stable_is f c e

pub kept_told : (f : ℕ) (stable : Option StableCheckpoint) → IfSome stable (MakesStable f) → may_be_kept f stable ≡ true
kept_told f None is = refl
kept_told f (Some c) is = stable_told f c is

certificate_exact : IsExact certificate_text FitsCertificate certificate_from
unfolding certificate_from
certificate_exact = as_exact {Fb = FitsCertificate} _ (then_exact (then_exact number_exact digest_exact) (many_exact checkpoint_exact)) (λ p h. (refl, h)) (λ c h. (((c.number, c.digest), c.checkpoints), refl, h))

pub stable_exact : (f : ℕ) → IsExact stable_text (FitsStable f) (stable_from f)
stable_exact f = where_exact (may_be_kept f) (optional_exact certificate_exact)
