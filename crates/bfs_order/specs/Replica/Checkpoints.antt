-- A replica tells of its own checkpoint (OSDI 1999 section 4.3).
use Rattle.std.specs.Prelude.{◌≡◌, ℕ, ◌*◌, Bool, ◌&&◌, false, not, List, [], ◌∷◌, Option, Some, None, nat_le, if◌then◌else◌}
use Rattle.bfs_auth.specs.Keys.{Keys}
use Rattle.bfs_votes.specs.Votes.{has_slot, tellers}
use Rattle.bfs_log.specs.Headers.{header}
use Rattle.bfs_messages.specs.declared.signed.Signed.{Signed}
use Rattle.bfs_messages.specs.declared.order_messages.OrderMessage.{OrderMessage}
use Rattle.bfs_messages.specs.declared.order_messages.OrderMessage.TheVariants.{Checkpoint}
use Rattle.bfs_order.specs.Replica.Accepting.{makes_stable, settled}
use Rattle.bfs_messages.specs.Signing.{order_signed_by}
use Rattle.bfs_order.specs.Replica.Outcomes.{Outcome}
use Rattle.bfs_order.specs.Replica.Refusals.{is_between}
use Rattle.bfs_order.specs.Replica.States.{State, known, with_message}
use Rattle.bfs_order.specs.declared.error.OrderError.{OrderError}
use Rattle.bfs_order.specs.declared.error.OrderError.TheVariants.{OutsideMarks, AlreadyHave}
use Rattle.bfs_votes.specs.Tags.{checkpoint_tag}
use Rattle.bfs_model.specs.Server.Limits.{most_number}

-- 2f replicas have told that digest of the number
abbrev pub is_nearly_stable : State → (number : ℕ) → List ℕ → Bool
is_nearly_stable s number digest = nat_le (2 * s.f) (tellers s.f (known s) checkpoint_tag 0 number digest)

-- no one message more makes it stable
abbrev pub OneMoreIsTooFew : State → (number : ℕ) → List ℕ → Type 0
OneMoreIsTooFew s number digest = (m : Signed OrderMessage) → (header m).number ≡ number → (header m).digest ≡ digest → makes_stable (with_message s m) (header m) ≡ false

abbrev pub checkpoint_refusal : State → (number : ℕ) → Option OrderError
checkpoint_refusal s number =
    if not (is_between s number && nat_le number most_number) then Some OutsideMarks else
    (if has_slot (known s) checkpoint_tag s.me 0 number then Some AlreadyHave else None)

abbrev pub checkpoint : Keys → State → (number : ℕ) → List ℕ → Signed OrderMessage
checkpoint keys s number digest = order_signed_by keys (Checkpoint (record { sender = s.me; number = number; digest = digest }))

abbrev pub checkpointed : Keys → State → (number : ℕ) → List ℕ → Outcome
checkpointed keys s number digest =
    let m = checkpoint keys s number digest in
    record { now = settled (with_message s m) (header m); sent = m ∷ [] }
