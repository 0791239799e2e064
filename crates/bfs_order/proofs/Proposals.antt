-- The next number of a view has no PRE-PREPARE.
use Rattle.std.proofs.Common.{◌≡◌, ℕ, ◌<◌, Bool, true, false, ◌&&◌, ◌||◌, cond, eqb, max, List, [], ◌∷◌, refl, subst, sym, arith}
use Rattle.std.specs.Prelude.{◌==◌}
use Rattle.std.proofs.lemmas.Bool.{ne_eqb}
use Rattle.bfs_auth.specs.Keys.{Keys}
use Rattle.bfs_votes.specs.Votes.{Header, has_slot}
use Rattle.bfs_log.specs.Headers.{header}
use Rattle.bfs_log.specs.Logs.{greatest_proposed}
use Rattle.bfs_messages.specs.Messages.{Batch}
use Rattle.bfs_messages.specs.declared.signed.Signed.{Signed}
use Rattle.bfs_messages.specs.declared.order_messages.OrderMessage.{OrderMessage}
use Rattle.bfs_order.specs.Replica.Proposing.{next_number, proposal}
use Rattle.bfs_order.specs.Replica.Refusals.{is_there}
use Rattle.bfs_order.specs.Replica.States.{State, known}

step : (tag sender view : Bool) (number rest n : ℕ) (among : Bool) → cond (tag && view) (max number rest) rest < n → (rest < n → among ≡ false)
    → ((tag && (sender && (view && eqb number n))) || among) ≡ false
step false sender view number rest n among lt free = free lt
step true false view number rest n among lt free = go view lt
  where
    go : (v : Bool) → cond v (max number rest) rest < n → among ≡ false
    go true lt = free (omega (arith, lt))
    go false lt = free lt
step true true false number rest n among lt free = free lt
step true true true number rest n among lt free =
    subst (λ b. (b || among) ≡ false) (sym (ne_eqb number n (λ e. absurd (omega (arith, e, lt))))) (free (omega (arith, lt)))

pub none_above : (view sender n : ℕ) (hs : List Header) → greatest_proposed view hs < n → has_slot hs 2 sender view n ≡ false
none_above view sender n [] lt = refl
none_above view sender n (h ∷ hs) lt =
    step (h.tag == 2) (h.sender == sender) (h.view == view) h.number (greatest_proposed view hs) n (has_slot hs 2 sender view n) lt (none_above view sender n hs)

pub next_is_free : (keys : Keys) (s : State) (batch : Batch) (m : Signed OrderMessage) → m ≡ proposal keys s batch → is_there s (header m) ≡ false
next_is_free keys s batch m e =
    subst (λ (p : Signed OrderMessage). is_there s (header p) ≡ false) (sym e) (none_above s.view s.me (next_number s) (known s) (omega arith))
