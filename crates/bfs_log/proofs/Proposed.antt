-- The headers of a certificate's messages.
use Rattle.std.proofs.Common.{◌≡◌, ℕ, Bool, true, false, ◌&&◌, ◌||◌, List, [], ◌∷◌, map, refl}
use Rattle.std.specs.Prelude.{◌==◌}
use Rattle.std.specs.List.{list_any}
use Rattle.std.proofs.lemmas.Bool.{eq-eqb}
use Rattle.std.proofs.lemmas.Slice.Eq.{bytes_eq-Decides}
use Rattle.bfs_votes.specs.Votes.{says, told}
use Rattle.bfs_log.specs.Logs.{headers}
use Rattle.bfs_messages.specs.Messages.{PreparedBatch, Vote}
use Rattle.bfs_messages.specs.declared.signed.Signed.{Signed}
use Rattle.bfs_messages.specs.declared.order_messages.OrderMessage.TheVariants.{Prepare}
use Rattle.bfs_log.specs.Certificates.{number_in, view_in, vote_in}
use Rattle.bfs_messages.specs.Signing.{as_message}
use Rattle.bfs_log.specs.Certificates.{messages_in}

no_proposal : (k v n : ℕ) (d : List ℕ) (votes : List (Signed Vote)) → list_any (says 2 k v n d) (headers (map (as_message Prepare) votes)) ≡ false
no_proposal k v n d [] = refl
no_proposal k v n d (x ∷ xs) = no_proposal k v n d xs

own : (s k v n : ℕ) (d : List ℕ) (b e g h : Bool) → e ≡ true → g ≡ true → h ≡ true → b ≡ false → (((s == k) && (e && g)) && h) || b ≡ (s == k)
own s k v n d b e g h p q r t = rw (p, q, r, t) (step (s == k))
  where
    step : (x : Bool) → ((x && true) && true) || false ≡ x
    step true = refl
    step false = refl

-- the PRE-PREPARE of a certificate is told by its sender alone
pub proposed_by : (c : PreparedBatch) (k : ℕ) → told (headers (messages_in c)) 2 k (view_in c) (number_in c) (vote_in c).digest ≡ ((vote_in c).sender == k)
proposed_by c k = own (vote_in c).sender k (view_in c) (number_in c) (vote_in c).digest _ _ _ _ (eq-eqb (view_in c) (view_in c) refl) (eq-eqb (number_in c) (number_in c) refl) ((bytes_eq-Decides (vote_in c).digest (vote_in c).digest).1 refl) (no_proposal k (view_in c) (number_in c) (vote_in c).digest c.prepares)
