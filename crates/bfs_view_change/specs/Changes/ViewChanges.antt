-- Which VIEW-CHANGEs are valid, as the holder of some keys sees it (OSDI 1999 section 4.4).
use Rattle.std.specs.Prelude.{ℕ, ◌+◌, ◌==◌, Bool, true, ◌&&◌, List, [], ◌∷◌, map, length, replicate, nat_lt, nat_le, if◌then◌else◌}
use Rattle.std.specs.List.{list_all}
use Rattle.bfs_auth.specs.Keys.{Keys}
use Rattle.bfs_log.specs.Certificates.{StableCheckpoint, certifies, faults, is_shown, number_in, view_in}
use Rattle.bfs_messages.specs.Messages as model
use Rattle.bfs_messages.specs.Messages.{PreparedBatch}
use Rattle.bfs_messages.specs.Signing.{as_message, is_signed}
use Rattle.bfs_messages.specs.declared.signed.Signed.{Signed}
use Rattle.bfs_messages.specs.declared.message.Message.TheVariants.{ViewChange}
use Rattle.bfs_model.specs.Server.Limits.{log_size}

-- what they say, without the authenticators
abbrev pub messages_of : List (Signed model.ViewChange) → List model.ViewChange
messages_of changes = map (λ s. s.message) changes

-- each number is greater than the one before it, and the first than low
abbrev pub do_rise : (low : ℕ) → List ℕ → Bool
do_rise low [] = true
do_rise low (n ∷ ns) = nat_lt low n && do_rise n ns

-- of a number in the window above the stable one, prepared before the view that is asked for (OSDI 1999 section 4.4)
abbrev pub is_due : model.ViewChange → PreparedBatch → Bool
is_due change c = nat_le (number_in c) (change.stable + log_size) && nat_lt (view_in c) change.view

-- the certificates are of rising numbers in the window (OSDI 1999 section 4.4)
abbrev pub are_in_order : model.ViewChange → Bool
are_in_order change = do_rise change.stable (map number_in change.certificates) && list_all (is_due change) change.certificates

-- zeros where there is none: nothing shows that they are stable
abbrev pub first_digest : List (Signed model.Checkpoint) → List ℕ
first_digest [] = replicate 32 0
first_digest (first ∷ rest) = first.message.digest

-- the stable number, with the digest that the first CHECKPOINT tells
abbrev pub stable_in : model.ViewChange → StableCheckpoint
stable_in change = record { number = change.stable; digest = first_digest change.checkpoints; checkpoints = change.checkpoints }

-- the number 0 is stable from the beginning, and has no CHECKPOINTs (OSDI 1999 section 4.3)
abbrev pub has_stable : Keys → model.ViewChange → Bool
has_stable keys change = if change.stable == 0 then length change.checkpoints == 0 else is_shown keys (faults keys) (stable_in change)

-- it is its sender's, and has certificates of its stable number and of each batch (OSDI 1999 section 4.4)
abbrev pub valid_view_change : Keys → Signed model.ViewChange → Bool
valid_view_change keys s =
    are_in_order s.message
    && (is_signed keys (as_message ViewChange s)
    && (has_stable keys s.message
    && list_all (certifies keys) s.message.certificates))
