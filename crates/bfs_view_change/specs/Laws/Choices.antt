-- What holds of the choice of a new view (OSDI 1999 section 4.4).
use Rattle.std.specs.Prelude.{◌≡◌, ℕ, ◌+◌, ◌-◌, ◌<◌, ◌≤◌, true, false, List, [], map, length, Some, None}
use Rattle.std.specs.List.{All, Contains, list_all, range_with_len}
use Rattle.std.specs.Ordering.{is_lt}
use Rattle.bfs_auth.specs.Keys.{Keys}
use Rattle.bfs_log.specs.Certificates.{StableCheckpoint, faults, is_shown, number_in, view_in}
use Rattle.bfs_messages.specs.Messages.{PreparedBatch, ViewChange}
use Rattle.bfs_messages.specs.Limits.{FitsViewChange}
use Rattle.bfs_messages.specs.declared.signed.Signed.{Signed}
use Rattle.bfs_order.specs.Replica.Views.{number_of}
use Rattle.bfs_view_change.specs.Changes.ViewChanges.{messages_of, valid_view_change}
use Rattle.bfs_view_change.specs.Changes.Choice.{candidate, candidates, rank, choice, chosen_for, latest_stable, last_number}
use Rattle.bfs_view_change.specs.Changes.NewViews.{choice_refusal, latest_checkpoint}
use Rattle.bfs_view_change.specs.Laws.Sets.{SameMembers}
use Rattle.bfs_model.specs.Server.Limits.{log_size}

-- the choice is a function of the set: order and repetition do not matter. Where view, sender and text are the same the batches are, since a
-- batch within the limits has a text of its own
abbrev pub ChoiceIsOfTheSet : Type 0
ChoiceIsOfTheSet = (changes others : List ViewChange) → SameMembers changes others → All FitsViewChange changes → choice changes ≡ choice others

-- and so is why nothing can be chosen
abbrev pub RefusalIsOfTheSet : Type 0
RefusalIsOfTheSet = (keys : Keys) (changes others : List (Signed ViewChange)) → SameMembers changes others → choice_refusal keys changes ≡ choice_refusal keys others

-- each number above min-s up to max-s is chosen once, in order
abbrev pub NumbersAreChosenOnce : Type 0
NumbersAreChosenOnce = (changes : List ViewChange)
    → map (λ c. c.number) (choice changes).chosen ≡ range_with_len (latest_stable changes + 1) (last_number changes - latest_stable changes)

-- no stable number is above min-s
abbrev pub StableIsPassed : Type 0
StableIsPassed = (changes : List ViewChange) (change : ViewChange) → Contains changes change → change.stable ≤ (choice changes).min_s

-- the certificate of a VIEW-CHANGE whose batch is chosen for the number of another one
pub record IsChosenFor (changes : List ViewChange) (change : ViewChange) (c : PreparedBatch) : Type 0 where
  pub by : ViewChange
  pub among : Contains changes by
  pub certificate : PreparedBatch
  pub held : Contains by.certificates certificate
  pub number : number_in certificate ≡ number_in c
  pub chosen : Contains (choice changes).chosen (record { number = number_in c; batch = certificate.proposal.message.batch })
  -- its view is as high, and the other does not come before it
  pub view : view_in c ≤ view_in certificate
  pub first : is_lt (rank (candidate change.sender c) (candidate by.sender certificate)) ≡ false

-- what was prepared above min-s is chosen, unless what comes before it in rank is
abbrev pub PreparedIsChosen : Type 0
PreparedIsChosen = (changes : List ViewChange) (change : ViewChange) (c : PreparedBatch)
    → Contains changes change → Contains change.certificates c → latest_stable changes < number_in c → IsChosenFor changes change c

-- what was not prepared is the null request
abbrev pub OthersAreNull : Type 0
OthersAreNull = (changes : List ViewChange) (number : ℕ) → candidates number changes ≡ [] → chosen_for changes number ≡ record { number = number; batch = None }

-- valid VIEW-CHANGEs choose no more batches than stand between the marks
abbrev pub ValidChoicesAreShort : Type 0
ValidChoicesAreShort = (keys : Keys) (changes : List (Signed ViewChange))
    → list_all (valid_view_change keys) changes ≡ true → length (choice (messages_of changes)).chosen ≤ log_size

-- the checkpoint behind which a view begins is that of min-s
abbrev pub LatestIsOfMinS : Type 0
LatestIsOfMinS = (changes : List ViewChange) → number_of (latest_checkpoint changes) ≡ (choice changes).min_s

-- and valid VIEW-CHANGEs show that it is stable
abbrev pub ValidShowTheLatest : Type 0
ValidShowTheLatest = (keys : Keys) (changes : List (Signed ViewChange)) (c : StableCheckpoint) → list_all (valid_view_change keys) changes ≡ true
    → latest_checkpoint (messages_of changes) ≡ Some c → is_shown keys (faults keys) c ≡ true
