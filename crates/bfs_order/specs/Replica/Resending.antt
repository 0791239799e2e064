-- What a replica has said is given again to another one that tells how far it is: nothing of it is new.
use Rattle.std.specs.Prelude.{ℕ, ◌+◌, ◌==◌, Bool, ◌&&◌, ◌||◌, [], ◌++◌, option_to_list, nat_le, nat_lt, if◌then◌else◌}
use Rattle.std.specs.List.{flat_map, range_with_len}
use Rattle.bfs_log.specs.Logs.{Log, message_at}
use Rattle.bfs_votes.specs.Tags.{checkpoint_tag, commit_tag, pre_prepare_tag, prepare_tag}
use Rattle.bfs_votes.specs.Votes.{Header}
use Rattle.bfs_order.specs.Replica.States.{State}
use Rattle.bfs_order.specs.declared.resending.Lag.{Lag}
use Rattle.bfs_model.specs.Server.Limits.{log_size}

-- it is in its view, and the other one is in that view too
abbrev pub are_together : State → Lag → Bool
are_together s to = nat_le s.asked s.view && (to.view == s.view)

-- the message of a kind, view and number that stands in its log under its own name
abbrev pub own_message : State → (tag view number : ℕ) → Log
own_message s tag view number = option_to_list (message_at s.log tag s.me view number)

-- its PREPARE and its COMMIT for a number in its view
abbrev pub own_answers : State → (number : ℕ) → Log
own_answers s number = own_message s prepare_tag s.view number ++ own_message s commit_tag s.view number

-- what it has said of a number in its view
abbrev pub own_votes : State → (number : ℕ) → Log
own_votes s number = own_message s pre_prepare_tag s.view number ++ own_answers s number

-- of a number that the other one hasn't executed the PRE-PREPARE of their view; of one above its stable number PREPARE and COMMIT of that view, which
-- one may lack that has executed the number in an earlier view, and the CHECKPOINT
abbrev pub resent_of : State → Lag → (number : ℕ) → Log
resent_of s to number =
    (if are_together s to && nat_lt to.last number then own_message s pre_prepare_tag s.view number else [])
    ++ ((if are_together s to && nat_lt to.stable number then own_answers s number else [])
    ++ (if nat_lt to.stable number then own_message s checkpoint_tag 0 number else []))

-- by rising numbers, from the low mark to the high one
abbrev pub resent : State → Lag → Log
resent s to = flat_map (resent_of s to) (range_with_len s.low (log_size + 1))

-- up to which number the other one needs no message of a kind
abbrev pub needs_above : Lag → (tag : ℕ) → ℕ
needs_above to tag = if tag == pre_prepare_tag then to.last else to.stable

-- which messages of its log these are
abbrev pub is_resent : State → Lag → Header → Bool
is_resent s to h =
    (h.sender == s.me)
    && (nat_lt (needs_above to h.tag) h.number && ((h.tag == checkpoint_tag) || (are_together s to && (h.view == s.view))))
