-- The text of the messages of a log.
use Rattle.std.specs.Prelude.{◌≡◌, ℕ, Bool, true, ◌&&◌, not, List, [], ◌∷◌, nat_lt}
use Rattle.std.specs.List.{list_all}
use Rattle.bfs_model.specs.Bytes.Formats.{Reading, where_from}
use Rattle.bfs_model.specs.Server.Limits.{most_replicas}
use Rattle.bfs_votes.specs.Votes.{Header, is_taken}
use Rattle.bfs_messages.specs.Signing.{as_message}
use Rattle.bfs_messages.specs.declared.signed.Signed.{Signed}
use Rattle.bfs_messages.specs.declared.order_messages.OrderMessage.{OrderMessage}
use Rattle.bfs_messages.specs.declared.message.Message.TheVariants.{Order}
use Rattle.bfs_log.specs.Headers.{header, message_header}
use Rattle.bfs_log.specs.Logs.{Log, headers}
use Rattle.bfs_saving.specs.Items.{FitMany, many_from, many_text}
use Rattle.bfs_saving.specs.Messages.{FitsText, kind_from, message_text, order_of}

-- no two are of one kind, sender, view and number
abbrev pub are_apart : List Header → Bool
are_apart [] = true
are_apart (h ∷ hs) = not (is_taken hs h) && are_apart hs

abbrev pub is_from_few : Signed OrderMessage → Bool
is_from_few m = nat_lt (header m).sender most_replicas

-- they may be those of a log: their senders can be replicas
abbrev pub is_log : Log → Bool
is_log messages = are_apart (headers messages) && list_all is_from_few messages

-- one more may follow
abbrev pub may_follow : Log → OrderMessage → Bool
may_follow log message = nat_lt (message_header message).sender most_replicas && not (is_taken (headers log) (message_header message))

abbrev pub order_message_text : Signed OrderMessage → List ℕ
order_message_text m = message_text (as_message Order m)

abbrev pub log_text : Log → List ℕ
log_text log = many_text order_message_text log

abbrev pub FitsLog : Log → Type 0
FitsLog log = FitMany (λ m. FitsText (as_message Order m)) log × (is_log log ≡ true)

abbrev pub log_from : List ℕ → Reading Log
log_from bytes = where_from is_log (many_from (kind_from order_of)) bytes
