-- What a replica says of its log in a VIEW-CHANGE, and a primary of VIEW-CHANGEs in a NEW-VIEW (OSDI 1999 section 4.4).
use Rattle.std.specs.Prelude.{ℕ, ◌+◌, ◌==◌, List, [], map, if◌then◌else◌}
use Rattle.std.specs.List.{filter_map, range_with_len}
use Rattle.sha2.specs.Sha256.{sha256}
use Rattle.bfs_auth.specs.Keys.{Keys}
use Rattle.bfs_auth.specs.Authenticators.{signature}
use Rattle.bfs_log.specs.Showing.{certificate_for, checkpoints_of}
use Rattle.bfs_messages.specs.Messages as model
use Rattle.bfs_messages.specs.Messages.{PreparedBatch}
use Rattle.bfs_messages.specs.Batches.{batch_text}
use Rattle.bfs_messages.specs.Spelling.{body_text, order_body_text}
use Rattle.bfs_messages.specs.declared.signed.Signed.{Signed}
use Rattle.bfs_messages.specs.declared.message.Message.TheVariants.{NewView, ViewChange}
use Rattle.bfs_messages.specs.declared.order_messages.OrderMessage.TheVariants.{PrePrepare}
use Rattle.bfs_order.specs.Replica.States.{State}
use Rattle.bfs_view_change.specs.Changes.Choice.{Choice, Chosen}
use Rattle.bfs_model.specs.Server.Limits.{log_size}

-- A VIEW-CHANGE ---------------------------------------------------------------------------------------------------------

-- one for each number above the low mark that is prepared, of the highest such view (OSDI 1999 section 4.4)
abbrev pub certificates : State → List PreparedBatch
certificates s = filter_map (certificate_for s.f s.me s.log) (range_with_len (s.low + 1) log_size)

-- those that made the low mark stable; the number 0 has none (OSDI 1999 section 4.3)
abbrev pub stable_checkpoints : State → List (Signed model.Checkpoint)
stable_checkpoints s = if s.low == 0 then [] else checkpoints_of s.f s.low s.log

-- what a replica takes into a view (OSDI 1999 section 4.4)
abbrev pub change_of : State → (view : ℕ) → model.ViewChange
change_of s view = record { sender = s.me; view = view; stable = s.low; checkpoints = stable_checkpoints s; certificates = certificates s }

abbrev pub signed_change : Keys → model.ViewChange → Signed model.ViewChange
signed_change keys change = record { message = change; auth = signature keys (body_text (ViewChange change)) }

-- A NEW-VIEW ------------------------------------------------------------------------------------------------------------

-- what a primary proposes in a new view for what was chosen (OSDI 1999 section 4.4)
abbrev pub chosen_proposal : (sender view : ℕ) → Chosen → model.PrePrepare
chosen_proposal sender view c = record {
  vote = record { sender = sender; view = view; number = c.number; digest = sha256 (batch_text c.batch) };
  batch = c.batch;
}

abbrev pub signed_proposal : Keys → model.PrePrepare → Signed model.PrePrepare
signed_proposal keys proposal = record { message = proposal; auth = signature keys (order_body_text (PrePrepare proposal)) }

-- a NEW-VIEW from VIEW-CHANGEs, with what was chosen from them (OSDI 1999 section 4.4)
abbrev pub new_view_from : Keys → (sender view : ℕ) → List (Signed model.ViewChange) → Choice → model.NewView
new_view_from keys sender view changes choice = record {
  sender = sender;
  view = view;
  changes = changes;
  proposals = map (λ c. signed_proposal keys (chosen_proposal sender view c)) choice.chosen;
}

abbrev pub signed_new_view : Keys → model.NewView → Signed model.NewView
signed_new_view keys new = record { message = new; auth = signature keys (body_text (NewView new)) }
