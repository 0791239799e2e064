-- How steps are read, strictly. It is proved that the steps of a body are read again, so nothing here has to be believed.
use Rattle.std.specs.Prelude.{ℕ, zero, suc, ◌==◌, List, [], ◌∷◌, length, Option, Some, None, nat_lt, if◌then◌else◌}
use Rattle.bfs_model.specs.Bytes.Call.{◌>>=◌}
use Rattle.bfs_model.specs.Bytes.Formats.{Reading, as_from, hyper_from, word_from}
use Rattle.bfs_codec.specs.Parts.{time_from}
use Rattle.bfs_nodes_agree.specs.Nodes.Steps.{NodeStep, Delivers, Takes, TakesRequests, TakesOffered, Proposes, Executes, Checkpoints, TimesOut, LeavesFor, ForgetsAnswered, ForgetsProposed, Settles}
use Rattle.bfs_saving.specs.Certificates.{certificate_from}
use Rattle.bfs_saving.specs.Items.{long_from, many_from}
use Rattle.bfs_saving.specs.Messages.{kind_from, message_from, request_of}

-- what stands behind the word of each step
unfoldable pub behind_word_from : (which : ℕ) → List ℕ → Reading NodeStep
behind_word_from which bytes =
    if which == 1 then as_from Delivers long_from bytes else
    if which == 2 then as_from Takes message_from bytes else
    if which == 3 then as_from TakesRequests (many_from message_from) bytes else
    if which == 4 then as_from TakesOffered (kind_from request_of) bytes else
    if which == 5 then as_from Proposes time_from bytes else
    if which == 6 then Some (Executes, bytes) else
    if which == 7 then Some (Checkpoints, bytes) else
    if which == 8 then Some (TimesOut, bytes) else
    if which == 9 then as_from LeavesFor hyper_from bytes else
    if which == 10 then Some (ForgetsAnswered, bytes) else
    if which == 11 then Some (ForgetsProposed, bytes) else
    if which == 12 then as_from Settles certificate_from bytes else None

unfoldable pub step_from : List ℕ → Reading NodeStep
step_from bytes = do
  which ← word_from bytes
  behind_word_from which.0 which.1

-- the steps up to the end of the bytes, where these are no more than so many
unfoldable pub steps_within : (most : ℕ) → List ℕ → Option (List NodeStep)
steps_within zero bytes = if nat_lt 0 (length bytes) then None else Some []
steps_within (suc most) bytes = if nat_lt 0 (length bytes) then (do
  step ← step_from bytes
  steps ← steps_within most step.1
  Some (step.0 ∷ steps)) else Some []

-- the steps that the bytes spell, all of them: there are no more steps than bytes
abbrev pub steps_from : List ℕ → Option (List NodeStep)
steps_from bytes = steps_within (length bytes) bytes
