-- The steps of a node as bytes (this project's profile), in the items of XDR (RFC 4506) and of a saved replica. A body is steps, one behind another.
use Rattle.std.specs.Prelude.{ℕ, List, [], ◌∷◌, ◌++◌}
use Rattle.std.specs.List.{flat_map, AllByRecursion}
use Rattle.bfs_model.specs.Bytes.Items.{hyper, word}
use Rattle.bfs_model.specs.Server.Stored.{IsDouble, IsTime}
use Rattle.bfs_messages.specs.Batches.{time_text}
use Rattle.bfs_messages.specs.Signing.{as_message}
use Rattle.bfs_messages.specs.declared.message.Message.TheVariants.{Request}
use Rattle.bfs_nodes_agree.specs.Nodes.Steps.{NodeStep, Delivers, Takes, TakesRequests, TakesOffered, Proposes, Executes, Checkpoints, TimesOut, LeavesFor, ForgetsAnswered, ForgetsProposed, Settles}
use Rattle.bfs_nodes_agree.specs.declared.node_calls.performing.NodeCall.{NodeCall}
use Rattle.bfs_nodes_agree.specs.declared.node_calls.performing.NodeCall.TheVariants as code
use Rattle.bfs_saving.specs.Certificates.{FitsCertificate, certificate_text}
use Rattle.bfs_saving.specs.Items.{FitMany, FitsLong, long_text, many_text}
use Rattle.bfs_saving.specs.Messages.{FitsText, message_text}

-- a word that tells which step it is, and what it carries. An adoption has no text, for the whole node is saved in its place, and neither has want of memory
abbrev pub step_text : NodeStep → List ℕ
step_text (Delivers bytes) = word 1 ++ long_text bytes
step_text (Takes signed) = word 2 ++ message_text signed
step_text (TakesRequests messages) = word 3 ++ many_text message_text messages
step_text (TakesOffered request) = word 4 ++ message_text (as_message Request request)
step_text (Proposes time) = word 5 ++ time_text time
step_text Executes = word 6
step_text Checkpoints = word 7
step_text TimesOut = word 8
step_text (LeavesFor view) = word 9 ++ hyper view
step_text ForgetsAnswered = word 10
step_text ForgetsProposed = word 11
step_text (Settles certificate) = word 12 ++ certificate_text certificate
step_text other = []

-- it has a text, and what it carries keeps its limits
abbrev pub FitsStep : NodeStep → Type 0
FitsStep (Delivers bytes) = FitsLong bytes
FitsStep (Takes signed) = FitsText signed
FitsStep (TakesRequests messages) = FitMany FitsText messages
FitsStep (TakesOffered request) = FitsText (as_message Request request)
FitsStep (Proposes time) = IsTime time
FitsStep Executes = Unit {0}
FitsStep Checkpoints = Unit {0}
FitsStep TimesOut = Unit {0}
FitsStep (LeavesFor view) = IsDouble view
FitsStep ForgetsAnswered = Unit {0}
FitsStep ForgetsProposed = Unit {0}
FitsStep (Settles certificate) = FitsCertificate certificate
FitsStep other = ⊥

abbrev pub body_text : List NodeStep → List ℕ
body_text steps = flat_map step_text steps

abbrev pub FitSteps : List NodeStep → Type 0
FitSteps steps = AllByRecursion FitsStep steps

-- the step that a call is, whatever comes of it; none of an adoption
abbrev pub steps_of : NodeCall → List NodeStep
steps_of (code.Deliver bytes) = Delivers bytes.now ∷ []
steps_of (code.Take signed) = Takes signed ∷ []
steps_of (code.TakeRequests messages) = TakesRequests messages.now ∷ []
steps_of (code.TakeRequestsFor time messages) = TakesRequests messages.now ∷ []
steps_of (code.Offer request) = TakesOffered request ∷ []
steps_of (code.Propose time) = Proposes time ∷ []
steps_of code.Execute = Executes ∷ []
steps_of code.Checkpoint = Checkpoints ∷ []
steps_of code.TimeOut = TimesOut ∷ []
steps_of (code.LeaveFor view) = LeavesFor view ∷ []
steps_of code.ForgetAnswered = ForgetsAnswered ∷ []
steps_of code.ForgetProposed = ForgetsProposed ∷ []
steps_of (code.Adopt text certificate) = []
steps_of (code.Settle certificate) = Settles certificate.now ∷ []
