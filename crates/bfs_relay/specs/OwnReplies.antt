-- What a relay answers by itself to a message of an NFS client: NULL, calls of MOUNT, and calls that are refused. All else the replicas answer.
use Rattle.std.specs.Prelude.{ℕ, List, [], Option, Some, None, Result, Ok, Err, ◌==◌, if◌then◌else◌}
use Rattle.std.specs.Option.{option_map}
use Rattle.bfs_model.specs.Bytes.Call as model
use Rattle.bfs_model.specs.Bytes.Call.{silent, rpc_mismatch, bad_credential, program_unavailable, program_mismatch, procedure_unavailable}
use Rattle.bfs_model.specs.Bytes.Replies.{refusal}
use Rattle.bfs_relay.specs.Mount.{ProgramCall, mount_program, mount_reply, void_reply}

abbrev pub program_call : model.Header → ProgramCall
program_call h = record { xid = h.xid; program = h.program; version = h.program_version; procedure = h.procedure; arguments = h.arguments }

-- the program that a message calls, if it is a call
abbrev pub program_call_of : List ℕ → Option ProgramCall
program_call_of message = option_map program_call (model.header_of message)

-- the reply to a call of a program that isn't NFS
abbrev pub other_reply : (xid : ℕ) → Option ProgramCall → List ℕ
other_reply xid (Some call) = if call.program == mount_program then mount_reply call else refusal (program_unavailable xid)
other_reply xid None = refusal (program_unavailable xid)

abbrev pub refused_reply : (message : List ℕ) → model.Refusal → List ℕ
refused_reply message silent = refusal silent
refused_reply message (rpc_mismatch xid) = refusal (rpc_mismatch xid)
refused_reply message (bad_credential xid) = refusal (bad_credential xid)
refused_reply message (program_unavailable xid) = other_reply xid (program_call_of message)
refused_reply message (program_mismatch xid) = refusal (program_mismatch xid)
refused_reply message (procedure_unavailable xid) = refusal (procedure_unavailable xid)

-- NULL is answered as by the server (RFC 1094 section 2.2.1)
abbrev pub own_reply_to : (message : List ℕ) → Result model.Request model.Refusal → Option (List ℕ)
own_reply_to message (Ok request) = if request.procedure == 0 then Some (void_reply request.xid request.arguments []) else None
own_reply_to message (Err reason) = Some (refused_reply message reason)

-- the relay's own reply, which has no bytes where the message is no call; None where the replicas are to answer
abbrev pub own_reply : (message : List ℕ) → Option (List ℕ)
own_reply message = own_reply_to message (model.call_of message)
