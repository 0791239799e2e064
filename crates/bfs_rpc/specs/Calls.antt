-- Calls and refusals of the code as those of the model, and the numbers of refusals.
use Rattle.std.specs.Prelude.{ℕ}
use Rattle.bfs_model.specs.Bytes.Call as model
use Rattle.bfs_types.specs.Procedures.{number_of}
use Rattle.bfs_rpc.specs.declared.call.Call.{Call}
use Rattle.bfs_rpc.specs.declared.call.Header.{Header}
use Rattle.bfs_rpc.specs.declared.reject.Reject.{Reject}
use Rattle.bfs_rpc.specs.declared.reject.Reject.TheVariants.{Silent, RpcMismatch, BadCred, ProgUnavail, ProgMismatch, ProcUnavail}

abbrev pub request_seen : Call → model.Request
request_seen call = record { xid = call.xid; procedure = number_of call.proc; credential = call.cred; arguments = call.args.now }

abbrev pub header_seen : Header → model.Header
header_seen h = record { xid = h.xid; rpc_version = h.rpc_version; program = h.program; program_version = h.program_version; procedure = h.procedure; flavor = h.flavor; body = h.body.now; arguments = h.arguments.now }

abbrev pub refusal_seen : Reject → model.Refusal
refusal_seen Silent = model.silent
refusal_seen (RpcMismatch xid) = model.rpc_mismatch xid
refusal_seen (BadCred xid) = model.bad_credential xid
refusal_seen (ProgUnavail xid) = model.program_unavailable xid
refusal_seen (ProgMismatch xid) = model.program_mismatch xid
refusal_seen (ProcUnavail xid) = model.procedure_unavailable xid

abbrev pub code_of : Reject → ℕ
code_of Silent = 5
code_of (RpcMismatch xid) = 6
code_of (BadCred xid) = 7
code_of (ProgUnavail xid) = 8
code_of (ProgMismatch xid) = 9
code_of (ProcUnavail xid) = 10
