-- Values of the code as those of the definitions.
use Rattle.bfs_relay.specs.Mount as model
use Rattle.bfs_relay.specs.declared.program_calls.ProgramCall.{ProgramCall}

abbrev pub call_seen : ProgramCall → model.ProgramCall
call_seen call = record { xid = call.xid; program = call.program; version = call.version; procedure = call.procedure; arguments = call.arguments.now }
