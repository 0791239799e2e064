-- What a client begins a call with.
use Rattle.std.specs.Prelude.{Option}
use Rattle.std.specs.Option.{option_map}
use Rattle.bfs_messages.specs.Messages as model
use Rattle.bfs_clients.specs.Clients.{Clients, signed_request}
use Rattle.bfs_clients.specs.Tallies.{no_replies}
use Rattle.bfs_clients.specs.declared.clients.Call.{Call}

-- the request as its client sends it, if there is such a client, and no reply to it yet
abbrev pub call_of : Clients → model.Request → Option Call
call_of clients request = option_map (λ signed. record { request = signed; tally = no_replies clients.f request.client request.timestamp }) (signed_request clients request)
