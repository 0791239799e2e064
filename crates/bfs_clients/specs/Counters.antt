-- Clients that count the timestamps of their requests (OSDI 1999 section 4.1).
use Rattle.std.specs.Prelude.{ℕ, ◌+◌, ◌-◌, ◌^◌, List, Option, Some, None, Result, Ok, Err, nat_lt, if◌then◌else◌}
use Rattle.bfs_clients.specs.Calls.{call_of}
use Rattle.bfs_clients.specs.Clients.{Clients}
use Rattle.bfs_clients.specs.declared.clients.Call.{Call}

pub record Counter : Type 0 where
  -- whose requests it counts
  pub client : ℕ
  -- the timestamp of its next request
  pub next : ℕ

-- a call with the next timestamp, if there is such a client; the last timestamp of 64 bits is never used
abbrev pub counted_call : Clients → Counter → (bytes : List ℕ) → Option Call
counted_call clients counter bytes =
    if nat_lt counter.next (2 ^ 64 - 1) then call_of clients (record { client = counter.client; timestamp = counter.next; call = bytes }) else None

-- a call that was begun has used its timestamp up
abbrev pub counter_after : {E : Type 0} → Counter → Result (Option Call) E → Counter
counter_after counter (Ok (Some call)) = record counter { next = counter.next + 1 }
counter_after counter (Ok None) = counter
counter_after counter (Err e) = counter
