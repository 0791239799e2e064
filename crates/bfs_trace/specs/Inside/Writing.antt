-- How what is written stands to what words spell.
use Rattle.std.specs.Prelude.{ℕ, ◌≡◌, ◌<◌, ⊤, List, ◌++◌, length, Option, Some, None, option_map, IfSome}
use Rattle.bfs_model.specs.Bytes.Arguments.{Call}
use Rattle.bfs_model.specs.Server.Limits.{most_request_bytes}
use Rattle.bfs_trace.specs.Messages.{arguments}

-- bytes stand behind those before them, or a request has no room for them
abbrev pub Puts : Option ⊤ → (old new bytes : List ℕ) → Type 0
Puts (Some done) old new bytes = new ≡ old ++ bytes
Puts None old new bytes = most_request_bytes < length (old ++ bytes)

-- bytes that are spelled stand behind those before them; or none are, or a request has no room for them
abbrev pub Appends : Option ⊤ → (old new : List ℕ) → Option (List ℕ) → Type 0
Appends (Some done) old new bytes = option_map (λ more. old ++ more) bytes ≡ Some new
Appends None old new bytes = IfSome bytes (λ more. most_request_bytes < length (old ++ more))

-- the same of the arguments of the call that words spell
abbrev pub AppendsCall : Option ⊤ → (old new : List ℕ) → Option Call → Type 0
AppendsCall result old new call = Appends result old new (option_map (λ spelled. arguments spelled) call)
