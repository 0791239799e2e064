-- Where what a relay's filter writes comes from.
use Rattle.std.specs.Prelude.{List, map, All}
use Rattle.std.specs.List.{AllByRecursion}
use Rattle.bfs_clients.specs.Clients.{Clients}
use Rattle.bfs_filter.specs.Runs.{Exchange}
use Rattle.bfs_frames.specs.Parcels.{told_by}
use Rattle.bfs_relay.specs.GivenKeys.{clients_with}
use Rattle.bfs_relay.specs.Origins.{Came, HasOrigin, TurnCame}
use Rattle.bfs_relaying.specs.Lives.{IsLived, Life}

-- each parcel of each answer
abbrev pub AnswersHaveOrigins : Clients → Came → List Exchange → Type 0
AnswersHaveOrigins clients came exchanges = AllByRecursion (λ exchange. All (λ parcel. HasOrigin clients came (told_by parcel)) exchange.parcels) exchanges

-- in each life, whatever comes in its turns
abbrev pub WhatLeavesHasItsOrigin : Type 0
WhatLeavesHasItsOrigin = (life : Life) (came : Came) → IsLived life → All (TurnCame came) (map (λ exchange. exchange.turn) life.exchanges)
    → AnswersHaveOrigins (clients_with life.f life.keys) came life.exchanges
