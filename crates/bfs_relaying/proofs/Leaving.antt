-- All that leaves in a life has its origin in what came in it.
use Rattle.std.proofs.Common.{List, [], ◌∷◌, ◌++◌, map, sym, subst}
use Rattle.std.specs.Prelude.{All}
use Rattle.std.specs.List.{AllByRecursion, filter_map}
use Rattle.std.proofs.lemmas.List.Elements.{All-from_recursion, recursion_from_All}
use Rattle.bfs_filter.specs.Runs.{Exchange, TakesAll}
use Rattle.bfs_frames.specs.Parcels.{Told, told_by}
use Rattle.bfs_frames.specs.declared.frames.Turn.{Turn}
use Rattle.bfs_relay.specs.GivenKeys.{clients_with, counter_for}
use Rattle.bfs_relay.specs.Origins.{HasOrigin, WhatIsToldHasItsOrigin, told_in}
use Rattle.bfs_relay.specs.Relays.{Relay}
use Rattle.bfs_relay.specs.Turns.{turned}
use Rattle.bfs_relaying.specs.Origins.{WhatLeavesHasItsOrigin}
use Rattle.bfs_relaying.specs.Reserving.{Reserving, Takes, begun}
use Rattle.bfs_relaying.proofs.Rising.{told_of}

abbrev turns_of : List Exchange → List Turn
turns_of exchanges = map (λ (exchange : Exchange). exchange.turn) exchanges

module _ {X : Type 0} (P : X → Type 0) where
  split_all : (xs ys : List X) → AllByRecursion P (xs ++ ys) → AllByRecursion P xs × AllByRecursion P ys
  split_all [] ys all = (tt, all)
  split_all (x ∷ xs) ys all = let rest = split_all xs ys all.1 in ((all.0, rest.0), rest.1)

-- what is said of all that a relay tells is said of all that leaves
all_leave : (P : Told → Type 0) (old new : Reserving) (exchanges : List Exchange) → TakesAll Takes old exchanges new
    → AllByRecursion P (told_in old.relay (turns_of exchanges)) → AllByRecursion (λ exchange. All (λ parcel. P (told_by parcel)) exchange.parcels) exchanges
all_leave P old new [] taken all = tt
all_leave P old new (exchange ∷ exchanges) taken all =
    let takes = taken.1 in
    let told = (turned exchange.turn old.relay).told in
    let quiet : Relay = record (turned exchange.turn old.relay) { told = [] } in
    let parts = split_all P told (told_in quiet (turns_of exchanges)) all in
    let rest : AllByRecursion P (told_in taken.0.relay (turns_of exchanges)) =
    subst (λ (relay : Relay). AllByRecursion P (told_in relay (turns_of exchanges))) (sym takes.relay) parts.1 in
    (told_of P exchange.parcels told takes.told (All-from_recursion P told parts.0), all_leave P taken.0 new exchanges taken.2 rest)

pub leaves_with_origin : WhatIsToldHasItsOrigin → WhatLeavesHasItsOrigin
leaves_with_origin law life came lived all =
    let clients = clients_with life.f life.keys in
    let told = told_in (begun life.f life.keys life.from).relay (turns_of life.exchanges) in
    all_leave (HasOrigin clients came) (begun life.f life.keys life.from) life.last life.exchanges lived
    (recursion_from_All (HasOrigin clients came) told (law clients (filter_map (counter_for life.from) life.keys) came (turns_of life.exchanges) all))
