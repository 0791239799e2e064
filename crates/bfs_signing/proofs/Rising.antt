-- The indexes of a relay rise over its lives.
use Rattle.std.proofs.Common.{◌≡◌, ℕ, ◌≤◌, List, [], ◌∷◌, sym, subst, arith}
use Rattle.std.specs.List.{flat_map}
use Rattle.bfs_filter.specs.Runs.{Exchange, TakesAll}
use Rattle.bfs_relay.specs.Relays.{Relay}
use Rattle.bfs_relay.specs.Turns.{turned}
use Rattle.bfs_signing.specs.Indexes.{next_after, uses_of}
use Rattle.bfs_signing.specs.Lives.{IndexesRise, begun_in, turns_of, uses_from, uses_in}
use Rattle.bfs_signing.specs.Requests.{signed_texts}
use Rattle.bfs_signing.specs.Signing.{Signing, Signs}
use Rattle.bfs_signing.proofs.Uses.{RiseTo, one_use, rise_more, rise_on, to_lower}

-- those of a life rise, up to the next one
life_rises : (old new : Signing) (exchanges : List Exchange) → TakesAll Signs old exchanges new
    → RiseTo old.next (uses_from old.relay.relay old.next (turns_of exchanges)) new.next
life_rises old new [] taken = subst (λ (at : Signing). old.next ≤ at.next) taken (omega arith)
life_rises old new (exchange ∷ exchanges) taken =
    let next = taken.0 in
    let signs = taken.1 in
    let told = (turned exchange.turn old.relay.relay).told in
    let quiet : Relay = record (turned exchange.turn old.relay.relay) { told = [] } in
    let after = next_after old.next (signed_texts told) in
    let rest = life_rises next new exchanges taken.2 in
    let of_relay : RiseTo next.next (uses_from quiet next.next (turns_of exchanges)) new.next =
    subst (λ (relay : Relay). RiseTo next.next (uses_from relay next.next (turns_of exchanges)) new.next) signs.taken.relay rest in
    let of_next : RiseTo after (uses_from quiet after (turns_of exchanges)) new.next =
    subst (λ (at : ℕ). RiseTo at (uses_from quiet at (turns_of exchanges)) new.next) signs.next of_relay in
    rise_more old.next after new.next (uses_of old.next (signed_texts told)) (uses_from quiet after (turns_of exchanges)) (one_use old.next (signed_texts told)) of_next

-- what was used is reserved
stays_within : (old new : Signing) (exchanges : List Exchange) → TakesAll Signs old exchanges new → old.next ≤ old.reserved → new.next ≤ new.reserved
stays_within old new [] taken within = subst (λ (at : Signing). at.next ≤ at.reserved) taken within
stays_within old new (exchange ∷ exchanges) taken within = stays_within taken.0 new exchanges taken.2 taken.1.within

pub indexes_rise : IndexesRise
indexes_rise reserved [] follow = tt
indexes_rise reserved (life ∷ lives) follow =
    let begun = begun_in life in
    let rises = life_rises begun life.last life.exchanges follow.1 in
    let within = stays_within begun life.last life.exchanges follow.1 (omega arith) in
    rise_on reserved life.last.next life.last.reserved (uses_in life) (flat_map uses_in lives)
    (to_lower reserved life.first life.last.next (uses_in life) follow.0 rises) within (indexes_rise life.last.reserved lives follow.2)
