-- Where memory runs out, something was to be done at first.
use Rattle.std.proofs.Common.{◌≡◌, ◌∙◌, ℕ, zero, suc, Bool, true, false, [], Option, Some, None, Result, Ok, Err, refl, sym, ap, subst, inl, inr}
use Rattle.std.specs.Prelude.{IsSome, OnErr, is_some}
use Rattle.std.specs.List.{list_any}
use Rattle.bfs_node.specs.Nodes.{Node}
use Rattle.bfs_cluster.specs.CatchingUp.{CatchesUp, HasOffer, Times}
use Rattle.bfs_cluster.specs.Steps.{HasWork, Rests, Round, after, has_ready, step}
use Rattle.bfs_cluster.specs.World.{World}
use Rattle.bfs_cluster.proofs.Catching.{CaughtSoFar}
use Rattle.bfs_cluster.proofs.Settling.{stays}

pub whatever : {T E : Type 0} (result : Result T E) (P : Type 0) → P → OnErr result P
whatever (Ok value) P is = tt
whatever (Err error) P is = is

-- Steps ---------------------------------------------------------------------------------------------------------------------

pub was_left : (world now : World) (steps : ℕ) → after steps world ≡ now → IsSome (step now) → IsSome (step world)
was_left world now steps comes left = go (step world) refl
  where
    go : (next : Option World) → step world ≡ next → IsSome next
    go (Some next) is = refl
    go None is = subst (λ (w : Option World). IsSome w) (ap step (sym comes ∙ stays world steps is) ∙ is) left

pub begins : (world : World) → world.turn ≡ None → world.queue ≡ [] → list_any has_ready world.replicas ≡ true → IsSome (step world)
begins world turn queue ready = rw turn (rw queue (rw ready refl))

-- Offers --------------------------------------------------------------------------------------------------------------------

catches : (world next : World) → CatchesUp world next → HasOffer world
catches world next goes = (goes.number, ap is_some goes.takes.offer_is)

pub caught_times : (times : ℕ) (world now : World) → Times CatchesUp (suc times) world now → HasOffer world
caught_times zero world now goes = subst HasOffer (sym goes.1) (catches goes.0 now goes.2)
caught_times (suc times) world now goes = caught_times times world goes.0 goes.1

pub caught_some : (any : Bool) (world now : World) → CaughtSoFar any world now → HasOffer now → HasOffer world
caught_some true world now so_far offer = caught_times so_far.0 world now so_far.1
caught_some false world now so_far offer = subst HasOffer so_far offer

-- Rounds --------------------------------------------------------------------------------------------------------------------

pub rested : (Executes : Node → Type 0) (world rest : World) → Rests Executes world rest → HasOffer rest → HasWork world
rested Executes world rest rests offer = go (step world) refl
  where
    go : (next : Option World) → step world ≡ next → HasWork world
    go (Some next) is = inl (ap is_some is)
    go None is = inr (subst HasOffer (sym rests.comes ∙ stays world rests.steps is) offer)

by_round : (Executes : Node → Type 0) (world next : World) → Round Executes world next → HasWork world
by_round Executes world next round = rested Executes world round.rest round.comes (caught_times round.goes_on.times round.rest next round.goes_on.comes)

pub by_rounds : (Executes : Node → Type 0) (rounds : ℕ) (world now : World) → Times (Round Executes) rounds world now → HasWork now → HasWork world
by_rounds Executes zero world now goes work = subst HasWork (sym goes) work
by_rounds Executes (suc rounds) world now goes work = by_rounds Executes rounds world goes.0 goes.1 (by_round Executes goes.0 now goes.2)
