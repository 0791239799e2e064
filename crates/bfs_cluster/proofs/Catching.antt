-- Replicas catch up, one after another.
use Rattle.std.proofs.Common.{◌≡◌, ◌∙◌, ℕ, zero, suc, Bool, true, false, List, Option, Some, None, Result, Ok, Err, refl, sym, ap, ap₂, subst}
use Rattle.std.specs.Prelude.{IfOk}
use Rattle.std.specs.List.{slice_get}
use Rattle.std.specs.Option.{option_map}
use Rattle.bfs_node.specs.Nodes.{Node}
use Rattle.bfs_cluster.specs.CatchingUp.{CatchesUp, HasNoOther, Offer, Times, offer_to}
use Rattle.bfs_cluster.specs.Inside.Trying.{AllCatchUpIf, CatchesUpIf, TakesIf, Tries}
use Rattle.bfs_cluster.specs.Steps.{Rests, Round}
use Rattle.bfs_cluster.specs.World.{Replica, World, node_at, node_if_heard}
use Rattle.bfs_cluster.proofs.Acting.{with_itself, with_replica}
use Rattle.bfs_log.specs.Certificates.{StableCheckpoint}

-- One replica ---------------------------------------------------------------------------------------------------------------

-- a silent one is offered nothing
offered_is_heard : (world : World) (number : ℕ) (old : Replica) (offer : Offer) → slice_get world.replicas number ≡ Some old → offer_to world number ≡ Some offer → old.heard ≡ true
offered_is_heard world number old offer is offers = go old.heard refl
  where
    go : (heard : Bool) → old.heard ≡ heard → heard ≡ true
    go true e = refl
    go false e =
        let silent : node_at world number ≡ None = ap node_if_heard is ∙ ap (λ (h : Bool). node_if_heard (Some (record { heard = h; node = old.node }))) e in
        absurd (cc (silent, offers))

pub tried : (world : World) (number : ℕ) (old new : Replica) (offer : Offer) (took : Bool) → slice_get world.replicas number ≡ Some old → offer_to world number ≡ Some offer
    → Tries took old offer.0 offer.1 new → TakesIf took world number (with_replica world number new)
tried world number old new offer took is offers tries = go took tries
  where
    heard : old.heard ≡ true
    heard = offered_is_heard world number old offer is offers

    there : node_at world number ≡ Some old.node
    there = ap node_if_heard is ∙ ap (λ (h : Bool). node_if_heard (Some (record { heard = h; node = old.node }))) heard

    go : (took : Bool) → Tries took old offer.0 offer.1 new → TakesIf took world number (with_replica world number new)
    go true did = record {
      node = old.node;
      node_is = there;
      offer = offer;
      offer_is = offers;
      now = new.node;
      adopts = did.0;
      next_is = ap (λ (h : Bool). with_replica world number (record { heard = h; node = new.node })) (did.1 ∙ heard);
    }
    go false did = (
      subst (HasNoOther world number) (sym offers) (record { node = old.node; node_is = there; error = did.0.0; refusal = did.0.1 }),
      ap (with_replica world number) did.1 ∙ with_itself world number old is,
    )

pub if_tried : {E : Type 0} (result : Result Bool E) (world : World) (number : ℕ) (old new : Replica) (text : List ℕ) (checkpoint : StableCheckpoint) (now : World)
    → slice_get world.replicas number ≡ Some old → offer_to world number ≡ Some (text, checkpoint) → now ≡ with_replica world number new
    → IfOk result (λ took. Tries took old text checkpoint new) → IfOk result (λ took. TakesIf took world number now)
if_tried (Err e) world number old new text checkpoint now is offers comes tries = tries
if_tried (Ok took) world number old new text checkpoint now is offers comes tries =
    subst (TakesIf took world number) (sym comes) (tried world number old new (text, checkpoint) took is offers tries)

-- what was copied is what is offered
pub copied : {X : Type 0} (view : X → Offer) (given : Option X) (copy : X) (offers : Option Offer) (text : List ℕ) (checkpoint : StableCheckpoint) → option_map view given ≡ offers → given ≡ Some copy
    → text ≡ (view copy).0 → checkpoint ≡ (view copy).1 → offers ≡ Some (text, checkpoint)
copied view given copy offers text checkpoint is some first second =
    sym is ∙ ap (option_map view) some ∙ ap₂ (λ (t : List ℕ) (c : StableCheckpoint). Some (t, c)) (sym first) (sym second)

-- One after another ---------------------------------------------------------------------------------------------------------

-- how often one caught up before: not at all, or once or more
abbrev pub CaughtSoFar : (any : Bool) → World → World → Type 0
CaughtSoFar true world now = (times : ℕ) × Times CatchesUp (suc times) world now
CaughtSoFar false world now = now ≡ world

caught : (any : Bool) (world before now : World) → CatchesUp before now → CaughtSoFar any world before → CaughtSoFar true world now
caught true world before now goes so_far = (suc so_far.0, (before, so_far.1, goes))
caught false world before now goes so_far = (zero, (before, sym so_far, goes))

pub one_more_caught : (any went : Bool) (world before now : World) → went ≡ true → CatchesUpIf went before now → CaughtSoFar any world before → CaughtSoFar true world now
one_more_caught any went world before now is goes so_far = caught any world before now (subst (λ (w : Bool). CatchesUpIf w before now) is goes) so_far

-- Rounds --------------------------------------------------------------------------------------------------------------------

pub one_more_round : (Executes : Node → Type 0) (any : Bool) (world before rest now : World) → any ≡ true → Rests Executes before rest → AllCatchUpIf any rest now
    → (rounds : ℕ) × Times (Round Executes) rounds world before → (rounds : ℕ) × Times (Round Executes) rounds world now
one_more_round Executes any world before rest now is rests goes so_far =
    (suc so_far.0, (before, so_far.1, record { rest = rest; comes = rests; goes_on = subst (λ (a : Bool). AllCatchUpIf a rest now) is goes }))
