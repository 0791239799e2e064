-- What a world comes to at rest does not depend on the number of steps at which it is looked at.
use Rattle.std.proofs.Common.{◌≡◌, ◌∙◌, ℕ, zero, suc, ◌+◌, ◌-◌, ◌<◌, Bool, true, false, ltb, List, ◌∷◌, Option, Some, None, refl, sym, ap, ap₂, subst, arith}
use Rattle.std.proofs.lemmas.Bool.{ltb-false, ltb-true}
use Rattle.std.proofs.lemmas.Option.{same_Some}
use Rattle.bfs_node.specs.Advancing.{advancing}
use Rattle.bfs_node.specs.Nodes.{Node}
use Rattle.std.specs.Prelude.{IsSome}
use Rattle.bfs_cluster.specs.Inside.Aside.{Comes, ExecutesIn, Goes}
use Rattle.bfs_cluster.specs.Steps.{ExecutesAt, Rests, after, delivering, onward, step, step_at}
use Rattle.bfs_cluster.specs.World.{Broadcast, World, node_at}

-- where no step is left, none is made
pub stays : (world : World) (steps : ℕ) → step world ≡ None → after steps world ≡ world
stays world zero ended = refl
stays world (suc steps) ended = rw ended refl

-- the steps of two runs, one after the other
pub onwards : (world : World) (one other : ℕ) → after (one + other) world ≡ after other (after one world)
onwards world zero other = ap (λ n. after n world) (let same : 0 + other ≡ other = omega arith in same)
onwards world (suc one) other =
    ap (λ n. after n world) (let same : suc one + other ≡ suc (one + other) = omega arith in same)
    ∙ go (step world) refl (λ next. onwards next one other)
  where
    go : (next : Option (World)) → step world ≡ next
        → ((w : World) → after (one + other) w ≡ after other (after one w))
        → onward world next (λ w. after (one + other) w) ≡ after other (onward world next (λ w. after one w))
    go None is later = sym (stays world other is)
    go (Some next) is later = later next

-- one is some
pub one_step : (world next : World) → step world ≡ Some next → after (suc zero) world ≡ next
one_step world next is = ap (λ (w : Option World). onward world w (λ next. after zero next)) is

-- What holds before each batch ---------------------------------------------------------------------------------------------

module _ (Executes : Node → Type 0) where
  -- where the node is known of the replica whose turn it is
  pub at_turn : (world : World) (n : ℕ) (found : Option Node) → world.turn ≡ Some n → node_at world n ≡ found
      → ((node : Node) → found ≡ Some node → IsSome (advancing node) → Executes node) → ExecutesAt Executes world
  at_turn world n found turn is holds number node at there some =
      let same : n ≡ number = same_Some _ _ (sym turn ∙ at) in
      holds node (sym is ∙ ap (node_at world) same ∙ there) some

  -- while messages are delivered none is executed
  pub at_delivery : (world : World) → world.turn ≡ None → ExecutesAt Executes world
  at_delivery world turn number node at there some = absurd (let never : None ≡ Some number = sym turn ∙ at in cc)

  in_one : (world : World) → ExecutesAt Executes world → (k : ℕ) → k < suc zero → ExecutesAt Executes (after k world)
  in_one world here zero lt = here
  in_one world here (suc k) lt = absurd (omega (arith, lt))

  in_both : (world : World) (a b : ℕ) → ExecutesIn Executes world a → ExecutesIn Executes (after a world) b → (k : ℕ) → k < a + b → ExecutesAt Executes (after k world)
  in_both world a b first second k lt = go (ltb k a) refl
    where
      go : (less : Bool) → ltb k a ≡ less → ExecutesAt Executes (after k world)
      go true is = first k (ltb-true k a is)
      go false is =
          let least = ltb-false k a is in
          let same : a + (k - a) ≡ k = omega (arith, least) in
          subst (λ (w : World). ExecutesAt Executes w) (sym (onwards world a (k - a)) ∙ ap (λ n. after n world) same)
          (second (k - a) (omega (arith, least, lt)))

  -- Steps ------------------------------------------------------------------------------------------------------------------

  pub by_one : (world next : World) → after (suc zero) world ≡ next → ExecutesAt Executes world → Comes Executes world next
  by_one world next comes here = record { steps = suc zero; comes = comes; executes = in_one world here }

  pub by_both : (world between other : World) → Comes Executes world between → Comes Executes between other → Comes Executes world other
  by_both world between other a b = record {
    steps = a.steps + b.steps;
    comes = onwards world a.steps b.steps ∙ ap (after b.steps) a.comes ∙ b.comes;
    executes = in_both world a.steps b.steps a.executes (subst (λ (w : World). ExecutesIn Executes w b.steps) (sym a.comes) b.executes);
  }

  -- a message is delivered
  pub delivers : (world next : World) (broadcast : Broadcast) (rest : List Broadcast) → world.turn ≡ None → world.queue ≡ broadcast ∷ rest
      → next ≡ delivering (record world { queue = rest }) broadcast → Comes Executes world next
  delivers world next broadcast rest turn queue is =
      by_one world next (one_step world next (ap₂ (step_at world) turn queue ∙ ap (λ (w : World). Some w) (sym is))) (at_delivery world turn)

  -- some steps more
  pub more_steps : (world before next : World) (went : Bool) → went ≡ true → Goes Executes went before next → Comes Executes world before → Comes Executes world next
  more_steps world before next went is gone so_far = by_both world before next so_far (subst (λ (went : Bool). Goes Executes went before next) is gone)

  pub rests_once : (world one other : World) → Rests Executes world one → Rests Executes world other → one ≡ other
  rests_once world one other a b =
      sym (stays one b.steps a.ended)
      ∙ ap (after b.steps) (sym a.comes)
      ∙ sym (onwards world a.steps b.steps)
      ∙ ap (λ n. after n world) (let same : a.steps + b.steps ≡ b.steps + a.steps = omega arith in same)
      ∙ onwards world b.steps a.steps
      ∙ ap (after a.steps) b.comes
      ∙ stays other a.steps b.ended
