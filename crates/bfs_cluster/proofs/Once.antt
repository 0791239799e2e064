-- A world settles to one other: each adoption, each round and the whole leave one world.
use Rattle.std.proofs.Common.{◌≡◌, ◌∙◌, ℕ, ◌<◌, zero, suc, Bool, true, false, ltb, List, length, refl, sym, ap, ap₂, subst, arith}
use Rattle.std.specs.Prelude.{⊤}
use Rattle.std.proofs.lemmas.Bool.{ltb-false, ltb-true}
use Rattle.std.proofs.lemmas.Option.{same_Some}
use Rattle.bfs_checkpoints.specs.Laws.{ATextSpellsOneNode, IsReadable, LiveNodesAreReadAgain}
use Rattle.bfs_checkpoints.specs.Texts.{node_digest}
use Rattle.bfs_node.specs.Adopting.{Adopts, IsAdoptionRefusal, IsRefusalIf, IsTextRefusal, adopted}
use Rattle.bfs_node.specs.Nodes.{Node}
use Rattle.bfs_node.specs.declared.error.NodeError.{NodeError}
use Rattle.bfs_node.specs.declared.error.NodeError.TheVariants as error
use Rattle.bfs_cluster.specs.CatchingUp.{AllCatchUp, AllStay, CatchesUp, HasNoOther, Offer, Refuses, StaysBehind, Takes, Times}
use Rattle.bfs_cluster.specs.Laws.Settling.{SettlesToOneWorld}
use Rattle.bfs_cluster.specs.Steps.{Rests, Round}
use Rattle.bfs_cluster.specs.World.{World, with_node}
use Rattle.bfs_cluster.proofs.Settling.{rests_once}
use Rattle.bfs_log.specs.Certificates.{StableCheckpoint}

-- What leads to one world ---------------------------------------------------------------------------------------------------

abbrev LeadsToOne : (World → World → Type 0) → Type 0
LeadsToOne Goes = (world one other : World) → Goes world one → Goes world other → one ≡ other

abbrev IsStuck : (World → World → Type 0) → World → Type 0
IsStuck Goes world = (next : World) → Goes world next → ⊥

same_times : (Goes : World → World → Type 0) → LeadsToOne Goes → (n : ℕ) → LeadsToOne (Times Goes n)
same_times Goes once zero world one other a b = sym a ∙ b
same_times Goes once (suc n) world one other a b =
    once b.0 one other (subst (λ (w : World). Goes w one) (same_times Goes once n world a.0 b.0 a.1 b.1) a.2) b.2

-- after fewer times it can go on
goes_on : (Goes : World → World → Type 0) (n m : ℕ) → n < m → (world other : World) → Times Goes m world other → (between : World) × (next : World) × Times Goes n world between × Goes between next
goes_on Goes n zero lt world other a = absurd (omega (arith, lt))
goes_on Goes n (suc m) lt world other a = go (ltb n m) refl (λ less. goes_on Goes n m less world a.0 a.1)
  where
    go : (less : Bool) → ltb n m ≡ less → (n < m → (between : World) × (next : World) × Times Goes n world between × Goes between next)
        → (between : World) × (next : World) × Times Goes n world between × Goes between next
    go true is before = before (ltb-true n m is)
    go false is before =
        let same : m ≡ n = omega (arith, lt, ltb-false n m is) in
        (a.0, other, subst (λ (k : ℕ). Times Goes k world a.0) same a.1, a.2)

not_before : (Goes : World → World → Type 0) → LeadsToOne Goes → (n m : ℕ) → n < m → (world one other : World) → Times Goes n world one → IsStuck Goes one → Times Goes m world other → ⊥
not_before Goes once n m lt world one other a stuck b =
    let more = goes_on Goes n m lt world other b in
    stuck more.1 (subst (λ (w : World). Goes w more.1) (same_times Goes once n world more.0 one more.2 a) more.3)

stops_once : (Goes : World → World → Type 0) → LeadsToOne Goes → (n m : ℕ) (world one other : World) → Times Goes n world one → IsStuck Goes one → Times Goes m world other → IsStuck Goes other → one ≡ other
stops_once Goes once n m world one other a stuck b ended = go (ltb n m) (ltb m n) refl refl
  where
    go : (less more : Bool) → ltb n m ≡ less → ltb m n ≡ more → one ≡ other
    go true more is _ = absurd (not_before Goes once n m (ltb-true n m is) world one other a stuck b)
    go false true _ is = absurd (not_before Goes once m n (ltb-true m n is) world other one b ended a)
    go false false is at =
        let same : n ≡ m = omega (arith, ltb-false n m is, ltb-false m n at) in
        same_times Goes once m world one other (subst (λ (k : ℕ). Times Goes k world one) same a) b

-- What is said of batches ----------------------------------------------------------------------------------------------------

abbrev Whatever : Node → Type 0
Whatever node = ⊤

module _ (Executes : Node → Type 0) where
  rests_anyhow : (world other : World) → Rests Executes world other → Rests Whatever world other
  rests_anyhow world other rests = record { steps = rests.steps; comes = rests.comes; executes = λ k lt number node at there some. tt; ended = rests.ended }

  goes_anyhow : (rounds : ℕ) (world other : World) → Times (Round Executes) rounds world other → Times (Round Whatever) rounds world other
  goes_anyhow zero world other goes = goes
  goes_anyhow (suc rounds) world other goes = (
    goes.0,
    goes_anyhow rounds world goes.0 goes.1,
    record { rest = goes.2.rest; comes = rests_anyhow goes.0 goes.2.rest goes.2.comes; goes_on = goes.2.goes_on },
  )

-- Adoptions -----------------------------------------------------------------------------------------------------------------

module _ (one_node : ATextSpellsOneNode) (read_again : LiveNodesAreReadAgain) where
  adopts_once : (node : Node) (text : List ℕ) (checkpoint : StableCheckpoint) (one other : Node) → Adopts node text checkpoint one → Adopts node text checkpoint other → one ≡ other
  adopts_once node text checkpoint one other a b =
      let same = one_node (length node.table) (length node.table) text b.files a.files b.table a.table b.spells a.spells in
      a.now_is ∙ ap₂ (adopted node checkpoint) same.0 same.1 ∙ sym b.now_is

  -- what is adopted is not refused
  not_refused : (node : Node) (text : List ℕ) (checkpoint : StableCheckpoint) (now : Node) (e : NodeError) → Adopts node text checkpoint now → IsAdoptionRefusal node text checkpoint e → ⊥
  not_refused node text checkpoint now e a refusal =
      go e (subst (λ (may : Bool). IsRefusalIf may (length node.table) text checkpoint.digest e) a.may refusal)
    where
      readable : IsReadable (length node.table) text
      readable =
          subst (λ (n : ℕ). IsReadable n text) a.spells.clients_are
          (subst (IsReadable (length a.table)) (sym a.spells.spelled) (read_again a.files a.table a.live a.spells.kept).1)

      go : (e : NodeError) → IsTextRefusal (length node.table) text checkpoint.digest e → ⊥
      go error.MalformedText r = r.1 a.files a.table a.spells
      go error.WrongVersion r = readable.not_other r
      go error.NotWellFormed r = readable.not_ill_formed r
      go error.DigestDiffers r =
          let same = one_node (length node.table) (length node.table) text a.files r.files a.table r.table a.spells r.spells in
          r.other (ap₂ node_digest same.0 same.1 ∙ a.digest)
      go _ r = absurd r

  stays_or_takes : (world : World) (number : ℕ) (next : World) → StaysBehind world number → Takes world number next → ⊥
  stays_or_takes world number next stays takes =
      let refuses : Refuses world number takes.offer = subst (HasNoOther world number) takes.offer_is stays in
      let same : refuses.node ≡ takes.node = same_Some _ _ (sym refuses.node_is ∙ takes.node_is) in
      not_refused takes.node takes.offer.0 takes.offer.1 takes.now refuses.error takes.adopts
      (subst (λ (node : Node). IsAdoptionRefusal node takes.offer.0 takes.offer.1 refuses.error) same refuses.refusal)

  takes_once : (world : World) (number : ℕ) (one other : World) → Takes world number one → Takes world number other → one ≡ other
  takes_once world number one other a b =
      let node : a.node ≡ b.node = same_Some _ _ (sym a.node_is ∙ b.node_is) in
      let offer : a.offer ≡ b.offer = same_Some _ _ (sym a.offer_is ∙ b.offer_is) in
      let first : Adopts b.node b.offer.0 b.offer.1 a.now =
      subst (λ (o : Offer). Adopts b.node o.0 o.1 a.now) offer (subst (λ (n : Node). Adopts n a.offer.0 a.offer.1 a.now) node a.adopts) in
      a.next_is ∙ ap (with_node world number) (adopts_once b.node b.offer.0 b.offer.1 a.now b.now first b.adopts) ∙ sym b.next_is

  catches_once : LeadsToOne CatchesUp
  catches_once world one other a b = go (ltb a.number b.number) (ltb b.number a.number) refl refl
    where
      go : (less more : Bool) → ltb a.number b.number ≡ less → ltb b.number a.number ≡ more → one ≡ other
      go true more is _ = absurd (stays_or_takes world a.number one (b.lower a.number (ltb-true a.number b.number is)) a.takes)
      go false true _ is = absurd (stays_or_takes world b.number other (a.lower b.number (ltb-true b.number a.number is)) b.takes)
      go false false is at =
          let same : a.number ≡ b.number = omega (arith, ltb-false a.number b.number is, ltb-false b.number a.number at) in
          takes_once world b.number one other (subst (λ (n : ℕ). Takes world n one) same a.takes) b.takes

  none_catches : (world : World) → AllStay world → IsStuck CatchesUp world
  none_catches world stay next goes = stays_or_takes world goes.number next (stay goes.number) goes.takes

  all_catch_once : LeadsToOne AllCatchUp
  all_catch_once world one other a b =
      stops_once CatchesUp catches_once (suc a.times) (suc b.times) world one other a.comes (none_catches one a.ended) b.comes (none_catches other b.ended)

  round_once : LeadsToOne (Round Whatever)
  round_once world one other a b =
      all_catch_once b.rest one other (subst (λ (rest : World). AllCatchUp rest one) (rests_once Whatever world a.rest b.rest a.comes b.comes) a.goes_on) b.goes_on

  -- once none catches up, no round is left
  no_round : (world rest : World) → Rests Whatever world rest → AllStay rest → IsStuck (Round Whatever) world
  no_round world rest rests stay next round =
      let first = goes_on CatchesUp zero (suc round.goes_on.times) (omega arith) round.rest next round.goes_on.comes in
      let same : first.0 ≡ rest = sym first.2 ∙ rests_once Whatever world round.rest rest round.comes rests in
      none_catches rest stay first.1 (subst (λ (w : World). CatchesUp w first.1) same first.3)

  pub settles_once : (First Second : Node → Type 0) → SettlesToOneWorld First Second
  settles_once First Second world one other a b =
      let first = rests_anyhow First a.last one a.rests in
      let second = rests_anyhow Second b.last other b.rests in
      let same : a.last ≡ b.last = stops_once (Round Whatever) round_once a.rounds b.rounds world a.last b.last
      (goes_anyhow First a.rounds world a.last a.comes) (no_round a.last one first a.ended)
      (goes_anyhow Second b.rounds world b.last b.comes) (no_round b.last other second b.ended) in
      rests_once Whatever b.last one other (subst (λ (w : World). Rests Whatever w one) same first) second
