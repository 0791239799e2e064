-- A crash is a pause.
use Rattle.std.proofs.Common.{◌≡◌, ◌∙◌, ℕ, Bool, false, cond, ◌==◌, ◌<◌, List, [], ◌∷◌, inl, inr, refl, sym, ap, subst, eqb-true}
use Rattle.std.proofs.lemmas.Bool.{eq-eqb}
use Rattle.std.specs.Prelude.{◌⊎◌}
use Rattle.std.specs.List.{AllByRecursion}
use Rattle.bfs_auth.specs.Keys.{Keys}
use Rattle.bfs_frames.specs.Parcels.{Told}
use Rattle.bfs_frames.specs.declared.frames.Turn.{Turn}
use Rattle.bfs_node.specs.Nodes.{Messages, Node}
use Rattle.bfs_nodes_agree.specs.Nodes.Replicas.{Keyring}
use Rattle.bfs_service.proofs.Public.{either}
use Rattle.bfs_service.specs.Acting.{Acting}
use Rattle.bfs_service.specs.Processes.{HaveTurned, Processes, ProcessesAgree, ProcessTurn, new_processes}
use Rattle.bfs_service.specs.Turns.{Turned}
use Rattle.bfs_votes.specs.Votes.{replicas}
use Rattle.bfs_recovery.specs.Holding.{AreDue, Held, IsHeld}
use Rattle.bfs_recovery.specs.Lives.{Answers, Restarts, AreKept, Changes, Ends, Event, HaveHappened, IsRestarted, Lives, LivesAgree, acting_in, who_of}
use Rattle.bfs_recovery.specs.Turns.{Begins, IsTaken, KeepsUp, Living, Settled, Waits}
use Rattle.bfs_recovery.proofs.Holding.{held_of, saved_alone}

-- between turns nothing waits to be told
abbrev IsQuiet : Acting → Type 0
IsQuiet acting = acting.sent ≡ []

quiet_behind : (turn : Turn) (before after : Acting) (told : List Told) → Turned turn before after told → IsQuiet after
quiet_behind turn before after told t = ap (λ (a : Acting). a.sent) t.after_is

-- a quiet process is its node
quiet_is : (a : Acting) (node : Node) → IsQuiet a → node ≡ a.node → record { node = node; sent = [] } ≡ a
quiet_is a node quiet is =
    ap (λ (n : Node). record { node = n; sent = [] }) is ∙ ap (λ (sent : Messages). record { node = a.node; sent = sent }) (sym quiet)

-- A process and the node that its folder holds ----------------------------------------------------------------------------------

abbrev quiet_as : Node → Acting
quiet_as node = record { node = node; sent = [] }

-- a folder holds that node, and what the process did since is due
record Stands (keys : Keys) (is_held : Type 0) (settled : Node) (living : Living) : Type 0 where
  quiet : IsQuiet living.acting
  held : is_held → IsHeld keys living.held settled
  due : AreDue settled living.due living.acting.node

-- nothing is due: it is the node that is held
stands_alone : (keys : Keys) (is_held : Type 0) (living : Living) → IsQuiet living.acting → (is_held → IsHeld keys living.held living.acting.node) → living.due ≡ []
    → Stands keys is_held living.acting.node living
stands_alone keys is_held living quiet held none = record { quiet = quiet; held = held; due = record { steps = []; fit = tt; due_is = none; node_is = refl } }

-- A life that ends --------------------------------------------------------------------------------------------------------------

-- the next process is what the folder held, or what the turn made of the last one that was not answered
abbrev Ended : Turn → (settled : Node) → Living → Living → Type 0
Ended turn settled old new = (new.acting ≡ quiet_as settled) ⊎ ((told : List Told) × Turned turn old.acting new.acting told)

record Restarted (keys : Keys) (turn : Turn) (settled : Node) (old new : Living) : Type 0 where
  ended : Ended turn settled old new
  quiet : IsQuiet new.acting
  held : IsHeld keys new.held new.acting.node
  none_due : new.due ≡ []

-- what was recovered was held: so it has those keys, and is what is saved now
begins_held : (keys : Keys) (held : Held) (node : Node) → IsHeld keys held node → (new : Living) → Begins node new → IsHeld keys new.held new.acting.node
begins_held keys held node h new begins =
    subst (λ (l : Living). IsHeld keys l.held l.acting.node) (sym begins.is) (saved_alone keys node begins.savable (held_of keys held node h))

begun : (keys : Keys) (turn : Turn) (settled now : Node) (old new : Living) → (r : IsRestarted keys turn old new) → IsHeld keys r.held now
    → (quiet_as now ≡ quiet_as settled) ⊎ ((told : List Told) × Turned turn old.acting (quiet_as now) told) → Restarted keys turn settled old new
begun keys turn settled now old new r h ended =
    let is = r.recovered now h in
    let same : new.acting ≡ quiet_as now = ap (λ (l : Living). l.acting) r.begins.is ∙ ap quiet_as is in
    record {
      ended = subst (λ (a : Acting). (a ≡ quiet_as settled) ⊎ ((told : List Told) × Turned turn old.acting a told)) (sym same) ended;
      quiet = ap (λ (l : Living). l.acting.sent) r.begins.is;
      held = begins_held keys r.held r.node (subst (λ (n : Node). IsHeld keys r.held n) (sym is) h) new r.begins;
      none_due = ap (λ (l : Living). l.due) r.begins.is;
    }

restarted : (keys : Keys) (turn : Turn) (settled : Node) (old new : Living) → IsRestarted keys turn old new → IsHeld keys old.held settled → AreDue settled old.due old.acting.node
    → Restarted keys turn settled old new
restarted keys turn settled old new r h due = elim r.left [
  | inl same ↦ begun keys turn settled settled old new r (subst (λ (held : Held). IsHeld keys held settled) (sym same) h) (inl refl)
  | inr kept ↦
      let is = quiet_is kept.acting kept.acting.node (quiet_behind turn old.acting kept.acting kept.told kept.turned) refl in
      begun keys turn settled kept.acting.node old new r (kept.holds keys settled h due)
      (inr (kept.told, subst (λ (a : Acting). Turned turn old.acting a kept.told) (sym is) kept.turned))
]

-- All lives ---------------------------------------------------------------------------------------------------------------------

turned_from : (p q after : Processes) (turns : List ProcessTurn) → ((k : ℕ) → q k ≡ p k) → HaveTurned q turns after → HaveTurned p turns after
turned_from p q after [] same have = λ k. have k ∙ same k
turned_from p q after (t ∷ turns) same have =
    let next = have.0 in (
      next,
      record {
        turned = subst (λ (a : Acting). Turned t.turn a (next t.who) t.told) (same t.who) have.1.turned;
        others = λ k differs. have.1.others k differs ∙ same k;
      },
      have.2,
    )

-- one of them, and the others
abbrev put : {A : Type 0} → (who : ℕ) → A → (ℕ → A) → ℕ → A
put who x all k = cond (k == who) x (all k)

put_here : {A : Type 0} (who : ℕ) (x : A) (all : ℕ → A) → put who x all who ≡ x
put_here who x all = ap (λ (b : Bool). cond b x (all who)) (eq-eqb who who refl)

put_there : {A : Type 0} (who : ℕ) (x : A) (all : ℕ → A) (k : ℕ) → (k == who) ≡ false → put who x all k ≡ all k
put_there who x all k differs = ap (λ (b : Bool). cond b x (all k)) differs

module _ (f : ℕ) (keys : Keyring) where
  abbrev StandsAs : ℕ → Node → Living → Type 0
  StandsAs k settled living = Stands (keys k) (k < replicas f) settled living

  -- what the turns begin with: the process as it is, or, where it ends later, as what its folder holds
  abbrev IsFrom : List Event → (settled : ℕ → Node) → Lives → ℕ → Acting → Type 0
  IsFrom events settled before k from = (Ends k events × (from ≡ quiet_as (settled k))) ⊎ (from ≡ (before k).acting)

  record Lived (events : List Event) (settled : ℕ → Node) (before after : Lives) : Type 0 where
    from : Processes
    from_is : (k : ℕ) → IsFrom events settled before k (from k)
    turns : List ProcessTurn
    kept : AreKept events turns
    turned : HaveTurned from turns (acting_in after)
    last : ℕ → Node
    stands : (k : ℕ) → StandsAs k (last k) (after k)

  -- with one of them it is so, and it was so with all
  stand_all : (P : Living → Living → Type 0) (who : ℕ) (settled : ℕ → Node) (now : Node) (before after : Lives) → Changes P who before after → StandsAs who now (after who)
      → ((k : ℕ) → StandsAs k (settled k) (before k)) → (k : ℕ) → StandsAs k (put who now settled k) (after k)
  stand_all P who settled now before after change here all k = either (k == who)
      (λ is_it. subst (λ (j : ℕ). StandsAs j (put who now settled j) (after j)) (sym (eqb-true k who is_it))
      (subst (λ (n : Node). StandsAs who n (after who)) (sym (put_here who now settled)) here))
      (λ differs. subst (λ (n : Node). StandsAs k n (after k)) (sym (put_there who now settled k differs)) (subst (StandsAs k (settled k)) (sym (change.others k differs)) (all k)))

  -- of another process it is as it was
  from_others : (P : Living → Living → Type 0) (event : Event) (events : List Event) (who : ℕ) (settled : ℕ → Node) (now : Node) (before next : Lives) → Changes P who before next
      → ((k : ℕ) → Ends k events → Ends k (event ∷ events)) → (k : ℕ) → (k == who) ≡ false → (from : Acting) → IsFrom events (put who now settled) next k from
      → IsFrom (event ∷ events) settled before k from
  from_others P event events who settled now before next change later k differs from is = elim is [
    | inl lost ↦ inl (later k lost.0, lost.1 ∙ ap quiet_as (put_there who now settled k differs))
    | inr same ↦ inr (same ∙ ap (λ (l : Living). l.acting) (change.others k differs))
  ]

  -- a turn is among them, which made of a process what it is
  with_turn : (P : Living → Living → Type 0) (event : Event) (events : List Event) (settled : ℕ → Node) (now : Node) (before next after : Lives) (t : ProcessTurn)
      → Changes P t.who before next → ((k : ℕ) → Ends k events → Ends k (event ∷ events)) → Turned t.turn (before t.who).acting (next t.who).acting t.told
      → (rest : Lived events (put t.who now settled) next after) → rest.from t.who ≡ (next t.who).acting → AreKept (event ∷ events) (t ∷ rest.turns)
      → Lived (event ∷ events) settled before after
  with_turn P event events settled now before next after t change later turned rest is kept =
      let from = put t.who (before t.who).acting rest.from in
      record {
        from = from;
        from_is = λ k. either (k == t.who)
            (λ is_it. subst (λ (j : ℕ). IsFrom (event ∷ events) settled before j (from j)) (sym (eqb-true k t.who is_it)) (inr (put_here t.who (before t.who).acting rest.from)))
            (λ differs. subst (IsFrom (event ∷ events) settled before k) (sym (put_there t.who (before t.who).acting rest.from k differs))
            (from_others P event events t.who settled now before next change later k differs (rest.from k) (rest.from_is k)));
        turns = t ∷ rest.turns;
        kept = kept;
        turned = (
          rest.from,
          record {
            turned = subst (λ (a : Acting). Turned t.turn a (rest.from t.who) t.told) (sym (put_here t.who (before t.who).acting rest.from))
                (subst (λ (a : Acting). Turned t.turn (before t.who).acting a t.told) (sym is) turned);
            others = λ k differs. sym (put_there t.who (before t.who).acting rest.from k differs);
          },
          rest.turned,
        );
        last = rest.last;
        stands = rest.stands;
      }

  -- what a process did is lost with it
  without : (P : Living → Living → Type 0) (event : Event) (events : List Event) (who : ℕ) (settled : ℕ → Node) (now : Node) (before next after : Lives) → Changes P who before next
      → ((k : ℕ) → Ends k events → Ends k (event ∷ events)) → (rest : Lived events (put who now settled) next after) → Ends who (event ∷ events) → rest.from who ≡ quiet_as (settled who)
      → AreKept (event ∷ events) rest.turns → Lived (event ∷ events) settled before after
  without P event events who settled now before next after change later rest ends is kept = record {
    from = rest.from;
    from_is = λ k. either (k == who)
        (λ is_it. subst (λ (j : ℕ). IsFrom (event ∷ events) settled before j (rest.from j)) (sym (eqb-true k who is_it)) (inl (ends, is)))
        (λ differs. from_others P event events who settled now before next change later k differs (rest.from k) (rest.from_is k));
    turns = rest.turns;
    kept = kept;
    turned = rest.turned;
    last = rest.last;
    stands = rest.stands;
  }

  -- where nothing is due, the process is what its folder holds
  from_now : (events : List Event) (who : ℕ) (settled : ℕ → Node) (next : Lives) → IsQuiet (next who).acting → (from : Acting)
      → IsFrom events (put who (next who).acting.node settled) next who from → from ≡ (next who).acting
  from_now events who settled next quiet from is = elim is [
    | inl held ↦ held.1 ∙ ap quiet_as (put_here who (next who).acting.node settled) ∙ quiet_is (next who).acting (next who).acting.node quiet refl
    | inr same ↦ same
  ]

  -- Its statement of the events behind the first.
  abbrev Goes : List Event → Type 0
  Goes events = (settled : ℕ → Node) (before after : Lives) → ((k : ℕ) → StandsAs k (settled k) (before k)) → AllByRecursion (λ event. who_of event < replicas f) events
      → HaveHappened keys before events after → Lived events settled before after

  answered : (t : ProcessTurn) (events : List Event) → Goes events → (settled : ℕ → Node) (before next after : Lives) → ((k : ℕ) → StandsAs k (settled k) (before k))
      → AllByRecursion (λ event. who_of event < replicas f) events → (change : Changes (λ old new. IsTaken old t.turn t.told new) t.who before next)
      → KeepsUp (before t.who) t.told (next t.who) → HaveHappened keys next events after → Lived (Answers t ∷ events) settled before after
  answered t events goes settled before next after stands of change (Settled holds none) have =
      let P : Living → Living → Type 0 = λ old new. IsTaken old t.turn t.told new in
      let turned = change.here.turned in
      let quiet = quiet_behind t.turn (before t.who).acting (next t.who).acting t.told turned in
      let was = stands t.who in
      let here = stands_alone (keys t.who) (t.who < replicas f) (next t.who) quiet (λ within. holds (keys t.who) (settled t.who) (was.held within) was.due) none in
      let now = (next t.who).acting.node in
      let rest = goes (put t.who now settled) next after (stand_all P t.who settled now before next change here stands) of have in
      with_turn P (Answers t) events settled now before next after t change (λ k ends. ends) turned rest
      (from_now events t.who settled next quiet (rest.from t.who) (rest.from_is t.who)) (inl (rest.turns, refl, rest.kept))
  answered t events goes settled before next after stands of change (Waits silent same later) have =
      let P : Living → Living → Type 0 = λ old new. IsTaken old t.turn t.told new in
      let turned = change.here.turned in
      let quiet = quiet_behind t.turn (before t.who).acting (next t.who).acting t.told turned in
      let was = stands t.who in
      let now = settled t.who in
      let here : StandsAs t.who now (next t.who) = record {
        quiet = quiet;
        held = λ within. subst (λ (held : Held). IsHeld (keys t.who) held now) (sym same) (was.held within);
        due = later now was.due;
      } in
      let rest = goes (put t.who now settled) next after (stand_all P t.who settled now before next change here stands) of have in
      elim (rest.from_is t.who) [
        | inl lost ↦ without P (Answers t) events t.who settled now before next after change (λ k ends. ends) rest lost.0
            (lost.1 ∙ ap quiet_as (put_here t.who now settled)) (inr (record { silent = silent; ended = lost.0 }, rest.kept))
        | inr stays ↦ with_turn P (Answers t) events settled now before next after t change (λ k ends. ends) turned rest stays (inl (rest.turns, refl, rest.kept))
      ]

  began_anew : (who : ℕ) (turn : Turn) (events : List Event) → Goes events → (settled : ℕ → Node) (before next after : Lives) → ((k : ℕ) → StandsAs k (settled k) (before k))
      → AllByRecursion (λ event. who_of event < replicas f) events → (change : Changes (IsRestarted (keys who) turn) who before next)
      → Restarted (keys who) turn (settled who) (before who) (next who) → HaveHappened keys next events after → Lived (Restarts who turn ∷ events) settled before after
  began_anew who turn events goes settled before next after stands of change r have =
      let P : Living → Living → Type 0 = IsRestarted (keys who) turn in
      let now = (next who).acting.node in
      let here = stands_alone (keys who) (who < replicas f) (next who) r.quiet (λ within. r.held) r.none_due in
      let rest = goes (put who now settled) next after (stand_all P who settled now before next change here stands) of have in
      let is = from_now events who settled next r.quiet (rest.from who) (rest.from_is who) in
      elim r.ended [
        | inl back ↦ without P (Restarts who turn) events who settled now before next after change (λ k ends. inr ends) rest (inl refl) (is ∙ back) (inl rest.kept)
        | inr more ↦
            let t : ProcessTurn = record { who = who; turn = turn; told = more.0 } in
            with_turn P (Restarts who turn) events settled now before next after t change (λ k ends. inr ends) more.1 rest is (inr (more.0, rest.turns, refl, rest.kept))
      ]

  lived : (events : List Event) → Goes events
  lived [] settled before after stands of same = record {
    from = acting_in before;
    from_is = λ k. inr refl;
    turns = [];
    kept = refl;
    turned = λ k. ap (λ (l : Living). l.acting) (same k);
    last = settled;
    stands = λ k. subst (StandsAs k (settled k)) (sym (same k)) (stands k);
  }
  lived (Answers t ∷ events) settled before after stands of have =
      answered t events (lived events) settled before have.0 after stands of.1 have.1 have.1.here.keeps have.2
  lived (Restarts who turn ∷ events) settled before after stands of have =
      let was = stands who in
      let r = restarted (keys who) turn (settled who) (before who) (have.0 who) have.1.here (was.held of.0) was.due in
      began_anew who turn events (lived events) settled before have.0 after stands of.1 have.1 r have.2

pub lives_agree : ProcessesAgree → LivesAgree
lives_agree agree f keys start events before after new of have =
    let settled : ℕ → Node = λ k. (before k).acting.node in
    let stands : (k : ℕ) → StandsAs f keys k (settled k) (before k) = λ k. stands_alone (keys k) (k < replicas f) (before k) (ap (λ (a : Acting). a.sent) (new.acting k))
    (λ within. subst (λ (n : Node). IsHeld (keys k) (before k).held n) (sym (ap (λ (a : Acting). a.node) (new.acting k))) (new.held k within)) (new.due k) in
    let got = lived f keys events settled before after stands of have in
    let begin : (k : ℕ) → got.from k ≡ new_processes f keys start k = λ k. elim (got.from_is k) [
      | inl held ↦ held.1 ∙ quiet_is (before k).acting (before k).acting.node (stands k).quiet refl ∙ new.acting k
      | inr same ↦ same ∙ new.acting k
    ] in
    let turned = turned_from (new_processes f keys start) got.from (acting_in after) got.turns begin got.turned in
    (got.turns, got.kept, turned, agree f keys start got.turns (acting_in after) turned, λ k within. (got.last k, (got.stands k).held within, (got.stands k).due))
