-- A node that leads the view that it has asked for begins it as soon as it may.
use Rattle.std.proofs.Common.{◌≡◌, ℕ, ◌+◌, ◌*◌, ◌<◌, ◌≤◌, ◌==◌, max, Bool, true, false, cond, ◌&&◌, not, List, ◌⊎◌, Option, Some, None, length, get_or, replicate, slice_set, inl, inr, refl, sym, subst, arith}
use Rattle.std.specs.Prelude.{nat_le, nat_lt}
use Rattle.std.proofs.lemmas.Bool.{and_left, and_parts, and_right, le-ltb, leb-false, leb-true, ltb-false, ltb-true}
use Rattle.std.proofs.lemmas.List.{length-set}
use Rattle.bfs_log.specs.Logs.{Log}
use Rattle.bfs_messages.specs.Messages as model
use Rattle.bfs_messages.specs.Signing.{as_message, is_signed}
use Rattle.bfs_messages.specs.declared.signed.Signed.{Signed}
use Rattle.bfs_messages.specs.declared.message.Message.TheVariants.{ViewChange}
use Rattle.bfs_votes.specs.Votes.{primary}
use Rattle.bfs_order.specs.Replica.States.{State}
use Rattle.bfs_order.specs.Replica.Views as order
use Rattle.bfs_order.specs.Replica.Views.{left}
use Rattle.bfs_view_change.specs.Changes.Keeping.{Kept, above_view, changes_for, was_asked, with_asked, with_change}
use Rattle.bfs_view_change.specs.Changes.Making.{signed_new_view}
use Rattle.bfs_view_change.specs.Changes.NewViews.{latest_checkpoint}
use Rattle.bfs_view_change.specs.Changes.ViewChanges.{messages_of, valid_view_change}
use Rattle.bfs_node.specs.Changing.{begun, begun_if_due, change_refusal, entered_by, entering_refusal, leads, leaving_refusal, left_for, may_begin, own_change, own_new_view, view_refusal, with_view_change}
use Rattle.bfs_node.specs.Nodes.{Node, Outcome}
use Rattle.bfs_node.specs.declared.error.NodeError.TheVariants as error
use Rattle.bfs_nodes_agree.specs.Nodes.Steps.{NodeStep, Takes, outcome, still, unless}
use Rattle.bfs_nodes_agree.proofs.Public.{Left, Rested, TookChange, TookNewView, entered_same, not_hit, not_refused, not_second, passed, step_kind}
use Rattle.bfs_nodes_progress.proofs.Places.{AreThere, Change, above_there, for_itself, keep_there, none_there, note_there, set_rises, set_there}

-- the view last asked for by one of that number
abbrev pub asked_by : Node → (k : ℕ) → ℕ
asked_by node k = get_or node.changes.asked k 0

abbrev Leads : (f me : ℕ) → ℕ → Bool
Leads f me = λ (view : ℕ). me == primary f view

pub record IsPrompt (f me view asked : ℕ) (kept : Kept) : Type 0 where
  -- there is no view that it may begin
  pub due : (nat_lt view asked && ((me == primary f asked) && nat_le (2 * f + 1) (length (changes_for asked kept)))) ≡ false
  pub there : AreThere (Leads f me) view kept.asked kept.changes
  -- what it has asked for itself is among them
  pub own : view < asked → me < length kept.asked → asked ≤ get_or kept.asked me 0

abbrev pub Prompt : Node → Type 0
Prompt node = IsPrompt node.order.f node.order.me node.order.view node.order.asked node.changes

prompt_at : (f me view asked : ℕ) (s : State) (kept : Kept) → s.f ≡ f → s.me ≡ me → s.view ≡ view → s.asked ≡ asked → IsPrompt f me view asked kept → IsPrompt s.f s.me s.view s.asked kept
prompt_at f me view asked s kept a b c d is =
    subst (λ (x : ℕ). IsPrompt x s.me s.view s.asked kept) (sym a) (subst (λ (x : ℕ). IsPrompt f x s.view s.asked kept) (sym b)
    (subst (λ (x : ℕ). IsPrompt f me x s.asked kept) (sym c) (subst (λ (x : ℕ). IsPrompt f me view x kept) (sym d) is)))

-- A view is entered -------------------------------------------------------------------------------------------------------

module _ (node : Node) (s : Signed model.NewView) where
  abbrev now : State
  now = (entered_by node s).now.order

  entered_part : {A : Type 0} (part : State → A) → ((u : State) (low : ℕ) (log : Log) → part (record u { low = low; log = log }) ≡ part u)
      → part now ≡ part (order.opened node.order s.message.view (order.number_of (latest_checkpoint (messages_of s.message.changes))) s.message.proposals)
  entered_part part same = entered_same part same node.keys node.order s.message.view (latest_checkpoint (messages_of s.message.changes)) s.message.proposals

  pub entered_view : now.view ≡ s.message.view
  entered_view = entered_part (λ (u : State). u.view) (λ u low log. refl)

  pub asks_entered : now.asked ≡ s.message.view
  asks_entered = entered_part (λ (u : State). u.asked) (λ u low log. refl)

  pub entered_prompt : node.order.view ≤ s.message.view → AreThere (Leads node.order.f node.order.me) node.order.view node.changes.asked node.changes.changes → Prompt (entered_by node s).now
  entered_prompt le there =
      let view = s.message.view in
      let f = node.order.f in
      let me = node.order.me in
      prompt_at f me view view now (above_view view node.changes) (entered_part (λ (u : State). u.f) (λ u low log. refl)) (entered_part (λ (u : State). u.me) (λ u low log. refl)) entered_view asks_entered (record {
        due = and_left (nat_lt view view) _ (le-ltb view view (omega arith));
        there = above_there (Leads f me) node.order.view view node.changes.asked node.changes.changes le there;
        own = λ lt. absurd (omega (arith, lt));
      })

-- A VIEW-CHANGE is kept ---------------------------------------------------------------------------------------------------

begun_prompt : (node : Node) → AreThere (Leads node.order.f node.order.me) node.order.view node.changes.asked node.changes.changes
    → (node.order.view < node.order.asked → node.order.me < length node.changes.asked → node.order.asked ≤ get_or node.changes.asked node.order.me 0) → Prompt (begun_if_due node).now
begun_prompt node there own =
    (elim (may_begin node) as (λ b. may_begin node ≡ b → Prompt (cond b (begun node) (still node)).now) [
      | true ↦ λ may.
          let above = ltb-true node.order.view node.order.asked (and_parts (nat_lt node.order.view node.order.asked) _ may).0 in
          entered_prompt node (signed_new_view node.keys (own_new_view node)) (omega (arith, above)) there
      | false ↦ λ none. record { due = none; there = there; own = own }
    ]) refl

abbrev place : Change → ℕ
place s = s.message.sender

change_prompt : (node : Node) (s : Change) → get_or node.changes.asked s.message.sender 0 ≤ s.message.view → Prompt node → Prompt (with_view_change node s).now
change_prompt node s later is =
    let there = record node { changes = with_change node.changes s } in
    let noted = record node { changes = with_asked node.changes s.message } in
    let asked = node.changes.asked in
    let own : node.order.view < node.order.asked → node.order.me < length (slice_set asked (place s) s.message.view) → node.order.asked ≤ get_or (slice_set asked (place s) s.message.view) node.order.me 0 =
    λ lt among.
    let places = length-set asked (place s) s.message.view in
    let before = is.own lt (omega (arith, among, places)) in
    let rises = set_rises asked (place s) s.message.view node.order.me later in
    omega (arith, before, rises) in
    (elim (leads node s.message.view) as (λ b. leads node s.message.view ≡ b → Prompt (cond b (begun_if_due there) (still noted)).now) [
      | true ↦ λ _. begun_prompt there
          (keep_there (Leads node.order.f node.order.me) node.order.view (place s) s.message.view (Some s) asked node.changes.changes (λ _ _. for_itself s) is.there) own
      | false ↦ λ other. record {
        due = is.due;
        there = note_there (Leads node.order.f node.order.me) node.order.view (place s) s.message.view asked node.changes.changes other is.there;
        own = own;
      }
    ]) refl

left_prompt : (node : Node) (view : ℕ) → Prompt node → Prompt (left_for node view).now
left_prompt node view is =
    let s = own_change node view in
    let me = node.order.me in
    let gone = record node { order = (left node.order view).now } in
    let there = record gone { changes = with_change node.changes s } in
    let noted = record gone { changes = with_asked node.changes s.message } in
    let asked = node.changes.asked in
    let own : node.order.view < view → me < length (slice_set asked me view) → view ≤ get_or (slice_set asked me view) me 0 = λ lt among.
    let places = length-set asked me view in
    let same = set_there asked me view (omega (arith, among, places)) in
    omega (arith, same) in
    let done : Prompt (with_view_change gone s).now =
    (elim (leads gone view) as (λ b. leads gone view ≡ b → Prompt (cond b (begun_if_due there) (still noted)).now) [
      | true ↦ λ _. begun_prompt there (keep_there (Leads node.order.f me) node.order.view me view (Some s) asked node.changes.changes (λ _ _. for_itself s) is.there) own
      | false ↦ λ other. record {
        due = and_right (nat_lt node.order.view view) _ (and_left (leads gone view) _ other);
        there = note_there (Leads node.order.f me) node.order.view me view asked node.changes.changes other is.there;
        own = own;
      }
    ]) refl in
    record { due = done.due; there = done.there; own = done.own }

-- Each step ---------------------------------------------------------------------------------------------------------------

unasked : (node : Node) (s : Change) → change_refusal node s ≡ None → get_or node.changes.asked s.message.sender 0 < s.message.view
unasked node s none =
    let a = passed (is_signed node.keys (as_message ViewChange s)) _ _ none in
    let b = passed (nat_lt node.order.view s.message.view) _ _ a.1 in
    let c = not_hit (was_asked node.changes s.message) _ _ b.1 in
    leb-false s.message.view (get_or node.changes.asked s.message.sender 0) c.0

later_view : (node : Node) (s : Signed model.NewView) → view_refusal node s ≡ None → node.order.view < s.message.view
later_view node s none =
    let opened = not_refused _ (not_second _ (entering_refusal node s.message) none) in
    let a = passed (nat_lt node.order.view s.message.view && _) _ None opened in
    ltb-true node.order.view s.message.view (and_parts (nat_lt node.order.view s.message.view) _ a.0).0

pub prompt_step : (node : Node) (step : NodeStep) → Prompt node → Prompt (outcome node step).now
prompt_step node step is = elim (step_kind node step) [
  | Rested rests ↦
      subst (λ (k : Kept). IsPrompt out.now.order.f out.now.order.me out.now.order.view out.now.order.asked k) (sym rests.changes)
      (prompt_at node.order.f node.order.me node.order.view node.order.asked out.now.order node.changes rests.f rests.me rests.view rests.asked is)
  | TookChange t ↦ subst (λ (o : Outcome). Prompt o.now) (sym t.is) (change_prompt node t.change (let lt = unasked node t.change t.taken in omega (arith, lt)) is)
  | TookNewView t ↦ subst (λ (o : Outcome). Prompt o.now) (sym t.is) (entered_prompt node t.new (let lt = later_view node t.new t.taken in omega (arith, lt)) is.there)
  | Left l ↦ subst (λ (o : Outcome). Prompt o.now) (sym l.is) (left_prompt node l.view is)
]
  where
    out : Outcome
    out = outcome node step

-- What it knows others to ask for -----------------------------------------------------------------------------------------

-- of which one more is known
pub change_asks : (node : Node) (s : Change) → (with_view_change node s).now.changes.asked ≡ slice_set node.changes.asked s.message.sender s.message.view
change_asks node s =
    let asked = slice_set node.changes.asked s.message.sender s.message.view in
    let there = record node { changes = with_change node.changes s } in
    let noted = record node { changes = with_asked node.changes s.message } in
    elim (leads node s.message.view) as (λ b. (cond b (begun_if_due there) (still noted)).now.changes.asked ≡ asked) [
      | true ↦ elim (may_begin there) as (λ b. (cond b (begun there) (still there)).now.changes.asked ≡ asked) [ true ↦ refl | false ↦ refl ]
      | false ↦ refl
    ]

pub asked_rises : (node : Node) (step : NodeStep) → asked_by node node.order.me ≤ node.order.asked → (k : ℕ) → asked_by node k ≤ asked_by (outcome node step).now k
asked_rises node step own k = elim (step_kind node step) [
  | Rested rests ↦ subst (λ (x : Kept). asked_by node k ≤ get_or x.asked k 0) (sym rests.changes) (omega arith)
  | TookChange t ↦ subst (λ (o : Outcome). asked_by node k ≤ asked_by o.now k) (sym t.is)
      (subst (λ (us : List ℕ). asked_by node k ≤ get_or us k 0) (sym (change_asks node t.change))
      (set_rises node.changes.asked t.change.message.sender t.change.message.view k (let lt = unasked node t.change t.taken in omega (arith, lt))))
  | TookNewView t ↦ subst (λ (o : Outcome). asked_by node k ≤ asked_by o.now k) (sym t.is) (omega arith)
  | Left l ↦ subst (λ (o : Outcome). asked_by node k ≤ asked_by o.now k) (sym l.is)
      (subst (λ (us : List ℕ). asked_by node k ≤ get_or us k 0) (sym (change_asks (record node { order = (left node.order l.view).now }) (own_change node l.view)))
      (set_rises node.changes.asked node.order.me l.view k (let later = left_asked node l.view l.taken in omega (arith, own, later))))
]
  where
    left_asked : (n : Node) (view : ℕ) → leaving_refusal n view ≡ None → n.order.asked < view
    left_asked n view none =
        let a = passed (nat_lt (max n.order.view n.order.asked) view && _) _ None (not_refused _ none) in
        let lt = ltb-true (max n.order.view n.order.asked) view (and_parts (nat_lt (max n.order.view n.order.asked) view) _ a.0).0 in
        omega (arith, lt)

-- a VIEW-CHANGE comes that is right
by_refusal : (P : Outcome → Type 0) (node : Node) (out : Outcome) (signed above had valid : Bool) → signed ≡ true → valid ≡ true → (above ≡ false → P (still node)) → (had ≡ true → P (still node)) → P out
    → P (unless (cond (not signed) (Some error.BadAuthenticator) (cond (not above) (Some error.WrongView) (cond had (Some error.AlreadyHave) (cond (not valid) (Some error.BadCertificate) None)))) node out)
by_refusal P node out true false had true a b wrong known taken = wrong refl
by_refusal P node out true true true true a b wrong known taken = known refl
by_refusal P node out true true false true a b wrong known taken = taken
by_refusal P node out false above had valid a b wrong known taken = absurd cc
by_refusal P node out true above had false a b wrong known taken = absurd cc

-- then it is known what its sender asks for, unless that was entered
abbrev pub IsKnown : Node → (k view : ℕ) → Type 0
IsKnown node k view = (view ≤ asked_by node k) ⊎ (view ≤ node.order.view)

pub takes_change : (node : Node) (s : Change) → valid_view_change node.keys s ≡ true → s.message.sender < length node.changes.asked
    → IsKnown (outcome node (Takes (as_message ViewChange s))).now s.message.sender s.message.view
takes_change node s valid among =
    let m = as_message ViewChange s in
    let k = s.message.sender in
    let view = s.message.view in
    let signed = (and_parts (is_signed node.keys m) _ (and_parts _ (is_signed node.keys m && _) valid).1).0 in
    by_refusal (λ (o : Outcome). IsKnown o.now k view) node (with_view_change node s) (is_signed node.keys m) (nat_lt node.order.view view) (was_asked node.changes s.message) (valid_view_change node.keys s) signed valid
    (λ entered. inr (ltb-false node.order.view view entered))
    (λ known. inl (leb-true view (get_or node.changes.asked k 0) known))
    (inl (subst (λ (us : List ℕ). view ≤ get_or us k 0) (sym (change_asks node s)) (let same = set_there node.changes.asked k view among in omega (arith, same))))

-- at the beginning
pub new_prompt : (f me n : ℕ) (own : Option Change) → IsPrompt f me 0 0 (record { asked = replicate n 0; changes = replicate n None; own = own })
new_prompt f me n own = record { due = refl; there = none_there (Leads f me) n; own = λ lt. absurd (omega (arith, lt)) }
