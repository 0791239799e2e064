-- A primary's log leaves out no number below one that it has proposed, or that was handed over: each call of its order keeps that.
use Rattle.std.proofs.Common.{◌≡◌, ℕ, ◌+◌, ◌<◌, ◌≤◌, ◌==◌, max, Bool, true, false, cond, ◌&&◌, ◌||◌, List, [], ◌∷◌, ◌++◌, ◌⊎◌, Some, None, inl, inr, refl, sym, ap, subst, ◌∙◌, arith}
use Rattle.std.specs.Prelude.{nat_le, nat_lt}
use Rattle.std.specs.List.{list_all, list_any}
use Rattle.std.proofs.Math.Bool.{or-false}
use Rattle.std.proofs.lemmas.Bool.{and_from, and_parts, cases_Bool, cases_lt, cond_both, eq-eqb, eqb-true, ltb-false, ltb-true, or_left}
use Rattle.bfs_auth.specs.Keys.{Keys}
use Rattle.bfs_log.specs.Certificates.{StableCheckpoint, checkpoints_in, is_shown, vouches}
use Rattle.bfs_log.specs.Headers.{header}
use Rattle.bfs_log.specs.Logs.{Log, headers, greatest_proposed, kept_after}
use Rattle.bfs_messages.specs.Messages.{Batch}
use Rattle.bfs_messages.specs.Signing.{order_signed_by}
use Rattle.bfs_messages.specs.declared.order_messages.OrderMessage.{OrderMessage}
use Rattle.bfs_messages.specs.declared.order_messages.OrderMessage.TheVariants.{Commit, Prepare}
use Rattle.bfs_messages.specs.declared.signed.Signed.{Signed}
use Rattle.bfs_model.specs.Server.Limits.{log_size, most_number}
use Rattle.bfs_order.specs.Laws.Calls.{Call, Takes, Proposes, Executes, Checkpoints, Installs, Leaves, Enters, execution, outcome}
use Rattle.bfs_order.specs.Replica.Accepting.{accepted, answers, makes_stable, settled}
use Rattle.bfs_order.specs.Replica.Answers.{answers_in, commits_in, own_vote, prepares_in, votes_in}
use Rattle.bfs_order.specs.Replica.Checkpoints.{checkpoint, checkpoint_refusal, checkpointed}
use Rattle.bfs_order.specs.Replica.Executing.{next_order}
use Rattle.bfs_order.specs.Replica.Installing.{certified, install_refusal, installed}
use Rattle.bfs_order.specs.Replica.Proposing.{batch_digest, next_number, proposal, proposal_commits, proposal_refusal, proposed}
use Rattle.bfs_order.specs.Replica.Refusals.{is_authentic, is_between, is_there, place_refusal, refusal}
use Rattle.bfs_order.specs.Replica.States.{State, known, with_message, with_more}
use Rattle.bfs_order.specs.Replica.Views.{entered, entering_refusal, leaving_refusal, left}
use Rattle.bfs_order.specs.declared.error.OrderError.TheVariants.{BadAuthenticator, NoCertificate, OutsideMarks, WrongView}
use Rattle.bfs_votes.specs.Votes.{Header, Told, has_slot, is_slot, prepared, primary}
use Rattle.bfs_agreement.specs.Moves.{kept_above}
use Rattle.bfs_agreement.proofs.Public.{Is, in_told, kept_told, moved, told_cases, told_kept, told_more}
use Rattle.bfs_progress.proofs.Public.{slot_told, told_slot}
use Rattle.bfs_nodes_agree.specs.Orders.Following.{HaveTheSameVotes}
use Rattle.bfs_nodes_agree.proofs.Public.{AllIn, any_both, both_in, dropped, each_five, either_in, either_way, entered_same, five_pushed, in_map, IsPlaced, left_in, no_answers, none_in, of_primary, one_in, out_of_map, passed, placed, right_in, slot_same, told_in, told_same, unsettled}

-- What is filled ------------------------------------------------------------------------------------------------------

-- a number is handed over, or not above one that has a PRE-PREPARE of the view
abbrev pub IsReached : State → (number : ℕ) → Type 0
IsReached s n = (n ≤ s.handed) ⊎ ((k top : ℕ) × (d : List ℕ) × (n ≤ top) × Told (known s) 2 k s.view top d)

-- its own PRE-PREPARE is there
abbrev pub HasOwn : State → (number : ℕ) → Type 0
HasOwn s n = has_slot (known s) 2 s.me s.view n ≡ true

-- where it leads its view, each number that is reached above its low mark, and above what the view begins behind, has one
abbrev pub IsFilled : State → Type 0
IsFilled s = s.me ≡ primary s.f s.view → (n : ℕ) → s.low < n → s.min_s < n → IsReached s n → HasOwn s n

-- what leaves its view as it is, takes no PRE-PREPARE above the low mark, and reaches nothing new
filled_on : (s : State) (asked low last : ℕ) (log : Log) → s.low ≤ low
    → ((n : ℕ) → low < n → HasOwn s n → has_slot (headers log) 2 s.me s.view n ≡ true)
    → (s.me ≡ primary s.f s.view → (k n top : ℕ) (d : List ℕ) → Told (headers log) 2 k s.view top d → n ≤ top → low < n → s.min_s < n → IsReached s n ⊎ (has_slot (headers log) 2 s.me s.view n ≡ true))
    → IsFilled s → IsFilled (record s { asked = asked; low = low; last = last; log = log })
filled_on s asked low last log rises keeps reaches filled led n above behind reached = elim reached [
  | inl handed ↦ keeps n above (filled led n (omega (arith, rises, above)) behind (inl handed))
  | inr told ↦ elim (reaches led told.0 n told.1 told.2 told.4 told.3 above behind) [
    | inl before ↦ keeps n above (filled led n (omega (arith, rises, above)) behind before)
    | inr there ↦ there
  ]
]

-- where the low mark rises, and a log tells the same votes above it
filled_same : (s : State) (asked low last : ℕ) (log : Log) → s.low ≤ low → HaveTheSameVotes (headers log) (kept_above low (known s)) → IsFilled s → IsFilled (record s { asked = asked; low = low; last = last; log = log })
filled_same s asked low last log rises same = filled_on s asked low last log rises
    (λ n above own.
    let got = slot_told (known s) 2 s.me s.view n own in
    slot_same (headers log) (kept_above low (known s)) same 2 s.me s.view n (omega arith) ∙ told_slot (kept_above low (known s)) 2 s.me s.view n got.0 (told_kept low (known s) 2 s.me s.view n got.0 above got.1))
    (λ led k n top d told le above behind.
    let there = kept_told low (known s) 2 k s.view top d (sym (told_same (headers log) (kept_above low (known s)) same 2 k s.view top d (omega arith)) ∙ told) in
    inl (inr (k, top, d, le, there)))

-- and where it stays
filled_still : (s : State) (log : Log) → HaveTheSameVotes (headers log) (known s) → IsFilled s → IsFilled (record s { log = log })
filled_still s log same = filled_on s s.asked s.low s.last log (omega arith)
    (λ n above own. slot_same (headers log) (known s) same 2 s.me s.view n (omega arith) ∙ own)
    (λ led k n top d told le above behind. inl (inr (k, top, d, le, sym (told_same (headers log) (known s) same 2 k s.view top d (omega arith)) ∙ told)))

-- a checkpoint that becomes stable
settled_filled : (s : State) (h : Header) → s.low < h.number → IsFilled s → IsFilled (settled s h)
settled_filled s h above filled = elim (makes_stable s h) as (λ b. IsFilled (record s { low = cond b h.number s.low; log = cond b (kept_after h.number h.digest s.log) s.log })) [
  | true ↦ filled_same s s.asked h.number s.last (kept_after h.number h.digest s.log) (omega (arith, above)) (dropped h.number h.digest s.log (known s) (λ test votes. refl)) filled
  | false ↦ filled
]

-- Answers are PREPAREs and COMMITs --------------------------------------------------------------------------------------

abbrev pub IsAnswer : Signed OrderMessage → Type 0
IsAnswer m = ((header m).tag ≡ 3) ⊎ ((header m).tag ≡ 4)

abbrev pub IsNoProposal : Signed OrderMessage → Type 0
IsNoProposal m = (header m).tag ≡ 2 → ⊥

pub no_proposals : (ms : Log) → AllIn IsAnswer ms → AllIn IsNoProposal ms
no_proposals ms all m i two = elim (all m i) [ inl three ↦ omega (arith, three, two) | inr four ↦ omega (arith, four, two) ]

once : (b : Bool) (m : Signed OrderMessage) → IsAnswer m → AllIn IsAnswer (cond b [] (m ∷ []))
once true m is = none_in IsAnswer
once false m is = one_in IsAnswer m is

module _ (keys : Keys) where
  prepares_are : (s : State) (v n : ℕ) (d : List ℕ) → AllIn IsAnswer (prepares_in keys s v n d)
  prepares_are s v n d =
      let m = order_signed_by keys (Prepare (own_vote s v n d)) in
      elim (s.me == primary s.f v) as (λ b. AllIn IsAnswer (cond b [] (cond (is_there s (header m)) [] (m ∷ [])))) [
        | true ↦ none_in IsAnswer
        | false ↦ once (is_there s (header m)) m (inl refl)
      ]

  pub commits_are : (s : State) (v n : ℕ) (d : List ℕ) → AllIn IsAnswer (commits_in keys s v n d)
  commits_are s v n d =
      let m = order_signed_by keys (Commit (own_vote s v n d)) in
      cond_both (prepared s.f s.me (known s) v n d) (cond (is_there s (header m)) [] (m ∷ [])) [] (AllIn IsAnswer) (λ _. once (is_there s (header m)) m (inr refl)) (λ _. none_in IsAnswer)

  pub answers_are : (s : State) (h : Header) → AllIn IsAnswer (answers_in keys s h)
  answers_are s h =
      let ps = prepares_in keys s h.view h.number h.digest in
      let cs = commits_in keys s h.view h.number h.digest in
      cond_both (h.tag == 2) (votes_in keys s h.view h.number h.digest) (cond (h.tag == 3) cs []) (AllIn IsAnswer)
      (λ _. both_in IsAnswer ps (commits_in keys (with_more s ps) h.view h.number h.digest) (prepares_are s h.view h.number h.digest) (commits_are (with_more s ps) h.view h.number h.digest))
      (λ _. cond_both (h.tag == 3) cs [] (AllIn IsAnswer) (λ _. commits_are s h.view h.number h.digest) (λ _. none_in IsAnswer))

  pub lone_are : (s : State) (batch : Batch) → AllIn IsAnswer (proposal_commits keys s batch)
  lone_are s batch =
      let next = with_message s (proposal keys s batch) in
      cond_both (s.f == 0) (commits_in keys next s.view (next_number s) (batch_digest batch)) [] (AllIn IsAnswer) (λ _. commits_are next s.view (next_number s) (batch_digest batch)) (λ _. none_in IsAnswer)

-- what is told of PRE-PREPAREs by a log with one message more, and others that are none
one_more : (s : State) (m : Signed OrderMessage) (vs : Log) → AllIn IsNoProposal vs → (k v n : ℕ) (d : List ℕ) → Told (headers ((s.log ++ m ∷ []) ++ vs)) 2 k v n d → Told (known s) 2 k v n d ⊎ Is (header m) 2 k v n d
one_more s m vs silent k v n d told =
    let got = told_in (headers ((s.log ++ m ∷ []) ++ vs)) 2 k v n d told in
    let from = out_of_map header ((s.log ++ m ∷ []) ++ vs) got.0 got.1 in
    let is = subst (λ (h : Header). Is h 2 k v n d) from.2 got.2 in
    elim (either_in (s.log ++ m ∷ []) vs from.0 from.1) [
      | inl early ↦ elim (either_in s.log (m ∷ []) from.0 early) [
        | inl before ↦ inl (moved (header from.0) 2 k v n d is (λ t k v n d. Told (known s) t k v n d) (in_told (known s) (header from.0) (in_map header s.log from.0 before)))
        | inr new ↦ elim new [ inl same ↦ inr (subst (λ (x : Signed OrderMessage). Is (header x) 2 k v n d) same is) | inr none ↦ absurd none ]
      ]
      | inr late ↦ absurd (silent from.0 late is.tag)
    ]

has_more : (s : State) (m : Signed OrderMessage) (vs : Log) (test : Header → Bool) → list_any test (known s) ≡ true → list_any test (headers ((s.log ++ m ∷ []) ++ vs)) ≡ true
has_more s m vs test has =
    any_both test (s.log ++ m ∷ []) vs ∙ or_left (list_any test (headers (s.log ++ m ∷ []))) (list_any test (headers vs))
    (any_both test s.log (m ∷ []) ∙ or_left (list_any test (known s)) (list_any test (headers (m ∷ []))) has)

-- Messages that come --------------------------------------------------------------------------------------------------

-- a PRE-PREPARE of its view that comes back to its primary is one that it has, or had, or was handed over
abbrev pub IsKnown : State → Signed OrderMessage → Type 0
IsKnown s m = s.me ≡ primary s.f s.view → (header m).tag ≡ 2 → (header m).sender ≡ s.me → (header m).view ≡ s.view
    → ((header m).number ≤ s.low) ⊎ (HasOwn s (header m).number ⊎ ((header m).number ≤ max s.min_s s.handed))

of_view : (s : State) (h : Header) → (h.tag == 5) ≡ false → ((h.tag == 5) || ((h.view == s.view) && nat_le s.asked s.view)) ≡ true → h.view ≡ s.view
of_view s h vote e = eqb-true h.view s.view (and_parts (h.view == s.view) (nat_le s.asked s.view) (sym (ap (λ (b : Bool). b || ((h.view == s.view) && nat_le s.asked s.view)) vote) ∙ e)).0

accepted_filled : (keys : Keys) (s : State) (m : Signed OrderMessage) → IsPlaced s (header m) → IsKnown s m → IsFilled s → IsFilled (accepted keys s m).now
accepted_filled keys s m at is_known filled = elim (cases_Bool (h.tag == 5)) [
  | inl five ↦
      let tag = eqb-true h.tag 5 five in
      let same : HaveTheSameVotes (headers ((s.log ++ m ∷ []) ++ [])) (known s) =
      λ test votes. any_both test (s.log ++ m ∷ []) [] ∙ or-false (list_any test (headers (s.log ++ m ∷ []))) ∙ five_pushed s.log (known s) m tag (λ test votes. refl) test votes in
      subst (λ (l : Log). IsFilled (settled (with_more (with_message s m) l) h)) (sym (no_answers keys (with_message s m) h tag))
      (settled_filled (with_more (with_message s m) []) h above (filled_still s ((s.log ++ m ∷ []) ++ []) same filled))
  | inr vote ↦
      let vs = answers keys s m in
      let silent = no_proposals vs (answers_are keys (with_message s m) h) in
      subst IsFilled (sym (unsettled (with_more (with_message s m) vs) h vote)) (filled_on s s.asked s.low s.last ((s.log ++ m ∷ []) ++ vs) (omega arith)
      (λ n lt own. has_more s m vs (is_slot 2 s.me s.view n) own)
      (λ led k n top d told le lt behind. elim (one_more s m vs silent k s.view top d told) [
        | inl before ↦ inl (inr (k, top, d, le, before))
        | inr is ↦
            let view = of_view s h vote at.of_view in
            let by : h.sender ≡ primary s.f h.view = eqb-true h.sender (primary s.f h.view) (of_primary (h.tag == 2) (h.sender == primary s.f h.view) (eq-eqb h.tag 2 is.tag) at.primary) in
            let own : h.sender ≡ s.me = by ∙ ap (primary s.f) view ∙ sym led in
            let number = is.number in
            elim (is_known led is.tag own view) [
              | inl low ↦ absurd (omega (arith, low, number, le, lt))
              | inr rest ↦ elim rest [
                | inl has ↦
                    let free : has_slot (known s) h.tag h.sender h.view h.number ≡ false = at.free in
                    let there : has_slot (known s) h.tag h.sender h.view h.number ≡ true = subst (λ (x : ℕ). has_slot (known s) x h.sender h.view h.number ≡ true) (sym is.tag)
                    (subst (λ (x : ℕ). has_slot (known s) 2 x h.view h.number ≡ true) (sym own) (subst (λ (x : ℕ). has_slot (known s) 2 s.me x h.number ≡ true) (sym view) has)) in
                    absurd (cc (free, there))
                | inr handed ↦ inl (inl (omega (arith, handed, number, le, behind)))
              ]
            ]
      ]) filled)
]
  where
    h : Header
    h = header m

    above : s.low < h.number
    above = ltb-true s.low h.number (and_parts (nat_lt s.low h.number) (nat_le h.number (s.low + log_size)) (and_parts (is_between s h.number) _ at.inside).0).0

-- Proposals -----------------------------------------------------------------------------------------------------------

-- the greatest number that has a PRE-PREPARE of the view has one
abbrev IsTold : (v : ℕ) → List Header → ℕ → Type 0
IsTold v hs n = (n ≡ 0) ⊎ ((k : ℕ) × (d : List ℕ) × Told hs 2 k v n d)

greatest_is_told : (v : ℕ) (hs : List Header) → IsTold v hs (greatest_proposed v hs)
greatest_is_told v [] = inl refl
greatest_is_told v (h ∷ hs) =
    let g = greatest_proposed v hs in
    let later : IsTold v (h ∷ hs) g = elim (greatest_is_told v hs) [ inl none ↦ inl none | inr told ↦ inr (told.0, told.1, told_more h hs 2 told.0 v g told.1 told.2) ] in
    cond_both ((h.tag == 2) && (h.view == v)) (max h.number g) g (IsTold v (h ∷ hs))
    (λ is. elim (cases_lt h.number g) [
      | inl lt ↦ let same : g ≡ max h.number g = omega (arith, lt) in subst (IsTold v (h ∷ hs)) same later
      | inr le ↦
          let same : h.number ≡ max h.number g = omega (arith, le) in
          let both = and_parts (h.tag == 2) (h.view == v) is in
          let itself : Told (h ∷ hs) 2 h.sender v h.number h.digest = subst (λ (x : ℕ). Told (h ∷ hs) x h.sender v h.number h.digest) (eqb-true h.tag 2 both.0)
          (subst (λ (x : ℕ). Told (h ∷ hs) h.tag h.sender x h.number h.digest) (eqb-true h.view v both.1) (in_told (h ∷ hs) h (inl refl))) in
          subst (IsTold v (h ∷ hs)) same (inr (h.sender, h.digest, itself))
    ])
    (λ _. later)

pub greatest_under : (v : ℕ) (hs : List Header) (bound : ℕ) → ((k n : ℕ) (d : List ℕ) → Told hs 2 k v n d → n ≤ bound) → greatest_proposed v hs ≤ bound
greatest_under v hs bound each = elim (greatest_is_told v hs) [ inl none ↦ omega (arith, none) | inr told ↦ each told.0 (greatest_proposed v hs) told.1 told.2 ]

pub told_le : (v : ℕ) (hs : List Header) (k n : ℕ) (d : List ℕ) → Told hs 2 k v n d → n ≤ greatest_proposed v hs
told_le v [] k n d told = absurd cc
told_le v (h ∷ hs) k n d told =
    let g = greatest_proposed v hs in
    let b = (h.tag == 2) && (h.view == v) in
    elim (told_cases h hs 2 k v n d told) [
      | inl at ↦
          let is : b ≡ true = and_from (h.tag == 2) (h.view == v) (eq-eqb h.tag 2 at.tag) (eq-eqb h.view v at.view) in
          let number = at.number in
          cond_both b (max h.number g) g (λ (m : ℕ). n ≤ m) (λ _. omega (arith, number)) (λ other. absurd (cc (is, other)))
      | inr later ↦ let le = told_le v hs k n d later in cond_both b (max h.number g) g (λ (m : ℕ). n ≤ m) (λ _. omega (arith, le)) (λ _. le)
    ]

-- each number below the next one is reached
pub below_next : (s : State) (n : ℕ) → s.low < n → s.min_s < n → n < next_number s → IsReached s n
below_next s n above behind less = elim (greatest_is_told s.view (known s)) [
  | inl none ↦ inl (omega (arith, none, above, behind, less))
  | inr told ↦ elim (cases_lt (greatest_proposed s.view (known s)) n) [
    | inl lt ↦ inl (omega (arith, lt, above, behind, less))
    | inr le ↦ inr (told.0, greatest_proposed s.view (known s), told.1, omega (arith, le), told.2)
  ]
]

proposed_filled : (keys : Keys) (s : State) (batch : Batch) → IsFilled s → IsFilled (proposed keys s batch).now
proposed_filled keys s batch filled =
    let m = proposal keys s batch in
    let vs = proposal_commits keys s batch in
    let all = (s.log ++ m ∷ []) ++ vs in
    let own : has_slot (headers all) 2 s.me s.view (next_number s) ≡ true = told_slot (headers all) 2 s.me s.view (next_number s) (batch_digest batch)
    (in_told (headers all) (header m) (in_map header all m (left_in (s.log ++ m ∷ []) vs m (right_in s.log (m ∷ []) m (inl refl))))) in
    let silent = no_proposals vs (lone_are keys s batch) in
    filled_on s s.asked s.low s.last ((s.log ++ m ∷ []) ++ vs) (omega arith)
    (λ n lt own. has_more s m vs (is_slot 2 s.me s.view n) own)
    (λ led k n top d told le lt behind. elim (one_more s m vs silent k s.view top d told) [
      | inl before ↦ inl (inr (k, top, d, le, before))
      | inr is ↦
          let number : next_number s ≡ top = is.number in
          elim (cases_lt n (next_number s)) [
            | inl less ↦ inl (below_next s n lt behind less)
            | inr high ↦ let here : next_number s ≡ n = omega (arith, number, le, high) in inr (subst (λ (x : ℕ). has_slot (headers ((s.log ++ m ∷ []) ++ vs)) 2 s.me s.view x ≡ true) here own)
          ]
    ]) filled

-- a certificate that is installed
installs_filled : (keys : Keys) (s : State) (c : StableCheckpoint) → IsFilled s → is_shown keys s.f c ≡ true → (b : Bool) → nat_lt s.low c.number ≡ b
    → IsFilled (record s { low = max s.low c.number; last = max s.last c.number; log = cond b (certified s.log c) s.log })
installs_filled keys s c filled shown true lt =
    let n = c.number in
    let over = ltb-true s.low n lt in
    let high : n ≡ max s.low n = omega (arith, over) in
    let all = (and_parts (list_all (vouches keys s.f n c.digest) (checkpoints_in c)) _ shown).0 in
    let same = each_five keys s.f n c.digest (kept_after n c.digest s.log) (checkpoints_in c) (kept_above n (known s)) all (dropped n c.digest s.log (known s) (λ test votes. refl)) in
    filled_same s s.asked (max s.low n) (max s.last n) (certified s.log c) (omega arith) (subst (λ (x : ℕ). HaveTheSameVotes (headers (certified s.log c)) (kept_above x (known s))) high same) filled
installs_filled keys s c filled shown false lt =
    let under = ltb-false s.low c.number lt in
    let low : s.low ≡ max s.low c.number = omega (arith, under) in
    subst (λ (x : ℕ). IsFilled (record s { low = x; last = max s.last c.number })) low filled

-- Each call -----------------------------------------------------------------------------------------------------------

-- what comes by a call is known
abbrev pub BringsKnown : State → Call → Type 0
BringsKnown s (Takes keys m) = refusal keys s m ≡ None → IsKnown s m
BringsKnown s call = Unit {0}

-- the view is a later one, or it is filled still
abbrev pub RisesOrFilled : (view : ℕ) → State → Type 0
RisesOrFilled view s = (view < s.view) ⊎ IsFilled s

call_filled : (s : State) (call : Call) → BringsKnown s call → IsFilled s → RisesOrFilled s.view (outcome s call).now
call_filled s (Takes keys m) brings filled = either_way (λ o. RisesOrFilled s.view o.now) (refusal keys s m) s (accepted keys s m)
    (λ none. inr (accepted_filled keys s m (placed s (header m) (passed (is_authentic keys s m) BadAuthenticator (place_refusal s (header m)) none).1) (brings none) filled)) (inr filled)
call_filled s (Proposes keys batch) brings filled = either_way (λ o. RisesOrFilled s.view o.now) (proposal_refusal s) s (proposed keys s batch) (λ _. inr (proposed_filled keys s batch filled)) (inr filled)
call_filled s Executes brings filled = elim (next_order s) as (λ o. RisesOrFilled s.view (execution s o).now) [ None ↦ inr filled | Some m ↦ inr filled ]
call_filled s (Checkpoints keys n d) brings filled = either_way (λ o. RisesOrFilled s.view o.now) (checkpoint_refusal s n) s (checkpointed keys s n d)
    (λ none.
    let m = checkpoint keys s n d in
    let within = (and_parts (is_between s n) (nat_le n most_number) (passed (is_between s n && nat_le n most_number) OutsideMarks _ none).0).0 in
    let above = ltb-true s.low n (and_parts (nat_lt s.low n) (nat_le n (s.low + log_size)) within).0 in
    inr (settled_filled (with_message s m) (header m) above (filled_still s (s.log ++ m ∷ []) (five_pushed s.log (known s) m refl (λ test votes. refl)) filled))) (inr filled)
call_filled s (Installs keys c) brings filled = either_way (λ o. RisesOrFilled s.view o.now) (install_refusal keys s c) s (installed s c)
    (λ none. inr (installs_filled keys s c filled (passed (is_shown keys s.f c) NoCertificate _ none).0 (nat_lt s.low c.number) refl)) (inr filled)
call_filled s (Leaves view) brings filled = either_way (λ o. RisesOrFilled s.view o.now) (leaving_refusal s view) s (left s view) (λ _. inr filled) (inr filled)
call_filled s (Enters keys view stable handed) brings filled = either_way (λ o. RisesOrFilled s.view o.now) (entering_refusal s view) s (entered keys s view stable handed)
    (λ none.
    let above = ltb-true s.view view (and_parts (nat_lt s.view view) (nat_le s.asked view && nat_le view most_number) (passed (nat_lt s.view view && (nat_le s.asked view && nat_le view most_number)) WrongView None none).0).0 in
    let is = entered_same (λ (x : State). x.view) (λ x low log. refl) keys s view stable handed in
    inl (subst (λ (u : ℕ). s.view < u) (sym is) above)) (inr filled)

-- no view is entered again
view_rises : (s : State) (call : Call) → s.view ≤ (outcome s call).now.view
view_rises s (Takes keys m) = either_way (λ o. s.view ≤ o.now.view) (refusal keys s m) s (accepted keys s m) (λ _. omega arith) (omega arith)
view_rises s (Proposes keys batch) = either_way (λ o. s.view ≤ o.now.view) (proposal_refusal s) s (proposed keys s batch) (λ _. omega arith) (omega arith)
view_rises s Executes = elim (next_order s) as (λ o. s.view ≤ (execution s o).now.view) [ None ↦ omega arith | Some m ↦ omega arith ]
view_rises s (Checkpoints keys n d) = either_way (λ o. s.view ≤ o.now.view) (checkpoint_refusal s n) s (checkpointed keys s n d) (λ _. omega arith) (omega arith)
view_rises s (Installs keys c) = either_way (λ o. s.view ≤ o.now.view) (install_refusal keys s c) s (installed s c) (λ _. omega arith) (omega arith)
view_rises s (Leaves view) = either_way (λ o. s.view ≤ o.now.view) (leaving_refusal s view) s (left s view) (λ _. omega arith) (omega arith)
view_rises s (Enters keys view stable handed) = either_way (λ o. s.view ≤ o.now.view) (entering_refusal s view) s (entered keys s view stable handed)
    (λ none.
    let above = ltb-true s.view view (and_parts (nat_lt s.view view) (nat_le s.asked view && nat_le view most_number) (passed (nat_lt s.view view && (nat_le s.asked view && nat_le view most_number)) WrongView None none).0).0 in
    let is = entered_same (λ (x : State). x.view) (λ x low log. refl) keys s view stable handed in
    omega (arith, is, above))
    (omega arith)

-- so behind each call it has risen above a view, or is filled still
pub goes_on : (view : ℕ) (s : State) (call : Call) → BringsKnown s call → (view ≤ s.view) × RisesOrFilled view s → (view ≤ (outcome s call).now.view) × RisesOrFilled view (outcome s call).now
goes_on view s call brings before =
    let from = before.0 in
    let up = view_rises s call in (
      omega (arith, from, up),
      elim before.1 [
        | inl risen ↦ inl (omega (arith, risen, up))
        | inr filled ↦ elim (call_filled s call brings filled) [ inl rises ↦ inl (omega (arith, from, rises)) | inr still ↦ inr still ]
      ],
    )
