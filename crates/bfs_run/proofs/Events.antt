-- What the events of a trace do is acts, and they print what clients accept.
use Rattle.std.proofs.Common.{◌≡◌, ℕ, ◌==◌, Bool, true, false, cond, ◌&&◌, not, List, [], ◌∷◌, ◌++◌, map, Option, Some, None, option_map, inl, inr, refl, sym, ap, ap₂, subst, ◌∙◌, append_assoc, append-nil}
use Rattle.std.specs.Prelude.{nat_lt}
use Rattle.std.specs.List.{filter, flat_map, fold, list_any}
use Rattle.std.proofs.lemmas.Bool.{cases_Bool, cond_both, eq-eqb, eqb-true, or_cases}
use Rattle.std.proofs.lemmas.Grind.{flat_map-append}
use Rattle.std.proofs.lemmas.List.Sums.{fold-append}
use Rattle.bfs_auth.specs.Keys.{Keys}
use Rattle.bfs_messages.specs.Messages as model
use Rattle.bfs_messages.specs.Signing.{signed_by}
use Rattle.bfs_messages.specs.declared.signed.Signed.{Signed}
use Rattle.bfs_messages.specs.declared.message.Message.{Message}
use Rattle.bfs_messages.specs.declared.message.Message.TheVariants.{Request, Reply}
use Rattle.bfs_settings.specs.Settings.{Settings}
use Rattle.bfs_order.specs.Laws.Calls.{CallsKeepTheReplica}
use Rattle.bfs_agreement.specs.Histories.{IsIn}
use Rattle.bfs_node.specs.Nodes.{Messages, Node}
use Rattle.bfs_node.specs.Receivers.{receivers_of}
use Rattle.bfs_node.specs.declared.receivers.Receivers.TheVariants.{Client}
use Rattle.bfs_clients.specs.Clients.{Clients, clients_of, keys_at, signed_request}
use Rattle.bfs_clients.specs.Tallies.{Tally, agreed, has_counted, is_signed_reply, is_wanted, no_replies, result_to, tallied_as, tallied_by, tally_of, waits, with_reply}
use Rattle.bfs_cluster.specs.World as cluster
use Rattle.bfs_nodes_agree.specs.Nodes.Laws.{WhatIsSentIsFair}
use Rattle.bfs_nodes_agree.proofs.Public.{AllIn, any_in, both_in, either_in, filter_in, in_map, left_in, map_in, out_of_filter_map, right_in}
use Rattle.bfs_one_server.specs.Worlds.{Act, Hears, Signs, World, after_act, with_heard, with_signed}
use Rattle.bfs_replay.specs.Output.{answered_line, answered_lines, line_if_answered, result_line, result_lines, view_line, view_lines}
use Rattle.bfs_replay.specs.Runs.{BlockRuns, EventRuns, EventsRun, Run, TimeoutRuns, as_message, counted, sent_requests, unanswered}
use Rattle.bfs_trace.specs.Events as trace
use Rattle.bfs_trace.specs.declared.events.TraceEvent.{TraceEvent}
use Rattle.bfs_trace.specs.declared.events.TraceEvent.TheVariants as event
use Rattle.bfs_run.specs.Acts.{AskOnce, Line, Result, View, WasSentTo, asked_in, line_text, requests_in, text_of}
use Rattle.bfs_run.proofs.Acting as acting
use Rattle.bfs_run.proofs.Acting.{heard_on, signed_on, was_sent_on}
use Rattle.bfs_run.proofs.Clusters.{Stands, block_comes, hears, settles, times_out, waits as waits_there}

-- Tallies -----------------------------------------------------------------------------------------------------------------------

-- a line of its own
one_text : (line : Line) → line_text line ≡ text_of (line ∷ [])
one_text line = sym (append-nil (line_text line))

is_result : (c t d u : ℕ) (o p : Option (List ℕ)) → IsIn (Result c t o) (Result d u p ∷ []) → (c ≡ d) × (t ≡ u) × (o ≡ p)
is_result c t d u o p i = elim i [ inl e ↦ ((cc), (cc), (cc)) | inr none ↦ absurd none ]

-- the lines of one after another
texts : {X : Type 0} (text : X → List ℕ) (lines : X → List Line) → ((x : X) → text x ≡ text_of (lines x)) → (xs : List X) → flat_map text xs ≡ text_of (flat_map lines xs)
texts text lines each [] = refl
texts text lines each (x ∷ xs) = ap₂ (λ (one more : List ℕ). one ++ more) (each x) (texts text lines each xs) ∙ sym (flat_map-append line_text (lines x) (flat_map lines xs))

in_lines : {X : Type 0} (lines : X → List Line) (xs : List X) (line : Line) → IsIn line (flat_map lines xs) → (x : X) × IsIn x xs × IsIn line (lines x)
in_lines lines [] line i = absurd i
in_lines lines (x ∷ xs) line i = elim (either_in (lines x) (flat_map lines xs) line i) [
  | inl j ↦ (x, inl refl, j)
  | inr j ↦ let later = in_lines lines xs line j in (later.0, inr later.1, later.2)
]

module _ (clients : Clients) where
  -- whose it is stays
  tally_stays : (tally : Tally) (m : Message) (signed : Bool) → ((tallied_as m signed tally).client ≡ tally.client) × ((tallied_as m signed tally).timestamp ≡ tally.timestamp)
  tally_stays tally (Reply reply) signed =
      cond_both (is_wanted tally reply && signed) (with_reply tally reply) tally (λ (x : Tally). (x.client ≡ tally.client) × (x.timestamp ≡ tally.timestamp)) (λ _. (refl, refl)) (λ _. (refl, refl))
  tally_stays tally other signed = (refl, refl)

  all_stay : (ms : Messages) (tally : Tally) → ((fold (tallied_by clients) tally ms).client ≡ tally.client) × ((fold (tallied_by clients) tally ms).timestamp ≡ tally.timestamp)
  all_stay [] tally = (refl, refl)
  all_stay (m ∷ ms) tally =
      let first = tally_stays tally m.message (is_signed_reply clients m) in
      let rest = all_stay ms (tallied_by clients tally m) in
      (rest.0 ∙ first.0, rest.1 ∙ first.1)

  -- a REPLY to that client
  abbrev pub is_to : (c : ℕ) → Message → Bool
  is_to c (Reply reply) = reply.client == c
  is_to c other = false

  passed_over : (tally : Tally) (m : Message) (signed : Bool) → is_to tally.client m ≡ false → tallied_as m signed tally ≡ tally
  passed_over tally (Reply reply) signed e =
      ap (λ (b : Bool). cond ((b && ((reply.timestamp == tally.timestamp) && not (has_counted tally.counted reply.sender))) && signed) (with_reply tally reply) tally) e
  passed_over tally other signed e = refl

  -- only REPLYs to the client count
  pub only_own : (c : ℕ) (ms : Messages) (tally : Tally) → tally.client ≡ c → fold (tallied_by clients) tally (filter (λ m. is_to c m.message) ms) ≡ fold (tallied_by clients) tally ms
  only_own c [] tally is = refl
  only_own c (m ∷ ms) tally is =
      let rest = only_own c ms (tallied_by clients tally m) ((tally_stays tally m.message (is_signed_reply clients m)).0 ∙ is) in
      cond_both (is_to c m.message) (m ∷ filter (λ m. is_to c m.message) ms) (filter (λ m. is_to c m.message) ms) (λ (l : Messages). fold (tallied_by clients) tally l ≡ fold (tallied_by clients) (tallied_by clients tally m) ms)
      (λ _. rest)
      (λ e.
      let same = passed_over tally m.message (is_signed_reply clients m) (ap (λ (b : ℕ). is_to b m.message) is ∙ e) in
      ap (λ (x : Tally). fold (tallied_by clients) x (filter (λ m. is_to c m.message) ms)) (sym same) ∙ rest)

  -- it counts some of these messages
  pub record Counts (heard : Messages) (tally : Tally) : Type 0 where
    pub counted : Messages
    pub there : (m : Signed Message) → IsIn m counted → IsIn m heard
    pub is : tally ≡ tally_of clients counted tally.client tally.timestamp

  counts_more : (heard more : Messages) (tally : Tally) → Counts heard tally → Counts (heard ++ more) (fold (tallied_by clients) tally more)
  counts_more heard more tally counts =
      let names = all_stay more tally in
      record {
        counted = counts.counted ++ more;
        there = both_in (λ (m : Signed Message). IsIn m (heard ++ more)) counts.counted more (λ m i. left_in heard more m (counts.there m i)) (right_in heard more);
        is = ap (λ (x : Tally). fold (tallied_by clients) x more) counts.is
            ∙ sym (fold-append (tallied_by clients) (no_replies clients.f tally.client tally.timestamp) counts.counted more)
            ∙ ap₂ (tally_of clients (counts.counted ++ more)) (sym names.0) (sym names.1);
      }

  counts_new : (heard more : Messages) (c t : ℕ) → Counts (heard ++ more) (tally_of clients more c t)
  counts_new heard more c t =
      let names = all_stay more (no_replies clients.f c t) in
      record { counted = more; there = right_in heard more; is = ap₂ (tally_of clients more) (sym names.0) (sym names.1) }

  -- Lines -----------------------------------------------------------------------------------------------------------------------

  -- each result is one that is made of some of these messages
  abbrev pub AreMade : (heard : Messages) → List Line → Type 0
  AreMade heard lines = (c t : ℕ) (r : List ℕ) → IsIn (Result c t (Some r)) lines → (ms : Messages) × ((m : Signed Message) → IsIn m ms → IsIn m heard) × (result_to clients ms c t ≡ Some r)

  results : (replies : Messages) → trace.Request → List Line
  results replies request = Result request.client request.timestamp (result_to clients replies request.client request.timestamp) ∷ []

  results_text : (replies : Messages) (requests : List trace.Request) → result_lines clients replies requests ≡ text_of (flat_map (results replies) requests)
  unfolding results
  results_text replies = texts (λ request. result_line request.client request.timestamp (result_to clients replies request.client request.timestamp)) (results replies) (λ request. one_text (Result request.client request.timestamp (result_to clients replies request.client request.timestamp)))

  results_made : (heard replies : Messages) (requests : List trace.Request) → AreMade (heard ++ replies) (flat_map (results replies) requests)
  unfolding results
  results_made heard replies requests c t r i =
      let from = in_lines (results replies) requests (Result c t (Some r)) i in
      let is = is_result c t from.0.client from.0.timestamp (Some r) _ from.2 in
      (replies, right_in heard replies, ap₂ (result_to clients replies) is.0 is.1 ∙ sym is.2)

  answer_of : (c t : ℕ) → Option (List ℕ) → List Line
  answer_of c t None = []
  answer_of c t (Some r) = Result c t (Some r) ∷ []

  answers : Tally → List Line
  answers tally = answer_of tally.client tally.timestamp (agreed tally)

  answers_text : (tallies : List Tally) → answered_lines tallies ≡ text_of (flat_map answers tallies)
  unfolding answers answer_of
  answers_text tallies = texts answered_line answers (λ tally. one tally.client tally.timestamp (agreed tally)) tallies
    where
      one : (c t : ℕ) (o : Option (List ℕ)) → line_if_answered c t o ≡ text_of (answer_of c t o)
      one c t None = refl
      one c t (Some r) = one_text (Result c t (Some r))

  answers_made : (heard : Messages) (tallies : List Tally) → AllIn (Counts heard) tallies → AreMade heard (flat_map answers tallies)
  unfolding answers answer_of
  answers_made heard tallies all c t r i =
      let from = in_lines answers tallies (Result c t (Some r)) i in
      one from.0 (all from.0 from.1) (agreed from.0) refl from.2
    where
      one : (tally : Tally) → Counts heard tally → (o : Option (List ℕ)) → agreed tally ≡ o → IsIn (Result c t (Some r)) (answer_of tally.client tally.timestamp o)
          → (ms : Messages) × ((m : Signed Message) → IsIn m ms → IsIn m heard) × (result_to clients ms c t ≡ Some r)
      one tally counts None e j = absurd j
      one tally counts (Some x) e j =
          let is = is_result c t tally.client tally.timestamp (Some r) (Some x) j in
          (counts.counted, counts.there, ap₂ (result_to clients counts.counted) is.0 is.1 ∙ ap agreed (sym counts.is) ∙ e ∙ sym is.2)

  pub made_more : (heard more : Messages) (lines : List Line) → AreMade heard lines → AreMade (heard ++ more) lines
  made_more heard more lines made c t r i = let of = made c t r i in (of.0, (λ m j. left_in heard more m (of.1 m j)), of.2)

views : (before view : ℕ) → List Line
views before view = cond (nat_lt before view) (View view ∷ []) []

views_text : (before view : ℕ) → view_lines before view ≡ text_of (views before view)
unfolding views
views_text before view = elim (nat_lt before view) as (λ b. cond b (view_line view) [] ≡ text_of (cond b (View view ∷ []) [])) [
  | true ↦ one_text (View view)
  | false ↦ refl
]

no_result : (before view c t : ℕ) (o : Option (List ℕ)) → IsIn (Result c t o) (views before view) → ⊥
unfolding views
no_result before view c t o = elim (nat_lt before view) as (λ b. IsIn (Result c t o) (cond b (View view ∷ []) []) → ⊥) [
  | true ↦ λ i. elim i [ inl e ↦ absurd cc | inr none ↦ absurd none ]
  | false ↦ λ i. absurd i
]

-- Requests and replies ----------------------------------------------------------------------------------------------------------

any_is : {X : Type 0} (p : X → Bool) (xs : List X) → list_any p xs ≡ true → (x : X) × IsIn x xs × (p x ≡ true)
any_is p [] e = absurd cc
any_is p (x ∷ xs) e = elim (or_cases (p x) (list_any p xs) e) [
  | inl here ↦ (x, inl refl, here)
  | inr later ↦ let found = any_is p xs later in (found.0, inr found.1, found.2)
]

request_is : (q : model.Request) (o : Option Keys) (m : Signed Message) → option_map (λ keys. signed_by keys (Request q)) o ≡ Some m → m.message ≡ Request q
request_is q None m e = absurd cc
request_is q (Some keys) m e = let same : signed_by keys (Request q) ≡ m = cc in ap (λ (x : Signed Message). x.message) (sym same)

module _ (settings : Settings) (liar : ℕ → Bool) (requests : List model.Request) (begun : List Act) (once : AskOnce liar requests) (same : CallsKeepTheReplica) (fair : WhatIsSentIsFair) where
  abbrev clients : Clients
  clients = clients_of settings

  -- these requests were signed, and these messages heard
  abbrev pub By : (asked : List model.Request) → (heard : Messages) → cluster.World → Type 0
  By asked heard cw = Stands settings liar requests begun (λ q. IsIn q asked) (λ m. IsIn m heard) cw

  sign_one : (asked : List model.Request) (heard : Messages) (cw : cluster.World) (q : model.Request) → IsIn q requests → By asked heard cw → By (asked ++ q ∷ []) heard cw
  sign_one asked heard cw q there s = elim (cases_Bool (liar q.client)) [
    | inl lies ↦ signs (λ honest. let no : true ≡ false = sym lies ∙ honest in absurd cc)
    | inr honest ↦ elim (cases_Bool (list_any (λ other. other.timestamp == q.timestamp) (w.clients q.client).signed)) [
      | inl old ↦
          let found = any_is (λ (other : model.Request). other.timestamp == q.timestamp) (w.clients q.client).signed old in
          let before = r.asked q.client found.0 found.1 in
          let is : q ≡ found.0 = once q found.0 there before.0 honest (sym before.1) (sym (eqb-true found.0.timestamp q.timestamp found.2)) in
          let here = subst (λ (x : model.Request). IsIn x (w.clients q.client).signed) (sym is) found.1 in
          (w, record { reached = r; queue = s.1.queue; replies = s.1.replies; signed = with_q w s.1.signed here; came = s.1.came }, s.2)
      | inr new ↦ signs (λ _ other i e.
          let some = any_in (λ (x : model.Request). x.timestamp == q.timestamp) (w.clients q.client).signed other i (eq-eqb other.timestamp q.timestamp e) in
          let no : true ≡ false = sym some ∙ new in
          absurd cc)
    ]
  ]
    where
      w : World
      w = s.0

      r : acting.Reached settings liar requests begun w
      r = s.1.reached

      with_q : (v : World) → ((p : model.Request) → IsIn p asked → IsIn p (v.clients p.client).signed) → IsIn q (v.clients q.client).signed → (p : model.Request) → IsIn p (asked ++ q ∷ []) → IsIn p (v.clients p.client).signed
      with_q v before here p i = elim (either_in asked (q ∷ []) p i) [
        | inl j ↦ before p j
        | inr j ↦ elim j [ inl is ↦ subst (λ (x : model.Request). IsIn x (v.clients x.client).signed) (sym is) here | inr none ↦ absurd none ]
      ]

      signs : (liar q.client ≡ false → (other : model.Request) → IsIn other (w.clients q.client).signed → other.timestamp ≡ q.timestamp → ⊥) → By (asked ++ q ∷ []) heard cw
      signs new =
          let act = Signs q in
          let here : IsIn q ((after_act w act).clients q.client).signed =
          subst (λ (b : Bool). IsIn q (cond b (with_signed (w.clients q.client) q) (w.clients q.client)).signed) (sym (eq-eqb q.client q.client refl)) (inl refl) in (
            after_act w act,
            record {
              reached = acting.signs settings liar requests begun once same fair w r q there new;
              queue = s.1.queue;
              replies = λ m i. let was = s.1.replies m i in (was.0, was_sent_on w act was.0 m was.1);
              signed = with_q (after_act w act) (λ p i. signed_on w act p.client p (s.1.signed p i)) here;
              came = λ c m i e. heard_on w act c m (s.1.came c m i e);
            },
            s.2,
          )

  sign_all : (qs asked : List model.Request) (heard : Messages) (cw : cluster.World) → ((q : model.Request) → IsIn q qs → IsIn q requests) → By asked heard cw → By (asked ++ qs) heard cw
  sign_all [] asked heard cw there s = subst (λ (l : List model.Request). By l heard cw) (sym (append-nil asked)) s
  sign_all (q ∷ qs) asked heard cw there s =
      subst (λ (l : List model.Request). By l heard cw) (append_assoc asked (q ∷ []) qs) (sign_all qs (asked ++ q ∷ []) heard cw (λ x i. there x (inr i)) (sign_one asked heard cw q (there q (inl refl)) s))

  hear_one : (asked : List model.Request) (heard : Messages) (cw : cluster.World) (m : Signed Message) → IsIn m cw.replies → By asked heard cw → By asked (heard ++ m ∷ []) cw
  hear_one asked heard cw m there s =
      let w = s.0 in
      let was = s.1.replies m there in
      let c = was.0 in
      let act = Hears c m in
      let came : (b : ℕ) (x : Signed Message) → IsIn x (heard ++ m ∷ []) → receivers_of x.message ≡ Client b → IsIn x ((after_act w act).clients b).heard = λ b x i e. elim (either_in heard (m ∷ []) x i) [
        | inl j ↦ heard_on w act b x (s.1.came b x j e)
        | inr j ↦ elim j [
          | inl is ↦
              let to : Client c ≡ Client b = sym was.1.receiver ∙ ap (λ (y : Signed Message). receivers_of y.message) (sym is) ∙ e in
              let named : b ≡ c = cc in
              subst (λ (k : Bool). IsIn x (cond k (with_heard (w.clients b) m) (w.clients b)).heard) (sym (eq-eqb b c named)) (inl is)
          | inr none ↦ absurd none
        ]
      ] in
      let replies : AllIn (λ (x : Signed Message). (b : ℕ) × WasSentTo (after_act w act) b x) cw.replies = λ x i. let sent = s.1.replies x i in (sent.0, was_sent_on w act sent.0 x sent.1) in
      let heard_now = acting.hears settings liar requests begun once same fair w s.1.reached c m was.1 in
      (after_act w act, record { reached = heard_now; queue = s.1.queue; replies = replies; signed = λ q i. signed_on w act q.client q (s.1.signed q i); came = came }, s.2)

  hear_some : (ms : Messages) (asked : List model.Request) (heard : Messages) (cw : cluster.World) → ((m : Signed Message) → IsIn m ms → IsIn m cw.replies) → By asked heard cw → By asked (heard ++ ms) cw
  hear_some [] asked heard cw there s = subst (λ (l : Messages). By asked l cw) (sym (append-nil heard)) s
  hear_some (m ∷ ms) asked heard cw there s =
      subst (λ (l : Messages). By asked l cw) (append_assoc heard (m ∷ []) ms) (hear_some ms asked (heard ++ m ∷ []) cw (λ x i. there x (inr i)) (hear_one asked heard cw m (there m (inl refl)) s))

  -- clients hear the replies that were sent
  hear_all : (asked : List model.Request) (heard : Messages) (cw : cluster.World) → By asked heard cw → By asked (heard ++ cw.replies) (record cw { replies = [] })
  hear_all asked heard cw s =
      let all = hear_some cw.replies asked heard cw (λ m i. i) s in
      (all.0, record { reached = all.1.reached; queue = all.1.queue; replies = λ m i. absurd i; signed = all.1.signed; came = all.1.came }, all.2)

  -- Events ----------------------------------------------------------------------------------------------------------------------

  -- what a run comes to
  pub record Runs (asked : List model.Request) (heard : Messages) (run : Run) : Type 0 where
    pub by : By asked heard run.world
    pub waiting : AllIn (Counts clients heard) run.waiting

  -- and what it prints meanwhile
  pub record Prints (asked : List model.Request) (heard : Messages) (next : Run) (output : List ℕ) : Type 0 where
    pub more : Messages
    pub runs : Runs asked (heard ++ more) next
    pub lines : List Line
    pub text : output ≡ text_of lines
    pub made : AreMade clients (heard ++ more) lines

  quiet : (asked : List model.Request) (heard : Messages) (next : Run) (output : List ℕ) → output ≡ [] → Runs asked heard next → Prints asked heard next output
  quiet asked heard next output none runs = record {
    more = [];
    runs = subst (λ (l : Messages). Runs asked l next) (sym (append-nil heard)) runs;
    lines = [];
    text = none;
    made = λ c t r i. absurd i;
  }

  all_counted : (heard more : Messages) (tallies : List Tally) → AllIn (Counts clients heard) tallies → AllIn (Counts clients (heard ++ more)) (counted clients more tallies)
  all_counted heard more tallies all = map_in (Counts clients (heard ++ more)) (λ tally. fold (tallied_by clients) tally more) tallies (λ tally i. counts_more clients heard more tally (all tally i))

  module _ (Executes : Node → Type 0) where
    block_runs : (block : trace.Block) (run next : Run) (output : List ℕ) (asked : List model.Request) (heard : Messages) → ((q : model.Request) → IsIn q (map as_message block.requests) → IsIn q requests)
        → BlockRuns Executes (clients_of settings) block run next output → Runs asked heard run → Prints (asked ++ map as_message block.requests) heard next output
    block_runs block run next output asked heard there is so_far =
        let qs = map as_message block.requests in
        let now = asked ++ qs in
        let signed = sign_all qs asked heard run.world there so_far.by in
        let sent : AllIn (λ (m : Signed Message). (q : model.Request) × (m.message ≡ Request q) × IsIn q now) (sent_requests clients block.requests) = λ m i.
        let from = out_of_filter_map (λ request. signed_request clients (as_message request)) block.requests m i in
        (as_message from.0, request_is (as_message from.0) (keys_at clients from.0.client) m from.2, right_in asked qs (as_message from.0) (in_map as_message block.requests from.0 from.1)) in
        let settled = settles settings liar requests begun (λ q. IsIn q now) (λ m. IsIn m heard) once same fair Executes _ is.settled is.settles
        (block_comes settings liar requests begun (λ q. IsIn q now) (λ m. IsIn m heard) once same fair block.time (sent_requests clients block.requests) sent run.world signed) in
        let replies = is.settled.replies in
        record {
          more = replies;
          runs = subst (Runs now (heard ++ replies)) (sym is.next_is) (record {
            by = hear_all now heard is.settled settled;
            waiting = both_in (Counts clients (heard ++ replies)) (counted clients replies run.waiting) (unanswered clients replies block.requests) (all_counted heard replies run.waiting so_far.waiting)
                (filter_in (Counts clients (heard ++ replies)) waits _ (map_in (Counts clients (heard ++ replies)) (λ request. tally_of clients replies request.client request.timestamp) block.requests (λ request i. counts_new clients heard replies request.client request.timestamp)));
          });
          lines = flat_map (results clients replies) block.requests;
          text = is.output_is ∙ results_text clients replies block.requests;
          made = results_made clients heard replies block.requests;
        }

    timeout_runs : (run next : Run) (output : List ℕ) (asked : List model.Request) (heard : Messages) → TimeoutRuns Executes (clients_of settings) run next output → Runs asked heard run → Prints asked heard next output
    timeout_runs run next output asked heard is so_far =
        let to = settles settings liar requests begun (λ q. IsIn q asked) (λ m. IsIn m heard) once same fair Executes in
        let there = to _ is.asked is.asks (times_out settings liar requests begun (λ q. IsIn q asked) (λ m. IsIn m heard) once same fair run.world so_far.by) in
        let settled = to _ is.settled is.settles (waits_there settings liar requests begun (λ q. IsIn q asked) (λ m. IsIn m heard) once same fair run.time is.asked there) in
        let replies = is.settled.replies in
        let tallies = counted clients replies run.waiting in
        let all = all_counted heard replies run.waiting so_far.waiting in
        record {
          more = replies;
          runs = subst (Runs asked (heard ++ replies)) (sym is.next_is) (record { by = hear_all asked heard is.settled settled; waiting = filter_in (Counts clients (heard ++ replies)) waits tallies all });
          lines = views run.view next.view ++ flat_map (answers clients) tallies;
          text = is.output_is ∙ ap₂ (λ (one other : List ℕ). one ++ other) (views_text run.view next.view) (answers_text clients tallies) ∙ sym (flat_map-append line_text (views run.view next.view) (flat_map (answers clients) tallies));
          made = λ c t r i. elim (either_in (views run.view next.view) (flat_map (answers clients) tallies) (Result c t (Some r)) i) [
            | inl j ↦ absurd (no_result run.view next.view c t (Some r) j)
            | inr j ↦ answers_made clients (heard ++ replies) tallies all c t r j
          ];
        }

    hearing_runs : (heard_now : Bool) (replica : ℕ) (run next : Run) (output : List ℕ) (asked : List model.Request) (heard : Messages)
        → (next ≡ record run { world = cluster.hearing heard_now run.world replica }) × (output ≡ []) → Runs asked heard run → Prints (asked ++ []) heard next output
    hearing_runs heard_now replica run next output asked heard is so_far =
        let by = hears settings liar requests begun (λ q. IsIn q asked) (λ m. IsIn m heard) heard_now run.world replica so_far.by in
        subst (λ (l : List model.Request). Prints l heard next output) (sym (append-nil asked)) (quiet asked heard next output is.1 (subst (Runs asked heard) (sym is.0) (record { by = by; waiting = so_far.waiting })))

    event_runs : (event : TraceEvent) (run next : Run) (output : List ℕ) (asked : List model.Request) (heard : Messages) → ((q : model.Request) → IsIn q (asked_in event) → IsIn q requests)
        → EventRuns Executes (clients_of settings) event run next output → Runs asked heard run → Prints (asked ++ asked_in event) heard next output
    event_runs (event.Block block) run next output asked heard there is so_far = block_runs block run next output asked heard there is so_far
    event_runs (event.Silent replica) run next output asked heard there is so_far = hearing_runs false replica run next output asked heard is so_far
    event_runs (event.Heard replica) run next output asked heard there is so_far = hearing_runs true replica run next output asked heard is so_far
    event_runs event.Timeout run next output asked heard there is so_far =
        subst (λ (l : List model.Request). Prints l heard next output) (sym (append-nil asked)) (timeout_runs run next output asked heard is so_far)

    pub events_run : (events : List TraceEvent) (run last : Run) (output : List ℕ) (asked : List model.Request) (heard : Messages) → ((q : model.Request) → IsIn q (requests_in events) → IsIn q requests)
        → EventsRun Executes (clients_of settings) events run last output → Runs asked heard run → Prints (asked ++ requests_in events) heard last output
    events_run [] run last output asked heard there is so_far =
        subst (λ (l : List model.Request). Prints l heard last output) (sym (append-nil asked)) (quiet asked heard last output is.1 (subst (Runs asked heard) (sym is.0) so_far))
    events_run (event ∷ events) run last output asked heard there is so_far =
        let first = event_runs event run is.0 is.1 asked heard (λ q i. there q (left_in (asked_in event) (requests_in events) q i)) is.3 so_far in
        let rest = events_run events is.0 last is.2 (asked ++ asked_in event) (heard ++ first.more) (λ q i. there q (right_in (asked_in event) (requests_in events) q i)) is.4 first.runs in
        let heard_is : (heard ++ first.more) ++ rest.more ≡ heard ++ (first.more ++ rest.more) = append_assoc heard first.more rest.more in
        record {
          more = first.more ++ rest.more;
          runs = subst (λ (l : Messages). Runs (asked ++ (asked_in event ++ requests_in events)) l last) heard_is (subst (λ (l : List model.Request). Runs l ((heard ++ first.more) ++ rest.more) last) (append_assoc asked (asked_in event) (requests_in events)) rest.runs);
          lines = first.lines ++ rest.lines;
          text = is.5 ∙ ap₂ (λ (one other : List ℕ). one ++ other) first.text rest.text ∙ sym (flat_map-append line_text first.lines rest.lines);
          made = subst (λ (l : Messages). AreMade clients l (first.lines ++ rest.lines)) heard_is (λ c t r i. elim (either_in first.lines rest.lines (Result c t (Some r)) i) [
            | inl j ↦ made_more clients (heard ++ first.more) rest.more first.lines first.made c t r j
            | inr j ↦ rest.made c t r j
          ]);
        }
