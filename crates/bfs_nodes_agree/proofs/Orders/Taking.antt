-- A message that comes, its own checkpoint and a certificate are lists of moves.
use Rattle.std.proofs.Common.{◌≡◌, ℕ, ◌+◌, ◌%◌, ◌<◌, ◌≤◌, ◌==◌, max, Bool, true, false, cond, ◌&&◌, ◌||◌, not, List, [], ◌∷◌, ◌++◌, None, ◌⊎◌, inl, inr, refl, sym, ap, subst, ◌∙◌, arith}
use Rattle.std.specs.Prelude.{nat_lt, nat_le}
use Rattle.std.specs.List.{list_any, list_all}
use Rattle.std.proofs.lemmas.Bool.{and_parts, or_left, cond_both, eqb-true, eq-eqb, ltb-true, ltb-false, leb-true}
use Rattle.std.proofs.Math.Bool.{or-false}
use Rattle.bfs_auth.specs.Keys.{Keys}
use Rattle.bfs_votes.specs.Votes.{Header, has_slot, says, told, Told, primary, is_stable}
use Rattle.bfs_log.specs.Headers.{header, message_header}
use Rattle.bfs_log.specs.Logs.{Log, headers, kept_after}
use Rattle.bfs_messages.specs.declared.signed.Signed.{Signed}
use Rattle.bfs_messages.specs.declared.order_messages.OrderMessage.{OrderMessage}
use Rattle.bfs_messages.specs.declared.order_messages.OrderMessage.TheVariants.{Checkpoint}
use Rattle.bfs_order.specs.declared.error.OrderError.TheVariants.{BadAuthenticator, WrongView, OutsideMarks, NotPrimary, Conflicting, AlreadyHave, NoCertificate}
use Rattle.bfs_order.specs.Replica.Accepting.{makes_stable, settled, answers, accepted}
use Rattle.bfs_order.specs.Replica.Answers.{votes_in, commits_in, answers_in}
use Rattle.bfs_order.specs.Replica.Checkpoints.{checkpoint_refusal, checkpoint, checkpointed}
use Rattle.bfs_log.specs.Certificates.{StableCheckpoint, checkpoints_in, is_shown, vouches}
use Rattle.bfs_order.specs.Replica.Installing.{certified, install_refusal, installed}
use Rattle.bfs_order.specs.Replica.Outcomes.{unless}
use Rattle.bfs_order.specs.Replica.Refusals.{is_between, is_inside, is_of_view, is_there, conflicts, place_refusal, is_authentic, refusal}
use Rattle.bfs_order.specs.Replica.States as order
use Rattle.bfs_order.specs.Replica.States.{known, with_more, with_message}
use Rattle.bfs_agreement.specs.Histories.{State, History, World, WasSent}
use Rattle.bfs_agreement.specs.Moves.{Accepts, IsOpen, kept_above, after_move}
use Rattle.bfs_agreement.specs.Calls.{with_said, all_said}
use Rattle.bfs_agreement.proofs.Public.{MaySayAll, Within, says_itself, then_said}
use Rattle.bfs_nodes_agree.specs.Orders.Following.{HaveTheSameVotes, Tracks, Follows}
use Rattle.bfs_nodes_agree.specs.Orders.Replicas.{OrderReplica}
use Rattle.bfs_nodes_agree.proofs.Orders.Telling.{not_equal, any_both, slot_same}
use Rattle.bfs_nodes_agree.proofs.Orders.Saying.{commits_may, votes_may, after_said}
use Rattle.bfs_nodes_agree.proofs.Orders.Dropping.{dropped, five_pushed, each_five}
use Rattle.bfs_nodes_agree.proofs.Orders.Results.{Result, either_way, passed, not_hit, stays_so, drops, drop_tracks, stay_tracks, settles, joined_now, tracks_answers, tracks_one, within, said_follows}
use Rattle.bfs_model.specs.Server.Limits.{checkpoint_interval, log_size, most_number}

-- A message comes ---------------------------------------------------------------------------------------------------------

pub unsettled : (s : order.State) (h : Header) → (h.tag == 5) ≡ false → settled s h ≡ s
unsettled s h vote =
    let e : makes_stable s h ≡ false = ap (λ (b : Bool). b && is_stable s.f (known s) h.number h.digest) vote in
    ap (λ (b : Bool). record s { low = cond b h.number s.low; log = cond b (kept_after h.number h.digest s.log) s.log }) e

-- what passes the tests of places
pub record IsPlaced (s : order.State) (h : Header) : Type 0 where
  pub of_view : is_of_view s h ≡ true
  pub inside : is_inside s h ≡ true
  pub primary : ((h.tag == 2) && not (h.sender == primary s.f h.view)) ≡ false
  pub free : is_there s h ≡ false

pub placed : (s : order.State) (h : Header) → place_refusal s h ≡ None → IsPlaced s h
placed s h none =
    let c = passed (is_of_view s h) WrongView _ none in
    let d = passed (is_inside s h) OutsideMarks _ c.1 in
    let e = not_hit ((h.tag == 2) && not (h.sender == primary s.f h.view)) NotPrimary _ d.1 in
    let g = not_hit (conflicts s h) Conflicting _ e.1 in
    let k = not_hit (is_there s h) AlreadyHave None g.1 in
    record { of_view = c.0; inside = d.0; primary = e.0; free = k.0 }

between : (s : order.State) (n : ℕ) → is_between s n ≡ true → (s.low < n) × (n ≤ s.low + 32)
between s n e = let a = and_parts (nat_lt s.low n) (nat_le n (s.low + log_size)) e in (ltb-true s.low n a.0, leb-true n (s.low + 32) a.1)

vote_within : (s : order.State) (t : State) (h : Header) → Tracks s t → IsPlaced s h → (h.tag == 5) ≡ false → Within t h.view h.number
vote_within s t h tracks at vote =
    let view = and_parts (h.view == s.view) (nat_le s.asked s.view) (sym (ap (λ (b : Bool). b || ((h.view == s.view) && nat_le s.asked s.view)) vote) ∙ at.of_view) in
    let inside = and_parts (is_between s h.number) _ at.inside in
    let low = between s h.number inside.0 in
    let min_s = ltb-true s.min_s h.number (sym (ap (λ (b : Bool). cond b ((h.number % checkpoint_interval) == 0) (nat_lt s.min_s h.number)) vote) ∙ inside.1) in
    within s t h.view h.number tracks (eqb-true h.view s.view view.0) (leb-true s.asked s.view view.1) low.0 min_s low.1

-- a PRE-PREPARE is the primary's
pub of_primary : (a b : Bool) → a ≡ true → (a && not b) ≡ false → b ≡ true
of_primary true true e h = refl
of_primary a b e h = absurd cc

pub itself_there : (f : ℕ) (log : List Header) (h : Header) → h.tag ≡ 2 → h.sender ≡ primary f h.view → Told (h ∷ log) 2 (primary f h.view) h.view h.number h.digest
itself_there f log h two from =
    subst (λ (k : ℕ). Told (h ∷ log) 2 k h.view h.number h.digest) from
    (subst (λ (t : ℕ). Told (h ∷ log) t h.sender h.view h.number h.digest) two
    (or_left (says h.tag h.sender h.view h.number h.digest h) (told log h.tag h.sender h.view h.number h.digest) (says_itself h)))

answers_may : (keys : Keys) (s : order.State) (t : State) (h : Header) → Tracks s t → Within t h.view h.number → (h.tag ≡ 2 → Told t.log 2 (primary s.f h.view) h.view h.number h.digest)
    → MaySayAll s.f s.me t (headers (answers_in keys s h))
answers_may keys s t h tracks in_marks there =
    cond_both (h.tag == 2) (votes_in keys s h.view h.number h.digest) (cond (h.tag == 3) (commits_in keys s h.view h.number h.digest) []) (λ (l : Log). MaySayAll s.f s.me t (headers l))
    (λ two. votes_may keys [] s t h.view h.number h.digest (joined_now s t tracks) in_marks (there (eqb-true h.tag 2 two)))
    (λ _. cond_both (h.tag == 3) (commits_in keys s h.view h.number h.digest) [] (λ (l : Log). MaySayAll s.f s.me t (headers l))
    (λ _. commits_may keys [] s t h.view h.number h.digest (joined_now s t tracks) in_marks)
    (λ _. tt))

-- no answer to a CHECKPOINT
pub no_answers : (keys : Keys) (s : order.State) (h : Header) → h.tag ≡ 5 → answers_in keys s h ≡ []
no_answers keys s h five =
    let two = not_equal h.tag 2 (λ e. absurd (omega (arith, five, e))) in
    let three = not_equal h.tag 3 (λ e. absurd (omega (arith, five, e))) in
    ap (λ (b : Bool). cond b (votes_in keys s h.view h.number h.digest) (cond (h.tag == 3) (commits_in keys s h.view h.number h.digest) [])) two
    ∙ ap (λ (b : Bool). cond b (commits_in keys s h.view h.number h.digest) []) three

takes_vote : (faulty : ℕ → Bool) (w : World) (r : OrderReplica) (keys : Keys) (m : Signed OrderMessage) → Follows r (w r.state.me) → IsPlaced r.state (header m) → (header m).tag < 5
    → WasSent faulty w (header m).tag (header m).sender (header m).view (header m).number (header m).digest → Result faulty w r (accepted keys r.state m).now (accepted keys r.state m).sent [] [] []
takes_vote faulty w r keys m follows at small authentic =
    let s = r.state in
    let p = w s.me in
    let h = header m in
    let t1 : State = record p.now { log = h ∷ p.now.log } in
    let vote : (h.tag == 5) ≡ false = not_equal h.tag 5 (λ e. absurd (omega (arith, small, e))) in
    let in_marks = vote_within s p.now h follows.state at vote in
    let same_view : h.view ≡ s.view = in_marks.view ∙ follows.state.view in
    let free : has_slot p.now.log h.tag h.sender h.view h.number ≡ false = sym (slot_same (known s) p.now.log follows.state.log h.tag h.sender h.view h.number small) ∙ at.free in
    let opened : IsOpen p.now h = assumption free in
    let one = tracks_one s p.now m follows.state same_view in
    let then : Within t1 h.view h.number = assumption in_marks in
    let vs = answers keys s m in
    let may = answers_may keys (with_message s m) t1 h one then
    (λ two. itself_there s.f p.now.log h two (eqb-true h.sender (primary s.f h.view) (of_primary (h.tag == 2) (h.sender == primary s.f h.view) (eq-eqb h.tag 2 two) at.primary))) in
    let now = with_more (with_message s m) vs in
    let last : State = record t1 { log = with_said (headers vs) t1.log } in
    let all = said_follows r p now last vs follows (tracks_answers (with_message s m) t1 vs one may) in
    let settled_all = subst (λ (x : order.State). Follows (record r { state = x; sent = vs ++ r.sent }) (record p { now = last; sent = with_said (headers vs) p.sent })) (sym (unsettled now h vote)) all in (
      Accepts h ∷ all_said (headers vs),
      then_said s.f faulty w s.me (Accepts h) (headers vs) (record { opened = opened; authentic = authentic }) may,
      subst (λ (q : History). Follows (record r { state = settled now h; sent = vs ++ r.sent }) q) (sym (after_said s.f s.me (after_move s.f s.me p (Accepts h)) (headers vs))) settled_all,
    )

takes_checkpoint : (faulty : ℕ → Bool) (w : World) (r : OrderReplica) (keys : Keys) (m : Signed OrderMessage) → Follows r (w r.state.me) → IsPlaced r.state (header m) → (header m).tag ≡ 5
    → Result faulty w r (accepted keys r.state m).now (accepted keys r.state m).sent [] [] []
takes_checkpoint faulty w r keys m follows at five =
    let s = r.state in
    let h = header m in
    let t = (w s.me).now in
    let low = between s h.number (and_parts (is_between s h.number) _ at.inside).0 in
    let one = five_pushed s.log t.log m five follows.state.log in
    let same : HaveTheSameVotes (headers ((s.log ++ m ∷ []) ++ [])) t.log = λ test votes. any_both test (s.log ++ m ∷ []) [] ∙ or-false (list_any test (headers (s.log ++ m ∷ []))) ∙ one test votes in
    subst (λ (vs : Log). Result faulty w r (settled (with_more (with_message s m) vs) h) vs [] [] []) (sym (no_answers keys (with_message s m) h five))
    (settles faulty w r ((s.log ++ m ∷ []) ++ []) h follows same low.0)

-- a vote, or a CHECKPOINT
kind_of : (m : OrderMessage) → ((message_header m).tag < 5) ⊎ ((message_header m).tag ≡ 5)
kind_of (Checkpoint checkpoint) = inr refl
kind_of other = inl (omega arith)

pub takes : (faulty : ℕ → Bool) (w : World) (r : OrderReplica) (keys : Keys) (m : Signed OrderMessage) → Follows r (w r.state.me)
    → (refusal keys r.state m ≡ None → (header m).tag < 5 → WasSent faulty w (header m).tag (header m).sender (header m).view (header m).number (header m).digest)
    → let out = unless (refusal keys r.state m) r.state (accepted keys r.state m) in Result faulty w r out.now out.sent [] [] []
takes faulty w r keys m follows authentic = either_way (λ out. Result faulty w r out.now out.sent [] [] []) (refusal keys r.state m) r.state (accepted keys r.state m)
    (λ is.
    let at = placed r.state (header m) (passed (is_authentic keys r.state m) BadAuthenticator (place_refusal r.state (header m)) is).1 in
    elim (kind_of m.message) [ inl small ↦ takes_vote faulty w r keys m follows at small (authentic is small) | inr five ↦ takes_checkpoint faulty w r keys m follows at five ])
    (stays_so faulty w r r.state follows follows.state)

-- Its own checkpoint ------------------------------------------------------------------------------------------------------

pub checkpoints : (faulty : ℕ → Bool) (w : World) (r : OrderReplica) (keys : Keys) (n : ℕ) (d : List ℕ) → Follows r (w r.state.me)
    → Result faulty w r (unless (checkpoint_refusal r.state n) r.state (checkpointed keys r.state n d)).now [] [] [] []
checkpoints faulty w r keys n d follows = either_way (λ out. Result faulty w r out.now [] [] [] []) (checkpoint_refusal r.state n) r.state (checkpointed keys r.state n d)
    (λ is.
    let s = r.state in
    let a = passed (is_between s n && nat_le n most_number) OutsideMarks _ is in
    let low = between s n (and_parts (is_between s n) (nat_le n most_number) a.0).0 in
    let m = checkpoint keys s n d in
    settles faulty w r (s.log ++ m ∷ []) (header m) follows (five_pushed s.log (w s.me).now.log m refl follows.state.log) low.0)
    (stays_so faulty w r r.state follows follows.state)

-- A certificate is installed ----------------------------------------------------------------------------------------------

pub installs : (faulty : ℕ → Bool) (w : World) (r : OrderReplica) (keys : Keys) (c : StableCheckpoint) → Follows r (w r.state.me)
    → Result faulty w r (unless (install_refusal keys r.state c) r.state (installed r.state c)).now [] [] [] []
installs faulty w r keys c follows = either_way (λ out. Result faulty w r out.now [] [] [] []) (install_refusal keys r.state c) r.state (installed r.state c)
    (λ is. rises (passed (is_shown keys r.state.f c) NoCertificate _ is).0 (nat_lt r.state.low c.number) refl) (stays_so faulty w r r.state follows follows.state)
  where
    s : order.State
    s = r.state

    n : ℕ
    n = c.number

    t : State
    t = (w s.me).now

    rises : is_shown keys s.f c ≡ true → (b : Bool) → nat_lt s.low n ≡ b
        → Result faulty w r (record s { low = max s.low n; last = max s.last n; log = cond b (certified s.log c) s.log }) [] [] [] []
    rises is true lt =
        let over = ltb-true s.low n lt in
        let all = (and_parts (list_all (vouches keys s.f n c.digest) (checkpoints_in c)) _ is).0 in
        let same = each_five keys s.f n c.digest (kept_after n c.digest s.log) (checkpoints_in c) (kept_above n t.log) all (dropped n c.digest s.log t.log follows.state.log) in
        drops faulty w r (record s { low = max s.low n; last = max s.last n; log = certified s.log c }) n follows (let e = follows.state.low in omega (arith, e, over))
        (drop_tracks s t (max s.low n) (max s.last n) n (certified s.log c) follows.state (omega (arith, over)) same)
    rises is false lt =
        let under = ltb-false s.low n lt in
        stays_so faulty w r (record s { low = max s.low n; last = max s.last n; log = s.log }) follows
        (stay_tracks s t (max s.low n) (max s.last n) s.log follows.state (omega (arith, under)) follows.state.log)
