-- What a deed of a replica comes to, and how its state and its history change together.
use Rattle.std.proofs.Common.{◌≡◌, ℕ, ◌+◌, ◌<◌, ◌≤◌, Bool, true, false, cond, ◌||◌, not, List, [], ◌∷◌, ◌++◌, Option, Some, None, ◌⊎◌, inl, inr, refl, sym, ap, ◌∙◌, arith}
use Rattle.std.specs.List.{list_any}
use Rattle.bfs_votes.specs.Votes.{Header}
use Rattle.bfs_log.specs.Headers.{header}
use Rattle.bfs_log.specs.Logs.{Log, headers, kept_after}
use Rattle.bfs_messages.specs.declared.signed.Signed.{Signed}
use Rattle.bfs_messages.specs.declared.order_messages.OrderMessage.{OrderMessage}
use Rattle.bfs_order.specs.declared.error.OrderError.{OrderError}
use Rattle.bfs_order.specs.Replica.Accepting.{makes_stable, settled}
use Rattle.bfs_order.specs.Replica.Outcomes.{Outcome, quiet, unless}
use Rattle.bfs_order.specs.Replica.States as order
use Rattle.bfs_order.specs.Replica.States.{with_more, with_message}
use Rattle.bfs_agreement.specs.Histories.{IsIn, ViewChange, State, History, World}
use Rattle.bfs_agreement.specs.Moves.{Move, Drops, kept_above, AreAllowed}
use Rattle.bfs_agreement.specs.Calls.{with_said, steps_of}
use Rattle.bfs_agreement.specs.Nodes.{after_moves}
use Rattle.bfs_agreement.proofs.Public.{MaySayAll, Within}
use Rattle.bfs_nodes_agree.specs.Orders.Following.{HaveTheSame, HaveTheSameVotes, Tracks, Follows}
use Rattle.bfs_nodes_agree.specs.Orders.Replicas.{OrderReplica}
use Rattle.bfs_nodes_agree.proofs.Orders.Telling.{any_both, any_said}
use Rattle.bfs_nodes_agree.proofs.Orders.Saying.{IsAhead, ahead_said}
use Rattle.bfs_nodes_agree.proofs.Orders.Dropping.{dropped, in_kept}

-- a list of moves, and what they come to
abbrev pub Result : (faulty : ℕ → Bool) → World → OrderReplica → (now : order.State) → (votes offers : Log) → List ViewChange → Log → Type 0
Result faulty w r now votes offers changes executed = (moves : List Move) × AreAllowed r.state.f faulty w (steps_of r.state.me moves)
    × Follows (record { state = now; sent = votes ++ r.sent; offers = offers ++ r.offers; changes = changes ++ r.changes; executed = executed ++ r.executed })
    (after_moves r.state.f r.state.me (w r.state.me) moves)

-- Refusals ----------------------------------------------------------------------------------------------------------------

pub passed : {E : Type 0} (b : Bool) (e : E) (o : Option E) → cond (not b) (Some e) o ≡ None → (b ≡ true) × (o ≡ None)
passed true e o h = (refl, h)
passed false e o h = absurd cc

pub not_hit : {E : Type 0} (b : Bool) (e : E) (o : Option E) → cond b (Some e) o ≡ None → (b ≡ false) × (o ≡ None)
not_hit true e o h = absurd cc
not_hit false e o h = (refl, h)

-- what holds of a call that is taken, and of one that is refused
pub either_way : (P : Outcome → Type 0) (r : Option OrderError) (s : order.State) (out : Outcome) → (r ≡ None → P out) → P (quiet s) → P (unless r s out)
either_way P r s out taken refused = (elim r as (λ x. r ≡ x → P (unless x s out)) [ None ↦ taken | Some e ↦ λ _. refused ]) refl

-- Nothing but the state changes -------------------------------------------------------------------------------------------

pub stays_so : (faulty : ℕ → Bool) (w : World) (r : OrderReplica) (now : order.State) → Follows r (w r.state.me) → Tracks now (w r.state.me).now → Result faulty w r now [] [] [] []
stays_so faulty w r now follows tracks = ([], tt, assumption)

pub drops : (faulty : ℕ → Bool) (w : World) (r : OrderReplica) (now : order.State) (n : ℕ) → Follows r (w r.state.me) → (w r.state.me).now.low < n
    → Tracks now (record (w r.state.me).now { low = n; log = kept_above n (w r.state.me).now.log }) → Result faulty w r now [] [] [] []
drops faulty w r now n follows lt tracks = (Drops n ∷ [], (lt, tt), assumption)

pub drop_tracks : (s : order.State) (t : State) (low last n : ℕ) (log : Log) → Tracks s t → low ≡ n → HaveTheSameVotes (headers log) (kept_above n t.log)
    → Tracks (record s { low = low; last = last; log = log }) (record t { low = n; log = kept_above n t.log })
drop_tracks s t low last n log tracks same votes =
    let views = λ (h : Header) (i : IsIn h (kept_above n t.log)). tracks.views h (in_kept n t.log h i) in
    assumption (views, sym same)

pub stay_tracks : (s : order.State) (t : State) (low last : ℕ) (log : Log) → Tracks s t → low ≡ s.low → HaveTheSameVotes (headers log) t.log
    → Tracks (record s { low = low; last = last; log = log }) t
stay_tracks s t low last log tracks same votes = assumption (votes, tracks.low ∙ sym same)

-- a CHECKPOINT stands in the log, and may make its number stable
pub settles : (faulty : ℕ → Bool) (w : World) (r : OrderReplica) (log : Log) (h : Header) → Follows r (w r.state.me) → HaveTheSameVotes (headers log) (w r.state.me).now.log → r.state.low < h.number
    → Result faulty w r (settled (record r.state { log = log }) h) [] [] [] []
settles faulty w r log h follows votes lt =
    let held : order.State = record r.state { log = log } in
    let t = (w r.state.me).now in
    let low = follows.state.low in
    elim (makes_stable held h) as (λ b. Result faulty w r (record held { low = cond b h.number held.low; log = cond b (kept_after h.number h.digest held.log) held.log }) [] [] [] []) [
      | true ↦ drops faulty w r (record held { low = h.number; log = kept_after h.number h.digest log }) h.number follows (omega (arith, low, lt))
          (drop_tracks r.state t h.number r.state.last h.number (kept_after h.number h.digest log) follows.state refl (dropped h.number h.digest log t.log votes))
      | false ↦ stays_so faulty w r held follows (stay_tracks r.state t r.state.low r.state.last log follows.state refl votes)
    ]

-- Saying ------------------------------------------------------------------------------------------------------------------

pub in_said : (hs log : List Header) (x : Header) → IsIn x (with_said hs log) → IsIn x hs ⊎ IsIn x log
in_said [] log x i = inr i
in_said (h ∷ hs) log x i = elim (in_said hs (h ∷ log) x i) [ inl a ↦ inl (inr a) | inr b ↦ elim b [ inl e ↦ inl (inl e) | inr c ↦ inr c ] ]

pub said_view : (f me : ℕ) (t : State) (hs : List Header) → MaySayAll f me t hs → (x : Header) → IsIn x hs → x.view ≡ t.view
said_view f me t [] may x i = absurd i
said_view f me t (h ∷ hs) may x i = elim i [
  | inl e ↦ ap (λ (y : Header). y.view) e ∙ may.0.opened.view
  | inr j ↦ said_view f me (record t { log = h ∷ t.log }) hs may.1 x j
]

pub joined_now : (s : order.State) (t : State) → Tracks s t → IsAhead [] s t.log
joined_now s t tracks = record { same = tracks.log; proposals = λ h i. absurd i }

pub tracks_said : (s : order.State) (t : State) (vs : Log) → Tracks s t → ((x : Header) → IsIn x (headers vs) → x.view ≤ s.view) → Tracks (with_more s vs) (record t { log = with_said (headers vs) t.log })
tracks_said s t vs tracks below =
    let views : (x : Header) → IsIn x (with_said (headers vs) t.log) → x.view ≤ s.view = λ x i. elim (in_said (headers vs) t.log x i) [ inl a ↦ below x a | inr b ↦ tracks.views x b ] in
    assumption (views, (ahead_said [] s t.log vs (joined_now s t tracks)).same)

pub tracks_answers : (s : order.State) (t : State) (vs : Log) → Tracks s t → MaySayAll s.f s.me t (headers vs) → Tracks (with_more s vs) (record t { log = with_said (headers vs) t.log })
tracks_answers s t vs tracks may =
    tracks_said s t vs tracks (λ x i. let e = said_view s.f s.me t (headers vs) may x i in let same = tracks.view in omega (arith, e, same))

-- one message in the log
pub tracks_one : (s : order.State) (t : State) (m : Signed OrderMessage) → Tracks s t → (header m).view ≡ s.view → Tracks (with_message s m) (record t { log = header m ∷ t.log })
tracks_one s t m tracks same = tracks_said s t (m ∷ []) tracks (λ x i. elim i [ inl e ↦ let is = ap (λ (h : Header). h.view) e in omega (arith, is, same) | inr j ↦ absurd j ])

pub within : (s : order.State) (t : State) (v n : ℕ) → Tracks s t → v ≡ s.view → s.asked ≤ s.view → s.low < n → s.min_s < n → n ≤ s.low + 32 → Within t v n
within s t v n tracks view asked low min_s high =
    let tv = tracks.view in
    let ta = tracks.asked in
    let tl = tracks.low in
    let tm = tracks.min_s in
    let entered = tracks.entered in
    record { view = omega (arith, tv, view); asked = omega (arith, tv, ta, entered, asked); low = omega (arith, tl, low); min_s = omega (arith, tm, min_s); high = omega (arith, tl, high) }

pub said_follows : (r : OrderReplica) (p : History) (s : order.State) (t : State) (vs : Log) → Follows r p → Tracks s t → Follows (record r { state = s; sent = vs ++ r.sent }) (record p { now = t; sent = with_said (headers vs) p.sent })
said_follows r p s t vs follows tracks =
    let sent : HaveTheSame (headers (vs ++ r.sent)) (with_said (headers vs) p.sent) =
    λ test. any_both test vs r.sent ∙ ap (λ (b : Bool). list_any test (headers vs) || b) (follows.sent test) ∙ sym (any_said test (headers vs) p.sent) in
    assumption (tracks, sent)
