-- What an order answers is, by headers, what a replica answers in the theory.
use Rattle.std.proofs.Common.{◌≡◌, ℕ, ◌*◌, ◌==◌, Bool, true, false, cond, ◌&&◌, ◌||◌, not, nat_le, List, [], ◌∷◌, ◌++◌, refl, sym, ap, ap₂, ◌∙◌}
use Rattle.std.specs.List.{list_any}
use Rattle.std.proofs.Math.Bool.{or-false, or_comm}
use Rattle.std.proofs.lemmas.List.{map-append}
use mathlib.Core.Path.{fun_ext}
use Rattle.bfs_auth.specs.Keys.{Keys}
use Rattle.bfs_votes.specs.Votes.{Header, is_slot, says, count_below, replicas, primary, prepared}
use Rattle.bfs_log.specs.Headers.{header, message_header}
use Rattle.bfs_log.specs.Logs.{Log, headers}
use Rattle.bfs_messages.specs.Signing.{order_signed_by}
use Rattle.bfs_messages.specs.declared.signed.Signed.{Signed}
use Rattle.bfs_messages.specs.declared.order_messages.OrderMessage.{OrderMessage}
use Rattle.bfs_messages.specs.declared.order_messages.OrderMessage.TheVariants.{Prepare, Commit}
use Rattle.bfs_order.specs.Replica.Accepting.{answers}
use Rattle.bfs_order.specs.Replica.Answers as order
use Rattle.bfs_order.specs.Replica.Answers.{own_vote}
use Rattle.bfs_order.specs.Replica.Refusals.{is_there}
use Rattle.bfs_order.specs.Replica.States.{State, known, with_message, with_more}
use Rattle.bfs_agreement.specs.Calls.{said_once, with_said, prepares_in, commits_in, votes_in, answers_in}
use Rattle.bfs_nodes_agree.specs.Orders.Following.{HaveTheSame}
use Rattle.bfs_nodes_agree.proofs.Public.{any_both, any_said}

-- What is told ----------------------------------------------------------------------------------------------------------

-- by what each is told to have said
abbrev prepared_by : (f me v : ℕ) → (ℕ → ℕ → Bool) → Bool
prepared_by f me v tells =
    (tells 2 (primary f v) && nat_le (2 * f) (count_below (λ k. not (k == primary f v) && tells 3 k) (replicas f))) && ((me == primary f v) || tells 3 me)

pub prepared_alike : (f me : ℕ) (one other : List Header) → HaveTheSame one other → (v n : ℕ) (d : List ℕ) → prepared f me one v n d ≡ prepared f me other v n d
prepared_alike f me one other same v n d = ap (prepared_by f me v) (fun_ext (λ (t : ℕ). fun_ext (λ (k : ℕ). same (says t k v n d))))

-- one message more, and some that are said behind it
pub with_one : (s : State) (m : Signed OrderMessage) → HaveTheSame (known (with_message s m)) (header m ∷ known s)
with_one s m test = any_both test s.log (m ∷ []) ∙ ap (λ (b : Bool). list_any test (known s) || b) (or-false (test (header m))) ∙ or_comm (list_any test (known s)) (test (header m))

pub with_those : (s : State) (vs : Log) (log : List Header) → HaveTheSame (known s) log → HaveTheSame (known (with_more s vs)) (with_said (headers vs) log)
with_those s vs log same test =
    any_both test s.log vs ∙ or_comm (list_any test (known s)) (list_any test (headers vs)) ∙ ap (λ (b : Bool). list_any test (headers vs) || b) (same test) ∙ sym (any_said test (headers vs) log)

-- Answers ---------------------------------------------------------------------------------------------------------------

unless_alike : (b : Bool) (l : Log) (hs : List Header) → headers l ≡ hs → headers (cond b [] l) ≡ cond b [] hs
unless_alike true l hs same = refl
unless_alike false l hs same = same

where_alike : (b : Bool) (l r : Log) (hs gs : List Header) → headers l ≡ hs → headers r ≡ gs → headers (cond b l r) ≡ cond b hs gs
where_alike true l r hs gs same other = same
where_alike false l r hs gs same other = other

module _ (keys : Keys) where
  once_alike : (s : State) (log : List Header) (m : OrderMessage) → HaveTheSame (known s) log → headers (order.said_once keys s m) ≡ said_once log (message_header m)
  once_alike s log m same =
      let h = message_header m in
      unless_alike (is_there s h) (order_signed_by keys m ∷ []) (h ∷ []) refl ∙ ap (λ (b : Bool). cond b [] (h ∷ [])) (same (is_slot h.tag h.sender h.view h.number))

  prepares_alike : (s : State) (log : List Header) (v n : ℕ) (d : List ℕ) → HaveTheSame (known s) log → headers (order.prepares_in keys s v n d) ≡ prepares_in s.f s.me log v n d
  prepares_alike s log v n d same =
      let m = Prepare (own_vote s v n d) in
      unless_alike (s.me == primary s.f v) (order.said_once keys s m) (said_once log (message_header m)) (once_alike s log m same)

  commits_alike : (s : State) (log : List Header) (v n : ℕ) (d : List ℕ) → HaveTheSame (known s) log → headers (order.commits_in keys s v n d) ≡ commits_in s.f s.me log v n d
  commits_alike s log v n d same =
      let m = Commit (own_vote s v n d) in
      where_alike (prepared s.f s.me (known s) v n d) (order.said_once keys s m) [] (said_once log (message_header m)) [] (once_alike s log m same) refl
      ∙ ap (λ (b : Bool). cond b (said_once log (message_header m)) []) (prepared_alike s.f s.me (known s) log same v n d)

  votes_alike : (s : State) (log : List Header) (v n : ℕ) (d : List ℕ) → HaveTheSame (known s) log → headers (order.votes_in keys s v n d) ≡ votes_in s.f s.me log v n d
  votes_alike s log v n d same =
      let ps = order.prepares_in keys s v n d in
      let first = prepares_alike s log v n d same in
      map-append header ps (order.commits_in keys (with_more s ps) v n d)
      ∙ ap₂ (λ (a b : List Header). a ++ b) first
      (commits_alike (with_more s ps) (with_said (headers ps) log) v n d (with_those s ps log same) ∙ ap (λ (hs : List Header). commits_in s.f s.me (with_said hs log) v n d) first)

  answers_alike : (s : State) (log : List Header) (h : Header) → HaveTheSame (known s) log → headers (order.answers_in keys s h) ≡ answers_in s.f s.me log h
  answers_alike s log h same =
      let c = order.commits_in keys s h.view h.number h.digest in
      let rest = cond (h.tag == 3) c [] in
      let commits = commits_in s.f s.me log h.view h.number h.digest in
      where_alike (h.tag == 2) (order.votes_in keys s h.view h.number h.digest) rest (votes_in s.f s.me log h.view h.number h.digest) (cond (h.tag == 3) commits [])
      (votes_alike s log h.view h.number h.digest same) (where_alike (h.tag == 3) c [] commits [] (commits_alike s log h.view h.number h.digest same) refl)

  -- to a message that is taken
  pub taken_alike : (s : State) (m : Signed OrderMessage) → headers (answers keys s m) ≡ answers_in s.f s.me (header m ∷ known s) (header m)
  taken_alike s m = answers_alike (with_message s m) (header m ∷ known s) (header m) (with_one s m)
