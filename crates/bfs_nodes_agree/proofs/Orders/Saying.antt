-- What a replica says of its own is said in its history too, also while the history is ahead by PRE-PREPAREs that are yet to be taken.
use Rattle.std.proofs.Common.{◌≡◌, ℕ, ◌<◌, ◌==◌, Bool, true, false, ◌||◌, List, [], ◌∷◌, ◌++◌, refl, sym, ap, subst, ◌∙◌, arith}
use Rattle.std.specs.List.{list_any}
use Rattle.std.proofs.lemmas.Bool.{cond_both, or_right}
use Rattle.std.proofs.lemmas.List.{map-append}
use Rattle.std.proofs.lemmas.List.Folds.{list_any-append}
use Rattle.bfs_auth.specs.Keys.{Keys}
use Rattle.bfs_votes.specs.Votes.{Header, is_slot, has_slot, told, Told, primary, prepared}
use Rattle.bfs_log.specs.Headers.{header, message_header}
use Rattle.bfs_log.specs.Logs.{Log, headers}
use Rattle.bfs_messages.specs.Signing.{order_signed_by}
use Rattle.bfs_messages.specs.declared.order_messages.OrderMessage.{OrderMessage}
use Rattle.bfs_messages.specs.declared.order_messages.OrderMessage.TheVariants.{Prepare, Commit}
use Rattle.bfs_order.specs.Replica.Answers.{said_once, own_vote, prepares_in, commits_in, votes_in}
use Rattle.bfs_order.specs.Replica.Refusals.{is_there}
use Rattle.bfs_order.specs.Replica.States as order
use Rattle.bfs_order.specs.Replica.States.{known, with_more}
use Rattle.bfs_agreement.specs.Histories.{IsIn, State, History}
use Rattle.bfs_agreement.specs.Moves.{Reason, Prepares, Commits}
use Rattle.bfs_agreement.specs.Calls.{with_said, all_said}
use Rattle.bfs_agreement.specs.Nodes.{after_moves}
use Rattle.bfs_agreement.proofs.Public.{MaySayAll, Within, say_join, prepared_more}
use Rattle.bfs_nodes_agree.specs.Orders.Following.{HaveTheSameVotes}
use Rattle.bfs_nodes_agree.proofs.Orders.Telling.{any_both, any_said, or_moved, finds_none, no_slot, slot_same, told_same}

-- the history's log has what is known, and PRE-PREPAREs ahead
pub record IsAhead (ahead : List Header) (s : order.State) (log : List Header) : Type 0 where
  pub same : HaveTheSameVotes (ahead ++ known s) log
  pub proposals : (h : Header) → IsIn h ahead → h.tag ≡ 2

pub told_there : (ahead : List Header) (s : order.State) (log : List Header) → IsAhead ahead s log → (t k v n : ℕ) (d : List ℕ) → t < 5 → Told (known s) t k v n d → Told log t k v n d
told_there ahead s log joined t k v n d small x =
    sym (told_same (ahead ++ known s) log joined.same t k v n d small) ∙ list_any-append _ ahead (known s) ∙ or_right (told ahead t k v n d) (told (known s) t k v n d) x

-- a place of a PREPARE or COMMIT that is free
pub free_there : (ahead : List Header) (s : order.State) (log : List Header) → IsAhead ahead s log → (t k v n : ℕ) → t < 5 → (2 ≡ t → ⊥)
    → has_slot (known s) t k v n ≡ false → has_slot log t k v n ≡ false
free_there ahead s log joined t k v n small differ free =
    sym (slot_same (ahead ++ known s) log joined.same t k v n small) ∙ list_any-append (is_slot t k v n) ahead (known s)
    ∙ ap (λ (b : Bool). b || has_slot (known s) t k v n) (finds_none (is_slot t k v n) ahead (λ h i. no_slot t k v n h (λ e. differ (sym (joined.proposals h i) ∙ e)))) ∙ free

pub prepared_there : (ahead : List Header) (s : order.State) (log : List Header) → IsAhead ahead s log → (v n : ℕ) (d : List ℕ)
    → prepared s.f s.me (known s) v n d ≡ true → prepared s.f s.me log v n d ≡ true
prepared_there ahead s log joined v n d ready = prepared_more s.f s.me (known s) log v n d (λ t k small x. told_there ahead s log joined t k v n d small x) ready

-- these are said too
pub ahead_said : (ahead : List Header) (s : order.State) (log : List Header) (vs : Log) → IsAhead ahead s log → IsAhead ahead (with_more s vs) (with_said (headers vs) log)
ahead_said ahead s log vs joined =
    record {
      same = λ test votes.
          list_any-append test ahead (headers (s.log ++ vs)) ∙ ap (λ (b : Bool). list_any test ahead || b) (any_both test s.log vs)
          ∙ or_moved (list_any test ahead) (list_any test (known s)) (list_any test (headers vs))
          ∙ ap (λ (b : Bool). list_any test (headers vs) || b) (sym (list_any-append test ahead (known s)) ∙ joined.same test votes)
          ∙ sym (any_said test (headers vs) log);
      proposals = joined.proposals;
    }

-- Answers -----------------------------------------------------------------------------------------------------------------

once_may : (keys : Keys) (ahead : List Header) (s : order.State) (t : State) (m : OrderMessage) → IsAhead ahead s t.log → Within t (message_header m).view (message_header m).number
    → (message_header m).sender ≡ s.me → (message_header m).tag < 5 → (2 ≡ (message_header m).tag → ⊥) → Reason s.f s.me t (message_header m) → MaySayAll s.f s.me t (headers (said_once keys s m))
once_may keys ahead s t m joined within own small differ reason =
    let h = message_header m in
    cond_both (is_there s h) [] (order_signed_by keys m ∷ []) (λ (l : Log). MaySayAll s.f s.me t (headers l))
    (λ _. tt)
    (λ free. (
      record {
        opened = record { view = within.view; asked = within.asked; low = within.low; min_s = within.min_s; high = within.high; free = free_there ahead s t.log joined h.tag h.sender h.view h.number small differ free };
        own = own;
        reason = reason;
      },
      tt,
    ))

pub commits_may : (keys : Keys) (ahead : List Header) (s : order.State) (t : State) (v n : ℕ) (d : List ℕ) → IsAhead ahead s t.log → Within t v n → MaySayAll s.f s.me t (headers (commits_in keys s v n d))
commits_may keys ahead s t v n d joined within = cond_both (prepared s.f s.me (known s) v n d) (said_once keys s (Commit (own_vote s v n d))) [] (λ (l : Log). MaySayAll s.f s.me t (headers l))
    (λ ready. once_may keys ahead s t (Commit (own_vote s v n d)) joined within refl (omega arith) (λ e. absurd (omega (arith, e))) (Commits refl (prepared_there ahead s t.log joined v n d ready)))
    (λ _. tt)

prepares_may : (keys : Keys) (ahead : List Header) (s : order.State) (t : State) (v n : ℕ) (d : List ℕ) → IsAhead ahead s t.log → Within t v n → Told t.log 2 (primary s.f v) v n d
    → MaySayAll s.f s.me t (headers (prepares_in keys s v n d))
prepares_may keys ahead s t v n d joined within there = cond_both (s.me == primary s.f v) [] (said_once keys s (Prepare (own_vote s v n d))) (λ (l : Log). MaySayAll s.f s.me t (headers l))
    (λ _. tt)
    (λ _. once_may keys ahead s t (Prepare (own_vote s v n d)) joined within refl (omega arith) (λ e. absurd (omega (arith, e))) (Prepares refl there))

pub votes_may : (keys : Keys) (ahead : List Header) (s : order.State) (t : State) (v n : ℕ) (d : List ℕ) → IsAhead ahead s t.log → Within t v n → Told t.log 2 (primary s.f v) v n d
    → MaySayAll s.f s.me t (headers (votes_in keys s v n d))
votes_may keys ahead s t v n d joined within there =
    let ps = prepares_in keys s v n d in
    let cs = commits_in keys (with_more s ps) v n d in
    let then : State = record t { log = with_said (headers ps) t.log } in
    let still : Within then v n = record { view = within.view; asked = within.asked; low = within.low; min_s = within.min_s; high = within.high } in
    subst (λ (hs : List Header). MaySayAll s.f s.me t hs) (sym (map-append header ps cs))
    (say_join s.f s.me t (headers ps) (headers cs) (prepares_may keys ahead s t v n d joined within there)
    (commits_may keys ahead (with_more s ps) then v n d (ahead_said ahead s t.log ps joined) still))

-- what saying them makes of a history
pub after_said : (f me : ℕ) (p : History) (hs : List Header) → after_moves f me p (all_said hs) ≡ record p { now = record p.now { log = with_said hs p.now.log }; sent = with_said hs p.sent }
after_said f me p [] = refl
after_said f me p (h ∷ hs) = after_said f me (record p { now = record p.now { log = h ∷ p.now.log }; sent = h ∷ p.sent }) hs
