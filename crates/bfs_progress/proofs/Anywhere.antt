-- From each state there is a way on.
use Rattle.std.proofs.Common.{◌≡◌, ℕ, ◌+◌, ◌-◌, ◌<◌, ◌≤◌, ◌==◌, Bool, true, not, cond, refl, List, ◌∷◌, inl, inr, sym, subst, ◌∙◌, arith}
use Rattle.std.proofs.lemmas.Bool.{and_parts, cond_both, eqb-true, eqb-false, cases_lt}
use Rattle.bfs_votes.specs.Votes.{Told, replicas, primary, committed}
use Rattle.bfs_agreement.specs.Histories.{IsIn, ViewChange, World, FewAreFaulty}
use Rattle.bfs_agreement.specs.Choice.{all_certificates, highest_of, digest_or, chosen}
use Rattle.bfs_agreement.specs.Calls.{greatest_proposed, next_number, ChangesView, HeaderTurn, after_header_turn, after_header_turns}
use Rattle.bfs_agreement.proofs.Public.{choice_is_by_its_rule, is_proposed, out_of_all}
use Rattle.bfs_progress.specs.Premises.{reached}
use Rattle.bfs_progress.specs.Members.{AreTogether, HasRoom, IsCommitted, HaveAsked, AreChangesOf}
use Rattle.bfs_progress.specs.Exchanges.{backups_of, all_time_out, entrance, all_settle}
use Rattle.bfs_progress.specs.Ways.{CanExecute, CanBeStable, IsWay}
use Rattle.bfs_progress.specs.Laws.{EachBatchCanBeCommitted}
use Rattle.bfs_progress.proofs.Logs.{greatest_le}
use Rattle.bfs_progress.proofs.Reached.{Facts, turns_done, always}
use Rattle.bfs_progress.proofs.Exchange.{proposal_turn, ordered, together_on, room_on}
use Rattle.bfs_progress.proofs.Entrance.{they_make, entrance_done, changes_there, together_then}
use Rattle.bfs_progress.proofs.Asking.{enters_by, all_timed, meets}
use Rattle.bfs_progress.proofs.Ways.{SettledAt, asking_settles, entering_settles, each_settled, ways_end}
use Rattle.bfs_progress.proofs.Windows.{stable_le, certified_le, max_low, low_le_max, max_at, several, ranged}

-- a batch of that digest is committed at each, and each can execute up to it
abbrev pub Commits : (f : ℕ) (members : ℕ → Bool) (v : ℕ) → List ℕ → World → Type 0
Commits f members v d w = (number : ℕ) × IsCommitted f members w v number d × CanExecute f members w number

-- there is a way on, on which it is
abbrev pub Ends : (f : ℕ) (null : List ℕ) (faulty members : ℕ → Bool) → World → (v : ℕ) → List ℕ → Type 0
Ends f null faulty members w v d = (turns : List HeaderTurn) × IsWay f null faulty members w turns × Commits f members v d (after_header_turns f null w turns)

-- they have one low mark, and the view has nothing above another number
pub record AreAlike (members : ℕ → Bool) (w : World) (f v low top : ℕ) : Type 0 where
  pub lows : (k : ℕ) → members k ≡ true → (w k).now.low ≡ low
  pub mins : (k : ℕ) → members k ≡ true → (w k).now.min_s ≤ low
  pub handed : (w (primary f v)).now.handed ≤ top
  pub greatest : greatest_proposed (w (primary f v)).now.log v ≤ top

-- where the primary has a PRE-PREPARE for each number up to that one, and there is room for another
finish : (f : ℕ) (null : List ℕ) (faulty members : ℕ → Bool) (w : World) (v : ℕ) (d : List ℕ) (low top : ℕ) (digest_of : ℕ → List ℕ) → 0 < f → FewAreFaulty f faulty → Facts f faulty w
    → AreTogether f faulty members w v → AreAlike members w f v low top → low ≤ top → top < low + 32
    → ((n : ℕ) → low < n → n ≤ top → Told (w (primary f v)).now.log 2 (primary f v) v n (digest_of n)) → Ends f null faulty members w v d
finish f null faulty members w v d low top digest_of positive few facts together alike above room own =
    let p = primary f v in
    let leads = together.quorum.leads in
    let s = (w p).now in
    let n = next_number s in
    let low_p = alike.lows p leads in
    let min_p = alike.mins p leads in
    let handed = alike.handed in
    let greatest : greatest_proposed s.log s.view ≤ top = subst (λ (x : ℕ). greatest_proposed s.log x ≤ top) (sym (together.entered p leads)) alike.greatest in
    let over : low < n = omega (arith, low_p) in
    let within : n ≤ top + 1 = omega (arith, low_p, min_p, handed, greatest, above) in
    let rooms : (m : ℕ) → low < m → m ≤ n → HasRoom members w m = λ m lo hi. record {
      low = λ k x. let e = alike.lows k x in omega (arith, e, lo);
      min_s = λ k x. let e = alike.mins k x in omega (arith, e, lo);
      high = λ k x. let e = alike.lows k x in omega (arith, e, hi, within, room);
    } in
    let turn = proposal_turn p d in
    let w1 = after_header_turn f null w turn in
    let o = ordered f null faulty members w v d positive few facts together (rooms n over (omega arith)) in
    let digest_at = λ (m : ℕ). cond (m == n) d (digest_of m) in
    let count = n - low in
    let own1 : (m : ℕ) → low < m → m ≤ low + count → Told (w1 p).now.log 2 p v m (digest_at m) = λ m lo hi.
    cond_both (m == n) d (digest_of m) (λ (e : List ℕ). Told (w1 p).now.log 2 p v m e)
    (λ same. subst (λ (x : ℕ). Told (w1 p).now.log 2 p v x d) (sym (eqb-true m n same)) o.own)
    (λ other. (o.stays p).log 2 p v m (digest_of m) (own m lo (before m n top (eqb-false m n other) (omega (arith, hi, over)) within))) in
    let rng = ranged f null faulty members v digest_at positive few w1 low count o.facts (together_on f faulty members w w1 v o.stays together)
    (λ m lo hi. room_on members w w1 m o.stays (rooms m lo (omega (arith, hi, over)))) own1 count (omega arith) in
    let rest = several f null faulty members v digest_at positive few low count in
    let new = after_header_turns f null w1 rest in (
      turn ∷ rest,
      record { of_members = (leads, rng.way.of_members); authentic = (tt, rng.way.authentic); offered = (tt, rng.way.offered); settled = (tt, rng.way.settled) },
      (
        n,
        subst (λ (e : List ℕ). IsCommitted f members new v n e) (cond_both (n == n) d (digest_of n) (λ (e : List ℕ). e ≡ d) (λ _. refl) (λ differs. absurd (eqb-false n n differs refl)))
            (rng.done n over (omega (arith, over))),
        λ k m x under le.
            let view : (new k).now.view ≡ v = (rng.stays k).view ∙ ((o.stays k).view ∙ together.entered k x) in
            let low_k : (new k).now.low ≡ low = (rng.stays k).low ∙ ((o.stays k).low ∙ alike.lows k x) in
            (digest_at m, subst (λ (u : ℕ). committed f k (new k).now.log u m (digest_at m) ≡ true) (sym view) (rng.done m (omega (arith, under, low_k)) (omega (arith, le, over)) k x)),
      ),
    )
  where
    before : (m n top : ℕ) → (m ≡ n → ⊥) → m ≤ n → n ≤ top + 1 → m ≤ top
    before m n top other le within = elim (cases_lt m n) [ inl lt ↦ omega (arith, lt, within) | inr ge ↦ absurd (other (omega (arith, le, ge))) ]

-- where the view begins with a full window, all in it is committed first, and they settle at its end
full_window : (f : ℕ) (null : List ℕ) (faulty members : ℕ → Bool) (w : World) (v : ℕ) (d : List ℕ) (low : ℕ) (digest_of : ℕ → List ℕ) → 0 < f → FewAreFaulty f faulty → Facts f faulty w
    → AreTogether f faulty members w v → AreAlike members w f v low (low + 32)
    → ((n : ℕ) → low < n → n ≤ low + 32 → Told (w (primary f v)).now.log 2 (primary f v) v n (digest_of n)) → Ends f null faulty members w v d
full_window f null faulty members w v d low digest_of positive few facts together alike own =
    let p = primary f v in
    let leads = together.quorum.leads in
    let among = together.quorum.among in
    let top = low + 32 in
    let rooms : (n : ℕ) → low < n → n ≤ top → HasRoom members w n = λ n lo hi. record {
      low = λ k x. let e = alike.lows k x in omega (arith, e, lo);
      min_s = λ k x. let e = alike.mins k x in omega (arith, e, lo);
      high = λ k x. let e = alike.lows k x in omega (arith, e, hi);
    } in
    let rng = ranged f null faulty members v digest_of positive few w low 32 facts together rooms own 32 (omega arith) in
    let all_of = several f null faulty members v digest_of positive few low 32 in
    let w1 = after_header_turns f null w all_of in
    let together1 = together_on f faulty members w w1 v rng.stays together in
    let low1 : (k : ℕ) → members k ≡ true → (w1 k).now.low ≡ low = λ k x. (rng.stays k).low ∙ alike.lows k x in
    let stable : CanBeStable f members w1 top = inr (λ j n in_j under hi. (
      digest_of n,
      subst (λ (x : ℕ). committed f j (w1 j).now.log x n (digest_of n) ≡ true) (sym (together1.entered j in_j)) (rng.done n (let e = low1 j in_j in omega (arith, e, under)) hi j in_j),
    )) in
    let set = each_settled f null faulty members top w1 (replicas f) stable in
    let settling = all_settle members top (replicas f) in
    let w2 = after_header_turns f null w1 settling in
    let at : (k : ℕ) → members k ≡ true → SettledAt (w1 k) (w2 k) top = λ k x. set.at k (among k x) x in
    let together2 : AreTogether f faulty members w2 v = record {
      quorum = together.quorum;
      entered = λ k x. (at k x).view ∙ together1.entered k x;
      asked = λ k x. (at k x).asked ∙ together1.asked k x;
    } in
    let facts2 = turns_done f null faulty w1 settling positive few rng.facts set.way.authentic set.way.offered in
    let alike2 : AreAlike members w2 f v top top = record {
      lows = λ k x. let e = (at k x).low in let e1 = low1 k x in omega (arith, e, e1);
      mins = λ k x. let e = (at k x).min_s in let e1 = (rng.stays k).min_s in let le = alike.mins k x in omega (arith, e, e1, le);
      handed = let e = (at p leads).handed in let e1 = (rng.stays p).handed in let le = alike.handed in omega (arith, e, e1, le);
      greatest = greatest_le (w2 p).now.log v top (λ k n e x. let le = rng.facts.high p 2 k v n e ((at p leads).log 2 k v n e x) in let e1 = low1 p leads in omega (arith, le, e1));
    } in
    ways_end f null faulty members (Commits f members v d) w all_of rng.way
    (ways_end f null faulty members (Commits f members v d) w1 settling set.way
    (finish f null faulty members w2 v d top top digest_of positive few facts2 together2 alike2 (omega arith) (omega arith) (λ n lo hi. absurd (omega (arith, lo, hi)))))

pub each_batch_can_be_committed : EachBatchCanBeCommitted
each_batch_can_be_committed f null faulty members turns v d run may =
    let w0 = reached f null turns in
    let positive = run.others in
    let few = run.few in
    let facts0 = always f null faulty turns run in
    let p = primary f v in
    let reps = replicas f in
    let leads = may.quorum.leads in
    let among = may.quorum.among in
    -- they ask for the view
    let asking = all_time_out members w0 (λ _. v) reps in
    let timed = all_timed f null faulty members w0 (λ _. v) v facts0 may.quorum in
    let w1 = after_header_turns f null w0 asking in
    let asked1 = meets f null faulty members w0 v facts0 may in
    let way1 : IsWay f null faulty members w0 asking = record {
      of_members = timed.further.of_members;
      authentic = timed.further.authentic;
      offered = timed.further.offered;
      settled = asking_settles f null faulty members w0 w0 (λ _. v) reps;
    } in
    let facts1 = turns_done f null faulty w0 asking positive few facts0 way1.authentic way1.offered in
    let got = changes_there f null faulty members w1 v positive few facts1 asked1 in
    let ms = got.0 in
    let theirs1 = got.1 in
    let r = chosen f v null ms in
    let cs = all_certificates ms in
    -- they catch up with the highest low mark
    let l = max_low members w1 reps in
    let set = each_settled f null faulty members l w1 reps (inl (max_at members w1 p leads reps)) in
    let settling = all_settle members l reps in
    let w2 = after_header_turns f null w1 settling in
    let facts2 = turns_done f null faulty w1 settling positive few facts1 set.way.authentic set.way.offered in
    let at : (k : ℕ) → members k ≡ true → SettledAt (w1 k) (w2 k) l = λ k x. set.at k (among k x) x in
    let low2 : (k : ℕ) → members k ≡ true → (w2 k).now.low ≡ l = λ k x. let e = (at k x).low in let le = low_le_max members w1 reps k (among k x) x in omega (arith, e, le) in
    let asked2 : HaveAsked f faulty members w2 v = record {
      quorum = may.quorum;
      asked = λ k x. (at k x).asked ∙ asked1.asked k x;
      before = λ k x. subst (λ (y : ℕ). y < v) (sym (at k x).view) (asked1.before k x);
    } in
    let theirs2 : AreChangesOf members w2 v ms = record {
      of_members = theirs1.of_members;
      sent = λ m x. subst (λ (y : List ViewChange). IsIn m y) (sym (at m.sender (theirs1.of_members m x)).changes) (theirs1.sent m x);
      views = theirs1.views;
      each = theirs1.each;
    } in
    -- they enter
    let ent = entrance_done f null faulty members w2 v ms positive few facts2 asked2 (they_make f null faulty members v positive few may.quorum w2 ms facts2 theirs2) in
    let entering = entrance f members v ms in
    let w3 = after_header_turns f null w2 entering in
    let backups = backups_of f members v in
    let way3 : IsWay f null faulty members w2 entering = record {
      of_members = (leads, enters_by f null faulty members backups v ms reps (λ k x. (and_parts (members k) (not (k == p)) x).0));
      authentic = ent.authentic;
      offered = ent.offered;
      settled = (tt, entering_settles f null faulty members (after_header_turn f null w2 (record { who = p; call = ChangesView v ms })) backups v ms reps);
    } in
    let facts3 = turns_done f null faulty w2 entering positive few facts2 ent.authentic ent.offered in
    let together3 = together_then f null faulty members w2 v ms asked2 ent in
    -- what the view begins with
    let choice = choice_is_by_its_rule f v null ms in
    let good = λ (m : ViewChange) (x : IsIn m ms). facts1.good m.sender m (may.quorum.correct m.sender (theirs1.of_members m x)) (theirs1.sent m x) in
    let stables : (m : ViewChange) → IsIn m ms → m.stable ≤ l = λ m x.
    let one = (good m x).stable in let two = low_le_max members w1 reps m.sender (among m.sender (theirs1.of_members m x)) (theirs1.of_members m x) in omega (arith, one, two) in
    let min_le : r.min_s ≤ l = stable_le ms l stables in
    let top_le : r.top ≤ l + 32 = certified_le r.min_s cs (l + 32) (omega (arith, min_le)) (λ c x.
    let o = out_of_all ms c x in
    let near = (good o.0 o.1).near c o.2 in
    let st = stables o.0 o.1 in
    omega (arith, near, st)) in
    let count = r.top - l in
    let handed3 : (w3 p).now.handed ≡ r.top = (ent.entered p leads).handed in
    let greatest3 : greatest_proposed (w3 p).now.log v ≤ r.top = greatest_le (w3 p).now.log v r.top (λ k n e x. elim ((ent.entered p leads).from k v n e x) [
      | inl y ↦ (choice.within k v n e y).1
      | inr y ↦
          let le = (facts2.sound.kept p (may.quorum.correct p leads)).log_views 2 k v n e y in
          let lt = asked2.before p leads in
          absurd (omega (arith, le, lt))
    ]) in
    let alike3 : AreAlike members w3 f v l (l + count) = record {
      lows = λ k x. (ent.entered k x).low ∙ low2 k x;
      mins = λ k x. let e = (ent.entered k x).min_s in omega (arith, e, min_le);
      handed = omega (arith, handed3);
      greatest = omega (arith, greatest3);
    } in
    let digest_of = λ (n : ℕ). digest_or null (highest_of cs n) in
    let own3 : (n : ℕ) → l < n → n ≤ l + count → Told (w3 p).now.log 2 p v n (digest_of n) = λ n lo hi.
    let e = low2 p leads in
    (ent.entered p leads).has p v n (digest_of n) (omega (arith, e, lo)) (omega (arith, e, hi, top_le))
    (is_proposed f v null cs (r.min_s + 1) (r.top - r.min_s) n (omega (arith, lo, min_le)) (omega (arith, lo, hi, min_le))) in
    let ends3 : Ends f null faulty members w3 v d = elim (cases_lt count 32) [
      | inl room ↦ finish f null faulty members w3 v d l (l + count) digest_of positive few facts3 together3 alike3 (omega arith) (omega (arith, room)) own3
      | inr full ↦
          let same : l + count ≡ l + 32 = omega (arith, full, top_le) in
          full_window f null faulty members w3 v d l digest_of positive few facts3 together3 (subst (λ (x : ℕ). AreAlike members w3 f v l x) same alike3) (λ n lo hi. own3 n lo (omega (arith, hi, full)))
    ] in
    ways_end f null faulty members (Commits f members v d) w0 asking way1
    (ways_end f null faulty members (Commits f members v d) w1 settling set.way
    (ways_end f null faulty members (Commits f members v d) w2 entering way3 ends3))
