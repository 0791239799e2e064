-- An exchange of what stands in the logs: what the primary has proposed is committed then.
use Rattle.std.proofs.Common.{◌≡◌, ℕ, zero, suc, ◌+◌, ◌<◌, ◌≤◌, ◌==◌, Bool, true, false, ◌&&◌, ◌||◌, not, cond, nat_lt, nat_le, List, [], ◌∷◌, ◌++◌, inl, inr, refl, sym, ap, subst, ◌∙◌, arith}
use Rattle.std.proofs.lemmas.Bool.{and_parts, and_from, or_left, cond_both, eqb-true, eq-eqb, lt-ltb, le-leb, cases_Bool, not-true, and_cases, not_from_false}
use Rattle.bfs_votes.specs.Votes.{Header, has_slot, is_taken, says, told, Told, replicas, primary, prepared}
use Rattle.bfs_agreement.specs.Histories.{World, State, History, HasSaid, FewAreFaulty}
use Rattle.bfs_agreement.specs.Moves.{Move, Accepts, Says, after_move}
use Rattle.bfs_agreement.specs.Nodes.{after_moves}
use Rattle.bfs_agreement.specs.Calls.{vote, is_within, with_said, answers_in, commits_in, all_said, is_acceptable, accepting, next_number, proposing, moves_of, Receives, Orders, HeaderTurn, after_header_turn, after_header_turns, AreAuthentic}
use Rattle.bfs_agreement.proofs.Public.{joined_more, run_at, told_more, says_itself, one_digest, at_each}
use Rattle.bfs_progress.specs.Premises.{reached}
use Rattle.bfs_progress.specs.Members.{AreTogether, HasRoom, IsCommitted}
use Rattle.bfs_progress.specs.Exchanges.{backups_of, deliveries, votes, exchange}
use Rattle.bfs_progress.specs.Laws.{ExchangeCommits, ProposalCommits}
use Rattle.bfs_progress.proofs.Numbers.{each_below}
use Rattle.bfs_progress.proofs.Turns.{after_call, at_caller, after_join, authentic_join}
use Rattle.bfs_progress.proofs.Logs.{slot_told, proposed_le}
use Rattle.bfs_progress.proofs.Answered.{said_now}
use Rattle.bfs_progress.proofs.Reached.{Facts, responds, turn_done, always}
use Rattle.bfs_progress.proofs.Quiet.{has_prepared, has_committed, all_prepare, all_commit}

-- Nothing goes --------------------------------------------------------------------------------------------------------

pub record StaysAt (p q : History) : Type 0 where
  pub view : q.now.view ≡ p.now.view
  pub asked : q.now.asked ≡ p.now.asked
  pub low : q.now.low ≡ p.now.low
  pub min_s : q.now.min_s ≡ p.now.min_s
  pub handed : q.now.handed ≡ p.now.handed
  pub log : (t k v n : ℕ) (d : List ℕ) → Told p.now.log t k v n d → Told q.now.log t k v n d

-- views and marks stay, and logs grow
abbrev pub Stays : World → World → Type 0
Stays w new = (k : ℕ) → StaysAt (w k) (new k)

stays_itself : (p : History) → StaysAt p p
stays_itself p = record { view = refl; asked = refl; low = refl; min_s = refl; handed = refl; log = λ t k v n d x. x }

pub all_stay : (w : World) → Stays w w
all_stay w k = stays_itself (w k)

pub then_stays : (w w1 w2 : World) → Stays w w1 → Stays w1 w2 → Stays w w2
then_stays w w1 w2 one two k =
    let a = one k in
    let b = two k in
    record { view = b.view ∙ a.view; asked = b.asked ∙ a.asked; low = b.low ∙ a.low; min_s = b.min_s ∙ a.min_s; handed = b.handed ∙ a.handed; log = λ t j v n d x. b.log t j v n d (a.log t j v n d x) }

-- one message more, and what it says then
said_stays : (f me : ℕ) (p q : History) (h : Header) (hs : List Header) → q.now ≡ record p.now { log = h ∷ p.now.log } → StaysAt p (after_moves f me q (all_said hs))
said_stays f me p q h hs same =
    let all = said_now f me q hs ∙ ap (λ (s : State). record s { log = with_said hs s.log }) same in
    record {
      view = ap (λ (s : State). s.view) all;
      asked = ap (λ (s : State). s.asked) all;
      low = ap (λ (s : State). s.low) all;
      min_s = ap (λ (s : State). s.min_s) all;
      handed = ap (λ (s : State). s.handed) all;
      log = λ t k v n d x. subst (λ (s : State). Told s.log t k v n d) (sym all) (joined_more hs (h ∷ p.now.log) t k v n d (told_more h p.now.log t k v n d x));
    }

receives_stays : (f me : ℕ) (p : History) (h : Header) → StaysAt p (after_moves f me p (accepting f me p.now h))
receives_stays f me p h = cond_both (is_acceptable f p.now h) (Accepts h ∷ all_said (answers_in f me (h ∷ p.now.log) h)) [] (λ (l : List Move). StaysAt p (after_moves f me p l))
    (λ _. said_stays f me p (after_move f me p (Accepts h)) h (answers_in f me (h ∷ p.now.log) h) refl)
    (λ _. stays_itself p)

-- a turn of one that stays
one_stays : (f : ℕ) (null : List ℕ) (w : World) (turn : HeaderTurn) → StaysAt (w turn.who) (after_call f null w turn.who turn.call) → Stays w (after_header_turn f null w turn)
one_stays f null w turn x = subst (λ (new : World). Stays w new) (sym (run_at f w turn.who (moves_of f null turn.who (w turn.who).now turn.call)))
    (at_each (λ k q. StaysAt (w k) q) w turn.who (after_call f null w turn.who turn.call) x (all_stay w))

pub together_on : (f : ℕ) (faulty members : ℕ → Bool) (w new : World) (v : ℕ) → Stays w new → AreTogether f faulty members w v → AreTogether f faulty members new v
together_on f faulty members w new v on together =
    record { quorum = together.quorum; entered = λ k x. (on k).view ∙ together.entered k x; asked = λ k x. (on k).asked ∙ together.asked k x }

pub room_on : (members : ℕ → Bool) (w new : World) (n : ℕ) → Stays w new → HasRoom members w n → HasRoom members new n
room_on members w new n on room =
    record {
      low = λ k x. subst (λ (m : ℕ). m < n) (sym (on k).low) (room.low k x);
      min_s = λ k x. subst (λ (m : ℕ). m < n) (sym (on k).min_s) (room.min_s k x);
      high = λ k x. subst (λ (m : ℕ). n ≤ m + 32) (sym (on k).low) (room.high k x);
    }

-- A delivery ----------------------------------------------------------------------------------------------------------

within_from : (s : State) (v n : ℕ) → v ≡ s.view → s.asked ≡ s.view → s.low < n → s.min_s < n → n ≤ s.low + 32 → is_within s v n ≡ true
within_from s v n view asked low min_s high =
    and_from (v == s.view) ((s.asked == s.view) && (nat_lt s.low n && (nat_lt s.min_s n && nat_le n (s.low + 32)))) (eq-eqb v s.view view)
    (and_from (s.asked == s.view) (nat_lt s.low n && (nat_lt s.min_s n && nat_le n (s.low + 32))) (eq-eqb s.asked s.view asked)
    (and_from (nat_lt s.low n) (nat_lt s.min_s n && nat_le n (s.low + 32)) (lt-ltb s.low n low)
    (and_from (nat_lt s.min_s n) (nat_le n (s.low + 32)) (lt-ltb s.min_s n min_s) (le-leb n (s.low + 32) high))))

-- a member takes messages of the number where it has room
pub open_at : (f : ℕ) (faulty members : ℕ → Bool) (w : World) (v n j : ℕ) → AreTogether f faulty members w v → HasRoom members w n → members j ≡ true → is_within (w j).now v n ≡ true
open_at f faulty members w v n j together room in_j =
    let here = sym (together.entered j in_j) in
    within_from (w j).now v n here (together.asked j in_j ∙ here) (room.low j in_j) (room.min_s j in_j) (room.high j in_j)

abbrev pub receipt : (who : ℕ) → Header → HeaderTurn
receipt who h = record { who = who; call = Receives h }

-- a PRE-PREPARE is the primary's
abbrev pub IsVote : (f t i v : ℕ) → Type 0
IsVote f t i v = (not (t == 2) || (i == primary f v)) ≡ true

module _ (f : ℕ) (null : List ℕ) (faulty members : ℕ → Bool) (v n : ℕ) (d : List ℕ) (positive : 0 < f) (few : FewAreFaulty f faulty) where
  abbrev HasAt : World → (k t i : ℕ) → Type 0
  HasAt w k t i = Told (w k).now.log t i v n d

  -- what a correct replica said is in the log of whom it comes to, where that one takes messages of the number
  pub delivered : (w : World) (i j t : ℕ) → Facts f faulty w → faulty i ≡ false → is_within (w j).now v n ≡ true → IsVote f t i v → HasSaid (w i) t i v n d
      → HasAt (after_header_turn f null w (receipt j (vote t i v n d))) j t i
  delivered w i j t facts correct within kind said =
      let h = vote t i v n d in
      let s = (w j).now in
      at_caller f null (λ (q : History). Told q.now.log t i v n d) w (receipt j h) (elim (cases_Bool (is_taken s.log h)) [
        | inl taken ↦
            let got = slot_told s.log t i v n taken in
            let same = one_digest f faulty w facts.sound i t t v n got.0 d correct (facts.heard.said j t i v n got.0 correct got.1) said in
            (receives_stays f j (w j) h).log t i v n d (subst (λ (e : List ℕ). Told s.log t i v n e) same got.1)
        | inr free ↦
            let acceptable : is_acceptable f s h ≡ true = and_from (is_within s v n) (not (is_taken s.log h) && (not (t == 2) || (i == primary f v))) within
            (and_from (not (is_taken s.log h)) (not (t == 2) || (i == primary f v)) (not_from_false (is_taken s.log h) free) kind) in
            let hs = answers_in f j (h ∷ s.log) h in
            cond_both (is_acceptable f s h) (Accepts h ∷ all_said hs) [] (λ (l : List Move). Told (after_moves f j (w j) l).now.log t i v n d)
            (λ _. subst (λ (x : State). Told x.log t i v n d) (sym (said_now f j (after_move f j (w j) (Accepts h)) hs))
            (joined_more hs (h ∷ s.log) t i v n d (or_left (says t i v n d h) (told s.log t i v n d) (says_itself h))))
            (λ refused. absurd cc)
      ])

  -- What some deliveries leave ----------------------------------------------------------------------------------------

  -- they are of what was sent, and views and marks stay
  pub record Goes (w : World) (turns : List HeaderTurn) : Type 0 where
    pub facts : Facts f faulty (after_header_turns f null w turns)
    pub authentic : AreAuthentic f null faulty w turns
    pub stays : Stays w (after_header_turns f null w turns)

  none_goes : (w : World) → Facts f faulty w → Goes w []
  none_goes w facts = record { facts = facts; authentic = tt; stays = all_stay w }

  goes_join : (w : World) (xs ys : List HeaderTurn) → Goes w xs → Goes (after_header_turns f null w xs) ys → Goes w (xs ++ ys)
  goes_join w xs ys a b =
      let joined = sym (after_join f null w xs ys) in
      record {
        facts = subst (λ (x : World). Facts f faulty x) joined b.facts;
        authentic = authentic_join f null faulty w xs ys a.authentic b.authentic;
        stays = subst (λ (x : World). Stays w x) joined (then_stays w (after_header_turns f null w xs) (after_header_turns f null (after_header_turns f null w xs) ys) a.stays b.stays);
      }

  -- a delivery of what a member has in its log as its own
  one_goes : (w : World) (i j t : ℕ) → Facts f faulty w → faulty i ≡ false → HasAt w i t i → Goes w (receipt j (vote t i v n d) ∷ [])
  one_goes w i j t facts correct own =
      let h = vote t i v n d in
      let said = facts.heard.said i t i v n d correct own in
      record { facts = turn_done f null faulty w (receipt j h) positive few facts (λ _. said) tt; authentic = ((λ _. said), tt); stays = one_stays f null w (receipt j h) (receives_stays f j (w j) h) }

  -- A message comes to each -------------------------------------------------------------------------------------------

  each_goes : (w : World) (i t bound : ℕ) → Facts f faulty w → AreTogether f faulty members w v → HasRoom members w n → members i ≡ true → IsVote f t i v → HasAt w i t i
      → Goes w (deliveries members (vote t i v n d) bound)
      × ((k : ℕ) → k < bound → members k ≡ true → HasAt (after_header_turns f null w (deliveries members (vote t i v n d) bound)) k t i)
  each_goes w i t zero facts together room in_i kind own = (none_goes w facts, λ k low. absurd (omega (arith, low)))
  each_goes w i t (suc b) facts together room in_i kind own =
      let h = vote t i v n d in
      let turn = receipt b h in
      let rest = deliveries members h b in
      cond_both (members b && not (b == i)) (turn ∷ rest) rest
      (λ (l : List HeaderTurn). Goes w l × ((k : ℕ) → k < suc b → members k ≡ true → HasAt (after_header_turns f null w l) k t i))
      (λ comes.
      let first = one_goes w i b t facts (together.quorum.correct i in_i) own in
      let w1 = after_header_turn f null w turn in
      let got = each_goes w1 i t b first.facts (together_on f faulty members w w1 v first.stays together) (room_on members w w1 n first.stays room) in_i kind ((first.stays i).log t i v n d own) in
      let new = delivered w i b t facts (together.quorum.correct i in_i) (open_at f faulty members w v n b together room (and_parts (members b) (not (b == i)) comes).0) kind
      (facts.heard.said i t i v n d (together.quorum.correct i in_i) own) in
      (goes_join w (turn ∷ []) rest first got.0, each_below b (λ x. members x ≡ true → HasAt (after_header_turns f null w1 rest) x t i) (λ _. (got.0.stays b).log t i v n d new) got.1))
      (λ passes.
      let got = each_goes w i t b facts together room in_i kind own in (
        got.0,
        each_below b (λ x. members x ≡ true → HasAt (after_header_turns f null w rest) x t i)
            (λ in_b. elim (and_cases (members b) (not (b == i)) passes) [
              | inl out ↦ absurd cc
              | inr mine ↦ subst (λ (x : ℕ). HasAt (after_header_turns f null w rest) x t i) (sym (eqb-true b i (not_false (b == i) mine))) ((got.0.stays i).log t i v n d own)
            ])
            got.1,
      ))
    where
      not_false : (x : Bool) → not x ≡ false → x ≡ true
      not_false true e = refl
      not_false false e = absurd cc

  -- Each says it ------------------------------------------------------------------------------------------------------

  all_go : (w : World) (senders : ℕ → Bool) (t bound : ℕ) → Facts f faulty w → AreTogether f faulty members w v → HasRoom members w n → ((i : ℕ) → senders i ≡ true → members i ≡ true)
      → ((i : ℕ) → IsVote f t i v) → ((i : ℕ) → senders i ≡ true → HasAt w i t i)
      → Goes w (votes f members senders t v n d bound)
      × ((i : ℕ) → i < bound → senders i ≡ true → (k : ℕ) → members k ≡ true → HasAt (after_header_turns f null w (votes f members senders t v n d bound)) k t i)
  all_go w senders t zero facts together room among kind own = (none_goes w facts, λ i low. absurd (omega (arith, low)))
  all_go w senders t (suc b) facts together room among kind own =
      let first_turns = deliveries members (vote t b v n d) (replicas f) in
      let rest = votes f members senders t v n d b in
      cond_both (senders b) (first_turns ++ rest) rest
      (λ (l : List HeaderTurn). Goes w l × ((i : ℕ) → i < suc b → senders i ≡ true → (k : ℕ) → members k ≡ true → HasAt (after_header_turns f null w l) k t i))
      (λ says_it.
      let first = each_goes w b t (replicas f) facts together room (among b says_it) (kind b) (own b says_it) in
      let w1 = after_header_turns f null w first_turns in
      let got = all_go w1 senders t b first.0.facts (together_on f faulty members w w1 v first.0.stays together) (room_on members w w1 n first.0.stays room) among kind
      (λ i x. (first.0.stays i).log t i v n d (own i x)) in (
        goes_join w first_turns rest first.0 got.0,
        subst (λ (x : World). (i : ℕ) → i < suc b → senders i ≡ true → (k : ℕ) → members k ≡ true → HasAt x k t i) (sym (after_join f null w first_turns rest))
            (each_below b (λ i. senders i ≡ true → (k : ℕ) → members k ≡ true → HasAt (after_header_turns f null w1 rest) k t i)
            (λ _ k in_k. (got.0.stays k).log t b v n d (first.1 k (together.quorum.among k in_k) in_k)) got.1),
      ))
      (λ silent.
      let got = all_go w senders t b facts together room among kind own in
      (got.0, each_below b (λ i. senders i ≡ true → (k : ℕ) → members k ≡ true → HasAt (after_header_turns f null w rest) k t i) (λ speaks. absurd cc) got.1))

  -- The whole exchange ------------------------------------------------------------------------------------------------

  abbrev p : ℕ
  p = primary f v

  abbrev backups : ℕ → Bool
  backups = backups_of f members v

  pub exchanged : (w : World) → Facts f faulty w → AreTogether f faulty members w v → HasRoom members w n → HasAt w p 2 p
      → Goes w (exchange f members v n d) × IsCommitted f members (after_header_turns f null w (exchange f members v n d)) v n d
  exchanged w facts together room proposal =
      let one = deliveries members (vote 2 p v n d) (replicas f) in
      let two = votes f members backups 3 v n d (replicas f) in
      let three = votes f members members 4 v n d (replicas f) in
      let among = together.quorum.among in
      -- the PRE-PREPARE
      let first = each_goes w p 2 (replicas f) facts together room together.quorum.leads (eq-eqb p p refl) proposal in
      let w1 = after_header_turns f null w one in
      let together1 = together_on f faulty members w w1 v first.0.stays together in
      let room1 = room_on members w w1 n first.0.stays room in
      let has : (k : ℕ) → members k ≡ true → HasAt w1 k 2 p = λ k x. first.1 k (among k x) x in
      -- the PREPAREs
      let prepares : (i : ℕ) → backups i ≡ true → HasAt w1 i 3 i = λ i x.
      let c = and_parts (members i) (not (i == p)) x in has_prepared f faulty members w1 v n d (responds f faulty w1 first.0.facts) together1 room1.low i c.0 (not-true (i == p) c.1) (has i c.0) in
      let second = all_go w1 backups 3 (replicas f) first.0.facts together1 room1 (λ i x. (and_parts (members i) (not (i == p)) x).0) (λ i. refl) prepares in
      let w2 = after_header_turns f null w1 two in
      let together2 = together_on f faulty members w1 w2 v second.0.stays together1 in
      let room2 = room_on members w1 w2 n second.0.stays room1 in
      let has2 : (k : ℕ) → members k ≡ true → HasAt w2 k 2 p = λ k x. (second.0.stays k).log 2 p v n d (has k x) in
      let prepares2 : (k i : ℕ) → members k ≡ true → members i ≡ true → (i == p) ≡ false → HasAt w2 k 3 i = λ k i x y backup.
      second.1 i (among i y) (and_from (members i) (not (i == p)) y (not_from_false (i == p) backup)) k x in
      let ready : (k : ℕ) → members k ≡ true → prepared f k (w2 k).now.log v n d ≡ true = λ k x.
      all_prepare f faulty members w2 v n d (responds f faulty w2 second.0.facts) together2 room2.low k x (has2 k x) (λ i y backup. prepares2 k i x y backup) in
      -- the COMMITs
      let commits : (i : ℕ) → members i ≡ true → HasAt w2 i 4 i = λ i x. has_committed f faulty members w2 v n d (responds f faulty w2 second.0.facts) together2 room2.low i x (has2 i x) (ready i x) in
      let third = all_go w2 members 4 (replicas f) second.0.facts together2 room2 (λ i x. x) (λ i. refl) commits in
      let w3 = after_header_turns f null w2 three in
      let together3 = together_on f faulty members w2 w3 v third.0.stays together2 in
      let room3 = room_on members w2 w3 n third.0.stays room2 in
      let ready3 : (k : ℕ) → members k ≡ true → prepared f k (w3 k).now.log v n d ≡ true = λ k x.
      all_prepare f faulty members w3 v n d (responds f faulty w3 third.0.facts) together3 room3.low k x ((third.0.stays k).log 2 p v n d (has2 k x)) (λ i y backup. (third.0.stays k).log 3 i v n d (prepares2 k i x y backup)) in
      let done : IsCommitted f members w3 v n d = λ k x. all_commit f faulty members w3 v n d (responds f faulty w3 third.0.facts) together3 room3.low k x (ready3 k x) (λ i y. third.1 i (among i y) y k x) in (
        goes_join w one (two ++ three) first.0 (goes_join w1 two three second.0 third.0),
        subst (λ (x : World). IsCommitted f members x v n d) (sym (after_join f null w one (two ++ three) ∙ after_join f null w1 two three)) done,
      )

pub exchange_commits : ExchangeCommits
exchange_commits f null faulty members turns v n d run together room proposal =
    let w = reached f null turns in
    let got = exchanged f null faulty members v n d run.others run.few w (always f null faulty turns run) together room proposal in
    (got.0.authentic, together_on f faulty members w (after_header_turns f null w (exchange f members v n d)) v got.0.stays together, got.1)

-- A proposal ----------------------------------------------------------------------------------------------------------

orders_stays : (f me : ℕ) (q : History) (e : List ℕ) → StaysAt q (after_moves f me q (proposing f me q.now e))
orders_stays f me q e =
    let s = q.now in
    let n = next_number s in
    let h = vote 2 me s.view n e in
    let hs = cond (f == 0) (commits_in f me (h ∷ s.log) s.view n e) [] in
    cond_both ((me == primary f s.view) && (is_within s s.view n && not (has_slot s.log 2 me s.view n))) (Says h ∷ all_said hs) [] (λ (l : List Move). StaysAt q (after_moves f me q l))
    (λ _. said_stays f me q (after_move f me q (Says h)) h hs refl)
    (λ _. stays_itself q)

ordered_told : (f me : ℕ) (q : History) (e : List ℕ) → me ≡ primary f q.now.view → is_within q.now q.now.view (next_number q.now) ≡ true
    → Told (after_moves f me q (proposing f me q.now e)).now.log 2 me q.now.view (next_number q.now) e
ordered_told f me q e leads within =
    let s = q.now in
    let n = next_number s in
    let h = vote 2 me s.view n e in
    let hs = cond (f == 0) (commits_in f me (h ∷ s.log) s.view n e) [] in
    let free : has_slot s.log 2 me s.view n ≡ false = elim (cases_Bool (has_slot s.log 2 me s.view n)) [
      | inl taken ↦ let got = slot_told s.log 2 me s.view n taken in let le = proposed_le s.log me s.view n got.0 got.1 in absurd (omega (arith, le))
      | inr x ↦ x
    ] in
    let may = and_from (me == primary f s.view) (is_within s s.view n && not (has_slot s.log 2 me s.view n)) (eq-eqb me (primary f s.view) leads)
    (and_from (is_within s s.view n) (not (has_slot s.log 2 me s.view n)) within (not_from_false (has_slot s.log 2 me s.view n) free)) in
    cond_both ((me == primary f s.view) && (is_within s s.view n && not (has_slot s.log 2 me s.view n))) (Says h ∷ all_said hs) [] (λ (l : List Move). Told (after_moves f me q l).now.log 2 me s.view n e)
    (λ _. subst (λ (x : State). Told x.log 2 me s.view n e) (sym (said_now f me (after_move f me q (Says h)) hs))
    (joined_more hs (h ∷ s.log) 2 me s.view n e (or_left (says 2 me s.view n e h) (told s.log 2 me s.view n e) (says_itself h))))
    (λ refused. absurd cc)

abbrev pub proposal_turn : (who : ℕ) → List ℕ → HeaderTurn
proposal_turn who d = record { who = who; call = Orders d }

-- the primary has proposed
pub record Ordered (f : ℕ) (faulty : ℕ → Bool) (w new : World) (v n : ℕ) (d : List ℕ) : Type 0 where
  pub facts : Facts f faulty new
  pub stays : Stays w new
  pub own : Told (new (primary f v)).now.log 2 (primary f v) v n d

pub ordered : (f : ℕ) (null : List ℕ) (faulty members : ℕ → Bool) (w : World) (v : ℕ) (d : List ℕ) → 0 < f → FewAreFaulty f faulty → Facts f faulty w → AreTogether f faulty members w v
    → HasRoom members w (next_number (w (primary f v)).now) → Ordered f faulty w (after_header_turn f null w (proposal_turn (primary f v) d)) v (next_number (w (primary f v)).now) d
ordered f null faulty members w v d positive few facts together room =
    let p = primary f v in
    let s = (w p).now in
    let n = next_number s in
    let turn = proposal_turn p d in
    let here = together.entered p together.quorum.leads in
    let within = subst (λ (x : ℕ). is_within s x n ≡ true) (sym here) (open_at f faulty members w v n p together room together.quorum.leads) in
    record {
      facts = turn_done f null faulty w turn positive few facts tt tt;
      stays = one_stays f null w turn (orders_stays f p (w p) d);
      own = at_caller f null (λ (q : History). Told q.now.log 2 p v n d) w turn
          (subst (λ (x : ℕ). Told (after_call f null w p (Orders d)).now.log 2 p x n d) here (ordered_told f p (w p) d (ap (λ (x : ℕ). primary f x) (sym here)) within));
    }

pub proposal_commits : ProposalCommits
proposal_commits f null faulty members turns v d run together room =
    let w = reached f null turns in
    let n = next_number (w (primary f v)).now in
    let w1 = after_header_turn f null w (proposal_turn (primary f v) d) in
    let o = ordered f null faulty members w v d run.others run.few (always f null faulty turns run) together room in
    (exchanged f null faulty members v n d run.others run.few w1 o.facts (together_on f faulty members w w1 v o.stays together) (room_on members w w1 n o.stays room) o.own).1
