-- Each call is a list of moves that are allowed.
use Rattle.std.proofs.Common.{◌≡◌, ℕ, suc, ◌+◌, ◌*◌, ◌<◌, ◌≤◌, ◌==◌, max, Bool, true, false, ◌&&◌, ◌||◌, not, cond, nat_lt, nat_le, List, [], ◌∷◌, ◌++◌, Some, inl, inr, refl, sym, ap, subst, ◌∙◌, arith}
use Rattle.std.specs.List.{list_any, list_all}
use Rattle.std.proofs.lemmas.Bool.{and_parts, and_from, or_left, not-true, cond_both, eqb-true, eqb-false, ltb-true, leb-true, lt-ltb, eq-eqb, cases_Bool}
use Rattle.bfs_votes.specs.Votes.{tellers, Header, has_slot, says, told, Told, count_below, primary, is_backed, prepared, committed, replicas}
use Rattle.bfs_agreement.specs.Histories.{IsIn, Certificate, ViewChange, State, History, World, WasSent, IsValidNewView}
use Rattle.bfs_agreement.specs.Moves.{Move, Accepts, Says, Drops, Enters, Executes, IsOpen, Reason, Proposes, Prepares, Commits, MaySay, MayLeave, taken_in, after_move, IsAllowed, with_history, AreAllowed, new_world}
use Rattle.bfs_agreement.specs.Choice.{chosen}
use Rattle.bfs_agreement.specs.Calls.{vote, is_within, said_once, with_said, prepares_in, commits_in, votes_in, answers_in, all_said, is_acceptable, accepting, next_number, proposing, matching, candidates, is_highest, highest_among, view_change_of, leaving, is_valid_change, is_new_view, entry_answers, entering, executing, settling, HeaderCall, Receives, Orders, Settles, TimesOut, ChangesView, Runs, moves_of, IsAuthentic, HeaderTurn, steps_of, after_header_turn, after_header_turns, AreAuthentic}
use Rattle.bfs_votes.specs.Laws.{QuorumsMeet}
use Rattle.bfs_agreement.proofs.Counts.{quorums_share}
use Rattle.bfs_agreement.proofs.Told.{Is, told_cases, told_more}
use Rattle.bfs_agreement.proofs.Logs.{handed_taken, prepared_told}
use Rattle.bfs_agreement.proofs.Said.{says_itself}
use Rattle.bfs_agreement.proofs.Choice.{choice_is_by_its_rule, best_is}
use Rattle.bfs_agreement.proofs.Worlds.{Sound, start_sound, run_sound, same_executed, one_digest}
use Rattle.bfs_agreement.specs.Laws.{CallsAgree, BatchesAgree, SaysOneDigest, ExecutesCommitted, AgreesInView}

-- Saying --------------------------------------------------------------------------------------------------------------

-- in the view entered, none later asked for, within the marks
pub record Within (s : State) (v n : ℕ) : Type 0 where
  pub view : v ≡ s.view
  pub asked : s.asked ≡ s.view
  pub low : s.low < n
  pub min_s : s.min_s < n
  pub high : n ≤ s.low + 32

pub within_is : (s : State) (v n : ℕ) → is_within s v n ≡ true → Within s v n
within_is s v n e =
    let a = and_parts (v == s.view) ((s.asked == s.view) && (nat_lt s.low n && (nat_lt s.min_s n && nat_le n (s.low + 32)))) e in
    let b = and_parts (s.asked == s.view) (nat_lt s.low n && (nat_lt s.min_s n && nat_le n (s.low + 32))) a.1 in
    let c = and_parts (nat_lt s.low n) (nat_lt s.min_s n && nat_le n (s.low + 32)) b.1 in
    let d = and_parts (nat_lt s.min_s n) (nat_le n (s.low + 32)) c.1 in
    record { view = eqb-true v s.view a.0; asked = eqb-true s.asked s.view b.0; low = ltb-true s.low n c.0; min_s = ltb-true s.min_s n d.0; high = leb-true n (s.low + 32) d.1 }

-- one after another
abbrev pub MaySayAll : (f me : ℕ) → State → List Header → Type 0
MaySayAll f me s [] = Unit {0}
MaySayAll f me s (h ∷ hs) = MaySay f me s h × MaySayAll f me (record s { log = h ∷ s.log }) hs

pub say_join : (f me : ℕ) (s : State) (xs ys : List Header) → MaySayAll f me s xs → MaySayAll f me (record s { log = with_said xs s.log }) ys → MaySayAll f me s (xs ++ ys)
say_join f me s [] ys a b = b
say_join f me s (x ∷ xs) ys a b = (a.0, say_join f me (record s { log = x ∷ s.log }) xs ys a.1 b)

pub joined_more : (hs log : List Header) (t k v n : ℕ) (d : List ℕ) → Told log t k v n d → Told (with_said hs log) t k v n d
joined_more [] log t k v n d x = x
joined_more (h ∷ hs) log t k v n d x = joined_more hs (h ∷ log) t k v n d (told_more h log t k v n d x)

own_may : (f me : ℕ) (s : State) (h : Header) → Within s h.view h.number → h.sender ≡ me → Reason f me s h → MaySayAll f me s (said_once s.log h)
own_may f me s h within own reason = cond_both (has_slot s.log h.tag h.sender h.view h.number) [] (h ∷ []) (λ (l : List Header). MaySayAll f me s l)
    (λ _. tt)
    (λ free. (record { opened = record { view = within.view; asked = within.asked; low = within.low; min_s = within.min_s; high = within.high; free = free }; own = own; reason = reason }, tt))

commits_may : (f me : ℕ) (s : State) (v n : ℕ) (d : List ℕ) → Within s v n → MaySayAll f me s (commits_in f me s.log v n d)
commits_may f me s v n d within = cond_both (prepared f me s.log v n d) (said_once s.log (vote 4 me v n d)) [] (λ (l : List Header). MaySayAll f me s l)
    (λ ready. own_may f me s (vote 4 me v n d) within refl (Commits refl ready))
    (λ _. tt)

prepares_may : (f me : ℕ) (s : State) (v n : ℕ) (d : List ℕ) → Within s v n → Told s.log 2 (primary f v) v n d → MaySayAll f me s (prepares_in f me s.log v n d)
prepares_may f me s v n d within there = cond_both (me == primary f v) [] (said_once s.log (vote 3 me v n d)) (λ (l : List Header). MaySayAll f me s l)
    (λ _. tt)
    (λ _. own_may f me s (vote 3 me v n d) within refl (Prepares refl there))

backs_may : (f me : ℕ) (s : State) (v n : ℕ) (d : List ℕ) → Within s v n → Told s.log 2 (primary f v) v n d → MaySayAll f me s (votes_in f me s.log v n d)
backs_may f me s v n d within there =
    let p = prepares_in f me s.log v n d in
    say_join f me s p (commits_in f me (with_said p s.log) v n d) (prepares_may f me s v n d within there)
    (commits_may f me (record s { log = with_said p s.log }) v n d (record { view = within.view; asked = within.asked; low = within.low; min_s = within.min_s; high = within.high }))

-- a world in which a replica says these
pub here_itself : (w : World) (i : ℕ) (p : History) → with_history w i p i ≡ p
here_itself w i p = cond_both (i == i) p (w i) (λ (x : History). x ≡ p) (λ _. refl) (λ e. absurd (eqb-false i i e refl))

pub said_allowed : (f : ℕ) (faulty : ℕ → Bool) (w : World) (i : ℕ) (s : State) (hs : List Header) → (w i).now ≡ s → MaySayAll f i s hs → AreAllowed f faulty w (steps_of i (all_said hs))
said_allowed f faulty w i s [] same may = tt
said_allowed f faulty w i s (h ∷ hs) same may = (
  subst (λ (x : State). MaySay f i x h) (sym same) may.0,
  said_allowed f faulty (with_history w i (after_move f i (w i) (Says h))) i (record s { log = h ∷ s.log }) hs
      (ap (λ (p : History). p.now) (here_itself w i (after_move f i (w i) (Says h))) ∙ ap (λ (x : State). record x { log = h ∷ x.log }) same) may.1,
)

-- one move, and then it says these
pub then_said : (f : ℕ) (faulty : ℕ → Bool) (w : World) (i : ℕ) (move : Move) (hs : List Header) → IsAllowed f faulty w i (w i) move → MaySayAll f i (after_move f i (w i) move).now hs → AreAllowed f faulty w (steps_of i (move ∷ all_said hs))
then_said f faulty w i move hs may says = (may, said_allowed f faulty (with_history w i (after_move f i (w i) move)) i (after_move f i (w i) move).now hs (ap (λ (p : History). p.now) (here_itself w i (after_move f i (w i) move))) says)

-- Each call -----------------------------------------------------------------------------------------------------------

if_allowed : (f : ℕ) (faulty : ℕ → Bool) (w : World) (i : ℕ) (b : Bool) (moves : List Move) → (b ≡ true → AreAllowed f faulty w (steps_of i moves)) → AreAllowed f faulty w (steps_of i (cond b moves []))
if_allowed f faulty w i b moves h = cond_both b moves [] (λ (l : List Move). AreAllowed f faulty w (steps_of i l)) h (λ _. tt)

answers_may : (f me : ℕ) (s : State) (h : Header) → Within s h.view h.number → (not (h.tag == 2) || (h.sender == primary f h.view)) ≡ true
    → MaySayAll f me (record s { log = h ∷ s.log }) (answers_in f me (h ∷ s.log) h)
answers_may f me s h within from =
    let held : State = record s { log = h ∷ s.log } in
    let in_held : Within held h.view h.number = record { view = within.view; asked = within.asked; low = within.low; min_s = within.min_s; high = within.high } in
    cond_both (h.tag == 2) (votes_in f me (h ∷ s.log) h.view h.number h.digest) (cond (h.tag == 3) (commits_in f me (h ∷ s.log) h.view h.number h.digest) []) (λ (l : List Header). MaySayAll f me held l)
    (λ two.
    let is_primary : h.sender ≡ primary f h.view = eqb-true h.sender (primary f h.view) (second (h.tag == 2) (h.sender == primary f h.view) two from) in
    let tag : h.tag ≡ 2 = eqb-true h.tag 2 two in
    let itself : Told (h ∷ s.log) h.tag h.sender h.view h.number h.digest = or_left (says h.tag h.sender h.view h.number h.digest h) (told s.log h.tag h.sender h.view h.number h.digest) (says_itself h) in
    let there : Told (h ∷ s.log) 2 (primary f h.view) h.view h.number h.digest =
    subst (λ (k : ℕ). Told (h ∷ s.log) 2 k h.view h.number h.digest) is_primary (subst (λ (t : ℕ). Told (h ∷ s.log) t h.sender h.view h.number h.digest) tag itself) in
    backs_may f me held h.view h.number h.digest in_held there)
    (λ _. cond_both (h.tag == 3) (commits_in f me (h ∷ s.log) h.view h.number h.digest) [] (λ (l : List Header). MaySayAll f me held l)
    (λ _. commits_may f me held h.view h.number h.digest in_held) (λ _. tt))
  where
    second : (a b : Bool) → a ≡ true → (not a || b) ≡ true → b ≡ true
    second true b e h = h
    second false b e h = absurd cc

takes_allowed : (f : ℕ) (faulty : ℕ → Bool) (w : World) (i : ℕ) (h : Header) → WasSent faulty w h.tag h.sender h.view h.number h.digest → AreAllowed f faulty w (steps_of i (accepting f i (w i).now h))
takes_allowed f faulty w i h authentic = if_allowed f faulty w i (is_acceptable f (w i).now h) (Accepts h ∷ all_said (answers_in f i (h ∷ (w i).now.log) h)) (λ e.
    let s = (w i).now in
    let a = and_parts (is_within s h.view h.number) (not (has_slot s.log h.tag h.sender h.view h.number) && (not (h.tag == 2) || (h.sender == primary f h.view))) e in
    let b = and_parts (not (has_slot s.log h.tag h.sender h.view h.number)) (not (h.tag == 2) || (h.sender == primary f h.view)) a.1 in
    let within = within_is s h.view h.number a.0 in
    let opened : IsOpen s h = record { view = within.view; asked = within.asked; low = within.low; min_s = within.min_s; high = within.high; free = not-true (has_slot s.log h.tag h.sender h.view h.number) b.0 } in
    then_said f faulty w i (Accepts h) (answers_in f i (h ∷ s.log) h) (record { opened = opened; authentic = authentic }) (answers_may f i s h within b.1))

proposes_allowed : (f : ℕ) (faulty : ℕ → Bool) (w : World) (i : ℕ) (d : List ℕ) → AreAllowed f faulty w (steps_of i (proposing f i (w i).now d))
proposes_allowed f faulty w i d =
    let s = (w i).now in
    let n = next_number s in
    let h = vote 2 i s.view n d in
    let hs = cond (f == 0) (commits_in f i (h ∷ s.log) s.view n d) [] in
    if_allowed f faulty w i ((i == primary f s.view) && (is_within s s.view n && not (has_slot s.log 2 i s.view n))) (Says h ∷ all_said hs) (λ e.
    let a = and_parts (i == primary f s.view) (is_within s s.view n && not (has_slot s.log 2 i s.view n)) e in
    let b = and_parts (is_within s s.view n) (not (has_slot s.log 2 i s.view n)) a.1 in
    let within = within_is s s.view n b.0 in
    let held : State = record s { log = h ∷ s.log } in
    let opened : IsOpen s h = record { view = within.view; asked = within.asked; low = within.low; min_s = within.min_s; high = within.high; free = not-true (has_slot s.log 2 i s.view n) b.1 } in
    let over : s.handed < n = omega arith in
    then_said f faulty w i (Says h) hs (record { opened = opened; own = refl; reason = Proposes refl (eqb-true i (primary f s.view) a.0) over })
    (cond_both (f == 0) (commits_in f i (h ∷ s.log) s.view n d) [] (λ (l : List Header). MaySayAll f i held l)
    (λ _. commits_may f i held s.view n d (record { view = within.view; asked = within.asked; low = within.low; min_s = within.min_s; high = within.high })) (λ _. tt)))

raises_allowed : (f : ℕ) (faulty : ℕ → Bool) (w : World) (i n : ℕ) → AreAllowed f faulty w (steps_of i (settling (w i).now n))
raises_allowed f faulty w i n = if_allowed f faulty w i (nat_lt (w i).now.low n) (Drops n ∷ []) (λ e. (ltb-true (w i).now.low n e, tt))

executes_allowed : (f : ℕ) (faulty : ℕ → Bool) (w : World) (i : ℕ) (h : Header) → AreAllowed f faulty w (steps_of i (executing f i (w i).now h))
executes_allowed f faulty w i h = if_allowed f faulty w i (committed f i (w i).now.log h.view h.number h.digest) (Executes h ∷ []) (λ e. (e, tt))

-- Leaving -------------------------------------------------------------------------------------------------------------

-- a candidate for what is prepared
candidate : (f me low : ℕ) (log hs : List Header) (v n : ℕ) (d : List ℕ) → low < n → prepared f me log v n d ≡ true → Told hs 2 (primary f v) v n d
    → (c : Certificate) × IsIn c (candidates f me low log hs) × (c.proposal.number ≡ n) × (c.proposal.view ≡ v)
candidate f me low log [] v n d lt ready x = absurd cc
candidate f me low log (h ∷ hs) v n d lt ready x = cond_both (((h.tag == 2) && (h.sender == primary f h.view)) && (nat_lt low h.number && prepared f me log h.view h.number h.digest))
    (record { proposal = h; prepares = matching log h } ∷ candidates f me low log hs) (candidates f me low log hs) (λ (l : List Certificate). (c : Certificate) × IsIn c l × (c.proposal.number ≡ n) × (c.proposal.view ≡ v))
    (λ e. elim (told_cases h hs 2 (primary f v) v n d x) [
      | inl a ↦ (record { proposal = h; prepares = matching log h }, inl refl, a.number, a.view)
      | inr b ↦ let got = candidate f me low log hs v n d lt ready b in (got.0, inr got.1, got.2, got.3)
    ])
    (λ e. elim (told_cases h hs 2 (primary f v) v n d x) [
      | inl a ↦ absurd (fits a e)
      | inr b ↦ candidate f me low log hs v n d lt ready b
    ])
  where
    fits : Is h 2 (primary f v) v n d → (((h.tag == 2) && (h.sender == primary f h.view)) && (nat_lt low h.number && prepared f me log h.view h.number h.digest)) ≡ false → ⊥
    fits a e =
        let one : (h.tag == 2) ≡ true = eq-eqb h.tag 2 a.tag in
        let two : (h.sender == primary f h.view) ≡ true = eq-eqb h.sender (primary f h.view) (a.sender ∙ ap (primary f) (sym a.view)) in
        let three : nat_lt low h.number ≡ true = lt-ltb low h.number (subst (λ (x : ℕ). low < x) (sym a.number) lt) in
        let at_v : prepared f me log h.view n d ≡ true = subst (λ (x : ℕ). prepared f me log x n d ≡ true) (sym a.view) ready in
        let at_n : prepared f me log h.view h.number d ≡ true = subst (λ (x : ℕ). prepared f me log h.view x d ≡ true) (sym a.number) at_v in
        let four : prepared f me log h.view h.number h.digest ≡ true = subst (λ (x : List ℕ). prepared f me log h.view h.number x ≡ true) (sym a.digest) at_n in
        let all = and_from ((h.tag == 2) && (h.sender == primary f h.view)) (nat_lt low h.number && prepared f me log h.view h.number h.digest)
        (and_from (h.tag == 2) (h.sender == primary f h.view) one two) (and_from (nat_lt low h.number) (prepared f me log h.view h.number h.digest) three four) in
        absurd cc

-- the best of its number is a top
none_higher : (all cs : List Certificate) (b : Certificate) → ((c : Certificate) → IsIn c cs → c.proposal.number ≡ b.proposal.number → c.proposal.view ≤ b.proposal.view)
    → list_any (λ c. (c.proposal.number == b.proposal.number) && nat_lt b.proposal.view c.proposal.view) cs ≡ false
none_higher all [] b h = refl
none_higher all (c ∷ cs) b h = elim (cases_Bool ((c.proposal.number == b.proposal.number) && nat_lt b.proposal.view c.proposal.view)) [
  | inl e ↦
      let a = and_parts (c.proposal.number == b.proposal.number) (nat_lt b.proposal.view c.proposal.view) e in
      let le = h c (inl refl) (eqb-true c.proposal.number b.proposal.number a.0) in
      let lt = ltb-true b.proposal.view c.proposal.view a.1 in
      absurd (omega (arith, le, lt))
  | inr e ↦ both_false ((c.proposal.number == b.proposal.number) && nat_lt b.proposal.view c.proposal.view) (list_any (λ c. (c.proposal.number == b.proposal.number) && nat_lt b.proposal.view c.proposal.view) cs) e
      (none_higher all cs b (λ x i same. h x (inr i) same))
]
  where
    both_false : (a b : Bool) → a ≡ false → b ≡ false → (a || b) ≡ false
    both_false true b e f = e
    both_false false b e f = f

top_stays : (all cs : List Certificate) (b : Certificate) → IsIn b cs → is_highest all b ≡ true → IsIn b (highest_among all cs)
top_stays all [] b h top = absurd h
top_stays all (c ∷ cs) b h top = cond_both (is_highest all c) (c ∷ highest_among all cs) (highest_among all cs) (λ (l : List Certificate). IsIn b l)
    (λ e. elim h [ inl s ↦ inl s | inr i ↦ inr (top_stays all cs b i top) ])
    (λ e. elim h [ inl s ↦ absurd (differ (subst (λ (x : Certificate). is_highest all x ≡ true) s top) e) | inr i ↦ top_stays all cs b i top ])
  where
    differ : {x : Bool} → x ≡ true → x ≡ false → ⊥
    differ p q = absurd cc

top_for : (cs : List Certificate) (c : Certificate) → IsIn c cs → (b : Certificate) × IsIn b (highest_among cs cs) × (b.proposal.number ≡ c.proposal.number) × (c.proposal.view ≤ b.proposal.view)
top_for cs c h =
    let n = c.proposal.number in
    let got = best_is cs n c h refl in
    let b = got.0 in
    let above_all = λ (x : Certificate) (i : IsIn x cs) (same : x.proposal.number ≡ b.proposal.number).
    let other = best_is cs n x i (same ∙ got.3) in
    let one : other.0 ≡ b = some_same other.0 b (sym other.1 ∙ got.1) in
    subst (λ (y : Certificate). x.proposal.view ≤ y.proposal.view) one other.4 in
    let top : is_highest cs b ≡ true = ap not (none_higher cs cs b above_all) in
    (b, top_stays cs cs b got.2 top, got.3, got.4)
  where
    some_same : (x y : Certificate) → Some x ≡ Some y → x ≡ y
    some_same x y e = cc

leaves_allowed : (f : ℕ) (faulty : ℕ → Bool) (w : World) (i : ℕ) → AreAllowed f faulty w (steps_of i (leaving f i (w i).now))
leaves_allowed f faulty w i =
    let s = (w i).now in
    let cs = candidates f i s.low s.log s.log in
    let may : MayLeave f i s (view_change_of f i s (suc (max s.view s.asked))) = record {
      asked = omega arith;
      stable = refl;
      all = λ v n d ready lt.
          let c = candidate f i s.low s.log s.log v n d lt ready (prepared_told f i s.log v n d ready) in
          let top = top_for cs c.0 c.1 in
          let le = top.3 in
          let same = c.3 in
          (top.0, top.1, top.2 ∙ c.2, omega (arith, le, same));
    } in
    (may, tt)

-- Entering ------------------------------------------------------------------------------------------------------------

pub in_told : (hs : List Header) (h : Header) → IsIn h hs → Told hs h.tag h.sender h.view h.number h.digest
in_told [] h i = absurd i
in_told (g ∷ hs) h i = elim i [
  | inl e ↦ subst (λ (x : Header). Told (x ∷ hs) h.tag h.sender h.view h.number h.digest) e (or_left (says h.tag h.sender h.view h.number h.digest h) (told hs h.tag h.sender h.view h.number h.digest) (says_itself h))
  | inr j ↦ told_more g hs h.tag h.sender h.view h.number h.digest (in_told hs h j)
]

all_at : {A : Type 0} (p : A → Bool) (xs : List A) (x : A) → list_all p xs ≡ true → IsIn x xs → p x ≡ true
all_at p [] x e i = absurd i
all_at p (y ∷ xs) x e i =
    let a = and_parts (p y) (list_all p xs) e in
    elim i [ inl s ↦ subst (λ z. p z ≡ true) (sym s) a.0 | inr j ↦ all_at p xs x a.1 j ]

replies_may : (f me : ℕ) (s : State) (hs : List Header) → s.asked ≡ s.view
    → ((h : Header) → IsIn h hs → (h.view ≡ s.view) × (s.min_s < h.number) × (s.low < h.number → h.number ≤ s.low + 32 → Told s.log 2 (primary f h.view) h.view h.number h.digest))
    → MaySayAll f me s (entry_answers f me s.low s.log hs)
replies_may f me s [] asked all = tt
replies_may f me s (h ∷ hs) asked all =
    let backs = votes_in f me s.log h.view h.number h.digest in
    let rest = λ (x : Header) (i : IsIn x hs). all x (inr i) in
    cond_both (nat_lt s.low h.number && nat_le h.number (s.low + 32)) (backs ++ entry_answers f me s.low (with_said backs s.log) hs) (entry_answers f me s.low s.log hs) (λ (l : List Header). MaySayAll f me s l)
    (λ e.
    let a = and_parts (nat_lt s.low h.number) (nat_le h.number (s.low + 32)) e in
    let here = all h (inl refl) in
    let low = ltb-true s.low h.number a.0 in
    let high = leb-true h.number (s.low + 32) a.1 in
    let within : Within s h.view h.number = record { view = here.0; asked = asked; low = low; min_s = here.1; high = high } in
    say_join f me s backs (entry_answers f me s.low (with_said backs s.log) hs) (backs_may f me s h.view h.number h.digest within (here.2 low high))
    (replies_may f me (record s { log = with_said backs s.log }) hs asked
    (λ x i. let r = rest x i in (r.0, r.1, λ lo hi. joined_more backs s.log 2 (primary f x.view) x.view x.number x.digest (r.2 lo hi)))))
    (λ _. replies_may f me s hs asked rest)

enters_allowed : (f : ℕ) (null : List ℕ) (faulty : ℕ → Bool) (w : World) (i v : ℕ) (ms : List ViewChange) → IsAuthentic faulty w (ChangesView v ms) → AreAllowed f faulty w (steps_of i (entering f null i (w i).now v ms))
enters_allowed f null faulty w i v ms authentic =
    let s = (w i).now in
    let r = chosen f v null ms in
    if_allowed f faulty w i (nat_lt s.view v && (nat_le s.asked v && is_new_view f v ms)) (Enters r ∷ all_said (entry_answers f i s.low (taken_in s.low r.proposals s.log) r.proposals)) (λ e.
    let a = and_parts (nat_lt s.view v) (nat_le s.asked v && is_new_view f v ms) e in
    let b = and_parts (nat_le s.asked v) (is_new_view f v ms) a.1 in
    let c = and_parts (list_all (is_valid_change f v) ms) (nat_le (2 * f + 1) (count_below (λ k. list_any (λ m. m.sender == k) ms) (replicas f))) b.1 in
    let valid = λ (m : ViewChange) (at_m : IsIn m ms). and_parts (m.view == v)
    (list_all (λ c. nat_lt c.proposal.view v && is_backed f (c.proposal ∷ c.prepares) c.proposal.view c.proposal.number c.proposal.digest) m.certificates) (all_at (is_valid_change f v) ms m c.0 at_m) in
    let certified = λ (m : ViewChange) (at_m : IsIn m ms) (x : Certificate) (at_x : IsIn x m.certificates).
    and_parts (nat_lt x.proposal.view v) (is_backed f (x.proposal ∷ x.prepares) x.proposal.view x.proposal.number x.proposal.digest)
    (all_at (λ c. nat_lt c.proposal.view v && is_backed f (c.proposal ∷ c.prepares) c.proposal.view c.proposal.number c.proposal.digest) m.certificates x (valid m at_m).1 at_x) in
    let choice = choice_is_by_its_rule f v null ms in
    let new : IsValidNewView f faulty w r = record {
      senders = leb-true (2 * f + 1) (count_below (λ k. list_any (λ m. m.sender == k) ms) (replicas f)) c.1;
      views = λ m at_m. eqb-true m.view v (valid m at_m).0;
      sent = λ m at_m correct. (authentic m at_m).0 correct;
      valid = λ m x at_m at_x. record {
        earlier = ltb-true x.proposal.view v (certified m at_m x at_x).0;
        backed = (certified m at_m x at_x).1;
        authentic = λ t k y n d h. (authentic m at_m).1 x at_x t k y n d h;
      };
      choice = choice;
    } in
    then_said f faulty w i (Enters r) (entry_answers f i s.low (taken_in s.low r.proposals s.log) r.proposals)
    (record { above = ltb-true s.view v a.0; asked = leb-true s.asked v b.0; valid = new })
    (replies_may f i (after_move f i (w i) (Enters r)).now r.proposals refl (λ h at_h.
    let there = in_told r.proposals h at_h in
    let kinds = choice.kinds h.tag h.sender h.view h.number h.digest there in
    let two : Told r.proposals 2 h.sender h.view h.number h.digest = subst (λ (t : ℕ). Told r.proposals t h.sender h.view h.number h.digest) kinds.0 there in
    let from : Told r.proposals 2 (primary f h.view) h.view h.number h.digest = subst (λ (k : ℕ). Told r.proposals 2 k h.view h.number h.digest) (kinds.1 ∙ ap (primary f) (sym kinds.2)) two in
    (kinds.2, (choice.within h.sender h.view h.number h.digest two).0, λ lo hi. handed_taken s.low r.proposals s.log 2 (primary f h.view) h.view h.number h.digest lo hi from))))

-- Every list of calls ---------------------------------------------------------------------------------------------------

pub allowed : (f : ℕ) (null : List ℕ) (faulty : ℕ → Bool) (w : World) (i : ℕ) (c : HeaderCall) → IsAuthentic faulty w c → AreAllowed f faulty w (steps_of i (moves_of f null i (w i).now c))
allowed f null faulty w i (Receives h) authentic = takes_allowed f faulty w i h authentic
allowed f null faulty w i (Orders d) authentic = proposes_allowed f faulty w i d
allowed f null faulty w i (Settles n) authentic = raises_allowed f faulty w i n
allowed f null faulty w i TimesOut authentic = leaves_allowed f faulty w i
allowed f null faulty w i (ChangesView v ms) authentic = enters_allowed f null faulty w i v ms authentic
allowed f null faulty w i (Runs h) authentic = executes_allowed f faulty w i h

turns_sound : (f : ℕ) (null : List ℕ) (faulty : ℕ → Bool) (w : World) (list : List HeaderTurn) → Sound f faulty w → AreAuthentic f null faulty w list → Sound f faulty (after_header_turns f null w list)
turns_sound f null faulty w [] sound all = sound
turns_sound f null faulty w (turn ∷ list) sound all =
    turns_sound f null faulty (after_header_turn f null w turn) list
    (run_sound f faulty w (steps_of turn.who (moves_of f null turn.who (w turn.who).now turn.call)) sound (allowed f null faulty w turn.who turn.call all.0)) all.1

always_sound : (f : ℕ) (null : List ℕ) (faulty : ℕ → Bool) (turns : List HeaderTurn) → AreAuthentic f null faulty new_world turns → Sound f faulty (after_header_turns f null new_world turns)
always_sound f null faulty turns all = turns_sound f null faulty new_world turns (start_sound f faulty) all

pub calls_agree : QuorumsMeet → CallsAgree
calls_agree meet f null faulty turns few all i j x y left right same =
    same_executed f faulty (after_header_turns f null new_world turns) (quorums_share meet f faulty few) (always_sound f null faulty turns all) i j x y left right same

pub batches_agree : CallsAgree → BatchesAgree
batches_agree agree f null faulty turns few all hash i j x y text text' left right same one other differ =
    differ (sym one ∙ agree f null faulty turns few all i j x y left right same ∙ other)

-- In one view ----------------------------------------------------------------------------------------------------------

pub says_one_digest : SaysOneDigest
says_one_digest f null faulty turns all = one_digest f faulty (after_header_turns f null new_world turns) (always_sound f null faulty turns all)

pub executes_committed : ExecutesCommitted
executes_committed f null faulty turns all k x h =
    let got = ((always_sound f null faulty turns all).executions k x h).0 in
    let v = x.proposal.view in
    let n = x.proposal.number in
    let d = x.proposal.digest in
    let parts = and_parts (prepared f k x.log v n d) (nat_le (2 * f + 1) (tellers f x.log 4 v n d) && told x.log 4 k v n d) got in
    let enough = and_parts (nat_le (2 * f + 1) (tellers f x.log 4 v n d)) (told x.log 4 k v n d) parts.1 in
    (got, leb-true (2 * f + 1) (tellers f x.log 4 v n d) enough.0)

pub agrees_in_view : CallsAgree → AgreesInView
agrees_in_view agree f null faulty turns few all i j v n x y left right one other first second = agree f null faulty turns few all i j x y left right (first ∙ sym second)
