-- The calls and deliveries of replicas, each of them a list of moves.
use Rattle.std.specs.Prelude.{◌≡◌, ℕ, suc, ◌+◌, ◌*◌, ◌==◌, max, Bool, false, ◌&&◌, ◌||◌, not, List, [], ◌∷◌, ◌++◌, nat_lt, nat_le, if◌then◌else◌}
use Rattle.std.specs.List.{list_any, list_all}
use Rattle.bfs_votes.specs.Votes.{Header, has_slot, is_taken, Told, count_below, replicas, primary, is_backed, prepared, committed}
use Rattle.bfs_agreement.specs.Histories.{IsIn, Certificate, ViewChange, State, World, WasSent}
use Rattle.bfs_agreement.specs.Moves.{Move, Accepts, Says, Drops, Leaves, Enters, Executes, taken_in, Step, after_steps}
use Rattle.bfs_agreement.specs.Choice.{chosen}
use Rattle.bfs_votes.specs.Tags.{commit_tag, pre_prepare_tag, prepare_tag}

abbrev pub vote : (tag sender view number : ℕ) → List ℕ → Header
vote tag sender view number digest = record { tag = tag; sender = sender; view = view; number = number; digest = digest }

-- in the view entered, none later asked for, within the marks
abbrev pub is_within : State → (view number : ℕ) → Bool
is_within s view number =
    (view == s.view) && ((s.asked == s.view) && (nat_lt s.low number && (nat_lt s.min_s number && nat_le number (s.low + 32))))

-- a message of its own, where it has said none of that kind in that view and of that number
abbrev pub said_once : List Header → Header → List Header
said_once log h = if is_taken log h then [] else h ∷ []

-- the log when these are said too
abbrev pub with_said : List Header → List Header → List Header
with_said [] log = log
with_said (h ∷ hs) log = with_said hs (h ∷ log)

-- the primary sends none
abbrev pub prepares_in : (f me : ℕ) → List Header → (view number : ℕ) → List ℕ → List Header
prepares_in f me log view number digest = if me == primary f view then [] else said_once log (vote prepare_tag me view number digest)

-- once it is prepared
abbrev pub commits_in : (f me : ℕ) → List Header → (view number : ℕ) → List ℕ → List Header
commits_in f me log view number digest = if prepared f me log view number digest then said_once log (vote commit_tag me view number digest) else []

-- to a PRE-PREPARE
abbrev pub votes_in : (f me : ℕ) → List Header → (view number : ℕ) → List ℕ → List Header
votes_in f me log view number digest =
    prepares_in f me log view number digest
    ++ commits_in f me (with_said (prepares_in f me log view number digest) log) view number digest

-- to a PRE-PREPARE and a PREPARE
abbrev pub answers_in : (f me : ℕ) → List Header → Header → List Header
answers_in f me log h =
    if h.tag == pre_prepare_tag then votes_in f me log h.view h.number h.digest else
    (if h.tag == prepare_tag then commits_in f me log h.view h.number h.digest else [])

abbrev pub all_said : List Header → List Move
all_said [] = []
all_said (h ∷ hs) = Says h ∷ all_said hs

-- the test of a message whose authenticator passes (OSDI 1999 section 4.2)
abbrev pub is_acceptable : (f : ℕ) → State → Header → Bool
is_acceptable f s h = is_within s h.view h.number && (not (is_taken s.log h) && (not (h.tag == pre_prepare_tag) || (h.sender == primary f h.view)))

abbrev pub accepting : (f me : ℕ) → State → Header → List Move
accepting f me s h = if is_acceptable f s h then Accepts h ∷ all_said (answers_in f me (h ∷ s.log) h) else []

-- the greatest number with a PRE-PREPARE in a view
abbrev pub greatest_proposed : List Header → (view : ℕ) → ℕ
greatest_proposed [] view = 0
greatest_proposed (h ∷ log) view =
    if (h.tag == pre_prepare_tag) && (h.view == view) then max h.number (greatest_proposed log view) else greatest_proposed log view

abbrev pub next_number : State → ℕ
next_number s = suc (max (greatest_proposed s.log s.view) (max s.handed (max s.low s.min_s)))

-- the primary proposes a batch with that digest; where there is no other replica, it is prepared at once
abbrev pub proposing : (f me : ℕ) → State → (digest : List ℕ) → List Move
proposing f me s digest =
    let number = next_number s in
    let h = vote pre_prepare_tag me s.view number digest in
    if (me == primary f s.view) && (is_within s s.view number && not (has_slot s.log pre_prepare_tag me s.view number))
    then Says h ∷ all_said (if f == 0 then commits_in f me (h ∷ s.log) s.view number digest else [])
    else []

-- the PREPAREs that match a PRE-PREPARE
abbrev pub matching : List Header → Header → List Header
matching [] h = []
matching (p ∷ log) h = if (p.tag == prepare_tag) && ((p.view == h.view) && (p.number == h.number)) then p ∷ matching log h else matching log h

-- certificates of all that is prepared above the low mark
abbrev pub candidates : (f me low : ℕ) → (log hs : List Header) → List Certificate
candidates f me low log [] = []
candidates f me low log (h ∷ hs) =
    if ((h.tag == pre_prepare_tag) && (h.sender == primary f h.view)) && (nat_lt low h.number && prepared f me log h.view h.number h.digest)
    then record { proposal = h; prepares = matching log h } ∷ candidates f me low log hs
    else candidates f me low log hs

-- no other of the number has a higher view
abbrev pub is_highest : List Certificate → Certificate → Bool
is_highest cs c = not (list_any (λ b. (b.proposal.number == c.proposal.number) && nat_lt c.proposal.view b.proposal.view) cs)

abbrev pub highest_among : (all cs : List Certificate) → List Certificate
highest_among all [] = []
highest_among all (c ∷ cs) = if is_highest all c then c ∷ highest_among all cs else highest_among all cs

abbrev pub view_change_of : (f me : ℕ) → State → (view : ℕ) → ViewChange
view_change_of f me s view =
    record {
      sender = me;
      view = view;
      stable = s.low;
      certificates = highest_among (candidates f me s.low s.log s.log) (candidates f me s.low s.log s.log);
    }

-- a timeout: the VIEW-CHANGE is sent and the view left in one step
abbrev pub leaving : (f me : ℕ) → State → List Move
leaving f me s = Leaves (view_change_of f me s (suc (max s.view s.asked))) ∷ []

-- what makes VIEW-CHANGEs a NEW-VIEW, but for authenticators (OSDI 1999 section 4.4)
abbrev pub is_valid_change : (f view : ℕ) → ViewChange → Bool
is_valid_change f view m =
    (m.view == view)
    && list_all (λ c. nat_lt c.proposal.view view && is_backed f (c.proposal ∷ c.prepares) c.proposal.view c.proposal.number c.proposal.digest)
    m.certificates

abbrev pub is_new_view : (f view : ℕ) → List ViewChange → Bool
is_new_view f view ms =
    list_all (is_valid_change f view) ms && nat_le (2 * f + 1) (count_below (λ k. list_any (λ m. m.sender == k) ms) (replicas f))

-- the answers to what is handed over
abbrev pub entry_answers : (f me low : ℕ) → (log handed : List Header) → List Header
entry_answers f me low log [] = []
entry_answers f me low log (h ∷ hs) =
    if nat_lt low h.number && nat_le h.number (low + 32)
    then votes_in f me log h.view h.number h.digest
    ++ entry_answers f me low (with_said (votes_in f me log h.view h.number h.digest) log) hs
    else entry_answers f me low log hs

-- by a NEW-VIEW with these VIEW-CHANGEs, of another or its own: each replica makes the choice itself
abbrev pub entering : (f : ℕ) (null : List ℕ) (me : ℕ) → State → (view : ℕ) → List ViewChange → List Move
entering f null me s view ms =
    let r = chosen f view null ms in
    if nat_lt s.view view && (nat_le s.asked view && is_new_view f view ms)
    then Enters r ∷ all_said (entry_answers f me s.low (taken_in s.low r.proposals s.log) r.proposals)
    else []

abbrev pub executing : (f me : ℕ) → State → Header → List Move
executing f me s h = if committed f me s.log h.view h.number h.digest then Executes h ∷ [] else []

abbrev pub settling : State → (number : ℕ) → List Move
settling s number = if nat_lt s.low number then Drops number ∷ [] else []

pub data HeaderCall : Type 0 where
  -- a PRE-PREPARE, PREPARE or COMMIT whose authenticator passes comes
  Receives : Header → HeaderCall
  -- a batch with that digest is proposed
  Orders : (digest : List ℕ) → HeaderCall
  -- a CHECKPOINT comes, is told or is installed that makes the number stable
  Settles : (number : ℕ) → HeaderCall
  TimesOut : HeaderCall
  -- a NEW-VIEW comes, or it makes one
  ChangesView : (view : ℕ) → List ViewChange → HeaderCall
  -- any header that the log has committed, in any order
  Runs : Header → HeaderCall

abbrev pub moves_of : (f : ℕ) (null : List ℕ) (me : ℕ) → State → HeaderCall → List Move
moves_of f null me s (Receives h) = accepting f me s h
moves_of f null me s (Orders digest) = proposing f me s digest
moves_of f null me s (Settles number) = settling s number
moves_of f null me s TimesOut = leaving f me s
moves_of f null me s (ChangesView view ms) = entering f null me s view ms
moves_of f null me s (Runs h) = executing f me s h

-- what passes under a correct sender's name was sent by it: that is all that is asked of the network
abbrev pub IsAuthentic : (faulty : ℕ → Bool) → World → HeaderCall → Type 0
IsAuthentic faulty w (Receives h) = WasSent faulty w h.tag h.sender h.view h.number h.digest
IsAuthentic faulty w (Orders digest) = Unit {0}
IsAuthentic faulty w (Settles number) = Unit {0}
IsAuthentic faulty w TimesOut = Unit {0}
IsAuthentic faulty w (ChangesView v ms) = (m : ViewChange) → IsIn m ms → (faulty m.sender ≡ false → IsIn m (w m.sender).changes)
    × ((c : Certificate) → IsIn c m.certificates → (tag sender view number : ℕ) (digest : List ℕ)
    → Told (c.proposal ∷ c.prepares) tag sender view number digest → WasSent faulty w tag sender view number digest)
IsAuthentic faulty w (Runs h) = Unit {0}

-- a call of one replica
pub record HeaderTurn : Type 0 where
  pub who : ℕ
  pub call : HeaderCall

abbrev pub steps_of : (who : ℕ) → List Move → List Step
steps_of who [] = []
steps_of who (move ∷ moves) = record { who = who; move = move } ∷ steps_of who moves

abbrev pub after_header_turn : (f : ℕ) (null : List ℕ) → World → HeaderTurn → World
after_header_turn f null w turn = after_steps f w (steps_of turn.who (moves_of f null turn.who (w turn.who).now turn.call))

abbrev pub after_header_turns : (f : ℕ) (null : List ℕ) → World → List HeaderTurn → World
after_header_turns f null w [] = w
after_header_turns f null w (turn ∷ turns) = after_header_turns f null (after_header_turn f null w turn) turns

abbrev pub AreAuthentic : (f : ℕ) (null : List ℕ) (faulty : ℕ → Bool) → World → List HeaderTurn → Type 0
AreAuthentic f null faulty w [] = Unit {0}
AreAuthentic f null faulty w (turn ∷ turns) = IsAuthentic faulty w turn.call × AreAuthentic f null faulty (after_header_turn f null w turn) turns
