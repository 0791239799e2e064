-- A run with a view change, in which the premises of the laws hold: of four replicas, without replica 3, replica 1 executes number 1 in
-- view 0, and after a view change replica 2 executes it in view 1. And one where a premise does not hold: two replicas execute two digests.
use Rattle.std.specs.Prelude.{◌≡◌, ℕ, ◌+◌, ◌*◌, ◌≤◌, Bool, List, [], ◌∷◌, ◌++◌, map, ◌==◌, ◌||◌}
use Rattle.bfs_votes.specs.Votes.{Header, count_below, replicas}
use Rattle.bfs_agreement.specs.Histories.{IsIn, ViewChange, Executed, FewAreFaulty}
use Rattle.bfs_agreement.specs.Moves.{new_world}
use Rattle.bfs_agreement.specs.Calls.{vote, HeaderCall, Receives, Orders, TimesOut, ChangesView, Runs, HeaderTurn, after_header_turns, AreAuthentic}
use Rattle.bfs_agreement.specs.Nodes.{has_checkpoint, Service, Snapshot, ServiceNodes, ServiceCall, Calls, Continues, Reports, Adopts, after_service_call, ServiceTurn, with_node, after_service_turns, MayTakeServiceTurns, new_nodes}
use Rattle.bfs_votes.specs.Tags.{commit_tag, pre_prepare_tag, prepare_tag}

abbrev pub silent : ℕ → Bool
silent k = k == 3

-- the digest of the batch
abbrev pub digest : List ℕ
digest = 7 ∷ []

-- what the replica says of number 1 in a view
abbrev pub saying : (tag sender view : ℕ) → Header
saying tag sender view = vote tag sender view 1 digest

abbrev pub of : ℕ → HeaderCall → HeaderTurn
of i call = record { who = i; call = call }

abbrev pub in_view_0 : List HeaderTurn
in_view_0 =
    of 0 (Orders digest)
    ∷ of 1 (Receives (saying pre_prepare_tag 0 0)) ∷ of 2 (Receives (saying pre_prepare_tag 0 0))
    ∷ of 1 (Receives (saying prepare_tag 2 0)) ∷ of 2 (Receives (saying prepare_tag 1 0))
    ∷ of 0 (Receives (saying prepare_tag 1 0)) ∷ of 0 (Receives (saying prepare_tag 2 0))
    ∷ of 1 (Receives (saying commit_tag 0 0)) ∷ of 1 (Receives (saying commit_tag 2 0))
    ∷ of 1 (Runs (saying pre_prepare_tag 0 0))
    ∷ []

-- the VIEW-CHANGE of a replica that has number 1 prepared
abbrev pub change_of : (sender one two : ℕ) → ViewChange
change_of sender one two =
    record {
      sender = sender;
      view = 1;
      stable = 0;
      certificates = record { proposal = saying pre_prepare_tag 0 0; prepares = saying prepare_tag one 0 ∷ saying prepare_tag two 0 ∷ [] } ∷ [];
    }

abbrev pub the_changes : List ViewChange
the_changes = change_of 0 2 1 ∷ change_of 1 2 1 ∷ change_of 2 1 2 ∷ []

abbrev pub in_view_1 : List HeaderTurn
in_view_1 =
    of 0 TimesOut ∷ of 1 TimesOut ∷ of 2 TimesOut
    ∷ of 1 (ChangesView 1 the_changes) ∷ of 2 (ChangesView 1 the_changes) ∷ of 0 (ChangesView 1 the_changes)
    ∷ of 1 (Receives (saying prepare_tag 2 1)) ∷ of 1 (Receives (saying prepare_tag 0 1))
    ∷ of 2 (Receives (saying prepare_tag 0 1)) ∷ of 0 (Receives (saying prepare_tag 2 1))
    ∷ of 2 (Receives (saying commit_tag 0 1)) ∷ of 2 (Receives (saying commit_tag 1 1))
    ∷ of 2 (Runs (saying pre_prepare_tag 1 1))
    ∷ []

abbrev pub RunsInTwoViews : Type 0
RunsInTwoViews = Executed (after_header_turns 1 [] new_world (in_view_0 ++ in_view_1) 1) (saying pre_prepare_tag 0 0)
    × Executed (after_header_turns 1 [] new_world (in_view_0 ++ in_view_1) 2) (saying pre_prepare_tag 1 1)

-- such calls and deliveries as the laws speak of
abbrev pub IsARun : Type 0
IsARun = FewAreFaulty 1 silent × AreAuthentic 1 [] silent new_world (in_view_0 ++ in_view_1) × RunsInTwoViews

-- what agreement says of it
abbrev pub RunsAgree : Type 0
RunsAgree = (saying pre_prepare_tag 0 0).digest ≡ (saying pre_prepare_tag 1 1).digest

-- Where a premise does not hold ---------------------------------------------------------------------------------------------

-- the primary and replica 3 each say one digest to one replica, and another to another one
abbrev pub told_to : (i : ℕ) → List ℕ → List HeaderTurn
told_to i d =
    of i (Receives (vote pre_prepare_tag 0 0 1 d)) ∷ of i (Receives (vote prepare_tag 3 0 1 d))
    ∷ of i (Receives (vote commit_tag 0 0 1 d)) ∷ of i (Receives (vote commit_tag 3 0 1 d))
    ∷ of i (Runs (vote pre_prepare_tag 0 0 1 d))
    ∷ []

abbrev pub other_digest : List ℕ
other_digest = 8 ∷ []

abbrev pub in_two_tongues : List HeaderTurn
in_two_tongues = told_to 1 digest ++ told_to 2 other_digest

abbrev pub ExecutesTwoDigests : Type 0
ExecutesTwoDigests = Executed (after_header_turns 1 [] new_world in_two_tongues 1) (vote pre_prepare_tag 0 0 1 digest)
    × Executed (after_header_turns 1 [] new_world in_two_tongues 2) (vote pre_prepare_tag 0 0 1 other_digest)
    × (digest ≡ other_digest → ⊥)

abbrev pub two_liars : ℕ → Bool
two_liars k = (k == 0) || (k == 3)

-- all is authentic, but two of four are faulty
abbrev pub NeedsFewFaulty : Type 0
NeedsFewFaulty = (count_below two_liars (replicas 1) ≡ 2) × AreAuthentic 1 [] two_liars new_world in_two_tongues × ExecutesTwoDigests

abbrev pub lying_primary : ℕ → Bool
lying_primary k = k == 0

-- only the primary is faulty, but what comes under the name of replica 3 was not sent by it
abbrev pub NeedsAuthenticity : Type 0
NeedsAuthenticity = FewAreFaulty 1 lying_primary × ExecutesTwoDigests

-- a hash that gives all texts one digest
abbrev pub one_for_all : (text : List ℕ) → List ℕ
one_for_all text = digest

abbrev pub text : List ℕ
text = 1 ∷ []

abbrev pub other_text : List ℕ
other_text = 2 ∷ []

-- replicas of which the other premises hold execute the digest of two texts
abbrev pub NeedsDistinctDigests : Type 0
NeedsDistinctDigests = IsARun
    × ((saying pre_prepare_tag 0 0).digest ≡ one_for_all text) × ((saying pre_prepare_tag 1 1).digest ≡ one_for_all other_text) × (text ≡ other_text → ⊥)

-- a service of which all states have one digest
abbrev pub all_alike : Service
all_alike = record { first = []; next = λ state batch. text; hash = one_for_all }

abbrev pub by : ℕ → ServiceCall → ServiceTurn
by i call = record { who = i; call = call }

abbrev pub called : HeaderTurn → ServiceTurn
called turn = by turn.who (Calls turn.call)

-- replicas 1 and 2 execute number 1, and tell what they are then
abbrev pub up_to_checkpoints : List ServiceTurn
up_to_checkpoints =
    map called in_view_0
    ++ by 1 (Continues (saying pre_prepare_tag 0 0)) ∷ by 1 Reports
    ∷ by 2 (Calls (Receives (saying commit_tag 0 0))) ∷ by 2 (Calls (Receives (saying commit_tag 1 0)))
    ∷ by 2 (Continues (saying pre_prepare_tag 0 0)) ∷ by 2 Reports
    ∷ []

abbrev pub at_checkpoints : ServiceNodes
at_checkpoints = after_service_turns all_alike 1 [] (new_nodes all_alike) up_to_checkpoints

abbrev pub other_state : Snapshot
other_state = record { number = 1; state = other_text }

abbrev pub after_adoption : ServiceNodes
after_adoption = with_node at_checkpoints 0 (after_service_call all_alike 1 [] 0 (at_checkpoints 0) (Adopts other_state))

-- replica 0 adopts another state than theirs, by CHECKPOINTs of their digest
abbrev pub NeedsDistinctStates : Type 0
NeedsDistinctStates = FewAreFaulty 1 silent × MayTakeServiceTurns all_alike 1 [] silent (new_nodes all_alike) up_to_checkpoints
    × (2 * 1 + 1 ≤ count_below (λ k. silent k || has_checkpoint (at_checkpoints k).checkpoints 1 (one_for_all other_text)) (replicas 1))
    × IsIn (record { number = 1; state = text }) (after_adoption 1).reached × IsIn other_state (after_adoption 0).reached × (text ≡ other_text → ⊥)
