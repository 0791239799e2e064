-- What footprints tell of requests, which are bytes: a refused one touches nothing.
use Rattle.std.proofs.Common.{◌≡◌, ℕ, true, Option, Some, None, Result, Ok, Err, refl, ap}
use Rattle.std.specs.FinMap.{get}
use Rattle.bfs_model.specs.Server.Tree.{Time, Inodes}
use Rattle.bfs_model.specs.Server.Context.{Context}
use Rattle.bfs_model.specs.Bytes.Call.{Request, Refusal, call_of}
use Rattle.bfs_model.specs.Bytes.Arguments.{Call, arguments_of}
use Rattle.bfs_model.specs.Server.WellFormed.{IsTree}
use Rattle.bfs_model.specs.Server.Serial.{in_success, answer_arguments, answer_call, answer}
use Rattle.bfs_model.specs.Server.Footprints.{Footprint, IsFreshFor, footprint, footprint_of_arguments, footprint_of_call, footprint_of}
use Rattle.bfs_model.specs.Server.Conflicts.{among, is_touched, resolved_in, resolved_in_arguments, resolved_in_call, AgreeOn, outcome_on}
use Rattle.bfs_model.specs.Laws.Footprints.{RequestsKeepToFootprints, RequestFootprintsAgree, RequestFootprintsStay, RequestsKeepTrees, ResolvedIsTouchedByRequests, RequestsCommute}
use Rattle.bfs_model.specs.Laws.Overtaking.{Asked, answered}
use Rattle.bfs_model.proofs.Footprints.Agreement.{calls_keep_to_footprints}
use Rattle.bfs_model.proofs.Footprints.Apart as apart
use Rattle.bfs_model.proofs.Footprints.Own.{footprints_agree, footprints_follow, resolved_is_touched}
use Rattle.bfs_model.proofs.Footprints.Stable.{moved_kind}
use Rattle.bfs_model.proofs.Added.{types_kept}
use Rattle.bfs_model.proofs.WellFormed.Trees.{tree_kept}

abbrev under : (ordinal : ℕ) → Time → Request → Context
under o t request = record { ordinal = o; time = t; caller = request.credential }

module _ (m others : Inodes) (o : ℕ) (t : Time) where
  -- the outcome is the same, and so is the footprint
  arguments_sound : (request : Request) (call : Option Call) → AgreeOn (footprint_of_arguments m o t request call) m others
      → (answer_arguments others o t request call ≡ outcome_on (footprint_of_arguments m o t request call) others (answer_arguments m o t request call))
      × (footprint_of_arguments others o t request call ≡ footprint_of_arguments m o t request call)
  arguments_sound request None agree = (refl, refl)
  arguments_sound request (Some call) agree = (ap (in_success request.xid) (calls_keep_to_footprints m others (under o t request) call agree), footprints_agree m others (under o t request) call agree)

  call_sound : (call : Result Request Refusal) → AgreeOn (footprint_of_call m o t call) m others
      → (answer_call others o t call ≡ outcome_on (footprint_of_call m o t call) others (answer_call m o t call)) × (footprint_of_call others o t call ≡ footprint_of_call m o t call)
  call_sound (Err refusal) agree = (refl, refl)
  call_sound (Ok request) agree = arguments_sound request (arguments_of request.procedure request.arguments) agree

pub requests_keep_to_footprints : RequestsKeepToFootprints
unfolding answer
requests_keep_to_footprints m others o t bytes agree = (call_sound m others o t (call_of bytes) agree).0

pub request_footprints_agree : RequestFootprintsAgree
request_footprints_agree m others o t bytes agree = (call_sound m others o t (call_of bytes) agree).1

-- Footprints that stay -------------------------------------------------------------------------------------------------------

-- a tree, on which every call that resolves names where two maps are the same has the same footprint as on the other one
record KeepsFootprints (m n : Inodes) : Type 0 where
  tree : IsTree n
  keeps : (c : Context) (call : Call) → ((id : ℕ) → among (resolved_in call) id ≡ true → get n id ≡ get m id) → footprint n c call ≡ footprint m c call

module _ (m n : Inodes) (kept : KeepsFootprints m n) (o : ℕ) (t : Time) where
  arguments_stay : (request : Request) (call : Option Call) → ((id : ℕ) → among (resolved_in_arguments call) id ≡ true → get n id ≡ get m id) → footprint_of_arguments n o t request call ≡ footprint_of_arguments m o t request call
  arguments_stay request None same = refl
  arguments_stay request (Some call) same = kept.keeps (under o t request) call same

  call_stays : (call : Result Request Refusal) → ((id : ℕ) → among (resolved_in_call call) id ≡ true → get n id ≡ get m id) → footprint_of_call n o t call ≡ footprint_of_call m o t call
  call_stays (Err refusal) same = refl
  call_stays (Ok request) same = arguments_stay request (arguments_of request.procedure request.arguments) same

kept_itself : (m : Inodes) → IsTree m → KeepsFootprints m m
kept_itself m tree = record { tree = tree; keeps = λ c call same. refl }

module _ (m : Inodes) (o : ℕ) (t : Time) (tree : IsTree m) where
  done_keeps : (request : Request) (call : Option Call) → IsFreshFor m o (footprint_of_arguments m o t request call) → KeepsFootprints m (answer_arguments m o t request call).0
  done_keeps request None fresh = kept_itself m tree
  done_keeps request (Some call) fresh = record {
    tree = tree_kept m (under o t request) call fresh tree;
    keeps = λ later other same.
        footprints_follow m (answer_arguments m o t request (Some call)).0 later other same
        (moved_kind m (answer_arguments m o t request (Some call)).0 tree (tree_kept m (under o t request) call fresh tree) (types_kept m (under o t request) call fresh) other same);
  }

  answered_keeps : (call : Result Request Refusal) → IsFreshFor m o (footprint_of_call m o t call) → KeepsFootprints m (answer_call m o t call).0
  answered_keeps (Err refusal) fresh = kept_itself m tree
  answered_keeps (Ok request) fresh = done_keeps request (arguments_of request.procedure request.arguments) fresh

pub requests_keep_trees : RequestsKeepTrees
unfolding answer
requests_keep_trees m o t bytes tree fresh = (answered_keeps m o t tree (call_of bytes) fresh).tree

module _ (m : Inodes) (o : ℕ) (t : Time) (id : ℕ) where
  arguments_touch : (request : Request) (call : Option Call) → among (resolved_in_arguments call) id ≡ true → is_touched (footprint_of_arguments m o t request call) id ≡ true
  arguments_touch request None is = absurd cc
  arguments_touch request (Some call) is = resolved_is_touched m (under o t request) call id is

  call_touches : (call : Result Request Refusal) → among (resolved_in_call call) id ≡ true → is_touched (footprint_of_call m o t call) id ≡ true
  call_touches (Err refusal) is = absurd cc
  call_touches (Ok request) is = arguments_touch request (arguments_of request.procedure request.arguments) is

pub resolved_is_touched_by_requests : ResolvedIsTouchedByRequests
resolved_is_touched_by_requests m o t bytes id is = call_touches m o t id (call_of bytes) is

-- Requests as calls ------------------------------------------------------------------------------------------------------------

abbrev pub feet : Asked → Inodes → Footprint
feet asked m = footprint_of m asked.ordinal asked.time asked.bytes

pub sound : (asked : Asked) (m others : Inodes) → AgreeOn (feet asked m) m others → answered asked others ≡ outcome_on (feet asked m) others (answered asked m)
sound asked m others = requests_keep_to_footprints m others asked.ordinal asked.time asked.bytes

pub requests_commute : RequestsCommute
requests_commute m t o bytes later other none = apart.commute answered feet sound (record { ordinal = o; time = t; bytes = bytes }) (record { ordinal = later; time = t; bytes = other }) m none

pub request_footprints_stay : RequestFootprintsStay
unfolding answer
request_footprints_stay m o t bytes later now other tree fresh leaves =
    call_stays m (answer_call m o t (call_of bytes)).0 (answered_keeps m o t tree (call_of bytes) fresh) later now (call_of other)
    (λ id is. apart.stays answered feet sound (record { ordinal = o; time = t; bytes = bytes }) m id (leaves id is))
