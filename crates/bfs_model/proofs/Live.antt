-- What batches keep of a live file system, and how its replies are read back; that calls keep it well formed is given.
use Rattle.std.proofs.Common.{◌≡◌, ℕ, ◌+◌, ◌<◌, Bool, true, false, cond, List, [], ◌∷◌, All, Option, Some, None, Result, Ok, Err, refl, subst, arith}
use Rattle.std.specs.Prelude.{nat_lt, IfSome}
use Rattle.std.proofs.lemmas.Bool.{ltb-true}
use Rattle.std.proofs.lemmas.List.Elements.{All-head, All-tail}
use Rattle.std.specs.FinMap.{empty}
use Rattle.bfs_model.specs.Server.Tree.{Time, Inodes, FileSystem, root_id, new_root, new_tree, new_file_system}
use Rattle.bfs_model.specs.Server.Context.{Context}
use Rattle.bfs_model.specs.Bytes.Call.{Request, Refusal, call_of}
use Rattle.bfs_model.specs.Bytes.Arguments.{Call, arguments_of}
use Rattle.bfs_model.specs.Bytes.Replies.{results}
use Rattle.bfs_model.specs.Server.Procedures.{procedure}
use Rattle.bfs_model.specs.Server.Serial.{Batch, is_after, next_microsecond, effective_time, execute, answer_arguments, answer_call, answer, inodes_after, ordinal_after}
use Rattle.bfs_model.specs.Server.WellFormed.{IsWellFormed}
use Rattle.bfs_model.specs.Laws.Procedures.{CallsKeepFilesWellFormed}
use Rattle.bfs_model.specs.Bytes.ReplyReading.{Verdict, succeeded, reply_of, refusal_told}
use Rattle.bfs_model.specs.Server.Stored.{IsWord, AreBytes, IsTime, IsStorable, AreStorable, IsLive, RequestIsStorable}
use Rattle.bfs_model.specs.Laws.Stored.{BatchesKeepFilesLive, AnswersAreReadBack, GarbageAnswersAreReadBack, RefusedAnswersAreReadBack}
use Rattle.bfs_model.proofs.Maps.{got_of_none}
use Rattle.bfs_model.proofs.Short.{arguments_are_short, arguments_are_storable}
use Rattle.bfs_model.proofs.Requests.{requests_are_storable, refusal_xid}
use Rattle.bfs_model.proofs.Storing.{calls_keep_storable}
use Rattle.bfs_model.proofs.WellFormed.Each.{each_inserted}
use Rattle.bfs_model.proofs.ReplyForms.{form_by, form_of_call, procedure_has_form}
use Rattle.bfs_model.proofs.ReplyFits.{reply_fits}
use Rattle.bfs_model.proofs.ResultsAgain.{results_again}
use Rattle.bfs_model.proofs.RepliesAgain.{success_again, garbage_again, refusals_again}

-- Time -----------------------------------------------------------------------------------------------------------------------

second_later : (test : Bool) (t : Time) → nat_lt t.seconds 4294967295 ≡ test → IsTime t → IsTime (cond test (record { seconds = t.seconds + 1; useconds = 0 }) t)
second_later true t early is = let before : t.seconds < 4294967295 = ltb-true t.seconds 4294967295 early in record { seconds = omega arith; useconds = omega arith }
second_later false t early is = is

later_by : (test : Bool) (t other : Time) → nat_lt t.useconds 999999 ≡ test → IsTime t → IsTime other → IsTime (cond test (record { seconds = t.seconds; useconds = t.useconds + 1 }) other)
later_by true t other early is otherwise = let before : t.useconds < 999999 = ltb-true t.useconds 999999 early in record { seconds = is.seconds; useconds = omega arith }
later_by false t other early is otherwise = otherwise

next_is_time : (t : Time) → IsTime t → IsTime (next_microsecond t)
next_is_time t is = later_by (nat_lt t.useconds 999999) t _ refl is (second_later (nat_lt t.seconds 4294967295) t refl is)

either_is_time : (test : Bool) (one other : Time) → IsTime one → IsTime other → IsTime (cond test one other)
either_is_time true one other is otherwise = is
either_is_time false one other is otherwise = otherwise

effective_is_time : (last proposed : Time) → IsTime last → IsTime proposed → IsTime (effective_time last proposed)
effective_is_time last proposed last_is is = either_is_time (is_after proposed last) proposed (next_microsecond last) is (next_is_time last last_is)

-- Requests -------------------------------------------------------------------------------------------------------------------

module _ (m : Inodes) (ordinal : ℕ) (time : Time) (time_is : IsTime time) (storable : AreStorable m) where
  arguments_stored : (request : Request) → RequestIsStorable request → (call : Option Call) → arguments_of request.procedure request.arguments ≡ call → AreStorable (answer_arguments m ordinal time request call).0
  arguments_stored request is None wanted = storable
  arguments_stored request is (Some call) wanted =
      calls_keep_storable m _ call (record { time = time_is; caller = is.caller }) (arguments_are_storable request.procedure request.arguments call is.arguments wanted) storable

  request_stored : (bytes : List ℕ) → AreBytes bytes → (request : Result Request Refusal) → call_of bytes ≡ request → AreStorable (answer_call m ordinal time request).0
  request_stored bytes are (Err reason) spelled = storable
  request_stored bytes are (Ok request) spelled = arguments_stored request (requests_are_storable bytes request are spelled) (arguments_of request.procedure request.arguments) refl

  answer_stored : (bytes : List ℕ) → AreBytes bytes → AreStorable (answer m ordinal time bytes).0
  unfolding answer
  answer_stored bytes are = request_stored bytes are (call_of bytes) refl

requests_stored : (m : Inodes) (ordinal : ℕ) (time : Time) (requests : List (List ℕ)) → IsTime time → All AreBytes requests → AreStorable m → AreStorable (inodes_after m ordinal time requests)
requests_stored m ordinal time [] is are storable = storable
requests_stored m ordinal time (request ∷ requests) is are storable =
    requests_stored (answer m ordinal time request).0 (ordinal_after ordinal 1) time requests is (All-tail AreBytes request requests are) (answer_stored m ordinal time is storable request (All-head AreBytes request requests are))

-- Batches --------------------------------------------------------------------------------------------------------------------

pub batches_keep_live : ((files : FileSystem) (batch : Batch) → IsWellFormed files → IsWellFormed (execute files batch).0) → BatchesKeepFilesLive
unfolding execute
batches_keep_live keeps files batch proposed are live =
    let time = effective_is_time files.last_time batch.time live.last_time proposed in record {
      formed = keeps files batch live.formed;
      storable = requests_stored files.tree files.next_ordinal (effective_time files.last_time batch.time) batch.requests time are live.storable;
      last_time = time;
    }

new_tree_stored : AreStorable new_tree
new_tree_stored = each_inserted IsStorable empty (λ id inode there. absurd (cc (got_of_none id))) root_id new_root (record {
  fileid = omega arith;
  permissions = omega arith;
  uid = omega arith;
  gid = omega arith;
  atime = record { seconds = omega arith; useconds = omega arith };
  mtime = record { seconds = omega arith; useconds = omega arith };
  ctime = record { seconds = omega arith; useconds = omega arith };
  body = (omega arith, tt);
})

pub new_is_live : IsWellFormed new_file_system → IsLive new_file_system
new_is_live formed = record { formed = formed; storable = new_tree_stored; last_time = record { seconds = omega arith; useconds = omega arith } }

-- Replies --------------------------------------------------------------------------------------------------------------------

success_read : (m : Inodes) (ordinal : ℕ) (time : Time) (bytes : List ℕ) (request : Request) (call : Call) → call_of bytes ≡ Ok request → arguments_of request.procedure request.arguments ≡ Some call → IsWord request.xid
    → reply_of (answer m ordinal time bytes).1 ≡ Ok (request.xid, succeeded (results (procedure m (record { ordinal = ordinal; time = time; caller = request.credential }) call).1))
unfolding answer
success_read m ordinal time bytes request call spelled wanted is = rw (spelled, wanted) (success_again request.xid _ is)

pub answers_again : CallsKeepFilesWellFormed → AnswersAreReadBack
answers_again keeps files time bytes request call live time_is are spelled wanted =
    let c : Context = record { ordinal = files.next_ordinal; time = time; caller = request.credential } in
    let is = requests_are_storable bytes request are spelled in
    let stored = calls_keep_storable files.tree c call (record { time = time_is; caller = is.caller }) (arguments_are_storable request.procedure request.arguments call is.arguments wanted) live.storable in
    let formed = keeps files c call refl (arguments_are_short request.procedure request.arguments call wanted) live.formed in (
      success_read files.tree files.next_ordinal time bytes request call spelled wanted is.xid,
      results_again request.procedure (form_by call) (procedure files.tree c call).1 (form_of_call request.procedure request.arguments call wanted)
          (record { has_form = procedure_has_form files.tree c call; items = reply_fits files.tree c call stored formed.tree.limited }),
    )

pub garbage_answers_again : GarbageAnswersAreReadBack
unfolding answer
garbage_answers_again m ordinal time bytes request are spelled wanted = rw (spelled, wanted) (garbage_again request.xid (requests_are_storable bytes request are spelled).xid)

told_xid : (told : Option (ℕ × Verdict)) (F : Type 0) (xid : ℕ) (verdict : Verdict) → told ≡ Some (xid, verdict) → IfSome told (λ t. F → IsWord t.0) → F → IsWord xid
told_xid None F xid verdict is good f = absurd cc
told_xid (Some t) F xid verdict is good f = let same : t ≡ (xid, verdict) = cc in subst (λ (p : ℕ × Verdict). IsWord p.0) same (good f)

pub refused_answers_again : RefusedAnswersAreReadBack
unfolding answer
refused_answers_again m ordinal time bytes reason xid verdict are spelled told =
    rw spelled (refusals_again reason xid verdict told (told_xid (refusal_told reason) (AreBytes bytes) xid verdict told (refusal_xid bytes reason are spelled) are))
