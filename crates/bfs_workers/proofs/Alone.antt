-- A request that may touch any inode spells RENAME or STATFS.
use Rattle.std.proofs.Common.{◌≡◌, ℕ, Bool, true, false, true≢false, if◌then◌else◌, List, [], ◌++◌, Option, Some, None, Result, Ok, Err, refl, sym}
use Rattle.bfs_model.specs.Server.Tree.{Time, Inodes}
use Rattle.bfs_model.specs.Bytes.Call.{Request, Refusal, call_of}
use Rattle.bfs_model.specs.Server.Context.{Context}
use Rattle.bfs_model.specs.Bytes.Arguments.{Call, null, get_attributes, set_attributes, root, look_up, read_link, read, write_cache, write, create, remove, rename, make_link, make_symbolic_link, make_directory, remove_directory, read_directory, file_system_status, arguments_of}
use Rattle.bfs_model.specs.Server.Footprints.{known, ids_in, child_at, id_found, lets_search, lets_change, footprint, footprint_of, footprint_of_arguments, footprint_of_call}
use Rattle.bfs_model.specs.Server.Conflicts.{is_whole}
use Rattle.bfs_workers.specs.Alone.{are_of_all, is_alone, is_of_all, is_read_as_of_all}

-- two footprints, neither of which has all inodes
never_whole : (let_in : Bool) (reads writes reads_else writes_else : List ℕ) → is_whole (if let_in then known reads writes else known reads_else writes_else) ≡ true → ⊥
never_whole true reads writes reads_else writes_else is = true≢false (sym is)
never_whole false reads writes reads_else writes_else is = true≢false (sym is)

of_all : (m : Inodes) (c : Context) (call : Call) → is_whole (footprint m c call) ≡ true → is_of_all call ≡ true
of_all m c null is = absurd (true≢false (sym is))
of_all m c (get_attributes file) is = absurd (true≢false (sym is))
of_all m c (set_attributes file settings) is = absurd (true≢false (sym is))
of_all m c root is = absurd (true≢false (sym is))
of_all m c (look_up dir name) is = absurd (never_whole (lets_search m c.caller dir) (ids_in dir ++ ids_in (id_found m dir name)) [] (ids_in dir) [] is)
of_all m c (read_link file) is = absurd (true≢false (sym is))
of_all m c (read file offset count) is = absurd (true≢false (sym is))
of_all m c write_cache is = absurd (true≢false (sym is))
of_all m c (write file offset bytes) is = absurd (true≢false (sym is))
of_all m c (create dir name settings) is = absurd (true≢false (sym is))
of_all m c (remove dir name) is = absurd (never_whole (lets_change m c.caller dir) [] (ids_in dir ++ ids_in (child_at m dir name)) (ids_in dir) [] is)
of_all m c (rename from from_name to to_name) is = refl
of_all m c (make_link file dir name) is = absurd (true≢false (sym is))
of_all m c (make_symbolic_link dir name path settings) is = absurd (true≢false (sym is))
of_all m c (make_directory dir name settings) is = absurd (true≢false (sym is))
of_all m c (remove_directory dir name) is = absurd (never_whole (lets_change m c.caller dir) [] (ids_in dir ++ ids_in (child_at m dir name)) (ids_in dir) [] is)
of_all m c (read_directory dir cookie count) is = absurd (true≢false (sym is))
of_all m c (file_system_status file) is = refl

arguments_of_all : (m : Inodes) (o : ℕ) (t : Time) (request : Request) (call : Option Call) → is_whole (footprint_of_arguments m o t request call) ≡ true → are_of_all call ≡ true
arguments_of_all m o t request None is = absurd (true≢false (sym is))
arguments_of_all m o t request (Some call) is = of_all m (record { ordinal = o; time = t; caller = request.credential }) call is

call_of_all : (m : Inodes) (o : ℕ) (t : Time) (call : Result Request Refusal) → is_whole (footprint_of_call m o t call) ≡ true → is_read_as_of_all call ≡ true
call_of_all m o t (Err refusal) is = absurd (true≢false (sym is))
call_of_all m o t (Ok request) is = arguments_of_all m o t request (arguments_of request.procedure request.arguments) is

pub alone : (m : Inodes) (o : ℕ) (t : Time) (request : List ℕ) → is_whole (footprint_of m o t request) ≡ true → is_alone request ≡ true
alone m o t request is = call_of_all m o t (call_of request) is
