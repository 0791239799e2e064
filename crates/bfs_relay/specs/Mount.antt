-- MOUNT version 1 (RFC 1094 appendix A): the reply to each of its calls. One path can be mounted, `/`, which is the root's. Who has mounted it is not kept.
use Rattle.std.specs.Prelude.{ℕ, true, false, List, [], ◌∷◌, ◌++◌, length, Option, Some, None, codes, ◌==◌, if◌then◌else◌}
use Rattle.std.specs.Result.{result_ok}
use Rattle.std.specs.Str.{bytes_eq}
use Rattle.bfs_model.specs.Bytes.Arguments.{handle}
use Rattle.bfs_model.specs.Bytes.Call.{◌>>=◌, procedure_unavailable}
use Rattle.bfs_model.specs.Bytes.Items.{boolean, counted, opaque_at, words}
use Rattle.bfs_model.specs.Bytes.Replies.{garbage, refusal, success}
use Rattle.bfs_model.specs.Server.Tree.{root_id}

-- which program is called, which version and procedure of it, and with which bytes of arguments
pub record ProgramCall : Type 0 where
  pub xid : ℕ
  pub program : ℕ
  pub version : ℕ
  pub procedure : ℕ
  pub arguments : List ℕ

abbrev pub mount_program : ℕ
mount_program = 100005

abbrev pub mount_version : ℕ
mount_version = 1

-- the bytes of a path (appendix A, MNTPATHLEN)
abbrev pub most_mount_path_bytes : ℕ
most_mount_path_bytes = 1024

-- the path that can be mounted
abbrev pub mounted_path : List ℕ
mounted_path = codes "/"

-- the reply where a procedure takes no arguments
unfoldable pub void_reply : (xid : ℕ) → (arguments results : List ℕ) → List ℕ
void_reply xid arguments results = if length arguments == 0 then success xid results else garbage xid

-- the path that arguments spell, with nothing after it; padding is not looked at
unfoldable pub path_of : (arguments : List ℕ) → Option (List ℕ)
path_of arguments = do
  path ← result_ok (opaque_at false most_mount_path_bytes arguments)
  if length path.1 == 0 then Some path.0 else None

-- status 0 and the root's handle, or status 2, that there is no such path (appendix A, fhstatus)
unfoldable pub mount_results : (path : List ℕ) → List ℕ
mount_results path = if bytes_eq path mounted_path then words (0 ∷ []) ++ handle root_id else words (2 ∷ [])

abbrev pub mounting_reply : (xid : ℕ) → Option (List ℕ) → List ℕ
mounting_reply xid (Some path) = success xid (mount_results path)
mounting_reply xid None = garbage xid

abbrev pub unmounting_reply : (xid : ℕ) → Option (List ℕ) → List ℕ
unmounting_reply xid (Some path) = success xid []
unmounting_reply xid None = garbage xid

-- no one (appendix A, mountlist)
unfoldable pub no_mounts : List ℕ
no_mounts = boolean false

-- one path, for no group in particular, and no other (appendix A, exportlist)
unfoldable pub exports : List ℕ
exports = boolean true ++ counted mounted_path ++ boolean false ++ boolean false

-- NULL, MNT, DUMP, UMNT, UMNTALL and EXPORT
unfoldable pub procedure_reply : ProgramCall → List ℕ
procedure_reply call =
    if call.procedure == 0 then void_reply call.xid call.arguments [] else (
    if call.procedure == 1 then mounting_reply call.xid (path_of call.arguments) else (
    if call.procedure == 2 then void_reply call.xid call.arguments no_mounts else (
    if call.procedure == 3 then unmounting_reply call.xid (path_of call.arguments) else (
    if call.procedure == 4 then void_reply call.xid call.arguments [] else (
    if call.procedure == 5 then void_reply call.xid call.arguments exports else refusal (procedure_unavailable call.xid))))))

-- of another version: MSG_ACCEPTED, PROG_MISMATCH, from version 1 to version 1 (RFC 5531 section 9)
unfoldable pub version_mismatch : (xid : ℕ) → List ℕ
version_mismatch xid = words (xid ∷ 1 ∷ 0 ∷ 0 ∷ 0 ∷ 2 ∷ mount_version ∷ mount_version ∷ [])

unfoldable pub mount_reply : ProgramCall → List ℕ
mount_reply call = if call.version == mount_version then procedure_reply call else version_mismatch call.xid
