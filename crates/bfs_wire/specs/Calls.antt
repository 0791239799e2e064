-- The calls of the code as those of the model.
use Rattle.std.specs.Prelude.{◌≡◌, ℕ, List, Option, IfSome}
use Rattle.std.specs.Option.{option_map}
use Rattle.bfs_model.specs.Bytes.Arguments as model
use Rattle.bfs_model.specs.Server.Short.{IsShort}
use Rattle.bfs_wire.specs.declared.call.NfsCall.{NfsCall}
use Rattle.bfs_wire.specs.declared.call.NfsCall.TheVariants.{Null, GetAttr, SetAttr, Root, LookUp, ReadLink, Read, WriteCache, Write, Create, Remove, Rename, Link, SymbolicLink, MakeDirectory, RemoveDirectory, ReadDirectory, FileSystemStatus}

abbrev pub call_seen : NfsCall → model.Call
call_seen Null = model.null
call_seen (GetAttr file) = model.get_attributes file
call_seen (SetAttr file settings) = model.set_attributes file settings
call_seen Root = model.root
call_seen (LookUp dir name) = model.look_up dir name.now
call_seen (ReadLink file) = model.read_link file
call_seen (Read file offset count) = model.read file offset count
call_seen WriteCache = model.write_cache
call_seen (Write file offset bytes) = model.write file offset bytes.now
call_seen (Create dir name settings) = model.create dir name.now settings
call_seen (Remove dir name) = model.remove dir name.now
call_seen (Rename from from_name to to_name) = model.rename from from_name.now to to_name.now
call_seen (Link file dir name) = model.make_link file dir name.now
call_seen (SymbolicLink dir name path settings) = model.make_symbolic_link dir name.now path.now settings
call_seen (MakeDirectory dir name settings) = model.make_directory dir name.now settings
call_seen (RemoveDirectory dir name) = model.remove_directory dir name.now
call_seen (ReadDirectory dir cookie count) = model.read_directory dir cookie count
call_seen (FileSystemStatus file) = model.file_system_status file

-- what is read from the arguments, with the bytes after it, is what the model reads, and a call whose parts keep their limits
abbrev pub IsReadAs : Option (model.Call × List ℕ) → Option NfsCall → (rest : List ℕ) → Type 0
IsReadAs asked read rest = (option_map (λ call. (call_seen call, rest)) read ≡ asked) × IfSome read (λ call. IsShort (call_seen call))
