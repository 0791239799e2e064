-- The numbers of procedures (RFC 1094 section 2.2).
use Rattle.std.specs.Prelude.{ℕ}
use Rattle.bfs_types.specs.declared.procedure.Procedure.{Procedure}
use Rattle.bfs_types.specs.declared.procedure.Procedure.TheVariants.{Null, GetAttr, SetAttr, Root, LookUp, ReadLink, Read, WriteCache, Write, Create, Remove, Rename, Link, SymbolicLink, MakeDirectory, RemoveDirectory, ReadDirectory, FileSystemStatus}

abbrev pub number_of : Procedure → ℕ
number_of Null = 0
number_of GetAttr = 1
number_of SetAttr = 2
number_of Root = 3
number_of LookUp = 4
number_of ReadLink = 5
number_of Read = 6
number_of WriteCache = 7
number_of Write = 8
number_of Create = 9
number_of Remove = 10
number_of Rename = 11
number_of Link = 12
number_of SymbolicLink = 13
number_of MakeDirectory = 14
number_of RemoveDirectory = 15
number_of ReadDirectory = 16
number_of FileSystemStatus = 17
