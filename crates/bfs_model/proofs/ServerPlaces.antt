-- Where refusals stand: which of two that fit is answered, and from which number on a limit holds.
use Rattle.std.proofs.Common.{◌≡◌, ℕ, List, [], ◌∷◌, length, Some, None, true, false, ◌+◌, ◌-◌, nat_le, nat_lt, refl, codes, take}
use Rattle.bfs_model.specs.Server.Tree.{Entry, Inode, Inodes, link}
use Rattle.bfs_model.specs.Bytes.Arguments.{set_attributes, look_up, write, create, remove, rename, make_link, make_symbolic_link, make_directory, remove_directory, read_directory}
use Rattle.bfs_model.specs.Bytes.Replies.{found, done, refused, listed, perm, exist, notdir, isdir, nospc, notempty, stale, fbig}
use Rattle.bfs_model.specs.Bytes.Attributes.{attributes_of}
use Rattle.bfs_model.specs.Server.FileBytes.{bytes_from}
use Rattle.bfs_model.specs.Server.Directories.{entry_named}
use Rattle.bfs_model.specs.Server.Changes.{changed}
use Rattle.bfs_model.specs.Server.Limits.{most_file_bytes, most_entries, most_links, most_data_bytes}
use Rattle.bfs_model.specs.Server.Procedures.{procedure}
use Rattle.bfs_model.specs.Server.Procedures.Renaming.{is_within}
use Rattle.bfs_model.proofs.Maps.{inode_gets, inode_entries, same}
use Rattle.bfs_model.proofs.Runs.{under, unset, at, a_file, a_directory, the_root, entry, holding}

-- a directory `d` that holds a directory `e`, a file `f` and a symbolic link `l`; and a file `a` beside it
abbrev e : Inode
e = a_directory 2 1 1 1 3 []

abbrev d : Inode
d = a_directory 3 1 1 1 2 (entry 5 (codes "e") 5 ∷ entry 6 (codes "f") 6 ∷ entry 7 (codes "l") 7 ∷ [])

abbrev l : Inode
l = record (a_file 1 1 1 1 []) { permissions = 0o777; body = link (codes "f") }

abbrev tree : Inodes
tree = holding ((2, the_root 3 1 1 (entry 3 (codes "d") 3 ∷ entry 4 (codes "a") 4 ∷ [])) ∷ (3, d) ∷ (4, a_file 1 1 1 1 []) ∷ (5, e) ∷ (6, a_file 1 1 1 1 []) ∷ (7, l) ∷ [])

-- `.` of a directory that is not the root
itself_listed : procedure tree (under 8 (at 2)) (read_directory (Some 3) 0 44) ≡ (tree, listed (entry 1 (codes ".") 3 ∷ []) false)
itself_listed = simp inode_gets

itself_and_above_listed : procedure tree (under 8 (at 2)) (read_directory (Some 3) 0 52) ≡ (tree, listed (entry 1 (codes ".") 3 ∷ entry 2 (codes "..") 2 ∷ []) false)
itself_and_above_listed = simp inode_gets

-- a READ gives at most 8,192 bytes
read_at_most : (bytes : List ℕ) → bytes_from 0 10000 bytes ≡ take most_data_bytes bytes
read_at_most bytes = refl

-- a bad name before a name that isn't there or is there, and a full or spent directory after it
no_name_looked_up : procedure tree (under 8 (at 2)) (look_up (Some 3) (codes "a/b")) ≡ (tree, refused perm)
no_name_looked_up = simp inode_gets

empty_name_looked_up : procedure tree (under 8 (at 2)) (look_up (Some 3) []) ≡ (tree, refused perm)
empty_name_looked_up = simp inode_gets

bad_name_of_a_link : procedure tree (under 4294967296 (at 2)) (make_symbolic_link (Some 3) (codes "..") [] unset) ≡ (tree, refused perm)
bad_name_of_a_link = simp inode_gets

name_of_a_link_there : procedure tree (under 4294967296 (at 2)) (make_symbolic_link (Some 3) (codes "f") [] unset) ≡ (tree, refused exist)
name_of_a_link_there = simp inode_gets

spent_link : procedure tree (under 4294967296 (at 2)) (make_symbolic_link (Some 3) (codes "g") [] unset) ≡ (tree, refused nospc)
spent_link = simp inode_gets

-- the limit of a file's size is looked at last
spent_before_too_long : (size : ℕ) → procedure tree (under 4294967296 (at 2)) (create (Some 3) (codes "g") (record unset { size = Some size })) ≡ (tree, refused nospc)
spent_before_too_long size = simp inode_gets

-- what is linked is looked at before the directory
stale_before_no_directory : procedure tree (under 8 (at 2)) (make_link (Some 9) (Some 4) (codes "g")) ≡ (tree, refused stale)
stale_before_no_directory = simp inode_gets

directory_before_no_directory : procedure tree (under 8 (at 2)) (make_link (Some 3) (Some 4) (codes "g")) ≡ (tree, refused isdir)
directory_before_no_directory = simp inode_gets

no_directory_before_bad_name : procedure tree (under 8 (at 2)) (make_link (Some 6) (Some 4) []) ≡ (tree, refused notdir)
no_directory_before_bad_name = simp inode_gets

-- RENAME: both directories, both names, and what is there, in this order
from_stale_before_to : procedure tree (under 8 (at 2)) (rename (Some 9) [] (Some 4) []) ≡ (tree, refused stale)
from_stale_before_to = simp inode_gets

to_before_names : procedure tree (under 8 (at 2)) (rename (Some 2) [] (Some 4) []) ≡ (tree, refused notdir)
to_before_names = simp inode_gets

names_before_none : procedure tree (under 8 (at 2)) (rename (Some 2) (codes "x") (Some 3) (codes ".")) ≡ (tree, refused perm)
names_before_none = simp inode_gets

-- a file onto a directory that is not empty, and a directory that is not empty onto itself from below
file_onto_full_directory : procedure tree (under 8 (at 2)) (rename (Some 2) (codes "a") (Some 2) (codes "d")) ≡ (tree, refused isdir)
unfolding is_within
file_onto_full_directory = simp inode_gets

below_itself_before_file : procedure tree (under 8 (at 2)) (rename (Some 2) (codes "d") (Some 3) (codes "f")) ≡ (tree, refused perm)
unfolding is_within
below_itself_before_file = simp inode_gets

onto_full_directory_before_spent : procedure tree (under 4294967296 (at 2)) (rename (Some 3) (codes "e") (Some 2) (codes "d")) ≡ (tree, refused notempty)
unfolding is_within
onto_full_directory_before_spent = simp inode_gets

directory_onto_file_before_spent : procedure tree (under 4294967296 (at 2)) (rename (Some 3) (codes "e") (Some 2) (codes "a")) ≡ (tree, refused notdir)
unfolding is_within
directory_onto_file_before_spent = simp inode_gets

spent_rename : procedure tree (under 4294967296 (at 2)) (rename (Some 3) (codes "e") (Some 2) (codes "x")) ≡ (tree, refused nospc)
unfolding is_within
spent_rename = simp inode_gets

-- REMOVE and RMDIR of what is of the other kind
directory_not_removed : procedure tree (under 8 (at 2)) (remove (Some 2) (codes "d")) ≡ (tree, refused isdir)
directory_not_removed = simp inode_gets

link_no_directory : procedure tree (under 8 (at 2)) (remove_directory (Some 3) (codes "l")) ≡ (tree, refused notdir)
link_no_directory = simp inode_gets

-- a size of a directory or a symbolic link, whatever it is, and a write to them
size_of_a_directory : (size : ℕ) → procedure tree (under 8 (at 2)) (set_attributes (Some 3) (record unset { size = Some size })) ≡ (tree, refused isdir)
size_of_a_directory size = simp inode_gets

size_of_a_link : (size : ℕ) → procedure tree (under 8 (at 2)) (set_attributes (Some 7) (record unset { size = Some size })) ≡ (tree, refused perm)
size_of_a_link size = simp inode_gets

write_of_a_link : (offset : ℕ) → procedure tree (under 8 (at 2)) (write (Some 7) offset []) ≡ (tree, refused perm)
write_of_a_link offset = simp inode_gets

empty_write_past_the_limit : (offset : ℕ) → nat_lt most_file_bytes (offset + 0) ≡ true → procedure tree (under 8 (at 2)) (write (Some 6) offset []) ≡ (tree, refused fbig)
empty_write_past_the_limit offset past = simp (inode_gets, past)

-- The limits of links and entries -----------------------------------------------------------------------------------------

abbrev many_links : ℕ → Inodes
many_links links = holding ((2, the_root links 1 1 []) ∷ (4, a_file links 1 1 1 []) ∷ [])

links_all_used : procedure (many_links most_links) (under 8 (at 2)) (make_link (Some 4) (Some 2) (codes "g")) ≡ (many_links most_links, refused nospc)
links_all_used = simp inode_gets

last_link : procedure (many_links (most_links - 1)) (under 8 (at 2)) (make_link (Some 4) (Some 2) (codes "g")) ≡ (holding ((2, the_root (most_links - 1) 2 2 (entry 8 (codes "g") 4 ∷ [])) ∷ (4, a_file most_links 1 1 2 []) ∷ []), done)
unfolding changed
last_link = simp inode_gets (same (simp inode_entries) refl)

directories_all_made : procedure (many_links most_links) (under 8 (at 2)) (make_directory (Some 2) (codes "g") unset) ≡ (many_links most_links, refused nospc)
directories_all_made = simp inode_gets

last_directory : procedure (many_links (most_links - 1)) (under 8 (at 2)) (make_directory (Some 2) (codes "g") unset)
    ≡ (holding ((2, the_root most_links 2 2 (entry 8 (codes "g") 8 ∷ [])) ∷ (4, a_file (most_links - 1) 1 1 1 []) ∷ (8, a_directory 2 2 2 2 2 []) ∷ []), found 8 (attributes_of 8 (a_directory 2 2 2 2 2 [])))
last_directory = simp inode_gets (same (simp inode_entries) refl)

-- a root with entries of other names, of which only the number is known
abbrev rooted : List Entry → Inodes
rooted entries = holding ((2, the_root 2 1 1 entries) ∷ [])

full_directory : (entries : List Entry) → entry_named (codes "g") entries ≡ None → nat_le most_entries (length entries) ≡ true
    → procedure (rooted entries) (under 8 (at 2)) (create (Some 2) (codes "g") unset) ≡ (rooted entries, refused nospc)
full_directory entries other full = simp (inode_gets, other, full)
