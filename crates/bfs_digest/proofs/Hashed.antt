-- The digests of blocks and of inodes of a map, made by fileid.
use Rattle.std.proofs.Common.{◌≡◌, ℕ, ◌*◌, List, [], ◌∷◌, take, drop, Option, Some, None, refl, sym, ap, subst, ◌∙◌}
use Rattle.std.proofs.Math.Seq.{drop-nil}
use Rattle.std.proofs.lemmas.Option.{same_Some}
use Rattle.std.specs.Option.{option_and_then}
use Rattle.sha2.specs.Sha256.{sha256}
use Rattle.std.specs.List.{All, AllByRecursion}
use Rattle.std.proofs.lemmas.List.Elements.{All-weaker}
use Rattle.std.specs.FinMap.{get, entries}
use Rattle.bfs_model.specs.Server.Tree.{Body, file, directory, link, Inode, Inodes}
use Rattle.bfs_blocks.specs.Bytes.{block_at}
use Rattle.bfs_inode.specs.Inodes.{bytes_in, file_in}
use Rattle.bfs_tree.proofs.Public.{all_of_each}
use Rattle.bfs_inode.specs.declared.inodes.kept.RecordDigest.{RecordDigest}
use Rattle.bfs_digest.specs.Inside.Hashed.{IsHashed, IsRecordOf, bytes_of, digest_in}

abbrev pub IsThere : Inodes → ℕ × Inode → Type 0
IsThere m inode = get m inode.0 ≡ Some inode.1

pub all_there : (m : Inodes) (rest : List (ℕ × Inode)) → rest ≡ entries m → AllByRecursion (IsThere m) rest
all_there m rest is = subst (AllByRecursion (IsThere m)) (sym is) (all_of_each (IsThere m) m (λ id x there. there))

pub first_there : (m : Inodes) (xs rest : List (ℕ × Inode)) (x : ℕ × Inode) → xs ≡ x ∷ rest → AllByRecursion (IsThere m) xs → IsThere m x × AllByRecursion (IsThere m) rest
first_there m xs rest x is all = subst (AllByRecursion (IsThere m)) is all

of_inode : (m : Inodes) (hashed : RecordDigest) (id : ℕ) (inode : Inode) → get m id ≡ Some inode → IsHashed m hashed → IsRecordOf id inode hashed
of_inode m hashed id inode there is same =
    ap (λ (it : RecordDigest). it.digest) is ∙ ap (λ k. digest_in k (get m k)) same ∙ ap (λ (o : Option Inode). digest_in id o) there

-- what is made of the inodes of a map, is of the one that is there
pub all_of_inode : (m : Inodes) (made : List RecordDigest) (id : ℕ) (inode : Inode) → get m id ≡ Some inode → All (IsHashed m) made → All (IsRecordOf id inode) made
all_of_inode m made id inode there all = All-weaker (IsHashed m) (IsRecordOf id inode) (λ hashed is. of_inode m hashed id inode there is) made all

-- The block of a file, if there is one -------------------------------------------------------------------------------

bytes_in_file : (body : Body) (bytes : List ℕ) → file_in body ≡ Some bytes → bytes_in body ≡ bytes
bytes_in_file (file held) bytes is = same_Some held bytes is
bytes_in_file (directory listing) bytes is = absurd cc
bytes_in_file (link path) bytes is = absurd cc

none_in_other : (body : Body) → file_in body ≡ None → bytes_in body ≡ []
none_in_other (file held) is = absurd cc
none_in_other (directory listing) is = refl
none_in_other (link path) is = refl

abbrev file_of : Option Inode → Option (List ℕ)
file_of o = option_and_then (λ inode. file_in inode.body) o

bytes_of_file : (o : Option Inode) (bytes : List ℕ) → file_of o ≡ Some bytes → bytes_of o ≡ bytes
bytes_of_file None bytes is = absurd cc
bytes_of_file (Some inode) bytes is = bytes_in_file inode.body bytes is

bytes_of_none : (o : Option Inode) → file_of o ≡ None → bytes_of o ≡ []
bytes_of_none None is = refl
bytes_of_none (Some inode) is = none_in_other inode.body is

pub block_of_file : (o : Option Inode) (bytes : List ℕ) (n : ℕ) → file_of o ≡ Some bytes → sha256 (block_at bytes n) ≡ sha256 (block_at (bytes_of o) n)
block_of_file o bytes n is = ap (λ bytes. sha256 (block_at bytes n)) (sym (bytes_of_file o bytes is))

no_block : (n : ℕ) → block_at [] n ≡ []
unfolding block_at
no_block n = ap (take 4096) (drop-nil (4096 * n))

pub block_of_none : (o : Option Inode) (n : ℕ) → file_of o ≡ None → sha256 [] ≡ sha256 (block_at (bytes_of o) n)
block_of_none o n is = ap sha256 (sym (no_block n)) ∙ ap (λ bytes. sha256 (block_at bytes n)) (sym (bytes_of_none o is))
