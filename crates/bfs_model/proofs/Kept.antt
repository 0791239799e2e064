-- What calls and requests keep of a file system.
use Rattle.std.proofs.Common.{◌≡◌, ℕ, suc, ◌≤◌, List, [], ◌∷◌, length, Option, Some, None, Result, Ok, Err, refl, sym, subst, arith, lit≤}
use Rattle.bfs_model.specs.Server.Limits.{most_reply_bytes}
use Rattle.bfs_model.specs.Server.Tree.{Time, Inodes, FileSystem, first_ordinal, spent_ordinal, new_tree, new_file_system}
use Rattle.bfs_model.specs.Bytes.Call.{Request, Refusal, call_of}
use Rattle.bfs_model.specs.Bytes.Arguments.{Call, arguments_of}
use Rattle.bfs_model.specs.Server.Context.{Context}
use Rattle.bfs_model.specs.Server.Procedures.{procedure}
use Rattle.bfs_model.specs.Server.Footprints.{IsFreshFor, footprint_of}
use Rattle.bfs_model.specs.Server.Serial.{Batch, effective_time, execute, answer_arguments, answer_call, answer, inodes_after, ordinal_after}
use Rattle.bfs_model.specs.Server.Short.{IsShort}
use Rattle.bfs_model.specs.Server.WellFormed.{IsWellFormed, IsWellFormedTree}
use Rattle.bfs_model.specs.Laws.Procedures.{CallsKeepTreesWellFormed, CallsKeepFilesWellFormed}
use Rattle.bfs_model.proofs.Short.{arguments_are_short}
use Rattle.bfs_model.proofs.ReplyLengths.{short_replies}
use Rattle.bfs_model.proofs.WellFormed.Words.{new_tree_formed}
use Rattle.bfs_model.proofs.WellFormed.Trees.{tree_kept}
use Rattle.bfs_model.proofs.WellFormed.Limits.{new_is_limited}
use Rattle.bfs_model.proofs.WellFormed.KeptEach.{limited_kept}
use Rattle.bfs_model.proofs.WellFormed.Numbered.{AreNumbered, fresh_where_numbered, numbered_older, numbered_kept, new_is_numbered}

-- Calls --------------------------------------------------------------------------------------------------------------------

pub call_keeps_tree : CallsKeepTreesWellFormed
call_keeps_tree m c call fresh short formed = record { tree = tree_kept m c call fresh formed.tree; limited = limited_kept m c call fresh short formed.tree formed.limited }

-- inodes that the request of an ordinal may come to
pub record IsServable (m : Inodes) (o : ℕ) : Type 0 where
  pub tree : IsWellFormedTree m
  pub numbered : AreNumbered m o
  pub first : first_ordinal ≤ o
  pub most : o ≤ spent_ordinal

-- the same inodes, an ordinal later
later : (m : Inodes) (o : ℕ) → IsServable m o → IsServable m (ordinal_after o 1)
later m o good = let first : first_ordinal ≤ o = good.first in let most : o ≤ spent_ordinal = good.most in
    record { tree = good.tree; numbered = numbered_older m o (ordinal_after o 1) (omega arith) good.numbered; first = omega arith; most = omega arith }

call_keeps : (m : Inodes) (c : Context) (call : Call) → IsShort call → IsServable m c.ordinal → IsServable (procedure m c call).0 (ordinal_after c.ordinal 1)
call_keeps m c call short good = let first : first_ordinal ≤ c.ordinal = good.first in let most : c.ordinal ≤ spent_ordinal = good.most in record {
  tree = call_keeps_tree m c call (fresh_where_numbered m c.ordinal _ good.numbered) short good.tree;
  numbered = numbered_kept m c good.first good.most good.numbered good.tree call short;
  first = omega arith;
  most = omega arith;
}

-- Requests -----------------------------------------------------------------------------------------------------------------

-- nothing that a request touches has its ordinal
pub fresh_for_request : (m : Inodes) (o : ℕ) (t : Time) (bytes : List ℕ) → IsServable m o → IsFreshFor m o (footprint_of m o t bytes)
fresh_for_request m o t bytes good = fresh_where_numbered m o (footprint_of m o t bytes) good.numbered

module _ (m : Inodes) (o : ℕ) (t : Time) (good : IsServable m o) where
  arguments_keep : (request : Request) (call : Option Call) → arguments_of request.procedure request.arguments ≡ call → IsServable (answer_arguments m o t request call).0 (ordinal_after o 1)
  arguments_keep request None is = later m o good
  arguments_keep request (Some call) is = call_keeps m (record { ordinal = o; time = t; caller = request.credential }) call (arguments_are_short request.procedure request.arguments call is) good

  answer_call_keeps : (call : Result Request Refusal) → IsServable (answer_call m o t call).0 (ordinal_after o 1)
  answer_call_keeps (Ok request) = arguments_keep request (arguments_of request.procedure request.arguments) refl
  answer_call_keeps (Err refusal) = later m o good

pub answer_keeps : (m : Inodes) (o : ℕ) (t : Time) (bytes : List ℕ) → IsServable m o → IsServable (answer m o t bytes).0 (ordinal_after o 1)
unfolding answer
answer_keeps m o t bytes good = answer_call_keeps m o t good (call_of bytes)

-- the ordinals of one request after another
ordinals : (o n : ℕ) → ordinal_after (ordinal_after o 1) n ≡ ordinal_after o (suc n)
ordinals o n = omega arith

pub requests_keep : (m : Inodes) (o : ℕ) (t : Time) (requests : List (List ℕ)) → IsServable m o → IsServable (inodes_after m o t requests) (ordinal_after o (length requests))
requests_keep m o t [] good = let most : o ≤ spent_ordinal = good.most in subst (IsServable m) (omega arith) good
requests_keep m o t (request ∷ requests) good =
    subst (IsServable (inodes_after (answer m o t request).0 (ordinal_after o 1) t requests)) (ordinals o (length requests))
    (requests_keep (answer m o t request).0 (ordinal_after o 1) t requests (answer_keeps m o t request good))

-- File systems -------------------------------------------------------------------------------------------------------------

-- those of a well-formed file system
pub servable : (files : FileSystem) → IsWellFormed files → IsServable files.tree files.next_ordinal
servable files formed = record { tree = formed.tree; numbered = formed.numbered; first = formed.ordinal.0; most = formed.ordinal.1 }

pub formed_again : (m : Inodes) (o : ℕ) (t : Time) → IsServable m o → IsWellFormed (record { tree = m; next_ordinal = o; last_time = t })
formed_again m o t good = record { tree = good.tree; numbered = good.numbered; ordinal = (good.first, good.most) }

pub a_call_keeps : CallsKeepFilesWellFormed
a_call_keeps files c call is short formed =
    formed_again (procedure files.tree c call).0 (ordinal_after files.next_ordinal 1) files.last_time
    (subst (λ o. IsServable (procedure files.tree c call).0 (ordinal_after o 1)) is (call_keeps files.tree c call short (subst (IsServable files.tree) (sym is) (servable files formed))))

-- every file system that was well formed is so after a batch
pub execute_keeps : (files : FileSystem) (batch : Batch) → IsWellFormed files → IsWellFormed (execute files batch).0
unfolding execute
execute_keeps files batch formed =
    let time = effective_time files.last_time batch.time in
    formed_again (inodes_after files.tree files.next_ordinal time batch.requests) (ordinal_after files.next_ordinal (length batch.requests)) time
    (requests_keep files.tree files.next_ordinal time batch.requests (servable files formed))

pub new_tree_is_well_formed : IsWellFormedTree new_tree
new_tree_is_well_formed = record { tree = new_tree_formed; limited = new_is_limited }

pub new_is_well_formed : IsWellFormed new_file_system
new_is_well_formed = record { tree = new_tree_is_well_formed; numbered = new_is_numbered; ordinal = (lit≤ tt, lit≤ tt) }

-- the tree of a well-formed file system
pub its_tree : (files : FileSystem) → IsWellFormed files → IsWellFormedTree files.tree
its_tree files formed = formed.tree

-- One request after another --------------------------------------------------------------------------------------------------

abbrev at : Inodes → (o : ℕ) → Time → FileSystem
at m o t = record { tree = m; next_ordinal = o; last_time = t }

pub next_is_fresh : (m : Inodes) (o : ℕ) (t : Time) (bytes : List ℕ) → IsWellFormed (at m o t) → IsFreshFor m o (footprint_of m o t bytes)
next_is_fresh m o t bytes formed = fresh_for_request m o t bytes (servable (at m o t) formed)

pub request_keeps : (m n : Inodes) (o : ℕ) (t : Time) (bytes reply : List ℕ) → IsWellFormed (at m o t) → ◌≡◌ {A = Inodes × List ℕ} (n, reply) (answer m o t bytes) → IsWellFormed (at n (ordinal_after o 1) t)
request_keeps m n o t bytes reply formed is =
    subst (λ (after : Inodes × List ℕ). IsWellFormed (at after.0 (ordinal_after o 1) t)) (sym is) (formed_again (answer m o t bytes).0 (ordinal_after o 1) t (answer_keeps m o t bytes (servable (at m o t) formed)))

pub reply_is_short : (m n : Inodes) (o : ℕ) (t : Time) (bytes reply : List ℕ) → IsWellFormed (at m o t) → ◌≡◌ {A = Inodes × List ℕ} (n, reply) (answer m o t bytes) → length reply ≤ most_reply_bytes
reply_is_short m n o t bytes reply formed is =
    subst (λ (after : Inodes × List ℕ). length after.1 ≤ most_reply_bytes) (sym is) (short_replies m o t bytes formed.tree.limited)
