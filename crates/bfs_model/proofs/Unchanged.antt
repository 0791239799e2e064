-- Calls that leave the inodes as they are: those that are refused, and those that only read.
use Rattle.std.proofs.Common.{◌≡◌, IsTrue, refl}
use Rattle.bfs_model.specs.Server.Tree.{Inodes}
use Rattle.bfs_model.specs.Server.Context.{Context}
use Rattle.bfs_model.specs.Bytes.Arguments.{Call, null, get_attributes, set_attributes, root, look_up, read_link, read, write_cache, write, create, remove, rename, make_link, make_symbolic_link, make_directory, remove_directory, read_directory, file_system_status}
use Rattle.bfs_model.specs.Bytes.Replies.{Status, refused}
use Rattle.bfs_model.specs.Server.Refusals.{Outcome}
use Rattle.bfs_model.specs.Laws.Procedures.{only_reads, ARefusedCallChangesNothing, ReadingChangesNothing}
use Rattle.bfs_model.proofs.Attempts.{IfItIsDone, IfChanged, procedure_holds, kept}

-- Refused ------------------------------------------------------------------------------------------------------------------

module _ (m : Inodes) (c : Context) (status : Status) where
  abbrev IsKeptIfRefused : Outcome → Type 0
  IsKeptIfRefused outcome = outcome.1 ≡ refused status → outcome.0 ≡ m

  -- what is done leaves the inodes, or has another reply
  kept_or_done : (call : Call) → IfItIsDone m c IsKeptIfRefused call
  kept_or_done null = λ is. refl
  kept_or_done (get_attributes handle) = λ x found is. refl
  kept_or_done (set_attributes handle settings) = λ x allowed found passed is. absurd cc
  kept_or_done root = λ is. refl
  kept_or_done (look_up handle name) = λ x there is. refl
  kept_or_done (read_link handle) = λ x target found holds is. refl
  kept_or_done (read handle offset count) = λ x found is. refl
  kept_or_done write_cache = λ is. refl
  kept_or_done (write handle offset written) = λ x small found passed is. absurd cc
  kept_or_done (create handle name settings) = λ dir allowed found passed is. absurd cc
  kept_or_done (remove handle name) = λ dir entry child plain at passed is. absurd cc
  kept_or_done (rename from from_name to to_name) = λ a b entry moved at. (λ is. refl, λ replaced allowed onto passed is. absurd cc)
  kept_or_done (make_link handle in_directory name) = λ x plain dir allowed found no_directory dir_is passed is. absurd cc
  kept_or_done (make_symbolic_link handle name target settings) = λ dir allowed found passed is. absurd cc
  kept_or_done (make_directory handle name settings) = λ dir allowed found passed is. absurd cc
  kept_or_done (remove_directory handle name) = λ dir entry child empty at passed is. absurd cc
  kept_or_done (read_directory handle cookie count) = λ dir found is. refl
  kept_or_done (file_system_status handle) = λ x found is. refl

pub refused_keeps : ARefusedCallChangesNothing
refused_keeps m c call status = procedure_holds m c (IsKeptIfRefused m c status) (λ other is. refl) call (kept_or_done m c status call)

-- Read ---------------------------------------------------------------------------------------------------------------------

nothing_changed : (m : Inodes) (c : Context) (call : Call) → IsTrue (only_reads call) → IfChanged m c (λ n. n ≡ m) call
nothing_changed m c null only = tt
nothing_changed m c (get_attributes handle) only = tt
nothing_changed m c root only = tt
nothing_changed m c (look_up handle name) only = tt
nothing_changed m c (read_link handle) only = tt
nothing_changed m c (read handle offset count) only = tt
nothing_changed m c write_cache only = tt
nothing_changed m c (read_directory handle cookie count) only = tt
nothing_changed m c (file_system_status handle) only = tt
nothing_changed m c call only = absurd cc

pub reading_keeps : ReadingChangesNothing
reading_keeps m c call only = kept m c (λ n. n ≡ m) refl call (nothing_changed m c call only)
