-- The reply to each procedure's call has the form of its results.
use Rattle.std.proofs.Common.{◌≡◌, ℕ, Bool, true, false, cond, eqb, List, length, Option, Some, None, MatchOption, refl, subst, sym, ◌∙◌}
use Rattle.std.proofs.lemmas.Option.{same_Some}
use Rattle.bfs_model.specs.Server.Tree.{Inodes}
use Rattle.bfs_model.specs.Server.Context.{Context}
use Rattle.bfs_model.specs.Bytes.Call.{◌>>=◌}
use Rattle.bfs_model.specs.Bytes.Arguments.{Settings, Call, null, get_attributes, set_attributes, root, look_up, read_link, read, write_cache, write, create, remove, rename, make_link, make_symbolic_link, make_directory, remove_directory, read_directory, file_system_status, file_at, named_at, named_with_settings_at, set_attributes_at, read_at, write_at, rename_at, link_at, symbolic_link_at, read_directory_at, fields_at, arguments_of}
use Rattle.bfs_model.specs.Server.Refusals.{Outcome}
use Rattle.bfs_model.specs.Server.Procedures.{procedure}
use Rattle.bfs_model.specs.Laws.ReplyReading.{RepliesHaveTheirForm}
use Rattle.bfs_model.specs.Bytes.ReplyReading.{ResultsForm, void_form, status_form, attributes_form, found_form, path_form, contents_form, listed_form, blocks_form, form_of, HasForm}
use Rattle.bfs_model.proofs.Attempts.{IfItIsDone, procedure_holds}

-- Calls ------------------------------------------------------------------------------------------------------------------

abbrev pub form_by : Call → ResultsForm
form_by null = void_form
form_by (get_attributes f) = attributes_form
form_by (set_attributes f settings) = attributes_form
form_by root = void_form
form_by (look_up dir name) = found_form
form_by (read_link f) = path_form
form_by (read f offset count) = contents_form
form_by write_cache = void_form
form_by (write f offset bytes) = attributes_form
form_by (create dir name settings) = found_form
form_by (remove dir name) = status_form
form_by (rename from from_name to to_name) = status_form
form_by (make_link f dir name) = status_form
form_by (make_symbolic_link dir name path settings) = status_form
form_by (make_directory dir name settings) = found_form
form_by (remove_directory dir name) = status_form
form_by (read_directory dir cookie count) = listed_form
form_by (file_system_status f) = blocks_form

module _ (m : Inodes) (c : Context) where
  abbrev IsOfForm : ResultsForm → Outcome → Type 0
  IsOfForm form outcome = HasForm form outcome.1

  done_has_form : (call : Call) → IfItIsDone m c (IsOfForm (form_by call)) call
  done_has_form null = tt
  done_has_form (get_attributes handle) = λ x found. tt
  done_has_form (set_attributes handle settings) = λ x allowed found passed. tt
  done_has_form root = tt
  done_has_form (look_up handle name) = λ x there. tt
  done_has_form (read_link handle) = λ x target found holds. tt
  done_has_form (read handle offset count) = λ x found. tt
  done_has_form write_cache = tt
  done_has_form (write handle offset written) = λ x small found passed. tt
  done_has_form (create handle name settings) = λ dir allowed found passed. tt
  done_has_form (remove handle name) = λ dir entry child plain at passed. tt
  done_has_form (rename from from_name to to_name) = λ a b entry moved at. (tt, λ replaced allowed onto passed. tt)
  done_has_form (make_link handle in_directory name) = λ x plain dir allowed found no_directory dir_is passed. tt
  done_has_form (make_symbolic_link handle name target settings) = λ dir allowed found passed. tt
  done_has_form (make_directory handle name settings) = λ dir allowed found passed. tt
  done_has_form (remove_directory handle name) = λ dir entry child empty at passed. tt
  done_has_form (read_directory handle cookie count) = λ dir found. tt
  done_has_form (file_system_status handle) = λ x found. tt

  -- all forms but void have every refusal
  pub procedure_has_form : (call : Call) → HasForm (form_by call) (procedure m c call).1
  procedure_has_form null = tt
  procedure_has_form root = tt
  procedure_has_form write_cache = tt
  procedure_has_form call = procedure_holds m c (IsOfForm (form_by call)) (λ status. tt) call (done_has_form call)

-- Calls by number ----------------------------------------------------------------------------------------------------------

-- what is read, if anything, is a call whose reply has the form
Reads : Option ResultsForm → Option (Call × List ℕ) → Type 0
Reads form got = MatchOption got (Unit {0}) (λ call. form ≡ Some (form_by call.0))

reads_then : {A : Type 0} (form : Option ResultsForm) (o : Option A) (next : A → Option (Call × List ℕ)) → ((x : A) → Reads form (next x)) → Reads form (o >>= next)
unfolding Reads
reads_then form None next each = tt
reads_then form (Some x) next each = each x

reads_call : (form : Option ResultsForm) (call : Call) (rest : List ℕ) → form ≡ Some (form_by call) → Reads form (Some (call, rest))
unfolding Reads
reads_call form call rest is = is

file_reads : (form : Option ResultsForm) (make : Option ℕ → Call) (bytes : List ℕ) → ((f : Option ℕ) → form ≡ Some (form_by (make f))) → Reads form (file_at make bytes)
unfolding file_at
file_reads form make bytes is = search (reads_then, reads_call) depth 9

named_reads : (form : Option ResultsForm) (make : Option ℕ → List ℕ → Call) (bytes : List ℕ) → ((dir : Option ℕ) (name : List ℕ) → form ≡ Some (form_by (make dir name))) → Reads form (named_at make bytes)
unfolding named_at
named_reads form make bytes is = search (reads_then, reads_call) depth 9

named_with_settings_reads : (form : Option ResultsForm) (make : Option ℕ → List ℕ → Settings → Call) (bytes : List ℕ) → ((dir : Option ℕ) (name : List ℕ) (s : Settings) → form ≡ Some (form_by (make dir name s))) → Reads form (named_with_settings_at make bytes)
unfolding named_with_settings_at
named_with_settings_reads form make bytes is = search (reads_then, reads_call) depth 9

set_attributes_reads : (bytes : List ℕ) → Reads (Some attributes_form) (set_attributes_at bytes)
unfolding set_attributes_at
set_attributes_reads bytes = search (reads_then, reads_call) depth 9

read_reads : (bytes : List ℕ) → Reads (Some contents_form) (read_at bytes)
unfolding read_at
read_reads bytes = search (reads_then, reads_call) depth 9

write_reads : (bytes : List ℕ) → Reads (Some attributes_form) (write_at bytes)
unfolding write_at
write_reads bytes = search (reads_then, reads_call) depth 9

rename_reads : (bytes : List ℕ) → Reads (Some status_form) (rename_at bytes)
unfolding rename_at
rename_reads bytes = search (reads_then, reads_call) depth 9

link_reads : (bytes : List ℕ) → Reads (Some status_form) (link_at bytes)
unfolding link_at
link_reads bytes = search (reads_then, reads_call) depth 9

symbolic_link_reads : (bytes : List ℕ) → Reads (Some status_form) (symbolic_link_at bytes)
unfolding symbolic_link_at
symbolic_link_reads bytes = search (reads_then, reads_call) depth 9

read_directory_reads : (bytes : List ℕ) → Reads (Some listed_form) (read_directory_at bytes)
unfolding read_directory_at
read_directory_reads bytes = search (reads_then, reads_call) depth 9

by_none : Reads None None
unfolding Reads
by_none = tt

by_test : (b : Bool) (form : ResultsForm) (got : Option (Call × List ℕ)) (forms : Option ResultsForm) (reads : Option (Call × List ℕ))
    → Reads (Some form) got → Reads forms reads → Reads (cond b (Some form) forms) (cond b got reads)
by_test true form got forms reads here others = here
by_test false form got forms reads here others = others

numbered : (number : ℕ) (bytes : List ℕ) → Reads (form_of number) (fields_at number bytes)
unfolding fields_at
numbered number bytes =
    by_test (eqb number 0) _ _ _ _ (reads_call (Some void_form) null bytes refl) (
    by_test (eqb number 1) _ _ _ _ (file_reads (Some attributes_form) get_attributes bytes (λ f. refl)) (
    by_test (eqb number 2) _ _ _ _ (set_attributes_reads bytes) (
    by_test (eqb number 3) _ _ _ _ (reads_call (Some void_form) root bytes refl) (
    by_test (eqb number 4) _ _ _ _ (named_reads (Some found_form) look_up bytes (λ dir name. refl)) (
    by_test (eqb number 5) _ _ _ _ (file_reads (Some path_form) read_link bytes (λ f. refl)) (
    by_test (eqb number 6) _ _ _ _ (read_reads bytes) (
    by_test (eqb number 7) _ _ _ _ (reads_call (Some void_form) write_cache bytes refl) (
    by_test (eqb number 8) _ _ _ _ (write_reads bytes) (
    by_test (eqb number 9) _ _ _ _ (named_with_settings_reads (Some found_form) create bytes (λ dir name s. refl)) (
    by_test (eqb number 10) _ _ _ _ (named_reads (Some status_form) remove bytes (λ dir name. refl)) (
    by_test (eqb number 11) _ _ _ _ (rename_reads bytes) (
    by_test (eqb number 12) _ _ _ _ (link_reads bytes) (
    by_test (eqb number 13) _ _ _ _ (symbolic_link_reads bytes) (
    by_test (eqb number 14) _ _ _ _ (named_with_settings_reads (Some found_form) make_directory bytes (λ dir name s. refl)) (
    by_test (eqb number 15) _ _ _ _ (named_reads (Some status_form) remove_directory bytes (λ dir name. refl)) (
    by_test (eqb number 16) _ _ _ _ (read_directory_reads bytes) (
    by_test (eqb number 17) _ _ _ _ (file_reads (Some blocks_form) file_system_status bytes (λ f. refl)) by_none)))))))))))))))))

-- the call that is read with nothing after it
whole_call : (form : Option ResultsForm) (got : Option (Call × List ℕ)) (call : Call) → Reads form got → (got >>= λ fields. cond (eqb (length fields.1) 0) (Some fields.0) None) ≡ Some call → form ≡ Some (form_by call)
unfolding Reads
whole_call form None call reads is = absurd cc
whole_call form (Some fields) call reads is = if_whole (eqb (length fields.1) 0) is
  where
    if_whole : (b : Bool) → cond b (Some fields.0) None ≡ Some call → form ≡ Some (form_by call)
    if_whole true e = let same : fields.0 ≡ call = cc in subst (λ k. form ≡ Some (form_by k)) same reads
    if_whole false e = absurd cc

-- a number with arguments has a form, that of the call
pub form_of_call : (number : ℕ) (bytes : List ℕ) (call : Call) → arguments_of number bytes ≡ Some call → form_of number ≡ Some (form_by call)
unfolding arguments_of
form_of_call number bytes call arguments = whole_call (form_of number) (fields_at number bytes) call (numbered number bytes) arguments

pub replies_have_their_form : RepliesHaveTheirForm
replies_have_their_form m c number form bytes call is arguments =
    let same : form_by call ≡ form = same_Some (form_by call) form (sym (form_of_call number bytes call arguments) ∙ is) in
    subst (λ f. HasForm f (procedure m c call).1) same (procedure_has_form m c call)
