-- The arguments of a call are read by the server.
use Rattle.std.proofs.Common.{◌≡◌, ℕ, ◌^◌, ◌<◌, ◌≤◌, false, List, [], ◌∷◌, ◌++◌, length, replicate, Option, Some, None, Ok, refl, sym, ap, subst, ◌∙◌, append_assoc, append-nil, arith}
use Rattle.bfs_model.specs.Bytes.Arguments.{Call, Settings, arguments_of, fields_at, file_at, handle, handle_at, handle_id, link_at, named_at, named_with_settings_at, read_at, read_directory_at, rename_at, set_attributes_at, settings_at, symbolic_link_at, write_at, null, get_attributes, set_attributes, root, look_up, read_link, read, write_cache, write, create, remove, rename, make_link, make_symbolic_link, make_directory, remove_directory, read_directory, file_system_status}
use Rattle.bfs_model.specs.Bytes.Items.{counted, fixed, fixed_at, padding_of, word, words}
use Rattle.bfs_model.specs.Server.Limits.{most_data_bytes, most_name_bytes, most_path_bytes}
use Rattle.bfs_model.proofs.Public.{fixed_again, handle_leads, length_of_handle, opaque_again, word_again}
use Rattle.bfs_trace.specs.Messages.{arguments, handle_item, seconds_word, setting_word, settings_item, useconds_word}
use Rattle.bfs_trace.specs.Laws.SentCalls.{AreSettings, ArgumentsAreRead, IsFile, IsName, settings_read}

-- Items --------------------------------------------------------------------------------------------------------------

fixed_read : (item rest : List ℕ) → length item ≡ 32 → fixed_at false 32 (item ++ rest) ≡ Ok (item, rest)
unfolding fixed
fixed_read item rest long =
    let padded : fixed_at false 32 ((item ++ []) ++ rest) ≡ Ok (item, rest) =
    subst (λ n. fixed_at false n ((item ++ replicate (padding_of n) 0) ++ rest) ≡ Ok (item, rest)) long (fixed_again false item rest) in
    ap (λ bytes. fixed_at false 32 (bytes ++ rest)) (sym (append-nil item)) ∙ padded

zeros_lead_nowhere : handle_id (replicate 32 0) ≡ None
unfolding handle_id handle word
zeros_lead_nowhere = refl

file_read : (file : Option ℕ) (rest : List ℕ) → IsFile file → handle_at (handle_item file ++ rest) ≡ Some (file, rest)
unfolding handle_at
file_read None rest is = rw (fixed_read (replicate 32 0) rest refl, zeros_lead_nowhere) refl
file_read (Some id) rest is = rw (fixed_read (handle id) rest (length_of_handle id), handle_leads id is) refl

settings_items : (s : Settings) (rest : List ℕ) → settings_item s ++ rest
    ≡ word (setting_word s.mode) ++ (word (setting_word s.uid) ++ (word (setting_word s.gid) ++ (word (setting_word s.size)
    ++ (word (seconds_word s.atime) ++ (word (useconds_word s.atime) ++ (word (seconds_word s.mtime) ++ (word (useconds_word s.mtime) ++ rest)))))))
unfolding settings_item
settings_items s rest = simp append_assoc

settings_are_read : (s : Settings) (rest : List ℕ) → AreSettings s → settings_at (settings_item s ++ rest) ≡ Some (settings_read s, rest)
unfolding settings_at
settings_are_read s rest h =
    rw (
      settings_items s rest,
      word_again (setting_word s.mode) _ h.mode,
      word_again (setting_word s.uid) _ h.uid,
      word_again (setting_word s.gid) _ h.gid,
      word_again (setting_word s.size) _ h.size,
      word_again (seconds_word s.atime) _ h.atime.0,
      word_again (useconds_word s.atime) _ h.atime.1,
      word_again (seconds_word s.mtime) _ h.mtime.0,
      word_again (useconds_word s.mtime) rest h.mtime.1,
    ) refl

-- Forms ----------------------------------------------------------------------------------------------------------------

file_form : (call : Option ℕ → Call) (file : Option ℕ) → IsFile file → file_at call (handle_item file) ≡ Some (call file, [])
unfolding file_at
file_form call file is = rw (← append-nil (handle_item file), file_read file [] is) refl

named_form : (call : Option ℕ → List ℕ → Call) (dir : Option ℕ) (name : List ℕ) → IsFile dir → IsName name
    → named_at call (handle_item dir ++ counted name) ≡ Some (call dir name, [])
unfolding named_at
named_form call dir name is short =
    rw (file_read dir (counted name) is, ← append-nil (counted name), opaque_again false most_name_bytes name [] short (omega arith)) refl

named_with_settings_form : (call : Option ℕ → List ℕ → Settings → Call) (dir : Option ℕ) (name : List ℕ) (s : Settings) → IsFile dir → IsName name → AreSettings s
    → named_with_settings_at call (handle_item dir ++ counted name ++ settings_item s) ≡ Some (call dir name (settings_read s), [])
unfolding named_with_settings_at
named_with_settings_form call dir name s is short are =
    rw (
      append_assoc (handle_item dir) (counted name) (settings_item s),
      file_read dir (counted name ++ settings_item s) is,
      opaque_again false most_name_bytes name (settings_item s) short (omega arith),
      ← append-nil (settings_item s),
      settings_are_read s [] are,
    ) refl

set_attributes_form : (file : Option ℕ) (s : Settings) → IsFile file → AreSettings s → set_attributes_at (handle_item file ++ settings_item s) ≡ Some (set_attributes file (settings_read s), [])
unfolding set_attributes_at
set_attributes_form file s is are = rw (file_read file (settings_item s) is, ← append-nil (settings_item s), settings_are_read s [] are) refl

read_form : (file : Option ℕ) (offset count : ℕ) → IsFile file → offset < 2 ^ 32 → count < 2 ^ 32
    → read_at (handle_item file ++ (word offset ++ (word count ++ (word 0 ++ [])))) ≡ Some (read file offset count, [])
unfolding read_at
read_form file offset count is offset_is count_is =
    rw (
      file_read file (word offset ++ (word count ++ (word 0 ++ []))) is,
      word_again offset (word count ++ (word 0 ++ [])) offset_is,
      word_again count (word 0 ++ []) count_is,
      word_again 0 [] (omega arith),
    ) refl

write_items : (file : Option ℕ) (offset : ℕ) (bytes : List ℕ) → handle_item file ++ words (0 ∷ offset ∷ 0 ∷ []) ++ counted bytes
    ≡ handle_item file ++ (word 0 ++ (word offset ++ (word 0 ++ counted bytes)))
write_items file offset bytes = simp append_assoc

write_form : (file : Option ℕ) (offset : ℕ) (bytes : List ℕ) → IsFile file → offset < 2 ^ 32 → length bytes ≤ most_data_bytes
    → write_at (handle_item file ++ words (0 ∷ offset ∷ 0 ∷ []) ++ counted bytes) ≡ Some (write file offset bytes, [])
unfolding write_at
write_form file offset bytes is offset_is short =
    rw (
      write_items file offset bytes,
      file_read file (word 0 ++ (word offset ++ (word 0 ++ counted bytes))) is,
      word_again 0 (word offset ++ (word 0 ++ counted bytes)) (omega arith),
      word_again offset (word 0 ++ counted bytes) offset_is,
      word_again 0 (counted bytes) (omega arith),
      ← append-nil (counted bytes),
      opaque_again false most_data_bytes bytes [] short (omega arith),
    ) refl

rename_form : (from : Option ℕ) (from_name : List ℕ) (to : Option ℕ) (to_name : List ℕ) → IsFile from → IsName from_name → IsFile to → IsName to_name
    → rename_at (handle_item from ++ counted from_name ++ handle_item to ++ counted to_name) ≡ Some (rename from from_name to to_name, [])
unfolding rename_at
rename_form from from_name to to_name is short to_is to_short =
    rw (
      append_assoc (handle_item from ++ counted from_name) (handle_item to) (counted to_name),
      append_assoc (handle_item from) (counted from_name) (handle_item to ++ counted to_name),
      file_read from (counted from_name ++ (handle_item to ++ counted to_name)) is,
      opaque_again false most_name_bytes from_name (handle_item to ++ counted to_name) short (omega arith),
      file_read to (counted to_name) to_is,
      ← append-nil (counted to_name),
      opaque_again false most_name_bytes to_name [] to_short (omega arith),
    ) refl

link_form : (file dir : Option ℕ) (name : List ℕ) → IsFile file → IsFile dir → IsName name
    → link_at (handle_item file ++ handle_item dir ++ counted name) ≡ Some (make_link file dir name, [])
unfolding link_at
link_form file dir name is dir_is short =
    rw (
      append_assoc (handle_item file) (handle_item dir) (counted name),
      file_read file (handle_item dir ++ counted name) is,
      file_read dir (counted name) dir_is,
      ← append-nil (counted name),
      opaque_again false most_name_bytes name [] short (omega arith),
    ) refl

symbolic_link_form : (dir : Option ℕ) (name path : List ℕ) (s : Settings) → IsFile dir → IsName name → length path ≤ most_path_bytes → AreSettings s
    → symbolic_link_at (handle_item dir ++ counted name ++ counted path ++ settings_item s) ≡ Some (make_symbolic_link dir name path (settings_read s), [])
unfolding symbolic_link_at
symbolic_link_form dir name path s is short path_short are =
    rw (
      append_assoc (handle_item dir ++ counted name) (counted path) (settings_item s),
      append_assoc (handle_item dir) (counted name) (counted path ++ settings_item s),
      file_read dir (counted name ++ (counted path ++ settings_item s)) is,
      opaque_again false most_name_bytes name (counted path ++ settings_item s) short (omega arith),
      opaque_again false most_path_bytes path (settings_item s) path_short (omega arith),
      ← append-nil (settings_item s),
      settings_are_read s [] are,
    ) refl

read_directory_form : (dir : Option ℕ) (cookie count : ℕ) → IsFile dir → cookie < 2 ^ 32 → count < 2 ^ 32
    → read_directory_at (handle_item dir ++ (word cookie ++ (word count ++ []))) ≡ Some (read_directory dir cookie count, [])
unfolding read_directory_at
read_directory_form dir cookie count is cookie_is count_is =
    rw (file_read dir (word cookie ++ (word count ++ [])) is, word_again cookie (word count ++ []) cookie_is, word_again count [] count_is) refl

-- Calls ----------------------------------------------------------------------------------------------------------------

-- with nothing behind them
all_read : (procedure : ℕ) (bytes : List ℕ) (call : Call) → fields_at procedure bytes ≡ Some (call, []) → arguments_of procedure bytes ≡ Some call
unfolding arguments_of
all_read procedure bytes call is = rw is refl

pub arguments_are_read : ArgumentsAreRead
unfolding arguments fields_at
arguments_are_read null h = all_read 0 [] null refl
arguments_are_read (get_attributes file) h = all_read 1 (handle_item file) (get_attributes file) (file_form get_attributes file h)
arguments_are_read (set_attributes file s) h = all_read 2 _ _ (set_attributes_form file s h.0 h.1)
arguments_are_read root h = all_read 3 [] root refl
arguments_are_read (look_up dir name) h = all_read 4 _ _ (named_form look_up dir name h.0 h.1)
arguments_are_read (read_link file) h = all_read 5 _ _ (file_form read_link file h)
arguments_are_read (read file offset count) h = all_read 6 _ _ (read_form file offset count h.0 h.1 h.2)
arguments_are_read write_cache h = all_read 7 [] write_cache refl
arguments_are_read (write file offset bytes) h = all_read 8 _ _ (write_form file offset bytes h.0 h.1 h.2)
arguments_are_read (create dir name s) h = all_read 9 _ _ (named_with_settings_form create dir name s h.0 h.1 h.2)
arguments_are_read (remove dir name) h = all_read 10 _ _ (named_form remove dir name h.0 h.1)
arguments_are_read (rename from from_name to to_name) h = all_read 11 _ _ (rename_form from from_name to to_name h.0 h.1 h.2 h.3)
arguments_are_read (make_link file dir name) h = all_read 12 _ _ (link_form file dir name h.0 h.1 h.2)
arguments_are_read (make_symbolic_link dir name path s) h = all_read 13 _ _ (symbolic_link_form dir name path s h.0 h.1 h.2 h.3)
arguments_are_read (make_directory dir name s) h = all_read 14 _ _ (named_with_settings_form make_directory dir name s h.0 h.1 h.2)
arguments_are_read (remove_directory dir name) h = all_read 15 _ _ (named_form remove_directory dir name h.0 h.1)
arguments_are_read (read_directory dir cookie count) h = all_read 16 _ _ (read_directory_form dir cookie count h.0 h.1 h.2)
arguments_are_read (file_system_status file) h = all_read 17 _ _ (file_form file_system_status file h)
