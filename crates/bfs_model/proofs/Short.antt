-- The arguments that bytes spell are short, and storable: what is read of variable length is within its limit, and what is read of bytes is words and bytes.
use Rattle.std.proofs.Common.{◌≡◌, ℕ, ◌≤◌, List, length, Option, Some, None}
use Rattle.std.specs.Prelude.{◌==◌}
use Rattle.bfs_model.specs.Server.Limits.{most_name_bytes, most_path_bytes, most_data_bytes}
use Rattle.bfs_model.specs.Bytes.Arguments.{Settings, Call, null, get_attributes, set_attributes, root, look_up, read_link, read, write_cache, write, create, remove, rename, make_link, make_symbolic_link, make_directory, remove_directory, read_directory, file_system_status, file_at, named_at, named_with_settings_at, set_attributes_at, read_at, write_at, rename_at, link_at, symbolic_link_at, read_directory_at, fields_at, arguments_of}
use Rattle.bfs_model.specs.Server.Short.{IsShort}
use Rattle.bfs_model.specs.Server.Stored.{AreBytes, SettingsAreStorable, HandleIsStorable, CallIsStorable}
use Rattle.bfs_model.specs.Laws.Stored.{ArgumentsAreStorable}
use Rattle.bfs_model.proofs.Readings.{Gives, gives, gives_none, then_gives, chosen, next_word, next_item, next_handle, next_settings}

-- Forms of arguments --------------------------------------------------------------------------------------------------------------

-- F says that the arguments are bytes
module _ (F : Type 0) where
  abbrev CallIsGood : Call → Type 0
  CallIsGood call = IsShort call × (F → CallIsStorable call)

  abbrev IsGood : Call × List ℕ → Type 0
  IsGood spelled = CallIsGood spelled.0

  file_good : (call : Option ℕ → Call) → ((file : Option ℕ) → (F → HandleIsStorable file) → CallIsGood (call file)) → (bytes : List ℕ) → (F → AreBytes bytes) → Gives IsGood (file_at call bytes)
  unfolding file_at
  file_good call holds bytes are =
      next_handle F IsGood bytes _ are (λ file is.
      gives IsGood (call file.0, file.1) (holds file.0 is.handle))

  named_good : (call : Option ℕ → List ℕ → Call) → ((dir : Option ℕ) (name : List ℕ) → length name ≤ most_name_bytes → (F → HandleIsStorable dir) → (F → AreBytes name) → CallIsGood (call dir name))
      → (bytes : List ℕ) → (F → AreBytes bytes) → Gives IsGood (named_at call bytes)
  unfolding named_at
  named_good call holds bytes are =
      next_handle F IsGood bytes _ are (λ dir is.
      next_item F IsGood most_name_bytes dir.1 _ is.left (λ name named.
      gives IsGood (call dir.0 name.0, name.1) (holds dir.0 name.0 named.short is.handle named.bytes)))

  named_with_settings_good : (call : Option ℕ → List ℕ → Settings → Call)
      → ((dir : Option ℕ) (name : List ℕ) (settings : Settings) → length name ≤ most_name_bytes → (F → HandleIsStorable dir) → (F → AreBytes name) → (F → SettingsAreStorable settings) → CallIsGood (call dir name settings))
      → (bytes : List ℕ) → (F → AreBytes bytes) → Gives IsGood (named_with_settings_at call bytes)
  unfolding named_with_settings_at
  named_with_settings_good call holds bytes are =
      next_handle F IsGood bytes _ are (λ dir is.
      next_item F IsGood most_name_bytes dir.1 _ is.left (λ name named.
      next_settings F IsGood name.1 _ named.left (λ settings set.
      gives IsGood (call dir.0 name.0 settings.0, settings.1) (holds dir.0 name.0 settings.0 named.short is.handle named.bytes set))))

  set_attributes_good : (bytes : List ℕ) → (F → AreBytes bytes) → Gives IsGood (set_attributes_at bytes)
  unfolding set_attributes_at
  set_attributes_good bytes are =
      next_handle F IsGood bytes _ are (λ file is.
      next_settings F IsGood file.1 _ is.left (λ settings set.
      gives IsGood (set_attributes file.0 settings.0, settings.1) (tt, λ f. (is.handle f, set f))))

  read_good : (bytes : List ℕ) → (F → AreBytes bytes) → Gives IsGood (read_at bytes)
  unfolding read_at
  read_good bytes are =
      next_handle F IsGood bytes _ are (λ file is.
      next_word F IsGood file.1 _ is.left (λ offset is_offset.
      next_word F IsGood offset.1 _ is_offset.left (λ count is_count.
      next_word F IsGood count.1 _ is_count.left (λ total is_total.
      gives IsGood (read file.0 offset.0 count.0, total.1) (tt, λ f. (is.handle f, is_offset.word f, is_count.word f))))))

  write_good : (bytes : List ℕ) → (F → AreBytes bytes) → Gives IsGood (write_at bytes)
  unfolding write_at
  write_good bytes are =
      next_handle F IsGood bytes _ are (λ file is.
      next_word F IsGood file.1 _ is.left (λ begin is_begin.
      next_word F IsGood begin.1 _ is_begin.left (λ offset is_offset.
      next_word F IsGood offset.1 _ is_offset.left (λ total is_total.
      next_item F IsGood most_data_bytes total.1 _ is_total.left (λ written is_written.
      gives IsGood (write file.0 offset.0 written.0, written.1) (tt, λ f. (is.handle f, is_offset.word f, is_written.bytes f)))))))

  rename_good : (bytes : List ℕ) → (F → AreBytes bytes) → Gives IsGood (rename_at bytes)
  unfolding rename_at
  rename_good bytes are =
      next_handle F IsGood bytes _ are (λ from is_from.
      next_item F IsGood most_name_bytes from.1 _ is_from.left (λ from_name from_named.
      next_handle F IsGood from_name.1 _ from_named.left (λ to is_to.
      next_item F IsGood most_name_bytes to.1 _ is_to.left (λ to_name to_named.
      gives IsGood (rename from.0 from_name.0 to.0 to_name.0, to_name.1) (to_named.short, λ f. (is_from.handle f, from_named.bytes f, is_to.handle f, to_named.bytes f))))))

  link_good : (bytes : List ℕ) → (F → AreBytes bytes) → Gives IsGood (link_at bytes)
  unfolding link_at
  link_good bytes are =
      next_handle F IsGood bytes _ are (λ file is.
      next_handle F IsGood file.1 _ is.left (λ dir is_dir.
      next_item F IsGood most_name_bytes dir.1 _ is_dir.left (λ name named.
      gives IsGood (make_link file.0 dir.0 name.0, name.1) (named.short, λ f. (is.handle f, is_dir.handle f, named.bytes f)))))

  symbolic_link_good : (bytes : List ℕ) → (F → AreBytes bytes) → Gives IsGood (symbolic_link_at bytes)
  unfolding symbolic_link_at
  symbolic_link_good bytes are =
      next_handle F IsGood bytes _ are (λ dir is.
      next_item F IsGood most_name_bytes dir.1 _ is.left (λ name named.
      next_item F IsGood most_path_bytes name.1 _ named.left (λ path is_path.
      next_settings F IsGood path.1 _ is_path.left (λ settings set.
      gives IsGood (make_symbolic_link dir.0 name.0 path.0 settings.0, settings.1) ((named.short, is_path.short), λ f. (is.handle f, named.bytes f, is_path.bytes f, set f))))))

  read_directory_good : (bytes : List ℕ) → (F → AreBytes bytes) → Gives IsGood (read_directory_at bytes)
  unfolding read_directory_at
  read_directory_good bytes are =
      next_handle F IsGood bytes _ are (λ dir is.
      next_word F IsGood dir.1 _ is.left (λ cookie is_cookie.
      next_word F IsGood cookie.1 _ is_cookie.left (λ count is_count.
      gives IsGood (read_directory dir.0 cookie.0 count.0, count.1) (tt, λ f. (is.handle f, is_cookie.word f, is_count.word f)))))

  -- Calls --------------------------------------------------------------------------------------------------------------------------

  fields_good : (procedure : ℕ) (bytes : List ℕ) → (F → AreBytes bytes) → Gives IsGood (fields_at procedure bytes)
  unfolding fields_at
  fields_good procedure bytes are =
      chosen IsGood (procedure == 0) (Some (null, bytes)) _ (gives IsGood (null, bytes) (tt, λ f. tt)) (
      chosen IsGood (procedure == 1) (file_at get_attributes bytes) _ (file_good get_attributes (λ file is. (tt, is)) bytes are) (
      chosen IsGood (procedure == 2) (set_attributes_at bytes) _ (set_attributes_good bytes are) (
      chosen IsGood (procedure == 3) (Some (root, bytes)) _ (gives IsGood (root, bytes) (tt, λ f. tt)) (
      chosen IsGood (procedure == 4) (named_at look_up bytes) _ (named_good look_up (λ dir name few is named. (tt, λ f. (is f, named f))) bytes are) (
      chosen IsGood (procedure == 5) (file_at read_link bytes) _ (file_good read_link (λ file is. (tt, is)) bytes are) (
      chosen IsGood (procedure == 6) (read_at bytes) _ (read_good bytes are) (
      chosen IsGood (procedure == 7) (Some (write_cache, bytes)) _ (gives IsGood (write_cache, bytes) (tt, λ f. tt)) (
      chosen IsGood (procedure == 8) (write_at bytes) _ (write_good bytes are) (
      chosen IsGood (procedure == 9) (named_with_settings_at create bytes) _ (named_with_settings_good create (λ dir name settings few is named set. (few, λ f. (is f, named f, set f))) bytes are) (
      chosen IsGood (procedure == 10) (named_at remove bytes) _ (named_good remove (λ dir name few is named. (tt, λ f. (is f, named f))) bytes are) (
      chosen IsGood (procedure == 11) (rename_at bytes) _ (rename_good bytes are) (
      chosen IsGood (procedure == 12) (link_at bytes) _ (link_good bytes are) (
      chosen IsGood (procedure == 13) (symbolic_link_at bytes) _ (symbolic_link_good bytes are) (
      chosen IsGood (procedure == 14) (named_with_settings_at make_directory bytes) _ (named_with_settings_good make_directory (λ dir name settings few is named set. (few, λ f. (is f, named f, set f))) bytes are) (
      chosen IsGood (procedure == 15) (named_at remove_directory bytes) _ (named_good remove_directory (λ dir name few is named. (tt, λ f. (is f, named f))) bytes are) (
      chosen IsGood (procedure == 16) (read_directory_at bytes) _ (read_directory_good bytes are) (
      chosen IsGood (procedure == 17) (file_at file_system_status bytes) None (file_good file_system_status (λ file is. (tt, is)) bytes are) (gives_none IsGood))))))))))))))))))

  arguments_good : (procedure : ℕ) (bytes : List ℕ) → (F → AreBytes bytes) → Gives CallIsGood (arguments_of procedure bytes)
  unfolding arguments_of
  arguments_good procedure bytes are =
      then_gives IsGood CallIsGood (fields_at procedure bytes) _ (fields_good procedure bytes are) (λ fields good.
      chosen CallIsGood (length fields.1 == 0) (Some fields.0) None (gives CallIsGood fields.0 good) (gives_none CallIsGood))

pub arguments_are_short : (procedure : ℕ) (bytes : List ℕ) (call : Call) → arguments_of procedure bytes ≡ Some call → IsShort call
arguments_are_short procedure bytes call is = (arguments_good ⊥ procedure bytes (λ none. absurd none) call is).0

pub arguments_are_storable : ArgumentsAreStorable
arguments_are_storable number bytes call are is = (arguments_good (AreBytes bytes) number bytes (λ f. f) call is).1 are
