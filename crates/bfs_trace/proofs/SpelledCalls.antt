-- What words spell is a call of their procedure whose numbers are words, so that the server reads it.
use Rattle.std.proofs.Common.{◌≡◌, ℕ, ◌≤◌, ◌&&◌, Bool, cond, true, false, nat_le, List, [], ◌∷◌, length, Option, Some, None, IfSome, codes, refl, sym, subst, arith}
use Rattle.std.specs.Prelude.{◌==◌, bytes_eq}
use Rattle.std.specs.Option.{option_map}
use Rattle.std.specs.Str.Parse.{digits_value}
use Rattle.std.proofs.lemmas.Bool.{eqb-true, leb-true}
use Rattle.bfs_model.specs.Bytes.Arguments.{Call, Settings, arguments_of, null, get_attributes, set_attributes, root, look_up, read_link, read, write_cache, write, create, remove, rename, make_link, make_symbolic_link, make_directory, remove_directory, read_directory, file_system_status}
use Rattle.bfs_model.specs.Bytes.Call.{◌>>=◌}
use Rattle.bfs_model.specs.Server.Stored.{IsWord}
use Rattle.bfs_model.specs.Server.Tree.{Time}
use Rattle.bfs_trace.specs.Messages.{arguments, seconds_word, setting_word, useconds_word}
use Rattle.bfs_trace.specs.Operands.{data_in, file_in, file_spelled, mode_in, most_number, number_in, number_setting_in, set_time_spelled, setting_spelled, settings_in, text_in, time_in_parts, time_of_call, time_setting_in, time_spelled}
use Rattle.bfs_trace.specs.Laws.SentCalls.{AreSettings, FitsItems, KeepsLimits, SpelledCallsAreRead, call_read, procedure_of}
use Rattle.bfs_trace.specs.Verbs.{call_in_words, file_words, link_words, named_with_settings_words, named_words, read_directory_words, read_words, rename_words, set_attributes_words, symbolic_link_words, write_words}
use Rattle.bfs_trace.specs.Words.{are_digits, digits_spelled, number_spelled, only_word, parts, unless_more, word_in}
use Rattle.bfs_trace.proofs.SentArguments.{arguments_are_read}

-- What holds of a value, if there is one -----------------------------------------------------------------------------

pub bound : {A B : Type 0} (P : A → Type 0) (Q : B → Type 0) (o : Option A) (f : A → Option B) → IfSome o P → ((x : A) → P x → IfSome (f x) Q) → IfSome (o >>= f) Q
bound P Q None f h g = tt
bound P Q (Some x) f h g = g x h

-- whatever the value
any : {A B : Type 0} (Q : B → Type 0) (o : Option A) (f : A → Option B) → ((x : A) → IfSome (f x) Q) → IfSome (o >>= f) Q
any Q None f g = tt
any Q (Some x) f g = g x

chosen : {A : Type 0} (P : A → Type 0) (b : Bool) (x y : Option A) → (b ≡ true → IfSome x P) → IfSome y P → IfSome (cond b x y) P
chosen P true x y h k = h refl
chosen P false x y h k = k

alone : {A : Type 0} (P : A → Type 0) (words : List (List ℕ)) (x : A) → P x → IfSome (unless_more words x) P
alone P [] x h = h
alone P (word ∷ words) x h = tt

-- Words ----------------------------------------------------------------------------------------------------------------

both_true : (a b : Bool) → (a && b) ≡ true → b ≡ true
both_true true b is = is
both_true false b is = absurd cc

pub digits_fit : (radix max : ℕ) (word : List ℕ) → IfSome (digits_spelled radix max word) (λ n. n ≤ max)
unfolding digits_spelled
digits_fit radix max [] = tt
digits_fit radix max (byte ∷ bytes) =
    chosen (λ n. n ≤ max) (are_digits radix (byte ∷ bytes) && nat_le (digits_value radix (byte ∷ bytes)) max) (Some (digits_value radix (byte ∷ bytes))) None
    (λ both. leb-true (digits_value radix (byte ∷ bytes)) max (both_true (are_digits radix (byte ∷ bytes)) _ both)) tt

abbrev pub WordFirst : {A : Type 0} → (ℕ × A) → Type 0
WordFirst x = IsWord x.0

file_fits : (word : List ℕ) → IfSome (file_spelled word) (λ n. n ≤ most_number)
unfolding file_spelled
file_fits [] = tt
file_fits (mark ∷ digits) = chosen (λ n. n ≤ most_number) (mark == 35) (number_spelled most_number digits) None (λ _. digits_fit 10 most_number digits) tt

file_in_fits : (words : List (List ℕ)) → IfSome (file_in words) WordFirst
file_in_fits words =
    any WordFirst (word_in words) _ (λ word.
    bound (λ n. n ≤ most_number) WordFirst (file_spelled word.0) _ (file_fits word.0) (λ n le. omega (arith, le)))

pub number_in_fits : (words : List (List ℕ)) → IfSome (number_in words) WordFirst
number_in_fits words =
    any WordFirst (word_in words) _ (λ word.
    bound (λ n. n ≤ most_number) WordFirst (number_spelled most_number word.0) _ (digits_fit 10 most_number word.0) (λ n le. omega (arith, le)))

-- Settings -------------------------------------------------------------------------------------------------------------

abbrev NumberFits : Option ℕ → Type 0
NumberFits setting = IsWord (setting_word setting)

abbrev TimeFits : Option Time → Type 0
TimeFits time = IsWord (seconds_word time) × IsWord (useconds_word time)

set : {A : Type 0} (P : Option A → Type 0) (value : List ℕ → Option A) (word : List ℕ) → P None → IfSome (value word) (λ x. P (Some x)) → IfSome (setting_spelled value word) P
set P value word none some = chosen P (bytes_eq word (codes "-")) (Some None) (option_map (λ x. Some x) (value word)) (λ _. none) (mapped (value word) some)
  where
    mapped : (o : Option _) → IfSome o (λ x. P (Some x)) → IfSome (option_map (λ x. Some x) o) P
    mapped None h = tt
    mapped (Some x) h = h

weaker : {A : Type 0} (P Q : A → Type 0) (o : Option A) → ((x : A) → P x → Q x) → IfSome o P → IfSome o Q
weaker P Q None f h = tt
weaker P Q (Some x) f h = f x h

number_fits : (radix : ℕ) (word : List ℕ) → IfSome (setting_spelled (digits_spelled radix most_number) word) NumberFits
number_fits radix word =
    set NumberFits (digits_spelled radix most_number) word (omega arith)
    (weaker (λ n. n ≤ most_number) (λ n. IsWord n) (digits_spelled radix most_number word) (λ n le. omega (arith, le)) (digits_fit radix most_number word))

time_parts_fit : (words : List (List ℕ)) → IfSome (time_in_parts words) (λ t. TimeFits (Some t))
time_parts_fit [] = tt
time_parts_fit (seconds ∷ rest) =
    any (λ t. TimeFits (Some t)) (only_word rest) _ (λ useconds.
    chosen (λ t. TimeFits (Some t)) (length useconds == 6) _ None (λ _.
    bound (λ n. n ≤ most_number) (λ t. TimeFits (Some t)) (number_spelled most_number seconds) _ (digits_fit 10 most_number seconds) (λ s s_le.
    bound (λ n. n ≤ 999999) (λ t. TimeFits (Some t)) (number_spelled 999999 useconds) _ (digits_fit 10 999999 useconds) (λ u u_le.
    (omega (arith, s_le), omega (arith, u_le))))) tt)

set_time_fits : (word : List ℕ) → IfSome (set_time_spelled word) (λ t. TimeFits (Some t))
unfolding set_time_spelled time_spelled
set_time_fits word =
    chosen (λ t. TimeFits (Some t)) (bytes_eq word (codes "now")) (Some time_of_call) (time_spelled word) (λ _. (omega arith, omega arith)) (time_parts_fit (parts 46 word))

mode_in_fits : (words : List (List ℕ)) → IfSome (mode_in words) (λ x. NumberFits x.0)
unfolding mode_in
mode_in_fits words =
    any (λ x. NumberFits x.0) (word_in words) _ (λ word.
    bound NumberFits (λ x. NumberFits x.0) (setting_spelled (digits_spelled 8 most_number) word.0) _ (number_fits 8 word.0) (λ n h. h))

number_setting_fits : (words : List (List ℕ)) → IfSome (number_setting_in words) (λ x. NumberFits x.0)
unfolding number_setting_in
number_setting_fits words =
    any (λ x. NumberFits x.0) (word_in words) _ (λ word.
    bound NumberFits (λ x. NumberFits x.0) (setting_spelled (number_spelled most_number) word.0) _ (number_fits 10 word.0) (λ n h. h))

time_setting_fits : (words : List (List ℕ)) → IfSome (time_setting_in words) (λ x. TimeFits x.0)
unfolding time_setting_in
time_setting_fits words =
    any (λ x. TimeFits x.0) (word_in words) _ (λ word.
    bound TimeFits (λ x. TimeFits x.0) (setting_spelled set_time_spelled word.0) _ (set TimeFits set_time_spelled word.0 (omega arith, omega arith) (set_time_fits word.0)) (λ t h. h))

settings_fit : (words : List (List ℕ)) → IfSome (settings_in words) (λ x. AreSettings x.0)
unfolding settings_in
settings_fit words =
    bound (λ x. NumberFits x.0) (λ x. AreSettings x.0) (mode_in words) _ (mode_in_fits words) (λ mode mode_is.
    bound (λ x. NumberFits x.0) (λ x. AreSettings x.0) (number_setting_in mode.1) _ (number_setting_fits mode.1) (λ uid uid_is.
    bound (λ x. NumberFits x.0) (λ x. AreSettings x.0) (number_setting_in uid.1) _ (number_setting_fits uid.1) (λ gid gid_is.
    bound (λ x. NumberFits x.0) (λ x. AreSettings x.0) (number_setting_in gid.1) _ (number_setting_fits gid.1) (λ size size_is.
    bound (λ x. TimeFits x.0) (λ x. AreSettings x.0) (time_setting_in size.1) _ (time_setting_fits size.1) (λ atime atime_is.
    bound (λ x. TimeFits x.0) (λ x. AreSettings x.0) (time_setting_in atime.1) _ (time_setting_fits atime.1) (λ mtime mtime_is.
    record { mode = mode_is; uid = uid_is; gid = gid_is; size = size_is; atime = atime_is; mtime = mtime_is }))))))

-- Forms ----------------------------------------------------------------------------------------------------------------

file_form : (P : Call → Type 0) (call : Option ℕ → Call) (words : List (List ℕ)) → ((file : ℕ) → IsWord file → P (call (Some file))) → IfSome (file_words call words) P
unfolding file_words
file_form P call words h = bound WordFirst P (file_in words) _ (file_in_fits words) (λ file is. alone P file.1 _ (h file.0 is))

named_form : (P : Call → Type 0) (call : Option ℕ → List ℕ → Call) (words : List (List ℕ)) → ((dir : ℕ) (name : List ℕ) → IsWord dir → P (call (Some dir) name)) → IfSome (named_words call words) P
unfolding named_words
named_form P call words h =
    bound WordFirst P (file_in words) _ (file_in_fits words) (λ dir is.
    any P (text_in dir.1) _ (λ name. alone P name.1 _ (h dir.0 name.0 is)))

named_with_settings_form : (P : Call → Type 0) (call : Option ℕ → List ℕ → Settings → Call) (words : List (List ℕ))
    → ((dir : ℕ) (name : List ℕ) (s : Settings) → IsWord dir → AreSettings s → P (call (Some dir) name s)) → IfSome (named_with_settings_words call words) P
unfolding named_with_settings_words
named_with_settings_form P call words h =
    bound WordFirst P (file_in words) _ (file_in_fits words) (λ dir is.
    any P (text_in dir.1) _ (λ name.
    bound (λ x. AreSettings x.0) P (settings_in name.1) _ (settings_fit name.1) (λ s are. alone P s.1 _ (h dir.0 name.0 s.0 is are))))

set_attributes_form : (P : Call → Type 0) (words : List (List ℕ)) → ((file : ℕ) (s : Settings) → IsWord file → AreSettings s → P (set_attributes (Some file) s)) → IfSome (set_attributes_words words) P
unfolding set_attributes_words
set_attributes_form P words h =
    bound WordFirst P (file_in words) _ (file_in_fits words) (λ file is.
    bound (λ x. AreSettings x.0) P (settings_in file.1) _ (settings_fit file.1) (λ s are. alone P s.1 _ (h file.0 s.0 is are)))

read_form : (P : Call → Type 0) (words : List (List ℕ)) → ((file offset count : ℕ) → IsWord file → IsWord offset → IsWord count → P (read (Some file) offset count)) → IfSome (read_words words) P
unfolding read_words
read_form P words h =
    bound WordFirst P (file_in words) _ (file_in_fits words) (λ file is.
    bound WordFirst P (number_in file.1) _ (number_in_fits file.1) (λ offset offset_is.
    bound WordFirst P (number_in offset.1) _ (number_in_fits offset.1) (λ count count_is. alone P count.1 _ (h file.0 offset.0 count.0 is offset_is count_is))))

write_form : (P : Call → Type 0) (words : List (List ℕ)) → ((file offset : ℕ) (bytes : List ℕ) → IsWord file → IsWord offset → P (write (Some file) offset bytes)) → IfSome (write_words words) P
unfolding write_words
write_form P words h =
    bound WordFirst P (file_in words) _ (file_in_fits words) (λ file is.
    bound WordFirst P (number_in file.1) _ (number_in_fits file.1) (λ offset offset_is.
    any P (data_in offset.1) _ (λ bytes. alone P bytes.1 _ (h file.0 offset.0 bytes.0 is offset_is))))

rename_form : (P : Call → Type 0) (words : List (List ℕ)) → ((from : ℕ) (from_name : List ℕ) (to : ℕ) (to_name : List ℕ) → IsWord from → IsWord to → P (rename (Some from) from_name (Some to) to_name)) → IfSome (rename_words words) P
unfolding rename_words
rename_form P words h =
    bound WordFirst P (file_in words) _ (file_in_fits words) (λ from is.
    any P (text_in from.1) _ (λ from_name.
    bound WordFirst P (file_in from_name.1) _ (file_in_fits from_name.1) (λ to to_is.
    any P (text_in to.1) _ (λ to_name. alone P to_name.1 _ (h from.0 from_name.0 to.0 to_name.0 is to_is)))))

link_form : (P : Call → Type 0) (words : List (List ℕ)) → ((file dir : ℕ) (name : List ℕ) → IsWord file → IsWord dir → P (make_link (Some file) (Some dir) name)) → IfSome (link_words words) P
unfolding link_words
link_form P words h =
    bound WordFirst P (file_in words) _ (file_in_fits words) (λ file is.
    bound WordFirst P (file_in file.1) _ (file_in_fits file.1) (λ dir dir_is.
    any P (text_in dir.1) _ (λ name. alone P name.1 _ (h file.0 dir.0 name.0 is dir_is))))

symbolic_link_form : (P : Call → Type 0) (words : List (List ℕ)) → ((dir : ℕ) (name path : List ℕ) (s : Settings) → IsWord dir → AreSettings s → P (make_symbolic_link (Some dir) name path s)) → IfSome (symbolic_link_words words) P
unfolding symbolic_link_words
symbolic_link_form P words h =
    bound WordFirst P (file_in words) _ (file_in_fits words) (λ dir is.
    any P (text_in dir.1) _ (λ name.
    any P (text_in name.1) _ (λ path.
    bound (λ x. AreSettings x.0) P (settings_in path.1) _ (settings_fit path.1) (λ s are. alone P s.1 _ (h dir.0 name.0 path.0 s.0 is are)))))

read_directory_form : (P : Call → Type 0) (words : List (List ℕ)) → ((dir cookie count : ℕ) → IsWord dir → IsWord cookie → IsWord count → P (read_directory (Some dir) cookie count)) → IfSome (read_directory_words words) P
unfolding read_directory_words
read_directory_form P words h =
    bound WordFirst P (file_in words) _ (file_in_fits words) (λ dir is.
    bound WordFirst P (number_in dir.1) _ (number_in_fits dir.1) (λ cookie cookie_is.
    bound WordFirst P (number_in cookie.1) _ (number_in_fits cookie.1) (λ count count_is. alone P count.1 _ (h dir.0 cookie.0 count.0 is cookie_is count_is))))

-- Calls ----------------------------------------------------------------------------------------------------------------

-- a call of that procedure, which fits where it keeps to the limits
abbrev IsOf : (procedure : ℕ) → Call → Type 0
IsOf procedure call = (procedure_of call ≡ procedure) × (KeepsLimits call → FitsItems call)

-- where the procedure is that number
abbrev is_it : (procedure number : ℕ) → (procedure == number) ≡ true → number ≡ procedure
is_it procedure number is = sym (eqb-true procedure number is)

calls_fit : (procedure : ℕ) (words : List (List ℕ)) → IfSome (call_in_words procedure words) (IsOf procedure)
unfolding call_in_words
calls_fit p words =
    chosen (IsOf p) (p == 0) (unless_more words null) _ (λ is. alone (IsOf p) words null (is_it p 0 is, λ _. tt)) (
    chosen (IsOf p) (p == 1) (file_words get_attributes words) _ (λ is. file_form (IsOf p) get_attributes words (λ file h. (is_it p 1 is, λ _. h))) (
    chosen (IsOf p) (p == 2) (set_attributes_words words) _ (λ is. set_attributes_form (IsOf p) words (λ file s h k. (is_it p 2 is, λ _. (h, k)))) (
    chosen (IsOf p) (p == 3) (unless_more words root) _ (λ is. alone (IsOf p) words root (is_it p 3 is, λ _. tt)) (
    chosen (IsOf p) (p == 4) (named_words look_up words) _ (λ is. named_form (IsOf p) look_up words (λ dir name h. (is_it p 4 is, λ short. (h, short)))) (
    chosen (IsOf p) (p == 5) (file_words read_link words) _ (λ is. file_form (IsOf p) read_link words (λ file h. (is_it p 5 is, λ _. h))) (
    chosen (IsOf p) (p == 6) (read_words words) _ (λ is. read_form (IsOf p) words (λ file offset count h k l. (is_it p 6 is, λ _. (h, k, l)))) (
    chosen (IsOf p) (p == 7) (unless_more words write_cache) _ (λ is. alone (IsOf p) words write_cache (is_it p 7 is, λ _. tt)) (
    chosen (IsOf p) (p == 8) (write_words words) _ (λ is. write_form (IsOf p) words (λ file offset bytes h k. (is_it p 8 is, λ short. (h, k, short)))) (
    chosen (IsOf p) (p == 9) (named_with_settings_words create words) _ (λ is. named_with_settings_form (IsOf p) create words (λ dir name s h k. (is_it p 9 is, λ short. (h, short, k)))) (
    chosen (IsOf p) (p == 10) (named_words remove words) _ (λ is. named_form (IsOf p) remove words (λ dir name h. (is_it p 10 is, λ short. (h, short)))) (
    chosen (IsOf p) (p == 11) (rename_words words) _ (λ is. rename_form (IsOf p) words (λ from from_name to to_name h k. (is_it p 11 is, λ short. (h, short.0, k, short.1)))) (
    chosen (IsOf p) (p == 12) (link_words words) _ (λ is. link_form (IsOf p) words (λ file dir name h k. (is_it p 12 is, λ short. (h, k, short)))) (
    chosen (IsOf p) (p == 13) (symbolic_link_words words) _ (λ is. symbolic_link_form (IsOf p) words (λ dir name path s h k. (is_it p 13 is, λ short. (h, short.0, short.1, k)))) (
    chosen (IsOf p) (p == 14) (named_with_settings_words make_directory words) _ (λ is. named_with_settings_form (IsOf p) make_directory words (λ dir name s h k. (is_it p 14 is, λ short. (h, short, k)))) (
    chosen (IsOf p) (p == 15) (named_words remove_directory words) _ (λ is. named_form (IsOf p) remove_directory words (λ dir name h. (is_it p 15 is, λ short. (h, short)))) (
    chosen (IsOf p) (p == 16) (read_directory_words words) _ (λ is. read_directory_form (IsOf p) words (λ dir cookie count h k l. (is_it p 16 is, λ _. (h, k, l)))) (
    chosen (IsOf p) (p == 17) (file_words file_system_status words) None (λ is. file_form (IsOf p) file_system_status words (λ file h. (is_it p 17 is, λ _. h))) tt)))))))))))))))))

pub spelled_calls_are_read : SpelledCallsAreRead
spelled_calls_are_read procedure words call spelled short =
    let fits : IsOf procedure call = subst (λ o. IfSome o (IsOf procedure)) spelled (calls_fit procedure words) in
    subst (λ number. arguments_of number (arguments call) ≡ Some (call_read call)) fits.0 (arguments_are_read call (fits.1 short))
