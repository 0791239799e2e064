-- The results of each procedure are read again.
use Rattle.std.proofs.Common.{◌≡◌, ℕ, zero, suc, ◌+◌, ◌-◌, ◌^◌, ◌<◌, ◌≤◌, Bool, true, false, eqb, List, [], ◌∷◌, ◌++◌, length, replicate, All, Some, Ok, refl, sym, ap, subst, ◌∙◌, append_assoc, append-nil, arith, flat_map}
use Rattle.std.proofs.lemmas.List.{length-append}
use Rattle.std.proofs.lemmas.List.Elements.{All-head, All-tail}
use Rattle.bfs_model.specs.Bytes.Items.{padding_of, fixed_at, word, words, boolean, fixed, counted}
use Rattle.bfs_model.specs.Server.Limits.{most_name_bytes, most_path_bytes, most_data_bytes}
use Rattle.bfs_model.specs.Server.Tree.{Time, Entry}
use Rattle.bfs_model.specs.Bytes.Attributes.{FileType, regular, directory_type, symbolic_link, Attributes, block_size, blocks_of, transfer_size, total_blocks}
use Rattle.bfs_model.specs.Bytes.Arguments.{handle}
use Rattle.bfs_model.specs.Bytes.Replies.{Status, perm, noent, acces, exist, notdir, isdir, fbig, nospc, notempty, stale, status_number, Reply, void, refused, done, attributes, found, path, contents, listed, free_blocks, type_number, type_bits, attribute_words, entry_item, results}
use Rattle.bfs_model.specs.Server.Stored.{IsWord, TimeIsSpellable}
use Rattle.bfs_model.specs.Laws.ReplyReading.{ResultsAreReadBack}
use Rattle.bfs_model.specs.Bytes.ReplyReading.{Reading, status_of, handle_told_at, time_told_at, type_told, permissions_told, attributes_told_at, ResultsForm, void_form, status_form, attributes_form, found_form, path_form, contents_form, listed_form, blocks_form, by_status, attributes_arm, found_arm, path_arm, contents_arm, entry_told_at, chain_at, listed_arm, blocks_arm, results_at, results_of, AttributesAreSpellable, EntryIsSpellable, FitsItems, HasForm}
use Rattle.bfs_model.proofs.Laws.{word_again, boolean_again, fixed_again, opaque_again}
use Rattle.bfs_model.proofs.Handles.{handle_leads, length_of_handle}
use Rattle.bfs_model.proofs.RepliesAgain.{after_number_again, at_end_again}

-- Parts of results ------------------------------------------------------------------------------------------------------

fixed_handle_again : (id : ℕ) (rest : List ℕ) → fixed_at true 32 (handle id ++ rest) ≡ Ok (handle id, rest)
unfolding fixed
fixed_handle_again id rest =
    let padded : fixed_at true 32 ((handle id ++ []) ++ rest) ≡ Ok (handle id, rest) =
    subst (λ n. fixed_at true n ((handle id ++ replicate (padding_of n) 0) ++ rest) ≡ Ok (handle id, rest)) (length_of_handle id) (fixed_again true (handle id) rest) in
    ap (λ bytes. fixed_at true 32 (bytes ++ rest)) (sym (append-nil (handle id))) ∙ padded

handle_again : (id : ℕ) (rest : List ℕ) → IsWord id → handle_told_at (handle id ++ rest) ≡ Ok (id, rest)
unfolding handle_told_at
handle_again id rest lt = rw (fixed_handle_again id rest, handle_leads id lt) refl

abbrev time_item : Time → List ℕ → List ℕ
time_item t rest = word t.seconds ++ (word t.useconds ++ rest)

time_again : (t : Time) (rest : List ℕ) → TimeIsSpellable t → time_told_at (time_item t rest) ≡ Ok (t, rest)
unfolding time_told_at
time_again t rest h = rw (word_again t.seconds (word t.useconds ++ rest) h.seconds, word_again t.useconds rest h.useconds) refl

mode_again : (t : FileType) (permissions : ℕ) → permissions < 4096 → permissions_told (type_bits t + permissions) ≡ permissions
mode_again regular permissions lt = omega arith
mode_again directory_type permissions lt = omega arith
mode_again symbolic_link permissions lt = omega arith

type_again : (t : FileType) (permissions : ℕ) → permissions < 4096 → type_told (type_number t) (type_bits t + permissions - permissions_told (type_bits t + permissions)) ≡ Some t
type_again t permissions lt = rw (mode_again t permissions lt, bits) (known t)
  where
    bits : type_bits t + permissions - permissions ≡ type_bits t
    bits = omega arith

    known : (t : FileType) → type_told (type_number t) (type_bits t) ≡ Some t
    known regular = refl
    known directory_type = refl
    known symbolic_link = refl

type_is_word : (t : FileType) → IsWord (type_number t)
type_is_word regular = omega arith
type_is_word directory_type = omega arith
type_is_word symbolic_link = omega arith

mode_is_word : (t : FileType) (permissions : ℕ) → permissions < 4096 → IsWord (type_bits t + permissions)
mode_is_word regular permissions lt = omega arith
mode_is_word directory_type permissions lt = omega arith
mode_is_word symbolic_link permissions lt = omega arith

blocks_are_word : (size : ℕ) → IsWord size → IsWord (blocks_of size)
blocks_are_word size lt = omega arith

abbrev after_fileid : Attributes → List ℕ → List ℕ
after_fileid a rest = time_item a.atime (time_item a.mtime (time_item a.ctime rest))

abbrev after_size : Attributes → List ℕ → List ℕ
after_size a rest = word block_size ++ (word 0 ++ (word (blocks_of a.size) ++ (word 1 ++ (word a.fileid ++ after_fileid a rest))))

abbrev attributes_item : Attributes → List ℕ → List ℕ
attributes_item a rest =
    word (type_number a.file_type) ++ (word (type_bits a.file_type + a.permissions) ++ (word a.links ++ (word a.uid ++ (word a.gid ++ (word a.size ++ after_size a rest)))))

attributes_are_spelled : (a : Attributes) (rest : List ℕ) → words (attribute_words a) ++ rest ≡ attributes_item a rest
attributes_are_spelled a rest = simp append_assoc

attributes_item_again : (a : Attributes) (rest : List ℕ) → AttributesAreSpellable a → attributes_told_at (attributes_item a rest) ≡ Ok (a, rest)
unfolding attributes_told_at
attributes_item_again a rest h =
    rw (
      word_again (type_number a.file_type) _ (type_is_word a.file_type),
      word_again (type_bits a.file_type + a.permissions) _ (mode_is_word a.file_type a.permissions h.permissions),
      word_again a.links _ h.links,
      word_again a.uid _ h.uid,
      word_again a.gid _ h.gid,
      word_again a.size (after_size a rest) h.size,
      after_number_again block_size _ (omega arith),
      after_number_again 0 _ (omega arith),
      after_number_again (blocks_of a.size) _ (blocks_are_word a.size h.size),
      after_number_again 1 (word a.fileid ++ after_fileid a rest) (omega arith),
      word_again a.fileid (after_fileid a rest) h.fileid,
      time_again a.atime _ h.atime,
      time_again a.mtime _ h.mtime,
      time_again a.ctime rest h.ctime,
      type_again a.file_type a.permissions h.permissions,
      mode_again a.file_type a.permissions h.permissions,
    ) refl

attributes_again : (a : Attributes) (rest : List ℕ) → AttributesAreSpellable a → attributes_told_at (words (attribute_words a) ++ rest) ≡ Ok (a, rest)
attributes_again a rest h = rw (attributes_are_spelled a rest) (attributes_item_again a rest h)

-- Arms -----------------------------------------------------------------------------------------------------------------

status_again : (status : Status) → status_of (status_number status) ≡ Some status
status_again perm = refl
status_again noent = refl
status_again acces = refl
status_again exist = refl
status_again notdir = refl
status_again isdir = refl
status_again fbig = refl
status_again nospc = refl
status_again notempty = refl
status_again stale = refl

status_is_word : (status : Status) → IsWord (status_number status)
status_is_word perm = omega arith
status_is_word noent = omega arith
status_is_word acces = omega arith
status_is_word exist = omega arith
status_is_word notdir = omega arith
status_is_word isdir = omega arith
status_is_word fbig = omega arith
status_is_word nospc = omega arith
status_is_word notempty = omega arith
status_is_word stale = omega arith

not_done : (status : Status) → eqb (status_number status) 0 ≡ false
not_done perm = refl
not_done noent = refl
not_done acces = refl
not_done exist = refl
not_done notdir = refl
not_done isdir = refl
not_done fbig = refl
not_done nospc = refl
not_done notempty = refl
not_done stale = refl

refused_again : (arm : List ℕ → Reading Reply) (status : Status) → by_status arm (results (refused status)) ≡ Ok (refused status, [])
unfolding by_status results
refused_again arm status = rw (word_again (status_number status) [] (status_is_word status), not_done status, status_again status) refl

done_again : (arm : List ℕ → Reading Reply) (bytes item : List ℕ) (reply : Reply) → bytes ≡ word 0 ++ item → arm item ≡ Ok (reply, []) → by_status arm bytes ≡ Ok (reply, [])
unfolding by_status
done_again arm bytes item reply parts is = rw (parts, word_again 0 item (omega arith)) is

attributes_arm_again : (of : Attributes) → AttributesAreSpellable of → attributes_arm (words (attribute_words of)) ≡ Ok (attributes of, [])
unfolding attributes_arm
attributes_arm_again of h = rw (← append-nil (words (attribute_words of)), attributes_again of [] h) refl

found_arm_again : (file : ℕ) (of : Attributes) → IsWord file → AttributesAreSpellable of → found_arm (handle file ++ words (attribute_words of)) ≡ Ok (found file of, [])
unfolding found_arm
found_arm_again file of lt h = rw (handle_again file (words (attribute_words of)) lt, ← append-nil (words (attribute_words of)), attributes_again of [] h) refl

path_arm_again : (target : List ℕ) → length target ≤ most_path_bytes → path_arm (counted target) ≡ Ok (path target, [])
unfolding path_arm
path_arm_again target most = rw (← append-nil (counted target), opaque_again true most_path_bytes target [] most (omega arith)) refl

contents_arm_again : (of : Attributes) (read : List ℕ) → AttributesAreSpellable of → length read ≤ most_data_bytes → contents_arm (words (attribute_words of) ++ counted read) ≡ Ok (contents of read, [])
unfolding contents_arm
contents_arm_again of read h most = rw (attributes_again of (counted read) h, ← append-nil (counted read), opaque_again true most_data_bytes read [] most (omega arith)) refl

blocks_arm_again : (free : ℕ) → IsWord free → blocks_arm (words (transfer_size ∷ block_size ∷ total_blocks ∷ free ∷ free ∷ [])) ≡ Ok (free_blocks free, [])
unfolding blocks_arm
blocks_arm_again free lt = rw (after_number_again transfer_size _ (omega arith), after_number_again block_size _ (omega arith), after_number_again total_blocks _ (omega arith), word_again free _ lt, after_number_again free [] lt) refl

-- Chains of entries ------------------------------------------------------------------------------------------------------

entry_again : (entry : Entry) (rest : List ℕ) → EntryIsSpellable entry → entry_told_at (word entry.child ++ (counted entry.name ++ (word entry.cookie ++ rest))) ≡ Ok (entry, rest)
unfolding entry_told_at
entry_again entry rest h =
    let long : length entry.name < 2 ^ 32 = let most : length entry.name ≤ most_name_bytes = h.name in omega arith in
    rw (word_again entry.child _ h.child, opaque_again true most_name_bytes entry.name _ h.name long, word_again entry.cookie rest h.cookie) refl

-- with as much fuel as there are entries, and one more for their end
chain_again : (most : ℕ) (entries : List Entry) (rest : List ℕ) → length entries < most → All EntryIsSpellable entries → chain_at most (flat_map entry_item entries ++ (boolean false ++ rest)) ≡ Ok (entries, rest)
unfolding chain_at
chain_again zero entries rest fuel h = absurd (omega arith)
chain_again (suc most) [] rest fuel h = rw (boolean_again false rest) refl
chain_again (suc most) (entry ∷ entries) rest fuel h =
    let others : List ℕ = flat_map entry_item entries ++ (boolean false ++ rest) in
    simp append_assoc (rw (
      boolean_again true (word entry.child ++ (counted entry.name ++ (word entry.cookie ++ others))),
      entry_again entry others (All-head EntryIsSpellable entry entries h),
      chain_again most entries rest (omega arith) (All-tail EntryIsSpellable entry entries h),
    ) refl)

length_of_word : (n : ℕ) → length (word n) ≡ 4
unfolding word
length_of_word n = refl

length_of_false : length (boolean false) ≡ 4
unfolding boolean
length_of_false = length_of_word 0

-- there are no fewer bytes than entries
entries_are_fewer : (entries : List Entry) → length entries ≤ length (flat_map entry_item entries)
entries_are_fewer [] = omega arith
entries_are_fewer (entry ∷ entries) =
    let fewer = entries_are_fewer entries in
    let front : List ℕ = boolean true ++ word entry.child ++ counted entry.name in
    omega (arith, length-append (entry_item entry) (flat_map entry_item entries), length-append front (word entry.cookie), length_of_word entry.cookie)

listed_arm_again : (entries : List Entry) (all : Bool) → All EntryIsSpellable entries → listed_arm (flat_map entry_item entries ++ (boolean false ++ boolean all)) ≡ Ok (listed entries all, [])
unfolding listed_arm
listed_arm_again entries all h =
    let chain : List ℕ = flat_map entry_item entries in
    let end : List ℕ = boolean false ++ boolean all in
    let fuel : length entries < length (chain ++ end) =
    omega (arith, length-append chain end, length-append (boolean false) (boolean all), length_of_false, entries_are_fewer entries) in
    rw (chain_again (length (chain ++ end)) entries (boolean all) fuel h, ← append-nil (boolean all)) (rw (boolean_again all []) refl)

-- Results ------------------------------------------------------------------------------------------------------------------

-- what stands behind the status
one_part : (a : List ℕ) → words (0 ∷ []) ++ a ≡ word 0 ++ a
one_part a = simp append_assoc

two_parts : (a b : List ℕ) → words (0 ∷ []) ++ a ++ b ≡ word 0 ++ (a ++ b)
two_parts a b = simp append_assoc

three_parts : (a b c : List ℕ) → words (0 ∷ []) ++ a ++ b ++ c ≡ word 0 ++ (a ++ (b ++ c))
three_parts a b c = simp append_assoc

-- each form and reply that go together
form_again : (form : ResultsForm) (reply : Reply) → HasForm form reply → FitsItems reply → results_at form (results reply) ≡ Ok (reply, [])
unfolding results
form_again void_form void h fits = refl
form_again status_form (refused status) h fits = refused_again (λ rest. Ok (done, rest)) status
form_again status_form done h fits = done_again (λ rest. Ok (done, rest)) _ [] done refl refl
form_again attributes_form (refused status) h fits = refused_again attributes_arm status
form_again attributes_form (attributes of) h fits = done_again attributes_arm _ _ (attributes of) (one_part (words (attribute_words of))) (attributes_arm_again of fits)
form_again found_form (refused status) h fits = refused_again found_arm status
form_again found_form (found file of) h fits = done_again found_arm _ _ (found file of) (two_parts (handle file) (words (attribute_words of))) (found_arm_again file of fits.0 fits.1)
form_again path_form (refused status) h fits = refused_again path_arm status
form_again path_form (path target) h fits = done_again path_arm _ _ (path target) (one_part (counted target)) (path_arm_again target fits)
form_again contents_form (refused status) h fits = refused_again contents_arm status
form_again contents_form (contents of read) h fits = done_again contents_arm _ _ (contents of read) (two_parts (words (attribute_words of)) (counted read)) (contents_arm_again of read fits.0 fits.1)
form_again listed_form (refused status) h fits = refused_again listed_arm status
form_again listed_form (listed entries all) h fits =
    done_again listed_arm _ _ (listed entries all) (three_parts (flat_map entry_item entries) (boolean false) (boolean all)) (listed_arm_again entries all fits)
form_again blocks_form (refused status) h fits = refused_again blocks_arm status
form_again blocks_form (free_blocks free) h fits = done_again blocks_arm _ _ (free_blocks free) refl (blocks_arm_again free fits)
form_again form reply h fits = elim h [ ]

pub results_again : ResultsAreReadBack
unfolding results_of
results_again procedure form reply is h = rw (is, form_again form reply h.has_form h.items) (at_end_again reply)
