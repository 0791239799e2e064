-- What holds of all that readers of bytes give: it is short, and made of words and bytes.
use Rattle.std.proofs.Common.{◌≡◌, ℕ, ◌≤◌, Bool, true, false, cond, ltb, ◌||◌, List, length, take, drop, Option, Some, None, Result, Ok, Err, refl, subst, arith}
use Rattle.std.specs.Prelude.{◌==◌, option_and_then, IfSome}
use Rattle.std.specs.Int.{w32, from_be_bytes}
use Rattle.std.specs.Result.{result_ok}
use Rattle.std.specs.Str.{bytes_eq}
use Rattle.std.proofs.lemmas.Bool.{ltb-false}
use Rattle.std.proofs.lemmas.List.{length-take}
use Rattle.std.proofs.lemmas.List.Elements.{All-take, All-drop}
use Rattle.bfs_model.specs.Bytes.Items.{Fault, short, too_long, ◌>>=◌, padding_of, word_at, bytes_at, fixed_at, opaque_at}
use Rattle.bfs_model.specs.Bytes.Arguments.{Settings, all_ones, word_set, time_set, handle, handle_id, handle_at, settings_at}
use Rattle.bfs_model.specs.Server.Stored.{IsWord, IsByte, AreBytes, TimeIsSpellable, SettingsAreStorable, HandleIsStorable}
use Rattle.bfs_model.proofs.Laws.{word_below}

-- Tools ------------------------------------------------------------------------------------------------------------------------

-- what holds of all that may be read
abbrev pub Gives : {X : Type 0} → (X → Type 0) → Option X → Type 0
Gives {X} P found = (x : X) → found ≡ Some x → P x

abbrev pub GivesOk : {X : Type 0} → (X → Type 0) → Result X Fault → Type 0
GivesOk {X} P found = (x : X) → found ≡ Ok x → P x

pub gives : {X : Type 0} (P : X → Type 0) (x : X) → P x → Gives P (Some x)
gives {X} P x holds y e = let same : x ≡ y = cc in subst P same holds

pub gives_none : {X : Type 0} (P : X → Type 0) → Gives P None
gives_none P y e = absurd cc

pub gives_ok : {X : Type 0} (P : X → Type 0) (x : X) → P x → GivesOk P (Ok x)
gives_ok {X} P x holds y e = let same : x ≡ y = cc in subst P same holds

pub gives_fault : {X : Type 0} (P : X → Type 0) (fault : Fault) → GivesOk P (Err fault)
gives_fault P fault y e = absurd cc

pub gives_result : {X : Type 0} (P : X → Type 0) (found : Result X Fault) → GivesOk P found → Gives P (result_ok found)
gives_result P (Ok x) holds = gives P x (holds x refl)
gives_result P (Err fault) holds = gives_none P

-- of one reader after another
pub then_gives : {X Y : Type 0} (P : X → Type 0) (Q : Y → Type 0) (found : Option X) (next : X → Option Y) → Gives P found → ((x : X) → P x → Gives Q (next x)) → Gives Q (option_and_then next found)
then_gives P Q None next holds further = gives_none Q
then_gives P Q (Some x) next holds further = further x (holds x refl)

pub then_ok : {X Y : Type 0} (P : X → Type 0) (Q : Y → Type 0) (found : Result X Fault) (next : X → Result Y Fault) → GivesOk P found → ((x : X) → P x → GivesOk Q (next x)) → GivesOk Q (found >>= next)
then_ok P Q (Ok x) next holds further = further x (holds x refl)
then_ok P Q (Err fault) next holds further = gives_fault Q fault

-- where nothing is asked of the first
pub after : {X Y : Type 0} (Q : Y → Type 0) (found : Option X) (next : X → Option Y) → ((x : X) → Gives Q (next x)) → Gives Q (option_and_then next found)
after {X} Q found next further = then_gives (λ (x : X). Unit {0}) Q found next (λ x e. tt) (λ x h. further x)

pub chosen : {X : Type 0} (P : X → Type 0) (test : Bool) (found other : Option X) → Gives P found → Gives P other → Gives P (cond test found other)
chosen P true found other holds else_holds = holds
chosen P false found other holds else_holds = else_holds

-- Items ------------------------------------------------------------------------------------------------------------------------

-- where F says that what is read from is bytes, so is what is read, and what is left
module _ (F : Type 0) where
  pub record IsItem (most : ℕ) (item : List ℕ × List ℕ) : Type 0 where
    pub short : length item.0 ≤ most
    pub bytes : F → AreBytes item.0
    pub left : F → AreBytes item.1

  pub record IsWordRead (item : ℕ × List ℕ) : Type 0 where
    pub word : F → IsWord item.0
    pub left : F → AreBytes item.1

  unless : {X : Type 0} (test : Bool) (fault : Fault) (P : X → Type 0) (item : X) → P item → GivesOk P (cond test (Err fault) (Ok item))
  unless true fault P item holds = gives_fault P fault
  unless false fault P item holds = gives_ok P item holds

  word_read : (bytes : List ℕ) → (F → AreBytes bytes) → GivesOk IsWordRead (word_at bytes)
  unfolding word_at
  word_read bytes are = unless (ltb (length bytes) 4) short IsWordRead (from_be_bytes w32 (take 4 bytes), drop 4 bytes) (record { word = λ f. word_below (take 4 bytes) (All-take IsByte 4 bytes (are f)); left = λ f. All-drop IsByte 4 bytes (are f) })

  pub word_given : (bytes : List ℕ) → (F → AreBytes bytes) → Gives IsWordRead (result_ok (word_at bytes))
  word_given bytes are = gives_result IsWordRead (word_at bytes) (word_read bytes are)

  bytes_have : (n : ℕ) (bytes : List ℕ) → (F → AreBytes bytes) → GivesOk (IsItem n) (bytes_at n bytes)
  unfolding bytes_at
  bytes_have n bytes are = unless (ltb (length bytes) n) short (IsItem n) (take n bytes, drop n bytes) (record { short = omega (arith, length-take n bytes); bytes = λ f. All-take IsByte n bytes (are f); left = λ f. All-drop IsByte n bytes (are f) })

  fixed_has : (n : ℕ) (bytes : List ℕ) → (F → AreBytes bytes) → GivesOk (IsItem n) (fixed_at false n bytes)
  unfolding fixed_at
  fixed_has n bytes are =
      then_ok (IsItem n) (IsItem n) (bytes_at n bytes) _ (bytes_have n bytes are) (λ item is.
      then_ok (IsItem (padding_of n)) (IsItem n) (bytes_at (padding_of n) item.1) _ (bytes_have (padding_of n) item.1 is.left) (λ padding behind.
      gives_ok (IsItem n) (item.0, padding.1) (record { short = is.short; bytes = is.bytes; left = behind.left })))

  counted_by : (test : Bool) (most n : ℕ) (bytes : List ℕ) → (F → AreBytes bytes) → (test ≡ false → n ≤ most) → GivesOk (IsItem most) (cond test (Err too_long) (fixed_at false n bytes))
  counted_by true most n bytes are le = gives_fault (IsItem most) too_long
  counted_by false most n bytes are le = λ item e. let is = fixed_has n bytes are item e in let few : length item.0 ≤ n = is.short in let less : n ≤ most = le refl in record { short = omega arith; bytes = is.bytes; left = is.left }

  opaque_has : (most : ℕ) (bytes : List ℕ) → (F → AreBytes bytes) → GivesOk (IsItem most) (opaque_at false most bytes)
  unfolding opaque_at
  opaque_has most bytes are = then_ok IsWordRead (IsItem most) (word_at bytes) _ (word_read bytes are) (λ count is. counted_by (ltb most count.0) most count.0 count.1 is.left (ltb-false most count.0))

  item_given : (most : ℕ) (bytes : List ℕ) → (F → AreBytes bytes) → Gives (IsItem most) (result_ok (opaque_at false most bytes))
  item_given most bytes are = gives_result (IsItem most) (opaque_at false most bytes) (opaque_has most bytes are)

  -- Handles and settings ---------------------------------------------------------------------------------------------------------

  pub record IsHandleRead (item : Option ℕ × List ℕ) : Type 0 where
    pub handle : F → HandleIsStorable item.0
    pub left : F → AreBytes item.1

  if_some : {X : Type 0} (P : X → Type 0) (test : Bool) (x : X) → P x → IfSome (cond test (Some x) None) P
  if_some P true x holds = holds
  if_some P false x holds = tt

  if_none : {X : Type 0} (P : X → Type 0) (test : Bool) (x : X) → P x → IfSome (cond test None (Some x)) P
  if_none P true x holds = tt
  if_none P false x holds = holds

  handle_is_word : (item : List ℕ) → AreBytes item → HandleIsStorable (handle_id item)
  unfolding handle_id
  handle_is_word item are =
      let id = from_be_bytes w32 (take 4 (drop 8 item)) in
      if_some IsWord (bytes_eq item (handle id)) id (word_below (take 4 (drop 8 item)) (All-take IsByte 4 (drop 8 item) (All-drop IsByte 8 item are)))

  handle_given : (bytes : List ℕ) → (F → AreBytes bytes) → Gives IsHandleRead (handle_at bytes)
  unfolding handle_at
  handle_given bytes are =
      then_gives (IsItem 32) IsHandleRead (result_ok (fixed_at false 32 bytes)) _ (gives_result (IsItem 32) (fixed_at false 32 bytes) (fixed_has 32 bytes are)) (λ item is.
      gives IsHandleRead (handle_id item.0, item.1) (record { handle = λ f. handle_is_word item.0 (is.bytes f); left = is.left }))

  abbrev pub AreSettingsRead : Settings × List ℕ → Type 0
  AreSettingsRead item = F → SettingsAreStorable item.0

  a_word_set : (w : ℕ) → IsWord w → IfSome (word_set w) IsWord
  a_word_set w is = if_none IsWord (w == all_ones) w is

  a_time_set : (seconds useconds : ℕ) → IsWord seconds → IsWord useconds → IfSome (time_set seconds useconds) TimeIsSpellable
  a_time_set seconds useconds is are = if_none TimeIsSpellable (seconds == all_ones || useconds == all_ones) (record { seconds = seconds; useconds = useconds }) (record { seconds = is; useconds = are })

  -- a word, an item, a handle or settings, and what is read behind it
  pub next_word : {Y : Type 0} (Q : Y → Type 0) (bytes : List ℕ) (next : ℕ × List ℕ → Option Y) → (F → AreBytes bytes) → ((w : ℕ × List ℕ) → IsWordRead w → Gives Q (next w)) → Gives Q (option_and_then next (result_ok (word_at bytes)))
  next_word Q bytes next are further = then_gives IsWordRead Q (result_ok (word_at bytes)) next (word_given bytes are) further

  settings_given : (bytes : List ℕ) → (F → AreBytes bytes) → Gives AreSettingsRead (settings_at bytes)
  unfolding settings_at
  settings_given bytes are =
      next_word AreSettingsRead bytes _ are (λ mode is_mode.
      next_word AreSettingsRead mode.1 _ is_mode.left (λ uid is_uid.
      next_word AreSettingsRead uid.1 _ is_uid.left (λ gid is_gid.
      next_word AreSettingsRead gid.1 _ is_gid.left (λ size is_size.
      next_word AreSettingsRead size.1 _ is_size.left (λ a_seconds are_a_seconds.
      next_word AreSettingsRead a_seconds.1 _ are_a_seconds.left (λ a_useconds are_a_useconds.
      next_word AreSettingsRead a_useconds.1 _ are_a_useconds.left (λ m_seconds are_m_seconds.
      next_word AreSettingsRead m_seconds.1 _ are_m_seconds.left (λ m_useconds are_m_useconds.
      gives AreSettingsRead (_, m_useconds.1) (λ f. record {
        mode = a_word_set mode.0 (is_mode.word f);
        uid = a_word_set uid.0 (is_uid.word f);
        gid = a_word_set gid.0 (is_gid.word f);
        size = a_word_set size.0 (is_size.word f);
        atime = a_time_set a_seconds.0 a_useconds.0 (are_a_seconds.word f) (are_a_useconds.word f);
        mtime = a_time_set m_seconds.0 m_useconds.0 (are_m_seconds.word f) (are_m_useconds.word f);
      })))))))))

  pub next_item : {Y : Type 0} (Q : Y → Type 0) (most : ℕ) (bytes : List ℕ) (next : List ℕ × List ℕ → Option Y) → (F → AreBytes bytes) → ((item : List ℕ × List ℕ) → IsItem most item → Gives Q (next item)) → Gives Q (option_and_then next (result_ok (opaque_at false most bytes)))
  next_item Q most bytes next are further = then_gives (IsItem most) Q (result_ok (opaque_at false most bytes)) next (item_given most bytes are) further

  pub next_handle : {Y : Type 0} (Q : Y → Type 0) (bytes : List ℕ) (next : Option ℕ × List ℕ → Option Y) → (F → AreBytes bytes) → ((item : Option ℕ × List ℕ) → IsHandleRead item → Gives Q (next item)) → Gives Q (option_and_then next (handle_at bytes))
  next_handle Q bytes next are further = then_gives IsHandleRead Q (handle_at bytes) next (handle_given bytes are) further

  pub next_settings : {Y : Type 0} (Q : Y → Type 0) (bytes : List ℕ) (next : Settings × List ℕ → Option Y) → (F → AreBytes bytes) → ((item : Settings × List ℕ) → AreSettingsRead item → Gives Q (next item)) → Gives Q (option_and_then next (settings_at bytes))
  next_settings Q bytes next are further = then_gives AreSettingsRead Q (settings_at bytes) next (settings_given bytes are) further
