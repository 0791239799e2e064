-- A request that bytes spell is storable, and so is the xid of one that is refused.
use Rattle.std.proofs.Common.{◌≡◌, ℕ, zero, suc, Bool, true, false, List, [], ◌∷◌, length, Option, Some, None, Result, Ok, Err, refl, subst, arith}
use Rattle.std.specs.Prelude.{◌==◌, nat_lt, All, IfSome, if◌then◌else◌}
use Rattle.std.specs.Option.{ok_or}
use Rattle.std.proofs.lemmas.List.Elements.{All-nil, All-cons}
use Rattle.std.specs.Result.{result_ok}
use Rattle.bfs_model.specs.Bytes.Items.{word_at}
use Rattle.bfs_model.specs.Bytes.Call.{Credential, Request, Refusal, silent, rpc_mismatch, bad_credential, program_unavailable, program_mismatch, procedure_unavailable, Header, nobody, words_at, system_credential_of, credential_of, opaque_auth_at, header_of, ◌>>◌, only_if, is_procedure, call_of}
use Rattle.bfs_model.specs.Bytes.ReplyReading.{refusal_told}
use Rattle.bfs_model.specs.Server.Stored.{IsWord, AreBytes, CallerIsStorable, RequestIsStorable}
use Rattle.bfs_model.specs.Laws.Stored.{RequestsAreStorable}
use Rattle.bfs_model.proofs.Readings.{Gives, gives, gives_none, then_gives, chosen, IsWordRead, word_given, next_word, next_item}

-- F says that the request is bytes
module _ (F : Type 0) where
  -- Credentials ------------------------------------------------------------------------------------------------------------------

  abbrev CallerIsGood : Credential → Type 0
  CallerIsGood caller = F → CallerIsStorable caller

  -- so many words
  abbrev WordsAreGood : List ℕ × List ℕ → Type 0
  WordsAreGood read = F → All IsWord read.0

  words_given : (count : ℕ) (bytes : List ℕ) → (F → AreBytes bytes) → Gives WordsAreGood (words_at count bytes)
  unfolding words_at
  words_given zero bytes are = gives WordsAreGood ([], bytes) (λ f. All-nil IsWord)
  words_given (suc count) bytes are =
      next_word F WordsAreGood bytes _ are (λ first is_first.
      then_gives WordsAreGood WordsAreGood (words_at count first.1) _ (words_given count first.1 is_first.left) (λ more are_more.
      gives WordsAreGood (first.0 ∷ more.0, more.1) (λ f. All-cons IsWord first.0 more.0 (is_first.word f) (are_more f))))

  system_caller : (body : List ℕ) → (F → AreBytes body) → Gives CallerIsGood (system_credential_of body)
  unfolding system_credential_of
  system_caller body are =
      next_word F CallerIsGood body _ are (λ stamp is_stamp.
      next_item F CallerIsGood 255 stamp.1 _ is_stamp.left (λ machine is_machine.
      next_word F CallerIsGood machine.1 _ is_machine.left (λ uid is_uid.
      next_word F CallerIsGood uid.1 _ is_uid.left (λ gid is_gid.
      next_word F CallerIsGood gid.1 _ is_gid.left (λ count is_count.
      then_gives WordsAreGood CallerIsGood (if nat_lt 16 count.0 then None else words_at count.0 count.1) _
      (chosen WordsAreGood (nat_lt 16 count.0) None (words_at count.0 count.1) (gives_none WordsAreGood) (words_given count.0 count.1 is_count.left)) (λ gids are_words.
      chosen CallerIsGood (length gids.1 == 0) (Some (record { uid = uid.0; gid = gid.0; gids = gids.0 })) None
      (gives CallerIsGood (record { uid = uid.0; gid = gid.0; gids = gids.0 }) (λ f. record { uid = is_uid.word f; gid = is_gid.word f; gids = are_words f })) (gives_none CallerIsGood)))))))

  caller_given : (flavor : ℕ) (body : List ℕ) → (F → AreBytes body) → Gives CallerIsGood (credential_of flavor body)
  unfolding credential_of
  caller_given flavor body are =
      chosen CallerIsGood (flavor == 0) (Some nobody) _ (gives CallerIsGood nobody (λ f. record { uid = omega arith; gid = omega arith; gids = All-nil IsWord })) (
      chosen CallerIsGood (flavor == 1) (system_credential_of body) None (system_caller body are) (gives_none CallerIsGood))

  -- Headers ----------------------------------------------------------------------------------------------------------------------

  abbrev AuthIsGood : ℕ × (List ℕ × List ℕ) → Type 0
  AuthIsGood auth = (F → AreBytes auth.1.0) × (F → AreBytes auth.1.1)

  auth_given : (bytes : List ℕ) → (F → AreBytes bytes) → Gives AuthIsGood (opaque_auth_at bytes)
  unfolding opaque_auth_at
  auth_given bytes are =
      next_word F AuthIsGood bytes _ are (λ flavor is_flavor.
      next_item F AuthIsGood 400 flavor.1 _ is_flavor.left (λ body is_body.
      gives AuthIsGood (flavor.0, (body.0, body.1)) (is_body.bytes, is_body.left)))

  record HeaderIsGood (header : Header) : Type 0 where
    xid : F → IsWord header.xid
    body : F → AreBytes header.body
    arguments : F → AreBytes header.arguments

  header_given : (bytes : List ℕ) → (F → AreBytes bytes) → Gives HeaderIsGood (header_of bytes)
  unfolding header_of
  header_given bytes are =
      next_word F HeaderIsGood bytes _ are (λ xid is_xid.
      next_word F HeaderIsGood xid.1 _ is_xid.left (λ message_type is_type.
      then_gives (IsWordRead F) HeaderIsGood (if message_type.0 == 0 then result_ok (word_at message_type.1) else None) _
      (chosen (IsWordRead F) (message_type.0 == 0) (result_ok (word_at message_type.1)) None (word_given F message_type.1 is_type.left) (gives_none (IsWordRead F))) (λ rpc_version is_rpc.
      next_word F HeaderIsGood rpc_version.1 _ is_rpc.left (λ program is_program.
      next_word F HeaderIsGood program.1 _ is_program.left (λ version is_version.
      next_word F HeaderIsGood version.1 _ is_version.left (λ procedure is_procedure.
      then_gives AuthIsGood HeaderIsGood (opaque_auth_at procedure.1) _ (auth_given procedure.1 is_procedure.left) (λ credential is_credential.
      then_gives AuthIsGood HeaderIsGood (opaque_auth_at credential.1.1) _ (auth_given credential.1.1 is_credential.1) (λ verifier is_verifier.
      gives HeaderIsGood _ (record { xid = is_xid.word; body = is_credential.0; arguments = is_verifier.1 })))))))))

  -- Calls ------------------------------------------------------------------------------------------------------------------------

  abbrev IsGood : Result Request Refusal → Type 0
  IsGood (Ok request) = F → RequestIsStorable request
  IsGood (Err reason) = IfSome (refusal_told reason) (λ told. F → IsWord told.0)

  then_only_if : (test : Bool) (reason : Refusal) (next : Unit {0} → Result Request Refusal) → IsGood (Err reason) → IsGood (next tt) → IsGood (only_if test reason >> next)
  then_only_if true reason next refused further = further
  then_only_if false reason next refused further = refused

  then_found : {A : Type 0} (P : A → Type 0) (found : Option A) (reason : Refusal) (next : A → Result Request Refusal) → Gives P found → IsGood (Err reason) → ((x : A) → P x → IsGood (next x)) → IsGood (ok_or found reason >> next)
  then_found P None reason next holds refused further = refused
  then_found P (Some x) reason next holds refused further = further x (holds x refl)

  call_good : (bytes : List ℕ) → (F → AreBytes bytes) → IsGood (call_of bytes)
  unfolding call_of
  call_good bytes are =
      then_found HeaderIsGood (header_of bytes) silent _ (header_given bytes are) tt (λ header good.
      then_only_if (header.rpc_version == 2) (rpc_mismatch header.xid) _ good.xid (
      then_found CallerIsGood (credential_of header.flavor header.body) (bad_credential header.xid) _ (caller_given header.flavor header.body good.body) good.xid (λ credential caller.
      then_only_if (header.program == 100003) (program_unavailable header.xid) _ good.xid (
      then_only_if (header.program_version == 2) (program_mismatch header.xid) _ good.xid (
      then_only_if (is_procedure header.procedure) (procedure_unavailable header.xid) _ good.xid (λ f.
      record { xid = good.xid f; caller = caller f; arguments = good.arguments f }))))))

pub requests_are_storable : RequestsAreStorable
requests_are_storable bytes request are is = subst (IsGood (AreBytes bytes)) is (call_good (AreBytes bytes) bytes (λ f. f)) are

-- the xid that a refusal tells
pub refusal_xid : (bytes : List ℕ) (reason : Refusal) → AreBytes bytes → call_of bytes ≡ Err reason → IfSome (refusal_told reason) (λ told. AreBytes bytes → IsWord told.0)
refusal_xid bytes reason are is = subst (IsGood (AreBytes bytes)) is (call_good (AreBytes bytes) bytes (λ f. f))
