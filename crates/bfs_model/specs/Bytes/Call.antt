-- The call that bytes spell, or the first reason to refuse it (RFC 5531 sections 9 and 10.1, appendix A). Padding is not looked at.
use Rattle.std.specs.Prelude.{ℕ, zero, suc, Bool, true, false, List, [], ◌∷◌, length, Option, Some, None, option_and_then, Result, Ok, Err, nat_lt, ◌==◌, if◌then◌else◌, nat_le}
use Rattle.std.specs.Option.{ok_or}
use Rattle.std.specs.Result.{result_ok}
use Rattle.bfs_model.specs.Bytes.Items.{word_at, opaque_at}

-- for whom a call is made (RFC 5531 section 8.2, appendix A): a user, its group, and the further groups that it belongs to
pub record Credential : Type 0 where
  pub uid : ℕ
  pub gid : ℕ
  pub gids : List ℕ

-- a call that is not refused: which procedure it wants, and the bytes of its arguments
pub record Request : Type 0 where
  pub xid : ℕ
  pub procedure : ℕ
  pub credential : Credential
  pub arguments : List ℕ

-- why a call is refused; all but the first can be answered, under the call's xid
pub data Refusal : Type 0 where
  silent : Refusal
  rpc_mismatch : (xid : ℕ) → Refusal
  bad_credential : (xid : ℕ) → Refusal
  program_unavailable : (xid : ℕ) → Refusal
  program_mismatch : (xid : ℕ) → Refusal
  procedure_unavailable : (xid : ℕ) → Refusal

-- the fields of a call, as they are on the wire
pub record Header : Type 0 where
  pub xid : ℕ
  pub rpc_version : ℕ
  pub program : ℕ
  pub program_version : ℕ
  pub procedure : ℕ
  pub flavor : ℕ
  pub body : List ℕ
  pub arguments : List ℕ

-- Options one after another, for readers whose fault is not told -------------------------------------------------

infixl 10 ◌>>=◌
abbrev pub ◌>>=◌ : {A B : Type 0} → Option A → (A → Option B) → Option B
o >>= f = option_and_then f o

-- Credentials ----------------------------------------------------------------------------------------------------

-- the caller that no credential names
abbrev pub nobody : Credential
nobody = record { uid = 65534; gid = 65534; gids = [] }

-- so many words, and the bytes after them
unfoldable pub words_at : ℕ → List ℕ → Option (List ℕ × List ℕ)
words_at zero bytes = Some ([], bytes)
words_at (suc n) bytes = do
  first ← result_ok (word_at bytes)
  more ← words_at n first.1
  Some (first.0 ∷ more.0, more.1)

-- the body of AUTH_SYS (RFC 5531 appendix A): a stamp, the machine's name of at most 255 bytes, uid, gid, and at
-- most 16 further gids, with nothing after them
unfoldable pub system_credential_of : List ℕ → Option Credential
system_credential_of body = do
  stamp ← result_ok (word_at body)
  machine ← result_ok (opaque_at false 255 stamp.1)
  uid ← result_ok (word_at machine.1)
  gid ← result_ok (word_at uid.1)
  count ← result_ok (word_at gid.1)
  gids ← (if nat_lt 16 count.0 then None else words_at count.0 count.1)
  if length gids.1 == 0 then Some (record { uid = uid.0; gid = gid.0; gids = gids.0 }) else None

-- AUTH_NONE, whatever its body, is 0, and AUTH_SYS is 1 (RFC 5531 sections 8.2 and 10.1, appendix A)
unfoldable pub credential_of : ℕ → List ℕ → Option Credential
credential_of flavor body = if flavor == 0 then Some nobody else (if flavor == 1 then system_credential_of body else None)

-- The header -----------------------------------------------------------------------------------------------------

-- a flavor and a body of at most 400 bytes (RFC 5531 section 8.2, opaque_auth), and the bytes after them
unfoldable pub opaque_auth_at : List ℕ → Option (ℕ × (List ℕ × List ℕ))
opaque_auth_at bytes = do
  flavor ← result_ok (word_at bytes)
  body ← result_ok (opaque_at false 400 flavor.1)
  Some (flavor.0, (body.0, body.1))

-- an rpc_msg of type CALL, whose verifier is read and not looked at
unfoldable pub header_of : List ℕ → Option Header
header_of bytes = do
  xid ← result_ok (word_at bytes)
  message_type ← result_ok (word_at xid.1)
  rpc_version ← (if message_type.0 == 0 then result_ok (word_at message_type.1) else None)
  program ← result_ok (word_at rpc_version.1)
  program_version ← result_ok (word_at program.1)
  procedure ← result_ok (word_at program_version.1)
  credential ← opaque_auth_at procedure.1
  verifier ← opaque_auth_at credential.1.1
  Some (record { xid = xid.0; rpc_version = rpc_version.0; program = program.0; program_version = program_version.0; procedure = procedure.0; flavor = credential.0; body = credential.1.0; arguments = verifier.1.1 })

-- The call, with the refusals in their order -----------------------------------------------------------------------

infixl 10 ◌>>◌
abbrev pub ◌>>◌ : {A B : Type 0} → Result A Refusal → (A → Result B Refusal) → Result B Refusal
(Ok x) >> f = f x
(Err e) >> f = Err e

abbrev pub only_if : Bool → Refusal → Result (Unit {0}) Refusal
only_if true refusal = Ok tt
only_if false refusal = Err refusal

-- the procedures of the protocol (RFC 1094 section 2.2)
abbrev pub is_procedure : ℕ → Bool
is_procedure procedure = nat_le procedure 17

-- the request that bytes spell, or the first reason to refuse it
unfoldable pub call_of : List ℕ → Result Request Refusal
call_of bytes =
    ok_or (header_of bytes) silent >> λ header.
    only_if (header.rpc_version == 2) (rpc_mismatch header.xid) >> λ _.
    ok_or (credential_of header.flavor header.body) (bad_credential header.xid) >> λ credential.
    only_if (header.program == 100003) (program_unavailable header.xid) >> λ _.
    only_if (header.program_version == 2) (program_mismatch header.xid) >> λ _.
    only_if (is_procedure header.procedure) (procedure_unavailable header.xid) >> λ _.
    Ok (record { xid = header.xid; procedure = header.procedure; credential = credential; arguments = header.arguments })
