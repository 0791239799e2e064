-- Why bytes are read as no saved replica.
use Rattle.std.specs.Prelude.{◌≡◌, ℕ, Bool, true, false, ◌==◌, ◌&&◌, not, List, Option, None, Some, Result, Ok, Err, if◌then◌else◌}
use Rattle.bfs_model.specs.Bytes.Formats.{Reading, as_from, then_from, word_from}
use Rattle.bfs_codec.specs.declared.error.DecodeError.{DecodeError}
use Rattle.bfs_codec.specs.declared.error.DecodeError.TheVariants as decoding
use Rattle.bfs_saving.specs.Saved.{magic, version}
use Rattle.bfs_saving.specs.declared.error.SavedError.{SavedError}
use Rattle.bfs_saving.specs.declared.error.SavedError.TheVariants.{Malformed, WrongVersion, OtherSettings, OtherReplica, Memory}
use Rattle.bfs_saving.specs.declared.fronts.Front.{Front}

abbrev pub code_of : SavedError → ℕ
code_of Malformed = 20
code_of WrongVersion = 22
code_of OtherSettings = 44
code_of OtherReplica = 45
code_of Memory = 40

-- the words that the bytes begin with
unfoldable pub front_from : List ℕ → Reading Front
front_from bytes =
    as_from (λ p. record { magic = p.0.0.0.0; version = p.0.0.0.1; clients = p.0.0.1; f = p.0.1; me = p.1 }) (then_from (then_from (then_from (then_from word_from word_from) word_from) word_from) word_from) bytes

abbrev pub is_other : Reading (ℕ × ℕ) → Bool
is_other None = false
is_other (Some front) = (front.0.0 == magic) && not (front.0.1 == version)

-- the bytes begin as a text of another version
abbrev pub has_other_version : List ℕ → Bool
has_other_version bytes = is_other (then_from word_from word_from bytes)

-- why a text of this version is refused that begins so
abbrev pub refused_by : (clients f me : ℕ) → Reading Front → SavedError
refused_by clients f me None = Malformed
refused_by clients f me (Some front) =
    if not ((front.0.magic == magic) && (front.0.version == version)) then Malformed else
    if not ((front.0.clients == clients) && (front.0.f == f)) then OtherSettings else
    if not (front.0.me == me) then OtherReplica else Malformed

-- why bytes are refused that spell no replica of that number, where f may be faulty, with so many clients
abbrev pub refusal : (clients f me : ℕ) → List ℕ → SavedError
refusal clients f me bytes = if has_other_version bytes then WrongVersion else refused_by clients f me (front_from bytes)

-- the code gave just that, or memory ran out
abbrev pub IsOnly : {Y : Type 0} → Y → Result Y SavedError → Type 0
IsOnly y (Ok x) = x ≡ y
IsOnly y (Err e) = e ≡ Memory

abbrev pub refusal_of : DecodeError → (clients f me : ℕ) → List ℕ → SavedError
refusal_of decoding.Malformed clients f me bytes = refusal clients f me bytes
refusal_of decoding.Memory clients f me bytes = Memory
