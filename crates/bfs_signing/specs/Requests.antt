-- What goes to replicas: with a signature in place of keyed hashes.
use Rattle.std.specs.Prelude.{ℕ, ◌+◌, ◌^◌, Bool, true, false, List, [], ◌∷◌, ◌++◌, fold, take, length, Option, Some, None, nat_le, slice_get, if◌then◌else◌}
use Rattle.std.specs.List.{filter_map}
use Rattle.std.specs.Option.{option_map}
use Rattle.lms.specs.Signers.{HssKey}
use Rattle.bfs_signatures.specs.Signature.{most_height}
use Rattle.bfs_signatures.specs.Signing.{signatures_of}
use Rattle.bfs_auth.specs.Signatures.{most_signature_bytes}
use Rattle.bfs_auth.specs.declared.authenticators.Authenticator.TheVariants.{Signature}
use Rattle.bfs_messages.specs.Spelling.{body_text, signed_text}
use Rattle.bfs_messages.specs.declared.message.Message.{Message}
use Rattle.bfs_messages.specs.declared.signed.Signed.{Signed}
use Rattle.bfs_codec.specs.Reading.{message_of}
use Rattle.bfs_frames.specs.Parcels.{Told}
use Rattle.bfs_frames.specs.declared.parcels.To.{To}
use Rattle.bfs_frames.specs.declared.parcels.To.TheVariants.{Replica, Replicas}

abbrev pub goes_to_replicas : To → Bool
goes_to_replicas Replicas = true
goes_to_replicas (Replica number) = true
goes_to_replicas _ = false

-- the message that goes to replicas, if it is one
abbrev pub message_to : To → (payload : List ℕ) → Option (Signed Message)
message_to to payload = if goes_to_replicas to then message_of payload else None

-- what is to be signed of it
abbrev pub text_in : Option (Signed Message) → Option (List ℕ)
text_in signed = option_map (λ one. body_text one.message) signed

abbrev pub text_told : Told → Option (List ℕ)
text_told told = text_in (message_to told.to told.payload)

abbrev pub texts_told : List Told → List (List ℕ)
texts_told told = filter_map text_told told

-- one signature is made for so many at most
abbrev pub most_texts : ℕ
most_texts = 2 ^ most_height

abbrev pub signed_texts : List Told → List (List ℕ)
signed_texts told = take most_texts (texts_told told)

-- Signatures in the place of keyed hashes ---------------------------------------------------------------------------------

abbrev pub with_signature : Signed Message → (signature : List ℕ) → Signed Message
with_signature signed signature = record { message = signed.message; auth = Signature signature }

-- a signature that is longer than replicas read is told to nobody
abbrev pub request_with : Signed Message → (signature : List ℕ) → Told → List Told
request_with signed signature told =
    if nat_le (length signature) most_signature_bytes then record told { payload = signed_text (with_signature signed signature) } ∷ [] else []

-- what is told so far, and how many signatures are in it
pub record Replaced : Type 0 where
  pub used : ℕ
  pub told : List Told

-- no text goes to replicas without a signature
abbrev pub replaced_with : Option (Signed Message) → Option (List ℕ) → Told → Replaced → Replaced
replaced_with None signature told so_far = so_far
replaced_with (Some signed) None told so_far = so_far
replaced_with (Some signed) (Some signature) told so_far = record { used = so_far.used + 1; told = so_far.told ++ request_with signed signature told }

abbrev pub replaced_also : (signatures : List (List ℕ)) → Replaced → Told → Replaced
replaced_also signatures so_far told =
    if goes_to_replicas told.to then replaced_with (message_of told.payload) (slice_get signatures so_far.used) told so_far
    else record so_far { told = so_far.told ++ told ∷ [] }

abbrev pub none_replaced : Replaced
none_replaced = record { used = 0; told = [] }

-- each message to replicas with the next of the signatures, all else as it is
abbrev pub told_with : (signatures : List (List ℕ)) → List Told → List Told
told_with signatures told = (fold (replaced_also signatures) none_replaced told).told

-- all by one index
abbrev pub signed_told : HssKey → (index : ℕ) → List Told → List Told
signed_told key index told = told_with (signatures_of key index (signed_texts told)) told
