-- The public keys of clients, or of replicas, that a document says (RFC 8554 section 6.1).
use Rattle.std.specs.Prelude.{ℕ, ◌==◌, List, [], ◌∷◌, length, Option, option_and_then, Ok, Err, if◌then◌else◌}
use Rattle.std.specs.Result.{result_ok}
use Rattle.hex.specs.Hex.{decode_sized}
use Rattle.toml.specs.Data.{Data, string, array, Items, no_items, item}
use Rattle.bfs_model.specs.Bytes.Items.{◌>>=◌}
use Rattle.lms.specs.Levels.{hss_public_key_in}
use Rattle.lms.specs.declared.hss.HssPublicKey.{HssPublicKey}
use Rattle.bfs_deployment.specs.Tables.{Reading, some_or}
use Rattle.bfs_deployment.specs.declared.error.DeploymentError.TheVariants as error
use Rattle.bfs_deployment.specs.declared.key.Key.{Key}

-- the public key whose 60 bytes 120 hexadecimal digits spell, in either case
abbrev pub public_key_spelled : List ℕ → Option HssPublicKey
public_key_spelled text = option_and_then hss_public_key_in (result_ok (decode_sized text 60))

abbrev pub signer_in : Key → Data → Reading HssPublicKey
signer_in key (string text) = some_or (error.NoPublicKey key) (public_key_spelled text)
signer_in key _ = Err (error.WrongType key)

abbrev pub signers_of : Key → Items → Reading (List HssPublicKey)
signers_of key no_items = Ok []
signers_of key (item value more) = do
  signer ← signer_in key value
  signers ← signers_of key more
  Ok (signer ∷ signers)

-- so many
abbrev pub signers_in : Key → (count : ℕ) → Data → Reading (List HssPublicKey)
signers_in key count (array values) = do
  signers ← signers_of key values
  if length signers == count then Ok signers else Err (error.WrongCount key count)
signers_in key count _ = Err (error.WrongType key)
