-- The signing key that a private document of TOML says.
use Rattle.std.specs.Prelude.{ℕ, ◌==◌, List, [], ◌∷◌, length, Option, Some, None, codes, nat_lt, if◌then◌else◌}
use Rattle.std.specs.Result.{result_ok}
use Rattle.hex.specs.Hex.{decode_sized}
use Rattle.toml.specs.Data.{Data, as_array, as_str, Items, no_items, item, Members, get_member}
use Rattle.bfs_model.specs.Bytes.Call.{◌>>=◌}
use Rattle.lms.specs.Levels.{most_levels}
use Rattle.lms.specs.Signers.{HssKey}
use Rattle.lms.specs.declared.types.LmsType.{LmsType}
use Rattle.lms.specs.declared.types.LmsType.TheVariants.{H5, H10, H15}
use Rattle.lms.specs.declared.types.OtsType.TheVariants.{W4}
use Rattle.lms.specs.declared.types.TreeTypes.{TreeTypes}
use Rattle.bfs_settings.specs.KeysDocument.{key_in}
use Rattle.bfs_settings.specs.Tables.{has_only, number_in, table_spelled}

-- the 16 bytes that 32 hexadecimal digits spell, in either case
abbrev pub id_in : Data → Option (List ℕ)
id_in value = do
  text ← as_str value
  result_ok (decode_sized text 16)

-- trees of that height (RFC 8554 section 5.1), of those that a document may name
abbrev pub tree_of : (height : ℕ) → Option LmsType
tree_of height = if height == 5 then Some H5 else (if height == 10 then Some H10 else (if height == 15 then Some H15 else None))

-- a tree of that height, and one-time signatures of LMOTS_SHA256_N32_W4
abbrev pub types_in : Data → Option TreeTypes
types_in value = do
  height ← number_in value
  tree ← tree_of height
  Some (record { lms = tree; ots = W4 })

abbrev pub levels_of : Items → Option (List TreeTypes)
levels_of no_items = Some []
levels_of (item value more) = do
  types ← types_in value
  levels ← levels_of more
  Some (types ∷ levels)

abbrev pub levels_in : Data → Option (List TreeTypes)
levels_in value = as_array value >>= levels_of

-- a key of one to eight levels
abbrev pub signing_key_of : (id seed : List ℕ) (levels : List TreeTypes) → Option HssKey
signing_key_of id seed [] = None
signing_key_of id seed (first ∷ below) =
    if nat_lt (length below) most_levels
    then Some (record { first = record { lms = first.lms; ots = first.ots; id = id; seed = seed }; below = below })
    else None

abbrev pub signing_key_said : Members → Option HssKey
signing_key_said members = do
  id ← get_member (codes "id") members >>= id_in
  seed ← get_member (codes "seed") members >>= key_in
  levels ← get_member (codes "heights") members >>= levels_in
  signing_key_of id seed levels

-- None where there is another key
unfoldable pub signing_key_in : Members → Option HssKey
signing_key_in members = if has_only (codes "id" ∷ codes "seed" ∷ codes "heights" ∷ []) members then signing_key_said members else None

-- the signing key that a document says
unfoldable pub signing_key_spelled : List ℕ → Option HssKey
signing_key_spelled document = table_spelled document >>= signing_key_in
