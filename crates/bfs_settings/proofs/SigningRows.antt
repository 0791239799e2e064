-- Documents of signing keys that are written out, and the keys that they say.
use Rattle.std.proofs.Common.{◌≡◌, ◌∷◌, ◌++◌, [], List, ℕ, Some, None, codes, refl}
use Rattle.std.specs.Prelude.{⊤, replicate}
use Rattle.std.specs.Str.{chars, is_utf8}
use Rattle.hex.proofs.OnLiterals.{hex_on_literals}
use Rattle.toml.proofs.OnLiterals.{toml_on_literals}
use Rattle.lms.specs.declared.types.LmsType.TheVariants.{H5, H10, H15}
use Rattle.lms.specs.declared.types.OtsType.TheVariants.{W4}
use Rattle.bfs_settings.specs.SigningDocument.{signing_key_in, signing_key_spelled}
use Rattle.bfs_settings.specs.Tables.{table_spelled}

-- what computes the signing key that a document says
unfoldable pub signing_on_literals : ⊤
unfolding hex_on_literals toml_on_literals chars is_utf8 table_spelled signing_key_in signing_key_spelled
signing_on_literals = tt

-- what every document says, but for the heights
abbrev secrets : List ℕ
secrets = codes "id = \"01010101010101010101010101010101\"\nseed = 'fFfFfFfFfFfFfFfFfFfFfFfFfFfFfFfFfFfFfFfFfFfFfFfFfFfFfFfFfFfFfFfF'\n"

pub row-one_level : signing_key_spelled (secrets ++ codes "heights = [5]\n")
    ≡ Some (record { first = record { lms = H5; ots = W4; id = replicate 16 1; seed = replicate 32 255 }; below = [] })
unfolding signing_on_literals
row-one_level = refl

-- of which the last one has the highest trees
pub row-three_levels : signing_key_spelled (codes "heights = [5, 10, 15] # from the first on\n" ++ secrets)
    ≡ Some (record {
      first = record { lms = H5; ots = W4; id = replicate 16 1; seed = replicate 32 255 };
      below = record { lms = H10; ots = W4 } ∷ record { lms = H15; ots = W4 } ∷ [];
    })
unfolding signing_on_literals
row-three_levels = refl

pub row-no_level : signing_key_spelled (secrets ++ codes "heights = []\n") ≡ None
unfolding signing_on_literals
row-no_level = refl

pub row-nine_levels : signing_key_spelled (secrets ++ codes "heights = [5, 5, 5, 5, 5, 5, 5, 5, 5]\n") ≡ None
unfolding signing_on_literals
row-nine_levels = refl

pub row-another_height : signing_key_spelled (secrets ++ codes "heights = [20]\n") ≡ None
unfolding signing_on_literals
row-another_height = refl

pub row-heights_of_texts : signing_key_spelled (secrets ++ codes "heights = [\"5\"]\n") ≡ None
unfolding signing_on_literals
row-heights_of_texts = refl

pub row-no_heights : signing_key_spelled secrets ≡ None
unfolding signing_on_literals
row-no_heights = refl

pub row-an_index : signing_key_spelled (secrets ++ codes "heights = [5]\nindex = 0\n") ≡ None
unfolding signing_on_literals
row-an_index = refl

-- of 17 bytes
pub row-a_long_id : signing_key_spelled (codes "heights = [5]\nid = \"0101010101010101010101010101010101\"\nseed = 'fFfFfFfFfFfFfFfFfFfFfFfFfFfFfFfFfFfFfFfFfFfFfFfFfFfFfFfFfFfFfFfF'\n") ≡ None
unfolding signing_on_literals
row-a_long_id = refl
