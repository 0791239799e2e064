-- Private keys of several levels (RFC 8554 section 6.2), whose trees are all made from the first one's seed. The standard leaves it open how the seed of a tree below a
-- leaf is made; implementations agree on what is here.
use Rattle.std.specs.Prelude.{ℕ, ◌+◌, ◌*◌, ◌/◌, ◌%◌, ◌^◌, List, [], ◌∷◌, ◌++◌, length, take, slice_get, sum_by, Option, Some, option_map, zero, suc}
use Rattle.std.specs.Int.{to_be_bytes, w32}
use Rattle.lms.specs.declared.types.TreeTypes.{TreeTypes}
use Rattle.lms.specs.declared.private_key.PrivateKey.{PrivateKey}
use Rattle.lms.specs.declared.place.Place.{Place}
use Rattle.lms.specs.declared.hss.HssPublicKey.{HssPublicKey}
use Rattle.lms.specs.Types.{height, leaf_count}
use Rattle.lms.specs.Keys.{public_key_bytes}
use Rattle.lms.specs.Secrets.{public_key, secret, signature_of}

-- a private key: that of the first tree, and the types of trees of the levels below, from the second on
pub record HssKey : Type 0 where
  pub first : PrivateKey
  pub below : List TreeTypes

abbrev pub seed_kind : ℕ
seed_kind = 0xfffe

abbrev pub id_kind : ℕ
id_kind = 0xffff

-- the key of the tree below a leaf
abbrev pub child_key : PrivateKey → TreeTypes → (leaf : ℕ) → PrivateKey
child_key key types leaf = record { lms = types.lms; ots = types.ots; id = take 16 (secret key leaf id_kind); seed = secret key leaf seed_kind }

-- how many texts are signed below one leaf, by levels with trees of these types
abbrev pub count_below : List TreeTypes → ℕ
count_below below = 2 ^ sum_by (λ types. height types.lms) below

abbrev pub index_count : HssKey → ℕ
index_count key = leaf_count key.first.lms * count_below key.below

-- a leaf's signature of the public key of the tree below it, and that key
abbrev pub signed_key : PrivateKey → (leaf : ℕ) (child : PrivateKey) → List ℕ
signed_key key leaf child = signature_of key leaf (public_key_bytes (public_key child)) ++ public_key_bytes (public_key child)

-- the signatures of a text by a tree with levels below it: its leaf is the index by how many texts each leaf stands for, and what is left is the index below
unfoldable pub signed_from : PrivateKey → (below : List TreeTypes) (index : ℕ) (text : List ℕ) → List ℕ
signed_from key [] index text = signature_of key index text
signed_from key (types ∷ below) index text =
    let leaf = index / count_below (types ∷ below) in
    let child = child_key key types leaf in
    signed_key key leaf child ++ signed_from child below (index % count_below (types ∷ below)) text

-- the signature of a text by an index
abbrev pub hss_signature_of : HssKey → (index : ℕ) (text : List ℕ) → List ℕ
hss_signature_of key index text = to_be_bytes w32 (length key.below) ++ signed_from key.first key.below index text

abbrev pub hss_public_key : HssKey → HssPublicKey
hss_public_key key = record { levels = length key.below + 1; key = public_key key.first }

-- ---- what a signer keeps

-- the key of the tree at a place below another one
abbrev pub child_of : Place → PrivateKey
child_of place = child_key place.parent place.types place.leaf

abbrev pub head_of : Place → List ℕ
head_of place = signed_key place.parent place.leaf (child_of place)

-- where the trees stand that sign with an index, below the first one
unfoldable pub places_of : PrivateKey → (below : List TreeTypes) (index : ℕ) → List Place
places_of key [] index = []
places_of key (types ∷ below) index =
    let leaf = index / count_below (types ∷ below) in
    record { parent = key; types = types; leaf = leaf } ∷ places_of (child_key key types leaf) below (index % count_below (types ∷ below))

-- the leaf of the last tree that signs with an index
unfoldable pub last_leaf : (below : List TreeTypes) (index : ℕ) → ℕ
last_leaf [] index = index
last_leaf (types ∷ below) index = last_leaf below (index % count_below (types ∷ below))

-- the key of the tree at a level
abbrev pub key_at : (first : PrivateKey) (places : List Place) (level : ℕ) → Option PrivateKey
key_at first places zero = Some first
key_at first places (suc n) = option_map child_of (slice_get places n)

-- the key of the last of them
unfoldable pub last_key : PrivateKey → (below : List TreeTypes) (index : ℕ) → PrivateKey
last_key key [] index = key
last_key key (types ∷ below) index =
    last_key (child_key key types (index / count_below (types ∷ below))) below (index % count_below (types ∷ below))
