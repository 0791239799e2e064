-- The texts that are signed, and their leaves.
use Rattle.std.proofs.Common.{◌≡◌, ◌∙◌, ℕ, ◌+◌, ◌<◌, List, [], ◌∷◌, ◌++◌, Option, Some, None, get_or, length, map, take, refl, sym, ap, arith}
use Rattle.std.specs.Prelude.{option_to_list}
use Rattle.std.specs.List.{filter_map}
use Rattle.std.proofs.lemmas.List.Elements.{filter_map-append}
use Rattle.std.proofs.lemmas.List.{map-append, take-map}
use Rattle.bfs_signatures.specs.Hashes.{leaf_hash}
use Rattle.bfs_signatures.specs.Signing.{signatures_of_leaves}
use Rattle.bfs_frames.specs.Parcels.{Told, told_by}
use Rattle.bfs_frames.specs.declared.parcels.Parcel.{Parcel}
use Rattle.lms.specs.Signers.{HssKey}
use Rattle.bfs_signing.specs.Indexes.{HasIndex, next_after}
use Rattle.bfs_signing.specs.Requests.{most_texts, signed_texts, signed_told, text_told, texts_told, told_with}
use Rattle.bfs_signing.proofs.Folding.{taken_more}

one_of : {A B : Type 0} (f : A → Option B) (x : A) → filter_map f (x ∷ []) ≡ option_to_list (f x)
one_of {A} {B} f x = go (f x)
  where
    go : (found : Option B) → filter_map (λ (o : Option B). o) (found ∷ []) ≡ option_to_list found
    go None = refl
    go (Some y) = refl

-- one parcel more
pub leaves_more : (parcels : List Parcel) (i : ℕ) (parcel : Parcel) → i < length parcels → parcel ≡ get_or parcels i parcel
    → map leaf_hash (texts_told (map told_by (take (i + 1) parcels)))
    ≡ map leaf_hash (texts_told (map told_by (take i parcels))) ++ map leaf_hash (option_to_list (text_told (told_by parcel)))
leaves_more parcels i parcel within is =
    ap (λ (taken : List Parcel). map leaf_hash (texts_told (map told_by taken))) (taken_more parcels i parcel within is)
    ∙ ap (λ (told : List Told). map leaf_hash (texts_told told)) (map-append told_by (take i parcels) (parcel ∷ []))
    ∙ ap (map leaf_hash) (filter_map-append text_told (map told_by (take i parcels)) (told_by parcel ∷ [])
    ∙ ap (λ more. texts_told (map told_by (take i parcels)) ++ more) (one_of text_told (told_by parcel)))
    ∙ map-append leaf_hash (texts_told (map told_by (take i parcels))) (option_to_list (text_told (told_by parcel)))

-- the first ones of them
pub first_leaves : (texts : List (List ℕ)) → take most_texts (map leaf_hash texts) ≡ map leaf_hash (take most_texts texts)
first_leaves texts = take-map leaf_hash most_texts texts

-- there are leaves where there are texts
pub next_of_leaves : (index : ℕ) (texts : List (List ℕ)) → next_after index (map leaf_hash texts) ≡ next_after index texts
next_of_leaves index [] = refl
next_of_leaves index (text ∷ texts) = refl

pub has_for_leaves : (key : HssKey) (index : ℕ) (texts : List (List ℕ)) → HasIndex key index (map leaf_hash texts) → HasIndex key index texts
has_for_leaves key index [] has = has
has_for_leaves key index (text ∷ texts) has = has

-- what is told with signatures of those leaves
pub told_of_leaves : (key : HssKey) (index : ℕ) (told given : List Told) (signatures leaves : List (List ℕ))
    → given ≡ told_with signatures told → signatures ≡ signatures_of_leaves key index leaves → leaves ≡ map leaf_hash (signed_texts told)
    → given ≡ signed_told key index told
told_of_leaves key index told given signatures leaves is made of_texts =
    is ∙ ap (λ (these : List (List ℕ)). told_with these told) (made ∙ ap (signatures_of_leaves key index) of_texts)
