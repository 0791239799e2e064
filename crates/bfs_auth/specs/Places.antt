-- What texts of replicas are of, and the index of a key that signs what is of a place.
use Rattle.std.specs.Prelude.{ℕ, ◌+◌, ◌-◌, ◌*◌, ◌^◌, ◌==◌, ◌||◌, ◌&&◌, List, length, take, drop, nat_lt, nat_le, Option, Some, None, if◌then◌else◌}
use Rattle.std.specs.Int.{from_be_bytes, w64}
use Rattle.lms.specs.Bytes.{word_at}
use Rattle.lms.specs.Signers.{HssKey, count_below}
use Rattle.lms.specs.Types.{leaf_count}
use Rattle.bfs_votes.specs.Tags.{checkpoint_tag, new_view_tag, pre_prepare_tag, prepare_tag, view_change_tag}
use Rattle.bfs_auth.specs.declared.places.Place.{Place}
use Rattle.bfs_auth.specs.declared.places.Place.TheVariants.{Vote, Checkpoint, ViewChange, NewView}

-- ---- texts: a tag, the sender, and from byte 8 on a view, a view and a number, or a number

-- the number in the eight bytes from a place on
abbrev pub double_at : (place : ℕ) → List ℕ → ℕ
double_at place bytes = from_be_bytes w64 (take 8 (drop place bytes))

abbrev pub vote_in : List ℕ → Option Place
vote_in text = if nat_le 24 (length text) then Some (Vote (double_at 8 text) (double_at 16 text)) else None

-- by its tag
abbrev pub place_by : (tag : ℕ) → List ℕ → Option Place
place_by tag text =
    if (tag == pre_prepare_tag) || (tag == prepare_tag) then vote_in text
    else (if tag == checkpoint_tag then Some (Checkpoint (double_at 8 text))
    else (if tag == view_change_tag then Some (ViewChange (double_at 8 text))
    else (if tag == new_view_tag then Some (NewView (double_at 8 text)) else None)))

-- what the text is of; others are of no place
unfoldable pub place_in : (text : List ℕ) → Option Place
place_in text = if nat_lt (length text) 16 then None else place_by (word_at 0 text) text

-- ---- indexes: each leaf of the first tree but the last is of the view of its number, and the last one of CHECKPOINTs

-- how many views a key signs in
abbrev pub view_count : HssKey → ℕ
view_count key = leaf_count key.first.lms - 1

-- the index of that number below a leaf, where so many are below each. None where the number is none of these, or where 64 bits are too few for the index.
abbrev pub index_at : (count leaf number : ℕ) → Option ℕ
index_at count leaf number = if nat_lt number count && nat_lt (leaf * count + number) (2 ^ 64) then Some (leaf * count + number) else None

abbrev pub index_below : HssKey → (leaf number : ℕ) → Option ℕ
index_below key leaf number = index_at (count_below key.below) leaf number

abbrev pub index_in_view : HssKey → (view number : ℕ) → Option ℕ
index_in_view key view number = if nat_lt view (view_count key) then index_below key view number else None

-- the index that signs what is of the place; None where the key is spent there
unfoldable pub index_of : HssKey → Place → Option ℕ
index_of key (ViewChange view) = index_in_view key view 0
index_of key (NewView view) = index_in_view key view 1
index_of key (Vote view number) = index_in_view key view (number + 2)
index_of key (Checkpoint number) = index_below key (view_count key) number
