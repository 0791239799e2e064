-- Which texts are of a place.
use Rattle.std.proofs.Common.{◌≡◌, ◌<◌, ◌≤◌, ◌^◌, ℕ, true, List, ◌++◌, length, drop, Some, None, refl, ap, ◌∙◌, arith}
use Rattle.std.specs.Prelude.{is_some, nat_le, nat_lt}
use Rattle.std.proofs.lemmas.Bool.{cond-false, cond-true, le-leb, le-ltb}
use Rattle.std.proofs.lemmas.Nat.{from_be_bytes-to_be_bytes_4}
use Rattle.lms.specs.Bytes.{word_at}
use Rattle.bfs_model.specs.Bytes.Items.{hyper, word}
use Rattle.bfs_votes.specs.Tags.{checkpoint_tag, new_view_tag, pre_prepare_tag, prepare_tag, view_change_tag}
use Rattle.bfs_auth.specs.Places.{double_at, place_by, place_in, vote_in}
use Rattle.bfs_auth.specs.declared.places.Place.TheVariants as place
use Rattle.bfs_messages.specs.Messages as model
use Rattle.bfs_messages.specs.Batches.{checkpoint_text, vote_text}
use Rattle.bfs_messages.specs.Changes.{new_view_text, view_change_text}

-- a tag that stands in front
tag_read : (tag : ℕ) (rest : List ℕ) → tag < 2 ^ 32 → word_at 0 (word tag ++ rest) ≡ tag
unfolding word
tag_read tag rest small = from_be_bytes-to_be_bytes_4 tag small

of_tag : (tag : ℕ) (text : List ℕ) → 16 ≤ length text → word_at 0 text ≡ tag → is_some (place_by tag text) ≡ true → is_some (place_in text) ≡ true
unfolding place_in
of_tag tag text long is some =
    ap is_some (cond-false (nat_lt (length text) 16) None (place_by (word_at 0 text) text) (le-ltb (length text) 16 long) ∙ ap (λ t. place_by t text) is) ∙ some

-- behind a tag and a sender
abbrev front : (tag sender first : ℕ) (rest : List ℕ) → List ℕ
front tag sender first rest = word tag ++ (word sender ++ (hyper first ++ rest))

front_long : (tag sender first : ℕ) (rest : List ℕ) → 16 ≤ length (front tag sender first rest)
unfolding word hyper
front_long tag sender first rest = omega arith

front_there : (tag sender first : ℕ) (rest : List ℕ) → tag < 2 ^ 32 → is_some (place_by tag (front tag sender first rest)) ≡ true → is_some (place_in (front tag sender first rest)) ≡ true
front_there tag sender first rest small some = of_tag tag (front tag sender first rest) (front_long tag sender first rest) (tag_read tag (word sender ++ (hyper first ++ rest)) small) some

vote_long : (tag sender first second : ℕ) (rest : List ℕ) → 24 ≤ length (front tag sender first (hyper second ++ rest))
unfolding word hyper
vote_long tag sender first second rest = omega arith

vote_some : (tag sender first second : ℕ) (rest : List ℕ) → is_some (vote_in (front tag sender first (hyper second ++ rest))) ≡ true
vote_some tag sender first second rest =
    let text = front tag sender first (hyper second ++ rest) in
    ap is_some (cond-true (nat_le 24 (length text)) (Some (place.Vote (double_at 8 text) (double_at 16 text))) None (le-leb 24 (length text) (vote_long tag sender first second rest)))

-- Each kind -----------------------------------------------------------------------------------------------------------

pub pre_prepare_there : (vote : model.Vote) → is_some (place_in (word pre_prepare_tag ++ vote_text vote)) ≡ true
unfolding word hyper
pre_prepare_there vote =
    let rest = drop 20 (vote_text vote) in
    front_there pre_prepare_tag vote.sender vote.view (hyper vote.number ++ rest) (omega arith) (vote_some pre_prepare_tag vote.sender vote.view vote.number rest)

pub prepare_there : (vote : model.Vote) → is_some (place_in (word prepare_tag ++ vote_text vote)) ≡ true
unfolding word hyper
prepare_there vote =
    let rest = drop 20 (vote_text vote) in
    front_there prepare_tag vote.sender vote.view (hyper vote.number ++ rest) (omega arith) (vote_some prepare_tag vote.sender vote.view vote.number rest)

pub checkpoint_there : (checkpoint : model.Checkpoint) → is_some (place_in (word checkpoint_tag ++ checkpoint_text checkpoint)) ≡ true
unfolding word hyper
checkpoint_there checkpoint = front_there checkpoint_tag checkpoint.sender checkpoint.number (drop 12 (checkpoint_text checkpoint)) (omega arith) refl

pub view_change_there : (change : model.ViewChange) → is_some (place_in (word view_change_tag ++ view_change_text change)) ≡ true
unfolding word hyper view_change_text
view_change_there change = front_there view_change_tag change.sender change.view (drop 12 (view_change_text change)) (omega arith) refl

pub new_view_there : (new : model.NewView) → is_some (place_in (word new_view_tag ++ new_view_text new)) ≡ true
unfolding word hyper new_view_text
new_view_there new = front_there new_view_tag new.sender new.view (drop 12 (new_view_text new)) (omega arith) refl
