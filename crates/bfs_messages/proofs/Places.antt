-- What messages are of.
use Rattle.std.proofs.Common.{◌≡◌, ◌<◌, ◌≤◌, ◌+◌, ◌^◌, ℕ, Bool, true, false, List, ◌++◌, length, drop, Option, Some, None, refl, sym, ap, ◌∙◌, arith}
use Rattle.std.specs.Prelude.{nat_le, nat_lt, if◌then◌else◌}
use Rattle.std.proofs.lemmas.Bool.{cond-false, cond-true, le-leb, le-ltb}
use Rattle.std.proofs.lemmas.Nat.{from_be_bytes-to_be_bytes_4, from_be_bytes-to_be_bytes_8}
use Rattle.lms.specs.Bytes.{word_at}
use Rattle.bfs_model.specs.Bytes.Items.{word, hyper, counted}
use Rattle.bfs_model.specs.Server.Limits.{most_number}
use Rattle.bfs_votes.specs.Tags.{checkpoint_tag, commit_tag, new_view_tag, pre_prepare_tag, prepare_tag, reply_tag, request_tag, view_change_tag}
use Rattle.bfs_auth.specs.Places.{double_at, place_by, place_in, vote_in}
use Rattle.bfs_auth.specs.declared.places.Place.{Place}
use Rattle.bfs_auth.specs.declared.places.Place.TheVariants as place
use Rattle.bfs_messages.specs.Messages as model
use Rattle.bfs_messages.specs.Batches.{checkpoint_text, reply_text, request_text, vote_text}
use Rattle.bfs_messages.specs.Changes.{new_view_text, view_change_text}

by_tag : (tag : ℕ) (bytes : List ℕ) → 16 ≤ length bytes → word_at 0 bytes ≡ tag → place_in bytes ≡ place_by tag bytes
unfolding place_in
by_tag tag bytes long e = cond-false (nat_lt (length bytes) 16) None (place_by (word_at 0 bytes) bytes) (le-ltb (length bytes) 16 long) ∙ ap (λ t. place_by t bytes) e

same_twice : (t : Bool) (p : Option Place) → (if t then p else p) ≡ p
same_twice true p = refl
same_twice false p = refl

none_by : (tag : ℕ) (bytes : List ℕ) → word_at 0 bytes ≡ tag → place_by tag bytes ≡ None → place_in bytes ≡ None
unfolding place_in
none_by tag bytes e none =
    ap (λ (p : Option Place). if nat_lt (length bytes) 16 then None else p) (ap (λ t. place_by t bytes) e ∙ none) ∙ same_twice (nat_lt (length bytes) 16) None

-- a tag that stands in front
tag_read : (tag : ℕ) (rest : List ℕ) → tag < 2 ^ 32 → word_at 0 (word tag ++ rest) ≡ tag
unfolding word
tag_read tag rest small = from_be_bytes-to_be_bytes_4 tag small

-- behind a tag and a sender
abbrev front : (tag sender first : ℕ) (rest : List ℕ) → List ℕ
front tag sender first rest = word tag ++ (word sender ++ (hyper first ++ rest))

front_long : (tag sender first : ℕ) (rest : List ℕ) → 16 ≤ length (front tag sender first rest)
unfolding word hyper
front_long tag sender first rest = omega arith

first_read : (tag sender first : ℕ) (rest : List ℕ) → first ≤ most_number → double_at 8 (front tag sender first rest) ≡ first
unfolding word hyper
first_read tag sender first rest small = from_be_bytes-to_be_bytes_8 first (omega (arith, small))

second_read : (tag sender first second : ℕ) (rest : List ℕ) → second ≤ most_number → double_at 16 (front tag sender first (hyper second ++ rest)) ≡ second
unfolding word hyper
second_read tag sender first second rest small = from_be_bytes-to_be_bytes_8 second (omega (arith, small))

second_long : (tag sender first second : ℕ) (rest : List ℕ) → 24 ≤ length (front tag sender first (hyper second ++ rest))
unfolding word hyper
second_long tag sender first second rest = omega arith

vote_read : (tag sender first second : ℕ) (rest : List ℕ) → first ≤ most_number → second ≤ most_number
    → vote_in (front tag sender first (hyper second ++ rest)) ≡ Some (place.Vote first second)
vote_read tag sender first second rest few also =
    let bytes = front tag sender first (hyper second ++ rest) in
    let one = first_read tag sender first (hyper second ++ rest) few in
    let two = second_read tag sender first second rest also in
    cond-true (nat_le 24 (length bytes)) (Some (place.Vote (double_at 8 bytes) (double_at 16 bytes))) None (le-leb 24 (length bytes) (second_long tag sender first second rest))
    ∙ (λ i. Some (place.Vote (one i) (two i)))

-- Each kind -------------------------------------------------------------------------------------------------------------------

pub request_place : (request : model.Request) → place_in (word request_tag ++ request_text request) ≡ None
request_place request =
    none_by request_tag (word request_tag ++ request_text request) (tag_read request_tag (request_text request) (omega arith)) refl

pub reply_place : (reply : model.Reply) → place_in (word reply_tag ++ reply_text reply) ≡ None
reply_place reply = none_by reply_tag (word reply_tag ++ reply_text reply) (tag_read reply_tag (reply_text reply) (omega arith)) refl

pub commit_place : (vote : model.Vote) → place_in (word commit_tag ++ vote_text vote) ≡ None
commit_place vote = none_by commit_tag (word commit_tag ++ vote_text vote) (tag_read commit_tag (vote_text vote) (omega arith)) refl

pub pre_prepare_place : (vote : model.Vote) → vote.view ≤ most_number → vote.number ≤ most_number
    → place_in (word pre_prepare_tag ++ vote_text vote) ≡ Some (place.Vote vote.view vote.number)
unfolding word hyper
pre_prepare_place vote few also =
    let behind = drop 20 (vote_text vote) in
    by_tag pre_prepare_tag (word pre_prepare_tag ++ vote_text vote) (front_long pre_prepare_tag vote.sender vote.view (hyper vote.number ++ behind)) (tag_read pre_prepare_tag (vote_text vote) (omega arith))
    ∙ vote_read pre_prepare_tag vote.sender vote.view vote.number behind few also

pub prepare_place : (vote : model.Vote) → vote.view ≤ most_number → vote.number ≤ most_number
    → place_in (word prepare_tag ++ vote_text vote) ≡ Some (place.Vote vote.view vote.number)
unfolding word hyper
prepare_place vote few also =
    let behind = drop 20 (vote_text vote) in
    by_tag prepare_tag (word prepare_tag ++ vote_text vote) (front_long prepare_tag vote.sender vote.view (hyper vote.number ++ behind)) (tag_read prepare_tag (vote_text vote) (omega arith))
    ∙ vote_read prepare_tag vote.sender vote.view vote.number behind few also

pub checkpoint_place : (checkpoint : model.Checkpoint) → checkpoint.number ≤ most_number → place_in (word checkpoint_tag ++ checkpoint_text checkpoint) ≡ Some (place.Checkpoint checkpoint.number)
unfolding word hyper
checkpoint_place checkpoint few =
    let behind = drop 12 (checkpoint_text checkpoint) in
    by_tag checkpoint_tag (word checkpoint_tag ++ checkpoint_text checkpoint) (front_long checkpoint_tag checkpoint.sender checkpoint.number behind) (tag_read checkpoint_tag (checkpoint_text checkpoint) (omega arith))
    ∙ ap (λ n. Some (place.Checkpoint n)) (first_read checkpoint_tag checkpoint.sender checkpoint.number behind few)

pub view_change_place : (change : model.ViewChange) → change.view ≤ most_number → place_in (word view_change_tag ++ view_change_text change) ≡ Some (place.ViewChange change.view)
unfolding word hyper view_change_text
view_change_place change few =
    let behind = drop 12 (view_change_text change) in
    by_tag view_change_tag (word view_change_tag ++ view_change_text change) (front_long view_change_tag change.sender change.view behind) (tag_read view_change_tag (view_change_text change) (omega arith))
    ∙ ap (λ n. Some (place.ViewChange n)) (first_read view_change_tag change.sender change.view behind few)

pub new_view_place : (new : model.NewView) → new.view ≤ most_number → place_in (word new_view_tag ++ new_view_text new) ≡ Some (place.NewView new.view)
unfolding word hyper new_view_text
new_view_place new few =
    let behind = drop 12 (new_view_text new) in
    by_tag new_view_tag (word new_view_tag ++ new_view_text new) (front_long new_view_tag new.sender new.view behind) (tag_read new_view_tag (new_view_text new) (omega arith))
    ∙ ap (λ n. Some (place.NewView n)) (first_read new_view_tag new.sender new.view behind few)
