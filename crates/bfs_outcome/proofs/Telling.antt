-- The passes in the code: what is still to come, after the requests so far.
use Rattle.std.proofs.Common.{◌≡◌, ◌∙◌, ℕ, zero, suc, Option, Some, ◌+◌, ◌<◌, ◌≤◌, List, [], ◌∷◌, ◌++◌, length, drop, get_or, refl, sym, ap, ap₂, append_assoc, append-nil, arith, drop-cons, length-append, length-drop}
use Rattle.std.specs.List.{slice_get}
use Rattle.bfs_messages.specs.Messages.{Request}
use Rattle.bfs_messages.specs.declared.signed.Signed.{Signed}
use Rattle.bfs_replies.specs.Answers.{Answer, recorded_all}
use Rattle.bfs_replies.specs.Classes.{Timestamps}
use Rattle.bfs_replies.specs.Tables.{Table}
use Rattle.bfs_replies.specs.declared.tables.Class.{Class}
use Rattle.bfs_replies.specs.declared.tables.Class.TheVariants.{New, Repeat, Old, Unknown}
use Rattle.bfs_replies.proofs.Public.{recorded_append}
use Rattle.bfs_outcome.specs.Outcome.{answer_to}
use Rattle.bfs_outcome.specs.Inside.Passes.{call_as, class_by, left_as, new_calls, taken_by, to_answer, to_answer_as, to_record, to_record_as}

pub cut : {A : Type 0} (xs : List A) (i : ℕ) (x : A) → i < length xs → x ≡ get_or xs i x → drop i xs ≡ x ∷ drop (i + 1) xs
cut xs i x within is = drop-cons xs i x within ∙ ap₂ (λ y n. y ∷ drop n xs) (sym is) (let next : suc i ≡ i + 1 = omega arith in next)

-- The first pass -----------------------------------------------------------------------------------------------------

pub calls_follow : (timestamps : Timestamps) (signed : Signed Request) (rest : List (Signed Request)) (before : List (List ℕ))
    → (before ++ call_as (class_by timestamps signed.message) signed.message) ++ new_calls (taken_by timestamps signed.message) rest ≡ before ++ new_calls timestamps (signed ∷ rest)
calls_follow timestamps signed rest before = append_assoc before (call_as (class_by timestamps signed.message) signed.message) (new_calls (taken_by timestamps signed.message) rest)

-- The second pass ----------------------------------------------------------------------------------------------------

-- with what was answered and recorded so far, and the requests and replies that are left, it comes to what the whole comes to
pub record GoesOn (timestamps first : Timestamps) (table : Table) (rest all : List (Signed Request)) (replies : List (List ℕ)) (answered recorded : List Answer) : Type 0 where
  pub answers : answered ++ to_answer timestamps (recorded_all table recorded) rest (drop (length recorded) replies) ≡ to_answer first table all replies
  pub records : recorded ++ to_record timestamps rest (drop (length recorded) replies) ≡ to_record first all replies
  pub enough : length recorded + length (new_calls timestamps rest) ≡ length replies

-- the first of the replies that are left, where a request is new
some_left : (replies : List (List ℕ)) (count : ℕ) → count < length replies → drop count replies ≡ get_or replies count [] ∷ drop (count + 1) replies
some_left replies count within = drop-cons replies count [] within ∙ ap (λ n. get_or replies count [] ∷ drop n replies) (let next : suc count ≡ count + 1 = omega arith in next)

next_left : (request : Request) (replies : List (List ℕ)) (recorded : List Answer) (left : List (List ℕ)) → length recorded < length replies → drop (length recorded) replies ≡ left
    → drop (length (recorded ++ to_record_as New request left)) replies ≡ left_as New left
next_left request replies recorded [] within is = absurd (let none = ap length is in omega (arith, length-drop (length recorded) replies))
next_left request replies recorded (reply ∷ left) within is =
    let same : get_or replies (length recorded) [] ∷ drop (length recorded + 1) replies ≡ reply ∷ left = sym (some_left replies (length recorded) within) ∙ is in
    ap (λ n. drop n replies) (length-append recorded (answer_to request reply ∷ [])) ∙ ap (drop 1) same

all_left : (replies : List (List ℕ)) (recorded : List Answer) → drop (length (recorded ++ [])) replies ≡ drop (length recorded) replies
all_left replies recorded = ap (λ answers. drop (length answers) replies) (append-nil recorded)

left_behind : (class : Class) (request : Request) (replies : List (List ℕ)) (recorded : List Answer) → length recorded + length (call_as class request) ≤ length replies
    → drop (length (recorded ++ to_record_as class request (drop (length recorded) replies))) replies ≡ left_as class (drop (length recorded) replies)
left_behind New request replies recorded enough = next_left request replies recorded (drop (length recorded) replies) (omega arith) refl
left_behind Repeat request replies recorded enough = all_left replies recorded
left_behind Old request replies recorded enough = all_left replies recorded
left_behind Unknown request replies recorded enough = all_left replies recorded

-- as many are recorded as are called
as_many : (class : Class) (request : Request) (replies : List (List ℕ)) (count : ℕ) → count + length (call_as class request) ≤ length replies
    → length (to_record_as class request (drop count replies)) ≡ length (call_as class request)
as_many New request replies count enough = ap (λ left. length (to_record_as New request left)) (some_left replies count (omega arith))
as_many Repeat request replies count enough = refl
as_many Old request replies count enough = refl
as_many Unknown request replies count enough = refl

pub goes_on : (timestamps first : Timestamps) (table : Table) (signed : Signed Request) (rest all : List (Signed Request)) (replies : List (List ℕ)) (answered recorded : List Answer)
    → GoesOn timestamps first table (signed ∷ rest) all replies answered recorded
    → GoesOn (taken_by timestamps signed.message) first table rest all replies
    (answered ++ to_answer_as (class_by timestamps signed.message) (recorded_all table recorded) signed.message (drop (length recorded) replies))
    (recorded ++ to_record_as (class_by timestamps signed.message) signed.message (drop (length recorded) replies))
goes_on timestamps first table signed rest all replies answered recorded before =
    let class = class_by timestamps signed.message in
    let request = signed.message in
    let next = taken_by timestamps request in
    let more = to_record_as class request (drop (length recorded) replies) in
    let calls : length (new_calls timestamps (signed ∷ rest)) ≡ length (call_as class request) + length (new_calls next rest) = length-append (call_as class request) (new_calls next rest) in
    let enough : length recorded + length (call_as class request) ≤ length replies = omega (arith, before.enough, calls) in
    let left : drop (length (recorded ++ more)) replies ≡ left_as class (drop (length recorded) replies) = left_behind class request replies recorded enough in
    record {
      answers =
          rw (left, recorded_append table recorded more)
          (append_assoc answered (to_answer_as class (recorded_all table recorded) request (drop (length recorded) replies)) (to_answer next (recorded_all (recorded_all table recorded) more) rest (left_as class (drop (length recorded) replies)))
          ∙ before.answers);
      records = rw left (append_assoc recorded more (to_record next rest (left_as class (drop (length recorded) replies))) ∙ before.records);
      enough = omega (arith, before.enough, calls, length-append recorded more, as_many class request replies (length recorded) enough);
    }

-- the next reply is told, and recorded
pub next_told : (request : Request) (replies : List (List ℕ)) (place : ℕ) (reply : List ℕ) → slice_get replies place ≡ Some reply → to_record_as New request (drop place replies) ≡ answer_to request reply ∷ []
next_told request [] zero reply here = absurd cc
next_told request [] (suc place) reply here = absurd cc
next_told request (other ∷ replies) zero reply here = ap (λ bytes. answer_to request bytes ∷ []) (some_is other reply here)
  where
    some_is : {A : Type 0} (x y : A) → ◌≡◌ {A = Option A} (Some x) (Some y) → x ≡ y
    some_is x y e = cc
next_told request (other ∷ replies) (suc place) reply here = next_told request replies place reply here
