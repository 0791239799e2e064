-- The levels of signatures above the last one.
use Rattle.std.proofs.Common.{◌≡◌, ◌<◌, ◌≤◌, ◌+◌, ◌-◌, ℕ, suc, Bool, true, false, List, ◌++◌, length, take, drop, Option, Some, None, refl, sym, ap, ◌∙◌, arith, rules, append_assoc, length-append, length-drop}
use Rattle.std.specs.Prelude.{◌&&◌, ◌==◌, bytes_eq, nat_le, nat_lt, IfNone}
use Rattle.std.specs.Int.{from_be_bytes, w32}
use Rattle.std.proofs.lemmas.Bool.{and_parts, eq-eqb, eqb-true, le-leb, lt-ltb}
use Rattle.std.proofs.lemmas.List.{drop-append-le, drop-take, drop_at, length-take-le, take-append-drop, take-append-le, take-take, take_all, take_at}
use Rattle.std.proofs.lemmas.Slice.Eq.{bytes_eq-Decides}
use denote.Enum.Bare.{same_true, sameb}
use Rattle.lms.specs.contracts.types.LmsType.{the_type as lms_types}
use Rattle.lms.specs.contracts.types.OtsType.{the_type as ots_types}
use Rattle.lms.specs.declared.public_key.PublicKey.{PublicKey}
use Rattle.lms.specs.declared.hss.HssPublicKey.{HssPublicKey}
use Rattle.lms.specs.Bytes.{word_at}
use Rattle.lms.specs.Keys.{public_key_in, signature_length}
use Rattle.lms.specs.Levels.{first_signature, hss_is_signed, is_formed_over, is_signed_over, most_levels, next_key}
use Rattle.lms.specs.UpperLevels.{LeadOver, LeadTo, SignsNothing}
use Rattle.lms.specs.Verifying.{is_signed}
use Rattle.lms.proofs.Nested.{over_formed, over_step}

pub if_none : {A P : Type 0} → (found : Option A) → P → IfNone found P
if_none None it = it
if_none (Some found) it = tt

-- One level more --------------------------------------------------------------------------------------------------------------

-- what stands behind the next level's public key
front_step : (n : ℕ) (key next : PublicKey) (place : ℕ) (text rest other : List ℕ) → place ≡ signature_length key.lms key.ots + 56 → place ≤ length rest
    → is_signed key (next_key key rest) (first_signature key rest) ≡ true → public_key_in (next_key key rest) ≡ Some next
    → is_signed_over (suc n) (Some key) text (take place rest ++ other) ≡ is_signed_over n (Some next) text other
front_step n key next place text rest other told within signed found =
    let count = signature_length key.lms key.ots in
    let head = take place rest in
    let bytes = head ++ other in
    let long : length head ≡ place = length-take-le place rest within in
    let first : first_signature key bytes ≡ first_signature key rest =
    take-append-le count head other (omega (arith, long, told)) ∙ take-take count place rest (omega (arith, told)) in
    let behind : drop count head ≡ take 56 (drop count rest) = ap (λ k. drop count (take k rest)) told ∙ drop-take count 56 rest in
    let left : length (drop count head) ≡ 56 = omega (arith, length-drop count head, long, told) in
    let there : next_key key bytes ≡ next_key key rest =
    ap (take 56) (drop-append-le count head other (omega (arith, long, told)) ∙ ap (λ (l : List ℕ). l ++ other) behind)
    ∙ take-append-le 56 (take 56 (drop count rest)) other (omega (arith, left, ap length behind))
    ∙ take-take 56 56 (drop count rest) (omega arith) in
    let is : is_signed key (next_key key bytes) (first_signature key bytes) ≡ true =
    ap (λ (l : List ℕ). is_signed key l (first_signature key bytes)) there ∙ ap (is_signed key (next_key key rest)) first ∙ signed in
    over_step n key next text bytes is (ap public_key_in there ∙ found)
    ∙ ap (is_signed_over n (Some next) text) (drop_at head other (count + 56) (long ∙ told))

-- what passes of the first key's signatures, from the level of another key on
abbrev pub Continue : (below left : ℕ) (first key : PublicKey) (front : List ℕ) → Type 0
Continue below left first key front = (text bytes : List ℕ) → is_signed_over below (Some first) text (front ++ bytes) ≡ is_signed_over left (Some key) text bytes

take-more : (n m : ℕ) (bytes : List ℕ) → take (n + m) bytes ≡ take n bytes ++ take m (drop n bytes)
take-more n m bytes =
    sym (take-append-drop n (take (n + m) bytes))
    ∙ ap (λ (l : List ℕ). l ++ drop n (take (n + m) bytes)) (take-take n (n + m) bytes (omega arith))
    ∙ ap (λ (l : List ℕ). take n bytes ++ l) (drop-take n m bytes)

-- a part up to the end
part_all : (place : ℕ) (bytes : List ℕ) → take (length bytes - place) (drop place bytes) ≡ drop place bytes
part_all place bytes = take_all (length bytes - place) (drop place bytes) (omega (arith, length-drop place bytes))

pub onward : (below left n : ℕ) (first key next : PublicKey) (place more : ℕ) (bytes rest : List ℕ) → left ≡ suc n → Continue below left first key (take place bytes)
    → rest ≡ take (length bytes - place) (drop place bytes) → more ≡ signature_length key.lms key.ots + 56 → more ≤ length rest
    → is_signed key (next_key key rest) (first_signature key rest) ≡ true → public_key_in (next_key key rest) ≡ Some next
    → Continue below n first next (take (place + more) bytes)
onward below left n first key next place more bytes rest one so is told within signed found text other =
    ap (λ (l : List ℕ). is_signed_over below (Some first) text (l ++ other))
    (take-more place more bytes ∙ ap (λ (l : List ℕ). take place bytes ++ take more l) (sym (is ∙ part_all place bytes)))
    ∙ ap (is_signed_over below (Some first) text) (append_assoc (take place bytes) (take more rest) other)
    ∙ so text (take more rest ++ other) ∙ ap (λ k. is_signed_over k (Some key) text (take more rest ++ other)) one
    ∙ front_step n key next more text rest other told within signed found

-- a level that isn't signed
pub ended : (below left n : ℕ) (first key : PublicKey) (place : ℕ) (bytes rest : List ℕ) → left ≡ suc n → Continue below left first key (take place bytes)
    → rest ≡ take (length bytes - place) (drop place bytes)
    → ((m : ℕ) (text : List ℕ) → is_signed_over (suc m) (Some key) text rest ≡ false)
    → (text : List ℕ) → is_signed_over below (Some first) text bytes ≡ false
ended below left n first key place bytes rest one so is none text =
    ap (is_signed_over below (Some first) text) (sym (take-append-drop place bytes) ∙ ap (λ (l : List ℕ). take place bytes ++ l) (sym (is ∙ part_all place bytes)))
    ∙ so text rest ∙ ap (λ k. is_signed_over k (Some key) text rest) one ∙ none n text

-- Whole signatures ------------------------------------------------------------------------------------------------------------

all_hold : (a b c d : Bool) → a ≡ true → b ≡ true → c ≡ true → (a && b && c && d) ≡ d
all_hold a b c d first second third = ap (λ e. e && b && c && d) first ∙ ap (λ e. e && c && d) second ∙ ap (λ e. e && d) third

and_false : (a b : Bool) → b ≡ false → (a && b) ≡ false
and_false true b is = is
and_false false b is = refl

-- the levels above the last one, behind their number
pub lead_to : (key : HssPublicKey) (below place : ℕ) (signature rest : List ℕ) (last : PublicKey) → below ≡ word_at 0 signature → below < most_levels → below + 1 ≡ key.levels
    → 4 ≤ length signature → rest ≡ take (length signature - 4) (drop 4 signature) → place ≤ length rest → LeadOver below key.key (take place rest) last
    → LeadTo key (take (4 + place) signature) last
unfolding hss_is_signed
lead_to key below place signature rest last told few same there cut within leads text bytes =
    let is : rest ≡ drop 4 signature = cut ∙ part_all 4 signature in
    let front = take (4 + place) signature in
    let whole = front ++ bytes in
    let long : length front ≡ 4 + place = length-take-le (4 + place) signature (omega (arith, length-drop 4 signature, there, within, ap length is)) in
    let number : word_at 0 whole ≡ below =
    ap (from_be_bytes w32) (take-append-le 4 front bytes (omega (arith, long)) ∙ take-take 4 (4 + place) signature (omega arith)) ∙ sym told in
    let behind : drop 4 whole ≡ take place rest ++ bytes =
    drop-append-le 4 front bytes (omega (arith, long)) ∙ ap (λ (l : List ℕ). l ++ bytes) (drop-take 4 place signature ∙ ap (take place) (sym is)) in
    all_hold (nat_le 4 (length whole)) (nat_lt (word_at 0 whole) most_levels) (word_at 0 whole + 1 == key.levels) (is_signed_over (word_at 0 whole) (Some key.key) text (drop 4 whole))
    (le-leb 4 (length whole) (omega (arith, long, length-append front bytes))) (lt-ltb (word_at 0 whole) most_levels (omega (arith, number, few)))
    (eq-eqb (word_at 0 whole + 1) key.levels (omega (arith, number, same)))
    ∙ ap (λ n. is_signed_over n (Some key.key) text (drop 4 whole)) number
    ∙ ap (is_signed_over below (Some key.key) text) behind ∙ leads text bytes

-- the levels above the last one don't pass
pub signs_nothing : (key : HssPublicKey) (below : ℕ) (signature rest : List ℕ) → below ≡ word_at 0 signature → rest ≡ take (length signature - 4) (drop 4 signature)
    → ((text : List ℕ) → is_signed_over below (Some key.key) text rest ≡ false) → SignsNothing key signature
unfolding hss_is_signed
signs_nothing key below signature rest told cut none text =
    and_false (nat_le 4 (length signature) && nat_lt (word_at 0 signature) most_levels && (word_at 0 signature + 1 == key.levels))
    (is_signed_over (word_at 0 signature) (Some key.key) text (drop 4 signature))
    (ap (λ n. is_signed_over n (Some key.key) text (drop 4 signature)) (sym told)
    ∙ ap (is_signed_over below (Some key.key) text) (sym (cut ∙ part_all 4 signature)) ∙ none text)

pub not_formed : (n : ℕ) (key : PublicKey) (bytes : List ℕ) → is_formed_over n (Some key) bytes ≡ false → (text : List ℕ) → is_signed_over n (Some key) text bytes ≡ false
not_formed n key bytes malformed text = over_formed n (Some key) text bytes ∙ ap (λ b. b && is_signed_over n (Some key) text bytes) malformed

-- the last level decides
pub by_last : (key : HssPublicKey) (last : PublicKey) (place : ℕ) (text signature : List ℕ) → LeadTo key (take place signature) last
    → hss_is_signed key text signature ≡ is_signed last text (drop place signature)
by_last key last place text signature leads = ap (hss_is_signed key text) (sym (take-append-drop place signature)) ∙ leads text (drop place signature)

-- Levels that are kept --------------------------------------------------------------------------------------------------------

abbrev is_tree_key : (a b : PublicKey) → Bool
is_tree_key a b = sameb lms_types a.lms b.lms && (sameb ots_types a.ots b.ots && (bytes_eq a.id b.id && bytes_eq a.root b.root))

same_tree_key : (a b : PublicKey) → is_tree_key a b ≡ true → a ≡ b
same_tree_key a b e =
    let first = and_parts (sameb lms_types a.lms b.lms) (sameb ots_types a.ots b.ots && (bytes_eq a.id b.id && bytes_eq a.root b.root)) e in
    let second = and_parts (sameb ots_types a.ots b.ots) (bytes_eq a.id b.id && bytes_eq a.root b.root) first.1 in
    let third = and_parts (bytes_eq a.id b.id) (bytes_eq a.root b.root) second.1 in
    let lms : a.lms ≡ b.lms = same_true lms_types (search rules) _ _ first.0 in
    let ots : a.ots ≡ b.ots = same_true ots_types (search rules) _ _ second.0 in
    let id : a.id ≡ b.id = (bytes_eq-Decides a.id b.id).0 third.0 in
    let root : a.root ≡ b.root = (bytes_eq-Decides a.root b.root).0 third.1 in
    λ i. record { lms = lms i; ots = ots i; id = id i; root = root i }

pub same_key : (a b : HssPublicKey) → ((a.levels == b.levels) && is_tree_key a.key b.key) ≡ true → a ≡ b
same_key a b e =
    let parts = and_parts (a.levels == b.levels) (is_tree_key a.key b.key) e in
    let levels = eqb-true a.levels b.levels parts.0 in
    let key = same_tree_key a.key b.key parts.1 in
    λ i. record { levels = levels i; key = key i }

-- of the same key, and at the front of a signature
pub as_kept : (kept key : HssPublicKey) (last : PublicKey) (place : ℕ) (front signature : List ℕ) → LeadTo kept front last → kept ≡ key → place ≡ length front
    → signature ≡ front ++ drop (length front) signature → LeadTo key (take place signature) last
as_kept kept key last place front signature leads same long begins text bytes =
    let is : front ≡ take place signature = sym (ap (take place) begins ∙ take_at front (drop (length front) signature) place (sym long)) in
    ap (λ k. hss_is_signed k text (take place signature ++ bytes)) (sym same)
    ∙ ap (λ (l : List ℕ). hss_is_signed kept text (l ++ bytes)) (sym is) ∙ leads text bytes
