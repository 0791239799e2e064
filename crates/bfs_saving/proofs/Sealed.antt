-- What stands in front of its digest, and room that is filled.
use Rattle.std.proofs.Common.{◌≡◌, ℕ, ◌+◌, ◌-◌, ◌≤◌, Bool, true, false, cond, ltb, List, ◌++◌, length, take, drop, Option, Some, None, refl, sym, ap, ap₂, subst, ◌∙◌, append_assoc, length-append, arith}
use Rattle.std.specs.Prelude.{bytes_eq}
use Rattle.std.specs.Int.{to_be_bytes, w64}
use Rattle.std.proofs.lemmas.Bool.{le-ltb, ltb-false}
use Rattle.std.proofs.lemmas.List.{drop_at, take_at, take-append-drop}
use Rattle.std.proofs.lemmas.List.Elements.{All-take}
use Rattle.std.proofs.lemmas.Slice.Eq.{bytes_eq-Decides}
use Rattle.sha2.specs.Sha256.{sha256}
use Rattle.sha2.proofs.Facts256.{length-sha256}
use Rattle.bfs_model.specs.Bytes.Call.{◌>>=◌}
use Rattle.bfs_model.specs.Bytes.Items.{hyper}
use Rattle.bfs_model.specs.Server.Stored.{AreBytes, IsByte}
use Rattle.bfs_saving.specs.Items.{FitsLong, long_text}
use Rattle.bfs_saving.specs.Saved.{sealed, unsealed}

-- The digest ---------------------------------------------------------------------------------------------------------

pub sealed_again : (body : List ℕ) → unsealed (sealed body) ≡ Some body
unfolding unsealed
sealed_again body =
    let whole = body ++ sha256 body in
    let long : length whole ≡ length body + 32 = length-append body (sha256 body) ∙ ap (λ n. length body + n) (length-sha256 body) in
    let place : length whole - 32 ≡ length body = omega (arith, long) in
    let front : take (length whole - 32) whole ≡ body = take_at body (sha256 body) (length whole - 32) (sym place) in
    let behind : drop (length whole - 32) whole ≡ sha256 body = drop_at body (sha256 body) (length whole - 32) (sym place) in
    ap (λ b. cond b None (cond (bytes_eq (sha256 (take (length whole - 32) whole)) (drop (length whole - 32) whole)) (Some (take (length whole - 32) whole)) None)) (le-ltb (length whole) 32 (omega (arith, long)))
    ∙ ap₂ (λ (t d : List ℕ). cond (bytes_eq (sha256 t) d) (Some t) None) front behind
    ∙ ap (λ b. cond b (Some body) None) ((bytes_eq-Decides (sha256 body) (sha256 body)).1 refl)

pub record Opened (short same : Bool) (front body : List ℕ) : Type 0 where
  pub long : short ≡ false
  pub right : same ≡ true
  pub is : front ≡ body

opened : (short same : Bool) (front body : List ℕ) → cond short None (cond same (Some front) None) ≡ Some body → Opened short same front body
opened true same front body e = absurd cc
opened false true front body e = record { long = refl; right = refl; is = cc }
opened false false front body e = absurd cc

pub unsealed_written : (bytes body : List ℕ) → AreBytes bytes → unsealed bytes ≡ Some body → (bytes ≡ sealed body) × AreBytes body
unfolding unsealed
unsealed_written bytes body fits e =
    let n = length bytes - 32 in
    let o = opened _ (bytes_eq (sha256 (take n bytes)) (drop n bytes)) (take n bytes) body e in
    let digest : sha256 (take n bytes) ≡ drop n bytes = (bytes_eq-Decides (sha256 (take n bytes)) (drop n bytes)).0 o.right in (
      sym (take-append-drop n bytes) ∙ ap (λ d. take n bytes ++ d) (sym digest) ∙ ap sealed o.is,
      subst AreBytes o.is (All-take IsByte n bytes fits),
    )

pub from_body : {A : Type 0} (o : Option (List ℕ)) (to : List ℕ → Option A) (s : A) → (o >>= to) ≡ Some s → (body : List ℕ) × ((o ≡ Some body) × (to body ≡ Some s))
from_body None to s e = absurd cc
from_body (Some body) to s e = (body, (refl, e))

-- The room for a length ----------------------------------------------------------------------------------------------

-- what stands there once eight bytes are put over those at a place
pub filled : (before blank text whole count now : List ℕ) (start : ℕ) → length before ≡ start → length blank ≡ 8 → length count ≡ 8 → whole ≡ (before ++ blank) ++ text
    → take (start + length count) now ≡ take start whole ++ count → drop (start + length count) now ≡ drop (start + length count) whole → now ≡ before ++ (count ++ text)
filled before blank text whole count now start place room eight is put stays =
    let front : take start whole ≡ before = ap (take start) (is ∙ append_assoc before blank text) ∙ take_at before (blank ++ text) start place in
    let long : start + length count ≡ length (before ++ blank) = omega (arith, length-append before blank) in
    let behind : drop (start + length count) whole ≡ text = ap (drop (start + length count)) is ∙ drop_at (before ++ blank) text (start + length count) (sym long) in
    sym (take-append-drop (start + length count) now) ∙ ap₂ (λ (x y : List ℕ). x ++ y) put (stays ∙ behind) ∙ ap (λ (x : List ℕ). (x ++ count) ++ text) front ∙ append_assoc before count text

hyper_long : (n : ℕ) → length (hyper n) ≡ 8
unfolding hyper
hyper_long n = refl

pub has_room : (before now : List ℕ) (start : ℕ) → start ≡ length before → now ≡ before ++ hyper 0 → start + 8 ≤ length now
has_room before now start place is = omega (arith, ap length is, length-append before (hyper 0), hyper_long 0)

-- as they are made of a number
pub eight_bytes : (n : ℕ) → to_be_bytes w64 n ≡ hyper n
unfolding hyper
eight_bytes n = refl

-- the length of what stands behind the room is put there
pub ended : (before text whole behind part now : List ℕ) (start : ℕ) → length before ≡ start → whole ≡ (before ++ hyper 0) ++ text → behind ≡ drop (start + 8) whole → FitsLong behind → part ≡ hyper (length behind)
    → take (start + length part) now ≡ take start whole ++ part → drop (start + length part) now ≡ drop (start + length part) whole → (now ≡ before ++ long_text text) × FitsLong text
ended before text whole behind part now start place is stands fits counted put stays =
    let eight : length part ≡ 8 = ap length counted ∙ hyper_long (length behind) in
    let long : start + 8 ≡ length (before ++ hyper 0) = omega (arith, length-append before (hyper 0), hyper_long 0) in
    let same : behind ≡ text = stands ∙ ap (drop (start + 8)) is ∙ drop_at (before ++ hyper 0) text (start + 8) (sym long) in (
      filled before (hyper 0) text whole part now start place (hyper_long 0) eight is put stays ∙ ap (λ (x : List ℕ). before ++ (x ++ text)) (counted ∙ ap (λ (t : List ℕ). hyper (length t)) same),
      subst FitsLong same fits,
    )

-- it is as long as it was
pub as_long : (before text now whole : List ℕ) → now ≡ before ++ long_text text → whole ≡ (before ++ hyper 0) ++ text → length now ≡ length whole
as_long before text now whole is was =
    omega (arith, ap length is, ap length was, length-append before (hyper (length text) ++ text), length-append (hyper (length text)) text, length-append (before ++ hyper 0) text, length-append before (hyper 0), hyper_long 0, hyper_long (length text))

-- bytes of a vector that were written through a slice of all of them
pub all_of : (bytes items : List ℕ) (len : ℕ) → length bytes ≡ len → take len (bytes ++ drop (length bytes) items) ≡ bytes
all_of bytes items len e = take_at bytes (drop (length bytes) items) len e
