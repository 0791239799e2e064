-- Signatures of several levels, a level at a time.
use Rattle.std.proofs.Common.{◌≡◌, ◌<◌, ◌+◌, ℕ, zero, suc, Bool, true, false, List, length, take, drop, Option, Some, None, refl, sym, ap, ◌∙◌, arith}
use Rattle.std.specs.Prelude.{◌&&◌, ◌==◌}
use Rattle.std.proofs.lemmas.List.{drop-drop, length-drop, length-take}
use Rattle.std.proofs.lemmas.Bool.{cond-false, ne_eqb}
use Rattle.lms.specs.declared.public_key.PublicKey.{PublicKey}
use Rattle.lms.specs.Keys.{is_formed, public_key_in, signature_length}
use Rattle.lms.specs.Levels.{behind_key, first_signature, is_formed_over, is_signed_over, next_key}
use Rattle.lms.specs.Verifying.{is_signed}

abbrev split : (n : ℕ) (key : PublicKey) (next : Option PublicKey) (text bytes : List ℕ) → Bool
split n key next text bytes = is_signed key (next_key key bytes) (first_signature key bytes) && is_signed_over n next text (behind_key key bytes)

one_over : (n : ℕ) (key : PublicKey) (text bytes : List ℕ) → is_signed_over (suc n) (Some key) text bytes ≡ split n key (public_key_in (next_key key bytes)) text bytes
unfolding is_signed_over
one_over n key text bytes = refl

none_over : (n : ℕ) (text bytes : List ℕ) → is_signed_over n None text bytes ≡ false
unfolding is_signed_over
none_over n text bytes = refl

pub last_over : (key : PublicKey) (text bytes : List ℕ) → is_signed_over 0 (Some key) text bytes ≡ is_signed key text bytes
unfolding is_signed_over
last_over key text bytes = refl

and_false : (b : Bool) → (b && false) ≡ false
and_false true = refl
and_false false = refl

no_key_in : (bytes : List ℕ) → length bytes < 56 → public_key_in bytes ≡ None
no_key_in bytes short = cond-false (length bytes == 56) _ None (ne_eqb (length bytes) 56 (λ e. omega (arith, e, short)))

-- no public key stands there
pub over_none : (n : ℕ) (key : PublicKey) (text bytes : List ℕ) → public_key_in (next_key key bytes) ≡ None → is_signed_over (suc n) (Some key) text bytes ≡ false
over_none n key text bytes none =
    one_over n key text bytes ∙ ap (λ next. split n key next text bytes) none
    ∙ ap (λ b. is_signed key (next_key key bytes) (first_signature key bytes) && b) (none_over n text (behind_key key bytes))
    ∙ and_false (is_signed key (next_key key bytes) (first_signature key bytes))

-- too few bytes are there
pub over_short : (n : ℕ) (key : PublicKey) (text bytes : List ℕ) → length bytes < signature_length key.lms key.ots + 56 → is_signed_over (suc n) (Some key) text bytes ≡ false
over_short n key text bytes short =
    let front = drop (signature_length key.lms key.ots) bytes in
    over_none n key text bytes (no_key_in (next_key key bytes) (omega (arith, length-take 56 front, length-drop (signature_length key.lms key.ots) bytes)))

-- the public key is not signed
pub over_refused : (n : ℕ) (key : PublicKey) (text bytes : List ℕ) → is_signed key (next_key key bytes) (first_signature key bytes) ≡ false
    → is_signed_over (suc n) (Some key) text bytes ≡ false
over_refused n key text bytes refused = one_over n key text bytes ∙ ap (λ b. b && is_signed_over n (public_key_in (next_key key bytes)) text (behind_key key bytes)) refused

-- one level down
pub over_step : (n : ℕ) (key next : PublicKey) (text bytes : List ℕ) → is_signed key (next_key key bytes) (first_signature key bytes) ≡ true
    → public_key_in (next_key key bytes) ≡ Some next → is_signed_over (suc n) (Some key) text bytes ≡ is_signed_over n (Some next) text (behind_key key bytes)
over_step n key next text bytes signed found =
    one_over n key text bytes ∙ ap (λ b. b && is_signed_over n (public_key_in (next_key key bytes)) text (behind_key key bytes)) signed
    ∙ ap (λ k. is_signed_over n k text (behind_key key bytes)) found

-- the parts that the bytes are split into
pub first_part : (key : PublicKey) (len : ℕ) (bytes part : List ℕ) → len ≡ signature_length key.lms key.ots → part ≡ take len bytes → part ≡ first_signature key bytes
first_part key len bytes part told e = e ∙ ap (λ k. take k bytes) told

pub next_part : (key : PublicKey) (len : ℕ) (bytes rest part : List ℕ) → len ≡ signature_length key.lms key.ots → rest ≡ drop len bytes → part ≡ take 56 rest
    → part ≡ next_key key bytes
next_part key len bytes rest part told e f = f ∙ ap (take 56) (e ∙ ap (λ k. drop k bytes) told)

pub behind_part : (key : PublicKey) (len : ℕ) (bytes rest part : List ℕ) → len ≡ signature_length key.lms key.ots → rest ≡ drop len bytes → part ≡ drop 56 rest
    → part ≡ behind_key key bytes
behind_part key len bytes rest part told e f = f ∙ ap (drop 56) (e ∙ ap (λ k. drop k bytes) told) ∙ drop-drop 56 (signature_length key.lms key.ots) bytes

and_twice : (a b : Bool) → (a && b) ≡ (a && (a && b))
and_twice true b = refl
and_twice false b = refl

-- Forms ----------------------------------------------------------------------------------------------------------------------

abbrev formed : PublicKey → List ℕ → Bool
formed key bytes = is_formed key.lms key.ots bytes

one_formed : (n : ℕ) (key : PublicKey) (bytes : List ℕ)
    → is_formed_over (suc n) (Some key) bytes ≡ (formed key (first_signature key bytes) && is_formed_over n (public_key_in (next_key key bytes)) (behind_key key bytes))
unfolding is_formed_over
one_formed n key bytes = refl

none_formed : (n : ℕ) (bytes : List ℕ) → is_formed_over n None bytes ≡ false
unfolding is_formed_over
none_formed n bytes = refl

pub last_formed : (key : PublicKey) (bytes : List ℕ) → is_formed_over 0 (Some key) bytes ≡ formed key bytes
unfolding is_formed_over
last_formed key bytes = refl

pub formed_none : (n : ℕ) (key : PublicKey) (bytes : List ℕ) → public_key_in (next_key key bytes) ≡ None → is_formed_over (suc n) (Some key) bytes ≡ false
formed_none n key bytes none =
    one_formed n key bytes ∙ ap (λ next. formed key (first_signature key bytes) && is_formed_over n next (behind_key key bytes)) none
    ∙ ap (λ b. formed key (first_signature key bytes) && b) (none_formed n (behind_key key bytes))
    ∙ and_false (formed key (first_signature key bytes))

pub formed_short : (n : ℕ) (key : PublicKey) (bytes : List ℕ) → length bytes < signature_length key.lms key.ots + 56 → is_formed_over (suc n) (Some key) bytes ≡ false
formed_short n key bytes short =
    let front = drop (signature_length key.lms key.ots) bytes in
    formed_none n key bytes (no_key_in (next_key key bytes) (omega (arith, length-take 56 front, length-drop (signature_length key.lms key.ots) bytes)))

pub formed_refused : (n : ℕ) (key : PublicKey) (bytes : List ℕ) → formed key (first_signature key bytes) ≡ false → is_formed_over (suc n) (Some key) bytes ≡ false
formed_refused n key bytes refused =
    one_formed n key bytes ∙ ap (λ b. b && is_formed_over n (public_key_in (next_key key bytes)) (behind_key key bytes)) refused

pub formed_step : (n : ℕ) (key next : PublicKey) (bytes : List ℕ) → formed key (first_signature key bytes) ≡ true → public_key_in (next_key key bytes) ≡ Some next
    → is_formed_over (suc n) (Some key) bytes ≡ is_formed_over n (Some next) (behind_key key bytes)
formed_step n key next bytes is found =
    one_formed n key bytes ∙ ap (λ b. b && is_formed_over n (public_key_in (next_key key bytes)) (behind_key key bytes)) is
    ∙ ap (λ k. is_formed_over n k (behind_key key bytes)) found

-- what is signed is formed
signed_formed : (key : PublicKey) (text bytes : List ℕ) → is_signed key text bytes ≡ (formed key bytes && is_signed key text bytes)
unfolding is_signed
signed_formed key text bytes = and_twice (formed key bytes) _

formed_both : (f g s r : Bool) → s ≡ (f && s) → r ≡ (g && r) → (s && r) ≡ ((f && g) && (s && r))
formed_both true true s r first second = refl
formed_both true false s r first second = ap (λ b. s && b) second ∙ and_false s
formed_both false g s r first second = ap (λ b. b && r) first

pub over_formed : (n : ℕ) (key : Option PublicKey) (text bytes : List ℕ) → is_signed_over n key text bytes ≡ (is_formed_over n key bytes && is_signed_over n key text bytes)
over_formed n None text bytes = none_over n text bytes ∙ ap (λ b. b && is_signed_over n None text bytes) (sym (none_formed n bytes))
over_formed zero (Some key) text bytes =
    last_over key text bytes ∙ signed_formed key text bytes
    ∙ sym (ap (λ b. b && is_signed_over 0 (Some key) text bytes) (last_formed key bytes) ∙ ap (λ b. formed key bytes && b) (last_over key text bytes))
over_formed (suc n) (Some key) text bytes =
    let next = public_key_in (next_key key bytes) in
    let s = is_signed key (next_key key bytes) (first_signature key bytes) in
    let r = is_signed_over n next text (behind_key key bytes) in
    let f = formed key (first_signature key bytes) in
    let g = is_formed_over n next (behind_key key bytes) in
    one_over n key text bytes
    ∙ formed_both f g s r (signed_formed key (next_key key bytes) (first_signature key bytes)) (over_formed n next text (behind_key key bytes))
    ∙ sym (ap (λ b. b && is_signed_over (suc n) (Some key) text bytes) (one_formed n key bytes) ∙ ap (λ b. (f && g) && b) (one_over n key text bytes))
