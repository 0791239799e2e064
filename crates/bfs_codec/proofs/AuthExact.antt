-- Authenticators are read just where they were written.
use Rattle.std.proofs.Common.{◌≡◌, ℕ, ◌^◌, ◌<◌, ◌≤◌, Bool, true, false, cond, eqb, ltb, List, [], ◌∷◌, ◌++◌, length, None, refl, sym, ap, subst, ◌∙◌, append_assoc, arith}
use Rattle.std.specs.List.{flat_map, AllByRecursion}
use Rattle.std.proofs.lemmas.Bool.{eqb-true, ltb-true, ltb-false}
use Rattle.std.proofs.lemmas.List.Elements.{All-from_recursion, recursion_from_All}
use Rattle.bfs_model.specs.Bytes.Call.{◌>>=◌}
use Rattle.bfs_model.specs.Bytes.Formats.{Reading, as_from, items_from, word_from}
use Rattle.bfs_model.specs.Bytes.Items.{counted, fixed, word}
use Rattle.bfs_model.specs.Server.Limits.{most_replicas}
use Rattle.bfs_model.proofs.Public.{IsExact, IsShort, as_exact, fixed_exact, go_on, if_exact, items_again, items_written, none_exact, short_exact, spelled_exact, went_on, word_exact}
use Rattle.bfs_auth.specs.Authenticators.{IsAuthenticator}
use Rattle.bfs_auth.specs.Signatures.{most_signature_bytes}
use Rattle.bfs_auth.specs.declared.authenticators.Authenticator.{Authenticator}
use Rattle.bfs_auth.specs.declared.authenticators.Authenticator.TheVariants.{Hashes, Signature}
use Rattle.bfs_messages.specs.Batches.{auth_text, signature_mark}
use Rattle.bfs_messages.specs.Limits.{IsDigest}
use Rattle.bfs_codec.specs.Parts.{auth_from, digest_from, hashes_from, signature_from}

pub digest_exact : IsExact fixed IsDigest digest_from
digest_exact = fixed_exact 32

-- behind a word that says which it is, and is small where the limits are kept
marked_exact : {A : Type 0} {text : A → List ℕ} {Fits : A → Type 0} {from : ℕ → List ℕ → Reading A} → (mark : A → ℕ) → ((x : A) → Fits x → mark x < 2 ^ 32) → ((k : ℕ) → IsExact text (λ x. (mark x ≡ k) × Fits x) (from k))
    → IsExact (λ x. word (mark x) ++ text x) Fits (λ bytes. word_from bytes >>= λ n. from n.0 n.1)
marked_exact {A} {text} {Fits} {from} mark small exact = record {
  again = λ x rest fits.
      ap (λ t. word_from t >>= λ n. from n.0 n.1) (append_assoc (word (mark x)) (text x) rest)
      ∙ go_on word_exact (λ n. from n.0 n.1) (mark x) (text x ++ rest) (small x fits)
      ∙ (exact (mark x)).again x rest (refl, fits);
  written = λ bytes x rest fits e.
      went_on word_exact (λ n. from n.0 n.1) (x, rest) bytes fits e (λ n r1 e1 f1 b1 n1.
      let h = (exact n).written r1 x rest b1 n1 in
      (e1 ∙ ap (λ r. word n ++ r) h.0 ∙ ap (λ k. word k ++ (text x ++ rest)) (sym h.1.0) ∙ sym (append_assoc (word (mark x)) (text x) rest), h.1.1, h.2));
}

-- the first word, and what follows
abbrev mark_of : Authenticator → ℕ
mark_of (Hashes entries) = length entries
mark_of (Signature bytes) = signature_mark

abbrev rest_of : Authenticator → List ℕ
rest_of (Hashes entries) = flat_map fixed entries
rest_of (Signature bytes) = counted bytes

abbrev FitsMark : ℕ → Authenticator → Type 0
FitsMark k auth = (mark_of auth ≡ k) × IsAuthenticator auth

signature_exact : IsExact rest_of (FitsMark signature_mark) signature_from
unfolding signature_from
signature_exact = as_exact _ (short_exact most_signature_bytes (omega arith)) (λ bytes h. (refl, (refl, h))) back
  where
    back : (auth : Authenticator) → FitsMark signature_mark auth → (bytes : List ℕ) × (auth ≡ Signature bytes) × IsShort most_signature_bytes bytes
    back (Hashes entries) h = absurd (omega (arith, h.0, h.1.0))
    back (Signature bytes) h = (bytes, refl, h.1)

abbrev AreEntries : ℕ → List (List ℕ) → Type 0
AreEntries count entries = (length entries ≡ count) × AllByRecursion IsDigest entries

entries_exact : (count : ℕ) → IsExact (flat_map fixed) (AreEntries count) (items_from digest_from count)
entries_exact count = record {
  again = λ entries rest fits. ap (λ (n : ℕ). items_from digest_from n (flat_map fixed entries ++ rest)) (sym fits.0) ∙ items_again digest_exact entries rest fits.1;
  written = λ bytes entries rest fits e. let h = items_written digest_exact count bytes entries rest fits e in (h.0, (h.1, h.2), h.3);
}

hashes_exact : (count : ℕ) → eqb count signature_mark ≡ false → IsExact rest_of (FitsMark count) (hashes_from count)
unfolding hashes_from
hashes_exact count other =
    if_exact (ltb most_replicas count) (λ bytes. None) (λ bytes. as_from Hashes (items_from digest_from count) bytes)
    (λ above. none_exact (never (ltb-true most_replicas count above)))
    (λ within. as_exact Hashes (entries_exact count)
    (λ entries h. (refl, (h.0, (omega (arith, h.0, ltb-false most_replicas count within), All-from_recursion IsDigest entries h.1)))) (back (ltb-false most_replicas count within)))
  where
    never : most_replicas < count → (auth : Authenticator) → FitsMark count auth → ⊥
    never above (Hashes entries) h = omega (arith, above, h.0, h.1.0)
    never above (Signature bytes) h = absurd (cc (subst (λ (n : ℕ). eqb n signature_mark ≡ false) (sym h.0) other))

    back : count ≤ most_replicas → (auth : Authenticator) → FitsMark count auth → (entries : List (List ℕ)) × (auth ≡ Hashes entries) × AreEntries count entries
    back within (Hashes entries) h = (entries, refl, (h.0, recursion_from_All IsDigest entries h.1.1))
    back within (Signature bytes) h = absurd (omega (arith, within, h.0))

any_mark : (k : ℕ) → IsExact rest_of (FitsMark k) (λ bytes. cond (eqb k signature_mark) (signature_from bytes) (hashes_from k bytes))
any_mark k =
    if_exact (eqb k signature_mark) signature_from (hashes_from k)
    (λ is. subst (λ (n : ℕ). IsExact rest_of (FitsMark n) signature_from) (sym (eqb-true k signature_mark is)) signature_exact) (hashes_exact k)

small_mark : (auth : Authenticator) → IsAuthenticator auth → mark_of auth < 2 ^ 32
small_mark (Hashes entries) h = omega (arith, h.0)
small_mark (Signature bytes) h = omega arith

auth_spelled : (auth : Authenticator) → auth_text auth ≡ word (mark_of auth) ++ rest_of auth
auth_spelled (Hashes entries) = refl
auth_spelled (Signature bytes) = refl

pub auth_exact : IsExact auth_text IsAuthenticator auth_from
unfolding auth_from
auth_exact = spelled_exact auth_spelled (marked_exact mark_of small_mark any_mark)
