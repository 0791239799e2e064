-- Records, one behind another.
use Rattle.std.proofs.Common.{◌≡◌, inl, inr, ℕ, ◌+◌, ◌<◌, ◌≤◌, List, [], ◌∷◌, ◌++◌, length, take, drop, None, Some, refl, sym, ap, ◌∙◌, append_assoc, arith, length-append, length-drop}
use Rattle.std.proofs.Math.ListN.{get_or-eq_default}
use Rattle.std.proofs.lemmas.Bool.{cases_lt}
use Rattle.std.proofs.lemmas.List.{drop_at, drop-drop, get_or-drop, get_or-take, length-take, length-take-le, take-append-drop, take_at}
use Rattle.std.proofs.lemmas.List.Elements.{All-head, All-tail}
use Rattle.std.proofs.lemmas.Nat.{be_bytes_4}
use Rattle.std.proofs.lemmas.Slice.Eq.{bytes_eq-Decides}
use Rattle.std.specs.Prelude.{All, true, false, bytes_eq, get_or}
use Rattle.std.specs.Int.{to_be_bytes, w32}
use Rattle.sha2.specs.Sha256.{sha256}
use Rattle.bfs_journal.specs.Records.{IsBody, LacksRecord, journal_of, record_of}
use Rattle.bfs_journal.specs.Rests.{digest_at, told_length, word_at}
use Rattle.bfs_journal.specs.Laws.{OneReading, SyncedIsRead}
use Rattle.bfs_journal.proofs.Heads.{behind_head, body_in, digest_in, long_in, regrouped, told_both, told_in}

-- One record ---------------------------------------------------------------------------------------------------------------

pub same_length : (bytes b c x y : List ℕ) → IsBody b → IsBody c → bytes ≡ record_of b ++ x → bytes ≡ record_of c ++ y → length b ≡ length c
same_length bytes b c x y short brief e f =
    let first = told_in bytes b x short e in
    let second = told_in bytes c y brief f in
    cc

-- two records at the front are one
pub one_record : (b c x y : List ℕ) → IsBody b → IsBody c → record_of b ++ x ≡ record_of c ++ y → (b ≡ c) × (x ≡ y)
one_record b c x y short brief e =
    let lengths = same_length (record_of b ++ x) b c x y short brief refl e in
    let bodies : b ++ x ≡ c ++ y = sym (behind_head b x) ∙ ap (drop 40) e ∙ behind_head c y in (
      sym (take_at b x (length b) refl) ∙ ap (take (length b)) bodies ∙ take_at c y (length b) (sym lengths),
      sym (drop_at b x (length b) refl) ∙ ap (drop (length b)) bodies ∙ drop_at c y (length b) (sym lengths),
    )

-- No record ----------------------------------------------------------------------------------------------------------------

pub short_lacks : (bytes : List ℕ) → length bytes < 40 → LacksRecord bytes
short_lacks bytes short body more fits e = omega (arith, short, long_in bytes body more e)

-- no length is told
pub untold_lacks : (bytes : List ℕ) → told_length bytes ≡ None → LacksRecord bytes
untold_lacks bytes none body more fits e =
    let some = told_in bytes body more fits e in
    cc

-- the body that is told stands there, and it is the only one that could have its record there
pub told_length_in : (bytes body more : List ℕ) (len : ℕ) → IsBody body → told_length bytes ≡ Some len → bytes ≡ record_of body ++ more → len ≡ length body
told_length_in bytes body more len fits told e =
    let some = told_in bytes body more fits e in
    cc

-- fewer bytes stand there than the length tells
pub few_lacks : (bytes behind : List ℕ) (len : ℕ) → told_length bytes ≡ Some len → behind ≡ drop 40 bytes → length behind < len → LacksRecord bytes
few_lacks bytes behind len told stands few body more fits e =
    omega (arith, few, ap length stands, told_length_in bytes body more len fits told e, ap length (body_in bytes body more e), length-append body more)

-- the body that stands there has another digest
pub other_lacks : (bytes body behind : List ℕ) → told_length bytes ≡ Some (length body) → drop 40 bytes ≡ body ++ behind
    → bytes_eq (sha256 body) (digest_at bytes) ≡ false → LacksRecord bytes
other_lacks bytes body behind told stands differs other more fits e =
    let lengths : length body ≡ length other = told_length_in bytes other more (length body) fits told e in
    let bodies : body ++ behind ≡ other ++ more = sym stands ∙ body_in bytes other more e in
    let same : body ≡ other = sym (take_at body behind (length body) refl) ∙ ap (take (length body)) bodies ∙ take_at other more (length body) (sym lengths) in
    let digests : sha256 body ≡ digest_at bytes = ap sha256 same ∙ sym (digest_in bytes other more e) in
    let yes : bytes_eq (sha256 body) (digest_at bytes) ≡ true = (bytes_eq-Decides (sha256 body) (digest_at bytes)).1 digests in
    cc (yes, differs)

-- What is a record -----------------------------------------------------------------------------------------------------------

abbrev AreBytes : List ℕ → Type 0
AreBytes bytes = (i : ℕ) → get_or bytes i 0 < 256

small_word : (place : ℕ) (bytes : List ℕ) → AreBytes bytes → AreBytes (take 4 (drop place bytes))
small_word place bytes small i = elim (cases_lt i 4) [
  | inl within ↦ omega (arith, small (place + i), get_or-take 4 (drop place bytes) i 0 within, get_or-drop place bytes i 0)
  | inr past ↦ omega (arith, get_or-eq_default (take 4 (drop place bytes)) 0 {n = i} (omega (arith, past, length-take 4 (drop place bytes))))
]

word_there : (place n : ℕ) (bytes : List ℕ) → place + 4 ≤ length bytes → AreBytes bytes → word_at place bytes ≡ n → to_be_bytes w32 n ≡ take 4 (drop place bytes)
word_there place n bytes long small told =
    be_bytes_4 (take 4 (drop place bytes)) n
    (length-take-le 4 (drop place bytes) (omega (arith, long, length-drop place bytes))) (small_word place bytes small) (sym told)

-- two lengths, a digest, and what stands behind them
in_parts : (bytes : List ℕ) → bytes ≡ take 4 bytes ++ (take 4 (drop 4 bytes) ++ (digest_at bytes ++ drop 40 bytes))
in_parts bytes =
    sym (
    ap (λ (l : List ℕ). take 4 bytes ++ l)
    (ap (λ (l : List ℕ). take 4 (drop 4 bytes) ++ l)
    (ap (λ (l : List ℕ). digest_at bytes ++ l) (sym (drop-drop 32 8 bytes)) ∙ take-append-drop 32 (drop 8 bytes) ∙ sym (drop-drop 4 4 bytes))
    ∙ take-append-drop 4 (drop 4 bytes))
    ∙ take-append-drop 4 bytes
    )

pub is_record : (bytes body behind : List ℕ) → 40 ≤ length bytes → AreBytes bytes → told_length bytes ≡ Some (length body) → drop 40 bytes ≡ body ++ behind
    → bytes_eq (sha256 body) (digest_at bytes) ≡ true → bytes ≡ record_of body ++ behind
is_record bytes body behind long small told stands passes =
    let both = told_both bytes (length body) told in
    let word = to_be_bytes w32 (length body) in
    let first : word ≡ take 4 bytes = word_there 0 (length body) bytes (omega (arith, long)) small both.0 in
    let second : word ≡ take 4 (drop 4 bytes) = word_there 4 (length body) bytes (omega (arith, long)) small both.1.0 in
    let digest : sha256 body ≡ digest_at bytes = (bytes_eq-Decides (sha256 body) (digest_at bytes)).0 passes in
    in_parts bytes
    ∙ ap (λ (l : List ℕ). l ++ (take 4 (drop 4 bytes) ++ (digest_at bytes ++ drop 40 bytes))) (sym first)
    ∙ ap (λ (l : List ℕ). word ++ (l ++ (digest_at bytes ++ drop 40 bytes))) (sym second)
    ∙ ap (λ (l : List ℕ). word ++ (word ++ (l ++ drop 40 bytes))) (sym digest)
    ∙ ap (λ (l : List ℕ). word ++ (word ++ (sha256 body ++ l))) stands
    ∙ sym (regrouped body behind)

-- Many records -------------------------------------------------------------------------------------------------------------

pub journal_cons : (b : List ℕ) (bs : List (List ℕ)) (more : List ℕ) → journal_of (b ∷ bs) ++ more ≡ record_of b ++ (journal_of bs ++ more)
journal_cons b bs more = append_assoc (record_of b) (journal_of bs) more

same_reading : (bodies others : List (List ℕ)) (rest end : List ℕ) → All IsBody bodies → All IsBody others → LacksRecord rest → LacksRecord end
    → journal_of bodies ++ rest ≡ journal_of others ++ end → (bodies ≡ others) × (rest ≡ end)
same_reading [] [] rest end each every none neither e = (refl, e)
same_reading [] (c ∷ cs) rest end each every none neither e =
    absurd (none c (journal_of cs ++ end) (All-head IsBody c cs every) (e ∙ journal_cons c cs end))
same_reading (b ∷ bs) [] rest end each every none neither e =
    absurd (neither b (journal_of bs ++ rest) (All-head IsBody b bs each) (sym e ∙ journal_cons b bs rest))
same_reading (b ∷ bs) (c ∷ cs) rest end each every none neither e =
    let first = one_record b c (journal_of bs ++ rest) (journal_of cs ++ end) (All-head IsBody b bs each) (All-head IsBody c cs every)
    (sym (journal_cons b bs rest) ∙ e ∙ journal_cons c cs end) in
    let behind = same_reading bs cs rest end (All-tail IsBody b bs each) (All-tail IsBody c cs every) none neither first.1 in
    ((λ i. first.0 i ∷ behind.0 i), behind.1)

pub one_reading : OneReading
one_reading bytes bodies others rest end one two =
    same_reading bodies others rest end one.each two.each one.no_more two.no_more (sym one.whole ∙ two.whole)

pub synced_is_read : SyncedIsRead
synced_is_read [] left bodies rest each split = (bodies, refl, split)
synced_is_read (b ∷ bs) left [] rest each split =
    absurd (split.no_more b (journal_of bs ++ left) (All-head IsBody b bs each) (sym split.whole ∙ journal_cons b bs left))
synced_is_read (b ∷ bs) left (c ∷ cs) rest each split =
    let first = one_record b c (journal_of bs ++ left) (journal_of cs ++ rest) (All-head IsBody b bs each) (All-head IsBody c cs split.each)
    (sym (journal_cons b bs left) ∙ split.whole ∙ journal_cons c cs rest) in
    let behind = synced_is_read bs left cs rest (All-tail IsBody b bs each)
    (record { whole = first.1; each = All-tail IsBody c cs split.each; no_more = split.no_more }) in
    (behind.0, (λ i. sym first.0 i ∷ behind.1 i), behind.2)
