-- The latest PRE-PREPARE for each of some numbers, with one message more.
use Rattle.std.proofs.Common.{◌≡◌, ◌≢◌, ℕ, ◌+◌, ◌<◌, Bool, true, false, ◌&&◌, cond, eqb, List, [], ◌∷◌, length, get_or, replicate, take, Option, None, refl, sym, ap, ◌∙◌, arith}
use Rattle.std.specs.Prelude.{option_to_list, slice_set}
use Rattle.std.specs.List.{filter_map, fold}
use Rattle.std.proofs.lemmas.Bool.{eqb-true, eqb-false, ne_eqb}
use Rattle.std.proofs.lemmas.Grind.{get_or-set_at}
use Rattle.std.proofs.lemmas.List.{get_or-replicate, get_or-set_other, length-replicate}
use Rattle.bfs_messages.specs.Messages as model
use Rattle.bfs_messages.specs.declared.signed.Signed.{Signed}
use Rattle.bfs_messages.specs.declared.order_messages.OrderMessage.{OrderMessage}
use Rattle.bfs_log.specs.Headers.{header}
use Rattle.bfs_log.specs.Latest.{AreLatest}
use Rattle.bfs_log.specs.Logs.{Log}
use Rattle.bfs_log.specs.Showing.{is_prepared_for, later, prepared_among, proposal_in}
use Rattle.bfs_log.proofs.Shown.{latest_next}

abbrev Found : Type 0
Found = Option (Signed model.PrePrepare)

not_both : (a b c : Bool) → b ≡ false → (a && (b && c)) ≡ false
not_both true b c e = rw e refl
not_both false b c e = refl

-- a message of another number adds nothing
of_another : (f me : ℕ) (log : Log) (n : ℕ) (m : Signed OrderMessage) → eqb (header m).number n ≡ false → prepared_among f me log n (m ∷ []) ≡ []
of_another f me log n m other =
    let none : is_prepared_for f me log n (header m) ≡ false = not_both (eqb (header m).tag 2) (eqb (header m).number n) _ other in
    ap (λ (b : Bool). filter_map (λ (m : Signed OrderMessage). proposal_in m.message m.auth) (cond b (m ∷ []) [])) none

-- nor at any place, where it is of none
pub passed_over : (f me low : ℕ) (log : Log) (m : Signed OrderMessage) (found : List Found) → ((k : ℕ) → k < length found → eqb (header m).number (low + 1 + k) ≡ false)
    → (k : ℕ) → k < length found → get_or found k None ≡ fold later (get_or found k None) (prepared_among f me log (low + 1 + k) (m ∷ []))
passed_over f me low log m found others k small = ap (fold later (get_or found k None)) (sym (of_another f me log (low + 1 + k) m (others k small)))

-- one of its number is put at its place
pub put_there : (f me low place : ℕ) (log : Log) (m : Signed OrderMessage) (found new : List Found) (more : Found) → (header m).number ≡ low + 1 + place → place < length found
    → option_to_list more ≡ prepared_among f me log (header m).number (m ∷ []) → new ≡ slice_set found place (fold later (get_or found place None) (option_to_list more))
    → (k : ℕ) → k < length found → get_or new k None ≡ fold later (get_or found k None) (prepared_among f me log (low + 1 + k) (m ∷ []))
put_there f me low place log m found new more at there is put k small = go (eqb k place) refl
  where
    mine : ℕ → List (Signed model.PrePrepare)
    mine n = prepared_among f me log n (m ∷ [])

    put_value : Found
    put_value = fold later (get_or found place None) (option_to_list more)

    go : (b : Bool) → eqb k place ≡ b → get_or new k None ≡ fold later (get_or found k None) (mine (low + 1 + k))
    go true e =
        let here : k ≡ place = eqb-true k place e in
        let number : (header m).number ≡ low + 1 + k = at ∙ ap (λ n. low + 1 + n) (sym here) in
        ap (λ (l : List Found). get_or l k None) put ∙ get_or-set_at found place k put_value None here there
        ∙ ap (λ n. fold later (get_or found n None) (option_to_list more)) (sym here) ∙ ap (fold later (get_or found k None)) (is ∙ ap mine number)
    go false e =
        let other : k ≢ place = eqb-false k place e in
        ap (λ (l : List Found). get_or l k None) put ∙ get_or-set_other found place k put_value None other
        ∙ ap (fold later (get_or found k None)) (sym (of_another f me log (low + 1 + k) m (ne_eqb (header m).number (low + 1 + k) (λ same. other (omega arith)))))

-- before the first message
pub at_first : (f me low count : ℕ) (log : Log) → AreLatest f me low count log [] (replicate count None)
at_first f me low count log = record { as_many = length-replicate count None; each = λ k small. get_or-replicate count k None None small }

-- on the way
pub noted : (f me low count : ℕ) (log xs : Log) (i : ℕ) (x : Signed OrderMessage) (old new : List Found) → AreLatest f me low count log (take i xs) old → length new ≡ length old
    → ((k : ℕ) → k < length old → get_or new k None ≡ fold later (get_or old k None) (prepared_among f me log (low + 1 + k) (x ∷ []))) → i < length xs → x ≡ get_or xs i x
    → AreLatest f me low count log (take (i + 1) xs) new
noted f me low count log xs i x old new was same each lt is = record {
  as_many = same ∙ was.as_many;
  each = λ k small. latest_next f me log (low + 1 + k) xs i x (get_or old k None) (get_or new k None) (prepared_among f me log (low + 1 + k) (x ∷ [])) (each k (let l = was.as_many in omega arith)) (was.each k small) refl lt is;
}
