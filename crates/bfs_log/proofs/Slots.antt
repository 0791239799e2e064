-- One message a slot: with one more behind, in front of others, and among those kept.
use Rattle.std.proofs.Common.{◌≡◌, Bool, true, false, ◌||◌, cond, List, [], ◌∷◌, ◌++◌, refl, ap, sym, subst, ◌∙◌}
use Rattle.std.specs.Prelude.{filter}
use Rattle.std.specs.List.{list_any}
use Rattle.std.specs.Cmp.{nat_eq_equiv}
use Rattle.std.proofs.lemmas.Bool.{or_parts, or_from}
use Rattle.std.proofs.lemmas.List.{map-append}
use Rattle.std.proofs.lemmas.List.Folds.{list_any-append}
use Rattle.bfs_messages.specs.declared.signed.Signed.{Signed}
use Rattle.bfs_messages.specs.declared.order_messages.OrderMessage.{OrderMessage}
use Rattle.bfs_votes.specs.Votes.{Header, SlotsDiffer, is_slot, is_taken}
use Rattle.bfs_log.specs.Headers.{header}
use Rattle.bfs_log.specs.Logs.{Log, headers}

swapped : (g h : Header) → is_slot g.tag g.sender g.view g.number h ≡ is_slot h.tag h.sender h.view h.number g
swapped g h = rw (
  nat_eq_equiv.symm h.tag g.tag,
  nat_eq_equiv.symm h.sender g.sender,
  nat_eq_equiv.symm h.view g.view,
  nat_eq_equiv.symm h.number g.number,
)

pushed : (hs : List Header) (h : Header) → SlotsDiffer hs → is_taken hs h ≡ false → SlotsDiffer (hs ++ h ∷ [])
pushed [] h differ free = (refl, tt)
pushed (g ∷ hs) h differ free =
    let parts = or_parts (is_slot h.tag h.sender h.view h.number g) (is_taken hs h) free in (
      list_any-append (is_slot g.tag g.sender g.view g.number) hs (h ∷ []) ∙ or_from _ _ differ.0 (or_from _ _ (swapped g h ∙ parts.0) refl),
      pushed hs h differ.1 parts.1,
    )

before : (hs ts : List Header) → SlotsDiffer (hs ++ ts) → SlotsDiffer hs
before [] ts differ = tt
before (h ∷ hs) ts differ =
    ((or_parts _ _ (sym (list_any-append (is_slot h.tag h.sender h.view h.number) hs ts) ∙ differ.0)).0, before hs ts differ.1)

none_step : (t k r s : Bool) (x : Header) (test : Header → Bool) (kept : List Header) → test x ≡ t → (t || r) ≡ false → (r ≡ false → list_any test kept ≡ false) → list_any test (cond k (x ∷ kept) kept) ≡ false
none_step false true false s x test kept e h rest = or_from (test x) (list_any test kept) e (rest refl)
none_step false false false s x test kept e h rest = rest refl
none_step true k r s x test kept e h rest = absurd cc
none_step false k true s x test kept e h rest = absurd cc

none_kept : (keep test : Header → Bool) (hs : List Header) → list_any test hs ≡ false → list_any test (filter keep hs) ≡ false
none_kept keep test [] h = refl
none_kept keep test (x ∷ hs) h = none_step (test x) (keep x) (list_any test hs) false x test (filter keep hs) refl h (none_kept keep test hs)

kept_step : (k : Bool) (h : Header) (kept : List Header) → is_taken kept h ≡ false → SlotsDiffer kept → SlotsDiffer (cond k (h ∷ kept) kept)
kept_step true h kept free differ = (free, differ)
kept_step false h kept free differ = differ

kept : (keep : Header → Bool) (hs : List Header) → SlotsDiffer hs → SlotsDiffer (filter keep hs)
kept keep [] differ = tt
kept keep (h ∷ hs) differ = kept_step (keep h) h (filter keep hs) (none_kept keep (is_slot h.tag h.sender h.view h.number) hs differ.0) (kept keep hs differ.1)

headers_step : (k : Bool) (m : Signed OrderMessage) (xs : Log) (hs : List Header) → headers xs ≡ hs → headers (cond k (m ∷ xs) xs) ≡ cond k (header m ∷ hs) hs
headers_step true m xs hs e = ap (λ ts. header m ∷ ts) e
headers_step false m xs hs e = e

headers_kept : (keep : Header → Bool) (log : Log) → headers (filter (λ m. keep (header m)) log) ≡ filter keep (headers log)
headers_kept keep [] = refl
headers_kept keep (m ∷ log) = headers_step (keep (header m)) m (filter (λ m. keep (header m)) log) (filter keep (headers log)) (headers_kept keep log)

pub differ_pushed : (log : Log) (m : Signed OrderMessage) → SlotsDiffer (headers log) → is_taken (headers log) (header m) ≡ false → SlotsDiffer (headers (log ++ m ∷ []))
differ_pushed log m differ free = subst SlotsDiffer (sym (map-append header log (m ∷ []))) (pushed (headers log) (header m) differ free)

pub differ_before : (log rest : Log) → SlotsDiffer (headers (log ++ rest)) → SlotsDiffer (headers log)
differ_before log rest differ = before (headers log) (headers rest) (subst SlotsDiffer (map-append header log rest) differ)

pub differ_kept : (keep : Header → Bool) (log : Log) → SlotsDiffer (headers log) → SlotsDiffer (headers (filter (λ m. keep (header m)) log))
differ_kept keep log differ = subst SlotsDiffer (sym (headers_kept keep log)) (kept keep (headers log) differ)
