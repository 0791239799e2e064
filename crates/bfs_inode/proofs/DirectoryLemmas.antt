-- What holds of a directory's entries still holds with one more at their end, and without that of a name.
use Rattle.std.proofs.Common.{◌≡◌, ℕ, ◌<◌, Bool, true, false, cond, List, [], ◌∷◌, ◌++◌, length, Option, Some, None, refl, sym, subst, ◌∙◌, arith}
use Rattle.std.specs.Prelude.{◌≤◌, bytes_eq}
use Rattle.std.specs.List.{All}
use Rattle.std.proofs.lemmas.Bool.{both_ways, false_from_ne_true}
use Rattle.std.proofs.lemmas.List.{length-append}
use Rattle.std.proofs.lemmas.List.Folds.{find-append}
use Rattle.std.proofs.lemmas.Slice.Eq.{bytes_eq-Decides}
use Rattle.bfs_model.specs.Server.Limits.{most_entries}
use Rattle.bfs_model.specs.Server.Tree.{Entry, spent_ordinal}
use Rattle.bfs_model.specs.Server.Directories.{entry_named, without_name}
use Rattle.bfs_model.specs.Server.WellFormed.{NamesDiffer}
use Rattle.bfs_model.proofs.Public.{rising_pushed, rising_without, differ_without, no_longer}
use Rattle.bfs_inode.specs.Directories.{AreEntries}

-- One more -------------------------------------------------------------------------------------------------------------

-- where none of a name is found, the first has another one, and there is none further on
pub none_further : (test : Bool) (e : Entry) (found : Option Entry) → cond test (Some e) found ≡ None → (test ≡ false) × (found ≡ None)
none_further true e found is = absurd cc
none_further false e found is = (refl, is)

pub other_name : (a b : List ℕ) → bytes_eq a b ≡ false → bytes_eq b a ≡ false
other_name a b is = false_from_ne_true (bytes_eq b a) (λ same. both_ways (bytes_eq a b) is ((bytes_eq-Decides a b).1 (sym ((bytes_eq-Decides b a).0 same))))

pub differ_pushed : (es : List Entry) (last : Entry) → entry_named last.name es ≡ None → NamesDiffer es → NamesDiffer (es ++ last ∷ [])
differ_pushed [] last free h = (refl, tt)
differ_pushed (e ∷ es) last free h =
    let parts = none_further (bytes_eq e.name last.name) e (entry_named last.name es) free in
    (find-append (λ (x : Entry). bytes_eq x.name e.name) es (last ∷ []) ∙ rw (h.0, other_name e.name last.name parts.0) refl, differ_pushed es last parts.1 h.1)

pub entry_added : (es : List Entry) (last : Entry) → length es < most_entries → last.cookie < spent_ordinal → All (λ e. e.cookie < last.cookie) es → entry_named last.name es ≡ None → AreEntries es → AreEntries (es ++ last ∷ [])
entry_added es last room spent above free h = record {
  few = omega (arith, length-append es (last ∷ []));
  rising = rising_pushed 0 es last spent_ordinal (omega arith) spent above h.rising;
  differ = differ_pushed es last free h.differ;
}

-- One less -------------------------------------------------------------------------------------------------------------

pub entry_dropped : (name : List ℕ) (es : List Entry) → AreEntries es → AreEntries (without_name name es)
entry_dropped name es h = let few : length es ≤ most_entries = h.few in record {
  few = omega (arith, no_longer name es);
  rising = rising_without 0 name es spent_ordinal h.rising;
  differ = differ_without name es h.differ;
}

-- the search for a name goes into the two lists that its removal chooses from
gone_by : (test : Bool) (name : List ℕ) (e : Entry) (es left : List Entry) → bytes_eq e.name name ≡ test → (test ≡ true → entry_named name es ≡ None) → entry_named name left ≡ None → entry_named name (cond test es (e ∷ left)) ≡ None
gone_by true name e es left is here further = here refl
gone_by false name e es left is here further = rw (is, further) refl

pub name_gone : (name : List ℕ) (es : List Entry) → NamesDiffer es → entry_named name (without_name name es) ≡ None
name_gone name [] h = refl
name_gone name (e ∷ es) h =
    gone_by (bytes_eq e.name name) name e es (without_name name es) refl
    (λ is. subst (λ (own : List ℕ). entry_named own es ≡ None) ((bytes_eq-Decides e.name name).0 is) h.0)
    (name_gone name es h.1)
