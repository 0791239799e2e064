-- Entries that may be a directory's, as they come one after another.
use Rattle.std.proofs.Common.{◌≡◌, ℕ, ◌+◌, ◌<◌, ◌≤◌, true, List, [], ◌∷◌, ◌++◌, Option, Some, None, bytes_eq, refl, sym, ◌∙◌, arith}
use Rattle.std.specs.Option.{is_some, option_or}
use Rattle.std.specs.List.{All}
use Rattle.std.proofs.lemmas.List.Elements.{All-nil, All-cons}
use Rattle.std.proofs.lemmas.List.Folds.{find-append}
use Rattle.bfs_model.specs.Server.Tree.{Entry}
use Rattle.bfs_model.specs.Server.Directories.{entry_named}
use Rattle.bfs_model.specs.Server.WellFormed.{IsRising, NamesDiffer}
use Rattle.bfs_inode.proofs.DirectoryLemmas.{none_further, other_name}

no_less : (least : ℕ) (es rest : List Entry) (e : Entry) (o : ℕ) → IsRising least (es ++ e ∷ rest) o → least ≤ e.cookie
no_less least [] rest e o h = h.0
no_less least (x ∷ es) rest e o h =
    let low : least ≤ x.cookie = h.0 in
    let further : x.cookie + 1 ≤ e.cookie = no_less (x.cookie + 1) es rest e o h.2 in
    omega arith

-- in cookies that rise those before an entry are below its own
pub below : (least : ℕ) (es rest : List Entry) (e : Entry) (o : ℕ) → IsRising least (es ++ e ∷ rest) o → All (λ x. x.cookie < e.cookie) es
below least [] rest e o h = All-nil (λ (x : Entry). x.cookie < e.cookie)
below least (x ∷ es) rest e o h =
    let further : x.cookie + 1 ≤ e.cookie = no_less (x.cookie + 1) es rest e o h.2 in
    All-cons (λ (x : Entry). x.cookie < e.cookie) x es (omega arith) (below (x.cookie + 1) es rest e o h.2)

none_first : (o p : Option Entry) → option_or o p ≡ None → p ≡ None
none_first None p e = e
none_first (Some x) p e = absurd cc

-- in names that differ none before an entry has its name
free_before : (es rest : List Entry) (e : Entry) → NamesDiffer (es ++ e ∷ rest) → entry_named e.name es ≡ None
free_before [] rest e h = refl
free_before (x ∷ es) rest e h =
    let behind : entry_named x.name (e ∷ rest) ≡ None = none_first (entry_named x.name es) (entry_named x.name (e ∷ rest)) (sym (find-append (λ (y : Entry). bytes_eq y.name x.name) es (e ∷ rest)) ∙ h.0) in
    let apart = none_further (bytes_eq e.name x.name) e (entry_named x.name rest) behind in
    rw (other_name e.name x.name apart.0) (free_before es rest e h.1)

some_and_none : (o : Option Entry) → is_some o ≡ true → o ≡ None → ⊥
some_and_none None some none = absurd cc
some_and_none (Some x) some none = absurd cc

-- an entry whose name one before it has
pub repeated : (es rest : List Entry) (e : Entry) → is_some (entry_named e.name es) ≡ true → NamesDiffer (es ++ e ∷ rest) → ⊥
repeated es rest e some differ = some_and_none (entry_named e.name es) some (free_before es rest e differ)
