-- The next entry comes behind those that the directory has.
use Rattle.std.proofs.Common.{◌≡◌, ◌<◌, ◌++◌, Option, None, Some, Bor, refl, sym, ap, subst, ◌∙◌}
use Rattle.std.specs.List.{All}
use Rattle.std.specs.Option.{is_some, option_copied}
use Rattle.bfs_model.specs.Server.Directories.{entry_named}
use Rattle.bfs_model.specs.Server.Tree.{Entry, spent_ordinal}
use Rattle.bfs_model.specs.Server.WellFormed.{IsRising, NamesDiffer}
use Rattle.bfs_inode.proofs.OrderLemmas.{below, repeated}
use Rattle.bfs_inode.proofs.directories.Directory.from_entries.Goals as goal

copied : {X : Type 0} (found : Option (Bor X)) → is_some (option_copied found) ≡ is_some found
copied None = refl
copied (Some x) = refl

pub returns-then-is_some : goal.returns-then-is_some
returns-then-is_some c = λ h.
    let before = c.loop-entry.directory.entries in
    let whole = sym (ap (λ rest. before ++ rest) (sym c.in-Some.ensures.steps.0) ∙ c.loop-entry.invariant.parts) in
    let named = c.entry-in-loop-entry.ensures ∙ ap (λ name. entry_named name before) (c.as_slice.ensures.value ∙ ap (λ (e : Entry). e.name) c.entry.view_is) in
    repeated before c.next.new.self.rest.items c.in-Some.entry (ap is_some (sym named) ∙ copied c.entry-in-loop-entry.result ∙ sym c.is_some.ensures ∙ c.if-is_some.true) (subst NamesDiffer whole h.differ)

pub push-requires-clause-above : goal.push-requires-clause-above
push-requires-clause-above c =
    let before = c.loop-entry.directory.entries in
    let whole = sym (ap (λ rest. before ++ rest) (sym c.in-Some.ensures.steps.0) ∙ c.loop-entry.invariant.parts) in
    let rising = subst (λ es. IsRising 0 es spent_ordinal) c.deref.ensures.value (c.cookies_rise.ensures.0 c.if-not-cookies_rise.false) in
    subst (λ (e : Entry). All (λ x. x.cookie < e.cookie) before) (sym c.entry.view_is) (below 0 before c.next.new.self.rest.items c.in-Some.entry spent_ordinal (subst (λ es. IsRising 0 es spent_ordinal) whole rising))
