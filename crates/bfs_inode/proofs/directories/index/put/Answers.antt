-- The entry comes last, with the highest cookie and a name of its own. Where the index has no room for it, it goes again.
use Rattle.std.proofs.Common.{Some, ap, subst, ◌∙◌}
use Rattle.std.specs.BTreeMap.{insert_entry, UpdatesBy, is_at}
use Rattle.std.specs.Cmp.Lexicographic.{slice_cmp}
use Rattle.std.specs.Map.{remove_entry}
use Rattle.std.specs.Ordering.{nat_cmp}
use Rattle.bfs_model.specs.Server.Tree.{Entry}
use Rattle.bfs_inode.proofs.IndexLemmas.{back, pushed}
use Rattle.bfs_inode.proofs.directories.index.put.Goals as goal

pub returns-in-Ok : goal.returns-in-Ok
returns-in-Ok c =
    let held = c.args.entries.now.entries in
    let h = pushed held c.insert.new.self.entries c.args.cookies.now c.insert-2.new.self c.args.name.items c.args.entry c.requires.own c.requires.above c.requires.free
    (c.in_ok-insert.ensures.entries ∙ ap (λ (e : Entry). insert_entry nat_cmp held e.cookie c.args.entry) c.entry.view_is)
    (subst (λ (e : Entry). UpdatesBy (λ x y. slice_cmp nat_cmp x.items y.items) (λ key. slice_cmp nat_cmp c.args.name.items key.items) c.args.cookies.now c.insert-2.new.self (Some e.cookie)) c.entry.view_is c.in-Ok.ensures.updates)
    c.requires.indexed in record {
      ok = h.0;
      err = tt;
      indexed = h.1;
    }

pub returns-in-Err : goal.returns-in-Err
returns-in-Err c =
    let held = c.args.entries.now.entries in
    let h = back held c.insert.new.self.entries c.remove.new.self.entries c.args.cookies.now.entries c.insert-2.new.self.entries c.args.entry c.requires.above
    (c.in_ok-insert.ensures.entries ∙ ap (λ (e : Entry). insert_entry nat_cmp held e.cookie c.args.entry) c.entry.view_is)
    (c.remove.ensures.entries ∙ ap (λ (e : Entry). remove_entry (is_at (nat_cmp e.cookie)) c.insert.new.self.entries) c.entry.view_is)
    c.in-Err.ensures.err c.requires.indexed in record {
      ok = tt;
      err = h.0;
      indexed = h.1;
    }
