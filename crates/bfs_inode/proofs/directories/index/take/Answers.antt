-- The cookie of the name leads to its entry, and both leave.
use Rattle.std.proofs.Common.{sym, ◌∙◌}
use Rattle.bfs_inode.proofs.IndexLemmas.{all_left, dropped, found, none_found}
use Rattle.bfs_inode.proofs.directories.index.take.Goals as goal

pub returns-in-Some : goal.returns-in-Some
returns-in-Some c =
    let held = c.args.entries.now.entries in
    let index = c.args.cookies.now in
    let named = c.requires.indexed.named c.args.name.now in
    let h = dropped held c.remove-in-Some.new.self.entries index c.remove.new.self c.args.name.now c.in-Some.cookie c.in-Some.ensures.value c.remove-in-Some.ensures.entries c.in-Some.ensures.updates c.requires.ordered c.requires.indexed in record {
      value = c.remove-in-Some.ensures.value ∙ found c.args.name.now 0 held c.in-Some.cookie c.requires.indexed.own c.requires.ordered.rising (sym (c.in-Some.ensures.value ∙ named));
      taken = h.0;
      indexed = h.1;
    }

pub returns-in-None : goal.returns-in-None
returns-in-None c =
    let none = none_found c.args.entries.now.entries c.args.cookies.now.entries c.args.name.now c.requires.indexed c.in-None.ensures.value in record {
      value = none;
      taken = all_left c.args.name.now _ none;
      indexed = rw c.in-None.ensures.unchanged c.requires.indexed;
    }
