-- What was taken out for the number is split off.
use Rattle.std.proofs.Common.{[], ◌∷◌, ap, sym, ◌∙◌}
use Rattle.std.proofs.lemmas.List.{append-nil}
use Rattle.std.proofs.lemmas.List.Elements.{All-from_recursion}
use Rattle.bfs_tree.specs.Tree.{at_home, lent}
use Rattle.bfs_tree.specs.Laws.Knowing.{knows_all}
use Rattle.bfs_handover.specs.Loans.{ids_of}
use Rattle.bfs_handover.specs.Moves.{lent_out}
use Rattle.bfs_handover.specs.Splitting.{CanBeSplit, IsFoundOn, part_with}
use Rattle.bfs_handover.proofs.SplitLemmas.{from_both, is_split, requested}
use Rattle.bfs_handover.proofs.parts.split_request.Goals as goal

pub take_one-requires-clause-within : goal.take_one-requires-clause-within
take_one-requires-clause-within c =
    let a = c.args in
    let can = c.requires.number in
    record {
      from = can.from;
      within = can.within;
      requested = requested a.part.now.first _ a.part.now.batch.now.requests can.from c.requires.footprint.requested;
    }

pub take_one-requires-clause-owned : goal.take_one-requires-clause-owned
take_one-requires-clause-owned c = λ q _. knows_all (lent c.args.tree.now) c.requires.whole q

pub returns-clause-split : goal.returns-clause-split
returns-clause-split c =
    let a = c.args in
    let part = part_with a.part.now a.footprints.now in
    from_both c.take_one.result
    (λ job is out.
    is_split a.tree.now c.take_one.new.tree part (a.number ∷ []) (job ∷ []) c.requires.whole (tt, tt)
    (All-from_recursion (CanBeSplit (at_home a.tree.now) part) (a.number ∷ []) (c.requires.number, tt))
    (All-from_recursion (IsFoundOn (at_home a.tree.now) part) (a.number ∷ []) (c.requires.footprint, tt))
    (is, tt)
    (out ∙ ap (λ ids. lent_out ids a.tree.now) (sym (append-nil (ids_of job.inodes)))))
    c.take_one.ensures.job c.take_one.ensures.out
