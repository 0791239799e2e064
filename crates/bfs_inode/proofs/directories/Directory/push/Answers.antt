-- One more entry comes last, with the highest cookie and a name of its own.
use Rattle.std.proofs.Common.{◌≡◌, ◌<◌, ◌++◌, [], ◌∷◌, List, length, None, Result, Ok, Err, sym, subst, arith}
use Rattle.std.specs.List.{All}
use Rattle.std.specs.Result.{OnOk, OnErr}
use Rattle.bfs_model.specs.Server.Directories.{entry_named}
use Rattle.bfs_model.specs.Server.Limits.{most_entries}
use Rattle.bfs_model.specs.Server.Tree.{Entry, Listing}
use Rattle.bfs_inode.specs.Directories.{AreEntries}
use Rattle.bfs_inode.proofs.DirectoryLemmas.{entry_added}
use Rattle.bfs_inode.proofs.directories.Directory.push.Goals as goal

added_or_not : {T E : Type 0} (result : Result T E) (before after : List Entry) (last : Entry) → OnOk result (after ≡ before ++ last ∷ []) → OnErr result (after ≡ before) → AreEntries before → AreEntries (before ++ last ∷ []) → AreEntries after
added_or_not (Ok x) before after last ok err h more = rw ok more
added_or_not (Err x) before after last ok err h more = rw err h

pub invariant_of-self : goal.invariant_of-self
invariant_of-self c =
    let last : Entry = record { cookie = c.args.cookie; name = c.args.name; child = c.args.child } in
    let seen = sym c.self.view_is in (
      added_or_not c.put.result _ _ last c.put.ensures.ok c.put.ensures.err c.self.invariant.0 (entry_added _ last
          (subst (λ (listing : Listing). length listing.entries < most_entries) seen c.requires.room) (omega arith)
          (subst (λ (listing : Listing). All (λ e. e.cookie < c.args.cookie) listing.entries) seen c.requires.above)
          (subst (λ (listing : Listing). entry_named c.args.name listing.entries ≡ None) seen c.requires.free)
          c.self.invariant.0),
      c.put.ensures.indexed,
    )
