-- What a CREATE that is done makes.
use Rattle.std.proofs.Common.{◌≡◌, ◌∙◌, ℕ, Bool, true, false, List, [], ◌∷◌, ◌++◌, Some, None, is_some, unwrap_or, Result, Ok, nat_lt, refl, sym, ap, subst, arith, inl, inr}
use Rattle.std.specs.Cmp.{nat_cmp_total}
use Rattle.std.specs.FinMap.{get, insert, get-insert, nat_cmp-IsAntisymmetric}
use Rattle.std.specs.Str.{bytes_eq}
use Rattle.std.proofs.lemmas.Map.Views.{tells_apart}
use Rattle.std.proofs.lemmas.Slice.Eq.{bytes_eq-Decides}
use Rattle.bfs_model.specs.Bytes.Arguments.{Settings, create}
use Rattle.bfs_model.specs.Bytes.Attributes.{attributes_of}
use Rattle.bfs_model.specs.Bytes.Replies.{Reply, Status, fbig, found, results, success}
use Rattle.bfs_model.specs.Server.Access.{owner_refusals}
use Rattle.bfs_model.specs.Server.Context.{Context}
use Rattle.bfs_model.specs.Server.Directories.{entry_named}
use Rattle.bfs_model.specs.Server.Footprints.{child_at}
use Rattle.bfs_model.specs.Server.Limits.{most_file_bytes}
use Rattle.bfs_model.specs.Server.Procedures.Making.{entry_made, file_created, new_file, new_name_refusals, with_name}
use Rattle.bfs_model.specs.Server.Refusals.{FoundDirectory, Outcome, checked, directory_found}
use Rattle.bfs_model.specs.Server.Serial.{answer, ordinal_after}
use Rattle.bfs_model.specs.Server.Tree.{Entry, Inode, Inodes}
use Rattle.bfs_model.proofs.Public.{IsServable, fails, got_put, servable}
use Rattle.bfs_one_server.specs.Creating.{CreatesMakeFiles}
use Rattle.bfs_one_server.specs.Reading.{inodes_by, ordinal_by}
use Rattle.bfs_one_server.specs.Serving.{Effect}
use Rattle.bfs_one_server.proofs.Readers.{answers_behind_all, servable_behind, then_was, under, was_done}

ok_is : (x y : Outcome) → ◌≡◌ {A = Result Outcome Status} (Ok x) (Ok y) → x ≡ y
ok_is x y is = cc

-- a new name at the end is found
pushed : (name : List ℕ) (entries : List Entry) (e : Entry) → is_some (entry_named name entries) ≡ false → bytes_eq e.name name ≡ true → entry_named name (entries ++ e ∷ []) ≡ Some e
pushed name [] e free named = grind arith
pushed name (first ∷ entries) e free named = grind (arith, pushed name entries e)

-- .. in the directory that was found
named_then : (m : Inodes) (c : Context) (dir : ℕ) (name : List ℕ) (at : FoundDirectory) (new : Inode) → directory_found m (Some dir) ≡ Ok at → is_some (entry_named name at.listing.entries) ≡ false → get m c.ordinal ≡ None
    → child_at (insert (insert m at.id (with_name c name c.ordinal at.inode)) c.ordinal new) (Some dir) name ≡ Some c.ordinal
named_then m c dir name at new is free none =
    let v : Inode = with_name c name c.ordinal at.inode in
    let there : get (insert (insert m at.id v) c.ordinal new) dir ≡ Some v =
    grind (arith, get-insert nat_cmp_total (insert m at.id v) c.ordinal new dir, got_put m at.id v, tells_apart nat_cmp-IsAntisymmetric dir c.ordinal) in
    rw there (grind (arith, pushed name at.listing.entries (entry_made c name c.ordinal), itself))
  where
    itself : bytes_eq name name ≡ true
    itself = (bytes_eq-Decides name name).1 refl

one_more : (m : Inodes) (dir : ℕ) (at : FoundDirectory) (v : Inode) (o : ℕ) (new : Inode) → directory_found m (Some dir) ≡ Ok at
    → (other : ℕ) (inode : Inode) → get m other ≡ None → get (insert (insert m at.id v) o new) other ≡ Some inode → other ≡ o
one_more m dir at v o new is other inode none there =
    grind (arith, get-insert nat_cmp_total (insert m at.id v) o new other, get-insert nat_cmp_total m at.id v other, tells_apart nat_cmp-IsAntisymmetric other o, tells_apart nat_cmp-IsAntisymmetric other at.id)

none_there : (m : Inodes) (o : ℕ) → IsServable m o → get m o ≡ None
none_there m o good = grind (arith, λ (inode : Inode) (there : get m o ≡ Some inode). (good.numbered o inode there).fileid.1)

-- the inodes behind one request more
and_one : (m : Inodes) (o : ℕ) (front : List Effect) (e : Effect) → inodes_by m o (front ++ e ∷ []) ≡ (answer (inodes_by m o front) (ordinal_by o front) e.time e.request.call).0
and_one m o [] e = refl
and_one m o (x ∷ front) e = and_one (answer m o x.time x.request.call).0 (ordinal_after o 1) front e

-- a CREATE that was done, under an ordinal that is none's
record IsCreated (m : Inodes) (c : Context) (dir : ℕ) (name : List ℕ) (settings : Settings) (x : Outcome) : Type 0 where
  there : get x.0 c.ordinal ≡ Some (new_file c settings)
  one : (other : ℕ) (inode : Inode) → get m other ≡ None → get x.0 other ≡ Some inode → other ≡ c.ordinal
  named : child_at x.0 (Some dir) name ≡ Some c.ordinal
  told : x.1 ≡ found c.ordinal (attributes_of c.ordinal (new_file c settings))

created : (m : Inodes) (c : Context) (dir : ℕ) (name : List ℕ) (settings : Settings) (x : Outcome) → get m c.ordinal ≡ None → file_created m c (Some dir) name settings ≡ Ok x → IsCreated m c dir name settings x
created m c dir name settings x none is =
    let rows : FoundDirectory → List (Bool × Status) = λ at. new_name_refusals c at name (owner_refusals c.caller settings) ++ (nat_lt most_file_bytes (unwrap_or settings.size 0), fbig) ∷ [] in
    let at = then_was (directory_found m (Some dir)) _ x is in
    let good = then_was (checked (rows at.0)) _ x at.2 in
    let free = fails (is_some (entry_named name at.0.listing.entries)) (rows at.0) good.0 good.1 (inr (inr (inl refl))) in
    let new : Inode = new_file c settings in
    subst (IsCreated m c dir name settings) (ok_is _ x good.2) (record {
      there = got_put _ c.ordinal new;
      one = one_more m dir at.0 (with_name c name c.ordinal at.0.inode) c.ordinal new at.1;
      named = named_then m c dir name at.0 new at.1 free none;
      told = refl;
    })

pub creates_make_files : CreatesMakeFiles
creates_make_files files front creating back one dir name settings formed serves spells done =
    let m = inodes_by files.tree files.next_ordinal front in
    let o = ordinal_by files.next_ordinal front in
    let none = none_there m o (servable_behind files.tree files.next_ordinal front (servable files formed)) in
    let was = was_done m o creating one (create (Some dir) name settings) (answers_behind_all files.tree files.next_ordinal front creating back serves) spells done in
    let made = created m (under o creating one) dir name settings was.x none was.attempt in
    let left : was.x.0 ≡ inodes_by files.tree files.next_ordinal (front ++ creating ∷ []) = sym was.leaves ∙ sym (and_one files.tree files.next_ordinal front creating) in
    record {
      id = o;
      file = new_file (under o creating one) settings;
      was_none = none;
      is_there = subst (λ (n : Inodes). get n o ≡ Some (new_file (under o creating one) settings)) left made.there;
      is_regular = refl;
      is_one = subst (λ (n : Inodes). (other : ℕ) (inode : Inode) → get m other ≡ None → get n other ≡ Some inode → other ≡ o) left made.one;
      is_named = subst (λ (n : Inodes). child_at n (Some dir) name ≡ Some o) left made.named;
      is_told = was.replies ∙ ap (λ (r : Reply). success one.xid (results r)) made.told;
    }
