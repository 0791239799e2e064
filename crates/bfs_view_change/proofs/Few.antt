-- What may be kept is what the test lets pass.
use Rattle.std.proofs.Common.{◌≡◌, true, leb, List, ◌∷◌, [], Option, Some, None, length, refl}
use Rattle.std.specs.Prelude.{All}
use Rattle.std.specs.List.{list_all, AllByRecursion}
use Rattle.std.proofs.lemmas.Bool.{and_from, and_parts, leb-true, le-leb}
use Rattle.std.proofs.lemmas.List.Elements.{All-from_recursion, recursion_from_All}
use Rattle.bfs_model.specs.Server.Limits.{most_replicas}
use Rattle.bfs_messages.specs.Messages.{ViewChange}
use Rattle.bfs_messages.specs.declared.signed.Signed.{Signed}
use Rattle.bfs_view_change.specs.Changes.Keeping.{Kept}
use Rattle.bfs_view_change.specs.Changes.Restoring.{are_few, is_near, is_near_if_kept}
use Rattle.bfs_view_change.specs.Inside.Near.{AreFew, IsNear, IsNearIfKept}

near_told : (kept : Option (Signed ViewChange)) → IsNearIfKept kept → is_near_if_kept kept ≡ true
near_told None h = refl
near_told (Some s) h = le-leb _ _ h

near_is : (kept : Option (Signed ViewChange)) → is_near_if_kept kept ≡ true → IsNearIfKept kept
near_is None h = tt
near_is (Some s) h = leb-true _ _ h

all_told : (changes : List (Option (Signed ViewChange))) → AllByRecursion IsNearIfKept changes → list_all is_near_if_kept changes ≡ true
all_told [] h = refl
all_told (kept ∷ changes) h = and_from (is_near_if_kept kept) (list_all is_near_if_kept changes) (near_told kept h.0) (all_told changes h.1)

all_are : (changes : List (Option (Signed ViewChange))) → list_all is_near_if_kept changes ≡ true → AllByRecursion IsNearIfKept changes
all_are [] h = tt
all_are (kept ∷ changes) h = let parts = and_parts (is_near_if_kept kept) (list_all is_near_if_kept changes) h in (near_is kept parts.0, all_are changes parts.1)

pub few : (kept : Kept) → AreFew kept → are_few kept.changes ≡ true
few kept h = and_from (leb (length kept.changes) most_replicas) (list_all is_near_if_kept kept.changes) (le-leb _ _ h.few) (all_told kept.changes (recursion_from_All IsNearIfKept kept.changes h.near))

pub are_kept : (kept : Kept) → are_few kept.changes ≡ true → AreFew kept
are_kept kept h =
    let parts = and_parts (leb (length kept.changes) most_replicas) (list_all is_near_if_kept kept.changes) h in
    record { few = leb-true _ _ parts.0; near = All-from_recursion IsNearIfKept kept.changes (all_are kept.changes parts.1) }
