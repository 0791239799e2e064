-- The request and the footprint of a number stand at its place, and what it writes is at home.
use Rattle.std.proofs.Common.{◌≡◌, ◌-◌, ◌<◌, ℕ, List, [], length, refl, ap, sym, subst, ◌∙◌, arith}
use Rattle.std.proofs.lemmas.Option.{get_or_from_slice_get}
use Rattle.bfs_model.specs.Server.Shares.{moved_for}
use Rattle.bfs_footprint.specs.Seen.{footprint_seen}
use Rattle.bfs_handover.specs.Loans.{ids_of}
use Rattle.bfs_handover.specs.Moves.{AreAtHome, lent_out, taken}
use Rattle.bfs_handover.specs.Splitting.{footprint_for, part_with}
use Rattle.bfs_handover.specs.Inside.Taking.{AreOnce}
use Rattle.bfs_handover.proofs.MoveLemmas.{are_at_home, ids_taken}
use Rattle.bfs_handover.proofs.SplitLemmas.{footprint_is}
use Rattle.bfs_handover.proofs.parts.take_one.Goals as goal

pub take-requires : goal.take-requires
take-requires c =
    let part = part_with c.args.part.now c.args.footprints.now in
    let place = c.args.number - part.first in
    let less : place < length part.footprints = omega (arith, c.requires.within.from, c.requires.within.within) in
    let once : AreOnce c.written-ids.result (moved_for (footprint_for part c.args.number)) =
    subst (λ f. AreOnce c.written-ids.result (moved_for f)) (ap footprint_seen c.index-footprints-place.is ∙ sym (footprint_is c.args.footprints.now place c.index-footprints-place.result less)) c.written-ids.ensures in
    subst (AreAtHome c.args.tree.now) (sym c.as_slice.ensures.value)
    (are_at_home c.written-ids.result c.args.tree.now (λ q member. c.requires.owned q (sym (once.same q) ∙ member)) once.distinct)

pub returns-clause-job : goal.returns-clause-job
returns-clause-job c =
    let part = part_with c.args.part.now c.args.footprints.now in
    let place = c.args.number - part.first in
    let less : place < length part.footprints = omega (arith, c.requires.within.from, c.requires.within.within) in
    let once : AreOnce c.written-ids.result (moved_for (footprint_for part c.args.number)) =
    subst (λ f. AreOnce c.written-ids.result (moved_for f)) (ap footprint_seen c.index-footprints-place.is ∙ sym (footprint_is c.args.footprints.now place c.index-footprints-place.result less)) c.written-ids.ensures in
    let loans : c.in_ok-inodes.inodes ≡ taken c.written-ids.result c.args.tree.now = c.in_ok-inodes.ensures.loans ∙ ap (λ (ids : List ℕ). taken ids c.args.tree.now) c.as_slice.ensures.value in
    let ids : ids_of c.in_ok-inodes.inodes ≡ c.written-ids.result = ap ids_of loans ∙ ids_taken c.written-ids.result c.args.tree.now in
    record {
      number_is = refl;
      request = sym (get_or_from_slice_get part.requests place c.request.result.now [] c.request.ensures);
      ordinal = c.ordinal_of.ensures;
      time = refl;
      ids = subst (λ xs. AreOnce xs (moved_for (footprint_for part c.args.number))) (sym ids) once;
      inodes = loans ∙ ap (λ (xs : List ℕ). taken xs c.args.tree.now) (sym ids);
    }

pub returns-clause-out : goal.returns-clause-out
returns-clause-out c =
    let loans = c.in_ok-inodes.ensures.loans in
    c.in_ok-inodes.ensures.out ∙ ap (λ (xs : List ℕ). lent_out xs c.args.tree.now) (sym (ap ids_of loans ∙ ids_taken c.as_slice.result.now c.args.tree.now))
