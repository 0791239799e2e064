use Rattle.std.proofs.Common.{◌∙◌, refl, ap, sym}
use Rattle.std.specs.List.{slice_get}
use Rattle.bfs_cluster.specs.World.{World}
use Rattle.bfs_cluster.specs.declared.catching_up.Offer.{Offer as Copy}
use Rattle.bfs_cluster.proofs.Acting.{stands, with_replica}
use Rattle.bfs_cluster.proofs.Catching.{copied, if_tried}
use Rattle.bfs_cluster.proofs.cluster.Cluster.adopt_at.Goals as goal

pub returns-in-Some-clause-took : goal.returns-in-Some-clause-took
returns-in-Some-clause-took g c =
    if_tried c.adopt.result c.args.self.now c.args.number c.index_mut.result.now c.adopt.new.self c.as_slice.result.now c.in-Some.offer.checkpoint _
    (ap (λ (world : World). slice_get world.replicas c.args.number) (sym c.self.view_is)
    ∙ stands c.self.inside.replicas.items c.args.number c.index_mut.result.now (rw (← c.self.view_is) at c.requires) c.index_mut.ensures.value)
    (copied (λ (copy : Copy). (copy.text.items, copy.checkpoint)) c.in_ok-offer_to.field-0 c.in-Some.offer _ c.as_slice.result.now c.in-Some.offer.checkpoint
    c.in_ok-offer_to.ensures.offer c.in-Some.is c.as_slice.ensures.value refl)
    (ap (λ (world : World). with_replica world c.args.number c.adopt.new.self) c.self.view_is)
    c.adopt.ensures.tried
