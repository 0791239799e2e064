use Rattle.std.proofs.Common.{◌≡◌, ◌∙◌, ◌≤◌, ◌++◌, ◌||◌, List, ℕ, map, ap, subst, sym}
use Rattle.bfs_frames.specs.Parcels.{Told, told_by}
use Rattle.bfs_signing.specs.Indexes.{is_low, next_after, warnings}
use Rattle.bfs_signing.specs.Requests.{signed_texts, signed_told}
use Rattle.bfs_signing.specs.Signing.{Signing, Signs}
use Rattle.bfs_signing.proofs.Turning.{behind, signs}
use Rattle.bfs_signing.proofs.signing.SigningMachine.turn.Goals as goal

pub returns : goal.returns
returns g c =
    let inside = c.self.inside in
    let old : Signing = record {
      relay = inside.relay;
      key = inside.signer;
      next = inside.next;
      reserved = g.G.Reserve.kept inside.store;
      warned = inside.warned;
    } in
    let takes = c.in_ok-unsigned.ensures in
    let signed = c.in_ok-parcels.ensures in
    let warned = c.in_ok-warn.ensures in
    let unsigned = c.in_ok-unsigned.unsigned.items in
    let parcels = c.warn.new.parcels.items in
    let told : List Told = map told_by unsigned in
    let relay = c.turn.new.self in
    let reserved : ℕ = c.signed.new.self.reserved in
    let mid : Signing = record {
      relay = relay;
      key = inside.signer;
      next = next_after inside.next (signed_texts told);
      reserved = reserved;
      warned = inside.warned;
    } in
    let is_mid : c.signed.new.self ≡ mid = signed.new in
    let is : map told_by parcels ≡ map told_by c.in_ok-parcels.parcels.items ++ warnings mid.warned (is_low mid.key mid.next) =
    subst (λ (at : Signing). map told_by parcels ≡ map told_by c.in_ok-parcels.parcels.items ++ warnings at.warned (is_low at.key at.next)) is_mid warned.told in
    let with_low = ap (λ (t : List Told). t ++ warnings mid.warned (is_low mid.key mid.next)) signed.told in
    let within : next_after inside.next (signed_texts told) ≤ reserved =
    subst (λ (at : Signing). at.next ≤ reserved) is_mid signed.within in
    let is_new : c.warn.new.self ≡ behind old relay reserved told =
    warned.new ∙ ap (λ (at : Signing). record at { warned = at.warned || is_low at.key at.next }) is_mid in
    let done = signs old relay reserved c.args.turn unsigned parcels told takes.told takes (is ∙ with_low) signed.has within signed.grows in
    subst (λ (at : Signing). Signs at c.args.turn parcels c.warn.new.self) c.self.view_is
    (subst (λ (at : Signing). Signs old c.args.turn parcels at) (sym is_new) done)
