-- No table of so many clients stands in front.
use Rattle.std.proofs.Common.{refl}
use Rattle.bfs_model.proofs.Public.{bytes_are}
use Rattle.bfs_checkpoints.proofs.Standing.{none_stands, other_number, stands}
use Rattle.bfs_checkpoints.proofs.reading.read_node.Goals as goal

pub returns-in_default-clause-malformed : goal.returns-in_default-clause-malformed
returns-in_default-clause-malformed c = (λ told. none_stands c.args.clients c.args.bytes.now c.in_default.ensures, λ malformed. refl)

pub returns-in_default-clause-wrong_version : goal.returns-in_default-clause-wrong_version
returns-in_default-clause-wrong_version c = (λ told. absurd cc, λ other. absurd ((none_stands c.args.clients c.args.bytes.now c.in_default.ensures).0 other))

pub returns-then-found-clients-clause-malformed : goal.returns-then-found-clients-clause-malformed
returns-then-found-clients-clause-malformed c =
    let there = stands c.args.bytes.now c.in-Some.found c.in-Some.rest.now (bytes_are c.args.bytes.now (λ k. (c.type_inv.bytes k).fits)) c.in-Some.ensures in
    (λ told. other_number c.in-Some.found c.args.bytes.now there.0 c.in-Some.rest.now there.1 c.args.clients c.if-found-clients.true, λ malformed. refl)

pub returns-then-found-clients-clause-wrong_version : goal.returns-then-found-clients-clause-wrong_version
returns-then-found-clients-clause-wrong_version c =
    let there = stands c.args.bytes.now c.in-Some.found c.in-Some.rest.now (bytes_are c.args.bytes.now (λ k. (c.type_inv.bytes k).fits)) c.in-Some.ensures in
    (λ told. absurd cc, λ other. absurd ((other_number c.in-Some.found c.args.bytes.now there.0 c.in-Some.rest.now there.1 c.args.clients c.if-found-clients.true).0 other))
