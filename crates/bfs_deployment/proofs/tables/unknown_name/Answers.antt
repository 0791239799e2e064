use Rattle.std.proofs.Common.{◌≡◌, ◌∙◌, find, option_map, tests, rules}
use Rattle.std.proofs.lemmas.Iterator.Consumers.{YieldsList-from_rest}
use Rattle.std.proofs.lemmas.Iterator.Search.{find_from_yields_List}
use Rattle.std.specs.Map.{keys_of}
use Rattle.bfs_deployment.proofs.Documents.{found_name, is_unknown, name_behind}
use Rattle.bfs_deployment.proofs.tables.unknown_name.Goals as goal

pub returns : goal.returns
returns c =
    let entries = c.args.table.now.entries in
    let test = is_unknown c.args.keys.now in
    let found : option_map (λ name. name.now) c.find.result ≡ find test (keys_of entries) =
    find_from_yields_List test _ _ c.find.result c.find.ensures.ran (YieldsList-from_rest _ (cc)) (λ x b q k. search (rules, tests)) in
    name_behind c.find.result ∙ rw found (found_name c.args.keys.now entries)
