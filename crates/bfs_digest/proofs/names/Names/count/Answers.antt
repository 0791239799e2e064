-- A count in the `BTreeMap` is one in the finite map.
use Rattle.std.proofs.Common.{sym, ap, ◌∙◌}
use Rattle.std.specs.Option.{option_copied, unwrap_or}
use Rattle.bfs_tree.proofs.Public.{get-map_of}
use Rattle.bfs_digest.proofs.names.Names.count.Goals as goal

pub returns-in-Some : goal.returns-in-Some
returns-in-Some c = rw (← c.self.view_is, ← c.number.ensures) (ap (λ o. unwrap_or o 0) (ap option_copied (sym c.in-Some.is) ∙ c.get.ensures.value ∙ sym (get-map_of _ _)))

pub returns-in-None : goal.returns-in-None
returns-in-None c = rw (← c.self.view_is, ← c.number.ensures) (ap (λ o. unwrap_or o 0) (ap option_copied (sym c.in-None.is) ∙ c.get.ensures.value ∙ sym (get-map_of _ _)))
