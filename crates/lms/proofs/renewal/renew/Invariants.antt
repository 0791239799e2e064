use Rattle.std.proofs.Common.{◌≡◌, ◌≤◌, ◌<◌, ◌*◌, ◌++◌, Some, length, take, drop}
use Rattle.lms.specs.Types.{leaf_count}
use Rattle.lms.specs.Signers.{count_below, key_at, last_key, last_leaf, places_of}
use Rattle.lms.proofs.renewal.renew.Given as goal

abbrev pub invariant-loop-level : goal.invariant-loop-level
invariant-loop-level l = record {
  few : length l.links.items ≤ length l.below;
  made : l.level ≤ length l.links.items;
  parent : key_at l.first l.links.items l.level ≡ Some l.key;
  within : l.rest < leaf_count l.key.lms * count_below (drop l.level l.below);
  places : places_of l.first l.below l.index ≡ take l.level l.links.items ++ places_of l.key (drop l.level l.below) l.rest;
  leaf : last_leaf l.below l.index ≡ last_leaf (drop l.level l.below) l.rest;
  last : last_key l.first l.below l.index ≡ last_key l.key (drop l.level l.below) l.rest;
}
