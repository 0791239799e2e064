use Rattle.std.proofs.Common.{◌≡◌, ◌+◌, ◌-◌, ◌*◌, ◌/◌, ◌%◌, List, [], ◌∷◌, ◌++◌, Some, length, take, drop, get_or, append_assoc, sym, ap, ◌∙◌, arith}
use Rattle.std.proofs.lemmas.List.{append-nil, drop_all, drop_more, take_all, take_rest}
use Rattle.lms.specs.declared.types.TreeTypes.{TreeTypes}
use Rattle.lms.specs.declared.types.LmsType.TheVariants.{H5}
use Rattle.lms.specs.declared.types.OtsType.TheVariants.{W1}
use Rattle.lms.specs.declared.private_key.PrivateKey.{PrivateKey}
use Rattle.lms.specs.declared.place.Place.{Place}
use Rattle.lms.specs.Types.{leaf_count}
use Rattle.lms.specs.Signers.{child_of, count_below, key_at, last_key, last_leaf, places_of}
use Rattle.lms.proofs.Ways.{key_below, last_down, leaf_down, left_below, no_key_below, no_leaf_below, no_places, one_longer, places_down}
use Rattle.lms.proofs.renewal.renew.Goals as goal

pub loop-level-preserved : goal.loop-level-preserved
loop-level-preserved c =
    let l = c.loop-level in
    let before = l.invariant in
    let below = c.args.below.now in
    let first = c.args.first.now in
    let none : TreeTypes = record { lms = H5; ots = W1 } in
    let types = get_or below l.level none in
    let rest = drop (l.level + 1) below in
    let leaf = c.split_index-leaf.result.0 in
    let left = c.split_index-leaf.result.1 in
    let place : Place = record { parent = l.key; types = types; leaf = leaf } in
    let key = c.key-key-in-loop-level.result in
    let all = drop l.level below in
    let split : all ≡ types ∷ rest = drop_more below l.level none (omega arith) in
    let whole : take (length below - l.level) all ≡ all = take_rest below l.level in
    let e : leaf ≡ l.rest / count_below all = c.split_index-leaf.ensures.leaf ∙ ap (λ (b : List TreeTypes). l.rest / count_below b) whole in
    let f : left ≡ l.rest % count_below all = c.split_index-leaf.ensures.left ∙ ap (λ (b : List TreeTypes). l.rest % count_below b) whole in
    let put = c.in_ok-renew_link.ensures.place in
    let links = c.renew_link.new.links.items in
    let longer = one_longer links l.links.items l.level place before.made put in
    let is : key ≡ child_of place = c.key-key-in-loop-level.ensures in
    record {
      few = omega (arith, c.renew_link.ensures.few);
      made = longer;
      parent = key_below first links l.links.items l.level place before.made put ∙ ap (λ (k : PrivateKey). Some k) (sym is);
      within = omega (arith, left_below types all rest l.rest left split f, ap (λ (k : PrivateKey). leaf_count k.lms * count_below rest) is);
      places = before.places ∙ ap (λ (p : List Place). take l.level l.links.items ++ p) (places_down l.key types all rest l.rest leaf left split e f)
          ∙ sym (append_assoc (take l.level l.links.items) (place ∷ []) (places_of (child_of place) rest left))
          ∙ ap (λ (p : List Place). p ++ places_of (child_of place) rest left) (sym put)
          ∙ ap (λ (k : PrivateKey). take (l.level + 1) links ++ places_of k rest left) (sym is);
      leaf = before.leaf ∙ leaf_down types all rest l.rest left split f;
      last = before.last ∙ last_down l.key types all rest l.rest leaf left split e f ∙ ap (λ (k : PrivateKey). last_key k rest left) (sym is);
    }

pub returns-clause-places : goal.returns-clause-places
returns-clause-places c =
    let l = c.loop-level in
    let end : drop l.level c.args.below.now ≡ [] = drop_all l.level c.args.below.now (omega arith) in
    sym (
    l.invariant.places
    ∙ ap (λ (b : List TreeTypes). take l.level l.links.items ++ places_of l.key b l.rest) end
    ∙ ap (λ (p : List Place). take l.level l.links.items ++ p) (no_places l.key l.rest)
    ∙ append-nil (take l.level l.links.items)
    ∙ take_all l.level l.links.items (omega arith)
    )

pub returns-clause-leaf : goal.returns-clause-leaf
returns-clause-leaf c =
    let l = c.loop-level in
    let end : drop l.level c.args.below.now ≡ [] = drop_all l.level c.args.below.now (omega arith) in
    sym (l.invariant.leaf ∙ ap (λ (b : List TreeTypes). last_leaf b l.rest) end ∙ no_leaf_below l.rest)

pub returns-clause-last : goal.returns-clause-last
returns-clause-last c =
    let l = c.loop-level in
    let end : drop l.level c.args.below.now ≡ [] = drop_all l.level c.args.below.now (omega arith) in
    let long : length l.links.items ≡ l.level = omega arith in
    let last = l.invariant.last ∙ ap (λ (b : List TreeTypes). last_key l.key b l.rest) end ∙ no_key_below l.key l.rest in
    ap (key_at c.args.first.now l.links.items) long ∙ l.invariant.parent ∙ ap (λ (k : PrivateKey). Some k) (sym last)

pub returns-clause-within : goal.returns-clause-within
returns-clause-within c =
    let l = c.loop-level in
    let end : drop l.level c.args.below.now ≡ [] = drop_all l.level c.args.below.now (omega arith) in
    let last = l.invariant.last ∙ ap (λ (b : List TreeTypes). last_key l.key b l.rest) end ∙ no_key_below l.key l.rest in
    let one = ap (λ (b : List TreeTypes). leaf_count l.key.lms * count_below b) end in
    omega (arith, l.invariant.within, one, ap (λ (k : PrivateKey). leaf_count k.lms) last)
