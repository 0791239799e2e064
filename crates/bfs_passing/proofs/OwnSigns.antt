-- What a member has signed passes by its own keys, while its key lasts.
use Rattle.std.proofs.Common.{◌≡◌, true, Option, Some, None, refl, sym, subst}
use Rattle.bfs_auth.specs.Authenticators.{passes, signature}
use Rattle.bfs_auth.specs.Places.{place_in}
use Rattle.bfs_auth.specs.declared.authenticators.Authenticator.{Authenticator}
use Rattle.bfs_auth.specs.declared.places.Place.{Place}
use Rattle.bfs_auth.specs.declared.principals.Principal.{Principal}
use Rattle.bfs_auth.specs.declared.principals.Principal.TheVariants.{Replica}
use Rattle.bfs_messages.specs.Spelling.{body_text}
use Rattle.bfs_passing.specs.Laws.{OwnSignaturesPass, SignedInTimePasses}
use Rattle.bfs_passing.proofs.Hashes.{hash_passes}

pub own_signatures_pass : SignedInTimePasses → OwnSignaturesPass
own_signatures_pass signs f keys know members key w among has share times i p member shows sender auth =
    let text = body_text p.message in
    let is = has i member in
    let passing : passes (keys i) (Replica i) text (signature (keys i) text) ≡ true = go (place_in text) refl in
    subst (λ (who : Principal). passes (keys i) who text p.auth ≡ true) (sym sender) (subst (λ (a : Authenticator). passes (keys i) (Replica i) text a ≡ true) (sym auth) passing)
  where
    go : (o : Option Place) → place_in (body_text p.message) ≡ o → passes (keys i) (Replica i) (body_text p.message) (signature (keys i) (body_text p.message)) ≡ true
    go (Some place) of_place = signs f keys know i (key i) (body_text p.message) place (among i member) (has i member) of_place (times i p place member shows sender of_place)
    go None none = hash_passes keys i i (body_text p.message) (share i i member member) none
