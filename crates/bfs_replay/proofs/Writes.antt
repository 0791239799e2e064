-- What is written one after another, also up to an error.
use Rattle.std.proofs.Common.{◌≡◌, ◌∙◌, ℕ, ◌+◌, ◌-◌, ◌<◌, List, [], ◌∷◌, ◌++◌, length, take, drop, get_or, refl, sym, ap, append_assoc, append-nil, take-append-drop}
use Rattle.std.specs.List.{flat_map}
use Rattle.std.proofs.lemmas.List.{flat_map_more, take_more, take_rest}
use Rattle.std.proofs.lemmas.Grind.{flat_map-append}
use Rattle.std.proofs.KnownBytes.{Appends-nil, Appends-trans}
use Rattle.bfs_replay.specs.Writing.{IsBeginning, IsTold, Stops, Writes, Written}
use Rattle.bfs_replay.specs.declared.run.ReplayError.{ReplayError}
use Rattle.bfs_replay.specs.declared.run.ReplayError.TheVariants.{WriteFault, Memory}

-- what a slice leaves behind its first bytes
pub moves_front : (all done rest : List ℕ) (n : ℕ) → all ≡ done ++ rest → all ≡ (done ++ take n rest) ++ take (length rest - n) (drop n rest)
moves_front all done rest n e =
    e ∙ ap (λ l. done ++ l) (sym (take-append-drop n rest)) ∙ sym (append_assoc done (take n rest) (drop n rest)) ∙ ap (λ l. (done ++ take n rest) ++ l) (sym (take_rest rest n))

pub Writes-trans : (a b c : Written) (xs ys : List ℕ) → Writes a b xs → Writes b c ys → Writes a c (xs ++ ys)
Writes-trans a b c xs ys p q = (Appends-trans a.contents b.contents c.contents xs ys p.0 q.0, q.1 ∙ p.1)

-- Beginnings -----------------------------------------------------------------------------------------------------------

pub none_begins : (bytes : List ℕ) → IsBeginning [] bytes
none_begins bytes = (bytes, refl)

pub all_begins : (bytes : List ℕ) → IsBeginning bytes bytes
all_begins bytes = ([], sym (append-nil bytes))

pub begins_behind : (before written bytes : List ℕ) → IsBeginning written bytes → IsBeginning (before ++ written) (before ++ bytes)
begins_behind before written bytes (rest, is) = (rest, ap (λ all. before ++ all) is ∙ sym (append_assoc before written rest))

pub begins_more : (written bytes more : List ℕ) → IsBeginning written bytes → IsBeginning written (bytes ++ more)
begins_more written bytes more (rest, is) = (rest ++ more, ap (λ all. all ++ more) is ∙ append_assoc written rest more)

-- Errors ---------------------------------------------------------------------------------------------------------------

-- an error is told as it was, where nothing was refused before
told_before : (error : ReplayError) (a b c : Written) → b.refused ≡ a.refused → IsTold error b c → IsTold error a c
told_before WriteFault a b c same told = told
told_before Memory a b c same told = told ∙ same

-- memory ran out before anything was written
pub stops_first : (Part : List ℕ → Type 0) (w : Written) → Part [] → Stops Memory w w Part
stops_first Part w part = ([], part, Appends-nil w.contents, refl)

-- memory ran out once all was written
pub stops_last : (Part : List ℕ → Type 0) (a b : Written) (bytes : List ℕ) → Writes a b bytes → Part bytes → Stops Memory a b Part
stops_last Part a b bytes writes part = (bytes, part, writes.0, writes.1)

-- an error behind what was written
pub stops_behind : (Part Whole : List ℕ → Type 0) (error : ReplayError) (a b c : Written) (before : List ℕ) → Writes a b before
    → ((written : List ℕ) → Part written → Whole (before ++ written)) → Stops error b c Part → Stops error a c Whole
stops_behind Part Whole error a b c before writes joins (written, part, appended, told) =
    (before ++ written, joins written part, Appends-trans a.contents b.contents c.contents before written writes.0 appended, told_before error a b c writes.1 told)

-- what was written is a part of another kind too
pub stops_as : (Part Whole : List ℕ → Type 0) (error : ReplayError) (a b : Written) → ((written : List ℕ) → Part written → Whole written) → Stops error a b Part → Stops error a b Whole
stops_as Part Whole error a b means (written, part, appended, told) = (written, means written part, appended, told)

-- an error at the bytes of one of a list, behind those of the ones before it
pub stops_within : {X : Type 0} (f : X → List ℕ) (xs : List X) (i : ℕ) (d x : X) (error : ReplayError) (a b c : Written) → i < length xs → get_or xs i d ≡ x
    → Writes a b (flat_map f (take i xs)) → Stops error b c (λ written. IsBeginning written (f x)) → Stops error a c (λ written. IsBeginning written (flat_map f xs))
stops_within f xs i d x error a b c within is writes stops =
    let so_far : flat_map f (take (i + 1) xs) ≡ flat_map f (take i xs) ++ f x =
    ap (flat_map f) (take_more xs i d within ∙ ap (λ one. take i xs ++ one ∷ []) is) ∙ sym (flat_map_more f [] (take i xs) x) in
    let all : flat_map f xs ≡ (flat_map f (take i xs) ++ f x) ++ flat_map f (drop (i + 1) xs) =
    ap (flat_map f) (sym (take-append-drop (i + 1) xs)) ∙ flat_map-append f (take (i + 1) xs) (drop (i + 1) xs) ∙ ap (λ those. those ++ flat_map f (drop (i + 1) xs)) so_far in
    stops_behind (λ written. IsBeginning written (f x)) (λ written. IsBeginning written (flat_map f xs)) error a b c (flat_map f (take i xs)) writes
    (λ written part. rw all (begins_more _ _ (flat_map f (drop (i + 1) xs)) (begins_behind (flat_map f (take i xs)) written (f x) part)))
    stops
