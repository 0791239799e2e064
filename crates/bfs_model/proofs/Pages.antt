-- READDIR's pages follow each other.
use Rattle.std.proofs.Common.{◌≡◌, ◌↔◌, ℕ, suc, ◌+◌, ◌-◌, ◌<◌, ◌≤◌, Bool, true, false, cond, ltb, leb, eqb, min, List, [], ◌∷◌, ◌++◌, length, drop, All, Option, Some, None, refl, sym, ap, subst, ◌∙◌, append_assoc, append-nil, arith, IsTrue}
use Rattle.std.proofs.lemmas.Bool.{ltb-true, ltb-false, lt-ltb, le-ltb, le-leb, eqb-true, eq-eqb}
use Rattle.std.proofs.lemmas.List.{length-append, nil_from_length}
use Rattle.std.proofs.lemmas.List.Elements.{All-filter, All-head, All-tail}
use Rattle.std.specs.List.{AllByRecursion}
use Rattle.std.specs.FinMap.{get}
use Rattle.bfs_model.specs.Server.Tree.{Entry, Listing, Body, file, directory, link, Inode, Inodes, FileSystem, first_ordinal, spent_ordinal, listing_at, listing_in, entries_in}
use Rattle.bfs_model.specs.Server.Directories.{all_listed, listed_behind, listed_size, held_by, page_of}
use Rattle.bfs_model.specs.Server.Limits.{most_data_bytes}
use Rattle.bfs_model.specs.Bytes.Replies.{Reply, listed}
use Rattle.bfs_model.specs.Server.Refusals.{Outcome}
use Rattle.bfs_model.specs.Server.Access.{may_read}
use Rattle.bfs_model.specs.Server.Footprints.{lets}
use Rattle.bfs_model.proofs.Found.{listing_is}
use Rattle.bfs_model.specs.Server.Context.{Context}
use Rattle.bfs_model.specs.Bytes.Arguments.{read_directory}
use Rattle.bfs_model.specs.Server.Procedures.{procedure}
use Rattle.bfs_model.specs.Server.Procedures.Names.{page_listed}
use Rattle.bfs_model.specs.Server.WellFormed.{IsRising, BodyIsLimited, IsWellFormed}
use Rattle.bfs_model.specs.Laws.Paging.{page_read, entries_told, end_told, cookie_after, pages_read, IsListed, HasRoom, DirectoriesAreListed, PageIsTold, CookiesRise, PagesFollowEachOther, EndIsToldAtTheEnd, AllIsReadAtTheEnd, PageWithRoomIsNotEmpty, EnoughPagesAreAll}

-- Rising cookies -----------------------------------------------------------------------------------------------------

rising_too : (low least : ℕ) (entries : List Entry) (high ordinal : ℕ) → low ≤ least → high ≤ ordinal → IsRising least entries high → IsRising low entries ordinal
rising_too low least [] high ordinal below above rising = tt
rising_too low least (entry ∷ entries) high ordinal below above rising =
    let least_is : least ≤ entry.cookie = rising.0 in
    let most_is : entry.cookie < high = rising.1 in
    (omega arith, omega arith, rising_too (entry.cookie + 1) (entry.cookie + 1) entries high ordinal (omega arith) above rising.2)

-- all of them stand behind a lower cookie
all_behind : (cookie least : ℕ) (entries : List Entry) (ordinal : ℕ) → cookie < least → IsRising least entries ordinal → listed_behind cookie entries ≡ entries
all_behind cookie least [] ordinal lower rising = refl
all_behind cookie least (entry ∷ entries) ordinal lower rising =
    let least_is : least ≤ entry.cookie = rising.0 in
    rw (lt-ltb cookie entry.cookie (omega arith)) (ap (λ es. entry ∷ es) (all_behind cookie (entry.cookie + 1) entries ordinal (omega arith) rising.2))

behind_one : (cookie least : ℕ) (entry : Entry) (entries : List Entry) (ordinal : ℕ) (b : Bool) → ltb cookie entry.cookie ≡ b → IsRising least (entry ∷ entries) ordinal
    → IsRising (cookie + 1) (listed_behind cookie entries) ordinal → IsRising (cookie + 1) (cond b (entry ∷ listed_behind cookie entries) (listed_behind cookie entries)) ordinal
behind_one cookie least entry entries ordinal true is rising behind =
    let lower : cookie < entry.cookie = ltb-true cookie entry.cookie is in
    (omega arith, rising.1, rw (all_behind cookie (entry.cookie + 1) entries ordinal (omega arith) rising.2) rising.2)
behind_one cookie least entry entries ordinal false is rising behind = behind

-- those behind a cookie rise from above it on
behind_rises : (cookie least : ℕ) (entries : List Entry) (ordinal : ℕ) → IsRising least entries ordinal → IsRising (cookie + 1) (listed_behind cookie entries) ordinal
behind_rises cookie least [] ordinal rising = tt
behind_rises cookie least (entry ∷ entries) ordinal rising =
    behind_one cookie least entry entries ordinal (ltb cookie entry.cookie) refl rising (behind_rises cookie (entry.cookie + 1) entries ordinal rising.2)

behind_both : (low high : ℕ) (entry : Entry) (rest : List Entry) (l h : Bool) → ltb low entry.cookie ≡ l → ltb high entry.cookie ≡ h → low ≤ high
    → listed_behind high (cond l (entry ∷ rest) rest) ≡ cond h (entry ∷ listed_behind high rest) (listed_behind high rest)
behind_both low high entry rest true h is_low is_high order = rw is_high refl
behind_both low high entry rest false true is_low is_high order = absurd (omega (arith, ltb-false low entry.cookie is_low, ltb-true high entry.cookie is_high))
behind_both low high entry rest false false is_low is_high order = refl

-- what stands behind a cookie stands behind a lower one
behind_twice : (low high : ℕ) (entries : List Entry) → low ≤ high → listed_behind high (listed_behind low entries) ≡ listed_behind high entries
behind_twice low high [] order = refl
behind_twice low high (entry ∷ entries) order =
    behind_both low high entry (listed_behind low entries) (ltb low entry.cookie) (ltb high entry.cookie) refl refl order
    ∙ ap (λ es. cond (ltb high entry.cookie) (entry ∷ es) es) (behind_twice low high entries order)

-- the cookie after a first part of them is no lower than before
cookie_rises : (cookie : ℕ) (page rest : List Entry) (ordinal : ℕ) → IsRising (cookie + 1) (page ++ rest) ordinal → cookie ≤ cookie_after cookie page
cookie_rises cookie [] rest ordinal rising = omega arith
cookie_rises cookie (entry ∷ page) rest ordinal rising =
    let least_is : cookie + 1 ≤ entry.cookie = rising.0 in
    let later = cookie_rises entry.cookie page rest ordinal rising.2 in
    omega arith

-- behind a first part of them the others are left
rest_behind : (cookie : ℕ) (page rest : List Entry) (ordinal : ℕ) → IsRising (cookie + 1) (page ++ rest) ordinal → listed_behind (cookie_after cookie page) (page ++ rest) ≡ rest
rest_behind cookie [] rest ordinal rising = all_behind cookie (cookie + 1) rest ordinal (omega arith) rising
rest_behind cookie (entry ∷ page) rest ordinal rising =
    let later = cookie_rises entry.cookie page rest ordinal rising.2 in
    rw (le-ltb (cookie_after entry.cookie page) entry.cookie later) (rest_behind entry.cookie page rest ordinal rising.2)

-- One page -----------------------------------------------------------------------------------------------------------

held_or_not : (room : ℕ) (entry : Entry) (entries : List Entry) (b : Bool) (held : List Entry) → held ++ drop (length held) entries ≡ entries
    → cond b (entry ∷ held) [] ++ drop (length (cond b (entry ∷ held) [])) (entry ∷ entries) ≡ entry ∷ entries
held_or_not room entry entries true held first = ap (λ es. entry ∷ es) first
held_or_not room entry entries false held first = refl

held_first : (room : ℕ) (entries : List Entry) → held_by room entries ++ drop (length (held_by room entries)) entries ≡ entries
held_first room [] = refl
held_first room (entry ∷ entries) =
    held_or_not room entry entries (leb (listed_size entry) room) (held_by (room - listed_size entry) entries) (held_first (room - listed_size entry) entries)

-- a page, and behind its last cookie what it does not hold
page_then : (whole : List Entry) (least ordinal cookie count : ℕ) → IsRising least whole ordinal
    → page_of count (listed_behind cookie whole) ++ listed_behind (cookie_after cookie (page_of count (listed_behind cookie whole))) whole ≡ listed_behind cookie whole
page_then whole least ordinal cookie count rising =
    let left : List Entry = listed_behind cookie whole in
    let page : List Entry = page_of count left in
    let rest : List Entry = drop (length page) left in
    let parts : page ++ rest ≡ left = held_first (min count most_data_bytes - 12) left in
    let left_rises : IsRising (cookie + 1) (page ++ rest) ordinal = rw parts (behind_rises cookie least whole ordinal rising) in
    let higher : cookie ≤ cookie_after cookie page = cookie_rises cookie page rest ordinal left_rises in
    let behind : listed_behind (cookie_after cookie page) whole ≡ rest =
    sym (behind_twice cookie (cookie_after cookie page) whole higher) ∙ ap (λ es. listed_behind (cookie_after cookie page) es) (sym parts) ∙ rest_behind cookie page rest ordinal left_rises in
    ap (λ es. page ++ es) behind ∙ parts

-- The reply ------------------------------------------------------------------------------------------------------------

outcome_told : (inodes : Inodes) (context : Context) (dir : ℕ) (listing : Listing) (cookie count : ℕ) → IsListed inodes context dir listing
    → procedure inodes context (read_directory (Some dir) cookie count) ≡ (inodes, page_listed count (listed_behind cookie (all_listed dir listing)))
outcome_told inodes context dir listing cookie count h = there_told (get inodes dir) refl h.there h.granted
  where
    there_told : (there : Option Inode) → get inodes dir ≡ there → listing_at there ≡ Some listing → IsTrue (lets may_read context.caller there)
        → procedure inodes context (read_directory (Some dir) cookie count) ≡ (inodes, page_listed count (listed_behind cookie (all_listed dir listing)))
    there_told None at is granted = absurd cc
    there_told (Some inode) at is granted =
        let may : may_read context.caller inode ≡ true = rw (listing_is inode.body listing is) at granted in
        rw (at, is, may) refl

page_told : (inodes : Inodes) (context : Context) (dir : ℕ) (listing : Listing) (cookie count : ℕ) → IsListed inodes context dir listing → page_read inodes context dir cookie count ≡ page_listed count (listed_behind cookie (all_listed dir listing))
page_told inodes context dir listing cookie count h = ap (λ (outcome : Outcome). outcome.1) (outcome_told inodes context dir listing cookie count h)

pub page_is_told : PageIsTold
page_is_told inodes context dir listing cookie count h =
    outcome_told inodes context dir listing cookie count h
    ∙ ap (λ (reply : Reply). (inodes, listed (entries_told reply) (end_told reply))) (sym (page_told inodes context dir listing cookie count h))

all_rises : (inodes : Inodes) (context : Context) (dir : ℕ) (listing : Listing) (h : IsListed inodes context dir listing) → IsRising 1 (all_listed dir listing) (h.ordinal + 3)
all_rises inodes context dir listing h = (omega arith, omega arith, (omega arith, omega arith, rising_too 3 3 listing.entries h.ordinal (h.ordinal + 3) (omega arith) (omega arith) h.rising))

-- cookies that rise, and are ordinals from the first on, below the next
rising_between : (least : ℕ) (entries : List Entry) (high ordinal : ℕ) → IsRising least entries high → AllByRecursion (λ entry. (first_ordinal ≤ entry.cookie) × (entry.cookie < ordinal)) entries → IsRising first_ordinal entries ordinal
rising_between least [] high ordinal rising numbered = tt
rising_between least (entry ∷ entries) high ordinal rising numbered = (numbered.0.0, numbered.0.1, rising_on (entry.cookie + 1) entries rising.2 numbered.1)
  where
    rising_on : (least : ℕ) (entries : List Entry) → IsRising least entries high → AllByRecursion (λ entry. (first_ordinal ≤ entry.cookie) × (entry.cookie < ordinal)) entries → IsRising least entries ordinal
    rising_on least [] rising numbered = tt
    rising_on least (entry ∷ entries) rising numbered = (rising.0, numbered.0.1, rising_on (entry.cookie + 1) entries rising.2 numbered.1)

rising_in : (ordinal links : ℕ) (body : Body) (listing : Listing) → listing_in body ≡ Some listing → BodyIsLimited links body → AllByRecursion (λ entry. (first_ordinal ≤ entry.cookie) × (entry.cookie < ordinal)) (entries_in body) → IsRising first_ordinal listing.entries ordinal
rising_in ordinal links (file bytes) listing there limited numbered = absurd cc
rising_in ordinal links (directory l) listing there limited numbered = let same : l ≡ listing = cc in subst (λ (k : Listing). IsRising first_ordinal k.entries ordinal) same (rising_between 0 l.entries spent_ordinal ordinal limited.1 numbered)
rising_in ordinal links (link target) listing there limited numbered = absurd cc

rising_at : (files : FileSystem) (dir : ℕ) (inode : Option Inode) (listing : Listing) → IsWellFormed files → get files.tree dir ≡ inode → listing_at inode ≡ Some listing
    → IsRising first_ordinal listing.entries files.next_ordinal
rising_at files dir None listing h is there = absurd cc
rising_at files dir (Some inode) listing h is there = rising_in files.next_ordinal inode.links inode.body listing there (h.tree.limited dir inode is).body (h.numbered dir inode is).cookies

pub directories_are_listed : DirectoriesAreListed
directories_are_listed files context dir listing h there granted = record { there = there; granted = granted; ordinal = files.next_ordinal; rising = rising_at files dir (get files.tree dir) listing h refl there }

-- Pages one after another ----------------------------------------------------------------------------------------------

cookie_after_both : (cookie : ℕ) (page pages : List Entry) → cookie_after cookie (page ++ pages) ≡ cookie_after (cookie_after cookie page) pages
cookie_after_both cookie [] pages = refl
cookie_after_both cookie (entry ∷ page) pages = cookie_after_both entry.cookie page pages

-- from any cookie on, a page and what is left
one_then : (inodes : Inodes) (context : Context) (dir : ℕ) (listing : Listing) (cookie count : ℕ) → IsListed inodes context dir listing
    → entries_told (page_read inodes context dir cookie count) ++ listed_behind (cookie_after cookie (entries_told (page_read inodes context dir cookie count))) (all_listed dir listing)
    ≡ listed_behind cookie (all_listed dir listing)
one_then inodes context dir listing cookie count h =
    subst (λ (reply : Reply). entries_told reply ++ listed_behind (cookie_after cookie (entries_told reply)) (all_listed dir listing) ≡ listed_behind cookie (all_listed dir listing))
    (sym (page_told inodes context dir listing cookie count h))
    (page_then (all_listed dir listing) 1 (h.ordinal + 3) cookie count (all_rises inodes context dir listing h))

-- from any cookie on, pages and what is left
pub pages_then : (inodes : Inodes) (context : Context) (dir : ℕ) (listing : Listing) (cookie : ℕ) (counts : List ℕ) → IsListed inodes context dir listing
    → pages_read inodes context dir cookie counts ++ listed_behind (cookie_after cookie (pages_read inodes context dir cookie counts)) (all_listed dir listing) ≡ listed_behind cookie (all_listed dir listing)
pages_then inodes context dir listing cookie [] h = refl
pages_then inodes context dir listing cookie (count ∷ counts) h =
    let page : List Entry = entries_told (page_read inodes context dir cookie count) in
    let pages : List Entry = pages_read inodes context dir (cookie_after cookie page) counts in
    append_assoc page pages (listed_behind (cookie_after cookie (page ++ pages)) (all_listed dir listing))
    ∙ ap (λ c. page ++ (pages ++ listed_behind c (all_listed dir listing))) (cookie_after_both cookie page pages)
    ∙ ap (λ es. page ++ es) (pages_then inodes context dir listing (cookie_after cookie page) counts h)
    ∙ one_then inodes context dir listing cookie count h

all_from_zero : (inodes : Inodes) (context : Context) (dir : ℕ) (listing : Listing) → IsListed inodes context dir listing → listed_behind 0 (all_listed dir listing) ≡ all_listed dir listing
all_from_zero inodes context dir listing h = all_behind 0 1 (all_listed dir listing) (h.ordinal + 3) (omega arith) (all_rises inodes context dir listing h)

pub follow_each_other : PagesFollowEachOther
follow_each_other inodes context dir listing counts h = pages_then inodes context dir listing 0 counts h ∙ all_from_zero inodes context dir listing h

rising_part : (least : ℕ) (part rest : List Entry) (ordinal : ℕ) → IsRising least (part ++ rest) ordinal → IsRising least part ordinal
rising_part least [] rest ordinal rising = tt
rising_part least (entry ∷ part) rest ordinal rising = (rising.0, rising.1, rising_part (entry.cookie + 1) part rest ordinal rising.2)

pub cookies_rise : CookiesRise
cookies_rise inodes context dir listing counts h =
    let told : List Entry = pages_read inodes context dir 0 counts in
    let rest : List Entry = listed_behind (cookie_after 0 told) (all_listed dir listing) in
    rising_part 1 told rest (h.ordinal + 3) (subst (λ (es : List Entry). IsRising 1 es (h.ordinal + 3)) (sym (follow_each_other inodes context dir listing counts h)) (all_rises inodes context dir listing h))

-- The end ----------------------------------------------------------------------------------------------------------------

ends : (page rest left : List Entry) → page ++ rest ≡ left → (eqb (length page) (length left) ≡ true) ↔ (rest ≡ [])
ends page rest left parts =
    let counted : length page + length rest ≡ length left = sym (length-append page rest) ∙ ap length parts in (
      λ is. let same : length page ≡ length left = eqb-true (length page) (length left) is in nil_from_length rest (omega arith),
      λ none. let empty : length rest ≡ 0 = ap length none in eq-eqb (length page) (length left) (omega arith),
    )

pub end_told_at_end : EndIsToldAtTheEnd
end_told_at_end inodes context dir listing cookie count h =
    let parts = page_then (all_listed dir listing) 1 (h.ordinal + 3) cookie count (all_rises inodes context dir listing h) in
    subst (λ (reply : Reply). (end_told reply ≡ true) ↔ (listed_behind (cookie_after cookie (entries_told reply)) (all_listed dir listing) ≡ [])) (sym (page_told inodes context dir listing cookie count h)) (ends (page_of count (listed_behind cookie (all_listed dir listing))) _ (listed_behind cookie (all_listed dir listing)) parts)

one_more : (inodes : Inodes) (context : Context) (dir cookie : ℕ) (counts : List ℕ) (count : ℕ)
    → pages_read inodes context dir cookie (counts ++ count ∷ []) ≡ pages_read inodes context dir cookie counts ++ entries_told (page_read inodes context dir (cookie_after cookie (pages_read inodes context dir cookie counts)) count)
one_more inodes context dir cookie [] count = append-nil (entries_told (page_read inodes context dir cookie count))
one_more inodes context dir cookie (first ∷ counts) count =
    let page : List Entry = entries_told (page_read inodes context dir cookie first) in
    let pages : List Entry = pages_read inodes context dir (cookie_after cookie page) counts in
    ap (λ es. page ++ es) (one_more inodes context dir (cookie_after cookie page) counts count)
    ∙ sym (append_assoc page pages (entries_told (page_read inodes context dir (cookie_after (cookie_after cookie page) pages) count)))
    ∙ ap (λ c. (page ++ pages) ++ entries_told (page_read inodes context dir c count)) (sym (cookie_after_both cookie page pages))

-- a first part is all just where nothing is left
whole_if : (part rest whole : List Entry) → part ++ rest ≡ whole → (rest ≡ []) ↔ (part ≡ whole)
whole_if part rest whole parts = (
  λ none. sym (append-nil part) ∙ ap (λ es. part ++ es) (sym none) ∙ parts,
  λ same. let counted : length part + length rest ≡ length whole = sym (length-append part rest) ∙ ap length parts in let long : length part ≡ length whole = ap length same in nil_from_length rest (omega arith),
)

pub all_read_at_end : AllIsReadAtTheEnd
all_read_at_end inodes context dir listing counts count h =
    let before : List Entry = pages_read inodes context dir 0 counts in
    let cookie : ℕ = cookie_after 0 before in
    let page : List Entry = entries_told (page_read inodes context dir cookie count) in
    let rest : List Entry = listed_behind (cookie_after cookie page) (all_listed dir listing) in
    let parts : (before ++ page) ++ rest ≡ all_listed dir listing = append_assoc before page rest ∙ ap (λ es. before ++ es) (one_then inodes context dir listing cookie count h) ∙ follow_each_other inodes context dir listing counts h in
    let at_end = end_told_at_end inodes context dir listing cookie count h in
    let whole = whole_if (before ++ page) rest (all_listed dir listing) parts in
    let pages : pages_read inodes context dir 0 (counts ++ count ∷ []) ≡ before ++ page = one_more inodes context dir 0 counts count in
    (λ told. pages ∙ whole.0 (at_end.0 told), λ same. at_end.1 (whole.1 (sym pages ∙ same)))

-- Room -------------------------------------------------------------------------------------------------------------------

-- a page with room for the first of some entries begins with it
begins : (count : ℕ) (next : Entry) (others : List Entry) → HasRoom count next → page_of count (next ∷ others) ≡ next ∷ held_by (min count most_data_bytes - 12 - listed_size next) others
begins count next others room = rw (le-leb (listed_size next) (min count most_data_bytes - 12) (omega arith)) refl

pub not_empty_with_room : PageWithRoomIsNotEmpty
not_empty_with_room inodes context dir listing cookie count next others h left room =
    rw (page_told inodes context dir listing cookie count h, left, begins count next others room) (λ none. cc)

-- a page with room leaves fewer
leaves_fewer : (count : ℕ) (left rest : List Entry) (n : ℕ) → All (HasRoom count) left → page_of count left ++ rest ≡ left → length left ≤ suc n → length rest ≤ n
leaves_fewer count [] rest n room parts most = rw parts (omega arith)
leaves_fewer count (next ∷ others) rest n room parts most =
    let held : List Entry = held_by (min count most_data_bytes - 12 - listed_size next) others in
    let counted = ap length (rw (begins count next others (All-head (HasRoom count) next others room)) at parts) in
    omega (arith, length-append held rest)

enough : (inodes : Inodes) (context : Context) (dir : ℕ) (listing : Listing) (cookie : ℕ) (counts : List ℕ) → IsListed inodes context dir listing
    → length (listed_behind cookie (all_listed dir listing)) ≤ length counts → All (λ count. All (HasRoom count) (all_listed dir listing)) counts
    → pages_read inodes context dir cookie counts ≡ listed_behind cookie (all_listed dir listing)
enough inodes context dir listing cookie [] h most room = sym (nil_from_length (listed_behind cookie (all_listed dir listing)) (omega (arith, most)))
enough inodes context dir listing cookie (count ∷ counts) h most room =
    let page : List Entry = entries_told (page_read inodes context dir cookie count) in
    let left : List Entry = listed_behind cookie (all_listed dir listing) in
    let rest : List Entry = listed_behind (cookie_after cookie page) (all_listed dir listing) in
    let parts : page ++ rest ≡ left = one_then inodes context dir listing cookie count h in
    let page_is : page ≡ page_of count left = ap entries_told (page_told inodes context dir listing cookie count h) in
    let fits : All (HasRoom count) left = All-filter (λ entry. ltb cookie entry.cookie) (HasRoom count) (all_listed dir listing) (All-head (λ c. All (HasRoom c) (all_listed dir listing)) count counts room) in
    let fewer : length rest ≤ length counts = leaves_fewer count left rest (length counts) fits (rw (← page_is) parts) most in
    ap (λ es. page ++ es) (enough inodes context dir listing (cookie_after cookie page) counts h fewer (All-tail (λ c. All (HasRoom c) (all_listed dir listing)) count counts room)) ∙ parts

pub enough_are_all : EnoughPagesAreAll
enough_are_all inodes context dir listing counts h most room =
    let whole = all_from_zero inodes context dir listing h in
    enough inodes context dir listing 0 counts h (subst (λ (es : List Entry). length es ≤ length counts) (sym whole) (omega arith)) room ∙ whole
