-- An inode that is built of its record, part by part.
use Rattle.std.proofs.Common.{◌≡◌, ℕ, ◌<◌, ◌≤◌, cond, ltb, List, [], ◌∷◌, Some, None, sym, ap, subst, ◌∙◌, arith}
use Rattle.bfs_model.specs.Server.Limits.{most_entries, most_links}
use Rattle.bfs_model.specs.Server.Tree.{Entry, Listing, Body, directory, Inode, first_ordinal}
use Rattle.bfs_model.specs.Server.WellFormed.{BodyIsLimited, IsLimited, HasNames, NamesDiffer}
use Rattle.bfs_inode.specs.Directories.{AreEntries}
use Rattle.bfs_model.specs.Bytes.Formats.{word_from}
use Rattle.bfs_digest.specs.Text.{latest_version}
use Rattle.bfs_digest.specs.Inside.RecordReading.{Head, entries_from, listing_from, directory_from, body_from, head_from, with_body, record_from}
use Rattle.bfs_digest.specs.Inside.Taking.{BodyMayBe}
use Rattle.bfs_model.proofs.Public.{some_is, chosen}
use Rattle.bfs_digest.proofs.Tests.{refused_not}

-- Records ---------------------------------------------------------------------------------------------------------------

pub record InodeRead (head : Head) (next : List ℕ) (inode : ℕ × Inode) (rest : List ℕ) : Type 0 where
  pub body : Body
  pub read : body_from latest_version head.kind next ≡ Some (body, rest)
  pub is : (head.fileid, with_body head body) ≡ inode

pub inode_read : (bytes next : List ℕ) (head : Head) (inode : ℕ × Inode) (rest : List ℕ) → head_from bytes ≡ Some (head, next) → record_from latest_version bytes ≡ Some (inode, rest) → InodeRead head next inode rest
unfolding record_from
inode_read bytes next head inode rest begun e =
    chosen (head_from bytes) _ (inode, rest) e (λ first read e1.
    let same = some_is first (head, next) (sym read ∙ begun) in
    chosen (body_from latest_version first.0.kind first.1) _ (inode, rest) e1 (λ body inner e2.
    let pair = some_is ((first.0.fileid, with_body first.0 body.0), body.1) (inode, rest) e2 in
    subst (λ (p : Head × List ℕ). InodeRead p.0 p.1 inode rest) same (record {
      body = body.0;
      read = inner ∙ ap (λ r. Some (body.0, r)) (ap (λ p. p.1) pair);
      is = ap (λ p. p.0) pair;
    })))

pub inode_built : (bytes next new : List ℕ) (head : Head) (seen : Body) → head_from bytes ≡ Some (head, next) → ((y : Body) (r : List ℕ) → body_from latest_version head.kind next ≡ Some (y, r) → (seen ≡ y) × (new ≡ r))
    → (inode : ℕ × Inode) (rest : List ℕ) → record_from latest_version bytes ≡ Some (inode, rest) → ((head.fileid, with_body head seen) ≡ inode) × (new ≡ rest)
inode_built bytes next new head seen begun built inode rest read =
    let h = inode_read bytes next head inode rest begun read in
    let b = built h.body rest h.read in
    (ap (λ (body : Body). (head.fileid, with_body head body)) b.0 ∙ h.is, b.1)

pub inode_refused : (bytes next : List ℕ) (head : Head) → head_from bytes ≡ Some (head, next) → ((y : Body) (r : List ℕ) → body_from latest_version head.kind next ≡ Some (y, r) → BodyMayBe y → ⊥)
    → (inode : ℕ × Inode) (rest : List ℕ) → record_from latest_version bytes ≡ Some (inode, rest) → IsLimited inode.1 → ⊥
inode_refused bytes next head begun refused inode rest read limited =
    let h = inode_read bytes next head inode rest begun read in
    let held = subst (λ (x : ℕ × Inode). IsLimited x.1) (sym h.is) limited in
    refused h.body rest h.read (head.links, held.body)

pub many_links : (bytes next : List ℕ) (head : Head) → head_from bytes ≡ Some (head, next) → most_links < head.links
    → (inode : ℕ × Inode) (rest : List ℕ) → record_from latest_version bytes ≡ Some (inode, rest) → IsLimited inode.1 → ⊥
many_links bytes next head begun many inode rest read limited =
    let h = inode_read bytes next head inode rest begun read in
    let held = subst (λ (x : ℕ × Inode). IsLimited x.1) (sym h.is) limited in
    let few : head.links ≤ most_links = held.links in
    absurd (omega arith)

-- Directories -----------------------------------------------------------------------------------------------------------

abbrev pub listed : (parent : ℕ) → List Entry → Listing
listed parent entries = record { parent = parent; entries = entries }

pub record ListingRead (parent count : ℕ) (next : List ℕ) (listing : Listing) (rest : List ℕ) : Type 0 where
  pub entries : List Entry
  pub read : entries_from count first_ordinal next ≡ Some (entries, rest)
  pub is : listed parent entries ≡ listing

pub listing_read : (bytes second next : List ℕ) (parent count : ℕ) (listing : Listing) (rest : List ℕ) → word_from bytes ≡ Some (parent, second) → word_from second ≡ Some (count, next) → listing_from bytes ≡ Some (listing, rest) → ListingRead parent count next listing rest
unfolding listing_from
listing_read bytes second next parent count listing rest first counted e =
    chosen (word_from bytes) _ (listing, rest) e (λ p read e1.
    let same = some_is p (parent, second) (sym read ∙ first) in
    chosen (word_from p.1) _ (listing, rest) e1 (λ n read2 e2.
    let same2 = some_is n (count, next) (sym read2 ∙ ap (λ (q : ℕ × List ℕ). word_from q.1) same ∙ counted) in
    chosen (cond (ltb most_entries n.0) None (entries_from n.0 first_ordinal n.1)) _ (listing, rest) e2 (λ entries inner e3.
    let g = refused_not (ltb most_entries n.0) (entries_from n.0 first_ordinal n.1) entries inner in
    let whole = some_is (listed p.0 entries.0, entries.1) (listing, rest) e3 in
    record {
      entries = entries.0;
      read = ap (λ (q : ℕ × List ℕ). entries_from q.0 first_ordinal q.1) (sym same2) ∙ g.1 ∙ ap (λ r. Some (entries.0, r)) (ap (λ (q : Listing × List ℕ). q.1) whole);
      is = ap (λ (q : ℕ × List ℕ). listed q.0 entries.0) (sym same) ∙ ap (λ (q : Listing × List ℕ). q.0) whole;
    })))

-- the listing of a directory that was read
pub record ListingIn (bytes : List ℕ) (body : Body) (rest : List ℕ) : Type 0 where
  pub listing : Listing
  pub read : listing_from bytes ≡ Some (listing, rest)
  pub is : directory listing ≡ body

pub listing_in_directory : (bytes : List ℕ) (body : Body) (rest : List ℕ) → directory_from bytes ≡ Some (body, rest) → ListingIn bytes body rest
unfolding directory_from
listing_in_directory bytes body rest e =
    chosen (listing_from bytes) _ (body, rest) e (λ listing inner e0.
    let pair = some_is (directory listing.0, listing.1) (body, rest) e0 in
    record {
      listing = listing.0;
      read = inner ∙ ap (λ r. Some (listing.0, r)) (ap (λ (q : Body × List ℕ). q.1) pair);
      is = ap (λ (q : Body × List ℕ). q.0) pair;
    })

pub record DirectoryRead (parent count : ℕ) (next : List ℕ) (body : Body) (rest : List ℕ) : Type 0 where
  pub entries : List Entry
  pub read : entries_from count first_ordinal next ≡ Some (entries, rest)
  pub is : directory (listed parent entries) ≡ body

pub directory_read : (bytes second next : List ℕ) (parent count : ℕ) (body : Body) (rest : List ℕ) → word_from bytes ≡ Some (parent, second) → word_from second ≡ Some (count, next) → directory_from bytes ≡ Some (body, rest) → DirectoryRead parent count next body rest
directory_read bytes second next parent count body rest first counted e =
    let d = listing_in_directory bytes body rest e in
    let h = listing_read bytes second next parent count d.listing rest first counted d.read in
    record { entries = h.entries; read = h.read; is = ap directory h.is ∙ d.is }

pub differ_of : (entries : List Entry) → HasNames entries → NamesDiffer entries
differ_of [] h = tt
differ_of (entry ∷ entries) h = (h.2, differ_of entries h.3)

-- entries within the limits are a directory's
pub entries_may_be : (parent links : ℕ) (entries : List Entry) → BodyIsLimited links (directory (record { parent = parent; entries = entries })) → AreEntries entries
entries_may_be parent links entries limited = record { few = limited.0; rising = limited.1; differ = differ_of entries limited.2 }

pub directory_built : (bytes second next new : List ℕ) (parent count : ℕ) (entries : List Entry) → word_from bytes ≡ Some (parent, second) → word_from second ≡ Some (count, next)
    → ((y : List Entry) (r : List ℕ) → entries_from count first_ordinal next ≡ Some (y, r) → (entries ≡ y) × (new ≡ r))
    → (body : Body) (rest : List ℕ) → directory_from bytes ≡ Some (body, rest) → (directory (record { parent = parent; entries = entries }) ≡ body) × (new ≡ rest)
directory_built bytes second next new parent count entries first counted built body rest read =
    let h = directory_read bytes second next parent count body rest first counted read in
    let b = built h.entries rest h.read in
    (ap (λ (es : List Entry). directory (record { parent = parent; entries = es })) b.0 ∙ h.is, b.1)

pub directory_refused : (bytes second next new : List ℕ) (parent count : ℕ) (entries : List Entry) → word_from bytes ≡ Some (parent, second) → word_from second ≡ Some (count, next)
    → ((y : List Entry) (r : List ℕ) → entries_from count first_ordinal next ≡ Some (y, r) → (entries ≡ y) × (new ≡ r)) → (AreEntries entries → ⊥)
    → (body : Body) (rest : List ℕ) → directory_from bytes ≡ Some (body, rest) → BodyMayBe body → ⊥
directory_refused bytes second next new parent count entries first counted built refused body rest read may =
    let b = directory_built bytes second next new parent count entries first counted built body rest read in
    refused (entries_may_be parent may.0 entries (subst (BodyIsLimited may.0) (sym b.0) may.1))

-- where its entries can't be read there is none
pub directory_unread : (bytes second next : List ℕ) (parent count : ℕ) → word_from bytes ≡ Some (parent, second) → word_from second ≡ Some (count, next)
    → ((y : List Entry) (r : List ℕ) → entries_from count first_ordinal next ≡ Some (y, r) → Unit {0} → ⊥) → (body : Body) (rest : List ℕ) → directory_from bytes ≡ Some (body, rest) → BodyMayBe body → ⊥
directory_unread bytes second next parent count first counted refused body rest read may =
    let h = directory_read bytes second next parent count body rest first counted read in
    refused h.entries rest h.read tt
