-- The record of an inode: what is written is read again, and what is read was written so.
use Rattle.std.proofs.Common.{◌≡◌, ℕ, zero, suc, ◌+◌, ◌<◌, ◌≤◌, ◌^◌, Bool, true, false, cond, ◌||◌, eqb, ltb, List, [], ◌∷◌, ◌++◌, length, Some, None, refl, sym, ap, subst, ◌∙◌, append_assoc, arith}
use Rattle.std.specs.List.{AllByRecursion}
use Rattle.std.proofs.lemmas.Bool.{ltb-false, ltb-true, le-ltb, lt-ltb, eqb-true}
use Rattle.bfs_model.specs.Bytes.Items.{word, counted}
use Rattle.bfs_model.specs.Bytes.Call.{◌>>=◌}
use Rattle.bfs_model.specs.Server.Limits.{most_name_bytes, most_path_bytes, most_entries}
use Rattle.bfs_model.specs.Server.Stored.{IsWord, AreBytes, IsTime}
use Rattle.bfs_model.specs.Server.Tree.{Time, Entry, Listing, Body, file, directory, link, Inode, root_id, first_ordinal, spent_ordinal}
use Rattle.bfs_model.specs.Bytes.Attributes.{type_of}
use Rattle.bfs_model.specs.Bytes.Replies.{type_number}
use Rattle.bfs_model.specs.Server.WellFormed.{IsRising}
use Rattle.bfs_model.specs.Bytes.Formats.{Reading, bytes_from}
use Rattle.bfs_inode.specs.Records.{body_text, entries_text, entry_text, listing_text, record_text}
use Rattle.bfs_digest.specs.Text.{latest_version}
use Rattle.bfs_digest.specs.Records.{most_bytes_in, EntryIsRecordable, BodyIsRecordable, IsRecordable}
use Rattle.bfs_digest.specs.Inside.RecordReading.{Head, time_from, entry_from, entries_from, listing_from, file_from, directory_from, link_from, body_from, head_from, with_body, record_from}
use Rattle.bfs_model.proofs.Public.{some_is, IsExact, word_exact, AreFew, bytes_exact, go_on, went_on, chosen}
use Rattle.bfs_digest.proofs.Tests.{passed, refused_not, unrefused, or_parts}

-- Times ------------------------------------------------------------------------------------------------------------

abbrev pub time_text : Time → List ℕ
time_text t = word t.seconds ++ word t.useconds

time_again : (t : Time) (rest : List ℕ) → IsTime t → time_from (time_text t ++ rest) ≡ Some (t, rest)
unfolding time_from
time_again t rest h =
    let small : t.useconds < 1000000 = h.useconds in
    rw (append_assoc (word t.seconds) (word t.useconds) rest)
    (go_on word_exact _ t.seconds (word t.useconds ++ rest) h.seconds ∙ go_on word_exact _ t.useconds rest (omega arith) ∙ rw (lt-ltb t.useconds 1000000 small) refl)

time_written : (bytes : List ℕ) (t : Time) (rest : List ℕ) → AreBytes bytes → time_from bytes ≡ Some (t, rest) → (bytes ≡ time_text t ++ rest) × IsTime t × AreBytes rest
unfolding time_from
time_written bytes t rest fits e =
    went_on word_exact _ (t, rest) bytes fits e (λ seconds r1 e1 f1 b1 n1.
    went_on word_exact _ (t, rest) r1 b1 n1 (λ useconds r2 e2 f2 b2 n2.
    let g = passed (ltb useconds 1000000) (record { seconds = seconds; useconds = useconds }, r2) (t, rest) n2 in
    let read : Time = record { seconds = seconds; useconds = useconds } in
    let held : IsTime read = record { seconds = f1; useconds = ltb-true useconds 1000000 g.0 } in
    let whole : bytes ≡ (word seconds ++ word useconds) ++ r2 = e1 ∙ ap (λ r. word seconds ++ r) e2 ∙ sym (append_assoc (word seconds) (word useconds) r2) in
    subst (λ (p : Time × List ℕ). (bytes ≡ time_text p.0 ++ p.1) × IsTime p.0 × AreBytes p.1) g.1 (whole, held, b2)))

pub time_exact : IsExact time_text IsTime time_from
time_exact = record { again = time_again; written = time_written }

-- Entries ----------------------------------------------------------------------------------------------------------

name_exact : IsExact counted (AreFew most_name_bytes) (bytes_from most_name_bytes)
name_exact = bytes_exact most_name_bytes (omega arith)

entry_again : (entry : Entry) (rest : List ℕ) → EntryIsRecordable entry → entry_from (entry_text entry ++ rest) ≡ Some (entry, rest)
unfolding entry_from
entry_again entry rest h =
    simp append_assoc
    (go_on word_exact _ entry.cookie (counted entry.name ++ (word entry.child ++ rest)) h.storable.cookie
    ∙ go_on name_exact _ entry.name (word entry.child ++ rest) (h.storable.name, h.name)
    ∙ go_on word_exact _ entry.child rest h.storable.child)

entry_written : (bytes : List ℕ) (entry : Entry) (rest : List ℕ) → AreBytes bytes → entry_from bytes ≡ Some (entry, rest) → (bytes ≡ entry_text entry ++ rest) × EntryIsRecordable entry × AreBytes rest
unfolding entry_from
entry_written bytes entry rest fits e =
    went_on word_exact _ (entry, rest) bytes fits e (λ cookie r1 e1 f1 b1 n1.
    went_on name_exact _ (entry, rest) r1 b1 n1 (λ name r2 e2 f2 b2 n2.
    went_on word_exact _ (entry, rest) r2 b2 n2 (λ child r3 e3 f3 b3 n3.
    let read : Entry = record { cookie = cookie; name = name; child = child } in
    let held : EntryIsRecordable read = record { storable = record { cookie = f1; name = f2.0; child = f3 }; name = f2.1 } in
    let whole : bytes ≡ entry_text read ++ r3 = simp append_assoc (e1 ∙ ap (λ r. word cookie ++ r) (e2 ∙ ap (λ r. counted name ++ r) e3)) in
    subst (λ (p : Entry × List ℕ). (bytes ≡ entry_text p.0 ++ p.1) × EntryIsRecordable p.0 × AreBytes p.1) (some_is (read, r3) (entry, rest) n3) (whole, held, b3))))

pub entry_exact : IsExact entry_text EntryIsRecordable entry_from
entry_exact = record { again = entry_again; written = entry_written }

abbrev AreRecordable : (least : ℕ) → List Entry → Type 0
AreRecordable least entries = IsRising least entries spent_ordinal × AllByRecursion EntryIsRecordable entries

entries_again : (least : ℕ) (entries : List Entry) (rest : List ℕ) → AreRecordable least entries → entries_from (length entries) least (entries_text entries ++ rest) ≡ Some (entries, rest)
unfolding entries_from
entries_again least [] rest h = refl
entries_again least (entry ∷ entries) rest h =
    rw (append_assoc (entry_text entry) (entries_text entries) rest)
    (go_on entry_exact _ entry (entries_text entries ++ rest) h.1.0
    ∙ rw (le-ltb entry.cookie least h.0.0, entries_again (entry.cookie + 1) entries rest (h.0.2, h.1.1)) refl)

abbrev EntriesWritten : (count least : ℕ) → List ℕ → List Entry → List ℕ → Type 0
EntriesWritten count least bytes entries rest = (bytes ≡ entries_text entries ++ rest) × (length entries ≡ count) × AreRecordable least entries × AreBytes rest

entries_written : (count least : ℕ) (bytes : List ℕ) (entries : List Entry) (rest : List ℕ) → AreBytes bytes → entries_from count least bytes ≡ Some (entries, rest) → EntriesWritten count least bytes entries rest
unfolding entries_from
entries_written zero least bytes entries rest fits e =
    subst (λ (p : List Entry × List ℕ). EntriesWritten zero least bytes p.0 p.1) (some_is ([], bytes) (entries, rest) e) (refl, refl, (tt, tt), fits)
entries_written (suc count) least bytes entries rest fits e =
    went_on entry_exact _ (entries, rest) bytes fits e (λ entry r1 e1 f1 b1 n1.
    chosen _ _ (entries, rest) n1 (λ more is n2.
    let g = refused_not (ltb entry.cookie least) (entries_from count (entry.cookie + 1) r1) more is in
    let h = entries_written count (entry.cookie + 1) r1 more.0 more.1 b1 g.1 in
    let whole : bytes ≡ (entry_text entry ++ entries_text more.0) ++ more.1 = e1 ∙ ap (λ r. entry_text entry ++ r) h.0 ∙ sym (append_assoc (entry_text entry) (entries_text more.0) more.1) in
    subst (λ (p : List Entry × List ℕ). EntriesWritten (suc count) least bytes p.0 p.1) (some_is (entry ∷ more.0, more.1) (entries, rest) n2)
    (whole, ap suc h.1, ((ltb-false entry.cookie least g.0, f1.storable.cookie, h.2.0), (f1, h.2.1)), h.3)))

-- Bodies -----------------------------------------------------------------------------------------------------------

abbrev ListingIsRecordable : Listing → Type 0
ListingIsRecordable listing = BodyIsRecordable latest_version (directory listing)

listing_again : (listing : Listing) (rest : List ℕ) → ListingIsRecordable listing → listing_from (listing_text listing ++ rest) ≡ Some (listing, rest)
unfolding listing_from
listing_again listing rest h =
    simp append_assoc
    (go_on word_exact _ listing.parent (word (length listing.entries) ++ (entries_text listing.entries ++ rest)) h.0
    ∙ go_on word_exact _ (length listing.entries) (entries_text listing.entries ++ rest) (omega (arith, h.1))
    ∙ rw (le-ltb most_entries (length listing.entries) h.1, entries_again first_ordinal listing.entries rest (h.2, h.3)) refl)

listing_written : (bytes : List ℕ) (listing : Listing) (rest : List ℕ) → AreBytes bytes → listing_from bytes ≡ Some (listing, rest) → (bytes ≡ listing_text listing ++ rest) × ListingIsRecordable listing × AreBytes rest
unfolding listing_from
listing_written bytes listing rest fits e =
    went_on word_exact _ (listing, rest) bytes fits e (λ parent r1 e1 f1 b1 n1.
    went_on word_exact _ (listing, rest) r1 b1 n1 (λ count r2 e2 f2 b2 n2.
    chosen _ _ (listing, rest) n2 (λ entries is n3.
    let g = refused_not (ltb most_entries count) (entries_from count first_ordinal r2) entries is in
    let h = entries_written count first_ordinal r2 entries.0 entries.1 b2 g.1 in
    let read : Listing = record { parent = parent; entries = entries.0 } in
    let few : length entries.0 ≤ most_entries = rw h.1 (ltb-false most_entries count g.0) in
    let whole : bytes ≡ listing_text read ++ entries.1 =
    rw h.1 (simp append_assoc (e1 ∙ ap (λ r. word parent ++ r) (e2 ∙ ap (λ r. word count ++ r) h.0))) in
    subst (λ (p : Listing × List ℕ). (bytes ≡ listing_text p.0 ++ p.1) × ListingIsRecordable p.0 × AreBytes p.1) (some_is (read, entries.1) (listing, rest) n3) (whole, (f1, few, h.2.0, h.2.1), h.3))))

listing_exact : IsExact listing_text ListingIsRecordable listing_from
listing_exact = record { again = listing_again; written = listing_written }

most_by : (first : Bool) → cond first 1048576 16777216 < 2 ^ 32
most_by true = omega arith
most_by false = omega arith

data_exact : (version : ℕ) → IsExact counted (AreFew (most_bytes_in version)) (bytes_from (most_bytes_in version))
data_exact version = bytes_exact (most_bytes_in version) (most_by (eqb version 1))

path_exact : IsExact counted (AreFew most_path_bytes) (bytes_from most_path_bytes)
path_exact = bytes_exact most_path_bytes (omega arith)

body_again : (version : ℕ) (body : Body) (rest : List ℕ) → BodyIsRecordable version body → body_from version (type_number (type_of body)) (body_text body ++ rest) ≡ Some (body, rest)
unfolding body_from file_from directory_from link_from
body_again version (file bytes) rest h = go_on (data_exact version) _ bytes rest h
body_again version (directory listing) rest h = go_on listing_exact _ listing rest h
body_again version (link path) rest h = go_on path_exact _ path rest h

abbrev BodyWritten : (version kind : ℕ) → List ℕ → Body → List ℕ → Type 0
BodyWritten version kind bytes body rest = (kind ≡ type_number (type_of body)) × (bytes ≡ body_text body ++ rest) × BodyIsRecordable version body × AreBytes rest

file_written : (version : ℕ) (bytes : List ℕ) (body : Body) (rest : List ℕ) → AreBytes bytes → file_from version bytes ≡ Some (body, rest) → BodyWritten version 1 bytes body rest
unfolding file_from
file_written version bytes body rest fits e =
    went_on (data_exact version) _ (body, rest) bytes fits e (λ item r1 e1 f1 b1 n1.
    subst (λ (p : Body × List ℕ). BodyWritten version 1 bytes p.0 p.1) (some_is (file item, r1) (body, rest) n1) (refl, e1, f1, b1))

directory_written : (version : ℕ) (bytes : List ℕ) (body : Body) (rest : List ℕ) → AreBytes bytes → directory_from bytes ≡ Some (body, rest) → BodyWritten version 2 bytes body rest
unfolding directory_from
directory_written version bytes body rest fits e =
    went_on listing_exact _ (body, rest) bytes fits e (λ listing r1 e1 f1 b1 n1.
    subst (λ (p : Body × List ℕ). BodyWritten version 2 bytes p.0 p.1) (some_is (directory listing, r1) (body, rest) n1) (refl, e1, f1, b1))

link_written : (version : ℕ) (bytes : List ℕ) (body : Body) (rest : List ℕ) → AreBytes bytes → link_from bytes ≡ Some (body, rest) → BodyWritten version 5 bytes body rest
unfolding link_from
link_written version bytes body rest fits e =
    went_on path_exact _ (body, rest) bytes fits e (λ item r1 e1 f1 b1 n1.
    subst (λ (p : Body × List ℕ). BodyWritten version 5 bytes p.0 p.1) (some_is (link item, r1) (body, rest) n1) (refl, e1, f1, b1))

body_written : (version kind : ℕ) (bytes : List ℕ) (body : Body) (rest : List ℕ) → AreBytes bytes → body_from version kind bytes ≡ Some (body, rest) → BodyWritten version kind bytes body rest
unfolding body_from
body_written version kind bytes body rest fits e = go (eqb kind 1) (eqb kind 2) (eqb kind 5) refl refl refl e
  where
    at : (n : ℕ) → eqb kind n ≡ true → BodyWritten version n bytes body rest → BodyWritten version kind bytes body rest
    at n is h = rw (eqb-true kind n is) h

    go : (one two five : Bool) → eqb kind 1 ≡ one → eqb kind 2 ≡ two → eqb kind 5 ≡ five
        → cond one (file_from version bytes) (cond two (directory_from bytes) (cond five (link_from bytes) None)) ≡ Some (body, rest) → BodyWritten version kind bytes body rest
    go true two five a b c is = at 1 a (file_written version bytes body rest fits is)
    go false true five a b c is = at 2 b (directory_written version bytes body rest fits is)
    go false false true a b c is = at 5 c (link_written version bytes body rest fits is)
    go false false false a b c is = absurd cc

-- Heads ------------------------------------------------------------------------------------------------------------

record HeadIsRecordable (head : Head) : Type 0 where
  fileid : (root_id ≤ head.fileid) × IsWord head.fileid
  kind : IsWord head.kind
  permissions : head.permissions ≤ 4095
  links : IsWord head.links
  uid : IsWord head.uid
  gid : IsWord head.gid
  atime : IsTime head.atime
  mtime : IsTime head.mtime
  ctime : IsTime head.ctime

abbrev head_text : Head → List ℕ
head_text head =
    word head.fileid ++ (word head.kind ++ (word head.permissions ++ (word head.links ++ (word head.uid ++ (word head.gid ++ (time_text head.atime ++ (time_text head.mtime ++ time_text head.ctime)))))))

head_again : (head : Head) (rest : List ℕ) → HeadIsRecordable head → head_from (head_text head ++ rest) ≡ Some (head, rest)
unfolding head_from
head_again head rest h =
    let inside : (ltb head.fileid root_id || ltb 4095 head.permissions) ≡ false = rw (le-ltb head.fileid root_id h.fileid.0, le-ltb 4095 head.permissions h.permissions) refl in
    let few : head.permissions ≤ 4095 = h.permissions in
    let ctime = time_text head.ctime ++ rest in
    let mtime = time_text head.mtime ++ ctime in
    let atime = time_text head.atime ++ mtime in
    let gid = word head.gid ++ atime in
    let uid = word head.uid ++ gid in
    let links = word head.links ++ uid in
    let permissions = word head.permissions ++ links in
    let kind = word head.kind ++ permissions in
    let spelled : head_text head ++ rest ≡ word head.fileid ++ kind = simp append_assoc in
    ap head_from spelled
    ∙ go_on word_exact _ head.fileid kind h.fileid.1
    ∙ go_on word_exact _ head.kind permissions h.kind
    ∙ go_on word_exact _ head.permissions links (omega arith)
    ∙ go_on word_exact _ head.links uid h.links
    ∙ go_on word_exact _ head.uid gid h.uid
    ∙ go_on word_exact _ head.gid atime h.gid
    ∙ go_on time_exact _ head.atime mtime h.atime
    ∙ go_on time_exact _ head.mtime ctime h.mtime
    ∙ go_on time_exact _ head.ctime rest h.ctime
    ∙ unrefused _ _ inside

head_written : (bytes : List ℕ) (head : Head) (rest : List ℕ) → AreBytes bytes → head_from bytes ≡ Some (head, rest) → (bytes ≡ head_text head ++ rest) × HeadIsRecordable head × AreBytes rest
unfolding head_from
head_written bytes head rest fits e =
    let y : Head × List ℕ = (head, rest) in
    went_on word_exact _ y bytes fits e (λ i r1 e1 f1 b1 n1.
    went_on word_exact _ y r1 b1 n1 (λ kind r2 e2 f2 b2 n2.
    went_on word_exact _ y r2 b2 n2 (λ permissions r3 e3 f3 b3 n3.
    went_on word_exact _ y r3 b3 n3 (λ links r4 e4 f4 b4 n4.
    went_on word_exact _ y r4 b4 n4 (λ uid r5 e5 f5 b5 n5.
    went_on word_exact _ y r5 b5 n5 (λ gid r6 e6 f6 b6 n6.
    went_on time_exact _ y r6 b6 n6 (λ atime r7 e7 f7 b7 n7.
    went_on time_exact _ y r7 b7 n7 (λ mtime r8 e8 f8 b8 n8.
    went_on time_exact _ y r8 b8 n8 (λ ctime r9 e9 f9 b9 n9.
    let read : Head = record { fileid = i; kind = kind; permissions = permissions; links = links; uid = uid; gid = gid; atime = atime; mtime = mtime; ctime = ctime } in
    let g = refused_not (ltb i root_id || ltb 4095 permissions) (Some (read, r9)) y n9 in
    let tests = or_parts (ltb i root_id) (ltb 4095 permissions) g.0 in
    let whole : bytes ≡ head_text read ++ r9 =
    (e1 ∙ ap (λ r. word i ++ r) (e2 ∙ ap (λ r. word kind ++ r) (e3 ∙ ap (λ r. word permissions ++ r) (e4 ∙ ap (λ r. word links ++ r) (e5 ∙ ap (λ r. word uid ++ r)
    (e6 ∙ ap (λ r. word gid ++ r) (e7 ∙ ap (λ r. time_text atime ++ r) (e8 ∙ ap (λ r. time_text mtime ++ r) e9)))))))) ∙ simp append_assoc in
    let held : HeadIsRecordable read = record {
      fileid = (ltb-false i root_id tests.0, f1);
      kind = f2;
      permissions = ltb-false 4095 permissions tests.1;
      links = f4;
      uid = f5;
      gid = f6;
      atime = f7;
      mtime = f8;
      ctime = f9;
    } in
    subst (λ (p : Head × List ℕ). (bytes ≡ head_text p.0 ++ p.1) × HeadIsRecordable p.0 × AreBytes p.1) (some_is (read, r9) y g.1) (whole, held, b9))))))))))

head_exact : IsExact head_text HeadIsRecordable head_from
head_exact = record { again = head_again; written = head_written }

-- Records ----------------------------------------------------------------------------------------------------------

type_is_word : (body : Body) → IsWord (type_number (type_of body))
type_is_word (file bytes) = omega arith
type_is_word (directory listing) = omega arith
type_is_word (link path) = omega arith

abbrev head_of : (id : ℕ) → Inode → Head
head_of id inode = record { fileid = id; kind = type_number (type_of inode.body); permissions = inode.permissions; links = inode.links; uid = inode.uid; gid = inode.gid; atime = inode.atime; mtime = inode.mtime; ctime = inode.ctime }

record_spelled : (id : ℕ) (inode : Inode) (rest : List ℕ) → record_text id inode ++ rest ≡ head_text (head_of id inode) ++ (body_text inode.body ++ rest)
unfolding record_text
record_spelled id inode rest = simp append_assoc

record_again : (version id : ℕ) (inode : Inode) (rest : List ℕ) → IsRecordable version id inode → record_from version (record_text id inode ++ rest) ≡ Some ((id, inode), rest)
unfolding record_from
record_again version id inode rest h =
    let head : HeadIsRecordable (head_of id inode) = record {
      fileid = h.fileid;
      kind = type_is_word inode.body;
      permissions = h.permissions;
      links = h.links;
      uid = h.uid;
      gid = h.gid;
      atime = h.atime;
      mtime = h.mtime;
      ctime = h.ctime;
    } in
    ap (record_from version) (record_spelled id inode rest)
    ∙ go_on head_exact _ (head_of id inode) (body_text inode.body ++ rest) head
    ∙ ap (λ (o : Reading Body). o >>= (λ (body : Body × List ℕ). Some ((id, with_body (head_of id inode) body.0), body.1))) (body_again version inode.body rest h.body)

record_written : (version : ℕ) (bytes : List ℕ) (id : ℕ) (inode : Inode) (rest : List ℕ) → AreBytes bytes → record_from version bytes ≡ Some ((id, inode), rest) → (bytes ≡ record_text id inode ++ rest) × IsRecordable version id inode × AreBytes rest
unfolding record_from
record_written version bytes id inode rest fits e =
    let y : (ℕ × Inode) × List ℕ = ((id, inode), rest) in
    went_on head_exact _ y bytes fits e (λ head r1 e1 f1 b1 n1.
    chosen (body_from version head.kind r1) _ y n1 (λ body is n2.
    let h = body_written version head.kind r1 body.0 body.1 b1 is in
    let read : Inode = with_body head body.0 in
    let same : head ≡ head_of head.fileid read = ap (λ (k : ℕ). record head { kind = k }) h.0 in
    let whole : bytes ≡ record_text head.fileid read ++ body.1 = e1 ∙ ap (λ r. head_text head ++ r) h.1 ∙ ap (λ (x : Head). head_text x ++ (body_text body.0 ++ body.1)) same ∙ sym (record_spelled head.fileid read body.1) in
    let held : IsRecordable version head.fileid read = record {
      fileid = f1.fileid;
      permissions = f1.permissions;
      links = f1.links;
      uid = f1.uid;
      gid = f1.gid;
      atime = f1.atime;
      mtime = f1.mtime;
      ctime = f1.ctime;
      body = h.2;
    } in
    subst (λ (p : (ℕ × Inode) × List ℕ). (bytes ≡ record_text p.0.0 p.0.1 ++ p.1) × IsRecordable version p.0.0 p.0.1 × AreBytes p.1) (some_is ((head.fileid, read), body.1) y n2) (whole, held, h.3)))

abbrev pub record_of : ℕ × Inode → List ℕ
record_of inode = record_text inode.0 inode.1

abbrev pub Recordable : (version : ℕ) → ℕ × Inode → Type 0
Recordable version inode = IsRecordable version inode.0 inode.1

pub record_exact : (version : ℕ) → IsExact record_of (Recordable version) (record_from version)
record_exact version = record { again = λ inode rest h. record_again version inode.0 inode.1 rest h; written = λ bytes inode rest fits e. record_written version bytes inode.0 inode.1 rest fits e }

-- What an older version spells, the latest spells too ----------------------------------------------------------------

few_by : (first : Bool) (n : ℕ) → n ≤ cond first 1048576 16777216 → n ≤ 16777216
few_by true n le = omega arith
few_by false n le = le

later_body : (version : ℕ) (body : Body) → BodyIsRecordable version body → BodyIsRecordable latest_version body
later_body version (file bytes) h = (h.0, few_by (eqb version 1) (length bytes) h.1)
later_body version (directory listing) h = h
later_body version (link path) h = h

pub later_recordable : (version id : ℕ) (inode : Inode) → IsRecordable version id inode → IsRecordable latest_version id inode
later_recordable version id inode h = record {
  fileid = h.fileid;
  permissions = h.permissions;
  links = h.links;
  uid = h.uid;
  gid = h.gid;
  atime = h.atime;
  mtime = h.mtime;
  ctime = h.ctime;
  body = later_body version inode.body h.body;
}
