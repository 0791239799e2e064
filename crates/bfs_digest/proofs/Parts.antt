-- A file system by its header and its inodes.
use Rattle.std.proofs.Common.{◌≡◌, ℕ, List, [], ◌∷◌, ◌++◌, Option, Some, None, refl, sym, ap, ◌∙◌}
use Rattle.sha2.specs.Sha256.{sha256}
use Rattle.std.specs.Option.{option_map}
use Rattle.std.specs.FinMap.{entries}
use Rattle.bfs_model.specs.Server.Tree.{Inode, Inodes, FileSystem}
use Rattle.bfs_inode.specs.Records.{Frozen, record_text}
use Rattle.bfs_digest.specs.Text.{Header, header_of, header_text, latest_version, records_text, snapshot_text, text_in}
use Rattle.bfs_digest.specs.Digests.{digest_of, digest_text, digest_with, digests_text}
use Rattle.bfs_digest.specs.Frozen.{FrozenFiles, digests_of, frozen_files, frozen_inodes, frozen_with, texts_of}

-- what is made of both is made of the file system
made_of : {A : Type 0} (make : Header → Inodes → A) (files : Option FileSystem) (header : Header) (inodes : Inodes) → Some header ≡ option_map header_of files → Some inodes ≡ option_map (λ f. f.tree) files
    → option_map (λ f. make (header_of f) f.tree) files ≡ Some (make header inodes)
made_of make None header inodes e f = absurd cc
made_of make (Some live) header inodes e f = let same : header ≡ header_of live = cc in let tree : inodes ≡ live.tree = cc in rw (same, tree) refl

pub text_is : (files : Option FileSystem) (header : Header) (inodes : Inodes) → Some header ≡ option_map header_of files → Some inodes ≡ option_map (λ f. f.tree) files
    → option_map snapshot_text files ≡ Some (header_text latest_version header ++ records_text (entries inodes))
unfolding text_in
text_is files header inodes e f = made_of (λ h m. header_text latest_version h ++ records_text (entries m)) files header inodes e f

pub digest_is : (files : Option FileSystem) (header : Header) (inodes : Inodes) → Some header ≡ option_map header_of files → Some inodes ≡ option_map (λ f. f.tree) files
    → option_map digest_of files ≡ Some (digest_with header inodes)
unfolding digest_of
digest_is files header inodes e f = made_of digest_with files header inodes e f

-- and what is appended to is followed by it
pub appended_is : (front : List ℕ) (files : Option FileSystem) (header : Header) (inodes : Inodes) (bytes : List ℕ) → Some header ≡ option_map header_of files → Some inodes ≡ option_map (λ f. f.tree) files
    → bytes ≡ front ++ (header_text latest_version header ++ records_text (entries inodes)) → option_map (λ f. front ++ snapshot_text f) files ≡ Some bytes
appended_is front None header inodes bytes e f is = absurd cc
appended_is front (Some live) header inodes bytes e f is = let text = text_is (Some live) header inodes e f in cc

pub behind_nothing : (files : Option FileSystem) → option_map (λ f. [] ++ snapshot_text f) files ≡ option_map snapshot_text files
behind_nothing None = refl
behind_nothing (Some live) = refl

-- Frozen --------------------------------------------------------------------------------------------------------------

texts : (inodes : List (ℕ × Inode)) → records_text inodes ≡ texts_of (frozen_inodes inodes)
texts [] = refl
texts (inode ∷ inodes) = ap (λ rest. record_text inode.0 inode.1 ++ rest) (texts inodes)

digests : (inodes : List (ℕ × Inode)) → digests_text inodes ≡ digests_of (frozen_inodes inodes)
digests [] = refl
digests (inode ∷ inodes) = ap (λ rest. digest_text inode ++ rest) (digests inodes)

both_are : (text other digest own : List ℕ) → text ≡ other → digest ≡ own → ◌≡◌ {A = FrozenFiles} (record { text = text; digest = digest }) (record { text = other; digest = own })
both_are text other digest own e h = rw (e, h)

frozen_whole : (files : FileSystem) → frozen_files files ≡ frozen_with (header_of files) (frozen_inodes (entries files.tree))
unfolding text_in digest_of
frozen_whole files =
    let front = header_text latest_version (header_of files) in
    let inodes = entries files.tree in
    both_are (front ++ records_text inodes) (front ++ texts_of (frozen_inodes inodes)) (sha256 (front ++ digests_text inodes)) (sha256 (front ++ digests_of (frozen_inodes inodes)))
    (ap (λ rest. front ++ rest) (texts inodes)) (ap (λ rest. sha256 (front ++ rest)) (digests inodes))

pub frozen_is : (files : Option FileSystem) (header : Header) (inodes : Inodes) (frozen : List Frozen) → Some header ≡ option_map header_of files → Some inodes ≡ option_map (λ f. f.tree) files
    → frozen ≡ frozen_inodes (entries inodes) → option_map frozen_files files ≡ Some (frozen_with header frozen)
frozen_is None header inodes frozen e f is = absurd cc
frozen_is (Some live) header inodes frozen e f is =
    let same : header ≡ header_of live = cc in
    let tree : inodes ≡ live.tree = cc in
    ap Some (frozen_whole live ∙ sym (ap (λ h. frozen_with h frozen) same ∙ ap (λ fs. frozen_with (header_of live) fs) (is ∙ ap (λ m. frozen_inodes (entries m)) tree)))
