-- The attributes of the code as those of the model.
use Rattle.std.specs.Prelude.{◌≡◌, refl}
use Rattle.std.proofs.Common.{ap}
use Rattle.bfs_model.specs.Bytes.Attributes as model
use Rattle.bfs_types.specs.declared.attributes.FileType.{FileType}
use Rattle.bfs_types.specs.declared.attributes.FileType.TheVariants.{Regular, Directory, SymbolicLink}
use Rattle.bfs_types.specs.declared.attributes.Attributes.TheInside.{Inside}

abbrev pub file_type_seen : FileType → model.FileType
file_type_seen Regular = model.regular
file_type_seen Directory = model.directory_type
file_type_seen SymbolicLink = model.symbolic_link

abbrev pub declared_file_type : model.FileType → FileType
declared_file_type model.regular = Regular
declared_file_type model.directory_type = Directory
declared_file_type model.symbolic_link = SymbolicLink

declared_file_type-file_type_seen : (t : FileType) → declared_file_type (file_type_seen t) ≡ t
declared_file_type-file_type_seen Regular = refl
declared_file_type-file_type_seen Directory = refl
declared_file_type-file_type_seen SymbolicLink = refl

abbrev pub seen : Inside → model.Attributes
seen a = record { file_type = file_type_seen a.file_type; permissions = a.permissions; links = a.links; uid = a.uid; gid = a.gid; size = a.size; fileid = a.fileid; atime = a.atime; mtime = a.mtime; ctime = a.ctime }

abbrev pub unseen : model.Attributes → Inside
unseen a = record { file_type = declared_file_type a.file_type; permissions = a.permissions; links = a.links; uid = a.uid; gid = a.gid; size = a.size; fileid = a.fileid; atime = a.atime; mtime = a.mtime; ctime = a.ctime }

pub unseen-seen : (a : Inside) → unseen (seen a) ≡ a
unseen-seen a = ap (λ t. record a { file_type = t }) (declared_file_type-file_type_seen a.file_type)
