-- How large things may be: the limits of this file system's profile, and those that RFC 1094 section 2.3 sets. Each has a constant of the
-- same name in `bfs_types`.
use Rattle.std.specs.Prelude.{ℕ}

-- the bytes of a file
abbrev pub most_file_bytes : ℕ
most_file_bytes = 16777216

-- the bytes that one READ or WRITE moves, and the bytes of a page of READDIR (RFC 1094 section 3.5, MAXDATA)
abbrev pub most_data_bytes : ℕ
most_data_bytes = 8192

-- the bytes of a name (RFC 1094 section 3.5, MAXNAMLEN)
abbrev pub most_name_bytes : ℕ
most_name_bytes = 255

-- the bytes of a symbolic link's path (RFC 1094 section 3.5, MAXPATHLEN)
abbrev pub most_path_bytes : ℕ
most_path_bytes = 1024

-- the entries of a directory, `.` and `..` not counted
abbrev pub most_entries : ℕ
most_entries = 65536

-- the links of an inode
abbrev pub most_links : ℕ
most_links = 32767

-- the bytes of a request
abbrev pub most_request_bytes : ℕ
most_request_bytes = 16384

-- the bytes of a reply
abbrev pub most_reply_bytes : ℕ
most_reply_bytes = 16384

-- the requests of a batch
abbrev pub most_requests : ℕ
most_requests = 1024

-- the replicas that may fail
abbrev pub most_faults : ℕ
most_faults = 10

-- the replicas: 3f + 1 of them do where at most f fail (OSDI 1999 section 3)
abbrev pub most_replicas : ℕ
most_replicas = 31

-- the clients
abbrev pub most_clients : ℕ
most_clients = 1024

-- the number of a view, and of a batch in the order: below 2 ^ 63
abbrev pub most_number : ℕ
most_number = 9223372036854775807

-- the numbers between the low and the high mark (OSDI 1999 section 4.3), and so the batches that are ordered at once
abbrev pub log_size : ℕ
log_size = 32

-- how many numbers apart checkpoints are (OSDI 1999 section 4.3)
abbrev pub checkpoint_interval : ℕ
checkpoint_interval = 16
