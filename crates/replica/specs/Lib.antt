-- What a replica's folder was given to keep (Folders), and its keys (Keys).
pub mod Folders
pub mod Keys
