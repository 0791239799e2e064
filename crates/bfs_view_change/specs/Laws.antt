-- The statements that are proved of the definitions: contracts of functions of src/laws.rt, which do nothing.
pub mod Sets
pub mod Choices
pub mod Made
