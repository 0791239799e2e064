-- The run of a trace: which acts it is, what it prints, and the law that its clients see one server.
pub mod Acts
pub mod Laws
