-- What the contracts of lms cite: typecodes (Types), digits (Digits), chains and one-time signatures (Chains, OneTime), trees (Trees), public keys and
-- signatures as bytes (Bytes, Keys), which signatures pass (Verifying), also of several levels (Levels, UpperLevels), private keys and what they sign (Secrets), also of
-- several levels (Signers), nodes that a signer keeps (Nodes), and laws (Laws).
pub mod Types
pub mod Digits
pub mod Chains
pub mod Bytes
pub mod OneTime
pub mod Trees
pub mod Keys
pub mod Verifying
pub mod Levels
pub mod UpperLevels
pub mod Secrets
pub mod Nodes
pub mod Signers
pub mod Laws
