-- The proofs of applying's laws.
pub mod Portions
pub mod AnyStepLaws
pub mod AcceptedPortions
pub mod Ciphers
pub mod ApplyingLaws
