-- The proofs of the laws of kalyna_cipher.
pub mod Inverses
pub mod Blocks
pub mod Parts
pub mod Keys
pub mod KalynaLaws
pub mod WorkedBlock
