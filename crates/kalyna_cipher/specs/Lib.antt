-- The block cipher of DSTU 7624:2014 with block and key of 256 bits: its definitions in the order of data/dstu7624-256.md, its laws, and an example.
pub mod Blocks
pub mod Rounds
pub mod Enciphering
pub mod RoundKeys
pub mod Kalyna
pub mod Inverses
pub mod KalynaLaws
pub mod WorkedBlock
