-- Definitions of words in memory, which contracts here and above cite.
pub mod Memory
