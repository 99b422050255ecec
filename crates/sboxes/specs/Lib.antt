-- The definitions that the contracts of sboxes cite, and its laws.
pub mod PiTables
pub mod Sboxes
pub mod SboxLaws
