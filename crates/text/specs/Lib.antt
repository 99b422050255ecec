-- The definitions that contracts on text cite, and their laws.
pub mod Text
pub mod TextLaws
