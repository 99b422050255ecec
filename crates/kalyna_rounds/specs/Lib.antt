-- The definitions that the contracts of kalyna_rounds cite, and its laws.
pub mod RoundsByTables
pub mod RoundsByTablesLaws
