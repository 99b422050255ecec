-- The definitions that the contracts of loading, cells and recovering cite, their laws, and the worked table.
pub mod Loading
pub mod Recovery
pub mod LoadingLaws
pub mod WorkedTable
pub mod FirstWords
