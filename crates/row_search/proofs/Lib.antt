pub mod ColumnLaws
pub mod Walks
pub mod RowLaws
pub mod Windows
