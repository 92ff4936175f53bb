pub mod Fields
pub mod Options
pub mod Walk
pub mod Records
pub mod ItemRecords
pub mod Items
