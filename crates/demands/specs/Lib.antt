pub mod Worked
pub mod Table
pub mod Foundries
pub mod EditCases
pub mod SheetCases
pub mod Recoded
