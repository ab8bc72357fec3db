pub mod Layouts
pub mod Reports
