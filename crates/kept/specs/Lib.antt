pub mod Agreeing
pub mod Demands
pub mod Fresh
pub mod Orders
pub mod Premises
pub mod Quiet
pub mod Rules
pub mod Runs
