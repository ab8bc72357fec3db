pub mod Sources
pub mod HowSources
