pub mod HowPhases
