pub mod HowMarked
